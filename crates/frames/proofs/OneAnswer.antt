-- Equality of any two permitted answers: two answers that both meet a function's contract are equal, refused ones included; of `carried_bytes` what the two runs hold.
-- Assumes nothing.
use Rattle.std.specs.Prelude.{Option, Some, None, Result}
use mathlib.Core.Path.{◌≡◌, refl, sym, ap, ◌∙◌}
use mathlib.Core.Bool.{Bool, false≢true}
use mathlib.Core.List.{List}
use Prim.Native.Nat.{ℕ}
use Rattle.config.specs.declared.Setup.{Setup}
use Rattle.frames.specs.Kinds.{kind_number, KindIf, kind_of}
use Rattle.frames.specs.Messages.{carried_of, carried_bytes}
use Rattle.frames.specs.Numbered.{Parses, Checks}
use Rattle.frames.specs.Refusals.{number_of}
use Rattle.frames.specs.Looks.{status_number, looks_at}
use Rattle.frames.specs.declared.Kind.{Kind}
use Rattle.frames.specs.declared.Status.{Status}
use Rattle.frames.specs.declared.Message.{Message}
use Rattle.frames.specs.declared.Addressed.{Addressed}
use Rattle.frames.specs.declared.Refusal.{Refusal}
use Rattle.frames.proofs.KindLaws.{same-kind}

pub one_answer : {A : Type 0} {e a b : A} → a ≡ e → b ≡ e → a ≡ b
one_answer p q = p ∙ sym q

pub parse-one : (s : List ℕ) (a b : Result Addressed Refusal) → Parses s a → Parses s b → a ≡ b
parse-one s a b p q = one_answer p.exact q.exact

pub check-one : (u : Setup) (s : List ℕ) (a b : Result Message Refusal) → Checks u s a → Checks u s b → a ≡ b
check-one u s a b p q = one_answer p.exact q.exact

-- u8::from of a refusal, of a status, of a kind
pub refusal-number-one : (r : Refusal) (a b : ℕ) → a ≡ number_of r → b ≡ number_of r → a ≡ b
refusal-number-one r a b = one_answer

pub status-number-one : (t : Status) (a b : ℕ) → a ≡ status_number t → b ≡ status_number t → a ≡ b
status-number-one t a b = one_answer

pub kind-number-one : (kind : Kind) (a b : ℕ) → a ≡ kind_number kind → b ≡ kind_number kind → a ≡ b
kind-number-one kind a b = one_answer

pub looks-one : (t : Status) (m : Message) (a b : Bool) → a ≡ looks_at t (carried_of m).kind → b ≡ looks_at t (carried_of m).kind → a ≡ b
looks-one t m a b = one_answer

pub kind-of-one : (s : List ℕ) (a b : ℕ) → a ≡ kind_of s → b ≡ kind_of s → a ≡ b
kind-of-one s a b = one_answer

pub carried-bytes-one : (m : Message) (s a b : List ℕ) → a ≡ carried_bytes m s → b ≡ carried_bytes m s → a ≡ b
carried-bytes-one m s a b = one_answer

pub of-number-one : (test : Bool) (k : ℕ) (a b : Option Kind) → KindIf test k a → KindIf test k b → a ≡ b
of-number-one test k None None p q = refl
of-number-one test k None (Some y) p q = absurd (false≢true (sym p ∙ q.0))
of-number-one test k (Some x) None p q = absurd (false≢true (sym q ∙ p.0))
of-number-one test k (Some x) (Some y) p q = ap Some (same-kind x y (p.1 ∙ sym q.1))
