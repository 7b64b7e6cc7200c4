-- Laws of examining a file group by group.
--     forms-none, forms-more                  a turn of the look at forms
--     Cut, cut-of, cut-form, cut-more, cut-good       a frame that is cut out of the file
--     forms-past, forms-bad, forms-end        what it finds
--     right-none, other-turn, right-turn      a turn of the look at a group's results; judged: what is wrong with one
--     group-bad, group-right                  what it finds
--     all-groups                              once all groups were looked at
-- Assumes nothing.
use mathlib.Core.Path.{◌≡◌, refl, sym, ap, ◌∙◌, subst}
use mathlib.Core.Bool.{Bool, true, false, false≢true}
use mathlib.Core.List.{List, ◌++◌}
use mathlib.Core.Logic.{⊎_elim}
use Rattle.std.specs.Prelude.{Option, Some, None, Result, Ok, Err}
use Rattle.std.proofs.lemmas.Option.{none-some, same_Some}
use Prim.Native.Nat.{ℕ, zero, suc, ◌+◌, ◌-◌, ◌*◌, ◌≤◌, ◌<◌, min}
use native.Mathlib.Numerals.{add-one}
use native.Mathlib.Omega.{arith}
use lib.ListN.{length, drop, length-drop}
use borrow.Author.Count.{below_more as each_more}
use Rattle.numbers.proofs.NumberLaws.{le-or-lt}
use Rattle.entries.specs.declared.Entry.{Entry}
use Rattle.fees.specs.Fees.{outcome_on, total_bytes_after}
use Rattle.fees.specs.declared.Outcome.{Outcome}
use Rattle.journal.specs.Journal.{no_totals, framed_entry, framed_result}
use Rattle.journal.specs.declared.refusal.Fault.{Fault}
use Rattle.journal.specs.declared.refusal.Fault.TheVariants as wrong
use Rattle.journal.specs.Examining.{form_fault, result_fault, fault, examined_as, examined_after, examined}
use Rattle.journal.specs.Steps.{group_size, in_group, groups_below, group_entry, totals_filed, result_fault_in, GoesOnBadly, ExaminedBelow}
use Rattle.journal.specs.declared.Examined.{Examined}
use Rattle.journal.proofs.FaultLaws.{fault-form, fault-result, form-cut, frame-there}
use Rattle.journal.proofs.ChunkLaws.{Turn}
use Rattle.journal.proofs.TotalLaws.{through-none, through-more}
use Rattle.journal.proofs.GroupLaws.{below_next, below_all, below_none, Grouped, grouped-given, grouped-more, grouped-other}
use Rattle.journal.proofs.ExamineLaws.{examined-end, stops-past, stops-bad, goes_on}

abbrev member : (k : ℕ) (file : List ℕ) → ℕ
member k file = (framed_entry (drop (50 * k) file)).member

-- ---- forms

abbrev pub Forms : (i : ℕ) (file : List ℕ) → Type 0
Forms i file = (k : ℕ) → k < i → form_fault (k + 1) (drop (50 * k) file) ≡ Ok tt

pub forms-none : (file : List ℕ) → Forms 0 file
forms-none file k l = absurd (omega arith)

pub forms-more : (i : ℕ) (file : List ℕ) → Forms i file → form_fault (i + 1) (drop (50 * i) file) ≡ Ok tt → Forms (i + 1) file
forms-more i file h e = each_more (λ (k : ℕ). form_fault (k + 1) (drop (50 * k) file) ≡ Ok tt) i h e

-- behind i frames comes c, which is cut short where the file ends in it, and behind that t
pub record Cut (i : ℕ) (file c t : List ℕ) : Type 0 where
  pub is : drop (50 * i) file ≡ c ++ t
  pub long : length c ≡ min 50 (length (drop (50 * i) file))
  pub some : 0 < length (drop (50 * i) file)

pub cut-of : {i size : ℕ} {file r c t : List ℕ} → size ≡ 50 → r ≡ drop (50 * i) file → r ≡ c ++ t → length c ≡ min size (length r) → 0 < length r
    → Cut i file c t
cut-of z h e l m =
    record { is = sym h ∙ e; long = l ∙ (λ k. min (z k) (length (h k))); some = subst (λ (x : List ℕ). 0 < length x) h m }

pub cut-form : {i : ℕ} {file c t : List ℕ} (op : ℕ) → Cut i file c t → form_fault op c ≡ form_fault op (drop (50 * i) file)
cut-form {i} {file} {c} {t} op n = form-cut op (drop (50 * i) file) c t n.is n.long

pub cut-more : {i : ℕ} {file c t : List ℕ} → Cut i file c t → 50 * i < length file
cut-more {i} {file} {c} {t} n = omega (arith, n.some, length-drop (50 * i) file)

pub cut-good : {i : ℕ} {file c t : List ℕ} (op : ℕ) → Cut i file c t → form_fault op c ≡ Ok tt → Turn 50 i file c t
cut-good {i} {file} {c} {t} op n e = let h = frame-there op c e in record { is = n.is; long = omega (arith, n.long) }

module _ (M i : ℕ) (file : List ℕ) (pos : 1 ≤ M) (few : i ≤ 4096) (there : 50 * i ≤ length file) (forms : Forms i file) where
  stops : (f : Option Fault) → (f ≡ None → length file ≤ 50 * i) → ((g : Fault) → f ≡ Some g → GoesOnBadly M file i g) → ExaminedBelow M 0 file (examined_as i f)
  stops f z n =
      record {
        few = few;
        there = there;
        forms = forms;
        results = λ k l e. absurd (below_none M 0 (member k file) pos refl e);
        ends = z;
        goes_on = n;
      }

  pub forms-end : length file ≤ 50 * i → ExaminedBelow M 0 file (examined_as i None)
  forms-end h = stops None (λ _. h) (λ g e. absurd (none-some g e))

  module _ (more : 50 * i < length file) where
    pub forms-past : i ≡ 4096 → ExaminedBelow M 0 file (examined_as i (Some wrong.PastLast))
    forms-past e =
        stops (Some wrong.PastLast) (λ z. absurd (none-some wrong.PastLast (sym z)))
        (λ g p. record { more = more; past = λ _. sym (same_Some wrong.PastLast g p); bad = λ l. absurd (omega arith) })

    pub forms-bad : (f : Fault) → i < 4096 → form_fault (i + 1) (drop (50 * i) file) ≡ Err f → ExaminedBelow M 0 file (examined_as i (Some f))
    forms-bad f l e =
        stops (Some f) (λ z. absurd (none-some f (sym z)))
        (λ g p.
        record {
          more = more;
          past = λ h. absurd (omega arith);
          bad = λ _. fault-form (i + 1) (totals_filed M i file) (drop (50 * i) file) g (e ∙ (λ k. Err (same_Some f g p k)));
        })

-- ---- the results of a group

-- they are right in the first i frames
abbrev pub Right : (M low i : ℕ) (file : List ℕ) → Type 0
Right M low i file = (k : ℕ) → k < i → in_group M low (framed_entry (drop (50 * k) file)).member ≡ true → result_fault_in M k file ≡ Ok tt

module _ (M low : ℕ) (file : List ℕ) where
  pub right-none : Right M low 0 file
  right-none k l = absurd (omega arith)

  -- a turn: the entry of frame number i + 1, on the totals of the group before it
  module _ (i : ℕ) (totals : List ℕ) (g : Grouped M low (totals_filed M i file) totals) (r : Right M low i file) (e : Entry)
      (framed : e ≡ framed_entry (drop (50 * i) file)) where
    pub other-turn : in_group M low e.member ≡ false
        → Grouped M low (totals_filed M (i + 1) file) totals × Right M low (i + 1) file
    other-turn o =
        let f : in_group M low (member i file) ≡ false = ap (λ (x : Entry). in_group M low x.member) (sym framed) ∙ o in (
          grouped-other M low 50 framed_entry file i totals g e framed o,
          each_more (λ (k : ℕ). in_group M low (member k file) ≡ true → result_fault_in M k file ≡ Ok tt) i r (λ y. absurd (false≢true (sym f ∙ y))),
        )

    module _ (y : in_group M low e.member ≡ true) (o s : Outcome) (f : Result (Unit {0}) Fault) (q : o ≡ outcome_on (group_size M low) totals (group_entry low e))
        (stands : s ≡ framed_result (drop (50 * i) file)) (h : f ≡ result_fault o s) where
      pub judged : f ≡ result_fault_in M i file
      judged =
          let given = grouped-given M low 50 framed_entry file i totals g e framed y o q in
          h ∙ (λ k. result_fault (given k) (stands k))

      pub right-turn : (after : List ℕ) → after ≡ total_bytes_after (group_size M low) totals (group_entry low e) → length after ≡ length totals
          → f ≡ Ok tt → Grouped M low (totals_filed M (i + 1) file) after × Right M low (i + 1) file
      right-turn after u l z = (
        grouped-more M low 50 framed_entry file i totals g e framed y after u l,
        each_more (λ (k : ℕ). in_group M low (member k file) ≡ true → result_fault_in M k file ≡ Ok tt) i r (λ _. sym judged ∙ z),
      )

  module _ (j : Examined) (b : ExaminedBelow M low file j) where
    results_next : (i : ℕ) → i ≤ j.frames → Right M low i file → (k : ℕ) → k < i → groups_below M (low + 64) (member k file) ≡ true
        → result_fault_in M k file ≡ Ok tt
    results_next i h r k l e = which (groups_below M low (member k file)) refl
      where
        which : (t : Bool) → groups_below M low (member k file) ≡ t → result_fault_in M k file ≡ Ok tt
        which true p = b.results k (omega arith) p
        which false p = r k l (below_next M low (member k file) e p)

    pub group-right : (i : ℕ) → j.frames ≤ i → i ≤ j.frames → Right M low i file → ExaminedBelow M (low + 64) file j
    group-right i g h r =
        record {
          few = b.few;
          there = b.there;
          forms = b.forms;
          results = λ k l e. results_next i h r k (omega arith) e;
          ends = b.ends;
          goes_on = b.goes_on;
        }

    pub group-bad : (i : ℕ) (f : Fault) → i < j.frames → Right M low i file → result_fault_in M i file ≡ Err f
        → ExaminedBelow M (low + 64) file (examined_as i (Some f))
    group-bad i f l r p =
        record {
          few = omega (arith, b.few);
          there = omega (arith, b.there);
          forms = λ k h. b.forms k (omega arith);
          results = λ k h e. results_next i (omega arith) r k h e;
          ends = λ z. absurd (none-some f (sym z));
          goes_on =
              λ g q.
              record {
                more = omega (arith, b.there);
                past = λ h. absurd (omega (arith, b.few));
                bad =
                    λ _.
                    fault-result (i + 1) (totals_filed M i file) (drop (50 * i) file) (b.forms i l) ∙ p ∙ (λ k. Err (same_Some f g q k));
              };
        }

-- ---- all groups

module _ (M low : ℕ) (file : List ℕ) (j : Examined) (h : M ≤ low) (b : ExaminedBelow M low file j) where
  good : (i : ℕ) → i < j.frames → fault (i + 1) (totals_filed M i file) (drop (50 * i) file) ≡ Ok tt
  good i l =
      fault-result (i + 1) (totals_filed M i file) (drop (50 * i) file) (b.forms i l) ∙ b.results i l (below_all M low (member i file) h)

  onward : (i : ℕ) → i ≤ j.frames → examined M file ≡ examined_after (4096 - i) i (totals_filed M i file) (drop (50 * i) file)
  unfolding examined
  onward zero l = ap (λ (ts : List ℕ). examined_after 4096 0 ts file) (through-none 50 framed_entry (no_totals M) file)
  onward (suc i) l =
      let ts = totals_filed M i file in
      let t = through-more 50 framed_entry (no_totals M) file i ts (framed_entry (drop (50 * i) file)) refl refl in
      onward i (omega arith)
      ∙ goes_on 4096 i ts file (omega (arith, b.there)) (omega (arith, b.few)) (totals_filed M (i + 1) file) (good i (omega arith)) (sym t)
      ∙ ap (λ (k : ℕ). examined_after (4096 - k) k (totals_filed M k file) (drop (50 * k) file)) (add-one i)

  abbrev k : ℕ
  k = j.frames

  abbrev ts : List ℕ
  ts = totals_filed M k file

  ended : j.fault ≡ None → j ≡ examined M file
  ended z =
      let e : length (drop (50 * k) file) ≡ 0 = simp length-drop (omega (arith, b.ends z)) in
      (λ i. examined_as k (z i)) ∙ sym (onward k (omega arith) ∙ examined-end k ts (drop (50 * k) file) (4096 - k) e)

  stopped : (f : Fault) → j.fault ≡ Some f → GoesOnBadly M file k f → j ≡ examined M file
  stopped f z g =
      (λ i. examined_as k (z i))
      ∙ ⊎_elim
      (λ (p : 4096 ≤ k). (λ i. examined_as k (Some (g.past p i))) ∙ sym (onward k (omega arith) ∙ stops-past 4096 k ts file g.more p))
      (λ (l : k < 4096). sym (onward k (omega arith) ∙ stops-bad 4096 k ts file g.more l f (g.bad l)))
      (le-or-lt 4096 k)

  pub all-groups : j ≡ examined M file
  all-groups = which j.fault refl
    where
      which : (t : Option Fault) → j.fault ≡ t → j ≡ examined M file
      which None p = ended p
      which (Some f) p = stopped f p (b.goes_on f p)
