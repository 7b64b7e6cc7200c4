-- The table of statuses and kinds is the rule `looks_at`, computed at each of its places: table-right. Assumes nothing.
use mathlib.Core.Path.{◌≡◌, refl}
use mathlib.Core.Bool.{Bool, true, false}
use mathlib.Core.List.{List, [], ◌∷◌}
use Prim.Native.Nat.{◌-◌}
use lib.ListN.{get_or}
use Rattle.numbers.specs.Words.{◌or◌, ◌and◌}
use Rattle.numbers.specs.Numbers.{within}
use Rattle.frames.specs.Kinds.{kind_number}
use Rattle.frames.specs.Looks.{status_number, changing, looks_at}
use Rattle.frames.specs.declared.Kind.{Kind}
use Rattle.frames.specs.declared.Kind.TheVariants.{Request, Prepare, PrepareOk, Commit, GetState, NewState, StartViewChange, DoViewChange, StartView, Recovery, RecoveryResponse}
use Rattle.frames.specs.declared.Status.{Status}
use Rattle.frames.specs.declared.Status.TheVariants.{Normal, StateTransfer, ViewChange, Recovering}

-- the table, as the code has it
abbrev pub table : List (List Bool)
table =
    (true ∷ true ∷ true ∷ true ∷ true ∷ true ∷ true ∷ true ∷ true ∷ true ∷ false ∷ [])
    ∷ (false ∷ true ∷ false ∷ true ∷ false ∷ true ∷ true ∷ true ∷ true ∷ true ∷ false ∷ [])
    ∷ (false ∷ true ∷ false ∷ true ∷ false ∷ true ∷ true ∷ true ∷ true ∷ true ∷ false ∷ [])
    ∷ (false ∷ false ∷ false ∷ false ∷ false ∷ false ∷ false ∷ false ∷ false ∷ false ∷ true ∷ [])
    ∷ []

abbrev Right : Status → Kind → Type 0
Right s kind = get_or (get_or table (status_number s) []) (kind_number kind - 1) false ≡ looks_at s kind

-- what holds of each of the eleven kinds
record EachKind (P : Kind → Type 0) : Type 0 where
  pub k1 : P Request
  pub k2 : P Prepare
  pub k3 : P PrepareOk
  pub k4 : P Commit
  pub k5 : P GetState
  pub k6 : P NewState
  pub k7 : P StartViewChange
  pub k8 : P DoViewChange
  pub k9 : P StartView
  pub k10 : P Recovery
  pub k11 : P RecoveryResponse

any-kind : (P : Kind → Type 0) → EachKind P → (kind : Kind) → P kind
any-kind P e Request = e.k1
any-kind P e Prepare = e.k2
any-kind P e PrepareOk = e.k3
any-kind P e Commit = e.k4
any-kind P e GetState = e.k5
any-kind P e NewState = e.k6
any-kind P e StartViewChange = e.k7
any-kind P e DoViewChange = e.k8
any-kind P e StartView = e.k9
any-kind P e Recovery = e.k10
any-kind P e RecoveryResponse = e.k11

row-right : (s : Status) → EachKind (Right s)
unfolding looks_at changing within ◌or◌ ◌and◌
row-right Normal = record { k1 = refl; k2 = refl; k3 = refl; k4 = refl; k5 = refl; k6 = refl; k7 = refl; k8 = refl; k9 = refl; k10 = refl; k11 = refl }
row-right StateTransfer = record { k1 = refl; k2 = refl; k3 = refl; k4 = refl; k5 = refl; k6 = refl; k7 = refl; k8 = refl; k9 = refl; k10 = refl; k11 = refl }
row-right ViewChange = record { k1 = refl; k2 = refl; k3 = refl; k4 = refl; k5 = refl; k6 = refl; k7 = refl; k8 = refl; k9 = refl; k10 = refl; k11 = refl }
row-right Recovering = record { k1 = refl; k2 = refl; k3 = refl; k4 = refl; k5 = refl; k6 = refl; k7 = refl; k8 = refl; k9 = refl; k10 = refl; k11 = refl }

pub table-right : (s : Status) (kind : Kind) → get_or (get_or table (status_number s) []) (kind_number kind - 1) false ≡ looks_at s kind
table-right s = any-kind (Right s) (row-right s)
