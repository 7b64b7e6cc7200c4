-- `whitherhaul::replicas::whitherhaul_takings` meets its contract. Assumes nothing.
use Rattle.std.specs.Prelude.{Result}
use mathlib.Core.Path.{◌≡◌, ap, sym, ◌∙◌, subst}
use mathlib.Core.Bool.{true}
use mathlib.Core.List.{List}
use Prim.Native.Nat.{ℕ}
use native.Mathlib.Omega.{arith}
use Rattle.frames.specs.declared.Refusal.{Refusal}
use Rattle.state.specs.declared.Replica.{Replica}
use Rattle.state_bytes.specs.Layout.{state_of, state_ok}
use Rattle.replica.specs.Promise.{TakingsPromise}
use Rattle.whitherhaul.specs.Replicas.{SumTold, told_as, sum_told, TakingsRan}
use Rattle.state_bytes.proofs.ReadLaws.{state-long}
use Rattle.state_bytes.proofs.QuietLaws.{looks-none, looks-ok}
use Rattle.whitherhaul.proofs.ReplicaLaws.{no-takings, takings-ran}
use Rattle.whitherhaul.proofs.replicas.whitherhaul_takings.Goals as goal

pub returns-in_default : goal.returns-in_default
returns-in_default c = no-takings c.args.state.now (looks-none _ c.look_over.ensures c.in_default.is)

pub read_state-requires : goal.read_state-requires
read_state-requires c = omega (arith, state-long _ (looks-ok _ c.look_over.ensures c.in-Some.is))

told-now : (state : List ℕ) (s : Replica) (r : Result ℕ Refusal) (t : SumTold) → state_ok state ≡ true → s ≡ state_of state → TakingsPromise s r → sum_told r ≡ t → TakingsRan state t
told-now state s r t ok e p h = let P : SumTold → Type 0 = TakingsRan state in subst P h (takings-ran state s r ok e p)

pub returns-in-Ok : goal.returns-in-Ok
returns-in-Ok c = told-now c.args.state.now _ _ _ (looks-ok _ c.look_over.ensures c.in-Some.is) c.read_state.ensures c.takings.ensures (ap sum_told c.in-Ok.is)

pub returns-in-Err : goal.returns-in-Err
returns-in-Err c = told-now c.args.state.now _ _ _ (looks-ok _ c.look_over.ensures c.in-Some.is) c.read_state.ensures c.takings.ensures (ap sum_told c.in-Err.is ∙ ap (λ k. told_as k 0) (sym c.from.ensures))
