-- What stands behind a DoViewChange at the C boundary, from the replica's own.
--     run-own-out                         what a chain of calls leaves in the state run never has our own id in the set
--     run-backed, run-backed-recovered    from a creation, and from a recovery, that wasn't refused
-- Assumes nothing.
use mathlib.Core.Path.{◌≡◌, refl, sym, ap, ◌∙◌, subst}
use mathlib.Core.Bool.{true, false}
use mathlib.Core.List.{List, [], ◌∷◌}
use Prim.Native.Nat.{ℕ}
use Rattle.numbers.specs.declared.View.{View}
use Rattle.entries.specs.declared.Entry.{Entry}
use Rattle.config.specs.declared.Setup.{Setup}
use Rattle.state.specs.declared.Replica.{Replica}
use Rattle.state_bytes.specs.Layout.{state_of, state_ok}
use Rattle.safety.specs.Demand.{Call}
use Rattle.replica.specs.Calls.{create_call, recover_call}
use Rattle.replica.specs.Lent.{Lent}
use Rattle.replica.specs.Meaning.{Kept}
use Rattle.replica.specs.Demands.{HandedBack}
use Rattle.replica.specs.Backed.{call_by, calls_in, WroteBacked, OwnOut}
use Rattle.replica.proofs.BackedLaws.{own_out, chain-backed, create-new, recover-new}
use Rattle.whitherhaul.specs.Replicas.{Ran, create_run, recover_run, CreateRan, RecoverRan}
use Rattle.whitherhaul.specs.Demands.{RunLink, RunChain, RunGoesOn}
use Rattle.whitherhaul.specs.Backed.{run_call_by, run_calls_in, RunWroteBacked}
use Rattle.whitherhaul.proofs.DemandLaws.{linked, chained, begun, done-leaves}
use Rattle.state.specs.Answers.{replies_written}

pub run-own-out : (state : List ℕ) (x : Lent) (applied : List Entry) (state' : List ℕ) (x' : Lent) → RunGoesOn state x applied state' x'
    → OwnOut (state_of state')
run-own-out state x applied state' x' g = own_out (state_of state') x' _ g.goes.kept

-- from a run that holds state t, with no votes, in memory as calls leave it
module _ (state : List ℕ) (x : Lent) (ok : state_ok state ≡ true) (kept : Kept (state_of state) x []) (t : Replica) (holds : state_of state ≡ t)
    (none_in : t.starts ≡ 0) (not-sent : t.sent ≡ false) where
  from-run : (state' : List ℕ) (x' : Lent) (d : Ran) (c : RunChain state' x' state x) (l : RunLink state' x' d)
      → RunWroteBacked t.setup (run_calls_in state' x' state x c) state' x' (run_call_by state' x' d l) d
  from-run state' x' d c l =
      let r = chained state' x' state x ok c in
      let k = linked state' x' d r.ok l in
      let s' = state_of state' in
      let v = ap (λ (s : Replica). s.starts) holds ∙ none_in in
      let b = ap (λ (s : Replica). s.sent) holds ∙ not-sent in
      let w = chain-backed (state_of state) x [] kept v b s' x' r.chain k.call k.link in
      let cs = calls_in s' x' (state_of state) x r.chain in
      let call = call_by s' x' k.call k.link in
      let f = subst (λ (s : Replica). WroteBacked s.setup cs s' x' call k.call) holds w in
      let h = subst (λ (ds : List Call). WroteBacked t.setup ds s' x' call k.call) r.is f in
      let g = subst (λ (e : Call). WroteBacked t.setup (run_calls_in state' x' state x c) s' x' e k.call) k.is h in
      record {
        applied = g.applied;
        kept = g.kept;
        replies = replies_written k.call.answer;
        counts = k.counts ∙ ap (λ (n : ℕ). n ∷ replies_written k.call.answer ∷ []) g.messages;
        out = ap (λ (z : Lent). z.core.out) k.lent ∙ g.out;
        backed = g.backed;
      }

pub run-backed : (u : Setup) (state : List ℕ) (x : Lent) (d : Ran) (y : Lent) (state' : List ℕ) (z : Lent) (e : Ran) → CreateRan u state x d
    → d.code ≡ 0 → HandedBack d.lent y → (c : RunChain state' z d.state y) (l : RunLink state' z e)
    → RunWroteBacked u (run_calls_in state' z d.state y c) state' z (run_call_by state' z e l) e
unfolding create_run
run-backed u state x d y state' z e p k h =
    let q = done-leaves state x _ _ d p.exact k in
    let b = begun state y (create_call u x) d q (p.next k) p.call.keeps k h in
    let new = create-new u x (sym (ap (λ (r : Ran). r.code) q) ∙ k) in
    from-run d.state y (p.next k).ok b _ ((p.next k).back ∙ new) refl refl state' z e

pub run-backed-recovered : (u : Setup) (v : View) (nonce : ℕ) (state : List ℕ) (x : Lent) (d : Ran) (y : Lent) (state' : List ℕ) (z : Lent) (e : Ran)
    → RecoverRan u v nonce state x d → d.code ≡ 0 → HandedBack d.lent y → (c : RunChain state' z d.state y) (l : RunLink state' z e)
    → RunWroteBacked u (run_calls_in state' z d.state y c) state' z (run_call_by state' z e l) e
unfolding recover_run
run-backed-recovered u v nonce state x d y state' z e p k h =
    let q = done-leaves state x _ _ d p.exact k in
    let b = begun state y (recover_call u v nonce x) d q (p.next k) p.call.keeps k h in
    let new = recover-new u x v nonce (sym (ap (λ (r : Ran). r.code) q) ∙ k) in
    from-run d.state y (p.next k).ok b _ ((p.next k).back ∙ new) refl refl state' z e
