-- What refusal 1 on what is gathered gives, and what passes it.
--     both                        a choice that is true
--     row-ok-is                   a row that passed
--     rows-ok-is                  each of the first n rows
--     gathered-is, is-gathered    votes and rows, apart and together
--     none-gathered               nothing gathered yet
--     report-set, start-gathered  one report more, one vote more, of a replica
-- Assumes nothing.
use mathlib.Core.Path.{◌≡◌, refl, ap, sym, ◌∙◌}
use mathlib.Core.Bool.{Bool, true, false, not, false≢true}
use mathlib.Core.List.{List, [], ◌∷◌}
use Prim.Native.Nat.{ℕ, zero, suc, ◌^◌, ◌≤◌, ◌<◌}
use native.Mathlib.Omega.{arith}
use lib.Dec.{leb}
use lib.Pow.{pow_pos}
use lib.ListN.{get_or, set, replicate}
use borrow.Author.Tests.{leb-true, ltb-true, lt-ltb}
use Rattle.numbers.specs.Words.{when◌then◌else◌}
use Rattle.numbers.proofs.WordLaws.{if-true, if-false}
use Rattle.config.specs.Replicas.{with_another}
use Rattle.config.specs.declared.Setup.{Setup}
use Rattle.config.proofs.ReplicaLaws.{another-lt}
use Rattle.state.specs.Statuses.{no_report, no_reports}
use Rattle.state.specs.declared.Report.{Report}
use Rattle.state.specs.Sound.{is_none, report_ok, reports_ok, gathered_ok}

pub both : (a b : Bool) → (when a then b else false) ≡ true → (a ≡ true) × (b ≡ true)
unfolding when◌then◌else◌
both true b h = (refl, h)
both false b h = absurd (false≢true h)

pub row-ok-is : (room : ℕ) (d : Report) → report_ok room d ≡ true → d.there ≡ true → (d.op.0 ≤ room) × (d.commit.0 ≤ d.op.0)
unfolding report_ok
row-ok-is room d h t =
    let q = sym (if-false (not d.there) (is_none d) _ (ap not t)) ∙ h in
    let p = both (leb d.op.0 room) (leb d.commit.0 d.op.0) q in
    (leb-true d.op.0 room p.0, leb-true d.commit.0 d.op.0 p.1)

-- a row past the list isn't there
pub rows-ok-is : (room n : ℕ) (l : List Report) → reports_ok room n l ≡ true → (i : ℕ) → i < n → (get_or l i no_report).there ≡ true
    → ((get_or l i no_report).op.0 ≤ room) × ((get_or l i no_report).commit.0 ≤ (get_or l i no_report).op.0)
unfolding reports_ok
rows-ok-is room n [] h i lt t = absurd (false≢true t)
rows-ok-is room zero (d ∷ ds) h i lt t = absurd (omega arith)
rows-ok-is room (suc n) (d ∷ ds) h zero lt t = row-ok-is room d (both (report_ok room d) (reports_ok room n ds) h).0 t
rows-ok-is room (suc n) (d ∷ ds) h (suc i) lt t = rows-ok-is room n ds (both (report_ok room d) (reports_ok room n ds) h).1 i (omega arith) t

-- ---- votes and rows

pub gathered-is : (u : Setup) (starts : ℕ) (rows : List Report) → gathered_ok u starts rows ≡ true
    → (starts < 2 ^ u.n) × (reports_ok u.room u.n rows ≡ true)
unfolding gathered_ok
gathered-is u starts rows h =
    let p = both _ _ h in
    (ltb-true starts (2 ^ u.n) p.0, p.1)

pub is-gathered : (u : Setup) (starts : ℕ) (rows : List Report) → starts < 2 ^ u.n → reports_ok u.room u.n rows ≡ true
    → gathered_ok u starts rows ≡ true
unfolding gathered_ok
is-gathered u starts rows h g = if-true _ _ _ (lt-ltb starts (2 ^ u.n) h) ∙ g

none_of : (room n k : ℕ) → reports_ok room n (replicate k no_report) ≡ true
unfolding reports_ok report_ok is_none when◌then◌else◌
none_of room n zero = refl
none_of room zero (suc k) = none_of room zero k
none_of room (suc n) (suc k) = none_of room n k

pub none-gathered : (u : Setup) → gathered_ok u 0 no_reports.rows ≡ true
none-gathered u = is-gathered u 0 _ (pow_pos u.n) (none_of u.room u.n 7)

pub report-set : (room n k : ℕ) (l : List Report) (d : Report) → k < n → report_ok room d ≡ true → reports_ok room n l ≡ true
    → reports_ok room n (set l k d) ≡ true
unfolding reports_ok
report-set room n k [] d lt e h = h
report-set room zero k (x ∷ xs) d lt e h = absurd (omega arith)
report-set room (suc n) zero (x ∷ xs) d lt e h = if-true (report_ok room d) _ _ e ∙ (both (report_ok room x) (reports_ok room n xs) h).1
report-set room (suc n) (suc k) (x ∷ xs) d lt e h =
    let p = both (report_ok room x) (reports_ok room n xs) h in
    if-true (report_ok room x) _ _ p.0 ∙ report-set room n k xs d (omega arith) e p.1

pub start-gathered : (u : Setup) (starts r : ℕ) (rows : List Report) → r < u.n → gathered_ok u starts rows ≡ true
    → gathered_ok u (with_another starts u.id r) rows ≡ true
start-gathered u starts r rows lt h =
    let p = gathered-is u starts rows h in
    is-gathered u (with_another starts u.id r) rows (another-lt u.n starts u.id r p.0 lt) p.1
