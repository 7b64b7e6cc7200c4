-- Laws for the look that compares an entry e only with the first one of its client in a part whose entries rise.
--     follows-none, follows-over   no entry of the part breaks with e: none is of its client; the first of its client has a higher request number
--     follows-broken               one of its client has not
-- Assumes nothing.
use mathlib.Core.Path.{◌≡◌, refl, sym, ◌∙◌}
use mathlib.Core.List.{List}
use mathlib.Core.Bool.{true, false}
use mathlib.Core.Logic.{⊎_elim}
use Prim.Native.Nat.{ℕ, ◌+◌, ◌-◌, ◌*◌, ◌<◌, ◌≤◌}
use native.Mathlib.Omega.{arith}
use native.Mathlib.Nat.{sub-zero}
use borrow.Author.Tests.{le-leb, lt-leb}
use Rattle.numbers.proofs.NumberLaws.{eq-or-not, le-or-lt}
use Rattle.entries.specs.Entries.{entries}
use Rattle.entries.specs.Rising.{breaks_at, follows}
use Rattle.entries.specs.declared.Entry.{Entry}
use Rattle.entries.proofs.RisingLaws.{other-client, same-client}
use Rattle.entries.proofs.ChainLaws.{NoneOf}
use Rattle.entries.proofs.PairLaws.{at, client_at, request_at, Rises, follows-all, follows-any}

-- the client of the entry that has m of the k entries after it
abbrev pub first_from_end : List ℕ → ℕ → ℕ → ℕ
first_from_end part k m = client_at part (k - 1 - m)

module _ (e : Entry) (k : ℕ) (part : List ℕ) where
  -- none breaks with e where each of its client has a higher request number
  follows-higher : ((q : ℕ) → q < k → client_at part q ≡ e.client → e.request < request_at part q) → follows e (entries k part) ≡ true
  follows-higher f = rw sub-zero at (follows-all e k part k 0 (omega arith) (λ q l u. one q u))
    where
      one : (q : ℕ) → q < k → breaks_at e (at part q) ≡ false
      one q u =
          ⊎_elim (λ (z : client_at part q ≡ e.client). sym (same-client e part (32 * q) refl refl z) ∙ lt-leb (request_at part q) e.request (f q u z))
          (λ (z : client_at part q ≡ e.client → ⊥). sym (other-client e part (32 * q) refl z))
          (eq-or-not (client_at part q) e.client)

  -- no entry before the one that has j after it is of the client of e
  none_before : (j q : ℕ) → NoneOf (first_from_end part k) e.client j k → q + j < k → client_at part q ≡ e.client → ⊥
  none_before j q n u z = let w : k - 1 - (k - 1 - q) ≡ q = omega arith in n (k - 1 - q) (omega arith) (omega arith) (rw w z)

  pub follows-none : NoneOf (first_from_end part k) e.client 0 k → follows e (entries k part) ≡ true
  follows-none n = follows-higher (λ q u z. absurd (none_before 0 q n (omega arith) z))

  pub follows-over : (j : ℕ) → Rises part k → j < k → NoneOf (first_from_end part k) e.client (j + 1) k → first_from_end part k j ≡ e.client
      → e.request < request_at part (k - 1 - j) → follows e (entries k part) ≡ true
  follows-over j f l n h r = follows-higher over
    where
      over : (q : ℕ) → q < k → client_at part q ≡ e.client → e.request < request_at part q
      over q u z =
          ⊎_elim (λ (w : q ≡ k - 1 - j). rw w r)
          (λ (w : q ≡ k - 1 - j → ⊥).
          ⊎_elim (λ (y : k - 1 - j ≤ q). omega (arith, r, f (k - 1 - j) q (omega (arith, w)) u (h ∙ sym z)))
          (λ (y : q < k - 1 - j). absurd (none_before (j + 1) q n (omega arith) z))
          (le-or-lt (k - 1 - j) q))
          (eq-or-not q (k - 1 - j))

  pub follows-broken : (q : ℕ) → q < k → client_at part q ≡ e.client → request_at part q ≤ e.request → follows e (entries k part) ≡ false
  follows-broken q u z r =
      rw sub-zero at (follows-any e k part k 0 q (omega arith) (omega arith) u (sym (same-client e part (32 * q) refl refl z) ∙ le-leb (request_at part q) e.request r))
