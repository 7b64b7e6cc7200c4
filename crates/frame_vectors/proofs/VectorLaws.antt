-- What is put at a place, a frame in its room, and the steps between a call's promise and the vector that it makes. Assumes nothing.
use Rattle.std.proofs.Common.{◌≡◌, ℕ, ◌*◌, ◌<◌, ◌≤◌, List, length, take, replicate, refl, ap, ◌∙◌, arith, le-leb}
use borrow.Author.Tests.{lt-leb}
use Rattle.numbers.specs.Words.{when◌then◌else◌}
use Rattle.numbers.specs.Numbers.{big, over, Wrote}
use Rattle.numbers.proofs.RunLaws.{over-all, over-nil}
use Rattle.entries.specs.Entries.{encode_entry}
use Rattle.entries.specs.declared.Entry.{Entry}
use Rattle.frames.specs.declared.Message.{Message}
use Rattle.writers.specs.Writers.{encode, size_of, length_of, Room}
use Rattle.comparing.specs.Areas.{stored_at}
use Rattle.frame_vectors.specs.declared.vector.Vector.{Vector}
use Rattle.frame_vectors.specs.Vectors.{tried_frame, vector_of, with_bytes, cut_to, fitted_length}

-- a run that is written whole, then put at a place
pub put-filled : (w zs s : List ℕ) (a : ℕ) {run r : List ℕ} → length w ≡ length zs → run ≡ over w zs → r ≡ stored_at a run s → r ≡ stored_at a w s
put-filled w zs s a l e f = f ∙ ap (λ (u : List ℕ). stored_at a u s) (e ∙ over-all w zs l)

-- an entry put behind others
pub next-put : (a : ℕ) (e f : Entry) (s t : List ℕ) {r : List ℕ} → e ≡ f → s ≡ t → r ≡ stored_at a (encode_entry e) s → r ≡ stored_at a (encode_entry f) t
next-put a e f s t g h q = q ∙ (ap (λ (u : Entry). stored_at a (encode_entry u) s) g ∙ ap (stored_at a (encode_entry f)) h)

pub with-told : (v : Vector) (a : ℕ) (w : List ℕ) {b : List ℕ} → b ≡ stored_at a w v.bytes → ◌≡◌ {A = Vector} (record { bytes = b; len = v.len }) (with_bytes v a w)
unfolding with_bytes
with-told v a w e i = record { bytes = e i; len = v.len }

pub fitted-told : (v u : Vector) (n k : ℕ) {r : Vector} → u ≡ cut_to n v → k ≡ fitted_length n → r ≡ with_bytes u 0 (big 4 k) → r ≡ with_bytes (cut_to n v) 0 (big 4 (fitted_length n))
fitted-told v u n k e g q = q ∙ (ap (λ (z : Vector). with_bytes z 0 (big 4 k)) e ∙ ap (λ (z : ℕ). with_bytes (cut_to n v) 0 (big 4 z)) g)

-- what a writer leaves of zeros
pub wrote-vector : (w : List ℕ) {area : List ℕ} {k : ℕ} → Wrote w (replicate 192 0) area k → ◌≡◌ {A = Vector} (record { bytes = area; len = k }) (vector_of w)
unfolding vector_of
wrote-vector w q i = record { bytes = q.bytes i; len = q.count i }

module _ (log area : List ℕ) (m : Message) (n : ℕ) (e : n ≡ length_of m) where
  pub tried-none : 192 < n → Wrote (tried_frame log m) area area 0
  unfolding tried_frame when◌then◌else◌
  tried-none h = rw (lt-leb (length_of m) 192 (omega (arith, e, h))) (record { bytes = over-nil area; count = refl })

  pub tried-some : {r : List ℕ} {k : ℕ} → n ≤ 192 → Wrote (encode 1 m (take (32 * (size_of m).entries) log)) area r k → Wrote (tried_frame log m) area r k
  unfolding tried_frame when◌then◌else◌
  tried-some h q = rw (le-leb (length_of m) 192 (omega (arith, e, h))) q

  pub tried-room : n ≤ 192 → 192 ≤ length log → 192 ≤ length area → Room m (length log) (length area)
  unfolding length_of
  tried-room h l a = record { few = omega (arith, e, h); log = omega (arith, e, h, l); fits = omega (arith, e, h, a) }
