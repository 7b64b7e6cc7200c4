-- Laws of the table's bytes and rows. Every byte has a meaning, so that bytes and rows say the same.
--     row-codec, encode-row_of, row_of-at     a row as a cell of 25 bytes
--     left-same                             nothing written
--     leaves-left, left-leaves              what is left, by bytes and by rows
--     left-size                             the run's length is as it was
--     left-stored, shift-write              a row stored at a place: the laws that look at bytes
--     left-cleared                          all rows unused
--     one-content, left-one                 what is left is fixed to the last byte, whichever way it is said
--     byte-lawful                           a row in bytes is a lawful form of row
--     answered-outcome                      a reply that is told has an outcome of 1 to 6, whatever the bytes are
-- Assumes nothing.
use mathlib.Core.Path.{◌≡◌, refl, sym, ap, ◌∙◌}
use mathlib.Core.Bool.{true, false}
use mathlib.Core.List.{List, ◌∷◌, ◌++◌, append_assoc}
use mathlib.Core.Option.{none}
use Rattle.std.specs.Prelude.{Ok, Err}
use Prim.Native.Nat.{ℕ, zero, suc, ◌+◌, ◌-◌, ◌*◌, ◌≤◌, ◌<◌}
use native.Mathlib.Nat.{add-zero}
use native.Mathlib.Omega.{arith}
use lib.ListN.{length, take, drop, replicate, length-append, length-drop, take-append-drop, replicate-append-replicate, length-replicate}
use lib.Seq.{take-add, drop-drop, drop_at, take_at, length-take-le, take-take}
use Rattle.numbers.specs.Numbers.{big, num, over, put_at, Bytes}
use Rattle.numbers.specs.Cells.{packed, Codec}
use Rattle.numbers.proofs.NumberLaws.{be-big, big-num, num-drop, num-front, drop-bytes}
use Rattle.numbers.proofs.CellLaws.{cells-length, cells-drop, cells-take, cells-join, cells-taken, cells-one, cells_same}
use Rattle.numbers.proofs.CellLaws.{packed-append, packed-length, packed-cells}
use Rattle.fees.specs.declared.Outcome.{Outcome}
use Rattle.client_table.specs.Found.{Found, latest_of}
use Rattle.client_table.specs.Leaves.{Leaves}
use Rattle.client_table.specs.Rows.{stored}
use Rattle.client_table.specs.Latest.{kept_of}
use Rattle.client_table.specs.declared.Latest.TheVariants.{Answered}
use Rattle.client_table.proofs.LatestLaws.{kept-ruled, reply-ruled}
use Rattle.client_table_bytes.specs.declared.MarkedRow.{MarkedRow}
use Rattle.client_table_bytes.specs.Layout.{no_row, byte_row, row_of, encode_row, rows_of, rest_of}
use Rattle.client_table_bytes.specs.Steps.{RowFits, RowsLeft}
pub use Rattle.client_table_bytes.specs.Lawful.{byte-lawful}

-- ---- a row as a cell

length-row : (r : MarkedRow) → length (encode_row r) ≡ 25
unfolding encode_row big
length-row r = refl

row-front : (x y : List ℕ) → 25 ≤ length x → row_of (x ++ y) ≡ row_of x
unfolding row_of
row-front x y h =
    rw (
      num-front 8 0 x y (omega arith),
      num-front 8 8 x y (omega arith),
      num-front 1 16 x y (omega arith),
      num-front 8 17 x y (omega arith),
    )

row_back : (r : MarkedRow) (rest : List ℕ) → RowFits r → row_of (encode_row r ++ rest) ≡ r
unfolding row_of encode_row big num
row_back r rest f =
    λ i. record {
      client = be-big 8 r.client f.client i;
      request = be-big 8 r.request f.request i;
      mark = be-big 1 r.mark f.mark i;
      total = be-big 8 r.total f.total i;
    }

pub row-codec : Codec 25 row_of encode_row RowFits
row-codec = record { width = length-row; front = row-front; back = row_back }

-- a row's bytes are those that stand there
pub encode-row_of : (s : List ℕ) → Bytes s → 25 ≤ length s → encode_row (row_of s) ≡ take 25 s
unfolding encode_row row_of
encode-row_of s b h =
    rw (
      big-num 8 0 s b (omega arith),
      big-num 8 8 s b (omega arith),
      big-num 1 16 s b (omega arith),
      big-num 8 17 s b (omega arith),
      ← take-add 8 8 s,
      ← take-add 16 1 s,
      ← take-add 17 8 s,
    )

-- what reading the fields at a place gives
pub row_of-at : (s : List ℕ) (at : ℕ) {client request mark total : ℕ} → client ≡ num 8 at s → request ≡ num 8 (at + 8) s
    → mark ≡ num 1 (at + 16) s → total ≡ num 8 (at + 17) s
    → ◌≡◌ {A = MarkedRow} (record { client = client; request = request; mark = mark; total = total }) (row_of (drop at s))
unfolding row_of
row_of-at s at p q r t =
    rw (num-drop 8 at 0 s, num-drop 8 at 8 s, num-drop 1 at 16 s, num-drop 8 at 17 s, add-zero, ← p, ← q, ← r, ← t)

-- ---- what was left

module _ (n : ℕ) (s : List ℕ) where
  pub length-rows : length (rows_of n s) ≡ n
  length-rows = cells-length 25 row_of n s

  packed-rows : Bytes s → 25 * n ≤ length s → packed encode_row (rows_of n s) ≡ take (25 * n) s
  packed-rows b l = packed-cells 25 row_of encode_row RowFits row-codec encode-row_of n s b l

pub left-same : (n : ℕ) (s : List ℕ) → Bytes s → 25 * n ≤ length s → RowsLeft n s s (rows_of n s)
left-same n s b l = record { bytes = sym (rw (packed-rows n s b l) (take-append-drop (25 * n) s)); rows = refl }

left-length : {n : ℕ} {s t : List ℕ} {rs : List MarkedRow} → RowsLeft n s t rs → length (packed encode_row rs) ≡ 25 * n
left-length {n} {s} {t} {rs} k =
    packed-length 25 row_of encode_row RowFits row-codec rs ∙ ap (λ (m : ℕ). 25 * m) (ap length (sym k.rows) ∙ length-rows n t)

pub left-size : {n : ℕ} {s t : List ℕ} {rs : List MarkedRow} → 25 * n ≤ length s → RowsLeft n s t rs → length t ≡ length s
left-size {n} {s} {t} {rs} l k =
    let e : length t ≡ length (packed encode_row rs) + length (drop (25 * n) s) =
    ap length k.bytes ∙ length-append (packed encode_row rs) (drop (25 * n) s) in
    omega (arith, left-length k, length-drop (25 * n) s)

left-rest : {n : ℕ} {s t : List ℕ} {rs : List MarkedRow} → RowsLeft n s t rs → drop (25 * n) t ≡ drop (25 * n) s
left-rest {n} {s} {t} {rs} k = rw k.bytes (drop_at (packed encode_row rs) (drop (25 * n) s) (25 * n) (left-length k))

-- what is left of bytes, by rows and by bytes: the same
pub leaves-left : {n : ℕ} {s t : List ℕ} {rs : List MarkedRow} → 25 * n ≤ length s → RowsLeft n s t rs → Leaves rows_of rest_of n s t rs
leaves-left l k = record { rows = k.rows; rest = left-rest k; len = left-size l k }

pub left-leaves : {n : ℕ} {s t : List ℕ} {rs : List MarkedRow} → Bytes t → 25 * n ≤ length s → Leaves rows_of rest_of n s t rs → RowsLeft n s t rs
left-leaves {n} {s} {t} {rs} b l k =
    let e : packed encode_row rs ≡ take (25 * n) t =
    ap (packed encode_row) (sym k.rows) ∙ packed-rows n t b (omega (arith, k.len)) in
    record {
      bytes =
          sym (ap (λ (x : List ℕ). take (25 * n) t ++ x) (sym k.rest) ∙ take-append-drop (25 * n) t) ∙ ap (λ (x : List ℕ). x ++ drop (25 * n) s) (sym e);
      rows = k.rows;
    }

pub one-content : {n : ℕ} {s t u : List ℕ} {rs : List MarkedRow} → RowsLeft n s t rs → RowsLeft n s u rs → t ≡ u
one-content k m = k.bytes ∙ sym m.bytes

pub left-one : {n : ℕ} {s t u : List ℕ} {rs : List MarkedRow} → Bytes t → Bytes u → 25 * n ≤ length s → Leaves rows_of rest_of n s t rs
    → Leaves rows_of rest_of n s u rs → t ≡ u
left-one b c l k m = one-content (left-leaves b l k) (left-leaves c l m)

-- ---- a row stored

-- the run after the rows of place `at` up to `to` went up, and the row was written
abbrev pub shifted : (at to : ℕ) → MarkedRow → List ℕ → List ℕ
shifted at to r s = take (25 * at) s ++ (encode_row r ++ (take (25 * (to - at)) (drop (25 * at) s) ++ drop (25 * (to + 1)) s))

regroup : (a b c d e : List ℕ) → a ++ (b ++ c) ++ d ++ e ≡ a ++ (b ++ (c ++ (d ++ e)))
regroup a b c d e = simp append_assoc

module _ (n at to : ℕ) (r : MarkedRow) (s : List ℕ) (a : at ≤ to) (t : to < n) (l : 25 * n ≤ length s) where
  abbrev below : List MarkedRow
  below = rows_of at s

  abbrev between : List MarkedRow
  between = rows_of (to - at) (drop (25 * at) s)

  abbrev above : List MarkedRow
  above = rows_of (n - (to + 1)) (drop (25 * (to + 1)) s)

  parts : stored byte_row at to r (rows_of n s) ≡ below ++ r ∷ between ++ above
  unfolding stored
  parts =
      rw (
        cells-take 25 row_of n s at (omega arith),
        cells-drop 25 row_of n s at,
        cells-take 25 row_of (n - at) (drop (25 * at) s) (to - at) (omega arith),
        cells-drop 25 row_of n s (to + 1),
      )

  stored-rows : RowFits r → rows_of n (shifted at to r s) ≡ below ++ r ∷ between ++ above
  stored-rows f =
      let m = n - (to + 1) in
      let mid = take (25 * (to - at)) (drop (25 * at) s) in
      let e : n ≡ at + suc (to - at + m) = omega arith in
      let d : 25 * (to - at) ≤ length (drop (25 * at) s) = simp length-drop (omega arith) in
      ap (λ (k : ℕ). rows_of k (shifted at to r s)) e
      ∙ rw (
        cells-join 25 row_of encode_row RowFits row-codec at (suc (to - at + m)) (take (25 * at) s)
            (encode_row r ++ (mid ++ drop (25 * (to + 1)) s)) (length-take-le (25 * at) s (omega arith)),
        cells-one 25 row_of encode_row RowFits row-codec (to - at + m) r (mid ++ drop (25 * (to + 1)) s) f,
        cells-join 25 row_of encode_row RowFits row-codec (to - at) m mid (drop (25 * (to + 1)) s)
            (length-take-le (25 * (to - at)) (drop (25 * at) s) d),
        cells-taken 25 row_of encode_row RowFits row-codec at s (omega arith),
        cells-taken 25 row_of encode_row RowFits row-codec (to - at) (drop (25 * at) s) d,
      )
      (sym (append_assoc below (r ∷ between) above))

  stored_bytes : Bytes s → shifted at to r s ≡ packed encode_row (below ++ r ∷ between ++ above) ++ drop (25 * n) s
  unfolding packed
  stored_bytes b =
      let m = n - (to + 1) in
      let d : 25 * (to - at) ≤ length (drop (25 * at) s) = simp length-drop (omega arith) in
      let g : 25 * m ≤ length (drop (25 * (to + 1)) s) = simp length-drop (omega arith) in
      let e : 25 * n ≡ 25 * (to + 1) + 25 * m = omega arith in
      let rest : drop (25 * n) s ≡ drop (25 * m) (drop (25 * (to + 1)) s) = rw (e, drop-drop) in
      sym (rw (
        packed-append encode_row (below ++ r ∷ between) above,
        packed-append encode_row below (r ∷ between),
        packed-rows at s b (omega arith),
        packed-rows (to - at) (drop (25 * at) s) (drop-bytes (25 * at) s b) d,
        packed-rows m (drop (25 * (to + 1)) s) (drop-bytes (25 * (to + 1)) s b) g,
        rest,
      )
      (regroup (take (25 * at) s) (encode_row r) (take (25 * (to - at)) (drop (25 * at) s)) (take (25 * m) (drop (25 * (to + 1)) s))
      (drop (25 * m) (drop (25 * (to + 1)) s))
      ∙ ap (λ (x : List ℕ). take (25 * at) s ++ (encode_row r ++ (take (25 * (to - at)) (drop (25 * at) s) ++ x)))
      (take-append-drop (25 * m) (drop (25 * (to + 1)) s))))

  pub left-stored : {u : List ℕ} → u ≡ shifted at to r s → Bytes s → RowFits r → RowsLeft n s u (stored byte_row at to r (rows_of n s))
  left-stored {u} p b f = record { bytes = p ∙ rw parts (stored_bytes b); rows = rw (p, parts) (stored-rows f) }

-- the part that went up came back, and the row was written at its front
pub shift-write : (at to : ℕ) (r : MarkedRow) (s : List ℕ) {part : List ℕ} → at ≤ to → 25 * to + 25 ≤ length s
    → part ≡ (let q = take (25 * to + 25 - 25 * at) (drop (25 * at) s) in take 25 q ++ take (length q - 25) q)
    → put_at (25 * at) (encode_row r) (take (25 * at) s ++ (part ++ drop (25 * to + 25 - 25 * at) (drop (25 * at) s))) ≡ shifted at to r s
unfolding put_at over
shift-write at to r s {part} a l p =
    let g = 25 * to + 25 - 25 * at in
    let q = take g (drop (25 * at) s) in
    let rest = drop g (drop (25 * at) s) in
    let d : g ≤ length (drop (25 * at) s) = simp length-drop (omega arith) in
    let k : length q ≡ g = length-take-le g (drop (25 * at) s) d in
    let f : length (take (25 * at) s) ≡ 25 * at = length-take-le (25 * at) s (omega arith) in
    let m : length q - 25 ≡ 25 * (to - at) = omega arith in
    let c : length (take 25 q) ≡ 25 = length-take-le 25 q (omega arith) in
    let z : take (length q - 25) q ≡ take (25 * (to - at)) (drop (25 * at) s) =
    rw m (take-take (25 * (to - at)) g (drop (25 * at) s) (omega arith)) in
    let e : 25 * at + g ≡ 25 * (to + 1) = omega arith in
    let y : rest ≡ drop (25 * (to + 1)) s = rw (drop-drop, e) in
    let w : drop 25 (part ++ rest) ≡ take (25 * (to - at)) (drop (25 * at) s) ++ drop (25 * (to + 1)) s =
    rw (p, append_assoc (take 25 q) (take (length q - 25) q) rest, drop_at (take 25 q) (take (length q - 25) q ++ rest) 25 c, z, y) in
    rw (take_at (take (25 * at) s) (part ++ rest) (25 * at) f, drop_at (take (25 * at) s) (part ++ rest) (25 * at) f, length-row r, w)

-- ---- all rows unused

no-fits : RowFits no_row
no-fits = record { client = omega arith; request = omega arith; mark = omega arith; total = omega arith }

zeros : (n : ℕ) → replicate (25 * n) 0 ≡ packed encode_row (replicate n no_row)
unfolding packed encode_row big
zeros zero = refl
zeros (suc n) =
    let e : 25 * suc n ≡ 25 + 25 * n = omega arith in
    rw (e, ← replicate-append-replicate {A = ℕ} 25 (25 * n) 0, zeros n)

pub left-cleared : (n : ℕ) {s u : List ℕ} → u ≡ over (replicate (25 * n) 0) s → RowsLeft n s u (replicate n no_row)
unfolding over
left-cleared n {s} {u} p =
    let q : u ≡ packed encode_row (replicate n no_row) ++ drop (25 * n) s = p ∙ rw (length-replicate {A = ℕ} (25 * n) 0, zeros n) in
    record { bytes = q; rows = rw q (cells_same 25 row_of encode_row RowFits row-codec n no_row (drop (25 * n) s) no-fits) }

-- ---- a reply that is told, whatever the bytes are

pub answered-outcome : (f : Found MarkedRow) {number : ℕ} {o : Outcome} → latest_of byte_row f ≡ Answered number o → (1 ≤ o.code) × (o.code ≤ 6)
answered-outcome (Ok p) q = reply-ruled true p.1.request (kept_of p.1.mark p.1.total) (kept-ruled p.1.mark p.1.total) q
answered-outcome (Err p) q = reply-ruled false 0 none tt q
