-- Laws of a number that is written, from its last figure up.
--     Done                  the figures of x but the first i stand in the area, and those first i are the figures of y
--     done_none, done_more  none written; one more
--     done_end              the first written too
--     done-large, done-small    what the count of figures left says of y
-- Assumes nothing.
use mathlib.Core.Path.{◌≡◌, refl, sym, ap, ◌∙◌}
use mathlib.Core.List.{List, [], ◌∷◌, ◌++◌, append-nil, append_assoc}
use Prim.Native.Nat.{ℕ, suc, ◌-◌, ◌/◌, ◌%◌, ◌≤◌, ◌<◌}
use native.Mathlib.Omega.{arith}
use lib.ListN.{length, take, drop, set, length-append, length-set, take-append-drop}
use lib.Seq.{drop-length, drop_at}
use Rattle.numbers.specs.Numbers.{over}
use Rattle.numbers.proofs.RunLaws.{set_front}
use Rattle.decimal.specs.Decimal.{figure, decimal}
use Rattle.decimal.proofs.FigureLaws.{by_size, decimal-one, decimal-more, length-one, length_more}
use Rattle.decimal.proofs.DecimalLaws.{decimal-there}

pub record Done (a₀ a : List ℕ) (x y i : ℕ) : Type 0 where
  pub same : length a ≡ length a₀
  pub count : i ≡ length (decimal y)
  pub rest : decimal x ≡ decimal y ++ drop i (decimal x)
  pub run : a ≡ take i a₀ ++ (drop i (decimal x) ++ drop (length (decimal x)) a₀)

pub done_none : (a : List ℕ) (x k : ℕ) → k ≡ length (decimal x) → Done a a x x k
done_none a x k e =
    let d : drop k (decimal x) ≡ [] = rw e (drop-length (decimal x)) in
    record {
      same = refl;
      count = e;
      rest = rw d (sym (append-nil (decimal x)));
      run = rw (d, ← e) (sym (take-append-drop k a));
    }

pub done-within : (a₀ a : List ℕ) (x y i : ℕ) → Done a₀ a x y i → i ≤ length (decimal x)
done-within a₀ a x y i h = omega (arith, ap length h.rest ∙ length-append (decimal y) (drop i (decimal x)), h.count)

pub done-large : (a₀ a : List ℕ) (x y i : ℕ) → Done a₀ a x y i → 1 < i → 10 ≤ y
done-large a₀ a x y i h g = by_size y (λ l. l) (λ l. omega (arith, length-one y l, h.count))

pub done-small : (a₀ a : List ℕ) (x y i : ℕ) → Done a₀ a x y i → i ≤ 1 → y < 10
done-small a₀ a x y i h g = by_size y (λ l. omega (arith, length_more y l, decimal-there (y / 10), h.count)) (λ l. l)

-- a store of the figure before those that are written
store : (a₀ w p t d : List ℕ) (b j : ℕ) → j < length a₀ → w ≡ p ++ b ∷ t → length p ≡ j
    → set (take (suc j) a₀ ++ (t ++ d)) j b ≡ take j a₀ ++ (drop j w ++ d)
store a₀ w p t d b j h e l = rw (e, drop_at p (b ∷ t) j l) (set_front a₀ (t ++ d) j b h)

pub done_more : (a₀ a : List ℕ) (x y i : ℕ) → length (decimal x) ≤ length a₀ → Done a₀ a x y i → 1 < i
    → Done a₀ (set a (i - 1) (figure (y % 10))) x (y / 10) (i - 1)
done_more a₀ a x y i f h g =
    let l = done-large a₀ a x y i h g in
    let t = drop i (decimal x) in
    let c : i - 1 ≡ length (decimal (y / 10)) = omega (arith, h.count, length_more y l) in
    let e : decimal x ≡ decimal (y / 10) ++ figure (y % 10) ∷ t =
    h.rest ∙ ap (λ (s : List ℕ). s ++ t) (decimal-more y l) ∙ append_assoc (decimal (y / 10)) (figure (y % 10) ∷ []) t in
    let d : drop (i - 1) (decimal x) ≡ figure (y % 10) ∷ t =
    ap (drop (i - 1)) e ∙ drop_at (decimal (y / 10)) (figure (y % 10) ∷ t) (i - 1) (sym c) in
    let s : suc (i - 1) ≡ i = omega arith in
    let w = store a₀ (decimal x) (decimal (y / 10)) t (drop (length (decimal x)) a₀) (figure (y % 10)) (i - 1) (omega (arith, done-within a₀ a x y i h)) e (sym c) in
    record {
      same = length-set a (i - 1) (figure (y % 10)) ∙ h.same;
      count = c;
      rest = e ∙ ap (λ (s : List ℕ). decimal (y / 10) ++ s) (sym d);
      run = ap (λ (r : List ℕ). set r (i - 1) (figure (y % 10))) h.run ∙ rw s at w;
    }

pub done_end : (a₀ a : List ℕ) (x y i : ℕ) → length (decimal x) ≤ length a₀ → Done a₀ a x y i → i ≤ 1 → set a 0 (figure y) ≡ over (decimal x) a₀
unfolding over
done_end a₀ a x y i f h g =
    let l = done-small a₀ a x y i h g in
    let o : i ≡ 1 = omega (arith, h.count, length-one y l) in
    let e : decimal x ≡ figure y ∷ drop i (decimal x) = h.rest ∙ ap (λ (s : List ℕ). s ++ drop i (decimal x)) (decimal-one y l) in
    let w = store a₀ (decimal x) [] (drop i (decimal x)) (drop (length (decimal x)) a₀) (figure y) 0 (omega (arith, done-within a₀ a x y i h)) e refl in
    ap (λ (r : List ℕ). set r 0 (figure y)) (h.run ∙ ap (λ (j : ℕ). take j a₀ ++ (drop i (decimal x) ++ drop (length (decimal x)) a₀)) o) ∙ w
