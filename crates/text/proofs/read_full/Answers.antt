-- A read's bytes stand behind those that came before it.
use Rattle.std.proofs.Common.{◌≡◌, ℕ, ◌+◌, ◌≤◌, List, ◌++◌, rules, length, take, sym, ap, ◌∙◌, subst, length-take-le}
use Rattle.std.proofs.KnownBytes.{Consumes-trans}
use Rattle.std.proofs.Math.Seq.{take-append-add}
use Rattle.std.proofs.lemmas.List.{take-append-le}
use Rattle.std.specs.Io.KnownBytes.{Consumes}
use borrow.Rule.Slice.PartMut.{put_mid, post_of}
use Rattle.text.proofs.read_full.Goals as goal

-- the front and n bytes of what was put behind it
taken-put_mid : (a k n : ℕ) (xs ys : List ℕ) → a ≤ length xs → n ≤ length ys → take a xs ++ take n ys ≡ take (a + n) (put_mid a k xs ys)
taken-put_mid a k n xs ys within fits =
    let behind = ys ++ post_of a k xs in
    sym (ap (λ m. take (m + n) (take a xs ++ behind)) (sym (length-take-le a xs within)) ∙ take-append-add (take a xs) behind n ∙ ap (λ l. take a xs ++ l) (take-append-le n ys (post_of a k xs) fits))

pub loop-n-preserved : goal.loop-n-preserved
loop-n-preserved g c =
    (search rules, subst (Consumes _ _) (taken-put_mid c.loop-n.n _ c.in_ok-more.more c.loop-n.area c.read.new.buf c.loop-n.invariant.0 (search rules)) (Consumes-trans _ _ _ _ _ c.loop-n.invariant.1 c.in_ok-more.ensures.bytes.0))
