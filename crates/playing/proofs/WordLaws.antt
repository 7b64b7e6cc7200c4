-- What `{:016x}` writes of a number: its digits, with the zeros in front. Assumes nothing.
use Rattle.std.proofs.Common.{◌≡◌, ℕ, ◌-◌, ◌^◌, false, [], ◌++◌, length, replicate, ap, arith}
use Rattle.std.proofs.lemmas.List.{append-nil}
use Rattle.std.specs.Fmt.{digits, padded_integral, format_spec, char_count}
use Rattle.playing.specs.Words.{digest_text}

pub sixteen-digits : (x : ℕ) → padded_integral (format_spec 32 0 4 16 (2 ^ 64 - 1)) false [] (digits 16 false x) ≡ digest_text x
unfolding padded_integral char_count
sixteen-digits x =
    let n = length (digits 16 false x) in
    let zeros : 16 - n - 0 - 0 ≡ 16 - n = omega arith in
    simp append-nil (ap (λ k. replicate k 48 ++ digits 16 false x) zeros)
