-- What is said, byte for byte.
use Rattle.std.specs.Prelude.{ℕ, ◌/◌, ◌%◌, true, List, [], ◌∷◌, ◌++◌, codes, ◌==◌, if◌then◌else◌}
use Rattle.std.specs.List.{flat_map}
use Rattle.std.specs.Fmt.{decimal, digit_glyph}

-- a byte as two digits, the letters large
abbrev pub hex_pair : ℕ → List ℕ
hex_pair b = digit_glyph true (b / 16) ∷ digit_glyph true (b % 16) ∷ []

-- the bytes, each after a space
abbrev pub spaced_pairs : List ℕ → List ℕ
spaced_pairs s = flat_map (λ b. 32 ∷ hex_pair b) s

-- document 01's name of a kind
abbrev pub name_of_kind : ℕ → List ℕ
name_of_kind k =
    if k == 1 then codes "Request" else (
    if k == 2 then codes "Prepare" else (
    if k == 3 then codes "PrepareOk" else (
    if k == 4 then codes "Commit" else (
    if k == 5 then codes "GetState" else (
    if k == 6 then codes "NewState" else (
    if k == 7 then codes "StartViewChange" else (
    if k == 8 then codes "DoViewChange" else (
    if k == 9 then codes "StartView" else (
    if k == 10 then codes "Recovery" else (
    if k == 11 then codes "RecoveryResponse" else (
    if k == 12 then codes "Reply" else codes "no kind")))))))))))

-- a kind's number and name
abbrev pub kind_text : ℕ → List ℕ
kind_text k = codes "kind " ++ decimal k ++ 32 ∷ [] ++ name_of_kind k
