-- RFC 4180, what a file of rows is: a row is its fields parted by commas, and ends by CRLF, which may be missing behind the last row. A field is plain, its very
-- bytes, which are 32 to 126 and no quote and no comma; or quoted: it stands between two quotes, may hold commas, CR and LF too, and each quote of it is
-- written twice. Assumes nothing.
use Rattle.std.specs.Prelude.{◌≡◌, Bool, true, not, List, [], ◌∷◌, ◌++◌, ◌⊎◌, ℕ, eqb}
use Rattle.numbers.specs.Words.{when◌then◌else◌, ◌and◌, ◌or◌}
use Rattle.numbers.specs.Numbers.{within}

abbrev pub quote : ℕ
quote = 34

abbrev pub comma : ℕ
comma = 44

abbrev pub crlf : List ℕ
crlf = 13 ∷ 10 ∷ []

-- a byte of a plain field (the RFC's TEXTDATA), and one of a quoted field
unfoldable pub is_text : ℕ → Bool
is_text b = within 32 126 b and not (eqb b quote) and not (eqb b comma)

unfoldable pub is_quotable : ℕ → Bool
is_quotable b = is_text b or eqb b quote or eqb b comma or eqb b 13 or eqb b 10

unfoldable pub all_of : (ℕ → Bool) → List ℕ → Bool
all_of p [] = true
all_of p (b ∷ s) = p b and all_of p s

-- each quote twice
unfoldable pub quotes_doubled : List ℕ → List ℕ
quotes_doubled [] = []
quotes_doubled (b ∷ s) = when eqb b quote then quote ∷ quote ∷ quotes_doubled s else b ∷ quotes_doubled s

unfoldable pub quoted : List ℕ → List ℕ
quoted f = quote ∷ quotes_doubled f ++ quote ∷ []

-- a field, and a text of it
abbrev pub FieldText : (field text : List ℕ) → Type 0
FieldText f t = ((t ≡ f) × (all_of is_text f ≡ true)) ⊎ ((t ≡ quoted f) × (all_of is_quotable f ≡ true))

-- a row of one field or more, and a text of it
unfoldable pub RowText : (row : List (List ℕ)) (text : List ℕ) → Type 0
RowText [] t = ⊥
RowText (f ∷ []) t = FieldText f t
RowText (f ∷ g ∷ fs) t = (a b : List ℕ) × (t ≡ a ++ comma ∷ b) × FieldText f a × RowText (g ∷ fs) b

-- a file of one row or more: each ends by CRLF, but for the last, which may end without
unfoldable pub FileText : (rows : List (List (List ℕ))) (file : List ℕ) → Type 0
FileText [] t = ⊥
FileText (r ∷ []) t = (a : List ℕ) × RowText r a × ((t ≡ a) ⊎ (t ≡ a ++ crlf))
FileText (r ∷ q ∷ rs) t = (a b : List ℕ) × (t ≡ a ++ crlf ++ b) × RowText r a × FileText (q ∷ rs) b

-- the front of a file: rows, each of which ends by CRLF
unfoldable pub RowsText : (rows : List (List (List ℕ))) (text : List ℕ) → Type 0
RowsText [] t = t ≡ []
RowsText (r ∷ rs) t = (a b : List ℕ) × (t ≡ a ++ crlf ++ b) × RowText r a × RowsText rs b
