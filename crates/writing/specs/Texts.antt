-- What the writer prints of numbers and formulas (document 01, "Text and listing"): one space between items, atoms bare.
-- ( is byte 40, ) 41, a space 32, and the digit 0 is 48.
use Rattle.std.specs.Prelude.{ℕ, zero, suc, ◌+◌, ◌/◌, ◌%◌, List, [], ◌∷◌, ◌++◌, ltb}
use Rattle.formula.specs.declared.Sort.{Sort}
use Rattle.formula.specs.declared.Sort.TheVariants.{Faces, Intervals}
use Rattle.formula.specs.Formula.{lo, hi, Face, ff, ft, at, fand, for, Interval, i0, i1, dim, neg, meet, join}
use Rattle.formula.specs.Bytes.{Tree}
use Rattle.formula.specs.Answers.{pick}
use Rattle.calculus.specs.Table.{text_bytes}

-- The items of a list, each behind a space, and its end.
unfoldable pub items_text : List (List ℕ) → List ℕ
items_text [] = 41 ∷ []
items_text (x ∷ xs) = 32 ∷ x ++ items_text xs

-- A list: a name and items.
abbrev pub list_text : List ℕ → List (List ℕ) → List ℕ
list_text name items = 40 ∷ name ++ items_text items

-- Numbers are unary, z or (s n).
unfoldable pub unary_text : ℕ → List ℕ
unary_text zero = text_bytes "z"
unary_text (suc n) = list_text (text_bytes "s") (unary_text n ∷ [])

unfoldable pub face_text : Face → List ℕ
face_text ff = text_bytes "ff"
face_text ft = text_bytes "ft"
face_text (at lo n) = list_text (text_bytes "at0") (unary_text n ∷ [])
face_text (at hi n) = list_text (text_bytes "at1") (unary_text n ∷ [])
face_text (fand a b) = list_text (text_bytes "fand") (face_text a ∷ face_text b ∷ [])
face_text (for a b) = list_text (text_bytes "for") (face_text a ∷ face_text b ∷ [])

unfoldable pub interval_text : Interval → List ℕ
interval_text i0 = text_bytes "i0"
interval_text i1 = text_bytes "i1"
interval_text (dim n) = list_text (text_bytes "dim") (unary_text n ∷ [])
interval_text (neg r) = list_text (text_bytes "neg") (interval_text r ∷ [])
interval_text (meet r s) = list_text (text_bytes "meet") (interval_text r ∷ interval_text s ∷ [])
interval_text (join r s) = list_text (text_bytes "join") (interval_text r ∷ interval_text s ∷ [])

-- The text of a formula.
abbrev pub formula_text : (s : Sort) → Tree s → List ℕ
formula_text Faces f = face_text f
formula_text Intervals r = interval_text r

-- The decimal digits of a number, at most k of them.
unfoldable pub digits_in : ℕ → ℕ → List ℕ
digits_in zero n = []
digits_in (suc k) n = pick (ltb n 10) ((48 + n) ∷ []) (digits_in k (n / 10) ++ ((48 + n % 10) ∷ []))

-- A number in decimal: it has no more digits than it counts, and one at least.
unfoldable pub decimal_text : ℕ → List ℕ
decimal_text n = digits_in (suc n) n
