-- The listing (document 01, "Text and listing"): each step is a line, NUMBER RULE [REFERENCES] JUDGEMENT.
-- A comma is byte 44, [ 91, ] 93, a space 32, and byte 10 ends a line.
use Rattle.std.specs.Prelude.{ℕ, List, [], ◌∷◌, ◌++◌, map}
use Rattle.formula.specs.Formula.{Face}
use Rattle.calculus.specs.Judgement.{Judgement, Step}
use Rattle.calculus.specs.Table.{Pred, p_lt, p_le, p_interval, p_face, p_member, p_take, p_cover, p_entails, p_boundary, p_local, p_fforall, p_ishift, p_isubst, p_fshift, p_fsubst, predicate, text_bytes}
use Rattle.calculus.specs.Record.{Field, number, index, context, end, formula, Value, fields, Values, operands}
use Rattle.kinds.specs.Kinds.{name_bytes}
use Rattle.writing.specs.Texts.{list_text, unary_text, face_text, interval_text, formula_text, decimal_text}

-- A context: (fc face rest), and fnil where no face is left.
unfoldable pub context_text : List Face → List ℕ
context_text [] = text_bytes "fnil"
context_text (f ∷ G) = list_text (text_bytes "fc") (face_text f ∷ context_text G ∷ [])

-- What stands in a field.
abbrev pub field_text : (c : Field) → Value c → List ℕ
field_text number n = unary_text n
field_text index k = unary_text k
field_text context G = context_text G
field_text end r = interval_text r
field_text (formula s) t = formula_text s t

-- The texts of values, one for each field.
abbrev pub value_texts : (cs : List Field) → Values cs → List (List ℕ)
value_texts [] xs = []
value_texts (c ∷ cs) xs = field_text c xs.0 ∷ value_texts cs xs.1

-- The name of a predicate.
abbrev pub predicate_name : Pred → List ℕ
predicate_name p_lt = text_bytes "lt"
predicate_name p_le = text_bytes "le"
predicate_name p_interval = text_bytes "interval"
predicate_name p_face = text_bytes "face"
predicate_name p_member = text_bytes "member"
predicate_name p_take = text_bytes "take"
predicate_name p_cover = text_bytes "cover"
predicate_name p_entails = text_bytes "entails"
predicate_name p_boundary = text_bytes "boundary"
predicate_name p_local = text_bytes "local"
predicate_name p_fforall = text_bytes "fforall"
predicate_name p_ishift = text_bytes "ishift"
predicate_name p_isubst = text_bytes "isubst"
predicate_name p_fshift = text_bytes "fshift"
predicate_name p_fsubst = text_bytes "fsubst"

-- The names of the predicates, in document 01's order.
abbrev pub predicate_names : List (List ℕ)
predicate_names = map predicate_name (p_lt ∷ p_le ∷ p_interval ∷ p_face ∷ p_member ∷ p_take ∷ p_cover ∷ p_entails ∷ p_boundary ∷ p_local ∷ p_fforall ∷ p_ishift ∷ p_isubst ∷ p_fshift ∷ p_fsubst ∷ [])

-- A judgement: its predicate and its operands, in printed order.
unfoldable pub judgement_text : Judgement → List ℕ
judgement_text j = list_text (predicate_name (predicate j)) (value_texts (fields (predicate j)) (operands j))

-- References in decimal, commas between them.
unfoldable pub references_text : List ℕ → List ℕ
references_text [] = []
references_text (i ∷ []) = decimal_text i
references_text (i ∷ (j ∷ is)) = decimal_text i ++ (44 ∷ references_text (j ∷ is))

-- What stands before the judgement: the number, the rule's name and the references.
unfoldable pub head_text : ℕ → Step → List ℕ
head_text i s = decimal_text i ++ (32 ∷ name_bytes s.kind ++ (32 ∷ 91 ∷ references_text s.references ++ (93 ∷ 32 ∷ [])))

-- The line of step i.
unfoldable pub line_text : ℕ → Step → List ℕ
line_text i s = head_text i s ++ (judgement_text s.judgement ++ (10 ∷ []))
