-- Definitions that only the contracts of private functions cite; no public contract rests on them.
-- Here: the rows of the calculus as items.
use Rattle.std.specs.Prelude.{List, [], ◌∷◌, ◌++◌, map, ℕ, suc, ◌+◌, ◌-◌, ◌*◌, length, get_or, replicate, take, drop}
use Rattle.formula.specs.Formula.{lo, hi, ff, i0}
use Rattle.formula.specs.Bytes.{dim_bytes}
use Rattle.calculus.specs.Table.{predicate}
use Rattle.calculus.proofs.Rows.{NumP, nz, nv, ns, FaceP, fv, Ff, Ft, At, And, Or, IntP, iv, I0, I1, Dim, Neg, Meet, Join, CtxP, cv, Nil, ◌◂◌, JudP, Lt, Le, Int, Fac, Mem, Tak, Cov, Ent, Bnd, Loc, All, Ish, Isu, Fsh, Fsu, Row, conclusion, premises, Env, inst}
use Rattle.kinds.specs.Kinds.{number_of}
use Rattle.rows.specs.declared.TheConstants.{LINES, STARTS}
use Rattle.rows.specs.declared.Token.{Token}
use Rattle.rows.specs.declared.Token.TheVariants.{Byte as byte, Number as number, Slot as slot, Front as front, Done as done, Pad as pad}
use Rattle.rows.specs.declared.Item.{Item}
use Rattle.rows.specs.declared.Item.TheVariants.{Claim as claim, Inside as inside}

-- The tokens of a number: zero's bytes, a variable, one above it.
abbrev pub flat_n : NumP → List Token
flat_n nz = map byte (dim_bytes 0)
flat_n (nv v) = number 0 v ∷ []
flat_n (ns v) = number 1 v ∷ []

-- The tokens of a face, in the order of its bytes.
unfoldable pub flat_f : FaceP → List Token
flat_f (fv v) = slot (3 * v) ∷ []
flat_f Ff = byte 0 ∷ []
flat_f Ft = byte 1 ∷ []
flat_f (At lo n) = byte 2 ∷ flat_n n
flat_f (At hi n) = byte 3 ∷ flat_n n
flat_f (And p q) = byte 4 ∷ (flat_f p ++ flat_f q)
flat_f (Or p q) = byte 5 ∷ (flat_f p ++ flat_f q)

-- The tokens of an interval.
unfoldable pub flat_i : IntP → List Token
flat_i (iv v) = slot (3 * v + 1) ∷ []
flat_i I0 = byte 16 ∷ []
flat_i I1 = byte 17 ∷ []
flat_i (Dim n) = byte 18 ∷ flat_n n
flat_i (Neg p) = byte 19 ∷ flat_i p
flat_i (Meet p q) = byte 20 ∷ (flat_i p ++ flat_i q)
flat_i (Join p q) = byte 21 ∷ (flat_i p ++ flat_i q)

-- How many faces stand in front of the rest of a context.
unfoldable pub fronts : CtxP → ℕ
fronts (cv v) = 0
fronts Nil = 0
fronts (p ◂ c) = suc (fronts c)

-- The tokens of a context behind its count.
unfoldable pub flat_faces : CtxP → List Token
flat_faces (cv v) = slot (3 * v + 2) ∷ []
flat_faces Nil = done ∷ []
flat_faces (p ◂ c) = flat_f p ++ flat_faces c

-- The tokens of a context.
abbrev pub flat_c : CtxP → List Token
flat_c c = front (fronts c) ∷ flat_faces c

-- The tokens of a judgement: its operands in printed order.
abbrev pub flat_j : JudP → List Token
flat_j (Lt m n) = flat_n m ++ flat_n n
flat_j (Le m n) = flat_n m ++ flat_n n
flat_j (Int d r) = flat_n d ++ flat_i r
flat_j (Fac d f) = flat_n d ++ flat_f f
flat_j (Mem f G) = flat_f f ++ flat_c G
flat_j (Tak G f D) = flat_c G ++ (flat_f f ++ flat_c D)
flat_j (Cov G g) = flat_c G ++ flat_f g
flat_j (Ent d a b) = flat_n d ++ (flat_f a ++ flat_f b)
flat_j (Bnd r a b) = flat_i r ++ (flat_f a ++ flat_f b)
flat_j (Loc d p r e) = flat_n d ++ (flat_f p ++ (flat_i r ++ flat_i e))
flat_j (All f k o) = flat_f f ++ (flat_n k ++ flat_f o)
flat_j (Ish r k o) = flat_i r ++ (flat_n k ++ flat_i o)
flat_j (Isu r k s o) = flat_i r ++ (flat_n k ++ (flat_i s ++ flat_i o))
flat_j (Fsh f k o) = flat_f f ++ (flat_n k ++ flat_f o)
flat_j (Fsu f k s o) = flat_f f ++ (flat_n k ++ (flat_i s ++ flat_f o))

-- Variables that stand for nothing in particular.
abbrev pub blank : Env
blank = record { num = λ _. 0; fac = λ _. ff; itv = λ _. i0; ctx = λ _. [] }

-- The number of a pattern's predicate, which no variable changes.
abbrev pub pattern_number : JudP → ℕ
pattern_number p = number_of (predicate (inst blank p))

-- A judgement's tokens fill its line: ten with its predicate.
abbrev pub padded : List Token → List Token
padded ts = ts ++ replicate (9 - length ts) pad

-- The items of a judgement's line.
abbrev pub line_items : JudP → List Item
line_items p = claim (pattern_number p) ∷ map inside (padded (flat_j p))

-- The lines of a row, the conclusion first.
abbrev pub lines_in : Row → List (List Item)
lines_in r = map line_items (conclusion r ∷ premises r)

-- The elements from number a up to b.
abbrev pub part : {A : Type 0} → List A → ℕ → ℕ → List A
part l a b = take (b - a) (drop a l)

-- The lines of the table in the code, and where the row of kind k + 1 begins in it.
unfoldable pub all_lines : List (List Item)
all_lines = LINES

unfoldable pub start_at : ℕ → ℕ
start_at k = get_or STARTS k 0

-- Lines one after another.
unfoldable pub joined : List (List Item) → List Item
joined [] = []
joined (r ∷ rs) = r ++ joined rs
