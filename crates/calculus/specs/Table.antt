-- The table of kinds: each kind has a fixed name, reference count and predicate (document 01, "Rules, kinds 1 to 75 in this order").
use Rattle.std.specs.Prelude.{◌≡◌, List, [], ◌∷◌, ℕ, zero, suc, get_or}
use Prim.Native.Char.{code}
use Prim.Native.String.{String, [] as end, ◌∷◌ as ◌then◌}
use Rattle.calculus.specs.Judgement.{Judgement, lt, le, interval, face, member, take, cover, entails, boundary, local, fforall, ishift, isubst, fshift, fsubst}

-- The fifteen predicates.
pub data Pred : Type 0 where
  p_lt p_le p_interval p_face p_member p_take p_cover p_entails p_boundary p_local p_fforall p_ishift p_isubst p_fshift p_fsubst : Pred
  deriving Discrete as Pred-discrete

-- The predicate of a judgement.
abbrev pub predicate : Judgement → Pred
predicate (lt m n) = p_lt
predicate (le m n) = p_le
predicate (interval d r) = p_interval
predicate (face d f) = p_face
predicate (member f G) = p_member
predicate (take G f D) = p_take
predicate (cover G g) = p_cover
predicate (entails d a b) = p_entails
predicate (boundary r a b) = p_boundary
predicate (local d f r e) = p_local
predicate (fforall f k g) = p_fforall
predicate (ishift r k s) = p_ishift
predicate (isubst r k t s) = p_isubst
predicate (fshift f k g) = p_fshift
predicate (fsubst f k t g) = p_fsubst

-- What the table says of a number: name, reference count and predicate of a kind, or that it is no kind.
pub data Entry : Type 0 where
  entry : String → ℕ → Pred → Entry
  unlisted : Entry

-- The entries of the kinds 1 to 75.
unfoldable pub table : List Entry
table =
    entry "lt.z" 0 p_lt ∷
    entry "lt.s" 1 p_lt ∷
    entry "le.z" 0 p_le ∷
    entry "le.s" 1 p_le ∷
    entry "interval.0" 0 p_interval ∷
    entry "interval.1" 0 p_interval ∷
    entry "interval.dim" 1 p_interval ∷
    entry "interval.neg" 1 p_interval ∷
    entry "interval.meet" 2 p_interval ∷
    entry "interval.join" 2 p_interval ∷
    entry "face.ff" 0 p_face ∷
    entry "face.ft" 0 p_face ∷
    entry "face.0" 1 p_face ∷
    entry "face.1" 1 p_face ∷
    entry "face.and" 2 p_face ∷
    entry "face.or" 2 p_face ∷
    entry "member.here" 0 p_member ∷
    entry "member.there" 1 p_member ∷
    entry "take.here" 0 p_take ∷
    entry "take.there" 1 p_take ∷
    entry "cover.top" 0 p_cover ∷
    entry "cover.hit" 1 p_cover ∷
    entry "cover.absurd" 1 p_cover ∷
    entry "cover.clash" 2 p_cover ∷
    entry "cover.and-left" 2 p_cover ∷
    entry "cover.or-left" 3 p_cover ∷
    entry "cover.and-right" 2 p_cover ∷
    entry "cover.or-right0" 1 p_cover ∷
    entry "cover.or-right1" 1 p_cover ∷
    entry "entails.checked" 3 p_entails ∷
    entry "boundary.0" 0 p_boundary ∷
    entry "boundary.1" 0 p_boundary ∷
    entry "boundary.dim" 0 p_boundary ∷
    entry "boundary.neg" 1 p_boundary ∷
    entry "boundary.meet" 2 p_boundary ∷
    entry "boundary.join" 2 p_boundary ∷
    entry "local.0" 3 p_local ∷
    entry "local.1" 3 p_local ∷
    entry "fforall.ff" 0 p_fforall ∷
    entry "fforall.ft" 0 p_fforall ∷
    entry "fforall.0.hit" 0 p_fforall ∷
    entry "fforall.0.lt" 1 p_fforall ∷
    entry "fforall.0.gt" 1 p_fforall ∷
    entry "fforall.1.hit" 0 p_fforall ∷
    entry "fforall.1.lt" 1 p_fforall ∷
    entry "fforall.1.gt" 1 p_fforall ∷
    entry "fforall.and" 2 p_fforall ∷
    entry "fforall.or" 2 p_fforall ∷
    entry "ishift.0" 0 p_ishift ∷
    entry "ishift.1" 0 p_ishift ∷
    entry "ishift.dim.lt" 1 p_ishift ∷
    entry "ishift.dim.ge" 1 p_ishift ∷
    entry "ishift.neg" 1 p_ishift ∷
    entry "ishift.meet" 2 p_ishift ∷
    entry "ishift.join" 2 p_ishift ∷
    entry "isubst.0" 0 p_isubst ∷
    entry "isubst.1" 0 p_isubst ∷
    entry "isubst.dim.lt" 1 p_isubst ∷
    entry "isubst.dim.hit" 0 p_isubst ∷
    entry "isubst.dim.gt" 1 p_isubst ∷
    entry "isubst.neg" 1 p_isubst ∷
    entry "isubst.meet" 2 p_isubst ∷
    entry "isubst.join" 2 p_isubst ∷
    entry "fshift.ff" 0 p_fshift ∷
    entry "fshift.ft" 0 p_fshift ∷
    entry "fshift.0" 1 p_fshift ∷
    entry "fshift.1" 1 p_fshift ∷
    entry "fshift.and" 2 p_fshift ∷
    entry "fshift.or" 2 p_fshift ∷
    entry "fsubst.ff" 0 p_fsubst ∷
    entry "fsubst.ft" 0 p_fsubst ∷
    entry "fsubst.0" 2 p_fsubst ∷
    entry "fsubst.1" 2 p_fsubst ∷
    entry "fsubst.and" 2 p_fsubst ∷
    entry "fsubst.or" 2 p_fsubst ∷
    []

-- The entry of a number.
abbrev pub entry_of : ℕ → Entry
entry_of zero = unlisted
entry_of (suc k) = get_or table k unlisted

-- Number k is a kind with this reference count and predicate.
pub record Listed (k n : ℕ) (p : Pred) : Type 0 where
  pub name : String
  pub listed : entry_of k ≡ entry name n p

-- The bytes of a name.
unfoldable pub text_bytes : String → List ℕ
text_bytes end = []
text_bytes (c then s) = code c ∷ text_bytes s
