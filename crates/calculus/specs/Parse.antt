-- Reading a ledger's bytes (document 01, question 1 and "The ledger"), and the part of them that is a judgement.
use Rattle.std.specs.Prelude.{Bool, true, false, ◌&&◌, List, [], ◌∷◌, map, ℕ, zero, suc, ◌+◌, ◌*◌, leb, ltb, eqb, length, get_or, drop}
use Rattle.std.proofs.Math.Option.{Option, none, some}
use Rattle.std.proofs.Math.ListN
use Rattle.formula.specs.declared.Sort.TheVariants.{Faces, Intervals}
use Rattle.formula.specs.Formula.{Face}
use Rattle.formula.specs.Bytes.{Got, nothing, got, then, take_dim, read, wholly}
use Rattle.calculus.specs.Judgement.{Judgement, lt, le, interval, face, member, take, cover, entails, boundary, local, fforall, ishift, isubst, fshift, fsubst, Step}
use Rattle.calculus.specs.Table.{Pred, p_lt, p_le, p_interval, p_face, p_member, p_take, p_cover, p_entails, p_boundary, p_local, p_fforall, p_ishift, p_isubst, p_fshift, p_fsubst, Entry, entry, unlisted, entry_of}
use Rattle.calculus.specs.Record.{Field, number, index, context, end, formula, Value, allowed, fields, Values, operand_bytes, max_ledger}

-- What was read, provided that the test passes.
abbrev pub only : {A : Type 0} → Bool → Got A → Got A
only true r = r
only false r = nothing

-- A number of so many bytes, the lowest first.
unfoldable pub take_little : ℕ → List ℕ → Got ℕ
take_little zero l = got 0 l
take_little (suc w) [] = nothing
take_little (suc w) (b ∷ l) = then (take_little w l) (λ n. got (b + 256 * n))

-- So many bytes.
unfoldable pub take_part : ℕ → List ℕ → Got (List ℕ)
take_part n l = only (leb n (length l)) (got (ListN.take n l) (drop n l))

-- So many faces.
unfoldable pub read_faces : ℕ → List ℕ → Got (List Face)
read_faces zero l = got [] l
read_faces (suc n) l = then (read Faces l) (λ f m. then (read_faces n m) (λ G. got (f ∷ G)))

-- A field.
abbrev pub read_field : (c : Field) → List ℕ → Got (Value c)
read_field number l = take_dim l
read_field index l = take_dim l
read_field context l = then (take_little 2 l) read_faces
read_field end l = read Intervals l
read_field (formula s) l = read s l

-- Values for these fields, each of them allowed.
unfoldable pub read_values : (cs : List Field) → List ℕ → Got (Values cs)
read_values [] l = got tt l
read_values (c ∷ cs) l = then (read_field c l) (λ x m. only (allowed c x) (then (read_values cs m) (λ xs. got (x, xs))))

-- The judgement of a predicate with these operands.
abbrev pub judgement_of : (p : Pred) → Values (fields p) → Judgement
judgement_of p_lt xs = lt xs.0 xs.1.0
judgement_of p_le xs = le xs.0 xs.1.0
judgement_of p_interval xs = interval xs.0 xs.1.0
judgement_of p_face xs = face xs.0 xs.1.0
judgement_of p_member xs = member xs.0 xs.1.0
judgement_of p_take xs = take xs.0 xs.1.0 xs.1.1.0
judgement_of p_cover xs = cover xs.0 xs.1.0
judgement_of p_entails xs = entails xs.0 xs.1.0 xs.1.1.0
judgement_of p_boundary xs = boundary xs.0 xs.1.0 xs.1.1.0
judgement_of p_local xs = local xs.0 xs.1.0 xs.1.1.0 xs.1.1.1.0
judgement_of p_fforall xs = fforall xs.0 xs.1.0 xs.1.1.0
judgement_of p_ishift xs = ishift xs.0 xs.1.0 xs.1.1.0
judgement_of p_isubst xs = isubst xs.0 xs.1.0 xs.1.1.0 xs.1.1.1.0
judgement_of p_fshift xs = fshift xs.0 xs.1.0 xs.1.1.0
judgement_of p_fsubst xs = fsubst xs.0 xs.1.0 xs.1.1.0 xs.1.1.1.0

-- So many references, each below i.
unfoldable pub read_references : ℕ → ℕ → List ℕ → Got (List ℕ)
read_references i zero l = got [] l
read_references i (suc n) l = then (take_little 4 l) (λ j m. only (ltb j i) (then (read_references i n m) (λ is. got (j ∷ is))))

-- Step i of kind k, by the entry of the kind: as many references as it says, and the fields of its predicate.
abbrev pub read_as : ℕ → ℕ → Entry → List ℕ → Got Step
read_as i k (entry name n p) l =
    then (read_references i n l) (λ is m. then (read_values (fields p) m) (λ xs. got (record { kind = k; references = is; judgement = judgement_of p xs })))
read_as i k unlisted l = nothing

-- Step i, from what follows the length in its record.
unfoldable pub read_body : ℕ → List ℕ → Got Step
read_body i l = then (take_little 2 l) (λ k. read_as i k (entry_of k))

-- What was read from a whole part, with the bytes behind the part.
abbrev pub used : {A : Type 0} → Option A → List ℕ → Got A
used none l = nothing
used (some a) l = got a l

-- The record of step i: its length is used up exactly.
unfoldable pub read_record : ℕ → List ℕ → Got Step
read_record i l = then (take_little 4 l) (λ n m. then (take_part n m) (λ part. used (wholly (read_body i part))))

-- Steps from number i on, to the end of the list, at most n of them.
unfoldable pub read_steps : ℕ → ℕ → List ℕ → Got (List Step)
read_steps zero i [] = got [] []
read_steps zero i (b ∷ l) = nothing
read_steps (suc n) i [] = got [] []
read_steps (suc n) i (b ∷ l) = then (read_record i (b ∷ l)) (λ s m. then (read_steps n (suc i) m) (λ L. got (s ∷ L)))

-- Are all bytes zero?
unfoldable pub all_zero : List ℕ → Bool
all_zero [] = true
all_zero (b ∷ l) = eqb b 0 && all_zero l

-- Question 1: the steps of a well-formed ledger. It has 4 to 1,048,576 bytes: four of length, the records, which fill that length exactly, and zeros.
unfoldable pub read_ledger : List ℕ → Option (List Step)
read_ledger l =
    wholly (only (leb 4 (length l) && leb (length l) max_ledger)
    (then (take_little 4 l) (λ n m. then (take_part n m) (λ part rest. only (all_zero rest) (read_steps (length part) 0 part)))))

-- The bytes of the judgement of step i; none past the end.
abbrev pub operands_of : Option (List Step) → ℕ → List ℕ
operands_of none i = []
operands_of (some L) i = get_or (map (λ (s : Step). operand_bytes s.judgement) L) i []

-- The bytes of the judgement of step i of a ledger; none past the end or where the ledger is ill formed.
unfoldable pub operands_at : List ℕ → ℕ → List ℕ
operands_at l i = operands_of (read_ledger l) i
