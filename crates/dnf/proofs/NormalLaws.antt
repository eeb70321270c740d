-- The clauses that were found as bits are those of the normal form.
use Prim.Native.Nat.{ℕ, ◌+◌, ◌*◌, ◌/◌, ◌≤◌, ◌<◌}
use native.Mathlib.Omega.{arith}
use mathlib.Core.Path.{◌≡◌, refl, sym, ap, ◌∙◌, subst}
use mathlib.Core.Bool.{true}
use mathlib.Core.Option
use mathlib.Core.Option.{Option, none, some}
use mathlib.Core.List.{List, [], ◌∷◌, map}
use lib.ListN.{length, get_or, set}
use Rattle.formula.specs.Formula.{Face}
use Rattle.formula.specs.declared.Sort.TheVariants.{Faces}
use Rattle.formula.specs.Bytes.{nodes_face, bound_face, max_nodes, max_bound}
use Rattle.formula.specs.Answers.{dim_space}
use Rattle.formula.proofs.Reading.{encode_injective}
use Rattle.clauses.specs.Normal.{Clause, numbered, sets-of-literals, literal-sets, clauses, dnf, formed, normal}
use Rattle.clauses.specs.Shape.{All, nothing, each}
use Rattle.clauses.specs.Words.{bits, select, adjacent, words, none_of, single_of}
use Rattle.clauses.specs.declared.Clause.{Clause as Bits}
use Rattle.clauses.proofs.Carrying.{Carries, AllLiterals, clauses-carried}
use Rattle.clauses.proofs.Literals.{dnf-literals}
use Rattle.clauses.proofs.WordLaws.{single-bits}
use Rattle.clauses.proofs.Selecting.{words-carry, select-single, select-none, bits_none}
use Rattle.literals.specs.Numbers.{blanks_from, blanks, position}
use Rattle.literals.specs.Collecting.{Asks, Collects}
use Rattle.literals.proofs.Ranking.{Ranks, ranking, numbers-small, ranking-asks, ranking-made, ranked as ranked_numbers}
use Rattle.std.proofs.Common as Std
use Rattle.dnf.specs.Finding.{ranked}
use Rattle.dnf.specs.Forming.{short_form, Fielded, Shapes, Writes, Forms, Whole, short_normal, Normals}

-- The literals of a clause as bits.
abbrev literals_of : List ℕ → Bits → Clause
literals_of ks c = select ks (bits c)

-- The clauses of the leaves have the literals that they should.
none-carried : (ks : List ℕ) → literals_of ks none_of ≡ []
none-carried ks = ap (select ks) bits_none ∙ select-none ks 256

single-carried : (ks : List ℕ) (k : ℕ) → length ks ≡ 256 → position k ks < 256 → get_or ks (position k ks) 0 ≡ k → literals_of ks (single_of (position k ks)) ≡ k ∷ []
single-carried ks k m h e = ap (select ks) (single-bits (position k ks) h ∙ ap (λ b. set b (position k ks) true) bits_none) ∙ select-single ks 256 (position k ks) 0 m h ∙ ap (λ n. n ∷ []) e

module _ (t : Face) (few : nodes_face t ≤ max_nodes) (low : bound_face t ≤ max_bound) (ks : List ℕ) (made : ks ≡ ranked_numbers t) (mask : Bits) (marks : bits mask ≡ adjacent ks) where
  ranks : Ranks t ks
  ranks = subst (Ranks t) (sym made) (ranking t few low)

  carries : Carries (words mask) sets-of-literals (literals_of ks)
  carries = words-carry mask ranks.sorted ranks.many marks

  singles : (f : Face) → AllLiterals (λ e n. position (numbered e n) ks < 256) f → AllLiterals (λ e n. get_or ks (position (numbered e n) ks) 0 ≡ numbered e n) f → AllLiterals (λ e n. literals_of ks ((ranked ks).single e n) ≡ literal-sets.single e n) f
  singles Face.ff p q = tt
  singles Face.ft p q = tt
  singles (Face.at e n) p q = single-carried ks (numbered e n) ranks.many p q
  singles (Face.fand a b) p q = (singles a p.0 q.0, singles b p.1 q.1)
  singles (Face.for a b) p q = (singles a p.0 q.0, singles b p.1 q.1)

  -- The clauses of the face as sets of literals, from those as bits.
  sets : dnf t ≡ Option.map (map (literals_of ks)) (clauses (words mask) (ranked ks) t)
  unfolding dnf
  sets = clauses-carried carries (ranked ks) literal-sets (none-carried ks) t (singles t ranks.below ranks.stands)

  half : (k : ℕ) → k < 2 * dim_space → k / 2 < dim_space
  half k h = omega (arith, h)

  mapped : (cs : List Bits) → All (All (λ k. k < 2 * dim_space)) (map (literals_of ks) cs) → All (Fielded ks) cs
  mapped [] h = nothing
  mapped (c ∷ cs) (each p h) = each (halves (literals_of ks c) p) (mapped cs h)
    where
      halves : (l : List ℕ) → All (λ k. k < 2 * dim_space) l → All (λ k. k / 2 < dim_space) l
      halves [] h = nothing
      halves (k ∷ l) (each p h) = each (half k p) (halves l h)

  pub fielded : (cs : List Bits) → clauses (words mask) (ranked ks) t ≡ some cs → All (Fielded ks) cs
  fielded cs e = mapped cs (dnf-literals (λ k. k < 2 * dim_space) t (map (literals_of ks) cs) (sets ∙ ap (Option.map (map (literals_of ks))) e) (numbers-small t low))

  -- The bytes of the normal form.
  short : (o : Option (List Bits)) → short_form ks o ≡ short_normal (formed (Option.map (map (literals_of ks)) o))
  short none = refl
  short (some cs) = refl

  pub bytes-normal : short_form ks (clauses (words mask) (ranked ks) t) ≡ short_normal (normal t)
  unfolding normal
  bytes-normal = short (clauses (words mask) (ranked ks) t) ∙ ap (λ o. short_normal (formed o)) (sym sets)

-- What collecting the numbers of a whole face asks.
module _ {f : List ℕ} {n out : ℕ} (w : Whole f n out) where
  fit : nodes_face w.face ≤ max_nodes
  fit = omega (arith, w.nodes, w.few)

  pub whole-asks : {l : List ℕ} → l ≡ blanks → Asks f 0 l 0
  unfolding blanks_from
  whole-asks {l} p = ranking-asks w.face f w.bytes l fit (ap length p)

  -- What forming asks then, and what it leaves.
  module _ {l ks : List ℕ} (p : l ≡ blanks) {j m : ℕ} (c : Collects f 0 l 0 j m ks) (mask : Bits) (marks : bits mask ≡ adjacent ks) where
    made : ks ≡ ranked_numbers w.face
    made = ranking-made w.face f w.bytes l p c

    pub whole-shapes : (room : ℕ) → 16 * (n + 1) + 257 ≤ room → Shapes (words mask) ks f room out
    whole-shapes room h = record {
      face = w.face;
      bytes = w.bytes;
      nodes = fit;
      fits = omega (arith, h, w.nodes);
      many = subst (λ l. length l ≡ 256) (sym made) (ranking w.face fit w.low).many;
      fielded = fielded w.face fit w.low ks made mask marks;
      writes = w.writes;
    }

    pub whole-normals : {o : List ℕ} {r : Std.Option ℕ} {o' : List ℕ} → Forms (words mask) ks f o r o' → Normals f o r o'
    whole-normals {o} {r} {o'} p = record {
      it = λ t e.
          let same : w.face ≡ t = encode_injective Faces w.face t (sym w.bytes ∙ e) in
          subst (λ b. Writes b o r o') (bytes-normal w.face fit w.low ks made mask marks ∙ ap (λ g. short_normal (normal g)) same) (p.it w.face w.bytes);
    }
