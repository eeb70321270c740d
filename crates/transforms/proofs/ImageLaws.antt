-- The results of operations on formulas that keep the limits, in slices with room for them.
use Prim.Native.Nat.{ℕ, ◌≤◌, min}
use native.Mathlib.Omega.{arith}
use mathlib.Core.Path.{◌≡◌, refl, sym, ap, ap₂, ◌∙◌}
use mathlib.Core.List.{List, ◌++◌}
use lib.ListN.{length, take, drop, replicate, length-replicate, length-append}
use lib.Seq.{take_at}
use borrow.Author.Tests.{le-leb}
use Rattle.formula.specs.declared.Sort.{Sort}
use Rattle.formula.specs.declared.Sort.TheVariants.{Faces, Intervals}
use Rattle.operations.specs.declared.Op.{Op as Asked}
use Rattle.operations.specs.declared.Op.TheVariants.{DShift, DSubst}
use Rattle.formula.specs.declared.Size.{Size}
use Rattle.refusals.specs.declared.Refusal.{Refusal}
use Rattle.std.specs.Prelude.{Result, Ok, Err}
use Rattle.refusals.specs.Refusals.{of_one, of_two}
use Rattle.formula.specs.Formula.{End, lo, hi}
use Rattle.formula.specs.Operations.{boundary, shift, subst, transform}
use Rattle.formula.specs.Bytes.{Tree, encode, nodes, bound, max_nodes, max_bound}
use Rattle.formula.specs.Answers.{size_of, tree_of, allowed, as_operand, operand}
use Rattle.operations.specs.Results.{limited, boundaried, transformed, roomed, written, Answered, AnsweredBoth}
use Rattle.operations.proofs.ResultLaws.{boundary-sizes}
use Rattle.steps.specs.Trees.{Is, Known}
use Rattle.boundary_steps.specs.Programs.{Sides}
use Rattle.transforms.specs.Transforms.{op_of, KnownOp}
use Rattle.steps.proofs.TreeLaws.{read_known, is-short}
use Rattle.boundary_steps.proofs.BoundaryLaws.{side-is}

-- What keeps the limits is kept.
pub limited-is : {s : Sort} {t : Tree s} {l : List ℕ} → Is s t l → limited s t ≡ Ok t
limited-is {s} {t} h = rw (le-leb (nodes s t) max_nodes h.few, le-leb (bound s t) max_bound h.low) refl

allowed-is : {s : Sort} {t : Tree s} {l : List ℕ} → Is s t l → allowed (size_of s t) t ≡ Ok t
allowed-is {s} {t} h = rw (le-leb (nodes s t) max_nodes h.few, le-leb (bound s t) max_bound h.low) refl

pub operand_known : {s : Sort} {l : List ℕ} → Known s l → operand s l ≡ Ok (tree_of s l)
unfolding operand
operand_known {s} {l} h = ap (as_operand s) (read_known h) ∙ allowed-is h

transformed-known : {l x : List ℕ} (r : List ℕ) (s : Sort) (o : Asked) → Known s l → KnownOp o r → Is s (transform s (op_of o r) (tree_of s l)) x → transformed s o l r ≡ Ok (transform s (op_of o r) (tree_of s l))
unfolding transformed
transformed-known r s (DShift k) h p i = ap (of_one (λ t. limited s (transform s (shift k) t))) (operand_known h) ∙ limited-is i
transformed-known r s (DSubst k) h p i = ap₂ (of_two (λ t q. limited s (transform s (subst k q) t))) (operand_known h) (operand_known p.1) ∙ limited-is i

boundaried-known : {r : List ℕ} (e : End) → Known Intervals r → boundaried e r ≡ Ok (boundary e (tree_of Intervals r))
unfolding boundaried
boundaried-known {r} e h = ap (of_one (λ t. limited Faces (boundary e t))) (operand_known h) ∙ limited-is (side-is e h refl)

-- A scratch array has room for a formula.
pub room : 1022 ≤ length (replicate {A = ℕ} 1024 0)
room = omega (arith, length-replicate {A = ℕ} 1024 0)

-- The front of a slice where a result was written.
pub record Front (b : List ℕ) (m : ℕ) (d : List ℕ) : Type 0 where
  pub inside : m ≤ length d
  pub bytes : take m d ≡ b

module _ (s : Sort) {t : Tree s} {x : Result (Tree s) Refusal} {n : ℕ} (e : x ≡ Ok t) (fits : length (encode s t) ≤ n) where
  pub roomed-kept : roomed s x n ≡ Ok (size_of s t)
  roomed-kept = ap (λ y. roomed s y n) e ∙ (rw (le-leb (length (encode s t)) n fits) refl)

  written-kept : (d : List ℕ) → written s x n d ≡ encode s t ++ drop (length (encode s t)) d
  written-kept d = ap (λ y. written s y n d) e ∙ (rw (le-leb (length (encode s t)) n fits) refl)

  -- There is always a result.
  has_result : {A : Type 0} {r : Result Size Refusal} {q : Refusal} → r ≡ roomed s x n → r ≡ Err q → A
  has_result {q = q} h g = absurd (let z : Err q ≡ Ok (size_of s t) = sym g ∙ h ∙ roomed-kept in let w : ◌≡◌ {A = ℕ} 0 1 = cc in omega arith)

  told-size : {r : Result Size Refusal} (z : Size) → r ≡ roomed s x n → r ≡ Ok z → z ≡ size_of s t
  told-size z h g = let q : ◌≡◌ {A = Result Size Refusal} (Ok z) (Ok (size_of s t)) = sym g ∙ h ∙ roomed-kept in cc

  told-length : {r : Result Size Refusal} (z : Size) → r ≡ roomed s x n → r ≡ Ok z → z.len ≡ length (encode s t)
  told-length z h g = ap (λ (y : Size). y.len) (told-size z h g)

  pub in-front : {d' : List ℕ} {m : ℕ} (d : List ℕ) → m ≡ length (encode s t) → d' ≡ written s x n d → Front (encode s t) m d'
  in-front {d'} {m} d h w =
      let v : d' ≡ encode s t ++ drop (length (encode s t)) d = w ∙ written-kept d in
      let b : take m d' ≡ encode s t = ap (take m) v ∙ take_at (encode s t) (drop (length (encode s t)) d) m (sym h) in
      record { inside = omega (arith, ap length v, length-append (encode s t) (drop (length (encode s t)) d)); bytes = b }

-- A transformed formula.
module _ {f d d' : List ℕ} {x : Result Size Refusal} (s : Sort) (o : Asked) (t : List ℕ) (h : Known s f) (p : KnownOp o t) (i : Is s (transform s (op_of o t) (tree_of s f)) (encode s (transform s (op_of o t) (tree_of s f)))) (space : 1022 ≤ length d)
    (a : Answered s (transformed s o f t) d x d') where
  image-fits : length (encode s (transform s (op_of o t) (tree_of s f))) ≤ length d
  image-fits = omega (arith, is-short i)

  pub image-made : {A : Type 0} {q : Refusal} → x ≡ Err q → A
  image-made g = has_result s (transformed-known t s o h p i) image-fits a.says g

  pub image-front : (z : Size) → x ≡ Ok z → (z.len ≤ length d') × Is s (transform s (op_of o t) (tree_of s f)) (take z.len d')
  image-front z g =
      let e = transformed-known t s o h p i in
      let k = in-front s e image-fits d (told-length s e image-fits z a.says g) a.leaves in
      (k.inside, record { bytes = k.bytes; few = i.few; low = i.low })

-- The two faces of a boundary, which are of one size.
module _ {r d e d' e' : List ℕ} {x : Result Size Refusal} (h : Known Intervals r) (space0 : 1022 ≤ length d) (space1 : 1022 ≤ length e)
    (a : AnsweredBoth (boundaried lo r) (boundaried hi r) d e x d' e') where
  side-fits : (k : End) → length (encode Faces (boundary k (tree_of Intervals r))) ≤ min (length d) (length e)
  side-fits k = let z = is-short (side-is k h refl) in omega arith

  pub sides-made : {A : Type 0} {q : Refusal} → x ≡ Err q → A
  sides-made g = has_result Faces (boundaried-known lo h) (side-fits lo) a.says g

  zero-length : (z : Size) → x ≡ Ok z → z.len ≡ length (encode Faces (boundary lo (tree_of Intervals r)))
  zero-length z g = told-length Faces (boundaried-known lo h) (side-fits lo) z a.says g

  pub sides-size : (z : Size) → x ≡ Ok z → z ≡ size_of Faces (boundary lo (tree_of Intervals r))
  sides-size z g = told-size Faces (boundaried-known lo h) (side-fits lo) z a.says g

  pub zero-front : (z : Size) → x ≡ Ok z → Front (encode Faces (boundary lo (tree_of Intervals r))) z.len d'
  zero-front z g = in-front Faces (boundaried-known lo h) (side-fits lo) d (zero-length z g) a.leaves0

  pub one-front : (z : Size) → x ≡ Ok z → Front (encode Faces (boundary hi (tree_of Intervals r))) z.len e'
  one-front z g = in-front Faces (boundaried-known hi h) (side-fits hi) e (zero-length z g ∙ ap (λ (y : Size). y.len) (boundary-sizes lo hi (tree_of Intervals r))) a.leaves1

  pub sides-front : (z : Size) → x ≡ Ok z → Sides r (take z.len d') (take z.len e')
  sides-front z g = record { zeros = (zero-front z g).bytes; ones = (one-front z g).bytes }
