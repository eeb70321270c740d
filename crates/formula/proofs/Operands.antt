-- What is said of an operand, or of a result: its size, or the refusal.
use Rattle.std.specs.Prelude.{Result, Err, Ok, is_ok}
use Prim.Native.Nat.{ℕ, ◌≤◌}
use native.Mathlib.Omega.{arith}
use mathlib.Core.Path.{◌≡◌, refl, sym, ap, ◌∙◌}
use mathlib.Core.Bool.{Bool, true, false, ◌&&◌, and-eq-true_iff}
use mathlib.Core.Option.{Option, none, some}
use mathlib.Core.List.{List}
use lib.Dec.{leb}
use borrow.Author.Tests.{leb-true, le-leb}
use Rattle.refusals.specs.declared.Refusal.{Refusal}
use Rattle.refusals.specs.declared.Refusal.TheVariants.{TooManyNodes, LargeDimension}
use Rattle.refusals.specs.Refusals.{map, of_one}
use Rattle.formula.specs.declared.Sort.{Sort}
use Rattle.formula.specs.declared.Size.{Size}
use Rattle.formula.specs.Bytes.{Tree, encode, read_all, nodes, bound, max_nodes, max_bound}
use Rattle.formula.specs.Answers.{pick, size_of, size_read, measurement, keeps, allowed, as_operand, operand, tree_of}
use Rattle.formula.proofs.Reading.{encode-read_all}

-- The limits, from the test and back.
pub keeps-limits : (z : Size) → keeps z ≡ true → (z.nodes ≤ 511) × (z.bound ≤ 255)
keeps-limits z e = let h = (and-eq-true_iff (leb z.nodes 511) (leb z.bound 255)).0 e in (leb-true z.nodes 511 h.0, leb-true z.bound 255 h.1)

pub limits-keep : (z : Size) → z.nodes ≤ 511 → z.bound ≤ 255 → keeps z ≡ true
limits-keep z h g = rw (le-leb z.nodes 511 h, le-leb z.bound 255 g)

-- Questions 3 and 4 of a size, by what was answered.
pub keeps-allowed : (z : Size) → is_ok (allowed z z) ≡ keeps z
keeps-allowed z = go (leb z.nodes max_nodes) (leb z.bound max_bound)
  where
    go : (b c : Bool) → is_ok (pick b (pick c (Ok z) (Err LargeDimension)) (Err TooManyNodes)) ≡ (b && c)
    go true true = refl
    go true false = refl
    go false c = refl

-- What a size says of what it is of.
module _ {A : Type 0} (f : A → Size) where
  pub record FittedBy (x : Result A Refusal) (z : Size) : Type 0 where
    pub tree : A
    pub is : x ≡ Ok tree
    pub size : f tree ≡ z

  pub with-fits : (x : Result A Refusal) {z : Size} → Ok z ≡ map f x → FittedBy x z
  with-fits (Err q) {z} e = absurd (let a : ◌≡◌ {A = ℕ} 0 1 = cc in omega arith)
  with-fits (Ok t) {z} e = record { tree = t; is = refl; size = let k : z ≡ f t = cc in sym k }

  pub with-refused : (x : Result A Refusal) {q : Refusal} → Err q ≡ map f x → x ≡ Err q
  with-refused (Err e) {q} h = ap Err (let k : q ≡ e = cc in sym k)
  with-refused (Ok t) {q} h = cc

module _ (s : Sort) where
  abbrev pub Fitted : Result (Tree s) Refusal → Size → Type 0
  Fitted x z = FittedBy (size_of s) x z

  pub sized-fits : (x : Result (Tree s) Refusal) {z : Size} → Ok z ≡ map (size_of s) x → Fitted x z
  sized-fits x e = with-fits (size_of s) x e

  pub sized-refused : (x : Result (Tree s) Refusal) {q : Refusal} → Err q ≡ map (size_of s) x → x ≡ Err q
  sized-refused x e = with-refused (size_of s) x e

  -- An operand that was kept: its bytes are its formula's, and it keeps the limits.
  pub record Opened (l : List ℕ) (t : Tree s) : Type 0 where
    pub bytes : l ≡ encode s t
    pub tree : tree_of s l ≡ t
    pub limits : keeps (size_of s t) ≡ true

  allowed-kept : (t u : Tree s) → allowed (size_of s t) t ≡ Ok u → (t ≡ u) × (keeps (size_of s t) ≡ true)
  allowed-kept t u e = go (leb (nodes s t) max_nodes) (leb (bound s t) max_bound) refl refl e
    where
      go : (b c : Bool) → leb (nodes s t) max_nodes ≡ b → leb (bound s t) max_bound ≡ c → pick b (pick c (Ok t) (Err LargeDimension)) (Err TooManyNodes) ≡ Ok u
          → (t ≡ u) × (keeps (size_of s t) ≡ true)
      go true true i j e = (cc, rw (i, j))
      go true false i j e = (cc, cc)
      go false c i j e = (cc, cc)

  opened-read : (l : List ℕ) (t : Tree s) (r : Option (Tree s)) → read_all s l ≡ r → as_operand s r ≡ Ok t → Opened l t
  unfolding tree_of
  opened-read l t none i e = absurd (let a : ◌≡◌ {A = ℕ} 0 1 = cc in omega arith)
  opened-read l t (some u) i e =
      let h = allowed-kept u t e in
      record {
        bytes = encode-read_all s l u i ∙ ap (encode s) h.0;
        tree = rw i h.0;
        limits = ap (λ (x : Tree s). keeps (size_of s x)) (sym h.0) ∙ h.1;
      }

  pub opened : (l : List ℕ) (t : Tree s) → operand s l ≡ Ok t → Opened l t
  unfolding operand
  opened l t e = opened-read l t (read_all s l) refl e

  -- Its nodes and dimensions, as numbers.
  pub opened-limits : {l : List ℕ} {t : Tree s} → Opened l t → (nodes s t ≤ 511) × (bound s t ≤ 255)
  opened-limits {t = t} o = keeps-limits (size_of s t) o.limits

  -- Questions 3 and 4 by the size alone.
  allowed-sized : (t : Tree s) → map (size_of s) (allowed (size_of s t) t) ≡ allowed (size_of s t) (size_of s t)
  allowed-sized t = go (leb (nodes s t) max_nodes) (leb (bound s t) max_bound)
    where
      go : (b c : Bool) → map (size_of s) (pick b (pick c (Ok t) (Err LargeDimension)) (Err TooManyNodes)) ≡ pick b (pick c (Ok (size_of s t)) (Err LargeDimension)) (Err TooManyNodes)
      go true true = refl
      go true false = refl
      go false c = refl

  -- Questions 2 to 4 by what was measured.
  pub operand-sized : (l : List ℕ) → map (size_of s) (operand s l) ≡ of_one (λ z. allowed z z) (measurement s l)
  unfolding operand measurement
  operand-sized l = go (read_all s l)
    where
      go : (r : Option (Tree s)) → map (size_of s) (as_operand s r) ≡ of_one (λ z. allowed z z) (size_read s r)
      go none = refl
      go (some t) = allowed-sized t
