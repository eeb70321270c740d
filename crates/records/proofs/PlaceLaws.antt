-- What is read at a place of a list, and that every reading leaves an end of the list.
use Rattle.std.specs.Prelude.{Option, Some, None, Result, Ok, Err}
use mathlib.Core.Path.{◌≡◌, refl, sym, ap, ap₂, ◌∙◌}
use mathlib.Core.List.{List, [], ◌∷◌, ◌++◌}
use Prim.Native.Nat.{ℕ, zero, suc, ◌+◌, ◌*◌, ◌-◌, ◌≤◌, ◌<◌}
use native.Mathlib.Omega.{arith}
use lib.Dec.{ltb}
use lib.ListN.{length, get_or, drop, length-append, length-drop}
use lib.Seq.{drop-cons, drop-drop, drop-append_seam}
use Rattle.formula.specs.declared.Sort.{Sort}
use Rattle.formula.specs.declared.Sort.TheVariants.{Intervals}
use Rattle.formula.specs.declared.Size.{Size}
use Rattle.refusals.specs.declared.Refusal.{Refusal}
use Rattle.refusals.specs.declared.Refusal.TheVariants.{NotAFormula}
use Rattle.formula.specs.Bytes.{Tree, encode, Got, nothing, got, leaf, lit, one, two, then, read, nodes}
use Rattle.formula.specs.Answers.{size_of, size_front, measurement_at}
use Rattle.formula.proofs.Nodes.{made_as, tree-ind}
use Rattle.calculus.specs.Record.{Field, number, index, context, end, formula, faces_bytes, allowed}
use Rattle.calculus.specs.Parse.{take_little, read_field, read_values, read_references}
use Rattle.calculus.proofs.Fields.{Post, fails, reads, post-then, post-map, post-only, formula-read, faces-read}
use Rattle.records.specs.Places.{little_at, ended}

-- Numbers ---------------------------------------------------------------------------------

pub little-at : (w : ℕ) (l : List ℕ) (at : ℕ) → at + w ≤ length l → take_little w (drop at l) ≡ got (little_at w l at) (drop (at + w) l)
unfolding take_little
little-at zero l at h = let e : at ≡ at + zero = omega arith in ap (λ (n : ℕ). got 0 (drop n l)) e
little-at (suc w) l at h =
    let e : suc at + w ≡ at + suc w = omega arith in
    ap (take_little (suc w)) (drop-cons l at 0 (omega arith))
    ∙ ap (λ (r : Got ℕ). then r (λ n. got (get_or l at 0 + 256 * n))) (little-at w l (suc at) (omega arith))
    ∙ ap (λ (n : ℕ). got (get_or l at 0 + 256 * little_at w l (suc at)) (drop n l)) e

pub little-short : (w : ℕ) (l : List ℕ) → length l < w → take_little w l ≡ nothing
unfolding take_little
little-short zero l h = absurd (omega arith)
little-short (suc w) [] h = refl
little-short (suc w) (b ∷ l) h = rw (little-short w l (omega arith))

-- Ends of a list ----------------------------------------------------------------------------

-- m is an end of l.
pub record Tail (l m : List ℕ) : Type 0 where
  pub fits : length m ≤ length l
  pub same : m ≡ drop (length l - length m) l

pub tail-drop : (l : List ℕ) (n : ℕ) → n ≤ length l → Tail l (drop n l)
tail-drop l n h =
    let a = length-drop n l in
    let e : n ≡ length l - length (drop n l) = omega arith in
    record { fits = omega arith; same = ap (λ (k : ℕ). drop k l) e }

pub tail-append : {l : List ℕ} (x m : List ℕ) → l ≡ x ++ m → Tail l m
tail-append {l} x m e =
    let a = length-append x m in
    let b = ap length e in
    let n : length x ≡ length l - length m = omega arith in
    record { fits = omega arith; same = sym (drop-append_seam x m) ∙ ap₂ (λ (k : ℕ) (z : List ℕ). drop k z) n (sym e) }

pub tail-trans : {l m r : List ℕ} → Tail l m → Tail m r → Tail l r
tail-trans {l} {m} {r} p q =
    let e : length l - length m + (length m - length r) ≡ length l - length r = omega arith in
    record {
      fits = omega arith;
      same = q.same ∙ ap (drop (length m - length r)) p.same ∙ drop-drop (length m - length r) (length l - length m) l ∙ ap (λ (k : ℕ). drop k l) e;
    }

-- What is read from l leaves an end of l.
abbrev pub RestIs : {A : Type 0} → List ℕ → Got A → Type 0
RestIs l g = Post (λ x m. Tail l m) g

pub leaves_in : {A : Type 0} {l m : List ℕ} {g : Got A} → Tail l m → RestIs m g → RestIs l g
leaves_in t p = post-map p (λ x r q. tail-trans t q)

pub little-leaves : (w : ℕ) (l : List ℕ) → RestIs l (take_little w l)
unfolding take_little
little-leaves zero l = reads (tail-append [] l refl)
little-leaves (suc w) [] = fails
little-leaves (suc w) (b ∷ l) = post-then (little-leaves w l) (λ n m t. reads (tail-trans (tail-append (b ∷ []) l refl) t))

formula-leaves : (s : Sort) (l : List ℕ) → RestIs l (read s l)
formula-leaves s l = post-map (formula-read s l) (λ t m e. tail-append (encode s t) m e)

pub field-leaves : (c : Field) (l : List ℕ) → RestIs l (read_field c l)
field-leaves number [] = fails
field-leaves number (n ∷ l) = reads (tail-append (n ∷ []) l refl)
field-leaves index [] = fails
field-leaves index (k ∷ l) = reads (tail-append (k ∷ []) l refl)
field-leaves context l = post-then (little-leaves 2 l) (λ n m t. post-map (faces-read n m) (λ G r e. tail-trans t (tail-append (faces_bytes G) r e.0)))
field-leaves end l = formula-leaves Intervals l
field-leaves (formula s) l = formula-leaves s l

pub values-leaves : (cs : List Field) (l : List ℕ) → RestIs l (read_values cs l)
unfolding read_values
values-leaves [] l = reads (tail-append [] l refl)
values-leaves (c ∷ cs) l =
    post-then (field-leaves c l) (λ x m t. post-only _ (allowed c x) (λ a. post-then (values-leaves cs m) (λ xs r u. reads (tail-trans t u))))

pub references-leaves : (i n : ℕ) (l : List ℕ) → RestIs l (read_references i n l)
unfolding read_references
references-leaves i zero l = reads (tail-append [] l refl)
references-leaves i (suc n) l =
    post-then (little-leaves 4 l) (λ j m t. post-only _ (ltb j i) (λ a. post-then (references-leaves i n m) (λ is r u. reads (tail-trans t u))))

-- Where readings end --------------------------------------------------------------------------

pub ended-drop : {A : Type 0} (a : A) (l : List ℕ) (n : ℕ) → n ≤ length l → ended l (got a (drop n l)) ≡ Some n
ended-drop a l n h = let e : length l - length (drop n l) ≡ n = omega (arith, length-drop n l) in ap Some e

pub ended-fits : {A : Type 0} (l : List ℕ) (g : Got A) (e : ℕ) → ended l g ≡ Some e → e ≤ length l
ended-fits l nothing e h = let z : ◌≡◌ {A = ℕ} 0 1 = cc in absurd (omega arith)
ended-fits l (got a m) e h = let z : length l - length m ≡ e = cc in omega arith

-- What is made of the value does not move the end.
pub ended-map : {A B : Type 0} (f : A → B) (l : List ℕ) (g : Got A) → ended l (then g (λ x. got (f x))) ≡ ended l g
ended-map f l nothing = refl
ended-map f l (got a m) = refl

-- Formulas at places ----------------------------------------------------------------------------

-- A formula has at least as many bytes as nodes.
nodes-length : (s : Sort) (t : Tree s) → nodes s t ≤ length (encode s t)
nodes-length s =
    tree-ind s (λ t. nodes s t ≤ length (encode s t))
    (record {
      at_leaf = λ b t e. let i = made_as s b (leaf t) e in omega (arith, ap length i.bytes, i.count);
      at-lit = λ b n g e. let i = made_as s b (lit g) e n in omega (arith, ap length i.bytes, i.count);
      at_one = λ b u x e h. let i = made_as s b (one u) e x in omega (arith, ap length i.bytes, i.count);
      at-two = λ b v x y e h k. let i = made_as s b (two v) e x y in omega (arith, ap length i.bytes, i.count, length-append (encode s x) (encode s y));
    })

module _ (s : Sort) (l : List ℕ) (at : ℕ) (h : at ≤ length l) where
  -- The end of the list behind a formula at a place.
  behind : (t : Tree s) (m : List ℕ) → drop at l ≡ encode s t ++ m → (at + length (encode s t) ≤ length l) × (m ≡ drop (at + length (encode s t)) l)
  behind t m e =
      let a = ap length e in
      let b = length-append (encode s t) m in
      let d = length-drop at l in
      (omega arith, sym (drop-append_seam (encode s t) m) ∙ ap (drop (length (encode s t))) (sym e) ∙ drop-drop (length (encode s t)) at l)

  -- What follows a formula at a place, by its size.
  pub by_size : {B : Type 0} (k : Tree s → List ℕ → Got B) (Q : Result Size Refusal → Option ℕ) → Q (Err NotAFormula) ≡ None
      → ((t : Tree s) → at + length (encode s t) ≤ length l → ended l (k t (drop (at + length (encode s t)) l)) ≡ Q (Ok (size_of s t)))
      → ended l (then (read s (drop at l)) k) ≡ Q (measurement_at s l at)
  unfolding measurement_at
  by_size k Q i j = go (formula-read s (drop at l))
    where
      go : {g : Got (Tree s)} → Post (λ t m. drop at l ≡ encode s t ++ m) g → ended l (then g k) ≡ Q (size_front s g)
      go fails = sym i
      go (reads {a = t} {m} e) = let b = behind t m e in ap (λ (z : List ℕ). ended l (k t z)) b.1 ∙ j t b.0

  pub size_fits : (z : Size) → measurement_at s l at ≡ Ok z → (at + z.len ≤ length l) × (z.nodes ≤ z.len)
  unfolding measurement_at
  size_fits z = go (formula-read s (drop at l))
    where
      go : {g : Got (Tree s)} → Post (λ t m. drop at l ≡ encode s t ++ m) g → size_front s g ≡ Ok z → (at + z.len ≤ length l) × (z.nodes ≤ z.len)
      go fails e = let q : ◌≡◌ {A = ℕ} 0 1 = cc in absurd (omega arith)
      go (reads {a = t} {m} e) i =
          let q : size_of s t ≡ z = cc in
          rw (← q) ((behind t m e).0, nodes-length s t)
