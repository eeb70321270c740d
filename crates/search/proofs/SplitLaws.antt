-- The parts of a compound, and the contexts that have them in its place.
use Prim.Native.Nat.{ℕ, ◌+◌, ◌-◌, ◌≤◌, ◌<◌, max}
use native.Mathlib.Omega.{arith}
use mathlib.Core.Path.{◌≡◌, refl, sym, ap, ap₂, ◌∙◌, subst}
use mathlib.Core.List.{List, [], ◌∷◌, ◌++◌, append_assoc}
use lib.ListN.{length, get_or, length-append}
use Rattle.formula.specs.declared.Sort.TheVariants.{Faces}
use Rattle.formula.specs.Formula.{Face, ff, fand, for}
use Rattle.formula.specs.Bytes.{encode_face, two, node_of, nodes_face, bound_face}
use Rattle.formula.specs.Answers.{part_at}
use Rattle.formula.proofs.Nodes.{made_as}
use Rattle.calculus.specs.Search.{nodes_context}
use Rattle.calculus.specs.Record.{faces_bytes, bound_context}
use Rattle.steps.specs.Trees.{Is}
use Rattle.steps.proofs.TreeLaws.{part-front}
use Rattle.contexts.specs.Contexts.{Are, Sound, leave, cut, At}
use Rattle.search.specs.Turns.{Parts, Split}
use Rattle.contexts.proofs.ContextLaws.{context-short, tail, tail-append}
use Rattle.contexts.proofs.TakeLaws.{less}
use Rattle.contexts.proofs.LeftLaws.{at_of, at_cut, at-end, cut-length, tail-length}
use Rattle.contexts.proofs.MoveLaws.{face-some}

-- A connective and its kind byte.
pub record Connective (v : Face → Face → Face) : Type 0 where
  pub byte : ℕ
  pub node : node_of Faces byte ≡ two v

pub is-fand : Connective fand
unfolding node_of
is-fand = record { byte = 4; node = refl }

pub is-for : Connective for
unfolding node_of
is-for = record { byte = 5; node = refl }

-- The bytes h of the first part, and those of the second.
pub record Halves (x y : Face) (l h : List ℕ) : Type 0 where
  pub first : Is Faces x h
  pub second : Is Faces y (tail (1 + length h) l)
  pub both : tail 1 l ≡ encode_face x ++ encode_face y
  pub inside : 1 + length h ≤ length l

pub second-shorter : {x y : Face} {l h : List ℕ} → Halves x y l h → length (tail (1 + length h) l) < length l
second-shorter {l = l} {h} a = omega (arith, tail-length (1 + length h) l, a.inside)

module _ {v : Face → Face → Face} (o : Connective v) where
  pub halves : {f : Face} {l h : List ℕ} → Is Faces f l → (p : Parts v f) → h ≡ part_at Faces l 1 → Halves p.left p.right l h
  halves {f} {l} {h} a p q =
      let x = p.left in
      let y = p.right in
      let b = o.byte in
      let k = made_as Faces b (two v) o.node x y in
      let i : l ≡ (b ∷ []) ++ (encode_face x ++ encode_face y) = a.bytes ∙ ap encode_face p.whole ∙ k.bytes in
      let j : h ≡ encode_face x = q ∙ ap (λ (m : List ℕ). part_at Faces m 1) i ∙ part-front Faces b x (encode_face y) in
      let c : l ≡ (b ∷ h) ++ encode_face y = i ∙ ap (λ (m : List ℕ). b ∷ (m ++ encode_face y)) (sym j) in
      let n : 1 + length h ≡ length (b ∷ h) = omega arith in
      record {
        first = record { bytes = j; few = omega (arith, a.few, ap nodes_face p.whole, k.count); low = omega (arith, a.low, ap bound_face p.whole, k.top) };
        second = record {
          bytes = ap (λ (m : ℕ). tail m l) n ∙ tail-append (b ∷ h) (encode_face y) l c;
          few = omega (arith, a.few, ap nodes_face p.whole, k.count);
          low = omega (arith, a.low, ap bound_face p.whole, k.top);
        };
        both = tail-append (b ∷ []) (encode_face x ++ encode_face y) l i;
        inside = omega (arith, ap length c, length-append (b ∷ h) (encode_face y));
      }

  -- The compound is the face number i of a context, and its bytes x begin at `place`.
  module _ {G : List Face} {i place n : ℕ} {x h g : List ℕ} (w : At G i x place n g) (p : Parts v (get_or G i ff)) (q : h ≡ part_at Faces x 1) where
    parts : Halves p.left p.right x h
    parts = halves w.out p q

    inside : i < length G
    inside = omega (arith, w.inside, w.whole.count)

    few : nodes_face p.left + (nodes_face p.right + nodes_context (leave i G)) < nodes_context G
    few = omega (arith, (less i G inside).nodes, ap nodes_face p.whole, (made_as Faces o.byte (two v) o.node p.left p.right).count)

    low : max (bound_face p.left) (max (bound_face p.right) (bound_context (leave i G))) ≤ bound_context G
    low = omega (arith, (less i G inside).bound, ap bound_face p.whole, (made_as Faces o.byte (two v) o.node p.left p.right).top)

    pub both-are : Are (p.left ∷ p.right ∷ leave i G) (n + 1) (tail 1 x ++ cut place (place + length x) g)
    unfolding faces_bytes nodes_context bound_context
    both-are = record {
      bytes = ap₂ (λ (y z : List ℕ). y ++ z) parts.both (at_cut w) ∙ append_assoc (encode_face p.left) (encode_face p.right) (faces_bytes (leave i G));
      count = omega (arith, (less i G inside).count, w.whole.count);
      few = omega (arith, few, w.whole.few);
      low = omega (arith, low, w.whole.low);
    }

    pub first-are : Are (p.left ∷ leave i G) n (h ++ cut place (place + length x) g)
    unfolding faces_bytes nodes_context bound_context
    first-are = record {
      bytes = ap₂ (λ (y z : List ℕ). y ++ z) parts.first.bytes (at_cut w);
      count = omega (arith, (less i G inside).count, w.whole.count);
      few = omega (arith, few, w.whole.few);
      low = omega (arith, low, w.whole.low);
    }

    pub second-are : Are (p.right ∷ leave i G) n (tail (1 + length h) x ++ cut place (place + length x) g)
    unfolding faces_bytes nodes_context bound_context
    second-are = record {
      bytes = ap₂ (λ (y z : List ℕ). y ++ z) parts.second.bytes (at_cut w);
      count = omega (arith, (less i G inside).count, w.whole.count);
      few = omega (arith, few, w.whole.few);
      low = omega (arith, low, w.whole.low);
    }

    -- Each of them is shorter than the context.
    pub both-falls : length (tail 1 x) + place + (length g - (place + length x)) < length g
    both-falls = omega (arith, tail-length 1 x, at-end w, face-some w.out)

    pub first-falls : length h + place + (length g - (place + length x)) < length g
    first-falls = omega (arith, parts.inside, at-end w)

    pub second-falls : length (tail (1 + length h) x) + place + (length g - (place + length x)) < length g
    second-falls = omega (arith, second-shorter parts, at-end w)

-- The compound that a turn splits, read where it begins.
pub split-is : {v : Face → Face → Face} {G : List Face} {i place n : ℕ} {x g : List ℕ} → Are G n g → Split v G i place → x ≡ part_at Faces g place → At G i x place n g
split-is w s p = at_of w (omega (arith, s.inside, w.count)) s.begins p

-- A context that is made of a front and what is left.
module _ (front g : List ℕ) (place end : ℕ) where
  pub made-fits : {G : List Face} {n : ℕ} → Are G n (front ++ cut place end g) → length front + length (cut place end g) ≤ 1022
  made-fits w = omega (arith, context-short w, length-append front (cut place end g))

  pub made-length : {z : List ℕ} → z ≡ front ++ cut place end g → place ≤ end → end ≤ length g → length z ≡ length front + place + (length g - end)
  made-length e p q = ap length e ∙ length-append front (cut place end g) ∙ omega (arith, cut-length front g place end p q)

  pub made-context : {z : List ℕ} {n : ℕ} → z ≡ front ++ cut place end g → Sound n (front ++ cut place end g) → Sound n z
  made-context {n = n} e w = subst (Sound n) (sym e) w
