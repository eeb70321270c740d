-- Cover steps from members of the context.
use Prim.Native.Nat.{ℕ, ◌+◌, ◌≤◌}
use native.Mathlib.Omega.{arith}
use mathlib.Core.Path.{◌≡◌, refl, sym, ap, ap₂, ◌∙◌, subst}
use mathlib.Core.Bool.{true, false}
use mathlib.Core.List.{List, [], ◌∷◌, ◌++◌, append_assoc}
use lib.ListN.{length, take, length-append}
use lib.Seq.{sets}
use Rattle.formula.specs.declared.Sort.TheVariants.{Faces}
use Rattle.formula.specs.Formula.{lo, hi, Face, ff, ft, at}
use Rattle.formula.specs.Bytes.{encode_face, nodes_face, bound_face}
use Rattle.calculus.specs.Judgement.{Step, member, cover}
use Rattle.calculus.specs.Rules
use Rattle.calculus.specs.Record.{little_endian, operand_bytes}
use Rattle.calculus.specs.Emit.{emit}
use Rattle.calculus.specs.Calls.{emit_member}
use Rattle.calculus.proofs.Growing.{Limited, limited-allowed}
use Rattle.std.specs.Prelude.{Result, Ok, Err}
use Rattle.index.specs.Index.{Knows}
use Rattle.steps.specs.Running.{Ran, Book, done_by, step_by, Runs, Emits}
use Rattle.steps.specs.Trees.{Is}
use Rattle.formula.specs.Answers.{tree_of}
use Rattle.steps.proofs.RunLaws.{emits-by}
use Rattle.steps.proofs.TreeLaws.{tree-of, is-short}
use Rattle.contexts.specs.Contexts.{Are}
use Rattle.contexts.specs.Moves.{cover_by, cover_clash, Settled}
use Rattle.contexts.proofs.AfterLaws.{after_stop, after-up, two-stop, two-stop-2, two_up}
use Rattle.contexts.proofs.ContextLaws.{context-short, field}
use Rattle.contexts.proofs.LeftLaws.{three-written}

module _ {G : List Face} {g : Face} {n : ℕ} {l k : List ℕ} (w : Are G n l) (a : Is Faces g k) where
  pub cover-limited : Limited (cover G g)
  cover-limited = ((w.few, w.low), ((a.few, a.low), tt))

  pub cover-bytes : {c : List ℕ} → c ≡ little_endian 2 n → operand_bytes (cover G g) ≡ c ++ (l ++ k)
  cover-bytes {c} e = ap₂ (λ (x y : List ℕ). x ++ y) (field w e) (sym a.bytes) ∙ append_assoc c l k

  pub cover-short : {c : List ℕ} → c ≡ little_endian 2 n → length (c ++ (l ++ k)) ≤ 4096
  cover-short {c} e = omega (arith, ap length e, context-short w, is-short a, length-append c (l ++ k), length-append l k)

  -- The operands, written part by part.
  pub cover-written : {c : List ℕ} → c ≡ little_endian 2 n → (z z₁ z₂ z₃ : List ℕ) → 2048 ≤ length z → z₁ ≡ sets z 0 c → z₂ ≡ sets z₁ 2 l → z₃ ≡ sets z₂ (2 + length l) k
      → (2 + length l + length k ≤ length z₃) × (take (2 + length l + length k) z₃ ≡ operand_bytes (cover G g))
  cover-written {c} e z z₁ z₂ z₃ h p q r =
      let m : 2 ≡ length c = sym (ap length e) in
      let v = three-written z c l k z₁ z₂ z₃ 2 (2 + length l) (2 + length l + length k) m (omega (arith, m)) (omega (arith, m)) (omega (arith, context-short w, is-short a)) p q r in
      (v.0, v.1 ∙ sym (cover-bytes e))

  -- What is known of the search, by the operands' bytes.
  pub cover-known : (L : List Step) (o : List ℕ) (r : Result ℕ ℕ) → operand_bytes (cover G g) ≡ o → Knows L o r → Settled L G g r
  cover-known L o (Ok i) e h = h G g (limited-allowed (cover G g) cover-limited) e
  cover-known L o (Err n) e h = tt

pub by-member-stop : {l l₁ : Book} {r : Ran} (kind : ℕ) (f : Face) (G : List Face) (g : Face) → Runs l (emit_member f G) r l₁ → done_by r ≡ false → Runs l (cover_by kind f G g) r l₁
by-member-stop kind f G g h d = after_stop {kind = kind} {j = cover G g} refl h d

pub by-member-up : {l l₁ l₂ : Book} {b k : List ℕ} {r s : Ran} {n i : ℕ} (kind : ℕ) (f : Face) (G : List Face) (g : Face) → Are G n b → Is Faces g k → Rules.Rule kind (member f G ∷ []) (cover G g)
    → Runs l (emit_member f G) r l₁ → done_by r ≡ true → i ≡ step_by r → Emits l₁ kind (i ∷ 0 ∷ 0 ∷ []) (operand_bytes (cover G g)) s l₂ → Runs l (cover_by kind f G g) s l₂
by-member-up kind f G g w a u h d j t = after-up {kind = kind} {j = cover G g} refl h d j u (cover-limited w a) refl t

-- The two literals of a clash.
module _ (k : ℕ) (G : List Face) (g : Face) {l l₁ : Book} {m : List ℕ} {r : Ran} (p : Is Faces (at lo k) m) (h : Runs l (emit_member (tree_of Faces m) G) r l₁) where
  low : Runs l (emit_member (at lo k) G) r l₁
  low = subst (λ (f : Face). Runs l (emit_member f G) r l₁) (tree-of p) h

  pub clash-stop : done_by r ≡ false → Runs l (cover_clash k G g) r l₁
  clash-stop d = two-stop {kind = 24} {j = cover G g} (emit_member (at hi k) G) refl low d

  module _ {l₂ : Book} {m₂ : List ℕ} {s : Ran} (d : done_by r ≡ true) (p₂ : Is Faces (at hi k) m₂) (h₂ : Runs l₁ (emit_member (tree_of Faces m₂) G) s l₂) where
    high : Runs l₁ (emit_member (at hi k) G) s l₂
    high = subst (λ (f : Face). Runs l₁ (emit_member f G) s l₂) (tree-of p₂) h₂

    pub clash-stop-2 : done_by s ≡ false → Runs l (cover_clash k G g) s l₂
    clash-stop-2 f = two-stop-2 {kind = 24} {j = cover G g} (emit_member (at hi k) G) refl low d high f

    pub clash-up : {l₃ : Book} {b x : List ℕ} {t : Ran} {n i j : ℕ} → Are G n b → Is Faces g x → done_by s ≡ true → i ≡ step_by r → j ≡ step_by s
        → Emits l₂ 24 (i ∷ j ∷ 0 ∷ []) (operand_bytes (cover G g)) t l₃ → Runs l (cover_clash k G g) t l₃
    clash-up w a f i j v = two_up {kind = 24} {j = cover G g} (emit_member (at hi k) G) refl low d high f i j (Rules.cover-clash {n = k}) (cover-limited w a) refl v

-- Top and absurd.
pub by-top-up : {l l' : Book} {b k : List ℕ} {r : Ran} {G : List Face} {g : Face} {n : ℕ} → Are G n b → Is Faces g k → g ≡ ft → Emits l 21 (0 ∷ 0 ∷ 0 ∷ []) (operand_bytes (cover G g)) r l' → Runs l (emit 21 [] (cover G g)) r l'
by-top-up {G = G} w a e t = emits-by t (subst (λ (f : Face). Rules.Rule 21 [] (cover G f)) (sym e) Rules.cover-top) [] refl tt (cover-limited w a) refl refl

-- ff as bytes.
pub ff-is : {z : List ℕ} → z ≡ 0 ∷ [] → Is Faces ff z
unfolding encode_face nodes_face bound_face
ff-is e = record { bytes = e; few = omega arith; low = omega arith }

pub absurd-rule : {z : List ℕ} (G : List Face) (g : Face) → z ≡ 0 ∷ [] → Rules.Rule 23 (member (tree_of Faces z) G ∷ []) (cover G g)
absurd-rule G g e = subst (λ (f : Face). Rules.Rule 23 (member f G ∷ []) (cover G g)) (sym (tree-of (ff-is e))) Rules.cover-absurd

pub absurd-runs : {l l' : Book} {z : List ℕ} {r : Ran} (G : List Face) (g : Face) → z ≡ 0 ∷ [] → Runs l (cover_by 23 (tree_of Faces z) G g) r l' → Runs l (cover_by 23 ff G g) r l'
absurd-runs {l} {l'} {r = r} G g e h = subst (λ (f : Face). Runs l (cover_by 23 f G g) r l') (tree-of (ff-is e)) h
