-- Members of a context, face by face.
use Prim.Native.Nat.{ℕ, ◌≤◌}
use native.Mathlib.Omega.{arith}
use mathlib.Core.Path.{◌≡◌, refl, sym, ap, ap₂, ◌∙◌, subst}
use mathlib.Core.Bool.{true, false}
use mathlib.Core.List.{List, [], ◌∷◌, ◌++◌}
use lib.ListN.{length, length-append}
use Rattle.formula.specs.declared.Sort.TheVariants.{Faces}
use Rattle.formula.specs.Formula.{Face}
use Rattle.formula.specs.Bytes.{encode}
use Rattle.formula.specs.Answers.{same_bytes}
use Rattle.formula.proofs.ByteLaws.{same_refl, same_true}
use Rattle.formula.proofs.Reading.{encode_injective}
use Rattle.calculus.specs.Judgement.{member, same_face}
use Rattle.calculus.specs.Rules
use Rattle.calculus.specs.Record.{little_endian, operand_bytes}
use Rattle.calculus.specs.Emit.{not-implied, Program, emit, ◌>>=◌}
use Rattle.calculus.specs.Calls.{if_so, emit_member}
use Rattle.calculus.proofs.Growing.{Limited}
use Rattle.std.specs.Prelude.{Err}
use Rattle.steps.specs.declared.Stop.TheVariants.{NotImplied}
use Rattle.steps.specs.Running.{Ran, Book, Kept, done_by, step_by, Runs, Emits}
use Rattle.steps.specs.Trees.{Is}
use Rattle.steps.proofs.TreeLaws.{is-short}
use Rattle.steps.proofs.RunLaws.{true-false, runs-failure, emits-by}
use Rattle.contexts.specs.declared.context.Context.{Context}
use Rattle.contexts.specs.Contexts.{Are}
use Rattle.contexts.specs.Faces.{faces_of, First}
use Rattle.contexts.proofs.AfterLaws.{after, after_stop, after-up}
use Rattle.contexts.proofs.ContextLaws.{field, context-short}

-- Faces are the same where their bytes are.
pub same-face : {x f : Face} {h k : List ℕ} → Is Faces x h → Is Faces f k → same_bytes h k ≡ true → x ≡ f
same-face {x} {f} {h} {k} a b e = encode_injective Faces x f (sym a.bytes ∙ same_true h k e ∙ b.bytes)

pub other-face : {x f : Face} {h k : List ℕ} → Is Faces x h → Is Faces f k → same_bytes h k ≡ false → x ≡ f → ⊥
other-face {x} {f} {h} {k} a b e p = true-false (sym (ap (same_bytes h) (sym (a.bytes ∙ ap (encode Faces) p ∙ sym b.bytes)) ∙ same_refl h) ∙ e)

member-limited : {f : Face} {G : List Face} {k l : List ℕ} {n : ℕ} → Is Faces f k → Are G n l → Limited (member f G)
member-limited a h = ((a.few, a.low), ((h.few, h.low), tt))

member-bytes : {f : Face} {G : List Face} {k l c : List ℕ} {n : ℕ} → Is Faces f k → Are G n l → c ≡ little_endian 2 n → operand_bytes (member f G) ≡ k ++ (c ++ l)
member-bytes a h e = ap₂ (λ (x y : List ℕ). x ++ y) (sym a.bytes) (field h e)

pub member-none : {l : Book} {G : List Face} → Kept l → (f : Face) → G ≡ [] → Runs l (emit_member f G) (Err NotImplied) l
unfolding emit_member
member-none {l} w f e = subst (λ (G : List Face). Runs l (emit_member f G) (Err NotImplied) l) (sym e) (runs-failure w not-implied)

same-program : (f x : Face) (H : List Face) → x ≡ f → emit_member f (x ∷ H) ≡ emit 17 [] (member f (x ∷ H))
unfolding emit_member
same-program f x H p = go (same_face x f)
  where
    go : (d : Dec (x ≡ f)) → if_so d (emit 17 [] (member f (x ∷ H))) (emit_member f H >>= (λ i. emit 18 (i ∷ []) (member f (x ∷ H)))) ≡ emit 17 [] (member f (x ∷ H))
    go (yes e) = refl
    go (no e) = absurd (e p)

other-program : (f x : Face) (H : List Face) → (x ≡ f → ⊥) → emit_member f (x ∷ H) ≡ (emit_member f H >>= after 18 (member f (x ∷ H)))
unfolding emit_member
other-program f x H p = go (same_face x f)
  where
    go : (d : Dec (x ≡ f)) → if_so d (emit 17 [] (member f (x ∷ H))) (emit_member f H >>= (λ i. emit 18 (i ∷ []) (member f (x ∷ H)))) ≡ (emit_member f H >>= (λ i. emit 18 (i ∷ []) (member f (x ∷ H))))
    go (yes e) = absurd (p e)
    go (no e) = refl

pub member_short : {f : Face} {G : List Face} {k l c : List ℕ} {n : ℕ} → Is Faces f k → Are G n l → c ≡ little_endian 2 n → length (k ++ (c ++ l)) ≤ 4096
member_short {k = k} {l} {c} a w e = omega (arith, is-short a, ap length e, context-short w, length-append k (c ++ l), length-append c l)

-- A member by the first face: h are its bytes, and k those of f.
module _ {f : Face} {g d : Context} {h k : List ℕ} (a : Is Faces f k) (v : First g h d) where
  pub member-here : {l l' : Book} {c : List ℕ} {r : Ran} → same_bytes h k ≡ true → c ≡ little_endian 2 g.count → Emits l 17 (0 ∷ 0 ∷ 0 ∷ []) (k ++ (c ++ g.faces.now)) r l' → Runs l (emit_member f (faces_of g)) r l'
  member-here {l} {l'} {c} {r} e o t =
      let i = same-face v.face a e in
      subst (λ (q : Program). Runs l q r l') (sym (ap (emit_member f) v.whole ∙ same-program f v.first (faces_of d) i ∙ ap (λ (H : List Face). emit 17 [] (member f H)) (sym v.whole)))
      (emits-by t (subst (λ (H : List Face). Rules.Rule 17 [] (member f H)) (ap (λ (x : Face). x ∷ faces_of d) (sym i) ∙ sym v.whole) Rules.member-here) [] refl tt (member-limited a g.sound) refl (member-bytes a g.sound o))

  module _ {l l₁ : Book} {r : Ran} (e : same_bytes h k ≡ false) (s : Runs l (emit_member f (faces_of d)) r l₁) where
    program : emit_member f (faces_of g) ≡ (emit_member f (faces_of d) >>= after 18 (member f (faces_of g)))
    program =
        ap (emit_member f) v.whole ∙ other-program f v.first (faces_of d) (other-face v.face a e)
        ∙ ap (λ (I : List Face). emit_member f (faces_of d) >>= after 18 (member f I)) (sym v.whole)

    pub member-stop : done_by r ≡ false → Runs l (emit_member f (faces_of g)) r l₁
    member-stop u = after_stop program s u

    pub member-up : {l₂ : Book} {c : List ℕ} {t : Ran} {i : ℕ} → done_by r ≡ true → i ≡ step_by r → c ≡ little_endian 2 g.count → Emits l₁ 18 (i ∷ 0 ∷ 0 ∷ []) (k ++ (c ++ g.faces.now)) t l₂ → Runs l (emit_member f (faces_of g)) t l₂
    member-up u j o m =
        after-up program s u j (subst (λ (H : List Face). Rules.Rule 18 (member f (faces_of d) ∷ []) (member f H)) (sym v.whole) Rules.member-there) (member-limited a g.sound) (member-bytes a g.sound o) m
