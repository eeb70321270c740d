-- A face left out of a context, face by face.
use Prim.Native.Nat.{ℕ, zero, suc, ◌+◌, ◌-◌, ◌≤◌, ◌<◌, max}
use native.Mathlib.Omega.{arith}
use mathlib.Core.Path.{◌≡◌, refl, sym, ap, ap₂, ◌∙◌, subst}
use mathlib.Core.Bool.{true, false}
use mathlib.Core.List.{List, [], ◌∷◌, ◌++◌, append_assoc, tail-eq_of_cons-eq}
use lib.ListN
use lib.ListN.{length, get_or, drop, length-append}
use lib.Seq.{split_at}
use Rattle.formula.specs.declared.Sort.TheVariants.{Faces}
use Rattle.formula.specs.Formula.{Face, ff}
use Rattle.formula.specs.Bytes.{nodes_face, bound_face}
use Rattle.calculus.specs.Judgement.{Judgement, take}
use Rattle.calculus.specs.Rules
use Rattle.calculus.specs.Search.{nodes_context}
use Rattle.calculus.specs.Record.{little_endian, bound_context, operand_bytes}
use Rattle.calculus.specs.Emit.{Program, emit, ◌>>=◌}
use Rattle.calculus.specs.Calls.{emit_take}
use Rattle.calculus.proofs.Growing.{Limited}
use Rattle.steps.specs.Running.{Ran, Book, done_by, step_by, Runs, Emits}
use Rattle.steps.specs.Trees.{Is}
use Rattle.steps.proofs.RunLaws.{emits-by}
use Rattle.steps.proofs.TreeLaws.{is-short}
use Rattle.contexts.specs.declared.context.Context.{Context}
use Rattle.contexts.specs.Contexts.{Are, context_of, leave, LeftOut, At, cut}
use Rattle.contexts.specs.Faces.{faces_of, First}
use Rattle.contexts.proofs.LeftLaws.{at_cut}
use Rattle.contexts.proofs.AfterLaws.{after, after_stop, after-up}
use Rattle.contexts.proofs.ContextLaws.{context-of, context-short, field}

-- What is left of a context.
pub record Less (i : ℕ) (G : List Face) : Type 0 where
  pub count : length G ≡ suc (length (leave i G))
  pub nodes : nodes_context G ≡ nodes_face (get_or G i ff) + nodes_context (leave i G)
  pub bound : bound_context G ≡ max (bound_face (get_or G i ff)) (bound_context (leave i G))

pub less : (i : ℕ) (G : List Face) → i < length G → Less i G
unfolding nodes_context bound_context
less i [] h = absurd (omega arith)
less zero (f ∷ G) h = record { count = refl; nodes = refl; bound = refl }
less (suc i) (f ∷ G) h =
    let v = less i G (omega arith) in
    record { count = ap suc v.count; nodes = omega (arith, v.nodes); bound = omega (arith, v.bound) }

-- The others of a context are one.
pub at-others : {G : List Face} {i at n : ℕ} {x g d : List ℕ} → At G i x at n g → d ≡ cut at (at + length x) g → Are (leave i G) (n - 1) d
at-others {G} {i} w e =
    let v = less i G (omega (arith, w.inside, w.whole.count)) in
    record { bytes = e ∙ at_cut w; count = omega (arith, v.count, w.whole.count); few = omega (arith, v.nodes, w.whole.few); low = omega (arith, v.bound, w.whole.low) }

pub at-left : {G : List Face} {i at n m : ℕ} {x g d : List ℕ} → At G i x at n g → Are (leave i G) m d → LeftOut G i x (context_of m d)
at-left w h = record { inside = omega (arith, w.inside, w.whole.count); out = w.out; others = context-of h }

module _ (g d : Context) {i : ℕ} {x : List ℕ} (w : LeftOut (faces_of g) i x (faces_of d)) where
  -- The judgement that the face number i is left out.
  abbrev leaves : Judgement
  leaves = take (faces_of g) (get_or (faces_of g) i ff) (leave i (faces_of g))

  left-are : Are (leave i (faces_of g)) d.count d.faces.now
  left-are = subst (λ (D : List Face). Are D d.count d.faces.now) w.others d.sound

  take-limited : Limited leaves
  take-limited = ((g.sound.few, g.sound.low), ((w.out.few, w.out.low), ((left-are.few, left-are.low), tt)))

  take-bytes : {c e : List ℕ} → c ≡ little_endian 2 g.count → e ≡ little_endian 2 d.count → operand_bytes leaves ≡ c ++ (g.faces.now ++ (x ++ (e ++ d.faces.now)))
  take-bytes {c} {e} p q = ap₂ (λ (y z : List ℕ). y ++ z) (field g.sound p) (ap₂ (λ (y z : List ℕ). y ++ z) (sym w.out.bytes) (field left-are q)) ∙ append_assoc c g.faces.now (x ++ (e ++ d.faces.now))

  pub take_short : {c e : List ℕ} → c ≡ little_endian 2 g.count → e ≡ little_endian 2 d.count → length (c ++ (g.faces.now ++ (x ++ (e ++ d.faces.now)))) ≤ 4096
  take_short {c} {e} p q =
      omega (
        arith,
        ap length p,
        ap length q,
        context-short g.sound,
        is-short w.out,
        context-short d.sound,
        length-append c (g.faces.now ++ (x ++ (e ++ d.faces.now))),
        length-append g.faces.now (x ++ (e ++ d.faces.now)),
        length-append x (e ++ d.faces.now),
        length-append e d.faces.now,
      )

-- The program that leaves out the face number i.
abbrev pub leaving : ℕ → List Face → Program
leaving i G = emit_take (ListN.take i G) (get_or G i ff) (drop (suc i) G)

leaving-first : (i : ℕ) (G : List Face) → i < length G → i ≡ 0 → leaving i G ≡ emit 19 [] (take G (get_or G i ff) (leave i G))
unfolding emit_take
leaving-first i [] h e = absurd (omega arith)
leaving-first zero (f ∷ G) h e = refl
leaving-first (suc i) (f ∷ G) h e = absurd (omega arith)

leaving-up : (i : ℕ) (f : Face) (H : List Face) → i < suc (length H) → (i ≡ 0 → ⊥) → leaving i (f ∷ H) ≡ (leaving (i - 1) H >>= after 20 (take (f ∷ H) (get_or (f ∷ H) i ff) (leave i (f ∷ H))))
unfolding emit_take
leaving-up zero f H h z = absurd (z refl)
leaving-up (suc i) f H h z =
    let e : i ≡ suc i - 1 = omega arith in
    ap₂ (λ (K : List Face) (k : ℕ). leaving k H >>= after 20 (take (f ∷ K) (get_or H i ff) (f ∷ leave i H))) (sym (split_at H i ff (omega arith))) e

first-rule : (i : ℕ) (G : List Face) → i < length G → i ≡ 0 → Rules.Rule 19 [] (take G (get_or G i ff) (leave i G))
first-rule i [] h e = absurd (omega arith)
first-rule zero (f ∷ G) h e = Rules.take-here
first-rule (suc i) (f ∷ G) h e = absurd (omega arith)

up_rule : (i : ℕ) (f : Face) (H : List Face) → (i ≡ 0 → ⊥) → Rules.Rule 20 (take H (get_or H (i - 1) ff) (leave (i - 1) H) ∷ []) (take (f ∷ H) (get_or (f ∷ H) i ff) (leave i (f ∷ H)))
up_rule zero f H z = absurd (z refl)
up_rule (suc i) f H z =
    let e : i ≡ suc i - 1 = omega arith in
    subst (λ (k : ℕ). Rules.Rule 20 (take H (get_or H k ff) (leave k H) ∷ []) (take (f ∷ H) (get_or H i ff) (f ∷ leave i H))) e Rules.take-there

leave-up : (i : ℕ) (f : Face) (H : List Face) → (i ≡ 0 → ⊥) → (get_or (f ∷ H) i ff ≡ get_or H (i - 1) ff) × (leave i (f ∷ H) ≡ f ∷ leave (i - 1) H)
leave-up zero f H z = absurd (z refl)
leave-up (suc i) f H z =
    let e : i ≡ suc i - 1 = omega arith in
    (ap (λ (k : ℕ). get_or H k ff) e, ap (λ (k : ℕ). f ∷ leave k H) e)

module _ (g d : Context) {i : ℕ} {x : List ℕ} (w : LeftOut (faces_of g) i x (faces_of d)) where
  pub take-here : {l l' : Book} {c e : List ℕ} {r : Ran} → i ≡ 0 → c ≡ little_endian 2 g.count → e ≡ little_endian 2 d.count → Emits l 19 (0 ∷ 0 ∷ 0 ∷ []) (c ++ (g.faces.now ++ (x ++ (e ++ d.faces.now)))) r l' → Runs l (leaving i (faces_of g)) r l'
  take-here {l} {l'} {r} z p q t =
      subst (λ (y : Program). Runs l y r l') (sym (leaving-first i (faces_of g) w.inside z)) (emits-by t (first-rule i (faces_of g) w.inside z) [] refl tt (take-limited g d w) refl (take-bytes g d w p q))

  -- There is a face in front, and behind it one that is left.
  pub take-some : (i ≡ 0 → ⊥) → (faces_of g ≡ [] → ⊥) × (faces_of d ≡ [] → ⊥)
  take-some z = (λ e. omega (arith, w.inside, ap length e), λ e. two i (faces_of g) z w.inside (ap length (sym w.others ∙ e)))
    where
      two : (i : ℕ) (G : List Face) → (i ≡ 0 → ⊥) → i < length G → length (leave i G) ≡ 0 → ⊥
      two i G z b e = omega (arith, (less i G b).count)

  -- Without the first face, whose bytes are h.
  module _ {h k : List ℕ} {g' d' : Context} (z : i ≡ 0 → ⊥) (v : First g h g') (u : First d k d') where
    others : faces_of d' ≡ leave (i - 1) (faces_of g')
    others = tail-eq_of_cons-eq (sym u.whole ∙ w.others ∙ ap (leave i) v.whole ∙ (leave-up i v.first (faces_of g') z).1)

    pub rest-left : LeftOut (faces_of g') (i - 1) x (faces_of d')
    rest-left = record {
      inside = omega (arith, w.inside, ap length v.whole);
      out = subst (λ (f : Face). Is Faces f x) (ap (λ (K : List Face). get_or K i ff) v.whole ∙ (leave-up i v.first (faces_of g') z).0) w.out;
      others = others;
    }

    module _ {l l₁ : Book} {r : Ran} (s : Runs l (leaving (i - 1) (faces_of g')) r l₁) where
      program : leaving i (faces_of g) ≡ (leaving (i - 1) (faces_of g') >>= after 20 (take (faces_of g) (get_or (faces_of g) i ff) (leave i (faces_of g))))
      program =
          let b : i < suc (length (faces_of g')) = omega (arith, w.inside, ap length v.whole) in
          ap (leaving i) v.whole ∙ leaving-up i v.first (faces_of g') b z
          ∙ ap (λ (I : List Face). leaving (i - 1) (faces_of g') >>= after 20 (take I (get_or I i ff) (leave i I))) (sym v.whole)

      pub take-stop : done_by r ≡ false → Runs l (leaving i (faces_of g)) r l₁
      take-stop e = after_stop program s e

      pub take-up : {l₂ : Book} {c e : List ℕ} {t : Ran} {m : ℕ} → done_by r ≡ true → m ≡ step_by r → c ≡ little_endian 2 g.count → e ≡ little_endian 2 d.count
          → Emits l₁ 20 (m ∷ 0 ∷ 0 ∷ []) (c ++ (g.faces.now ++ (x ++ (e ++ d.faces.now)))) t l₂ → Runs l (leaving i (faces_of g)) t l₂
      take-up f j o q n =
          after-up program s f j
          (subst (λ (I : List Face). Rules.Rule 20 (take (faces_of g') (get_or (faces_of g') (i - 1) ff) (leave (i - 1) (faces_of g')) ∷ []) (take I (get_or I i ff) (leave i I))) (sym v.whole) (up_rule i v.first (faces_of g') z))
          (take-limited g d w) (take-bytes g d w o q) n
