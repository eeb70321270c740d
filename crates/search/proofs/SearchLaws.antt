-- The programs of the moves of the search.
use Prim.Native.Nat.{ℕ, suc, ◌+◌}
use mathlib.Core.Path.{◌≡◌, refl, sym, ap, ◌∙◌, subst}
use mathlib.Core.Bool.{true, false, true≢false, false≢true}
use native.Mathlib.Omega.{arith}
use mathlib.Core.List.{List, [], ◌∷◌, ◌++◌}
use lib.ListN.{length, get_or, take, drop}
use Rattle.formula.specs.declared.Sort.TheVariants.{Faces}
use Rattle.formula.specs.Formula.{Face, ff, fand, for}
use Rattle.formula.specs.Answers.{part_at, tree_of}
use Rattle.calculus.specs.Judgement.{cover}
use Rattle.calculus.specs.Rules
use Rattle.calculus.specs.Search.{Move, split_of, try_right, move}
use Rattle.calculus.specs.Record.{operand_bytes}
use Rattle.calculus.specs.Emit.{Program, ◌>>=◌, attempt}
use Rattle.calculus.specs.Calls.{emit_take, emit_move, emit_cover}
use Rattle.std.specs.Prelude.{Err}
use Rattle.steps.specs.declared.Stop.{Stop}
use Rattle.steps.specs.declared.Stop.TheVariants.{NotBelow, NotImplied, Full}
use Rattle.steps.specs.Running.{Ran, Book, done_by, step_by, Runs, Emits}
use Rattle.steps.specs.Trees.{Is}
use Rattle.steps.proofs.RunLaws.{runs-below, attempt-done, attempt-failed, attempt-full, Failed, emits-by}
use Rattle.steps.proofs.TreeLaws.{tree-of}
use Rattle.contexts.specs.Contexts.{Are, context_of, leave, cut, At}
use Rattle.contexts.specs.Moves.{split_at}
use Rattle.search.specs.declared.turns.Turn.{Turn}
use Rattle.search.specs.Turns.{full_by, Parts, Turns}
use Rattle.contexts.proofs.AfterLaws.{after, after_stop, after-up, after_two, two-stop, two-stop-2, two_up, after-three, three-stop, three-stop-2, three-stop-3, three_up}
use Rattle.contexts.proofs.ContextLaws.{context-of, tail}
use Rattle.contexts.proofs.TakeLaws.{leaving}
use Rattle.contexts.proofs.ClosingLaws.{cover-limited}
use Rattle.search.proofs.CoverLaws.{cover-moves}
use Rattle.search.proofs.SplitLaws.{is-fand, is-for, Halves, halves, both-are, first-are, second-are}

-- The search is the program of its move.
pub by_turn : {l l' : Book} {r : Ran} {G : List Face} {g : Face} {t : Turn} {m : Move} → Turns G g (move G g) t → move G g ≡ m → Runs l (emit_move emit_cover G g m) r l' → Runs l (emit_cover G g) r l'
by_turn {l} {l'} {r} {G} {g} v e h = subst (λ (p : Program). Runs l p r l') (sym (cover-moves G g ∙ ap (emit_move emit_cover G g) e)) h

-- The run in a context that was made.
pub made-runs : {l l' : Book} {y z : List ℕ} {r : Ran} (n : ℕ) (g : Face) → z ≡ y → Runs l (emit_cover (context_of n z) g) r l' → Runs l (emit_cover (context_of n y) g) r l'
made-runs {l} {l'} {r = r} n g e h = subst (λ (x : List ℕ). Runs l (emit_cover (context_of n x) g) r l') e h

-- A run on another context, and on another goal.
on-context : {l l' : Book} {r : Ran} {G H : List Face} (g : Face) → G ≡ H → Runs l (emit_cover G g) r l' → Runs l (emit_cover H g) r l'
on-context {l} {l'} {r} g e h = subst (λ (K : List Face). Runs l (emit_cover K g) r l') e h

on-goal : {l l' : Book} {r : Ran} (G : List Face) {f g : Face} → f ≡ g → Runs l (emit_cover G f) r l' → Runs l (emit_cover G g) r l'
on-goal {l} {l'} {r} G e h = subst (λ (k : Face). Runs l (emit_cover G k) r l') e h

-- Left moves ----------------------------------------------------------------------------------------

module _ (G : List Face) (g : Face) (b : List Face) (f : Face) (a : List Face) where
  and_split : (p : Parts fand f) → emit_move emit_cover G g (split_of b f a) ≡ after_two (emit_take b f a) (emit_cover (p.left ∷ p.right ∷ (b ++ a)) g) 25 (cover G g)
  and_split p = subst (λ (z : Face). emit_move emit_cover G g (split_of b z a) ≡ after_two (emit_take b z a) (emit_cover (p.left ∷ p.right ∷ (b ++ a)) g) 25 (cover G g)) (sym p.whole) refl

  or_split : (p : Parts for f) → emit_move emit_cover G g (split_of b f a) ≡ after-three (emit_take b f a) (emit_cover (p.left ∷ (b ++ a)) g) (emit_cover (p.right ∷ (b ++ a)) g) 26 (cover G g)
  or_split p =
      subst (λ (z : Face). emit_move emit_cover G g (split_of b z a) ≡ after-three (emit_take b z a) (emit_cover (p.left ∷ (b ++ a)) g) (emit_cover (p.right ∷ (b ++ a)) g) 26 (cover G g)) (sym p.whole) refl

module _ {G : List Face} {g : Face} {i place n : ℕ} {x b k : List ℕ} (w : At G i x place n b) (a : Is Faces g k) {l l₁ : Book} {r : Ran} (h : Runs l (leaving i G) r l₁) where
  module _ (p : Parts fand (get_or G i ff)) where
    both : Program
    both = emit_cover (p.left ∷ p.right ∷ leave i G) g

    and_left : emit_move emit_cover G g (split_at [] G i) ≡ after_two (leaving i G) both 25 (cover G g)
    unfolding both
    and_left = and_split G g (take i G) (get_or G i ff) (drop (suc i) G) p

    pub and-left-stop : done_by r ≡ false → Runs l (emit_move emit_cover G g (split_at [] G i)) r l₁
    and-left-stop d = two-stop both and_left h d

    module _ (d : done_by r ≡ true) {l₂ : Book} {s : Ran} (h₂ : Runs l₁ (emit_cover (context_of (n + 1) (tail 1 x ++ cut place (place + length x) b)) g) s l₂) where
      left-run : Runs l₁ both s l₂
      unfolding both
      left-run = on-context g (context-of (both-are is-fand w p refl)) h₂

      pub and-left-stop-2 : done_by s ≡ false → Runs l (emit_move emit_cover G g (split_at [] G i)) s l₂
      and-left-stop-2 f = two-stop-2 both and_left h d left-run f

      pub and-left-up : {l₃ : Book} {c : Ran} {u v : ℕ} → done_by s ≡ true → u ≡ step_by r → v ≡ step_by s → Emits l₂ 25 (u ∷ v ∷ 0 ∷ []) (operand_bytes (cover G g)) c l₃ → Runs l (emit_move emit_cover G g (split_at [] G i)) c l₃
      and-left-up f u v t = two_up both and_left h d left-run f u v (Rules.cover-and-left {D = leave i G} {a = p.left} {b = p.right}) (cover-limited w.whole a) refl t

  module _ (p : Parts for (get_or G i ff)) where
    one : Program
    one = emit_cover (p.left ∷ leave i G) g

    other : Program
    other = emit_cover (p.right ∷ leave i G) g

    or_left : emit_move emit_cover G g (split_at [] G i) ≡ after-three (leaving i G) one other 26 (cover G g)
    unfolding one other
    or_left = or_split G g (take i G) (get_or G i ff) (drop (suc i) G) p

    pub or-left-stop : done_by r ≡ false → Runs l (emit_move emit_cover G g (split_at [] G i)) r l₁
    or-left-stop d = three-stop one other or_left h d

    module _ (d : done_by r ≡ true) {m : List ℕ} (q : m ≡ part_at Faces x 1) {l₂ : Book} {s : Ran} (h₂ : Runs l₁ (emit_cover (context_of n (m ++ cut place (place + length x) b)) g) s l₂) where
      one-run : Runs l₁ one s l₂
      unfolding one
      one-run = on-context g (context-of (first-are is-for w p q)) h₂

      pub or-left-stop-2 : done_by s ≡ false → Runs l (emit_move emit_cover G g (split_at [] G i)) s l₂
      or-left-stop-2 f = three-stop-2 one other or_left h d one-run f

      module _ (f : done_by s ≡ true) {l₃ : Book} {v : Ran} (h₃ : Runs l₂ (emit_cover (context_of n (tail (1 + length m) x ++ cut place (place + length x) b)) g) v l₃) where
        other-run : Runs l₂ other v l₃
        unfolding other
        other-run = on-context g (context-of (second-are is-for w p q)) h₃

        pub or-left-stop-3 : done_by v ≡ false → Runs l (emit_move emit_cover G g (split_at [] G i)) v l₃
        or-left-stop-3 e = three-stop-3 one other or_left h d one-run f other-run e

        pub or-left-up : {l₄ : Book} {c : Ran} {y₁ y₂ y₃ : ℕ} → done_by v ≡ true → y₁ ≡ step_by r → y₂ ≡ step_by s → y₃ ≡ step_by v → Emits l₃ 26 (y₁ ∷ y₂ ∷ y₃ ∷ []) (operand_bytes (cover G g)) c l₄
            → Runs l (emit_move emit_cover G g (split_at [] G i)) c l₄
        or-left-up e u₁ u₂ u₃ t =
            three_up one other or_left h d one-run f other-run e u₁ u₂ u₃ (Rules.cover-or-left {D = leave i G} {a = p.left} {b = p.right}) (cover-limited w.whole a) refl t

-- Right moves -----------------------------------------------------------------------------------------

module _ (G : List Face) (g : Face) where
  and-ask : (p : Parts fand g) → emit_move emit_cover G g (try_right g) ≡ after_two (emit_cover G p.left) (emit_cover G p.right) 27 (cover G g)
  and-ask p = subst (λ (z : Face). emit_move emit_cover G z (try_right z) ≡ after_two (emit_cover G p.left) (emit_cover G p.right) 27 (cover G z)) (sym p.whole) refl

  or-ask : (p : Parts for g) → emit_move emit_cover G g (try_right g) ≡ attempt (emit_cover G p.left) (after 28 (cover G g)) (emit_cover G p.right >>= after 29 (cover G g))
  or-ask p = subst (λ (z : Face). emit_move emit_cover G z (try_right z) ≡ attempt (emit_cover G p.left) (after 28 (cover G z)) (emit_cover G p.right >>= after 29 (cover G z))) (sym p.whole) refl

full_is : (e : Stop) → full_by e ≡ true → e ≡ Full
full_is NotBelow e = absurd (false≢true e)
full_is NotImplied e = absurd (false≢true e)
full_is Full e = refl

not_full : (e : Stop) → full_by e ≡ false → Failed (Err e)
not_full NotBelow f = (refl, λ h. absurd (let z : ◌≡◌ {A = ℕ} 0 1 = cc in omega arith))
not_full NotImplied f = (refl, λ h. absurd (let z : ◌≡◌ {A = ℕ} 0 1 = cc in omega arith))
not_full Full f = absurd (true≢false f)

module _ {G : List Face} {g : Face} {n : ℕ} {b y m : List ℕ} (w : Are G n b) (a : Is Faces g y) (q : m ≡ part_at Faces y 1) {l l₁ : Book} {r : Ran} (h : Runs l (emit_cover G (tree_of Faces m)) r l₁) where
  module _ (p : Parts fand g) where
    both_halves : Halves p.left p.right y m
    both_halves = halves is-fand a p q

    and_first : Runs l (emit_cover G p.left) r l₁
    and_first = on-goal G (tree-of both_halves.first) h

    pub and-right-stop : done_by r ≡ false → Runs l (emit_move emit_cover G g (try_right g)) r l₁
    and-right-stop d = two-stop (emit_cover G p.right) (and-ask G g p) and_first d

    module _ (d : done_by r ≡ true) {l₂ : Book} {s : Ran} (h₂ : Runs l₁ (emit_cover G (tree_of Faces (tail (1 + length m) y))) s l₂) where
      and_second : Runs l₁ (emit_cover G p.right) s l₂
      and_second = on-goal G (tree-of both_halves.second) h₂

      pub and-right-stop-2 : done_by s ≡ false → Runs l (emit_move emit_cover G g (try_right g)) s l₂
      and-right-stop-2 f = two-stop-2 (emit_cover G p.right) (and-ask G g p) and_first d and_second f

      pub and-right-up : {l₃ : Book} {c : Ran} {u v : ℕ} → done_by s ≡ true → u ≡ step_by r → v ≡ step_by s → Emits l₂ 27 (u ∷ v ∷ 0 ∷ []) (operand_bytes (cover G g)) c l₃ → Runs l (emit_move emit_cover G g (try_right g)) c l₃
      and-right-up f u v t =
          two_up (emit_cover G p.right) (and-ask G g p) and_first d and_second f u v
          (subst (λ (z : Face). Rules.Rule 27 (cover G p.left ∷ cover G p.right ∷ []) (cover G z)) (sym p.whole) Rules.cover-and-right) (cover-limited w a) refl t

  module _ (p : Parts for g) where
    either : Halves p.left p.right y m
    either = halves is-for a p q

    or-first : Runs l (emit_cover G p.left) r l₁
    or-first = on-goal G (tree-of either.first) h

    second : Program
    second = emit_cover G p.right >>= after 29 (cover G g)

    asked : {l₂ : Book} {c : Ran} → Runs l (attempt (emit_cover G p.left) (after 28 (cover G g)) second) c l₂ → Runs l (emit_move emit_cover G g (try_right g)) c l₂
    unfolding second
    asked {l₂} {c} v = subst (λ (t : Program). Runs l t c l₂) (sym (or-ask G g p)) v

    pub or-right-up : {l₂ : Book} {c : Ran} {u : ℕ} → done_by r ≡ true → u ≡ step_by r → Emits l₁ 28 (u ∷ 0 ∷ 0 ∷ []) (operand_bytes (cover G g)) c l₂ → Runs l (emit_move emit_cover G g (try_right g)) c l₂
    or-right-up {l₂} {c} d u t =
        let v : Emits l₁ 28 (step_by r ∷ 0 ∷ 0 ∷ []) (operand_bytes (cover G g)) c l₂ = subst (λ (z : ℕ). Emits l₁ 28 (z ∷ 0 ∷ 0 ∷ []) (operand_bytes (cover G g)) c l₂) u t in
        let j : Rules.Rule 28 (cover G p.left ∷ []) (cover G g) = subst (λ (z : Face). Rules.Rule 28 (cover G p.left ∷ []) (cover G z)) (sym p.whole) Rules.cover-or-right0 in
        asked (attempt-done (after 28 (cover G g)) second or-first d (emits-by v j (step_by r ∷ []) refl (runs-below or-first d, tt) (cover-limited w a) refl refl))

    pub or-right-full : {e : Stop} → r ≡ Err e → full_by e ≡ true → Runs l (emit_move emit_cover G g (try_right g)) (Err e) l₁
    or-right-full {e} i f =
        let z : r ≡ Err Full = i ∙ ap Err (full_is e f) in
        subst (λ (c : Ran). Runs l (emit_move emit_cover G g (try_right g)) c l₁) (sym (ap Err (full_is e f)))
        (asked (attempt-full (after 28 (cover G g)) second (subst (λ (c : Ran). Runs l (emit_cover G p.left) c l₁) z or-first)))

    module _ {o : Stop} (d : r ≡ Err o) (e : full_by o ≡ false) {l₂ : Book} {s : Ran} (h₂ : Runs l₁ (emit_cover G (tree_of Faces (tail (1 + length m) y))) s l₂) where
      failed : Failed r
      failed = subst Failed (sym d) (not_full o e)

      or-second : Runs l₁ (emit_cover G p.right) s l₂
      or-second = on-goal G (tree-of either.second) h₂

      pub or-right-stop : done_by s ≡ false → Runs l (emit_move emit_cover G g (try_right g)) s l₂
      unfolding second
      or-right-stop f = asked (attempt-failed (after 28 (cover G g)) second or-first failed (after_stop {kind = 29} {j = cover G g} refl or-second f))

      pub or-right-up-2 : {l₃ : Book} {c : Ran} {u : ℕ} → done_by s ≡ true → u ≡ step_by s → Emits l₂ 29 (u ∷ 0 ∷ 0 ∷ []) (operand_bytes (cover G g)) c l₃ → Runs l (emit_move emit_cover G g (try_right g)) c l₃
      unfolding second
      or-right-up-2 f u t =
          let j : Rules.Rule 29 (cover G p.right ∷ []) (cover G g) = subst (λ (z : Face). Rules.Rule 29 (cover G p.right ∷ []) (cover G z)) (sym p.whole) Rules.cover-or-right1 in
          asked (attempt-failed (after 28 (cover G g)) second or-first failed (after-up {kind = 29} {j = cover G g} refl or-second f u j (cover-limited w a) refl t))
