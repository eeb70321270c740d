-- The search by its moves: more fuel than nodes changes nothing.
use Prim.Native.Nat.{ℕ, zero, suc, ◌+◌, ◌≤◌}
use native.Mathlib.Omega.{arith}
use mathlib.Core.Path.{◌≡◌, refl, ap, ap₂}
use mathlib.Core.List.{List, [], ◌∷◌, ◌++◌}
use Rattle.formula.specs.Formula.{Face, fand, for}
use Rattle.formula.specs.Bytes.{nodes_face}
use Rattle.calculus.specs.Judgement.{cover}
use Rattle.calculus.specs.Search.{Move, move, nodes_context}
use Rattle.calculus.specs.Emit.{Program, emit, ◌>>=◌, attempt}
use Rattle.calculus.specs.Calls.{emit_take, emit_move, emit_cover_in, emit_cover}
use Rattle.calculus.proofs.Searching.{Moves, is-top, is-hit, is-absurd, is-clash, is-and-left, is-or-left, is-and-right, is-or-right, is_stuck, move-view, left_out, nodes-left-out, nodes-positive}

-- Two programs for what a move leaves to show that agree below so many nodes.
Agree : ℕ → (List Face → Face → Program) → (List Face → Face → Program) → Type 0
Agree n c d = (G : List Face) (g : Face) → nodes_context G + nodes_face g ≤ n → c G g ≡ d G g

moves-agree : (n : ℕ) (c d : List Face → Face → Program) → Agree n c d → {P : Type 0} {G : List Face} {g : Face} {m : Move} → Moves P G g m → nodes_context G + nodes_face g ≤ suc n → emit_move c G g m ≡ emit_move d G g m
unfolding Agree nodes_face nodes_context
moves-agree n c d h (is-top e) w = refl
moves-agree n c d h (is-hit m) w = refl
moves-agree n c d h (is-absurd m) w = refl
moves-agree n c d h (is-clash m o) w = refl
moves-agree n c d h {G = G} {g = g} (is-and-left {b} {a} {x} {y} e) w =
    ap (λ (p : Program). emit_take b (fand x y) a >>= (λ t. p >>= (λ i. emit 25 (t ∷ i ∷ []) (cover G g)))) (h (x ∷ y ∷ (b ++ a)) g (omega (arith, nodes-left-out (left_out b (fand x y) a), ap nodes_context e)))
moves-agree n c d h {G = G} {g = g} (is-or-left {b} {a} {x} {y} e) w =
    let v = nodes-left-out (left_out b (for x y) a) in
    ap₂ (λ (p q : Program). emit_take b (for x y) a >>= (λ t. p >>= (λ i. q >>= (λ k. emit 26 (t ∷ i ∷ k ∷ []) (cover G g)))))
    (h (x ∷ (b ++ a)) g (omega (arith, v, ap nodes_context e, nodes-positive y))) (h (y ∷ (b ++ a)) g (omega (arith, v, ap nodes_context e, nodes-positive x)))
moves-agree n c d h {G = G} {g = g} (is-and-right {x} {y} e) w =
    ap₂ (λ (p q : Program). p >>= (λ i. q >>= (λ k. emit 27 (i ∷ k ∷ []) (cover G g)))) (h G x (omega (arith, ap nodes_face e, nodes-positive y))) (h G y (omega (arith, ap nodes_face e, nodes-positive x)))
moves-agree n c d h {G = G} {g = g} (is-or-right {x} {y} s e) w =
    ap₂ (λ (p q : Program). attempt p (λ i. emit 28 (i ∷ []) (cover G g)) (q >>= (λ k. emit 29 (k ∷ []) (cover G g)))) (h G x (omega (arith, ap nodes_face e, nodes-positive y))) (h G y (omega (arith, ap nodes_face e, nodes-positive x)))
moves-agree n c d h (is_stuck t) w = refl

same-fuel : (n k : ℕ) (G : List Face) (g : Face) → nodes_context G + nodes_face g ≤ n → nodes_context G + nodes_face g ≤ k → emit_cover_in n G g ≡ emit_cover_in k G g
unfolding emit_cover_in Agree
same-fuel zero k G g p q = absurd (omega (arith, nodes-positive g))
same-fuel (suc n) zero G g p q = absurd (omega (arith, nodes-positive g))
same-fuel (suc n) (suc k) G g p q = go (nodes_context G + nodes_face g) refl (λ H f u v. same-fuel n k H f u v)
  where
    go : (m : ℕ) → nodes_context G + nodes_face g ≡ m → ((H : List Face) (f : Face) → nodes_context H + nodes_face f ≤ n → nodes_context H + nodes_face f ≤ k → emit_cover_in n H f ≡ emit_cover_in k H f)
        → emit_move (emit_cover_in n) G g (move G g) ≡ emit_move (emit_cover_in k) G g (move G g)
    go zero e h = absurd (omega (arith, nodes-positive g))
    go (suc m) e h = moves-agree m (emit_cover_in n) (emit_cover_in k) (λ H f r. h H f (omega arith) (omega arith)) (move-view G g) (omega arith)

-- The search is its next move, and the search for what that leaves to show.
pub cover-moves : (G : List Face) (g : Face) → emit_cover G g ≡ emit_move emit_cover G g (move G g)
unfolding emit_cover emit_cover_in Agree
cover-moves G g = go (nodes_context G + nodes_face g) refl
  where
    go : (m : ℕ) → nodes_context G + nodes_face g ≡ m → emit_cover_in m G g ≡ emit_move emit_cover G g (move G g)
    go zero e = absurd (omega (arith, nodes-positive g))
    go (suc m) e = moves-agree m (emit_cover_in m) emit_cover (λ H f r. same-fuel m (nodes_context H + nodes_face f) H f r (omega arith)) (move-view G g) (omega arith)
