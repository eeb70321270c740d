-- The runs for comparisons, intervals, faces, members, the search and entailments: each step that they append follows and keeps the limits, and the number is that of the judgement.
use mathlib.Core.Path.{◌≡◌, refl, ap}
use mathlib.Core.Bool.{Bool}
use mathlib.Core.List.{List, [], ◌∷◌, ◌++◌, Memᴰ}
use Prim.Native.Nat.{ℕ, zero, suc, ◌+◌, ◌≤◌, max}
use native.Mathlib.Omega.{arith}
use Rattle.formula.specs.Formula.{lo, hi, Face, ff, ft, at, fand, for, Interval, i0, i1, dim, neg, meet, join}
use Rattle.formula.specs.Bytes.{nodes_face, nodes_interval, bound_face, bound_interval, max_nodes, max_bound}
use Rattle.calculus.specs.Judgement.{Step, interval, face, member, take, cover, entails, same_face}
use Rattle.calculus.specs.Rules
use Rattle.calculus.specs.Search.{Move, nodes_context}
use Rattle.calculus.specs.Truth.{LeftOut, here, there}
use Rattle.calculus.specs.Record.{bound_context}
use Rattle.calculus.specs.Emit.{Program, emit, ◌>>=◌, run}
use Rattle.calculus.specs.Calls.{Order, less, at_most, compared, emit_comparison, emit_interval, emit_face, if_so, emit_member, emit_take, emit_move, emit_cover_in, emit_cover, emit_entails}
use Rattle.calculus.proofs.Searching.{Moves, is-top, is-hit, is-absurd, is-clash, is-and-left, is-or-left, is-and-right, is-or-right, is_stuck, move-view, left_out, nodes-left-out}
use Rattle.calculus.proofs.Growing.{Limited, extends-trans, keep, as_it_was, Good, leaves, next-good, instead-good, end_of, ◌and◌, emit-good}
use Rattle.calculus.proofs.Ends.{compared-s, face-at}

-- The bound of a context from which a face is left out.
pub bound-left-out : {f : Face} {G D : List Face} → LeftOut f G D → bound_context G ≡ max (bound_face f) (bound_context D)
unfolding bound_context
bound-left-out here = refl
bound-left-out (there o) = omega (arith, bound-left-out o)

-- A face of a context has no larger bound.
member-bound : {f : Face} {G : List Face} → Memᴰ f G → bound_face f ≤ bound_context G
unfolding bound_context
member-bound (Memᴰ.head e) = omega (arith, ap bound_face e)
member-bound (Memᴰ.tail m) = omega (arith, member-bound m)

module _ (room : List Step → Bool) where
  pub comparison-good : (o : Order) (m n : ℕ) → m ≤ max_bound → n ≤ max_bound → (L : List Step) → Good (compared o m n) L (run room (emit_comparison o m n) L)
  unfolding run emit_comparison
  comparison-good less zero zero p q L = leaves as_it_was
  comparison-good less zero (suc n) p q L = emit-good room end_of Rules.lt-z (omega arith)
  comparison-good at_most zero n p q L = emit-good room end_of Rules.le-z (omega arith)
  comparison-good o (suc m) zero p q L = leaves as_it_was
  comparison-good o (suc m) (suc n) p q L = next-good (comparison-good o m n (omega arith) (omega arith) L) (λ i M x f. emit-good room (f and end_of) (compared-s o m n) (both o))
    where
      both : (o : Order) → Limited (compared o (suc m) (suc n))
      both less = omega arith
      both at_most = omega arith

  pub interval-good : (d : ℕ) (r : Interval) → d ≤ max_bound → nodes_interval r ≤ max_nodes → bound_interval r ≤ max_bound → (L : List Step) → Good (interval d r) L (run room (emit_interval d r) L)
  unfolding run emit_interval nodes_interval bound_interval
  interval-good d i0 p q h L = emit-good room end_of Rules.interval-0 (omega arith)
  interval-good d i1 p q h L = emit-good room end_of Rules.interval-1 (omega arith)
  interval-good d (dim n) p q h L = next-good (comparison-good less n d (omega arith) p L) (λ i M x f. emit-good room (f and end_of) Rules.interval-dim (omega arith))
  interval-good d (neg r) p q h L = next-good (interval-good d r p (omega arith) h L) (λ i M x f. emit-good room (f and end_of) Rules.interval-neg (omega arith))
  interval-good d (meet r s) p q h L =
      next-good (interval-good d r p (omega arith) (omega arith) L) (λ i M x f.
      next-good (interval-good d s p (omega arith) (omega arith) M) (λ k N y g.
      emit-good room (keep (interval d r) i y f and g and end_of) Rules.interval-meet (omega arith)))
  interval-good d (join r s) p q h L =
      next-good (interval-good d r p (omega arith) (omega arith) L) (λ i M x f.
      next-good (interval-good d s p (omega arith) (omega arith) M) (λ k N y g.
      emit-good room (keep (interval d r) i y f and g and end_of) Rules.interval-join (omega arith)))

  pub face-good : (d : ℕ) (f : Face) → d ≤ max_bound → nodes_face f ≤ max_nodes → bound_face f ≤ max_bound → (L : List Step) → Good (face d f) L (run room (emit_face d f) L)
  unfolding run emit_face nodes_face bound_face nodes_interval bound_interval
  face-good d ff p q h L = emit-good room end_of Rules.face-ff (omega arith)
  face-good d ft p q h L = emit-good room end_of Rules.face-ft (omega arith)
  face-good d (at e n) p q h L = next-good (interval-good d (dim n) p (omega arith) h L) (λ i M x f. emit-good room (f and end_of) (face-at e) (omega arith))
  face-good d (fand a b) p q h L =
      next-good (face-good d a p (omega arith) (omega arith) L) (λ i M x f.
      next-good (face-good d b p (omega arith) (omega arith) M) (λ k N y g.
      emit-good room (keep (face d a) i y f and g and end_of) Rules.face-and (omega arith)))
  face-good d (for a b) p q h L =
      next-good (face-good d a p (omega arith) (omega arith) L) (λ i M x f.
      next-good (face-good d b p (omega arith) (omega arith) M) (λ k N y g.
      emit-good room (keep (face d a) i y f and g and end_of) Rules.face-or (omega arith)))

  -- A face is in a context: it is no larger.
  pub member-good : (f : Face) (G : List Face) → nodes_face f ≤ max_nodes → bound_face f ≤ max_bound → nodes_context G ≤ max_nodes → bound_context G ≤ max_bound
      → (L : List Step) → Good (member f G) L (run room (emit_member f G) L)
  unfolding run emit_member nodes_context bound_context
  member-good f [] p q g h L = leaves as_it_was
  member-good f (e ∷ G) p q g h L = go (same_face e f) (member-good f G p q (omega arith) (omega arith) L)
    where
      go : (c : Dec (e ≡ f)) → Good (member f G) L (run room (emit_member f G) L)
          → Good (member f (e ∷ G)) L (run room (if_so c (emit 17 [] (member f (e ∷ G))) (emit_member f G >>= (λ i. emit 18 (i ∷ []) (member f (e ∷ G))))) L)
      go (yes c) k = emit-good room end_of (rw c Rules.member-here) (omega arith)
      go (no c) k = next-good k (λ i M x u. emit-good room (u and end_of) Rules.member-there (omega arith))

  pub take-good : (b : List Face) (x : Face) (a : List Face) → nodes_context (b ++ x ∷ a) ≤ max_nodes → bound_context (b ++ x ∷ a) ≤ max_bound
      → (L : List Step) → Good (take (b ++ x ∷ a) x (b ++ a)) L (run room (emit_take b x a) L)
  unfolding run emit_take nodes_context bound_context
  take-good [] x a p q L = emit-good room end_of Rules.take-here (omega arith)
  take-good (g ∷ b) x a p q L = next-good (take-good b x a (omega arith) (omega arith) L) (λ i M y u. emit-good room (u and end_of) Rules.take-there (omega (arith, nodes-left-out (left_out b x a), bound-left-out (left_out b x a))))

  -- What a search leaves to show, and the programs for it.
  abbrev pub Searches : (List Face → Face → Program) → Type 0
  Searches c = (G : List Face) (g : Face) → nodes_context G ≤ max_nodes → bound_context G ≤ max_bound → nodes_face g ≤ max_nodes → bound_face g ≤ max_bound
      → (L : List Step) → Good (cover G g) L (run room (c G g) L)

  pub move-good : (c : List Face → Face → Program) → Searches c → {P : Type 0} {G : List Face} {g : Face} {m : Move} → Moves P G g m
      → nodes_context G ≤ max_nodes → bound_context G ≤ max_bound → nodes_face g ≤ max_nodes → bound_face g ≤ max_bound → (L : List Step) → Good (cover G g) L (run room (emit_move c G g m) L)
  unfolding run nodes_face bound_face nodes_context bound_context
  move-good c h (is-top e) p q r s L = emit-good room end_of (rw e Rules.cover-top) (omega arith)
  move-good c h {G = G} {g = g} (is-hit m) p q r s L = next-good (member-good g G r s p q L) (λ i M x f. emit-good room (f and end_of) Rules.cover-hit (omega arith))
  move-good c h {G = G} (is-absurd m) p q r s L = next-good (member-good ff G (omega arith) (omega arith) p q L) (λ i M x f. emit-good room (f and end_of) Rules.cover-absurd (omega arith))
  move-good c h {G = G} (is-clash {n} m o) p q r s L =
      next-good (member-good (at lo n) G (omega arith) (omega (arith, member-bound m)) p q L) (λ i M x f.
      next-good (member-good (at hi n) G (omega arith) (omega (arith, member-bound o)) p q M) (λ k N y u.
      emit-good room (keep (member (at lo n) G) i y f and u and end_of) Rules.cover-clash (omega arith)))
  move-good c h {g = g} (is-and-left {b} {a} {x} {y = z} e) p q r s L =
      let o = left_out b (fand x z) a in
      let n = nodes-left-out o in
      let t = bound-left-out o in
      let v = ap nodes_context e in
      let w = ap bound_context e in
      next-good (take-good b (fand x z) a (omega arith) (omega arith) L) (λ i M y f.
      next-good (h (x ∷ z ∷ (b ++ a)) g (omega arith) (omega arith) r s M) (λ k N y u.
      emit-good room (keep (take (b ++ fand x z ∷ a) (fand x z) (b ++ a)) i y f and u and end_of) (rw e Rules.cover-and-left) (omega arith)))
  move-good c h {g = g} (is-or-left {b} {a} {x} {y = z} e) p q r s L =
      let o = left_out b (for x z) a in
      let n = nodes-left-out o in
      let t = bound-left-out o in
      let v = ap nodes_context e in
      let w = ap bound_context e in
      next-good (take-good b (for x z) a (omega arith) (omega arith) L) (λ i M y f.
      next-good (h (x ∷ (b ++ a)) g (omega arith) (omega arith) r s M) (λ k N y u.
      next-good (h (z ∷ (b ++ a)) g (omega arith) (omega arith) r s N) (λ l O w v.
      emit-good room (keep (take (b ++ for x z ∷ a) (for x z) (b ++ a)) i (extends-trans y w) f and keep (cover (x ∷ (b ++ a)) g) k w u and v and end_of) (rw e Rules.cover-or-left) (omega arith))))
  move-good c h {G = G} (is-and-right {x} {y = z} e) p q r s L =
      let v = ap nodes_face e in
      let w = ap bound_face e in
      next-good (h G x p q (omega arith) (omega arith) L) (λ i M y f.
      next-good (h G z p q (omega arith) (omega arith) M) (λ k N y u.
      emit-good room (keep (cover G x) i y f and u and end_of) (rw e Rules.cover-and-right) (omega arith)))
  move-good c h {G = G} (is-or-right {x} {y = z} t e) p q r s L =
      let v = ap nodes_face e in
      let w = ap bound_face e in
      instead-good (h G x p q (omega arith) (omega arith) L) (λ i M y f. emit-good room (f and end_of) (rw e Rules.cover-or-right0) (omega arith)) (λ M.
      next-good (h G z p q (omega arith) (omega arith) M) (λ k N y u. emit-good room (u and end_of) (rw e Rules.cover-or-right1) (omega arith)))
  move-good c h (is_stuck t) p q r s L = leaves as_it_was

  cover_in-good : (n : ℕ) → Searches (emit_cover_in n)
  unfolding run emit_cover_in
  cover_in-good zero G g p q r s L = leaves as_it_was
  cover_in-good (suc n) G g p q r s L = move-good (emit_cover_in n) (cover_in-good n) (move-view G g) p q r s L

  pub cover-good : Searches emit_cover
  unfolding emit_cover
  cover-good G g p q r s L = cover_in-good (nodes_context G + nodes_face g) G g p q r s L

  pub entails-good : (d : ℕ) (a b : Face) → d ≤ max_bound → nodes_face a ≤ max_nodes → bound_face a ≤ max_bound → nodes_face b ≤ max_nodes → bound_face b ≤ max_bound
      → (L : List Step) → Good (entails d a b) L (run room (emit_entails d a b) L)
  unfolding run emit_entails nodes_context bound_context
  entails-good d a b w p q r s L =
      next-good (face-good d a w p q L) (λ i M x f.
      next-good (face-good d b w r s M) (λ k N y g.
      next-good (cover-good (a ∷ []) b (omega arith) (omega arith) r s N) (λ c O z h.
      emit-good room (keep (face d a) i (extends-trans y z) f and keep (face d b) k z g and h and end_of) Rules.entails-checked (omega arith))))
