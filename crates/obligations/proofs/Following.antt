-- Each step that the guarded search appends follows by its rule and keeps the limits, and the number reached is that of the judgement.
use mathlib.Core.Path.{◌≡◌, refl, sym, ap, subst}
use mathlib.Core.Bool.{Bool, true, false, ◌&&◌}
use mathlib.Core.Option.{Option, none, some}
use mathlib.Core.List.{List, [], ◌∷◌, ◌++◌}
use Prim.Native.Nat.{ℕ, zero, suc, ◌+◌, ◌≤◌, max}
use native.Mathlib.Omega.{arith}
use lib.Dec.{leb}
use lib.ListN.{length, length-append}
use Rattle.formula.specs.Formula.{Face, fand, for}
use Rattle.formula.specs.Bytes.{nodes_face, bound_face, max_nodes, max_bound}
use Rattle.calculus.specs.Judgement.{Judgement, Step, face, take, cover, entails}
use Rattle.calculus.specs.Rules
use Rattle.calculus.specs.Rules.{Rule}
use Rattle.calculus.specs.Record.{context, bound_context}
use Rattle.calculus.specs.Search.{Move, nodes_context}
use Rattle.calculus.specs.Emit.{Outcome, unbounded, Program, stop, emit, ◌>>=◌, attempt, find, run, left}
use Rattle.calculus.specs.Calls.{emit_face, emit_take, emit_move, emit_cover}
use Rattle.calculus.proofs.Searching.{Refuted, Moves, is-top, is-hit, is-absurd, is-clash, is-and-left, is-or-left, is-and-right, is-or-right, is_stuck, left_out, nodes-left-out}
use Rattle.calculus.proofs.Growing.{Keeps, Limited, Extends, extends-trans, keep, Grown, as_it_was, grown-trans, grown-extends, grown-front, Good, claims, leaves, no_room, Found, end_of, ◌and◌, emit-good}
use Rattle.calculus.proofs.Emitting.{bound-left-out, face-good, take-good, move-good, cover-good}
use Rattle.calculus.proofs.Rooms.{Remains, by-done, by-stopped, run-left}
use Rattle.calculus.proofs.Leaving.{steps_after, left_after, left-extends, left-free}
use Rattle.obligations.specs.Limited.{Error, Ending, reached, failed, crowded, onward, max_steps, appended, emitted_to, limited}
use Rattle.obligations.specs.Obligations.{Opened, count, Part, running, continued, retried, guarded_move, moved, max_work, unless_known, unless_over, obliged, guarded_cover, guarded_entails}
use Rattle.obligations.proofs.Limits.{Plain, at_limit, settled, limited-run, face-plain, take-plain, Closes, closing-plain}
use Rattle.obligations.proofs.Moving.{guarded-view}

-- The second ledger is the first with steps appended that follow and keep the limits, and it has room if the first had.
pub record Further (room : List Step → Bool) (L M : List Step) : Type 0 where
  pub grown : Grown L M
  pub roomy : room L ≡ true → room M ≡ true

as_before : {room : List Step → Bool} {L : List Step} → Further room L L
as_before = record { grown = as_it_was; roomy = λ r. r }

further-trans : {room : List Step → Bool} {L M N : List Step} → Further room L M → Further room M N → Further room L N
further-trans g h = record { grown = grown-trans g.grown h.grown; roomy = λ r. h.roomy (g.roomy r) }

-- How a search for the judgement j ends, from the ledger L.
pub data GoodEnding (room : List Step → Bool) (j : Judgement) (L : List Step) : Ending → Type 0 where
  reaches : {n : ℕ} {M : List Step} → Further room L M → find j M ≡ some n → GoodEnding room j L (reached n M)
  fails : {e : Error} {M : List Step} → Further room L M → GoodEnding room j L (failed e M)
  crowds : GoodEnding room j L crowded

-- Programs --------------------------------------------------------------------------------------

-- Without bounds a run leaves steps, and what is left follows.
free-grown : {j : Judgement} {L M Z : List Step} {o : Outcome} → Good j L o → Remains L o M → Z ≡ steps_after o Z → Grown L Z
free-grown {L = L} (claims g f) (by-done x) e = subst (Grown L) (sym e) g
free-grown {L = L} (leaves g) (by-stopped x) e = subst (Grown L) (sym e) g
free-grown no_room x e = elim x [ ]

module _ (room : List Step → Bool) where
  -- The ledger that is left has room.
  abbrev Roomy : Ending → Type 0
  Roomy (reached n M) = room M ≡ true
  Roomy (failed e M) = room M ≡ true
  Roomy crowded = Unit {0}

  onward-roomy : (e : Ending) (k : ℕ → List Step → Ending) → Roomy e → ((n : ℕ) (M : List Step) → room M ≡ true → Roomy (k n M)) → Roomy (onward e k)
  onward-roomy (reached n M) k h r = r n M h
  onward-roomy (failed e M) k h r = h
  onward-roomy crowded k h r = h

  limited-roomy : (p : Program) → Plain p → (L : List Step) → room L ≡ true → Roomy (limited room p L)
  unfolding limited
  limited-roomy (stop e) h L r = r
  limited-roomy (emit k is j) h L r = go (find j L)
    where
      s : Step
      s = record { kind = k; references = is; judgement = j }

      new : (b c : Bool) → room (L ++ s ∷ []) ≡ c → Roomy (appended b c L s)
      new true c e = r
      new false true e = e
      new false false e = tt

      go : (o : Option ℕ) → Roomy (emitted_to room L s o)
      go (some n) = r
      go none = new (leb max_steps (length L)) (room (L ++ s ∷ [])) refl
  limited-roomy (p >>= q) h L r = onward-roomy (limited room p L) (λ n. limited room (q n)) (limited-roomy p h.0 L r) (λ n. limited-roomy (q n) (h.1 n))
  limited-roomy (attempt p q r) h L e = absurd h

  -- At the limit of steps those stay that the run without bounds would append first.
  settled-good : {j : Judgement} {L : List Step} (Z : List Step) {o : Outcome} → Good j L o → Grown L Z → (room L ≡ true → Roomy (settled o Z)) → GoodEnding room j L (settled o Z)
  settled-good Z (claims g f) z r = reaches (record { grown = g; roomy = r }) f
  settled-good Z (leaves g) z r = fails (record { grown = g; roomy = r })
  settled-good {j} {L} Z no_room z r = go (leb max_steps (length Z)) r
    where
      go : (b : Bool) → (room L ≡ true → Roomy (at_limit b Z)) → GoodEnding room j L (at_limit b Z)
      go true r = fails (record { grown = z; roomy = r })
      go false r = crowds

  -- A program under the limit of steps, whose runs are good with every room.
  pub limited-good : {j : Judgement} (p : Program) → Plain p → (L : List Step) → ((r : List Step → Bool) → Good j L (run r p L)) → GoodEnding room j L (limited room p L)
  limited-good {j} p h L g =
      let z = grown-front (left-extends bar p L) (left-free bar p L) (free-grown (g unbounded) (run-left p L).leaves (left_after unbounded p L)) in
      subst (GoodEnding room j L) (sym same) (settled-good (left bar p L) (g bar) z (λ r. subst Roomy same (limited-roomy p h L r)))
    where
      bar : List Step → Bool
      bar M = room M && leb (length M) max_steps

      same : limited room p L ≡ settled (run bar p L) (left bar p L)
      same = limited-run room bar p h L (record { bars = λ N x s. let e : length (N ++ s ∷ []) ≡ suc (length N) = omega (arith, length-append N (s ∷ [])) in rw e })

  -- Parts of the search ---------------------------------------------------------------------------

  -- The part, from any counter and the ledger L, ends well for j.
  record Seeks (j : Judgement) (L : List Step) (p : Part) : Type 0 where
    ends : (w : ℕ) → GoodEnding room j L (p w L).ending

  farther : {j : Judgement} {L M : List Step} {e : Ending} → Further room L M → GoodEnding room j M e → GoodEnding room j L e
  farther g (reaches h f) = reaches (further-trans g h) f
  farther g (fails h) = fails (further-trans g h)
  farther g crowds = crowds

  module _ {i j : Judgement} {L : List Step} {p : Part} {k : ℕ → Part} (h : Seeks i L p) (r : (n : ℕ) (M : List Step) → Extends L M → find i M ≡ some n → Seeks j M (k n)) where
    -- One part after another.
    bind-seeks : Seeks j L (λ w N. continued w (p w N).ending (p w N).opened k)
    bind-seeks = record { ends = λ w. go w (p w L).opened (h.ends w) }
      where
        go : (w : ℕ) (o : Opened) {e : Ending} → GoodEnding room i L e → GoodEnding room j L (continued w e o k).ending
        go w o (reaches {n} {M} g f) = farther g ((r n M (grown-extends g.grown) f).ends (w + count o))
        go w o (fails g) = fails g
        go w o crowds = crowds

    -- One part, and where it ends in an error another.
    try-seeks : {q : Part} → ((M : List Step) → Seeks j M q) → Seeks j L (λ w N. retried w (p w N).ending (p w N).opened k q)
    try-seeks {q} t = record { ends = λ w. go w (p w L).opened (h.ends w) }
      where
        go : (w : ℕ) (o : Opened) {e : Ending} → GoodEnding room i L e → GoodEnding room j L (retried w e o k q).ending
        go w o (reaches {n} {M} g f) = farther g ((r n M (grown-extends g.grown) f).ends (w + count o))
        go w o (fails {M} g) = farther g ((t M).ends (w + count o))
        go w o crowds = crowds

  -- A program, and one that emits a step by a rule from judgements that were found.
  ran : {j : Judgement} {L : List Step} (p : Program) → Plain p → ((r : List Step → Bool) → Good j L (run r p L)) → Seeks j L (running room p)
  ran {L} p h g = record { ends = λ w. limited-good p h L g }

  emits : {k : ℕ} {is : List ℕ} {js : List Judgement} {j : Judgement} {L : List Step} → Found L is js → Rule k js j → Limited j → Seeks j L (running room (emit k is j))
  emits {k} {is} {j} f r l = ran (emit k is j) tt (λ b. emit-good b f r l)

  -- A move that leaves nothing to show.
  closed : {G : List Face} {g : Face} {m : Move} {L : List Step} → Moves (Refuted G g) G g m → Closes m → Limited (cover G g) → Seeks (cover G g) L (running room (emit_move emit_cover G g m))
  closed {G} {g} {m} {L} v c l = ran (emit_move emit_cover G g m) (closing-plain G g m c) (λ r. move-good r emit_cover (cover-good r) v (omega arith) (omega arith) (omega arith) (omega arith) L)

  -- A compound left out of its context, and the limits of what is left.
  takes : (b : List Face) (f : Face) (a : List Face) {G : List Face} → G ≡ b ++ f ∷ a → Keeps context G → (L : List Step)
      → Seeks (take (b ++ f ∷ a) f (b ++ a)) L (running room (emit_take b f a))
  takes b f a e l L = ran (emit_take b f a) (take-plain b f a) (λ r. take-good r b f a (omega (arith, ap nodes_context e)) (omega (arith, ap bound_context e)) L)

  rest-limits : (b : List Face) (f : Face) (a : List Face) {G : List Face} → G ≡ b ++ f ∷ a → Keeps context G
      → (nodes_face f + nodes_context (b ++ a) ≤ max_nodes) × (max (bound_face f) (bound_context (b ++ a)) ≤ max_bound)
  rest-limits b f a e l = let o = left_out b f a in omega (arith, ap nodes_context e, ap bound_context e, nodes-left-out o, bound-left-out o)

  -- What the search leaves to show.
  abbrev Shows : (List Face → Face → Part) → Type 0
  Shows c = (G : List Face) (g : Face) → Limited (cover G g) → (L : List Step) → Seeks (cover G g) L (c G g)

  moved-good : (c : List Face → Face → Part) → Shows c → {G : List Face} {g : Face} {m : Move} → Moves (Refuted G g) G g m → Limited (cover G g) → (L : List Step) → Seeks (cover G g) L (moved room c G g m)
  unfolding nodes_face bound_face nodes_context bound_context
  moved-good c h (is-top e) l L = closed (is-top e) tt l
  moved-good c h (is-hit m) l L = closed (is-hit m) tt l
  moved-good c h (is-absurd m) l L = closed (is-absurd m) tt l
  moved-good c h (is-clash m o) l L = closed (is-clash m o) tt l
  moved-good c h {g = g} (is-and-left {b} {a} {x} {y = z} e) l L =
      let t = rest-limits b (fand x z) a e l.0 in
      bind-seeks (takes b (fand x z) a e l.0 L) (λ i M y f.
      bind-seeks (h (x ∷ z ∷ (b ++ a)) g (omega arith) M) (λ k N y u.
      emits (keep (take (b ++ fand x z ∷ a) (fand x z) (b ++ a)) i y f and u and end_of) (rw e Rules.cover-and-left) l))
  moved-good c h {g = g} (is-or-left {b} {a} {x} {y = z} e) l L =
      let t = rest-limits b (for x z) a e l.0 in
      bind-seeks (takes b (for x z) a e l.0 L) (λ i M y f.
      bind-seeks (h (x ∷ (b ++ a)) g (omega arith) M) (λ k N y u.
      bind-seeks (h (z ∷ (b ++ a)) g (omega arith) N) (λ q O w v.
      emits (keep (take (b ++ for x z ∷ a) (for x z) (b ++ a)) i (extends-trans y w) f and keep (cover (x ∷ (b ++ a)) g) k w u and v and end_of) (rw e Rules.cover-or-left) l)))
  moved-good c h {G = G} (is-and-right {x} {y = z} e) l L =
      let v = ap nodes_face e in
      let w = ap bound_face e in
      bind-seeks (h G x (omega arith) L) (λ i M y f.
      bind-seeks (h G z (omega arith) M) (λ k N y u.
      emits (keep (cover G x) i y f and u and end_of) (rw e Rules.cover-and-right) l))
  moved-good c h {G = G} (is-or-right {x} {y = z} t e) l L =
      let v = ap nodes_face e in
      let w = ap bound_face e in
      try-seeks (h G x (omega arith) L) (λ i M y f. emits (f and end_of) (rw e Rules.cover-or-right0) l) (λ M.
      bind-seeks (h G z (omega arith) M) (λ k N y u. emits (u and end_of) (rw e Rules.cover-or-right1) l))
  moved-good c h (is_stuck t) l L = closed (is_stuck t) tt l

  -- The obligation to show a goal, within so many depths.
  obliged-seeks : (n : ℕ) → Shows (obliged room n)
  unfolding obliged
  obliged-seeks zero G g l L = record { ends = λ w. fails as_before }
  obliged-seeks (suc n) G g l L = record { ends = λ w. over w (leb max_work w) (find (cover G g) L) refl (moved-good (obliged room n) (obliged-seeks n) (guarded-view G g) l L) }
    where
      over : (w : ℕ) (b : Bool) (o : Option ℕ) → find (cover G g) L ≡ o → Seeks (cover G g) L (moved room (obliged room n) G g (guarded_move G g))
          → GoodEnding room (cover G g) L (unless_over b L (unless_known o L (moved room (obliged room n) G g (guarded_move G g) (suc w) L))).ending
      over w true o e h = fails as_before
      over w false (some i) e h = reaches as_before e
      over w false none e h = h.ends (suc w)

  pub obliged-good : (n : ℕ) (G : List Face) (g : Face) → Limited (cover G g) → (w : ℕ) (L : List Step) → GoodEnding room (cover G g) L (obliged room n G g w L).ending
  obliged-good n G g l w L = (obliged-seeks n G g l L).ends w

  cover-seeks : Shows (guarded_cover room)
  unfolding guarded_cover
  cover-seeks = obliged-seeks 129

  pub guarded-cover-good : (G : List Face) (g : Face) → Limited (cover G g) → (w : ℕ) (L : List Step) → GoodEnding room (cover G g) L (guarded_cover room G g w L).ending
  guarded-cover-good G g l w L = (cover-seeks G g l L).ends w

  pub guarded-entails-good : (d : ℕ) (a b : Face) → Limited (entails d a b) → (w : ℕ) (L : List Step) → GoodEnding room (entails d a b) L (guarded_entails room d a b w L).ending
  unfolding guarded_entails nodes_context bound_context
  guarded-entails-good d a b l w L = go.ends w
    where
      go : Seeks (entails d a b) L (guarded_entails room d a b)
      go =
          bind-seeks (ran (emit_face d a) (face-plain d a) (λ r. face-good r d a (omega arith) (omega arith) (omega arith) L)) (λ i M x f.
          bind-seeks (ran (emit_face d b) (face-plain d b) (λ r. face-good r d b (omega arith) (omega arith) (omega arith) M)) (λ k N y g.
          bind-seeks (cover-seeks (a ∷ []) b (omega arith) N) (λ c O z h.
          emits (keep (face d a) i (extends-trans y z) f and keep (face d b) k z g and h and end_of) Rules.entails-checked l)))
