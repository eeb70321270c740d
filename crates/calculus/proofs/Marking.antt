-- What the search with a memory remembers are judgements of the ledger that its run leaves, so it remembers no more than there are steps.
use mathlib.Core.Path.{◌≡◌, refl, sym, ◌∙◌, ap}
use mathlib.Core.Logic.{◌⊎◌, inl, inr}
use mathlib.Core.Bool.{Bool, true, false, true≢false, decide, decide_iff}
use mathlib.Mathlib.Data.Bool.Basic.{eq-false_of_not-eq-true}
use mathlib.Core.Option.{Option, none, some, none-ne-some}
use mathlib.Core.List.{List, [], ◌∷◌, ◌++◌}
use Prim.Native.Nat.{ℕ, zero, suc, ◌+◌, ◌*◌, ◌≤◌}
use native.Mathlib.Omega.{arith}
use native.Mathlib.Nat.{mul-le-mul_left}
use lib.ListN.{length}
use Rattle.formula.specs.Formula.{lo, hi, Face, ff, at, fand, for}
use Rattle.formula.specs.Bytes.{nodes_face}
use Rattle.calculus.specs.Judgement.{Judgement, Step, cover, same_judgement}
use Rattle.calculus.specs.Truth.{AllTrue}
use Rattle.calculus.specs.Search.{Move, move, nodes_context}
use Rattle.calculus.specs.Emit.{Failure, not-implied, here, find, Outcome, done, stopped, full, append, emitted, emit, next, instead, run}
use Rattle.calculus.specs.Calls.{emit_member, emit_take, emit_move, emit_cover_in, emit_cover}
use Rattle.calculus.proofs.Sound.{or-iff}
use Rattle.calculus.proofs.Finding.{find-new}
use Rattle.calculus.proofs.Growing.{Extends, keep as find-keeps}
use Rattle.calculus.proofs.Repeating.{Longer, done-longer, run-longer}
use Rattle.calculus.proofs.Searching.{Moves, is-top, is-hit, is-absurd, is-clash, is-and-left, is-or-left, is-and-right, is-or-right, is_stuck, move-view, left_out, nodes-left-out, nodes-positive, search_in-covers}
use Rattle.calculus.proofs.Verdicts.{Says, says-yes, says-no, says-full, member-says, take-says, cover_in-says}
use Rattle.calculus.proofs.Memory.{Result, found, failed, answer, memory, opened, remembers, both, either, recall, makes, Room, Always, close, remembered, Once, remembered-true, remembered-once, remembers-true, opened-found, opened-with-room}

-- The judgement is that of a step.
pub record Stated (L : List Step) (j : Judgement) : Type 0 where
  pub place : ℕ
  pub finds : find j L ≡ some place

-- All judgements are those of steps.
abbrev pub Held : List Step → List Judgement → Type 0
Held L [] = Unit {0}
Held L (j ∷ M) = Stated L j × Held L M

held-longer : {L N : List Step} → Extends L N → (M : List Judgement) → Held L M → Held N M
held-longer x [] h = tt
held-longer x (j ∷ M) h = (record { place = h.0.place; finds = find-keeps j h.0.place x h.0.finds }, held-longer x M h.1)

-- Always room.
pub ample : Room
ample = record { before = λ M n. true; behind = λ M n. true }

ample-always : Always ample
unfolding ample
ample-always = record { before = λ M n. refl; behind = λ M n. refl }

-- The search and the run end the same, and what is remembered is stated in the ledger; or the run is out of room.
pub data Marks : Result → Outcome → Type 0 where
  marks-found : {M : List Judgement} {n m : ℕ} {L : List Step} → Held L M → Marks (found M n) (done m L)
  marks-failed : {M : List Judgement} {n : ℕ} {e : Failure} {L : List Step} → Held L M → Marks (failed M n) (stopped e L)
  marks-full : {r : Result} → Marks r full

-- A run before it that only emits.
marks-before : {r : Result} {L : List Step} {o : Outcome} {k : ℕ → List Step → Outcome} → Says true not-implied o → Longer L o → ((m : ℕ) (N : List Step) → Extends L N → Marks r (k m N)) → Marks r (next o k)
marks-before (says-yes e) (done-longer {n} {M} x) h = h n M x
marks-before (says-no e) l h = absurd (true≢false e)
marks-before says-full l h = marks-full

module _ (room : List Step → Bool) (j : Judgement) where
  -- The step of the search itself.
  marks-emit : (k : ℕ) (is : List ℕ) (M : List Judgement) (n : ℕ) (L : List Step) → Held L M → Marks (close ample j (found M n)) (run room (emit k is j) L)
  unfolding run ample
  marks-emit k is M n L h = go (find j L) refl
    where
      s : Step
      s = record { kind = k; references = is; judgement = j }

      appends : (b : Bool) → find j L ≡ none → Marks (found (j ∷ M) n) (append b L s)
      appends true e = marks-found {M = j ∷ M} (record { place = length L; finds = find-new L s e }, held-longer (record { more = s ∷ []; whole = refl }) M h)
      appends false e = marks-full

      go : (o : Option ℕ) → find j L ≡ o → Marks (found (j ∷ M) n) (emitted room L s o)
      go (some m) e = marks-found {M = j ∷ M} (record { place = m; finds = e }, h)
      go none e = appends (room (L ++ s ∷ [])) e

  -- One search is left, and its step.
  marks-one : {r : Result} {o : Outcome} {k : ℕ → List Step → Outcome} → Marks r o → ((M : List Judgement) (n m : ℕ) (L : List Step) → Held L M → Marks (close ample j (found M n)) (k m L)) → Marks (close ample j r) (next o k)
  marks-one (marks-found {M} {n} {m} {L} h) f = f M n m L h
  marks-one (marks-failed h) f = marks-failed h
  marks-one marks-full f = marks-full

  -- Two are left, the other where one found.
  marks-both : {r : Result} (c : List Judgement → ℕ → Result) {o : Outcome} {k : ℕ → List Step → Outcome} → AllTrue (memory r) → Marks r o
      → ((M : List Judgement) (n m : ℕ) (L : List Step) → AllTrue M → Held L M → Marks (close ample j (c M n)) (k m L)) → Marks (close ample j (both r c)) (next o k)
  marks-both c t (marks-found {M} {n} {m} {L} h) f = f M n m L t h
  marks-both c t (marks-failed h) f = marks-failed h
  marks-both c t marks-full f = marks-full

  -- Two are left, the other where one failed.
  marks-either : {r : Result} (c : List Judgement → ℕ → Result) {o : Outcome} {k : ℕ → List Step → Outcome} {q : List Step → Outcome} → AllTrue (memory r) → Marks r o
      → ((M : List Judgement) (n m : ℕ) (L : List Step) → Held L M → Marks (close ample j (found M n)) (k m L))
      → ((M : List Judgement) (n : ℕ) (L : List Step) → AllTrue M → Held L M → Marks (close ample j (c M n)) (q L)) → Marks (close ample j (either r c)) (instead o k q)
  marks-either c t (marks-found {M} {n} {m} {L} h) f g = f M n m L h
  marks-either c t (marks-failed {M} {n} {L} h) f g = g M n L t h
  marks-either c t marks-full f g = marks-full

module _ (room : List Step → Bool) where
  -- The searches n moves deep.
  abbrev Searches : ℕ → Type 0
  Searches n = (M : List Judgement) (i : ℕ) (G : List Face) (g : Face) (L : List Step) → AllTrue M → Held L M → nodes_context G + nodes_face g ≤ n
      → Marks (remembered ample n M i G g) (run room (emit_cover_in n G g) L)

  makes-marks : (n : ℕ) → Searches n → {P : Type 0} {G : List Face} {g : Face} {m : Move} → Moves P G g m
      → (M : List Judgement) (i : ℕ) (L : List Step) → AllTrue M → Held L M → nodes_context G + nodes_face g ≤ suc n
      → Marks (close ample (cover G g) (makes (remembered ample n) M i G g m)) (run room (emit_move (emit_cover_in n) G g m) L)
  unfolding run nodes_face nodes_context
  makes-marks n s {G = G} {g = g} (is-top e) M i L t h w = marks-emit room (cover G g) 21 [] M i L h
  makes-marks n s {G = G} {g = g} (is-hit m) M i L t h w =
      marks-before (member-says room g G L m) (run-longer room (emit_member g G) L) (λ a N x. marks-emit room (cover G g) 22 (a ∷ []) M i N (held-longer x M h))
  makes-marks n s {G = G} {g = g} (is-absurd m) M i L t h w =
      marks-before (member-says room ff G L m) (run-longer room (emit_member ff G) L) (λ a N x. marks-emit room (cover G g) 23 (a ∷ []) M i N (held-longer x M h))
  makes-marks n s {G = G} {g = g} (is-clash {n = d} m o) M i L t h w =
      marks-before (member-says room (at lo d) G L m) (run-longer room (emit_member (at lo d) G) L) (λ a N x.
      marks-before (member-says room (at hi d) G N o) (run-longer room (emit_member (at hi d) G) N) (λ b O y.
      marks-emit room (cover G g) 24 (a ∷ b ∷ []) M i O (held-longer y M (held-longer x M h))))
  makes-marks n s {G = G} {g = g} (is-and-left {b} {a} {x} {y} e) M i L t h w =
      let p = nodes-left-out (left_out b (fand x y) a) in
      let q = ap nodes_context e in
      marks-before (take-says room b (fand x y) a L) (run-longer room (emit_take b (fand x y) a) L) (λ c N z.
      marks-one room (cover G g) (s M i (x ∷ y ∷ (b ++ a)) g N t (held-longer z M h) (omega arith)) (λ O u d K v. marks-emit room (cover G g) 25 (c ∷ d ∷ []) O u K v))
  makes-marks n s {G = G} {g = g} (is-or-left {b} {a} {x} {y} e) M i L t h w =
      let p = nodes-left-out (left_out b (for x y) a) in
      let q = ap nodes_context e in
      let f = nodes-positive x in
      let k = nodes-positive y in
      marks-before (take-says room b (for x y) a L) (run-longer room (emit_take b (for x y) a) L) (λ c N z.
      marks-both room (cover G g) (λ N l. remembered ample n N l (y ∷ (b ++ a)) g) (remembered-true ample n M i (x ∷ (b ++ a)) g (omega arith) t) (s M i (x ∷ (b ++ a)) g N t (held-longer z M h) (omega arith)) (λ O u d K r v.
      marks-one room (cover G g) (s O u (y ∷ (b ++ a)) g K r v (omega arith)) (λ Q l j J o. marks-emit room (cover G g) 26 (c ∷ d ∷ j ∷ []) Q l J o)))
  makes-marks n s {G = G} {g = g} (is-and-right {x} {y} e) M i L t h w =
      let f = ap nodes_face e in
      marks-both room (cover G g) (λ N l. remembered ample n N l G y) (remembered-true ample n M i G x (omega arith) t) (s M i G x L t h (omega arith)) (λ O u d K r v.
      marks-one room (cover G g) (s O u G y K r v (omega arith)) (λ Q l j J o. marks-emit room (cover G g) 27 (d ∷ j ∷ []) Q l J o))
  makes-marks n s {G = G} {g = g} (is-or-right {x} {y} z e) M i L t h w =
      let f = ap nodes_face e in
      marks-either room (cover G g) (λ N l. remembered ample n N l G y) (remembered-true ample n M i G x (omega arith) t) (s M i G x L t h (omega arith)) (λ Q l j J o. marks-emit room (cover G g) 28 (j ∷ []) Q l J o) (λ O u K r v.
      marks-one room (cover G g) (s O u G y K r v (omega arith)) (λ Q l j J o. marks-emit room (cover G g) 29 (j ∷ []) Q l J o))
  makes-marks n s (is_stuck p) M i L t h w = marks-failed h

  -- The search with a memory and the run end the same, and what is remembered is stated in the ledger.
  pub remembered-marks : (n : ℕ) → Searches n
  unfolding remembered emit_cover_in ample
  remembered-marks zero M i G g L t h w = absurd (omega (arith, nodes-positive g))
  remembered-marks (suc n) M i G g L t h w = go (remembers M (cover G g)) refl (makes-marks n (remembered-marks n) (move-view G g) M (suc i) L t h w)
    where
      at_once : {o : Outcome} → Says true not-implied o → Longer L o → Marks (found M i) o
      at_once (says-yes e) (done-longer x) = marks-found (held-longer x M h)
      at_once (says-no e) l = absurd (true≢false e)
      at_once says-full l = marks-full

      says : {b : Bool} {o : Outcome} → b ≡ true → Says b not-implied o → Says true not-implied o
      says e s = rw e at s

      go : (b : Bool) → remembers M (cover G g) ≡ b → Marks (close ample (cover G g) (makes (remembered ample n) M (suc i) G g (move G g))) (run room (emit_cover_in (suc n) G g) L)
          → Marks (recall b M i (close ample (cover G g) (makes (remembered ample n) M (suc i) G g (move G g)))) (run room (emit_cover_in (suc n) G g) L)
      go true e m = at_once (says ((search_in-covers (suc n) G g w).1 (remembers-true M G g t e)) (cover_in-says room (suc n) G g L)) (run-longer room (emit_cover_in (suc n) G g) L)
      go false e m = m

-- No more judgements than steps ------------------------------------------------------------

-- The judgement in front, unless it is the one left out.
abbrev unless : {A : Type 0} → Dec A → Judgement → List Judgement → List Judgement
unless (yes e) j M = M
unless (no e) j M = j ∷ M

-- The judgements without this one.
unfoldable without : Judgement → List Judgement → List Judgement
without j [] = []
without j (k ∷ M) = unless (same_judgement k j) k (without j M)

-- The judgement is none of these.
abbrev Apart : Judgement → List Judgement → Type 0
Apart j [] = Unit {0}
Apart j (k ∷ M) = (k ≡ j → ⊥) × Apart j M

apart : (j : Judgement) (M : List Judgement) → remembers M j ≡ false → Apart j M
unfolding remembers
apart j [] e = tt
apart j (k ∷ M) e =
    let not : (decide (same_judgement k j) ≡ true) ⊎ (remembers M j ≡ true) → ⊥ = λ o. true≢false (sym ((or-iff (decide (same_judgement k j)) (remembers M j)).1 o) ∙ e) in
    ((λ p. not (inl ((decide_iff (same_judgement k j)).1 p))), apart j M (eq-false_of_not-eq-true (λ p. not (inr p))))

-- None of these is another of them.
abbrev Distinct : List Judgement → Type 0
Distinct [] = Unit {0}
Distinct (j ∷ M) = Apart j M × Distinct M

once-distinct : (M : List Judgement) → Once M → Distinct M
once-distinct [] o = tt
once-distinct (j ∷ M) o = (apart j M o.0, once-distinct M o.1)

apart-without : (j k : Judgement) (M : List Judgement) → Apart k M → Apart k (without j M)
unfolding without
apart-without j k [] h = tt
apart-without j k (l ∷ M) h = go (same_judgement l j) (apart-without j k M h.1)
  where
    go : (d : Dec (l ≡ j)) → Apart k (without j M) → Apart k (unless d l (without j M))
    go (yes e) a = a
    go (no e) a = (h.0, a)

distinct_without : (j : Judgement) (M : List Judgement) → Distinct M → Distinct (without j M)
unfolding without
distinct_without j [] h = tt
distinct_without j (l ∷ M) h = go (same_judgement l j) (distinct_without j M h.1)
  where
    go : (d : Dec (l ≡ j)) → Distinct (without j M) → Distinct (unless d l (without j M))
    go (yes e) a = a
    go (no e) a = (apart-without j l M h.0, a)

-- Nothing is left out of judgements apart from it.
same-without : (j : Judgement) (M : List Judgement) → Apart j M → length (without j M) ≡ length M
unfolding without
same-without j [] h = refl
same-without j (l ∷ M) h = go (same_judgement l j) (same-without j M h.1)
  where
    go : (d : Dec (l ≡ j)) → length (without j M) ≡ length M → length (unless d l (without j M)) ≡ length (l ∷ M)
    go (yes e) a = absurd (h.0 e)
    go (no e) a = ap suc a

-- At most one is left out.
length_without : (j : Judgement) (M : List Judgement) → Distinct M → length M ≤ suc (length (without j M))
unfolding without
length_without j [] h = omega arith
length_without j (l ∷ M) h = go (same_judgement l j) (length_without j M h.1)
  where
    go : (d : Dec (l ≡ j)) → length M ≤ suc (length (without j M)) → length (l ∷ M) ≤ suc (length (unless d l (without j M)))
    go (yes e) a = omega (arith, same-without j M (rw e at h.0))
    go (no e) a = omega arith

-- Another judgement than that of the first step is stated by the others.
stated-others : (s : Step) (L : List Step) (j : Judgement) → (j ≡ s.judgement → ⊥) → Stated (s ∷ L) j → Stated L j
unfolding find
stated-others s L j n h = go (same_judgement s.judgement j) (find j L) refl h.finds
  where
    go : (d : Dec (s.judgement ≡ j)) (o : Option ℕ) → find j L ≡ o → here d o ≡ some h.place → Stated L j
    go (yes e) o f p = absurd (n (sym e))
    go (no e) none f p = absurd (none-ne-some h.place p)
    go (no e) (some m) f p = record { place = m; finds = f }

held-without : (s : Step) (L : List Step) (M : List Judgement) → Held (s ∷ L) M → Held L (without s.judgement M)
unfolding without
held-without s L [] h = tt
held-without s L (l ∷ M) h = go (same_judgement l s.judgement) (held-without s L M h.1)
  where
    go : (d : Dec (l ≡ s.judgement)) → Held L (without s.judgement M) → Held L (unless d l (without s.judgement M))
    go (yes e) a = a
    go (no e) a = (stated-others s L l e h.0, a)

held-length : (L : List Step) (M : List Judgement) → Distinct M → Held L M → length M ≤ length L
unfolding find
held-length [] [] d h = omega arith
held-length [] (j ∷ M) d h = absurd (none-ne-some h.0.place h.0.finds)
held-length (s ∷ L) M d h = omega (arith, length_without s.judgement M d, held-length L (without s.judgement M) (distinct_without s.judgement M d) (held-without s L M h))

-- The searches opened, by the ledger ---------------------------------------------------------

-- The number is at most k for each step of the ledger that the run leaves, and w more where it stopped.
abbrev pub AtMost : ℕ → ℕ → ℕ → Outcome → Type 0
AtMost n k w (done m L) = n ≤ k * length L
AtMost n k w (stopped e L) = n ≤ k * length L + w
AtMost n k w full = Unit {0}

-- A search from nothing remembered opens at most as many searches as the goal has nodes for each step of the ledger that its run leaves, and where it fails one more for each node of context and goal.
pub opened-steps : (room : List Step → Bool) (G : List Face) (g : Face) (L : List Step)
    → AtMost (opened (remembered ample (nodes_context G + nodes_face g) [] 0 G g)) (nodes_face g) (nodes_context G + nodes_face g) (run room (emit_cover G g) L)
unfolding emit_cover
opened-steps room G g L =
    let n = nodes_context G + nodes_face g in
    let w : n ≤ n = omega arith in
    go (remembered-marks room n [] 0 G g L tt tt w) (once-distinct (memory (remembered ample n [] 0 G g)) (remembered-once ample n [] 0 G g w tt tt))
    (opened-found ample n [] 0 G g w tt (nodes_face g) (omega arith)) (opened-with-room ample n [] 0 G g w tt (nodes_face g) (omega arith) ample-always)
  where
    go : {r : Result} {o : Outcome} → Marks r o → Distinct (memory r) → (answer r ≡ true → opened r + nodes_face g * 0 ≤ 0 + nodes_face g * length (memory r))
        → opened r + nodes_face g * 0 + length G ≤ 0 + nodes_face g * length (memory r) + nodes_context G + nodes_face g → AtMost (opened r) (nodes_face g) (nodes_context G + nodes_face g) o
    go (marks-found {M} {L = N} h) d f a = omega (arith, f refl, mul-le-mul_left (nodes_face g) (held-length N M d h))
    go (marks-failed {M} {L = N} h) d f a = omega (arith, mul-le-mul_left (nodes_face g) (held-length N M d h))
    go marks-full d f a = tt
