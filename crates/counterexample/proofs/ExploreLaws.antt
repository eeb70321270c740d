-- Laws of the search: what each way out of it leaves.
use Rattle.std.specs.Prelude.{Option, Some, None}
use Prim.Native.Nat.{ℕ, ◌+◌, ◌≤◌, ◌<◌}
use native.Mathlib.Omega.{arith}
use native.Mathlib.Decide.{ℕ_discrete}
use mathlib.Core.Path.{◌≡◌, refl, sym, ap, ap₂, ◌∙◌, subst}
use mathlib.Core.Bool.{Bool, true, false, false≢true}
use mathlib.Core.List.{List, ◌++◌}
use lib.Dec.{ltb}
use lib.ListN.{length, get_or, set, length-set}
use lib.Seq.{set-set, set-get_or}
use borrow.Author.Tests.{ltb-true, ltb-false}
use Rattle.formula.specs.Formula.{Face, holds}
use Rattle.formula.specs.Bytes.{encode_face}
use Rattle.formula.specs.Answers.{pick}
use Rattle.formula.proofs.Meaning.{holds-monotone}
use Rattle.assignments.specs.Assignments.{assigned, determined, Before, Refutes}
use Rattle.assignments.proofs.Ordering.{Compared, earlier, equal, later, compared, before-trans, before-irrefl, determined-long}
use Rattle.needs.specs.declared.Weight.{Weight}
use Rattle.needs.specs.States.{Open, Within, settled, occurs}
use Rattle.needs.specs.Weighing.{Weighs, Weighed}
use Rattle.needs.proofs.WeighLaws.{pos, get_or-in}
use Rattle.needs.proofs.StateLaws.{within_count, open_free, settled_at, settled-long, settled-count, settle-small, settled-below}
use Rattle.counterexample.specs.Exploring.{precedes, hopeless, limit, without, Beaten, Kept, unchanged, better, Explored, Ready, Explores}
use Rattle.counterexample.proofs.OrderLaws.{precede-sound, precede-settled}
use Rattle.counterexample.proofs.StateLaws.{settled_only, within-chosen, within-without, chosen-counts, without-counts, left, left-chosen, left-without}

-- What there is to win in a state.
data Hopes (S B : List ℕ) (k total count : ℕ) : Bool → Type 0 where
  fewer-left : total < count → Hopes S B k total count false
  more : count < total → Hopes S B k total count true
  beyond : length S < total → Hopes S B k total count true
  after : count ≡ total → precedes k S B ≡ false → Hopes S B k total count true
  before-it : count ≡ total → precedes k S B ≡ true → Hopes S B k total count false

hopes : (S B : List ℕ) (k total : ℕ) (count : Option ℕ) → Hopes S B k total (limit (length S) count) (hopeless S B k total count)
hopes S B k total None = go (ltb (length S) total) refl
  where
    go : (p : Bool) → ltb (length S) total ≡ p → Hopes S B k total (length S + 1) p
    go true i = beyond (ltb-true (length S) total i)
    go false i = fewer-left (omega (arith, ltb-false (length S) total i))
hopes S B k total (Some count) = go (ltb total count) (ltb count total) (precedes k S B) refl refl refl
  where
    go : (p q r : Bool) → ltb total count ≡ p → ltb count total ≡ q → precedes k S B ≡ r → Hopes S B k total count (pick p false (pick q true (pick r false true)))
    go true q r i j l = fewer-left (ltb-true total count i)
    go false true r i j l = more (ltb-true count total j)
    go false false true i j l = before-it (omega (arith, ltb-false total count i, ltb-false count total j)) l
    go false false false i j l = after (omega (arith, ltb-false total count i, ltb-false count total j)) l

module _ (a b : Face) (S : List ℕ) where
  abbrev d : ℕ
  d = length S

  -- Nothing changed, and nothing was to be won.
  same-explored : (c : Option ℕ) (B : List ℕ) → ((τ : List ℕ) → Refutes d a b τ → Within S τ → Beaten (limit d c) B τ) → Explored d a b S c B c B
  same-explored c B h = record { kept = unchanged refl refl; fewer = omega arith; before = λ e p. before-irrefl p; beaten = h }

  module _ {w : Weight} (A : Weighs S a w) where
    -- An assignment determines what is chosen and what the face needs.
    weighed-count : (τ : List ℕ) → Refutes d a b τ → Within S τ → determined S + w.weight ≤ determined τ
    weighed-count τ r i = omega (arith, A.lower τ i r.satisfied, within_count (occurs a) S τ (sym r.bytes.long) i)

    hopeless-beaten : (c : ℕ) (B : List ℕ) {t : Bool} → Hopes S B w.weight (determined S + w.weight) c t → t ≡ true → (τ : List ℕ) → Refutes d a b τ → Within S τ → Beaten c B τ
    hopeless-beaten c B (fewer-left h) e τ r i = absurd (false≢true e)
    hopeless-beaten c B (before-it h p) e τ r i = absurd (false≢true e)
    hopeless-beaten c B (beyond h) e τ r i = absurd (omega (arith, h, weighed-count τ r i, determined-long τ, r.bytes.long))
    hopeless-beaten c B (more h) e τ r i = let k = weighed-count τ r i in record { fewest = omega (arith, h, k); first = λ f p. omega (arith, h, k, f) }
    hopeless-beaten c B (after h p) e τ r i =
        let k = weighed-count τ r i in
        record { fewest = omega (arith, h, k); first = λ f q. precede-sound w.weight S τ B (sym r.bytes.long) i (omega (arith, f, h)) p q }

    pub hopeless-explored : (c : Option ℕ) (B : List ℕ) → hopeless S B w.weight (determined S + w.weight) c ≡ true → Explored d a b S c B c B
    hopeless-explored c B e = same-explored c B (hopeless-beaten (limit d c) B (hopes S B w.weight (determined S + w.weight) c) e)

    -- Where there is something to be won the face can hold.
    pub hopeful : (c : Option ℕ) (B : List ℕ) → hopeless S B w.weight (determined S + w.weight) c ≡ false → determined S + w.weight ≤ limit d c
    hopeful c B e = go (hopes S B w.weight (determined S + w.weight) c) e
      where
        go : {t : Bool} → Hopes S B w.weight (determined S + w.weight) (limit d c) t → t ≡ false → determined S + w.weight ≤ limit d c
        go (fewer-left h) e = omega (arith, h)
        go (before-it h p) e = omega (arith, h)
        go (more h) e = absurd (false≢true (sym e))
        go (beyond h) e = absurd (false≢true (sym e))
        go (after h p) e = absurd (false≢true (sym e))

    -- The face holds already, and the goal does not.
    pub settled-explored : {g : Weight} (c : Option ℕ) (B : List ℕ) → Weighs S b g → hopeless S B w.weight (determined S + w.weight) c ≡ false → (g.weight ≡ 0 → ⊥) → w.weight ≡ 0 → Explored d a b S c B (Some (determined S)) (settled S)
    settled-explored {g} c B G e n z = record {
      kept = better (record { bytes = record { long = settled-long S; each = λ m. subst (λ x. x ≤ 2) (sym (settled_at S m)) (settle-small (get_or S m 5)) }; satisfied = A.held z; missed = missing (holds b (assigned (settled S))) refl }) (ap Some (sym (settled-count S)));
      fewer = omega (arith, hopeful c B e);
      before = λ q p. last_one (hopes S B w.weight (determined S + w.weight) c) e q p;
      beaten = λ τ r i. record { fewest = omega (arith, weighed-count τ r i); first = λ f p. before-irrefl (subst (λ x. Before x (settled S)) (settled_only S τ (sym r.bytes.long) i (omega (arith, f))) p) };
    }
      where
        missing : (t : Bool) → holds b (assigned (settled S)) ≡ t → t ≡ false
        missing true h = absurd (n (G.zero h))
        missing false h = refl

        last_one : {t : Bool} → Hopes S B w.weight (determined S + w.weight) (limit d c) t → t ≡ false → determined S ≡ limit d c → Before B (settled S) → ⊥
        last_one (fewer-left h) e q p = omega (arith, h, q, z)
        last_one (before-it h i) e q p = before-irrefl (before-trans p (precede-settled S B (subst (λ k. precedes k S B ≡ true) z i)))
        last_one (more h) e q p = false≢true (sym e)
        last_one (beyond h) e q p = false≢true (sym e)
        last_one (after h i) e q p = false≢true (sym e)

  -- The goal holds already.
  pub held-explored : {g : Weight} (c : Option ℕ) (B : List ℕ) → Weighs S b g → g.weight ≡ 0 → Explored d a b S c B c B
  held-explored c B G z = same-explored c B (λ τ r i. absurd (false≢true (sym r.missed ∙ holds-monotone b (assigned (settled S)) (assigned τ) (settled-below S τ i) (G.held z))))

-- What beats a list still beats it once there is better.
later-beaten : {d : ℕ} {a b : Face} {S : List ℕ} {c : Option ℕ} {B : List ℕ} {c' : Option ℕ} {B' τ : List ℕ} → length B ≡ length B' → Explored d a b S c B c' B' → Beaten (limit d c) B τ → Beaten (limit d c') B' τ
later-beaten {d} {c = c} {B} {c'} {B'} {τ} l x h = record {
  fewest = omega (arith, h.fewest, x.fewer);
  first = λ e p. go e p (compared B B' l);
}
  where
    go : determined τ ≡ limit d c' → Before τ B' → Compared B B' → ⊥
    go e p (earlier q) = x.before (omega (arith, e, x.fewer, h.fewest)) q
    go e p (equal q) = h.first (omega (arith, e, x.fewer, h.fewest)) (subst (Before τ) (sym q) p)
    go e p (later q) = h.first (omega (arith, e, x.fewer, h.fewest)) (before-trans p q)

kept-both : {d : ℕ} {a b : Face} {c : Option ℕ} {B : List ℕ} {c₁ : Option ℕ} {B₁ : List ℕ} {c₂ : Option ℕ} {B₂ : List ℕ} → Kept d a b c B c₁ B₁ → Kept d a b c₁ B₁ c₂ B₂ → Kept d a b c B c₂ B₂
kept-both k (better r e) = better r e
kept-both (unchanged p q) (unchanged r s) = unchanged (r ∙ p) (s ∙ q)
kept-both {d} {a} {b} (better r e) (unchanged p q) = better (subst (Refutes d a b) (sym q) r) (p ∙ e ∙ ap (λ l. Some (determined l)) (sym q))

-- A literal chosen, and then given up.
module _ (d : ℕ) (a b : Face) (S : List ℕ) (n e : ℕ) (i : n < length S) (o : Open (get_or S n 5) e) {c : Option ℕ} {B : List ℕ} {c₁ : Option ℕ} {B₁ : List ℕ} {c₂ : Option ℕ} {B₂ : List ℕ} where
  pub branch-explored : length B ≡ length B₁ → length B₁ ≡ length B₂ → Explored d a b (set S n e) c B c₁ B₁ → Explored d a b (set S n (without (get_or S n 5) e)) c₁ B₁ c₂ B₂ → Explored d a b S c B c₂ B₂
  branch-explored l m x y = record {
    kept = kept-both x.kept y.kept;
    fewer = omega (arith, x.fewer, y.fewer);
    before = λ q p. go q p (compared B₁ B₂ m);
    beaten = λ τ r w. by τ r w (ℕ_discrete (get_or τ n 2) e);
  }
    where
      go : limit d c₂ ≡ limit d c → Before B B₂ → Compared B₁ B₂ → ⊥
      go q p (earlier z) = y.before (omega (arith, q, x.fewer, y.fewer)) z
      go q p (equal z) = x.before (omega (arith, q, x.fewer, y.fewer)) (subst (Before B) (sym z) p)
      go q p (later z) = x.before (omega (arith, q, x.fewer, y.fewer)) (before-trans p z)

      by : (τ : List ℕ) → Refutes d a b τ → Within S τ → Dec (get_or τ n 2 ≡ e) → Beaten (limit d c₂) B₂ τ
      by τ r w (yes h) = later-beaten m y (x.beaten τ r (within-chosen S τ n e w i (open_free o).1 h))
      by τ r w (no h) = y.beaten τ r (within-without S τ n e w i o h)

-- ---- of whichever faces stand in the bytes

module _ {a b S : List ℕ} {chosen : ℕ} {B : List ℕ} {count : Option ℕ} (P : Ready a b S chosen B count) where
  -- What was weighed stands at the front of the bytes.
  front : {f : List ℕ} {w : Weight} → Weighed f 0 S w → (t : Face) (rest : List ℕ) → f ≡ encode_face t ++ rest → Weighs S t w
  front W t rest e = W.weighs t rest e

  -- The goal holds already.
  pub holds-already : {g : Weight} → Weighed b 0 S g → g.weight ≡ 0 → Explores a b S count B count S B
  holds-already G z = record { restored = refl; long = refl; it = λ α β r m e f. held-explored α β S count B (front G β m f) z }

  module _ {w : Weight} (W : Weighed a 0 S w) where
    pub total-small : chosen + w.weight ≤ 1255
    total-small = omega (arith, P.counted, determined-long S, P.narrow, (front W P.left.stands.face P.left.stands.rest P.left.stands.bytes).small)

    counted-so : {r : Bool} → r ≡ hopeless S B w.weight (chosen + w.weight) count → hopeless S B w.weight (determined S + w.weight) count ≡ r
    counted-so h = ap (λ n. hopeless S B w.weight (n + w.weight) count) (sym P.counted) ∙ sym h

    pub gives_up : {r : Bool} → r ≡ hopeless S B w.weight (chosen + w.weight) count → r ≡ true → Explores a b S count B count S B
    gives_up h y = record { restored = refl; long = refl; it = λ α β r m e f. hopeless-explored α β S (front W α r e) count B (counted-so h ∙ y) }

    module _ {r : Bool} (h : r ≡ hopeless S B w.weight (chosen + w.weight) count) (no : r ≡ false) where
      pub settles : {g : Weight} {B' : List ℕ} → Weighed b 0 S g → (g.weight ≡ 0 → ⊥) → w.weight ≡ 0 → B' ≡ settled S → Explores a b S count B (Some chosen) S B'
      settles G n z q = record {
        restored = refl;
        long = ap length q ∙ settled-long S ∙ sym P.even;
        it = λ α β r m e f. subst (λ l. Explored (length S) α β S count B (Some chosen) l) (sym q) (subst (λ c. Explored (length S) α β S count B (Some c) (settled S)) (sym P.counted) (settled-explored α β S (front W α r e) count B (front G β m f) (counted-so h ∙ no) n z));
      }

      module _ (n : w.weight ≡ 0 → ⊥) where
        can-hold : w.weight ≤ 256
        can-hold = let α = P.left.stands.face in omega (arith, hopeful α α S (front W α P.left.stands.rest P.left.stands.bytes) count B (counted-so h ∙ no), P.few)

        pub picks : (w.dim < length S) × Open (get_or S w.dim 5) w.side
        picks = (front W P.left.stands.face P.left.stands.rest P.left.stands.bytes).picks (pos w.weight n) (omega (arith, can-hold))

        abbrev i : ℕ
        i = w.dim

        abbrev e : ℕ
        e = w.side

        -- The literal chosen.
        pub chosen-ready : Ready a b (set S i e) (chosen + 1) B count
        chosen-ready = record {
          left = record { stands = P.left.stands; low = omega (arith, P.left.low, length-set S i e) };
          goal = record { stands = P.goal.stands; low = omega (arith, P.goal.low, length-set S i e) };
          counted = omega (arith, P.counted, chosen-counts S i e picks.0 picks.1);
          even = P.even ∙ sym (length-set S i e);
          narrow = omega (arith, P.narrow, length-set S i e);
          few = subst (λ d. limit d count ≤ 256) (sym (length-set S i e)) P.few;
        }

        pub chosen-falls : left (set S i e) < left S
        chosen-falls = left-chosen S i e picks.0 picks.1

        abbrev S₂ : List ℕ
        S₂ = set S i (without (get_or S i 5) e)

        -- And given up.
        module _ {c₁ : Option ℕ} {v : ℕ} {S₁ B₁ : List ℕ} (X : Explores a b (set S i e) count B c₁ S₁ B₁) (O : v ≡ without (get_or S i 0) e) where
          given-up-state : set S₁ i v ≡ S₂
          given-up-state = ap₂ (λ l x. set l i x) X.restored (O ∙ ap (λ s. without s e) (get_or-in S i 0 5 picks.0)) ∙ set-set S i e (without (get_or S i 5) e)

          pub without-falls : left (set S₁ i v) < left S
          without-falls = subst (λ l. left l < left S) (sym given-up-state) (left-without S i e picks.0 picks.1)

          fewer-first : limit (length S) c₁ ≤ limit (length S) count
          fewer-first = let l = P.left.stands in let g = P.goal.stands in subst (λ d. limit d c₁ ≤ limit d count) (length-set S i e) (X.it l.face g.face l.rest g.rest l.bytes g.bytes).fewer

          long-two : length S₂ ≡ length S
          long-two = length-set S i (without (get_or S i 5) e)

          pub without-ready : Ready a b (set S₁ i v) chosen B₁ c₁
          without-ready = subst (λ l. Ready a b l chosen B₁ c₁) (sym given-up-state) (record {
            left = record { stands = P.left.stands; low = omega (arith, P.left.low, long-two) };
            goal = record { stands = P.goal.stands; low = omega (arith, P.goal.low, long-two) };
            counted = P.counted ∙ sym (without-counts S i e picks.0 picks.1);
            even = X.long ∙ P.even ∙ sym long-two;
            narrow = omega (arith, P.narrow, long-two);
            few = subst (λ d. limit d c₁ ≤ 256) (sym long-two) (omega (arith, fewer-first, P.few));
          })

          pub branches : {c₂ : Option ℕ} {old : ℕ} {S' B₂ : List ℕ} → Explores a b (set S₁ i v) c₁ B₁ c₂ S' B₂ → old ≡ get_or S i 0 → Explores a b S count B c₂ (set S' i old) B₂
          branches {c₂} {old} {S'} {B₂} Y o = record {
            restored = ap₂ (λ l x. set l i x) (Y.restored ∙ given-up-state) o ∙ set-set S i (without (get_or S i 5) e) (get_or S i 0) ∙ set-get_or S i 0;
            long = Y.long ∙ X.long;
            it = λ α β r m p q. branch-explored (length S) α β S i e picks.0 picks.1 (sym X.long) (sym Y.long)
                (subst (λ d. Explored d α β (set S i e) count B c₁ B₁) (length-set S i e) (X.it α β r m p q))
                (subst (λ d. Explored d α β S₂ c₁ B₁ c₂ B₂) long-two (subst (λ l. Explored (length l) α β l c₁ B₁ c₂ B₂) given-up-state (Y.it α β r m p q)));
          }
