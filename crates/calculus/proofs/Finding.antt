-- The lowest step with a judgement, also in ledgers that grow.
use mathlib.Core.Path.{◌≡◌, refl, ap}
use mathlib.Core.Option.{Option, none, some, map, none-ne-some, some-ne-none}
use mathlib.Core.List.{List, [], ◌∷◌, ◌++◌}
use Prim.Native.Nat.{ℕ, zero, suc, ◌<◌, compare, Ordering}
use native.Mathlib.Omega.{arith}
use lib.ListN.{length}
use Rattle.formula.proofs.Compare.{Compares, stands}
use Rattle.calculus.specs.Judgement.{Judgement, Step, same_judgement}
use Rattle.calculus.specs.Rules.{judgement_at}
use Rattle.calculus.specs.Emit.{here, find}
use Rattle.calculus.specs.Demand.{Lowest}

-- A place among the others is one more.
data Next : Option ℕ → ℕ → Type 0 where
  one_more : {n : ℕ} → Next (some n) (suc n)

next_of : (o : Option ℕ) (n : ℕ) → map (λ m. suc m) o ≡ some n → Next o n
next_of none n e = absurd (none-ne-some n e)
next_of (some m) zero e = absurd (let h : suc m ≡ 0 = cc in omega arith)
next_of (some m) (suc n) e = let h : m ≡ n = cc in rw h one_more

none_of : (o : Option ℕ) → map (λ m. suc m) o ≡ none → o ≡ none
none_of none e = refl
none_of (some m) e = absurd (some-ne-none (suc m) e)

-- What is found is the lowest step with the judgement.
pub find-lowest : (j : Judgement) (L : List Step) (n : ℕ) → find j L ≡ some n → Lowest j L n
unfolding find
find-lowest j [] n e = absurd (none-ne-some n e)
find-lowest j (s ∷ L) n e = go n (same_judgement s.judgement j) e (find-lowest j L)
  where
    past : {n : ℕ} → (s.judgement ≡ j → ⊥) → ((m : ℕ) → find j L ≡ some m → Lowest j L m) → (o : Option ℕ) → find j L ≡ o → Next o n → Lowest j (s ∷ L) n
    past p h o f (one_more {n = m}) =
        let l = h m f in
        record { inside = omega arith; same = l.same; least = elim [ zero ↦ λ b. p | suc i ↦ λ b. l.least i (omega arith) ] }

    go : (n : ℕ) (d : Dec (s.judgement ≡ j)) → here d (find j L) ≡ some n → ((m : ℕ) → find j L ≡ some m → Lowest j L m) → Lowest j (s ∷ L) n
    go zero (yes p) e h = record { inside = omega arith; same = p; least = λ i b. absurd (omega arith) }
    go (suc n) (yes p) e h = absurd (let f : 0 ≡ suc n = cc in omega arith)
    go n (no p) e h = past p h (find j L) refl (next_of (find j L) n e)

-- Where nothing is found no step has the judgement.
pub find_none : (j : Judgement) (L : List Step) → find j L ≡ none → (i : ℕ) → i < length L → judgement_at L i ≡ j → ⊥
unfolding find
find_none j [] e i b = absurd (omega arith)
find_none j (s ∷ L) e i b = go (same_judgement s.judgement j) e i b (find_none j L)
  where
    go : (d : Dec (s.judgement ≡ j)) → here d (find j L) ≡ none → (i : ℕ) → i < length (s ∷ L)
        → (find j L ≡ none → (i : ℕ) → i < length L → judgement_at L i ≡ j → ⊥) → judgement_at (s ∷ L) i ≡ j → ⊥
    go (yes p) e i b h = absurd (some-ne-none 0 e)
    go (no p) e zero b h = p
    go (no p) e (suc i) b h = h (none_of (find j L) e) i (omega arith)

-- There is one lowest step.
pub one-lowest : {j : Judgement} {L : List Step} {m n : ℕ} → Lowest j L m → Lowest j L n → m ≡ n
one-lowest {m} {n} k l = go (compare m n) (stands m n)
  where
    go : (o : Ordering) → Compares o m n → m ≡ n
    go Ordering.lt b = absurd (l.least m b k.same)
    go Ordering.eq b = b
    go Ordering.gt b = absurd (k.least n b l.same)

-- The lowest step with a judgement is what is found.
pub lowest-find : (j : Judgement) (L : List Step) (n : ℕ) → Lowest j L n → find j L ≡ some n
lowest-find j L n l = go (find j L) refl
  where
    go : (o : Option ℕ) → find j L ≡ o → o ≡ some n
    go none e = absurd (find_none j L e n l.inside l.same)
    go (some m) e =
        let same : m ≡ n = one-lowest (find-lowest j L m e) l in
        ap some same

-- A step that is found stays so in a longer ledger.
pub find-extend : (j : Judgement) (L T : List Step) (n : ℕ) → find j L ≡ some n → find j (L ++ T) ≡ some n
unfolding find
find-extend j [] T n e = absurd (none-ne-some n e)
find-extend j (s ∷ L) T n e = go (same_judgement s.judgement j) e (find-extend j L T)
  where
    past : {n : ℕ} → ((m : ℕ) → find j L ≡ some m → find j (L ++ T) ≡ some m) → (o : Option ℕ) → find j L ≡ o → Next o n → map (λ m. suc m) (find j (L ++ T)) ≡ some n
    past h o f (one_more {n = m}) = rw (h m f)

    go : (d : Dec (s.judgement ≡ j)) → here d (find j L) ≡ some n → ((m : ℕ) → find j L ≡ some m → find j (L ++ T) ≡ some m) → here d (find j (L ++ T)) ≡ some n
    go (yes p) e h = e
    go (no p) e h = past h (find j L) refl (next_of (find j L) n e)

-- A new judgement is found where it is appended.
pub find-new : (L : List Step) (s : Step) → find s.judgement L ≡ none → find s.judgement (L ++ s ∷ []) ≡ some (length L)
unfolding find
find-new [] s e = go (same_judgement s.judgement s.judgement)
  where
    go : (d : Dec (s.judgement ≡ s.judgement)) → here d none ≡ some 0
    go (yes p) = refl
    go (no p) = absurd (p refl)
find-new (r ∷ L) s e = go (same_judgement r.judgement s.judgement) e (find-new L s)
  where
    go : (d : Dec (r.judgement ≡ s.judgement)) → here d (find s.judgement L) ≡ none
        → (find s.judgement L ≡ none → find s.judgement (L ++ s ∷ []) ≡ some (length L)) → here d (find s.judgement (L ++ s ∷ [])) ≡ some (suc (length L))
    go (yes p) e h = absurd (some-ne-none 0 e)
    go (no p) e h = rw (h (none_of (find s.judgement L) e))
