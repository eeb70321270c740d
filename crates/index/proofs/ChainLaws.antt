-- Chains: what a walk down the chain of a bucket finds is the lowest equal step.
use Prim.Native.Nat.{ℕ, zero, suc, ◌+◌, ◌≤◌, ◌<◌}
use native.Mathlib.Omega.{arith}
use mathlib.Core.Path.{◌≡◌, refl, sym, ap, ap₂, ◌∙◌}
use mathlib.Core.Bool.{Bool, true, false, and-eq-true_iff}
use mathlib.Core.Option.{Option, none, some, map}
use mathlib.Core.List.{List, ◌++◌}
use lib.Dec.{eqb}
use lib.ListN.{length, drop, get_or-append}
use lib.Seq.{drop-cons, drop-length}
use borrow.Author.Tests.{eqb-true, eqb-false}
use Rattle.formula.specs.Answers.{same_bytes, pick}
use Rattle.formula.proofs.ByteLaws.{same_true}
use Rattle.calculus.specs.Judgement.{Step}
use Rattle.calculus.specs.Table.{predicate}
use Rattle.calculus.specs.Rules.{step_at, judgement_at}
use Rattle.calculus.specs.Record.{operand_bytes}
use Rattle.kinds.specs.Kinds.{number_of}
use Rattle.std.specs.Prelude.{Option as Found, Some, None, Ok, Err}
use Rattle.index.specs.Finding.{same_step, first, find_bytes, found_as}
use Rattle.index.specs.Index.{choose, bucket_of, bucket_at, last}

-- The last step of a bucket is one of the steps, and in the bucket.
pub last-low : (H : ℕ) (L : List Step) (b n : ℕ) → last H L b n ≤ n
unfolding last
last-low H L b zero = omega arith
last-low H L b (suc i) = go (last-low H L b i) (eqb (bucket_at H L i) b)
  where
    go : last H L b i ≤ i → (t : Bool) → choose t (suc i) (last H L b i) ≤ suc i
    go h true = omega arith
    go h false = omega arith

-- A place in a chain: the end, or a step of the bucket.
pub record InChain (H : ℕ) (L : List Step) (b i : ℕ) : Type 0 where
  pub low : i ≤ length L
  pub among : (s : ℕ) → i ≡ suc s → bucket_at H L s ≡ b

last-in : (H : ℕ) (L : List Step) (b n s : ℕ) → last H L b n ≡ suc s → bucket_at H L s ≡ b
unfolding last
last-in H L b zero s e = absurd (omega arith)
last-in H L b (suc i) s e = go (λ r. last-in H L b i s r) (eqb (bucket_at H L i) b) refl e
  where
    go : (last H L b i ≡ suc s → bucket_at H L s ≡ b) → (t : Bool) → eqb (bucket_at H L i) b ≡ t → choose t (suc i) (last H L b i) ≡ suc s → bucket_at H L s ≡ b
    go f true h e = let k : s ≡ i = omega arith in ap (bucket_at H L) k ∙ eqb-true (bucket_at H L i) b h
    go f false h e = f e

pub last-chain : (H : ℕ) (L : List Step) (b n : ℕ) → n ≤ length L → InChain H L b (last H L b n)
last-chain H L b n h = record { low = omega (arith, last-low H L b n); among = last-in H L b n }

-- The number of the lowest equal one of the first steps, with the answer r where there is none.
unfoldable pub down : ℕ → List ℕ → List Step → ℕ → Found ℕ → Found ℕ
down p x L zero r = r
down p x L (suc i) r = down p x L i (pick (same_step p x (step_at L i)) (Some i) r)

module _ (p : ℕ) (x : List ℕ) where
  -- Equal steps are in one bucket.
  same-bucket : (H : ℕ) (L : List Step) (i : ℕ) → same_step p x (step_at L i) ≡ true → bucket_at H L i ≡ bucket_of H p x
  same-bucket H L i e =
      let k = (and-eq-true_iff (eqb (number_of (predicate (judgement_at L i))) p) (same_bytes (operand_bytes (judgement_at L i)) x)).0 e in
      ap₂ (bucket_of H) (eqb-true (number_of (predicate (judgement_at L i))) p k.0) (same_true (operand_bytes (judgement_at L i)) x k.1)

  other-bucket : (H : ℕ) (L : List Step) (i : ℕ) → (bucket_at H L i ≡ bucket_of H p x → ⊥) → same_step p x (step_at L i) ≡ false
  other-bucket H L i e = go (same_step p x (step_at L i)) refl
    where
      go : (t : Bool) → same_step p x (step_at L i) ≡ t → t ≡ false
      go false h = refl
      go true h = absurd (e (same-bucket H L i h))

  -- Steps of other buckets are passed over.
  pub down-skip : (H : ℕ) (L : List Step) (m : ℕ) (r : Found ℕ) → down p x L m r ≡ down p x L (last H L (bucket_of H p x) m) r
  unfolding last down
  down-skip H L zero r = refl
  down-skip H L (suc i) r = go (down-skip H L i r) (eqb (bucket_at H L i) (bucket_of H p x)) refl
    where
      go : down p x L i r ≡ down p x L (last H L (bucket_of H p x) i) r → (t : Bool) → eqb (bucket_at H L i) (bucket_of H p x) ≡ t
          → down p x L i (pick (same_step p x (step_at L i)) (Some i) r) ≡ down p x L (choose t (suc i) (last H L (bucket_of H p x) i)) r
      go f true h = refl
      go f false h =
          ap (λ (t : Bool). down p x L i (pick t (Some i) r)) (other-bucket H L i (eqb-false (bucket_at H L i) (bucket_of H p x) h))
          ∙ f

  pub down-end : (L : List Step) (r : Found ℕ) → down p x L 0 r ≡ r
  unfolding down
  down-end L r = refl

  -- The whole walk finds the lowest.
  coded : ℕ → Option ℕ → Found ℕ
  coded i none = None
  coded i (some k) = Some (i + k)

  down-finds : (L : List Step) (m : ℕ) (r : Found ℕ) → m ≤ length L → r ≡ coded m (find_bytes p x (drop m L)) → down p x L m r ≡ coded 0 (find_bytes p x L)
  unfolding down find_bytes coded
  down-finds L zero r h e = e
  down-finds L (suc i) r h e = down-finds L i (pick (same_step p x (step_at L i)) (Some i) r) (omega arith) (go (same_step p x (step_at L i)) refl)
    where
      step : (o : Option ℕ) → coded (suc i) o ≡ coded i (map (λ k. suc k) o)
      step none = refl
      step (some k) = let q : suc i + k ≡ i + suc k = omega arith in ap Some q

      go : (t : Bool) → same_step p x (step_at L i) ≡ t → pick t (Some i) r ≡ coded i (find_bytes p x (drop i L))
      go true q =
          let z : i ≡ i + 0 = omega arith in
          ap Some z ∙ sym (ap (λ (M : List Step). coded i (find_bytes p x M)) (drop-cons L i _ h) ∙ ap (λ (t : Bool). coded i (first t (find_bytes p x (drop (suc i) L)))) q)
      go false q =
          e ∙ step (find_bytes p x (drop (suc i) L))
          ∙ sym (ap (λ (M : List Step). coded i (find_bytes p x M)) (drop-cons L i _ h) ∙ ap (λ (t : Bool). coded i (first t (find_bytes p x (drop (suc i) L)))) q)

  down-whole : (L : List Step) → down p x L (length L) None ≡ coded 0 (find_bytes p x L)
  unfolding coded find_bytes
  down-whole L = down-finds L (length L) None (omega arith) (sym (ap (λ (M : List Step). coded (length L) (find_bytes p x M)) (drop-length L)))

  -- The answer, by what the walk found.
  pub walk-absent : (L : List Step) (n : ℕ) → down p x L (length L) None ≡ None → found_as (find_bytes p x L) n ≡ Err n
  unfolding coded
  walk-absent L n e = go (find_bytes p x L) (sym (down-whole L) ∙ e)
    where
      go : (o : Option ℕ) → coded 0 o ≡ None → found_as o n ≡ Err n
      go none h = refl
      go (some k) h = absurd (let z : ◌≡◌ {A = ℕ} 0 1 = cc in omega arith)

  pub walk-found : (L : List Step) (n i : ℕ) → down p x L (length L) None ≡ Some i → found_as (find_bytes p x L) n ≡ Ok i
  unfolding coded
  walk-found L n i e = go (find_bytes p x L) (sym (down-whole L) ∙ e)
    where
      go : (o : Option ℕ) → coded 0 o ≡ Some i → found_as o n ≡ Ok i
      go none h = absurd (let z : ◌≡◌ {A = ℕ} 0 1 = cc in omega arith)
      go (some k) h = let q : 0 + k ≡ i = cc in let z : k ≡ i = omega arith in ap Ok z

-- Steps behind change nothing.
pub bucket-more : (H : ℕ) (L M : List Step) (i : ℕ) → i < length L → bucket_at H (L ++ M) i ≡ bucket_at H L i
bucket-more H L M i h = ap (λ (s : Step). bucket_of H (number_of (predicate s.judgement)) (operand_bytes s.judgement)) (get_or-append L M _ i h)

pub last_more : (H : ℕ) (L M : List Step) (b n : ℕ) → n ≤ length L → last H (L ++ M) b n ≡ last H L b n
unfolding last
last_more H L M b zero h = refl
last_more H L M b (suc i) h = ap₂ (λ (a c : ℕ). choose (eqb a b) (suc i) c) (bucket-more H L M i h) (last_more H L M b i (omega arith))
