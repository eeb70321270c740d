-- A run that has been made, made again on a longer ledger, appends nothing and ends the same.
use mathlib.Core.Path.{◌≡◌, refl, ◌∙◌, ap}
use mathlib.Core.Bool.{Bool, true, false}
use mathlib.Core.Option.{Option, none, some}
use mathlib.Core.List.{List, [], ◌∷◌, ◌++◌}
use Prim.Native.Nat.{ℕ}
use lib.ListN.{length}
use Rattle.calculus.specs.Judgement.{Step}
use Rattle.calculus.specs.Emit.{Failure, find, Outcome, done, stopped, full, append, emitted, Program, stop, emit, ◌>>=◌, attempt, next, instead, run}
use Rattle.calculus.proofs.Finding.{find-new}
use Rattle.calculus.proofs.Growing.{Extends, extends-refl, extends-trans, keep}

-- A first run from L had this outcome; a second one from any ledger that extends what the first left ends the same and leaves that ledger.
data Stays (again : List Step → Outcome) (L : List Step) : Outcome → Type 0 where
  done-stays : {n : ℕ} {M : List Step} → Extends L M → ((N : List Step) → Extends M N → again N ≡ done n N) → Stays again L (done n M)
  stopped-stays : {e : Failure} {M : List Step} → Extends L M → ((N : List Step) → Extends M N → again N ≡ stopped e N) → Stays again L (stopped e M)
  was-full : Stays again L full

-- The second run comes to what follows again.
onward : {k w : List Step → Outcome} {L M : List Step} {o : Outcome} → Extends L M → ((N : List Step) → Extends M N → w N ≡ k N) → Stays k M o → Stays w L o
onward x h (done-stays y g) = done-stays (extends-trans x y) (λ N z. h N (extends-trans y z) ∙ g N z)
onward x h (stopped-stays y g) = stopped-stays (extends-trans x y) (λ N z. h N (extends-trans y z) ∙ g N z)
onward x h was-full = was-full

next-stays : {m : List Step → Outcome} {k l : ℕ → List Step → Outcome} {L : List Step} {o : Outcome} → Stays m L o
    → ((n : ℕ) (M : List Step) → Stays (l n) M (k n M)) → Stays (λ N. next (m N) l) L (next o k)
next-stays {l} (done-stays {n} {M} x h) g = onward x (λ N z. ap (λ (q : Outcome). next q l) (h N z)) (g n M)
next-stays {l} (stopped-stays x h) g = stopped-stays x (λ N z. ap (λ (q : Outcome). next q l) (h N z))
next-stays was-full g = was-full

instead-stays : {m : List Step → Outcome} {k l : ℕ → List Step → Outcome} {r t : List Step → Outcome} {L : List Step} {o : Outcome} → Stays m L o
    → ((n : ℕ) (M : List Step) → Stays (l n) M (k n M)) → ((M : List Step) → Stays t M (r M)) → Stays (λ N. instead (m N) l t) L (instead o k r)
instead-stays {l} {t} (done-stays {n} {M} x h) g w = onward x (λ N z. ap (λ (q : Outcome). instead q l t) (h N z)) (g n M)
instead-stays {l} {t} (stopped-stays {M} x h) g w = onward x (λ N z. ap (λ (q : Outcome). instead q l t) (h N z)) (w M)
instead-stays was-full g w = was-full

module _ (room room₂ : List Step → Bool) where
  run-stays : (p : Program) (L : List Step) → Stays (run room₂ p) L (run room p L)
  unfolding run
  run-stays (stop e) L = stopped-stays (extends-refl L) (λ N z. refl)
  run-stays (emit k is j) L = go (find j L) refl
    where
      s : Step
      s = record { kind = k; references = is; judgement = j }

      again : (M : List Step) (n : ℕ) → find j M ≡ some n → (N : List Step) → Extends M N → run room₂ (emit k is j) N ≡ done n N
      again M n e N x = ap (emitted room₂ N s) (keep j n x e)

      appends : (b : Bool) → find j L ≡ none → Stays (run room₂ (emit k is j)) L (append b L s)
      appends true e = done-stays (record { more = s ∷ []; whole = refl }) (again (L ++ s ∷ []) (length L) (find-new L s e))
      appends false e = was-full

      go : (o : Option ℕ) → find j L ≡ o → Stays (run room₂ (emit k is j)) L (emitted room L s o)
      go (some n) e = done-stays (extends-refl L) (again L n e)
      go none e = appends (room (L ++ s ∷ [])) e
  run-stays (p >>= q) L = next-stays (run-stays p L) (λ n M. run-stays (q n) M)
  run-stays (attempt p q r) L = instead-stays (run-stays p L) (λ n M. run-stays (q n) M) (λ M. run-stays r M)

  -- Theorem 6: a run that was done, made again on any ledger that extends the one it left, appends nothing and answers the same number.
  pub done-again : (p : Program) (L M N : List Step) (n : ℕ) → run room p L ≡ done n M → Extends M N → run room₂ p N ≡ done n N
  done-again p L M N n e x = go (run room p L) e (run-stays p L)
    where
      go : (o : Outcome) → o ≡ done n M → Stays (run room₂ p) L o → run room₂ p N ≡ done n N
      go o e (done-stays {n = i} {M = O} y h) =
          let a : i ≡ n = cc in
          let b : O ≡ M = cc in
          h N (rw b x) ∙ ap (λ (k : ℕ). done k N) a
      go o e (stopped-stays y h) = cc
      go o e was-full = cc

  -- And so it is with a run that stopped.
  pub stopped-again : (p : Program) (L M N : List Step) (f : Failure) → run room p L ≡ stopped f M → Extends M N → run room₂ p N ≡ stopped f N
  stopped-again p L M N f e x = go (run room p L) e (run-stays p L)
    where
      go : (o : Outcome) → o ≡ stopped f M → Stays (run room₂ p) L o → run room₂ p N ≡ stopped f N
      go o e (done-stays y h) = cc
      go o e (stopped-stays {e = i} {M = O} y h) =
          let a : i ≡ f = cc in
          let b : O ≡ M = cc in
          h N (rw b x) ∙ ap (λ (k : Failure). stopped k N) a
      go o e was-full = cc

-- A run only appends.
pub data Longer (L : List Step) : Outcome → Type 0 where
  done-longer : {n : ℕ} {M : List Step} → Extends L M → Longer L (done n M)
  stopped-longer : {e : Failure} {M : List Step} → Extends L M → Longer L (stopped e M)
  is-full : Longer L full

pub run-longer : (room : List Step → Bool) (p : Program) (L : List Step) → Longer L (run room p L)
run-longer room p L = go (run-stays room room p L)
  where
    go : {o : Outcome} → Stays (run room p) L o → Longer L o
    go (done-stays x h) = done-longer x
    go (stopped-stays x h) = stopped-longer x
    go was-full = is-full
