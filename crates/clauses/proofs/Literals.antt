-- The clauses of a face have no literals but those of the face.
use Prim.Native.Nat.{ℕ}
use mathlib.Core.Path.{◌≡◌, sym, subst}
use mathlib.Core.Logic.{⊎_elim}
use mathlib.Core.Option.{some}
use mathlib.Core.List.Memᴰ.{append_cases}
use mathlib.Core.List.Memᴰ.{eq_of_singleton as only}
use mathlib.Core.List.Memᴰ.{not-nil}
use mathlib.Core.List.{List}
use Rattle.formula.specs.Formula.{Face}
use Rattle.clauses.specs.Normal.{Clause, numbered, sets-of-literals, literal-sets, dnf}
use Rattle.clauses.specs.Shape.{All}
use Rattle.clauses.proofs.Carrying.{AllLiterals}
use Rattle.clauses.proofs.Keeping.{Kept, clauses-kept}
use Rattle.clauses.proofs.Members.{◌∈◌, prune-has, pairs-has}
use Rattle.clauses.proofs.Sets.{union-has}
use Rattle.clauses.proofs.Shaping.{of-all}

module _ (P : ℕ → Type 0) where
  -- What holds of the literals of a face holds of those of the list.
  abbrev Has : Face → List Clause → Type 0
  Has f l = AllLiterals (λ e n. P (numbered e n)) f → (c : Clause) → c ∈ l → (k : ℕ) → k ∈ c → P k

  kept : Kept sets-of-literals literal-sets Has
  kept = record {
    never = λ h c m. absurd (not-nil m);
    always = λ h c m k n. absurd (not-nil (subst (λ d. k ∈ d) (only m) n));
    single = λ e n h c m k i. subst P (sym (only (subst (λ d. k ∈ d) (only m) i))) h;
    conjoined = λ a b x y p q s h c m k n.
        let u = pairs-has sets-of-literals x y (prune-has sets-of-literals _ m) in
        let v = u.so in
        ⊎_elim (p h.0 u.element u.member k) (q h.1 v.element v.member k) (union-has u.element v.element (subst (λ d. k ∈ d) v.so.1 n));
    disjoined = λ a b x y p q s h c m k n. ⊎_elim (λ i. p h.0 c i k n) (λ i. q h.1 c i k n) (append_cases x (prune-has sets-of-literals _ m));
  }

  pub dnf-literals : (f : Face) (l : List Clause) → dnf f ≡ some l → AllLiterals (λ e n. P (numbered e n)) f → All (All P) l
  unfolding dnf
  dnf-literals f l e h = of-all l (λ c m. of-all c (λ k n. clauses-kept sets-of-literals literal-sets Has kept f l e h c m k n))
