-- Numbers are the index of a ledger in one way at most.
use Prim.Native.Nat.{ℕ, suc}
use Prim.Native.String.{String}
use mathlib.Core.Path.{◌≡◌, refl, sym, ap, ◌∙◌, subst}
use mathlib.Core.HLevel.{hedberg, is_prop→PathP}
use mathlib.Core.Bool.{Bool, true, false}
use mathlib.Core.List.{List, [], ◌∷◌}
use mathlib.Core.Sum.{⊎_set}
use lib.Text.{eqt, eqt→eq, eqt_refl}
use lib.Dec.{T}
use Rattle.std.proofs.Props.{props}
use Rattle.calculus.specs.Judgement.{Step, Judgement, same_judgement}
use Rattle.calculus.specs.Table.{Pred, Pred-discrete, Entry, entry, unlisted, entry_of, Listed}
use Rattle.calculus.specs.Rules.{AllBelow}
use Rattle.calculus.specs.Record.{FormedFrom}
use Rattle.calculus.specs.Emit.{Failure, Outcome}
use Rattle.index.specs.Index.{Indexed}

String-discrete : (s t : String) → Dec (s ≡ t)
String-discrete s t = go (eqt s t) refl
  where
    go : (b : Bool) → eqt s t ≡ b → Dec (s ≡ t)
    go true e = yes (eqt→eq s t (subst T (sym e) tt))
    go false e = no (λ p. subst T (ap (λ (x : String). eqt s x) p ∙ e) (eqt_refl s))

-- The name of an entry.
abbrev name_of : String → Entry → String
name_of s (entry n k p) = n
name_of s unlisted = s

String-set : IsSet String
String-set = hedberg String-discrete

Pred-set : IsSet Pred
Pred-set = hedberg Pred-discrete

Entry-set : IsSet Entry
Entry-set = hlevel (⊎_set, String-set, Pred-set, props)

Judgement-set : IsSet Judgement
Judgement-set = hedberg same_judgement

Failure-set : IsSet Failure
Failure-set = hlevel ⊎_set

Outcome-set : IsSet Outcome
Outcome-set = hlevel (⊎_set, Judgement-set, Failure-set, props)

listed-prop : (k n : ℕ) (p : Pred) → IsProp (Listed k n p)
listed-prop k n p x y =
    let q : x.name ≡ y.name = ap (name_of x.name) (sym x.listed ∙ y.listed) in
    λ i. record { name = q i; listed = is_prop→PathP (λ i. entry_of k ≡ entry (q i) n p) (λ i. Entry-set (entry_of k) (entry (q i) n p)) x.listed y.listed i }

below-prop : (n : ℕ) (l : List ℕ) → IsProp (AllBelow n l)
below-prop n [] = hlevel
below-prop n (i ∷ l) = hlevel (props, below-prop n l)

formed-prop : (i : ℕ) (L : List Step) → IsProp (FormedFrom i L)
formed-prop i [] = hlevel
formed-prop i (s ∷ L) = hlevel (props, listed-prop, below-prop i s.references, formed-prop (suc i) L)

pub indexed-prop : (l x : List ℕ) → IsProp (Indexed l x)
indexed-prop l x = hlevel (props, formed-prop, Outcome-set)
