-- One read after another.
use Rattle.std.proofs.Common.{◌≡◌, ℕ, ◌+◌, ◌-◌, ◌≤◌, List, ◌++◌, take, drop, Option, ap, sym, subst, ◌∙◌, arith, take-append-drop}
use lib.Seq.{take-take}
use Rattle.std.proofs.KnownBytes.{Consumes-trans}
use Rattle.std.proofs.lemmas.List.{drop-take}
use Rattle.std.specs.Io.KnownBytes.{Consumes}

take-sum : (n k : ℕ) (ys : List ℕ) → take (n + k) ys ≡ take n ys ++ take k (drop n ys)
take-sum n k ys =
    sym (take-append-drop n (take (n + k) ys))
    ∙ ap (λ l. l ++ drop n (take (n + k) ys)) (take-take n (n + k) ys (omega arith))
    ∙ ap (λ l. take n ys ++ l) (drop-take n k ys)

-- what was read behind the first n bytes stands behind them
pub Consumes-behind : (a b c : Option (List ℕ)) (xs ys : List ℕ) (n m : ℕ) → n ≤ m → take n ys ≡ take n xs
    → Consumes a b (take n xs) → Consumes b c (take (m - n) (drop n ys)) → Consumes a c (take m ys)
Consumes-behind a b c xs ys n m within front before after =
    let sum : m ≡ n + (m - n) = omega (arith, within) in
    let parts = ap (λ k. take k ys) sum ∙ take-sum n (m - n) ys ∙ ap (λ l. l ++ take (m - n) (drop n ys)) front in
    subst (Consumes a c) (sym parts) (Consumes-trans a b c _ _ before after)
