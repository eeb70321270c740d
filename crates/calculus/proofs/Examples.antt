-- Examples by computation: the bytes of a name, the order of the tries, and the desk on document 01's listing.
use mathlib.Core.Path.{◌≡◌, refl}
use mathlib.Core.Bool.{decide}
use mathlib.Core.List.{List, [], ◌∷◌}
use Prim.Native.Nat.{ℕ}
use native.Mathlib.Decide.{ℕ_discrete, dec_lt, dec_le}
use Rattle.formula.specs.Formula.{lo, hi, ff, ft, at, fand, for, dim}
use Rattle.calculus.specs.Judgement.{lt, interval, face, cover, entails, Step, same_list, same_face, same_judgement}
use Rattle.calculus.specs.Table.{text_bytes}
use Rattle.calculus.specs.Rules.{Verdict, pass, fail}
use Rattle.calculus.specs.Search.{Move, by-top, by-hit, by-absurd, by-clash, by-and-left, by-or-left, by-and-right, by-or-right, stuck, has, try_clash, try_left, move}
use Rattle.calculus.proofs.Rows.{rows, guess, rule?}
use Rattle.calculus.proofs.Desk.{below?, follows?, judge_from, judge, desk}

name-bytes : text_bytes "lt.z" ≡ 108 ∷ 116 ∷ 46 ∷ 122 ∷ []
unfolding text_bytes
name-bytes = refl

-- The order of the tries ----------------------------------------------------------------

-- The next move in each of these. In the first six a later try would be another.
moves : List Move
moves =
    move (ft ∷ ff ∷ []) ft ∷
    move (ff ∷ at lo 1 ∷ []) (at lo 1) ∷
    move (at lo 0 ∷ at hi 0 ∷ ff ∷ []) (at lo 1) ∷
    move (for ft ft ∷ at hi 2 ∷ at lo 1 ∷ at hi 1 ∷ at lo 2 ∷ []) (at lo 0) ∷
    move (at lo 0 ∷ for ff ft ∷ fand ft ft ∷ []) (for ft ft) ∷
    move (at lo 0 ∷ fand ft ff ∷ for ft ft ∷ []) (fand ft ft) ∷
    move (ft ∷ at lo 0 ∷ []) (fand ft ff) ∷
    move (ft ∷ at lo 0 ∷ []) (for ft ff) ∷
    move (ft ∷ at lo 0 ∷ []) (at hi 0) ∷
    []

in_order : moves
    ≡ by-top
    ∷ by-hit
    ∷ by-absurd
    ∷ by-clash 2
    ∷ by-or-left (at lo 0 ∷ []) ff ft (fand ft ft ∷ [])
    ∷ by-and-left (at lo 0 ∷ []) ft ff (for ft ft ∷ [])
    ∷ by-and-right ft ff
    ∷ by-or-right ft ff
    ∷ stuck
    ∷ []
unfolding moves move has decide same_face ℕ_discrete try_clash try_left
in_order = refl

-- The desk ------------------------------------------------------------------------------

-- The listing of document 01, its last step with these references.
listing : List ℕ → List Step
listing is =
    record { kind = 1; references = []; judgement = lt 0 1 } ∷
    record { kind = 7; references = 0 ∷ []; judgement = interval 1 (dim 0) } ∷
    record { kind = 13; references = 1 ∷ []; judgement = face 1 (at lo 0) } ∷
    record { kind = 12; references = []; judgement = face 1 ft } ∷
    record { kind = 21; references = []; judgement = cover (at lo 0 ∷ []) ft } ∷
    record { kind = 30; references = is; judgement = entails 1 (at lo 0) ft } ∷
    []

-- It passes; it does not with two references exchanged, with none, or with a reference to the step itself.
verdicts : List Verdict
verdicts = desk (listing (2 ∷ 3 ∷ 4 ∷ [])) ∷ desk (listing (3 ∷ 2 ∷ 4 ∷ [])) ∷ desk (listing []) ∷ desk (listing (2 ∷ 3 ∷ 5 ∷ [])) ∷ []

listing-verdicts : verdicts ≡ pass 6 ∷ fail 5 ∷ fail 5 ∷ fail 5 ∷ []
unfolding verdicts listing desk judge judge_from follows? below? rule? guess rows same_judgement same_list same_face ℕ_discrete dec_lt dec_le
listing-verdicts = refl
