-- The interval of Cohen, Coquand, Huber and Mörtberg (section 3): the free de Morgan algebra on the names of dimensions.
-- The paper's 0, 1, i, 1 − r, r ∧ s, r ∨ s are i0, i1, dim n, neg r, meet r s, join r s; its names are an infinite set, here the numbers.
use Rattle.formula.specs.Formula.{Interval, i0, i1, neg, meet, join}

-- Equality in the interval: what follows from the axioms of a de Morgan algebra, and nothing else.
infix 50 ◌≐◌
pub data ◌≐◌ : Interval → Interval → Type 0 where
  -- It is an equality, and the operations respect it.
  reflexive : {r : Interval} → r ≐ r
  symmetric : {r s : Interval} → r ≐ s → s ≐ r
  transitive : {r s t : Interval} → r ≐ s → s ≐ t → r ≐ t
  neg-respects : {r s : Interval} → r ≐ s → neg r ≐ neg s
  meet-respects : {r s t u : Interval} → r ≐ s → t ≐ u → meet r t ≐ meet s u
  join-respects : {r s t u : Interval} → r ≐ s → t ≐ u → join r t ≐ join s u
  -- A bounded distributive lattice.
  meet-commutes : {r s : Interval} → meet r s ≐ meet s r
  join-commutes : {r s : Interval} → join r s ≐ join s r
  meet-associates : {r s t : Interval} → meet (meet r s) t ≐ meet r (meet s t)
  join-associates : {r s t : Interval} → join (join r s) t ≐ join r (join s t)
  meet-absorbs : {r s : Interval} → meet r (join r s) ≐ r
  join-absorbs : {r s : Interval} → join r (meet r s) ≐ r
  distributive : {r s t : Interval} → meet r (join s t) ≐ join (meet r s) (meet r t)
  meet_one : {r : Interval} → meet r i1 ≐ r
  join-zero : {r : Interval} → join r i0 ≐ r
  -- 1 − r is an involution with the laws of de Morgan.
  involution : {r : Interval} → neg (neg r) ≐ r
  neg-zero : neg i0 ≐ i1
  neg-one : neg i1 ≐ i0
  neg-meet : {r s : Interval} → neg (meet r s) ≐ join (neg r) (neg s)
  neg-join : {r s : Interval} → neg (join r s) ≐ meet (neg r) (neg s)
