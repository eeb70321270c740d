-- The 75 rules, when a step follows by its rule, and what the step desk says of a ledger's steps (document 01, "Rules" and "Step desk").
use Rattle.std.specs.Prelude.{List, [], ◌∷◌, map, ℕ, suc, ◌<◌, length, get_or}
use Rattle.formula.specs.Formula.{lo, hi, Face, ff, ft, at, fand, for, Interval, i0, i1, dim, neg, meet, join}
use Rattle.calculus.specs.Judgement.{Judgement, lt, le, interval, face, member, take, cover, entails, boundary, local, fforall, ishift, isubst, fshift, fsubst, Step}

-- The rules: kind, premises in the order of the references, conclusion.
pub data Rule : ℕ → List Judgement → Judgement → Type 0 where
  -- Numbers: lt m n, le m n.
  lt-z : {n : ℕ} → Rule 1 [] (lt 0 (suc n))
  lt-s : {m n : ℕ} → Rule 2 (lt m n ∷ []) (lt (suc m) (suc n))
  le-z : {n : ℕ} → Rule 3 [] (le 0 n)
  le_s : {m n : ℕ} → Rule 4 (le m n ∷ []) (le (suc m) (suc n))
  -- interval d r and face d f: the parts have the same d.
  interval-0 : {d : ℕ} → Rule 5 [] (interval d i0)
  interval-1 : {d : ℕ} → Rule 6 [] (interval d i1)
  interval-dim : {d n : ℕ} → Rule 7 (lt n d ∷ []) (interval d (dim n))
  interval-neg : {d : ℕ} {r : Interval} → Rule 8 (interval d r ∷ []) (interval d (neg r))
  interval-meet : {d : ℕ} {r s : Interval} → Rule 9 (interval d r ∷ interval d s ∷ []) (interval d (meet r s))
  interval-join : {d : ℕ} {r s : Interval} → Rule 10 (interval d r ∷ interval d s ∷ []) (interval d (join r s))
  face-ff : {d : ℕ} → Rule 11 [] (face d ff)
  face-ft : {d : ℕ} → Rule 12 [] (face d ft)
  face-0 : {d n : ℕ} → Rule 13 (interval d (dim n) ∷ []) (face d (at lo n))
  face-1 : {d n : ℕ} → Rule 14 (interval d (dim n) ∷ []) (face d (at hi n))
  face-and : {d : ℕ} {a b : Face} → Rule 15 (face d a ∷ face d b ∷ []) (face d (fand a b))
  face-or : {d : ℕ} {a b : Face} → Rule 16 (face d a ∷ face d b ∷ []) (face d (for a b))
  -- member f G, take G f D.
  member-here : {f : Face} {G : List Face} → Rule 17 [] (member f (f ∷ G))
  member-there : {f g : Face} {G : List Face} → Rule 18 (member f G ∷ []) (member f (g ∷ G))
  take-here : {f : Face} {G : List Face} → Rule 19 [] (take (f ∷ G) f G)
  take-there : {f g : Face} {G D : List Face} → Rule 20 (take G f D ∷ []) (take (g ∷ G) f (g ∷ D))
  -- cover G g.
  cover-top : {G : List Face} → Rule 21 [] (cover G ft)
  cover-hit : {G : List Face} {g : Face} → Rule 22 (member g G ∷ []) (cover G g)
  cover-absurd : {G : List Face} {g : Face} → Rule 23 (member ff G ∷ []) (cover G g)
  cover-clash : {G : List Face} {g : Face} {n : ℕ} → Rule 24 (member (at lo n) G ∷ member (at hi n) G ∷ []) (cover G g)
  cover-and-left : {G D : List Face} {g a b : Face} → Rule 25 (take G (fand a b) D ∷ cover (a ∷ b ∷ D) g ∷ []) (cover G g)
  cover-or-left : {G D : List Face} {g a b : Face} → Rule 26 (take G (for a b) D ∷ cover (a ∷ D) g ∷ cover (b ∷ D) g ∷ []) (cover G g)
  cover-and-right : {G : List Face} {a b : Face} → Rule 27 (cover G a ∷ cover G b ∷ []) (cover G (fand a b))
  cover-or-right0 : {G : List Face} {a b : Face} → Rule 28 (cover G a ∷ []) (cover G (for a b))
  cover-or-right1 : {G : List Face} {a b : Face} → Rule 29 (cover G b ∷ []) (cover G (for a b))
  -- entails d a b.
  entails-checked : {d : ℕ} {a b : Face} → Rule 30 (face d a ∷ face d b ∷ cover (a ∷ []) b ∷ []) (entails d a b)
  -- boundary r a b.
  boundary-0 : Rule 31 [] (boundary i0 ft ff)
  boundary-1 : Rule 32 [] (boundary i1 ff ft)
  boundary-dim : {n : ℕ} → Rule 33 [] (boundary (dim n) (at lo n) (at hi n))
  boundary-neg : {r : Interval} {a b : Face} → Rule 34 (boundary r a b ∷ []) (boundary (neg r) b a)
  boundary-meet : {r s : Interval} {a b x y : Face} → Rule 35 (boundary r a b ∷ boundary s x y ∷ []) (boundary (meet r s) (for a x) (fand b y))
  boundary-join : {r s : Interval} {a b x y : Face} → Rule 36 (boundary r a b ∷ boundary s x y ∷ []) (boundary (join r s) (fand a x) (for b y))
  -- local d phi r e.
  local-0 : {d : ℕ} {phi a b : Face} {r : Interval} → Rule 37 (interval d r ∷ boundary r a b ∷ entails d phi a ∷ []) (local d phi r i0)
  local-1 : {d : ℕ} {phi a b : Face} {r : Interval} → Rule 38 (interval d r ∷ boundary r a b ∷ entails d phi b ∷ []) (local d phi r i1)
  -- fforall f k out.
  fforall-ff : {k : ℕ} → Rule 39 [] (fforall ff k ff)
  fforall-ft : {k : ℕ} → Rule 40 [] (fforall ft k ft)
  fforall-0-hit : {k : ℕ} → Rule 41 [] (fforall (at lo k) k ff)
  fforall-0-lt : {k n : ℕ} → Rule 42 (lt n k ∷ []) (fforall (at lo n) k (at lo n))
  fforall-0-gt : {k n : ℕ} → Rule 43 (lt k (suc n) ∷ []) (fforall (at lo (suc n)) k (at lo n))
  fforall-1-hit : {k : ℕ} → Rule 44 [] (fforall (at hi k) k ff)
  fforall-1-lt : {k n : ℕ} → Rule 45 (lt n k ∷ []) (fforall (at hi n) k (at hi n))
  fforall-1-gt : {k n : ℕ} → Rule 46 (lt k (suc n) ∷ []) (fforall (at hi (suc n)) k (at hi n))
  fforall-and : {k : ℕ} {a b x y : Face} → Rule 47 (fforall a k x ∷ fforall b k y ∷ []) (fforall (fand a b) k (fand x y))
  fforall-or : {k : ℕ} {a b x y : Face} → Rule 48 (fforall a k x ∷ fforall b k y ∷ []) (fforall (for a b) k (for x y))
  -- ishift r k out.
  ishift-0 : {k : ℕ} → Rule 49 [] (ishift i0 k i0)
  ishift-1 : {k : ℕ} → Rule 50 [] (ishift i1 k i1)
  ishift-dim-lt : {k n : ℕ} → Rule 51 (lt n k ∷ []) (ishift (dim n) k (dim n))
  ishift-dim-ge : {k n : ℕ} → Rule 52 (le k n ∷ []) (ishift (dim n) k (dim (suc n)))
  ishift-neg : {k : ℕ} {r x : Interval} → Rule 53 (ishift r k x ∷ []) (ishift (neg r) k (neg x))
  ishift-meet : {k : ℕ} {r s x y : Interval} → Rule 54 (ishift r k x ∷ ishift s k y ∷ []) (ishift (meet r s) k (meet x y))
  ishift-join : {k : ℕ} {r s x y : Interval} → Rule 55 (ishift r k x ∷ ishift s k y ∷ []) (ishift (join r s) k (join x y))
  -- isubst r k t out.
  isubst-0 : {k : ℕ} {t : Interval} → Rule 56 [] (isubst i0 k t i0)
  isubst-1 : {k : ℕ} {t : Interval} → Rule 57 [] (isubst i1 k t i1)
  isubst-dim-lt : {k n : ℕ} {t : Interval} → Rule 58 (lt n k ∷ []) (isubst (dim n) k t (dim n))
  isubst-dim-hit : {k : ℕ} {t : Interval} → Rule 59 [] (isubst (dim k) k t t)
  isubst-dim-gt : {k n : ℕ} {t : Interval} → Rule 60 (lt k (suc n) ∷ []) (isubst (dim (suc n)) k t (dim n))
  isubst-neg : {k : ℕ} {t r x : Interval} → Rule 61 (isubst r k t x ∷ []) (isubst (neg r) k t (neg x))
  isubst-meet : {k : ℕ} {t r s x y : Interval} → Rule 62 (isubst r k t x ∷ isubst s k t y ∷ []) (isubst (meet r s) k t (meet x y))
  isubst-join : {k : ℕ} {t r s x y : Interval} → Rule 63 (isubst r k t x ∷ isubst s k t y ∷ []) (isubst (join r s) k t (join x y))
  -- fshift f k out.
  fshift-ff : {k : ℕ} → Rule 64 [] (fshift ff k ff)
  fshift-ft : {k : ℕ} → Rule 65 [] (fshift ft k ft)
  fshift-0 : {k n m : ℕ} → Rule 66 (ishift (dim n) k (dim m) ∷ []) (fshift (at lo n) k (at lo m))
  fshift-1 : {k n m : ℕ} → Rule 67 (ishift (dim n) k (dim m) ∷ []) (fshift (at hi n) k (at hi m))
  fshift-and : {k : ℕ} {a b x y : Face} → Rule 68 (fshift a k x ∷ fshift b k y ∷ []) (fshift (fand a b) k (fand x y))
  fshift-or : {k : ℕ} {a b x y : Face} → Rule 69 (fshift a k x ∷ fshift b k y ∷ []) (fshift (for a b) k (for x y))
  -- fsubst f k t out.
  fsubst-ff : {k : ℕ} {t : Interval} → Rule 70 [] (fsubst ff k t ff)
  fsubst-ft : {k : ℕ} {t : Interval} → Rule 71 [] (fsubst ft k t ft)
  fsubst-0 : {k n : ℕ} {t s : Interval} {a b : Face} → Rule 72 (isubst (dim n) k t s ∷ boundary s a b ∷ []) (fsubst (at lo n) k t a)
  fsubst-1 : {k n : ℕ} {t s : Interval} {a b : Face} → Rule 73 (isubst (dim n) k t s ∷ boundary s a b ∷ []) (fsubst (at hi n) k t b)
  fsubst-and : {k : ℕ} {t : Interval} {a b x y : Face} → Rule 74 (fsubst a k t x ∷ fsubst b k t y ∷ []) (fsubst (fand a b) k t (fand x y))
  fsubst-or : {k : ℕ} {t : Interval} {a b x y : Face} → Rule 75 (fsubst a k t x ∷ fsubst b k t y ∷ []) (fsubst (for a b) k t (for x y))

-- Step i of a ledger; past its end a step of no kind.
abbrev pub step_at : List Step → ℕ → Step
step_at L i = get_or L i (record { kind = 0; references = []; judgement = lt 0 0 })

-- The judgement of step i.
abbrev pub judgement_at : List Step → ℕ → Judgement
judgement_at L i = (step_at L i).judgement

-- All numbers of the list are below n.
abbrev pub AllBelow : ℕ → List ℕ → Type 0
AllBelow n [] = Unit {0}
AllBelow n (i ∷ is) = (i < n) × AllBelow n is

-- A step with number n follows: its references are below n, and its rule leads from the judgements referred to to its own.
pub record Follows (L : List Step) (n : ℕ) (s : Step) : Type 0 where
  pub earlier : AllBelow n s.references
  pub rule : Rule s.kind (map (judgement_at L) s.references) s.judgement

-- Every step of the ledger follows.
abbrev pub Valid : List Step → Type 0
Valid L = (i : ℕ) → i < length L → Follows L i (step_at L i)

-- What the desk answers: how many steps it passed, or the number of the lowest that does not follow.
pub data Verdict : Type 0 where
  pass fail : ℕ → Verdict

-- The verdict is right for the steps.
pub data Judges (L : List Step) : Verdict → Type 0 where
  passes : Valid L → Judges L (pass (length L))
  fails : {i : ℕ} → i < length L → ((j : ℕ) → j < i → Follows L j (step_at L j)) → (Follows L i (step_at L i) → ⊥) → Judges L (fail i)
