-- A row's items one by one: the code's turn is the only one, and the loops say whether all of them fit.
use mathlib.Core.Path.{◌≡◌, refl, sym, ap, ◌∙◌}
use mathlib.Core.Bool.{Bool, true, false}
use mathlib.Core.List.{List, [], ◌∷◌, ◌++◌, append-nil, append_assoc}
use Prim.Native.Nat.{ℕ, zero, suc, ◌+◌, ◌≤◌, ◌<◌}
use native.Mathlib.Omega.{arith}
use native.Mathlib.Numerals.{add-one}
use borrow.Author.Tests.{eqb-true, eq-eqb}
use lib.Dec.{eqb}
use lib.ListN.{length, get_or, take, drop}
use lib.Seq.{drop-cons}
use Rattle.std.specs.Prelude.{Option, None, Some}
use Rattle.calculus.proofs.Rows.{Env}
use Rattle.rows.specs.declared.Token.{Token}
use Rattle.rows.specs.declared.Item.{Item}
use Rattle.rows.specs.declared.Item.TheVariants.{Inside as inside}
use Rattle.rows.specs.Flattening.{part, joined, blank}
use Rattle.rules.specs.Standing.{Decides}
use Rattle.rules.specs.declared.Claim.{Claim}
use Rattle.rules.specs.declared.State.{State}
use Rattle.rules.specs.declared.slots.Bindings.{Bindings}
use Rattle.rules.specs.Matching.{Spoken, Fits, over, turn, spoken_by, spoken, Matched, held_in, Agrees, Free, Moves, Placed, Turns, FitsAt, Passes}
use Rattle.rules.proofs.Parts.{part_none, part_length}

none-some : {A B : Type 0} {x : A} {l : List A} → ◌≡◌ {A = List A} [] (x ∷ l) → B
none-some e = absurd (let z : ◌≡◌ {A = ℕ} 0 1 = cc in omega arith)

-- The next judgement -------------------------------------------------------------------------------

drop-past : {A : Type 0} (l : List A) (n : ℕ) → length l ≤ n → drop n l ≡ []
drop-past [] zero h = refl
drop-past [] (suc n) h = refl
drop-past (x ∷ l) zero h = absurd (omega arith)
drop-past (x ∷ l) (suc n) h = drop-past l n (omega arith)

module _ (l : List ℕ) (cs : List Claim) where
  spoken-next : (j : ℕ) (d : Claim) → j < length cs → spoken l (drop j cs) ≡ spoken_by l (get_or cs j d) ∷ spoken l (drop (j + 1) cs)
  spoken-next j d h =
      let q : suc j ≡ j + 1 = omega arith in
      ap (spoken l) (drop-cons cs j d h) ∙ ap (λ (k : ℕ). spoken_by l (get_or cs j d) ∷ spoken l (drop k cs)) q

  spoken-over : (j : ℕ) → length cs ≤ j → spoken l (drop j cs) ≡ []
  spoken-over j h = ap (spoken l) (drop-past cs j h)

  module _ (q : State) (v : Placed l cs q) where
    ended : part l q.at q.end ≡ [] → q.at ≡ q.end
    ended e = omega (arith, v.ordered, v.within, part_length l q.at q.end v.within, ap length e)

    -- A token of the present judgement.
    pub token-turns : (t : Token) (m m' : Bindings) (r : Option State) → Moves t q l m r m' → Turns (inside t) q l cs m r m'
    token-turns t m m' None w = λ E k s ds g x. w E k s g x.0
    token-turns t m m' (Some p) w = record {
      placed = record { ordered = w.within; within = omega (arith, w.kept.0, v.within); among = omega (arith, w.kept.1, v.among) };
      forth = λ E k s ds g x. let f = w.forth E k s g x.0 in (f.0, f.1, f.2, x.1 ∙ ap (λ (j : ℕ). spoken l (drop j cs)) (sym w.kept.1));
      back = λ E g. let f = w.back E g in (f.0, (f.1, ap (λ (j : ℕ). spoken l (drop j cs)) w.kept.1));
      possible = w.possible;
    }

-- Items one after another ------------------------------------------------------------------------------

fits-as : {E : Env} {is : List Item} {n k : ℕ} {s t : List ℕ} {cs ds : List Spoken} → n ≡ k → s ≡ t → cs ≡ ds → Fits E is n s cs → Fits E is k t ds
fits-as p q r f = rw (← p, ← q, ← r) f

module _ (l : List ℕ) (cs : List Claim) (q : State) (m : Bindings) where
  pub passes-none : Placed l cs q → Passes [] q l cs m (Some q) m
  passes-none v = record { placed = v; forth = λ E js g f. (g, f); back = λ E js g f. (g, f); possible = λ p. p }

  passes-one : (i : Item) (r : Option State) (m' : Bindings) → Turns i q l cs m r m' → Passes (i ∷ []) q l cs m r m'
  passes-one i None m' t = λ E js g f. go E g f
    where
      go : (E : Env) {js : List Item} → Agrees l m (held_in E) → FitsAt E (i ∷ js) q l cs → ⊥
      go E g (turn {n' = k} {s' = s} {cs' = ds} x f) = t E k s ds g x
  passes-one i (Some p) m' t = record {
    placed = t.placed;
    forth = λ E js g f. go E g f;
    back = λ E js g f. let x = t.back E g in (x.0, turn x.1 f);
    possible = t.possible;
  }
    where
      go : (E : Env) {js : List Item} → Agrees l m (held_in E) → FitsAt E (i ∷ js) q l cs → Agrees l m' (held_in E) × FitsAt E js p l cs
      go E g (turn {n' = k} {s' = s} {cs' = ds} x f) = let y = t.forth E k s ds g x in (y.0, fits-as y.1 y.2 y.3 f)

  pub passes-then : (is js : List Item) (p : State) (m' m'' : Bindings) (r : Option State) → Passes is q l cs m (Some p) m' → Passes js p l cs m' r m'' → Passes (is ++ js) q l cs m r m''
  passes-then is js p m' m'' None a b = λ E ks g f. let x = a.forth E (js ++ ks) g (rw (append_assoc is js ks) at f) in b E ks x.0 x.1
  passes-then is js p m' m'' (Some o) a b = record {
    placed = b.placed;
    forth = λ E ks g f. let x = a.forth E (js ++ ks) g (rw (append_assoc is js ks) at f) in b.forth E ks x.0 x.1;
    back = λ E ks g f. let y = b.back E ks g f in let x = a.back E (js ++ ks) y.0 y.1 in (x.0, rw (append_assoc is js ks) x.1);
    possible = λ w. b.possible (a.possible w);
  }

  -- Where some of the items have no way on, all have none.
  pub passes-stop : (is js : List Item) (m' m'' : Bindings) → Passes is q l cs m None m' → Passes (is ++ js) q l cs m None m''
  passes-stop is js m' m'' a = λ E ks g f. a E (js ++ ks) g (rw (append_assoc is js ks) at f)

take_more : {A : Type 0} (l : List A) (i : ℕ) (d : A) → i < length l → take (suc i) l ≡ take i l ++ (get_or l i d ∷ [])
take_more [] i d h = absurd (omega arith)
take_more (x ∷ l) zero d h = refl
take_more {A} (x ∷ l) (suc i) d h = ap (λ (t : List A). x ∷ t) (take_more l i d (omega arith))

take-more : {A : Type 0} (l : List A) (i : ℕ) (d : A) → i < length l → take (i + 1) l ≡ take i l ++ (get_or l i d ∷ [])
take-more l i d h = rw (add-one i) (take_more l i d h)

joined-more : (ls : List (List Item)) (x : List Item) → joined (ls ++ (x ∷ [])) ≡ joined ls ++ x
unfolding joined
joined-more [] x = append-nil x
joined-more (y ∷ ls) x = ap (λ (t : List Item). y ++ t) (joined-more ls x) ∙ sym (append_assoc y (joined ls) x)

joined-split : (ls : List (List Item)) (i : ℕ) → joined ls ≡ joined (take i ls) ++ joined (drop i ls)
unfolding joined
joined-split [] zero = refl
joined-split [] (suc i) = refl
joined-split (y ∷ ls) zero = refl
joined-split (y ∷ ls) (suc i) = ap (λ (t : List Item). y ++ t) (joined-split ls i) ∙ sym (append_assoc y (joined (take i ls)) (joined (drop i ls)))

take-rest : {A : Type 0} (l : List A) (i : ℕ) → l ≡ take i l ++ drop i l
take-rest [] zero = refl
take-rest [] (suc i) = refl
take-rest (x ∷ l) zero = refl
take-rest {A} (x ∷ l) (suc i) = ap (λ (t : List A). x ∷ t) (take-rest l i)

pub take-past : {A : Type 0} (l : List A) (n : ℕ) → length l ≤ n → take n l ≡ l
take-past [] zero h = refl
take-past [] (suc n) h = refl
take-past (x ∷ l) zero h = absurd (omega arith)
take-past {A} (x ∷ l) (suc n) h = ap (λ (t : List A). x ∷ t) (take-past l n (omega arith))

-- The loop over a line.
module _ (l : List ℕ) (cs : List Claim) (q : State) (m : Bindings) (line : List Item) (i : ℕ) (p : State) (m' : Bindings) (v : Passes (take i line) q l cs m (Some p) m') (d : Item) (h : i < length line) where
  line-more : (r : Option State) (m'' : Bindings) → Turns (get_or line i d) p l cs m' r m'' → Passes (take (i + 1) line) q l cs m r m''
  line-more r m'' t = rw (take-more line i d h) (passes-then l cs q m (take i line) (get_or line i d ∷ []) p m' m'' r v (passes-one l cs p m' (get_or line i d) r m'' t))

  pub line-on : (p' : State) (m'' : Bindings) → Turns (get_or line i d) p l cs m' (Some p') m'' → Passes (take (i + 1) line) q l cs m (Some p') m''
  line-on p' m'' t = line-more (Some p') m'' t

  pub line-stop : (m'' : Bindings) → Turns (get_or line i d) p l cs m' None m'' → Passes line q l cs m None m''
  line-stop m'' t = rw (take-rest line (i + 1)) (passes-stop l cs q m (take (i + 1) line) (drop (i + 1) line) m'' m'' (line-more None m'' t))

-- The loop over the lines of a row.
module _ (l : List ℕ) (cs : List Claim) (q : State) (m : Bindings) (row : List (List Item)) (i : ℕ) (p : State) (m' : Bindings) (v : Passes (joined (take i row)) q l cs m (Some p) m') (d : List Item) (h : i < length row) where
  row-more : (r : Option State) (m'' : Bindings) → Passes (get_or row i d) p l cs m' r m'' → Passes (joined (take (i + 1) row)) q l cs m r m''
  row-more r m'' t = rw (take-more row i d h, joined-more (take i row) (get_or row i d)) (passes-then l cs q m (joined (take i row)) (get_or row i d) p m' m'' r v t)

  pub row-on : (p' : State) (m'' : Bindings) → Passes (get_or row i d) p l cs m' (Some p') m'' → Passes (joined (take (i + 1) row)) q l cs m (Some p') m''
  row-on p' m'' t = row-more (Some p') m'' t

  pub row-stop : (m'' : Bindings) → Passes (get_or row i d) p l cs m' None m'' → Passes (joined row) q l cs m None m''
  row-stop m'' t = rw (joined-split row (i + 1)) (passes-stop l cs q m (joined (take (i + 1) row)) (joined (drop (i + 1) row)) m'' m'' (row-more None m'' t))

-- Before the first line.
pub row-first : (l : List ℕ) (cs : List Claim) (q : State) (m : Bindings) → Placed l cs q → Passes (joined []) q l cs m (Some q) m
unfolding joined
row-first l cs q m v = passes-none l cs q m v

-- A whole row from the start ----------------------------------------------------------------------------

abbrev pub begin : State
begin = record { at = 0; end = 0; left = 0; j = 0 }

module _ (l : List ℕ) (cs : List Claim) where
  pub begin-placed : Placed l cs begin
  begin-placed = record { ordered = omega arith; within = omega arith; among = omega arith }

  module _ (is : List Item) (m : Bindings) (free : Free m) where
    whole : (E : Env) → Fits E is 0 [] (spoken l cs) → FitsAt E (is ++ []) begin l cs
    whole E f = rw (append-nil is) (fits-as refl (sym (part_none l 0)) refl f)

    whole-of : (E : Env) → FitsAt E (is ++ []) begin l cs → Fits E is 0 [] (spoken l cs)
    whole-of E f = fits-as refl (part_none l 0) refl (rw (append-nil is) at f)

    pub row-none : (m' : Bindings) → Passes is begin l cs m None m' → Matched is (spoken l cs) → ⊥
    row-none m' v g = v g.0 [] (free l (held_in g.0)) (whole g.0 g.1)

    module _ (m' : Bindings) (q : State) (v : Passes is begin l cs m (Some q) m') where
      last : (g : Matched is (spoken l cs)) → (part l q.at q.end ≡ []) × (spoken l (drop q.j cs) ≡ [])
      last g = go ((v.forth g.0 [] (free l (held_in g.0)) (whole g.0 g.1)).1)
        where
          go : FitsAt g.0 [] q l cs → (part l q.at q.end ≡ []) × (spoken l (drop q.j cs) ≡ [])
          go (over e c) = (e, c)

      pub row-unread : (q.at ≡ q.end → ⊥) → Matched is (spoken l cs) → ⊥
      row-unread d g = d (ended l cs q v.placed (last g).0)

      pub row-read : q.at ≡ q.end → Decides (eqb q.j (length cs)) (Matched is (spoken l cs))
      row-read d = go (eqb q.j (length cs)) refl
        where
          go : (r : Bool) → eqb q.j (length cs) ≡ r → Decides r (Matched is (spoken l cs))
          go true e =
              let w = v.possible (blank, free l (held_in blank)) in
              (w.0, whole-of w.0 (v.back w.0 [] w.1 (over (ap (λ (a : ℕ). part l a q.end) d ∙ part_none l q.end) (spoken-over l cs q.j (omega (arith, eqb-true q.j (length cs) e))))).1)
          go false e = λ g.
              let n : q.j ≡ length cs → ⊥ = λ x. let z : ◌≡◌ {A = ℕ} 0 1 = cc (eq-eqb q.j (length cs) x) in omega arith in
              let c = get_or cs q.j (record { predicate = 0; from = 0; to = 0 }) in
              none-some (sym (last g).1 ∙ spoken-next l cs q.j (record { predicate = 0; from = 0; to = 0 }) (omega (arith, v.placed.among)))
