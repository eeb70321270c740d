-- The reader accepts exactly the texts of the grammar whose formulas keep the limits, and gives the one formula of the text.
use Prim.Native.Nat.{ℕ, zero, suc, ◌-◌, ◌≤◌}
use native.Mathlib.Omega.{arith}
use mathlib.Core.Path.{◌≡◌, refl, sym, ap, ◌∙◌, subst}
use mathlib.Core.List.{List, [], ◌∷◌, ◌++◌, cons≢nil}
use Rattle.formula.specs.declared.Sort.{Sort}
use Rattle.formula.specs.declared.Sort.TheVariants.{Faces}
use Rattle.formula.specs.Formula.{Face}
use Rattle.formula.specs.Bytes.{Tree, nodes, bound, max_nodes, max_bound}
use Rattle.text.specs.Tokens.{Token, word, tokens}
use Rattle.text.specs.Grammar.{Formula, Claim, entails}
use Rattle.refusals.specs.Refusals.{map}
use Rattle.refusals.specs.declared.Refusal.{Refusal}
use Rattle.std.specs.Prelude.{Result, Ok, Err}
use Rattle.text.specs.Reading.{Item, formula, number, claim, Values, run, read_formula, Claimed, read_claim}
use Rattle.grammar.proofs.Advancing.{Follows, Left, Fits, Cost, free, node, succ, anew, spend, for-free, for-node, for-succ, for-anew, Paid, spend-paid, Back, Advances, goes, stuck, advances, nothing-follows}

-- What is done was done below a function.
done-one : {A : Type 0} {x y : A} → ◌≡◌ {A = Result A Refusal} (Ok x) (Ok y) → x ≡ y
done-one e = cc

not_done : {A B : Type 0} {e : _} {x : A} → ◌≡◌ {A = Result A Refusal} (Err e) (Ok x) → B
not_done p = absurd (let z : ◌≡◌ {A = ℕ} 0 1 = cc in omega arith)

pub map-done : {A B : Type 0} (f : A → B) (o : Result A Refusal) {y : B} → map f o ≡ Ok y → Back f (λ x. o ≡ Ok x) y
map-done f (Err e) p = not_done p
map-done f (Ok x) p = record { value = x; holds = refl; gives = done-one p }

-- What is done was paid for.
pub spend-done : {A : Type 0} (c : Cost) (n : ℕ) (k : ℕ → Result A Refusal) {x : A} → spend c n k ≡ Ok x → Paid c n (λ m. k m ≡ Ok x)
spend-done free n k e = record { left = n; spends = for-free; then = e }
spend-done node zero k e = not_done e
spend-done node (suc n) k e = record { left = n; spends = for-node; then = e }
spend-done (succ zero) n k e = not_done e
spend-done (succ (suc j)) n k e = record { left = n; spends = for-succ; then = e }
spend-done (anew c) n k e = let p = spend-done c max_nodes k e in record { left = p.left; spends = for-anew p.spends; then = p.then }

-- By the grammar, and within the limits.
pub record Reads (n : ℕ) (K : List Item) (v : Values K) (ts : List Token) : Type 0 where
  pub follows : Follows K v ts
  pub fits : Fits n K v

abbrev Sound : List Token → Type 0
Sound ts = (n : ℕ) (K : List Item) (v : Values K) → run ts n K ≡ Ok v → Reads n K v ts

sound-token : {ts : List Token} → Sound ts → (i : Item) (x : Token) (n : ℕ) (K : List Item) (v : Values (i ∷ K)) → Advances i x → run (x ∷ ts) n (i ∷ K) ≡ Ok v → Reads n (i ∷ K) v (x ∷ ts)
unfolding run
sound-token {ts} h i x n K v (goes a) e =
    let p = spend-done a.cost n (λ m. map (a.with K) (run ts m (a.adds ++ K))) (sym (a.reads K n ts) ∙ e) in
    let d = map-done (a.with K) (run ts p.left (a.adds ++ K)) p.then in
    let r = h p.left (a.adds ++ K) d.value d.holds in
    subst (λ v. Reads n (i ∷ K) v (x ∷ ts)) d.gives (record { follows = a.there K ts d.value r.follows; fits = a.fits K n p.left d.value p.spends r.fits })
sound-token {ts} h i x n K v (stuck a) e = not_done (sym (a.refuses K n ts) ∙ e)

pub sound : (ts : List Token) → Sound ts
unfolding run
sound [] n [] v e = record { follows = refl; fits = tt }
sound [] n (i ∷ K) v e = not_done e
sound (x ∷ ts) n [] v e = not_done e
sound (x ∷ ts) n (i ∷ K) v e = sound-token (sound ts) i x n K v (advances i x) e

abbrev Complete : List Token → Type 0
Complete ts = (n : ℕ) (K : List Item) (v : Values K) → Follows K v ts → Fits n K v → run ts n K ≡ Ok v

complete-token : {ts : List Token} → Complete ts → (i : Item) (x : Token) (n : ℕ) (K : List Item) (v : Values (i ∷ K)) → Advances i x → Follows (i ∷ K) v (x ∷ ts) → Fits n (i ∷ K) v → run (x ∷ ts) n (i ∷ K) ≡ Ok v
unfolding run
complete-token {ts} h i x n K v (goes a) f g =
    let b = a.back K ts v f in
    let p = a.pays K n b.value (subst (Fits n (i ∷ K)) (sym b.gives) g) in
    a.reads K n ts ∙ spend-paid (λ m. map (a.with K) (run ts m (a.adds ++ K))) p.spends ∙ ap (map (a.with K)) (h p.left (a.adds ++ K) b.value b.holds p.then) ∙ ap Ok b.gives
complete-token {ts} h i x n K v (stuck a) f g = absurd (a.nothing K ts v f)

pub complete : (ts : List Token) → Complete ts
unfolding run
complete [] n [] v f g = refl
complete [] n (i ∷ K) v f g = absurd (nothing-follows i K v f)
complete (x ∷ ts) n [] v f g = absurd (cons≢nil f)
complete (x ∷ ts) n (i ∷ K) v f g = complete-token (complete ts) i x n K v (advances i x) f g

-- The grammar gives one thing at most.
unique-token : {ts : List Token} → ((K : List Item) (v u : Values K) → Follows K v ts → Follows K u ts → v ≡ u) → (i : Item) (x : Token) (K : List Item) (v u : Values (i ∷ K)) → Advances i x → Follows (i ∷ K) v (x ∷ ts) → Follows (i ∷ K) u (x ∷ ts) → v ≡ u
unique-token {ts} h i x K v u (goes a) f g = let b = a.back K ts v f in let c = a.back K ts u g in sym b.gives ∙ ap (a.with K) (h (a.adds ++ K) b.value c.value b.holds c.holds) ∙ c.gives
unique-token {ts} h i x K v u (stuck a) f g = absurd (a.nothing K ts v f)

pub unique : (ts : List Token) (K : List Item) (v u : Values K) → Follows K v ts → Follows K u ts → v ≡ u
unique [] [] v u f g = refl
unique [] (i ∷ K) v u f g = absurd (nothing-follows i K v f)
unique (x ∷ ts) [] v u f g = refl
unique (x ∷ ts) (i ∷ K) v u f g = unique-token (unique ts) i x K v u (advances i x) f g

-- The theorems ---------------------------------------------------------------------------------------------

-- The limits of document 01.
abbrev pub Within : (s : Sort) → Tree s → Type 0
Within s t = (nodes s t ≤ max_nodes) × (bound s t ≤ max_bound)

whole : {s : Sort} {t : Tree s} {ts : List Token} → Formula s t ts [] → Follows (formula s ∷ []) (t, tt) ts
whole h = record { behind = []; first = h; second = refl }

left-of : (s : Sort) (t : Tree s) {P : Type 0} → Within s t → P → Left max_nodes s t (λ m. P)
left-of s t h x = record { rest = max_nodes - nodes s t; spent = omega (arith, h.0); low = h.1; then = x }

-- A text reads as a formula exactly when it is a text of that formula, and the formula keeps the limits.
pub formula-read : (s : Sort) (l : List ℕ) (t : Tree s) → read_formula s l ≡ Ok t → Formula s t (tokens l) [] × Within s t
unfolding read_formula
formula-read s l t e =
    let d = map-done (λ v. v.0) (run (tokens l) 0 (formula s ∷ [])) e in
    let r = sound (tokens l) 0 (formula s ∷ []) d.value d.holds in
    let f : Formula s d.value.0 (tokens l) [] = subst (Formula s d.value.0 (tokens l)) r.follows.second r.follows.first in
    subst (λ t. Formula s t (tokens l) [] × Within s t) d.gives (f, (omega (arith, r.fits.spent), r.fits.low))

pub reads-formula : (s : Sort) (l : List ℕ) (t : Tree s) → Formula s t (tokens l) [] → Within s t → read_formula s l ≡ Ok t
unfolding read_formula
reads-formula s l t f h = ap (map (λ v. v.0)) (complete (tokens l) 0 (formula s ∷ []) (t, tt) (whole f) (left-of s t h tt))

-- A text is a text of one formula at most, of whatever size.
pub formula-unique : (s : Sort) (ts : List Token) (t u : Tree s) → Formula s t ts [] → Formula s u ts [] → t ≡ u
formula-unique s ts t u f g = ap (λ (v : Tree s × Unit {0}). v.0) (unique ts (formula s ∷ []) (t, tt) (u, tt) (whole f) (whole g))

-- What a claim's text expects.
abbrev pub claimed : List Item
claimed = claim ∷ number max_bound ∷ formula Faces ∷ formula Faces ∷ []

pub claim-follows : {d : ℕ} {a b : Face} {ts : List Token} → Claim d a b ts [] → Follows claimed (d, (a, (b, tt))) ts
claim-follows (entails {ts = ts} {us} {vs} p m f g) = record { behind = ts; first = ap (λ x. word x ∷ ts) p; second = record { behind = us; first = m; second = record { behind = vs; first = f; second = record { behind = []; first = g; second = refl } } } }

pub follows-claim : (v : Values claimed) {ts : List Token} → Follows claimed v ts → Claim v.0 v.1.0 v.1.1.0 ts []
follows-claim v f =
    let g = f.second in
    let h = g.second in
    let i = h.second in
    subst (λ ts. Claim v.0 v.1.0 v.1.1.0 ts []) (sym f.first) (entails refl g.first h.first (subst (Formula Faces v.1.1.0 h.behind) i.second i.first))

-- The limits of a claim.
abbrev pub ClaimWithin : Claimed → Type 0
ClaimWithin c = (c.dimensions ≤ max_bound) × Within Faces c.left × Within Faces c.right

-- A text reads as a claim exactly when it is a text of that claim, and the claim keeps the limits.
pub claim-read : (l : List ℕ) (c : Claimed) → read_claim l ≡ Ok c → Claim c.dimensions c.left c.right (tokens l) [] × ClaimWithin c
unfolding read_claim
claim-read l c e =
    let d = map-done (λ v. record { dimensions = v.0; left = v.1.0; right = v.1.1.0 }) (run (tokens l) 0 claimed) e in
    let r = sound (tokens l) 0 claimed d.value d.holds in
    let p = r.fits.1 in
    let q = p.then in
    subst (λ c. Claim c.dimensions c.left c.right (tokens l) [] × ClaimWithin c) d.gives (follows-claim d.value r.follows, (r.fits.0, (omega (arith, p.spent), p.low), (omega (arith, q.spent), q.low)))

pub reads-claim : (l : List ℕ) (c : Claimed) → Claim c.dimensions c.left c.right (tokens l) [] → ClaimWithin c → read_claim l ≡ Ok c
unfolding read_claim
reads-claim l c f h =
    ap (map (λ v. record { dimensions = v.0; left = v.1.0; right = v.1.1.0 }))
    (complete (tokens l) 0 claimed (c.dimensions, (c.left, (c.right, tt))) (claim-follows f) (h.0, left-of Faces c.left h.1 (left-of Faces c.right h.2 tt)))

-- A text is a text of one claim at most.
pub claim-unique : (ts : List Token) (d e : ℕ) (a b x y : Face) → Claim d a b ts [] → Claim e x y ts [] → (d ≡ e) × (a ≡ x) × (b ≡ y)
claim-unique ts d e a b x y f g = let p = unique ts claimed (d, (a, (b, tt))) (e, (x, (y, tt))) (claim-follows f) (claim-follows g) in (ap (λ (v : Values claimed). v.0) p, ap (λ (v : Values claimed). v.1.0) p, ap (λ (v : Values claimed). v.1.1.0) p)
