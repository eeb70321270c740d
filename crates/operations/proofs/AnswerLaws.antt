-- The answers of the operations: from operands and results within the limits to sizes, outcomes and written bytes.
use Rattle.std.specs.Prelude.{Result, Err, Ok}
use Prim.Native.Nat.{ℕ, ◌≤◌, ◌<◌, min}
use native.Mathlib.Omega.{arith}
use native.Mathlib.Nat.{zero-add}
use mathlib.Core.Path.{◌≡◌, refl, sym, ap, ap₂, ◌∙◌, subst, subst₂}
use mathlib.Core.Bool.{Bool, true, false}
use mathlib.Core.List.{List, [], ◌∷◌, ◌++◌}
use lib.Dec.{leb, eqb}
use lib.ListN.{length, take, drop, replicate, length-replicate}
use lib.Seq.{length-sets, sets-eq, take_at}
use borrow.Author.Tests.{le-leb, lt-leb}
use Rattle.formula.specs.Formula.{End, lo, hi, end_of, Face, ff, Interval, i0}
use Rattle.formula.specs.Operations.{boundary, forall, Op, shift, subst as substitute, transform}
use Rattle.refusals.specs.declared.Refusal.{Refusal}
use Rattle.refusals.specs.declared.Refusal.TheVariants.{LargeResult, ShortOutput}
use Rattle.refusals.specs.Refusals.{map, of_one, of_two}
use Rattle.formula.specs.Bytes.{Tree, encode, encode_face, encode_interval, nodes_face, nodes_interval, bound_face, bound_interval}
use Rattle.formula.specs.Answers.{pick, size_of, keeps, kept, operand}
use Rattle.operations.specs.Results.{limited, foralled, boundaried, transformed, Answered, AnsweredBoth}
use Rattle.passes.specs.Rewriting.{Token, tokens, tokens_interval, tokens_of, weighs, weight_of, zero_size, plain_size, Small, spell, image_of, Wrote, Rewritable, sides, Sided, plain, literal}
use Rattle.operations.specs.Fitting.{resized_by, hit_size, beside_refused, kept_bytes, Fitting}
use Rattle.formula.specs.declared.Sort.{Sort}
use Rattle.formula.specs.declared.Sort.TheVariants.{Faces, Intervals}
use Rattle.formula.specs.declared.Size.{Size}
use Rattle.operations.specs.declared.Op.TheVariants.{DShift, DSubst}
use Rattle.passes.specs.declared.Rule.{Rule}
use Rattle.passes.specs.declared.Rule.TheVariants.{Up, Down, Ends}
use Rattle.formula.proofs.Nodes.{len_short}
use Rattle.formula.proofs.Operands.{keeps-limits, limits-keep, FittedBy, with-fits, with-refused, Fitted, sized-fits, sized-refused, Opened, opened}
use Rattle.passes.proofs.PassLaws.{wrote_as}
use Rattle.passes.proofs.TokenLaws.{opened-whole}
use Rattle.passes.proofs.SideLaws.{sides-whole}
use Rattle.operations.proofs.ResultLaws.{Pass, pass-size, pass-bytes, forall-pass, transform-pass, rule_of, replacement, hits_of, side_of, boundary-weighs, boundary-sizes, boundary-smaller, bound-fields}

module _ (s : Sort) where
  sized-limited : (t : Tree s) (z : Size) → size_of s t ≡ z → map (size_of s) (limited s t) ≡ kept z z
  sized-limited t z e = rw (← e) (go (keeps (size_of s t)))
    where
      go : (b : Bool) → map (size_of s) (pick b (Ok t) (Err LargeResult)) ≡ pick b (Ok (size_of s t)) (Err LargeResult)
      go true = refl
      go false = refl

  -- a formula that was kept keeps the limits
  limited-kept : (t u : Tree s) → limited s t ≡ Ok u → (t ≡ u) × (keeps (size_of s t) ≡ true)
  limited-kept t u e = go (keeps (size_of s t)) refl e
    where
      go : (b : Bool) → keeps (size_of s t) ≡ b → pick b (Ok t) (Err LargeResult) ≡ Ok u → (t ≡ u) × (keeps (size_of s t) ≡ true)
      go true i e = (cc, i)
      go false i e = (cc, cc)

  -- the size of a result by the weight of its operand's tokens
  pub resized-kept : (rule : Rule) (hit : Size) (l : List ℕ) (t : Tree s) → operand s l ≡ Ok t → (z : Size) → z ≡ weighs (weight_of s rule hit) (tokens_of s l)
      → resized_by s rule hit (operand s l) ≡ kept z z
  resized-kept rule hit l t e z i =
      let k : z ≡ weighs (weight_of s rule hit) (tokens s t) = i ∙ ap (λ (u : Tree s). weighs (weight_of s rule hit) (tokens s u)) (opened s l t e).tree in
      rw (e, k)

-- the same as the size of a result of one operand
module _ (s s' : Sort) (m : Tree s → Tree s') (rule : Rule) (hit : Size) (w : (t : Tree s) → size_of s' (m t) ≡ weighs (weight_of s rule hit) (tokens s t)) where
  pub resized-one : (x : Result (Tree s) Refusal) → map (size_of s') (of_one (λ t. limited s' (m t)) x) ≡ resized_by s rule hit x
  resized-one (Err e) = refl
  resized-one (Ok t) = sized-limited s' (m t) (weighs (weight_of s rule hit) (tokens s t)) (w t)

-- where a result of one operand was kept, so was the operand
module _ (s s' : Sort) (m : Tree s → Tree s') where
  pub record Came (x : Result (Tree s) Refusal) (u : Tree s') : Type 0 where
    pub from : Tree s
    pub is : x ≡ Ok from
    pub result : m from ≡ u
    pub limits : keeps (size_of s' (m from)) ≡ true

  pub came : (x : Result (Tree s) Refusal) (u : Tree s') → of_one (λ t. limited s' (m t)) x ≡ Ok u → Came x u
  came (Err q) u e = absurd (let a : ◌≡◌ {A = ℕ} 0 1 = cc in omega arith)
  came (Ok t) u e = let h = limited-kept s' (m t) u e in record { from = t; is = refl; result = h.0; limits = h.1 }

ff-size : size_of Faces ff ≡ plain_size
unfolding encode_face nodes_face bound_face
ff-size = refl

-- what stands for a replaced literal is of one size on both sides
abbrev pub hit_of : (s : Sort) → Interval → Size
hit_of Faces r = size_of Faces (boundary lo r)
hit_of Intervals r = size_of Intervals r

hit-sizes : (s : Sort) (r : Interval) (b : ℕ) → size_of s (hits_of s r b) ≡ hit_of s r
hit-sizes Faces r b = boundary-sizes (side_of b) lo r
hit-sizes Intervals r b = refl

i0-hit : (s : Sort) → hit_of s i0 ≡ plain_size
unfolding boundary encode_face nodes_face bound_face encode_interval nodes_interval bound_interval
i0-hit Faces = refl
i0-hit Intervals = refl

pub forall-resized : (k : ℕ) (l : List ℕ) → map (size_of Faces) (foralled k l) ≡ resized_by Faces (Down k) plain_size (operand Faces l)
unfolding foralled
forall-resized k l =
    resized-one Faces Faces (forall k) (Down k) plain_size (pass-size Faces (forall k) (Down k) (λ b. ff) (forall-pass k) plain_size (λ b. ff-size)) (operand Faces l)

pub boundary-resized : (l : List ℕ) → map (size_of Faces) (boundaried lo l) ≡ resized_by Intervals Ends zero_size (operand Intervals l)
unfolding boundaried
boundary-resized l = resized-one Intervals Faces (boundary lo) Ends zero_size (boundary-weighs lo) (operand Intervals l)

transform-size : (s : Sort) (o : Op) (t : Tree s) → size_of s (transform s o t) ≡ weighs (weight_of s (rule_of o) (hit_of s (replacement o))) (tokens s t)
transform-size s o = pass-size s (transform s o) (rule_of o) (hits_of s (replacement o)) (transform-pass s o) (hit_of s (replacement o)) (hit-sizes s (replacement o))

pub shift-resized : (s : Sort) (k : ℕ) (l r : List ℕ) → map (size_of s) (transformed s (DShift k) l r) ≡ resized_by s (Up k) plain_size (operand s l)
unfolding transformed
shift-resized s k l r =
    resized-one s s (transform s (shift k)) (Up k) plain_size
    (λ t. transform-size s (shift k) t ∙ ap (λ (z : Size). weighs (weight_of s (Up k) z) (tokens s t)) (i0-hit s))
    (operand s l)

boundary-limited : (r : Interval) → keeps (size_of Intervals r) ≡ true → limited Faces (boundary lo r) ≡ Ok (boundary lo r)
boundary-limited r e =
    let k = keeps-limits (size_of Intervals r) e in
    let h = boundary-smaller lo r in
    rw (limits-keep (size_of Faces (boundary lo r)) (omega (arith, h.nodes)) (omega (arith, h.bound)))

-- an operand that is kept keeps the limits
pub operand-keeps : (s : Sort) (l : List ℕ) (t : Tree s) → operand s l ≡ Ok t → keeps (size_of s t) ≡ true
operand-keeps s l t e = (opened s l t e).limits

-- a replacement that is kept is kept on both sides of its boundary
hit-with : (s : Sort) (l : List ℕ) → hit_size s (operand Intervals l) ≡ map (hit_of s) (operand Intervals l)
hit-with Faces l = go (operand Intervals l) refl
  where
    go : (x : Result Interval Refusal) → operand Intervals l ≡ x → hit_size Faces x ≡ map (hit_of Faces) x
    go (Err e) i = refl
    go (Ok r) i = ap (map (size_of Faces)) (boundary-limited r (operand-keeps Intervals l r i))
hit-with Intervals l = refl

-- a replacement that was kept
abbrev pub Replacing : Sort → Result Interval Refusal → Size → Type 0
Replacing s x z = FittedBy (hit_of s) x z

pub hit-fits : (s : Sort) (l : List ℕ) {z : Size} → Ok z ≡ hit_size s (operand Intervals l) → Replacing s (operand Intervals l) z
hit-fits s l e = with-fits (hit_of s) (operand Intervals l) (e ∙ hit-with s l)

pub hit-refused : (s : Sort) (l : List ℕ) {q : Refusal} → Err q ≡ hit_size s (operand Intervals l) → operand Intervals l ≡ Err q
hit-refused s l e = with-refused (hit_of s) (operand Intervals l) (e ∙ hit-with s l)

pub hit-small : (s : Sort) (l : List ℕ) (z : Size) → Replacing s (operand Intervals l) z → Small z
hit-small s l z h = subst Small h.size (go s)
  where
    k : ((size_of Intervals h.tree).nodes ≤ 511) × ((size_of Intervals h.tree).bound ≤ 255)
    k = keeps-limits (size_of Intervals h.tree) (operand-keeps Intervals l h.tree h.is)

    go : (s : Sort) → Small (hit_of s h.tree)
    go Faces = let b = boundary-smaller lo h.tree in record { len = omega (arith, len_short Faces (boundary lo h.tree), b.nodes, k.0); nodes = omega (arith, b.nodes, k.0) }
    go Intervals = record { len = omega (arith, len_short Intervals h.tree, k.0); nodes = k.0 }

-- a result of two operands, the second known
two-kept : {A B C : Type 0} (f : A → B → Result C Refusal) (x : Result A Refusal) (b : B) → of_two f x (Ok b) ≡ of_one (λ a. f a b) x
two-kept f (Err e) b = refl
two-kept f (Ok a) b = refl

module _ (s : Sort) (k : ℕ) (l r : List ℕ) where
  subst-one : (q : Interval) → operand Intervals r ≡ Ok q → transformed s (DSubst k) l r ≡ of_one (λ t. limited s (transform s (substitute k q) t)) (operand s l)
  unfolding transformed
  subst-one q e = rw e (two-kept (λ t q. limited s (transform s (substitute k q) t)) (operand s l) q)

  pub subst-resized : (z : Size) → Replacing s (operand Intervals r) z → map (size_of s) (transformed s (DSubst k) l r) ≡ resized_by s (Down k) z (operand s l)
  subst-resized z h =
      ap (map (size_of s)) (subst-one h.tree h.is)
      ∙ resized-one s s (transform s (substitute k h.tree)) (Down k) z
      (λ t. transform-size s (substitute k h.tree) t ∙ ap (λ (x : Size). weighs (weight_of s (Down k) x) (tokens s t)) h.size)
      (operand s l)

  pub subst-refused : {q : Refusal} → operand Intervals r ≡ Err q → map (size_of s) (transformed s (DSubst k) l r) ≡ beside_refused q (map (size_of s) (operand s l))
  unfolding transformed
  subst-refused {q} e = rw e (go (operand s l))
    where
      go : (x : Result (Tree s) Refusal) → map (size_of s) (of_two (λ t q. limited s (transform s (substitute k q) t)) x (Err q)) ≡ beside_refused q (map (size_of s) x)
      go (Err e) = refl
      go (Ok t) = refl

-- a run of stores from the front
front-stored : (d b : List ℕ) (r : ℕ) (d' : List ℕ) → length b ≤ length d → Wrote d 0 b r d' → d' ≡ b ++ drop (length b) d
front-stored d b r d' h w = w.stored ∙ sets-eq b d 0 (omega arith) ∙ ap (λ (n : ℕ). b ++ drop n d) (zero-add (length b))

-- an answer with what it leaves
module _ (s : Sort) (x : Result (Tree s) Refusal) (d : List ℕ) where
  pub answered-refused : {q : Refusal} → Err q ≡ map (size_of s) x → Answered s x d (Err q) d
  answered-refused e = let h = sized-refused s x e in record { says = rw h; leaves = rw h }

  pub answered-short : (z : Size) → Fitted s x z → length d < z.len → Answered s x d (Err ShortOutput) d
  answered-short z f h =
      let k : leb (length (encode s f.tree)) (length d) ≡ false = lt-leb (length (encode s f.tree)) (length d) (omega (arith, ap (λ (y : Size). y.len) f.size)) in
      record { says = rw (f.is, k); leaves = rw (f.is, k) }

  pub answered-done : (z : Size) (f : Fitted s x z) → z.len ≤ length d → (r : ℕ) (d' : List ℕ) → Wrote d 0 (encode s f.tree) r d' → Answered s x d (Ok z) d'
  answered-done z f h r d' w =
      let g : length (encode s f.tree) ≤ length d = omega (arith, ap (λ (y : Size). y.len) f.size) in
      let k : leb (length (encode s f.tree)) (length d) ≡ true = le-leb (length (encode s f.tree)) (length d) g in
      record { says = rw (f.is, k) (ap Ok (sym f.size)); leaves = rw (f.is, k) (front-stored d (encode s f.tree) r d' g w) }

-- what a pass needs, and the bytes that it gives
module _ (s : Sort) (m : Tree s → Tree s) (rule : Rule) (hits : ℕ → Tree s) (p : Pass s m rule hits) (hit : Size) (sizes : (b : ℕ) → size_of s (hits b) ≡ hit)
    (u v : List ℕ) (bytes : (b : ℕ) → encode s (hits b) ≡ pick (eqb b 3) v u) (l : List ℕ) (t : Tree s) (o : Opened s l t) where
  pub passed-bytes : encode s (m t) ≡ spell (image_of rule u v) (tokens_of s l)
  passed-bytes = pass-bytes s m rule hits p u v bytes t ∙ ap (λ (x : Tree s). spell (image_of rule u v) (tokens s x)) (sym o.tree)

  pub rewritable : keeps (size_of s (m t)) ≡ true → (n : ℕ) → length (encode s (m t)) ≤ n → Rewritable s rule l u v n
  rewritable e n h =
      let k = keeps-limits (size_of s (m t)) e in
      let w : size_of s (m t) ≡ weighs (weight_of s rule hit) (tokens_of s l) =
      pass-size s m rule hits p hit sizes t ∙ ap (λ (x : Tree s). weighs (weight_of s rule hit) (tokens s x)) (sym o.tree) in
      record {
        whole = opened-whole s l t o;
        fields = bound-fields s rule hit (tokens_of s l) (subst (λ (z : Size). z.bound ≤ 255) w k.1);
        room = subst (λ (b : List ℕ). length b ≤ n) passed-bytes h;
      }

-- ∀k: each replaced literal is ff
ff-bytes : (b : ℕ) → encode Faces ff ≡ pick (eqb b 3) (0 ∷ []) (0 ∷ [])
unfolding encode_face
ff-bytes b = go (eqb b 3)
  where
    go : (t : Bool) → ◌≡◌ {A = List ℕ} (0 ∷ []) (pick t (0 ∷ []) (0 ∷ []))
    go true = refl
    go false = refl

module _ (k : ℕ) (l : List ℕ) {z : Size} (e : Ok z ≡ map (size_of Faces) (foralled k l)) where
  pub forall-fitted : Fitted Faces (foralled k l) z
  forall-fitted = sized-fits Faces (foralled k l) e

  forall-came : Came Faces Faces (forall k) (operand Faces l) forall-fitted.tree
  unfolding foralled
  forall-came = came Faces Faces (forall k) (operand Faces l) forall-fitted.tree forall-fitted.is

  abbrev from : Opened Faces l forall-came.from
  from = opened Faces l forall-came.from forall-came.is

  pub forall-rewritable : (n : ℕ) → z.len ≤ n → Rewritable Faces (Down k) l (0 ∷ []) (0 ∷ []) n
  forall-rewritable n h =
      rewritable Faces (forall k) (Down k) (λ b. ff) (forall-pass k) plain_size (λ b. ff-size) (0 ∷ []) (0 ∷ []) ff-bytes l forall-came.from from forall-came.limits n
      (omega (arith, ap (λ (y : Size). y.len) forall-fitted.size, ap (λ (f : Face). length (encode_face f)) forall-came.result))

  pub forall-spells : spell (image_of (Down k) (0 ∷ []) (0 ∷ [])) (tokens_of Faces l) ≡ encode_face forall-fitted.tree
  forall-spells =
      sym (passed-bytes Faces (forall k) (Down k) (λ b. ff) (forall-pass k) plain_size (λ b. ff-size) (0 ∷ []) (0 ∷ []) ff-bytes l forall-came.from from)
      ∙ ap encode_face forall-came.result

-- the sides of an expression that was kept
module _ (l : List ℕ) (r : Interval) (e : operand Intervals l ≡ Ok r) where
  pub kept-side : (d : End) → sides (tokens_of Intervals l) (d ∷ []) ≡ encode_face (boundary d r)
  kept-side d = ap (λ (q : Interval). sides (tokens_interval q) (d ∷ [])) (opened Intervals l r e).tree ∙ sides-whole r d

  pub kept-sided : (n : ℕ) → n ≤ 1 → (room : ℕ) → length (encode_face (boundary (end_of n) r)) ≤ room → Sided l n room
  kept-sided n h room g =
      record {
        whole = opened-whole Intervals l r (opened Intervals l r e);
        end = h;
        room = omega (arith, ap length (kept-side (end_of n)));
      }

  pub kept-short : (d : End) → length (encode_face (boundary d r)) ≤ 1022
  kept-short d =
      let k = keeps-limits (size_of Intervals r) (operand-keeps Intervals l r e) in
      let h = boundary-smaller d r in
      omega (arith, len_short Faces (boundary d r), h.nodes, k.0)

-- a boundary whose sizes are known
module _ (l : List ℕ) {z : Size} (e : Ok z ≡ map (size_of Faces) (boundaried lo l)) where
  pub zero-fitted : Fitted Faces (boundaried lo l) z
  zero-fitted = sized-fits Faces (boundaried lo l) e

  boundary-came : Came Intervals Faces (boundary lo) (operand Intervals l) zero-fitted.tree
  unfolding boundaried
  boundary-came = came Intervals Faces (boundary lo) (operand Intervals l) zero-fitted.tree zero-fitted.is

  abbrev whence : Interval
  whence = boundary-came.from

  pub one-fitted : Fitted Faces (boundaried hi l) z
  unfolding boundaried
  one-fitted =
      let k : keeps (size_of Faces (boundary hi whence)) ≡ true = ap keeps (boundary-sizes hi lo whence) ∙ boundary-came.limits in
      record {
        tree = boundary hi whence;
        is = rw (boundary-came.is, k);
        size = boundary-sizes hi lo whence ∙ ap (size_of Faces) boundary-came.result ∙ zero-fitted.size;
      }

  pub zero-side : sides (tokens_of Intervals l) (lo ∷ []) ≡ encode_face zero-fitted.tree
  zero-side = kept-side l whence boundary-came.is lo ∙ ap encode_face boundary-came.result

  pub one_side : sides (tokens_of Intervals l) (hi ∷ []) ≡ encode_face one-fitted.tree
  unfolding one-fitted
  one_side = kept-side l whence boundary-came.is hi

  pub boundary-sided : (n : ℕ) → n ≤ 1 → (room : ℕ) → z.len ≤ room → Sided l n room
  boundary-sided n h room g =
      let k : size_of Faces (boundary (end_of n) whence) ≡ z = boundary-sizes (end_of n) lo whence ∙ ap (size_of Faces) boundary-came.result ∙ zero-fitted.size in
      kept-sided l whence boundary-came.is n h room (omega (arith, ap (λ (y : Size). y.len) k))

boundary-alike : (l : List ℕ) → map (size_of Faces) (boundaried lo l) ≡ map (size_of Faces) (boundaried hi l)
unfolding boundaried
boundary-alike l = go (operand Intervals l)
  where
    go : (x : Result Interval Refusal) → map (size_of Faces) (of_one (λ r. limited Faces (boundary lo r)) x) ≡ map (size_of Faces) (of_one (λ r. limited Faces (boundary hi r)) x)
    go (Err e) = refl
    go (Ok r) = sized-limited Faces (boundary lo r) (size_of Faces (boundary hi r)) (boundary-sizes lo hi r) ∙ sym (sized-limited Faces (boundary hi r) (size_of Faces (boundary hi r)) refl)

module _ (l d e : List ℕ) where
  pub both-refused : {q : Refusal} → Err q ≡ map (size_of Faces) (boundaried lo l) → AnsweredBoth (boundaried lo l) (boundaried hi l) d e (Err q) d e
  both-refused j =
      let a = sized-refused Faces (boundaried lo l) j in
      let b = sized-refused Faces (boundaried hi l) (j ∙ boundary-alike l) in
      record { says = rw a; leaves0 = rw a; leaves1 = rw b }

  module _ {z : Size} (j : Ok z ≡ map (size_of Faces) (boundaried lo l)) where
    abbrev f : Fitted Faces (boundaried lo l) z
    f = zero-fitted l j

    abbrev g : Fitted Faces (boundaried hi l) z
    g = one-fitted l j

    abbrev lens : (x : Face) → size_of Faces x ≡ z → length (encode_face x) ≡ z.len
    lens x e = ap (λ (y : Size). y.len) e

    pub both-short : min (length d) (length e) < z.len → AnsweredBoth (boundaried lo l) (boundaried hi l) d e (Err ShortOutput) d e
    both-short h =
        let a : leb (length (encode_face f.tree)) (min (length d) (length e)) ≡ false = lt-leb (length (encode_face f.tree)) (min (length d) (length e)) (omega (arith, lens f.tree f.size)) in
        let b : leb (length (encode_face g.tree)) (min (length d) (length e)) ≡ false = lt-leb (length (encode_face g.tree)) (min (length d) (length e)) (omega (arith, lens g.tree g.size)) in
        record { says = rw (f.is, a); leaves0 = rw (f.is, a); leaves1 = rw (g.is, b) }

    pub both-done : z.len ≤ length d → z.len ≤ length e → (m n : ℕ) (d' e' : List ℕ) → Wrote d 0 (sides (tokens_of Intervals l) (lo ∷ [])) m d' → Wrote e 0 (sides (tokens_of Intervals l) (hi ∷ [])) n e'
        → AnsweredBoth (boundaried lo l) (boundaried hi l) d e (Ok z) d' e'
    both-done h k m n d' e' v w =
        let a : leb (length (encode_face f.tree)) (min (length d) (length e)) ≡ true = le-leb (length (encode_face f.tree)) (min (length d) (length e)) (omega (arith, lens f.tree f.size)) in
        let b : leb (length (encode_face g.tree)) (min (length d) (length e)) ≡ true = le-leb (length (encode_face g.tree)) (min (length d) (length e)) (omega (arith, lens g.tree g.size)) in
        record {
          says = rw (f.is, a) (ap Ok (sym f.size));
          leaves0 = rw (f.is, a) (front-stored d (encode_face f.tree) m d' (omega (arith, lens f.tree f.size)) (wrote_as (zero-side l j) v));
          leaves1 = rw (g.is, b) (front-stored e (encode_face g.tree) n e' (omega (arith, lens g.tree g.size)) (wrote_as (one_side l j) w));
        }

-- the bytes that replace a literal, by its side
abbrev pub side_bytes_of : (s : Sort) → End → Interval → List ℕ
side_bytes_of Faces d q = encode_face (boundary d q)
side_bytes_of Intervals d q = encode_interval q

hits-bytes : (s : Sort) (q : Interval) (b : ℕ) → encode s (hits_of s q b) ≡ pick (eqb b 3) (side_bytes_of s hi q) (side_bytes_of s lo q)
hits-bytes Faces q b = go (eqb b 3)
  where
    go : (t : Bool) → encode_face (boundary (pick t hi lo) q) ≡ pick t (encode_face (boundary hi q)) (encode_face (boundary lo q))
    go true = refl
    go false = refl
hits-bytes Intervals q b = go (eqb b 3)
  where
    go : (t : Bool) → encode_interval q ≡ pick t (encode_interval q) (encode_interval q)
    go true = refl
    go false = refl

-- a shift replaces nothing
up-image : (k : ℕ) (u v x y : List ℕ) (t : Token) → image_of (Up k) u v t ≡ image_of (Up k) x y t
up-image k u v x y (plain b) = refl
up-image k u v x y (literal b n) = refl

spell-up : (k : ℕ) (u v x y : List ℕ) (ts : List Token) → spell (image_of (Up k) u v) ts ≡ spell (image_of (Up k) x y) ts
unfolding spell
spell-up k u v x y [] = refl
spell-up k u v x y (t ∷ ts) = ap₂ (λ (a b : List ℕ). a ++ b) (up-image k u v x y t) (spell-up k u v x y ts)

-- a transformed formula that was kept, by its one operand
module _ (s : Sort) (o : Op) (l : List ℕ) (x : Result (Tree s) Refusal) (e : x ≡ of_one (λ t. limited s (transform s o t)) (operand s l)) (n : ℕ) (f : Fitting s x n) where
  transform-came : Came s s (transform s o) (operand s l) f.tree
  transform-came = came s s (transform s o) (operand s l) f.tree (sym e ∙ f.is)

  abbrev origin : Opened s l transform-came.from
  origin = opened s l transform-came.from transform-came.is

  abbrev u : List ℕ
  u = side_bytes_of s lo (replacement o)

  abbrev v : List ℕ
  v = side_bytes_of s hi (replacement o)

  pub transform-rewritable : Rewritable s (rule_of o) l u v n
  transform-rewritable =
      rewritable s (transform s o) (rule_of o) (hits_of s (replacement o)) (transform-pass s o) (hit_of s (replacement o)) (hit-sizes s (replacement o)) u v (hits-bytes s (replacement o))
      l transform-came.from origin transform-came.limits n (omega (arith, f.room, ap (λ (t : Tree s). length (encode s t)) transform-came.result))

  pub transform-spells : spell (image_of (rule_of o) u v) (tokens_of s l) ≡ kept_bytes s x
  transform-spells =
      sym (passed-bytes s (transform s o) (rule_of o) (hits_of s (replacement o)) (transform-pass s o) (hit_of s (replacement o)) (hit-sizes s (replacement o)) u v (hits-bytes s (replacement o))
      l transform-came.from origin)
      ∙ ap (encode s) transform-came.result ∙ ap (kept_bytes s) (sym f.is)

module _ (s : Sort) (k : ℕ) (l r : List ℕ) (n : ℕ) (f : Fitting s (transformed s (DShift k) l r) n) where
  shift_one : transformed s (DShift k) l r ≡ of_one (λ t. limited s (transform s (shift k) t)) (operand s l)
  unfolding transformed
  shift_one = refl

  pub shift-rewritable : (x y : List ℕ) → Rewritable s (Up k) l x y n
  shift-rewritable x y =
      let h = transform-rewritable s (shift k) l (transformed s (DShift k) l r) shift_one n f in
      record { whole = h.whole; fields = h.fields; room = subst (λ (b : List ℕ). length b ≤ n) (spell-up k (side_bytes_of s lo i0) (side_bytes_of s hi i0) x y (tokens_of s l)) h.room }

  pub shift-spells : (x y : List ℕ) → spell (image_of (Up k) x y) (tokens_of s l) ≡ kept_bytes s (transformed s (DShift k) l r)
  shift-spells x y = spell-up k x y (side_bytes_of s lo i0) (side_bytes_of s hi i0) (tokens_of s l) ∙ transform-spells s (shift k) l (transformed s (DShift k) l r) shift_one n f

-- the replacement of a substitution that was kept
module _ (s : Sort) (k : ℕ) (l r : List ℕ) (n : ℕ) (f : Fitting s (transformed s (DSubst k) l r) n) where
  pub record By : Type 0 where
    pub interval : Interval
    pub is : operand Intervals r ≡ Ok interval

  pub subst-by : By
  unfolding transformed
  subst-by = go (operand s l) (operand Intervals r) refl f.is
    where
      go : (x : Result (Tree s) Refusal) (y : Result Interval Refusal) → operand Intervals r ≡ y → of_two (λ t q. limited s (transform s (substitute k q) t)) x y ≡ Ok f.tree → By
      go x (Ok q) i e = record { interval = q; is = i }
      go (Err a) (Err b) i e = absurd (let a : ◌≡◌ {A = ℕ} 0 1 = cc in omega arith)
      go (Ok t) (Err b) i e = absurd (let a : ◌≡◌ {A = ℕ} 0 1 = cc in omega arith)

  abbrev q : Interval
  q = subst-by.interval

  subst-came : transformed s (DSubst k) l r ≡ of_one (λ t. limited s (transform s (substitute k q) t)) (operand s l)
  subst-came = subst-one s k l r q subst-by.is

  pub subst-rewritable : (x y : List ℕ) → side_bytes_of s lo q ≡ x → side_bytes_of s hi q ≡ y → Rewritable s (Down k) l x y n
  subst-rewritable x y a b = subst₂ (λ (c d : List ℕ). Rewritable s (Down k) l c d n) a b (transform-rewritable s (substitute k q) l (transformed s (DSubst k) l r) subst-came n f)

  pub subst-spells : (x y : List ℕ) → side_bytes_of s lo q ≡ x → side_bytes_of s hi q ≡ y → spell (image_of (Down k) x y) (tokens_of s l) ≡ kept_bytes s (transformed s (DSubst k) l r)
  subst-spells x y a b =
      subst₂ (λ (c d : List ℕ). spell (image_of (Down k) c d) (tokens_of s l) ≡ kept_bytes s (transformed s (DSubst k) l r)) a b
      (transform-spells s (substitute k q) l (transformed s (DSubst k) l r) subst-came n f)

-- what was written from the front is there
pub wrote-front : (d b : List ℕ) (r : ℕ) (d' : List ℕ) → length b ≤ length d → Wrote d 0 b r d' → take r d' ≡ b
wrote-front d b r d' h w = ap (take r) (front-stored d b r d' h w) ∙ take_at b (drop (length b) d) r (omega (arith, w.next))

-- a result that was kept, with room
pub fitting : (s : Sort) (x : Result (Tree s) Refusal) (z : Size) (n : ℕ) → Fitted s x z → z.len ≤ n → Fitting s x n
fitting s x z n f h = record { tree = f.tree; is = f.is; room = omega (arith, ap (λ (y : Size). y.len) f.size) }

pub answered-kept : (s : Sort) (x : Result (Tree s) Refusal) (d : List ℕ) (z : Size) → Fitted s x z → z.len ≤ length d → (r : ℕ) (d' : List ℕ) → Wrote d 0 (kept_bytes s x) r d' → Answered s x d (Ok z) d'
answered-kept s x d z f h r d' w = answered-done s x d z f h r d' (wrote_as (ap (kept_bytes s) f.is) w)

-- a side that was written into a scratch array is its front
pub record There (n : ℕ) (b d : List ℕ) : Type 0 where
  pub inside : n ≤ length d
  pub count : n ≡ length (take n d)
  pub bytes : b ≡ take n d

pub side-there : (l : List ℕ) (r : Interval) → operand Intervals l ≡ Ok r → (n m : ℕ) (d : List ℕ) → Wrote (replicate 1024 0) 0 (sides (tokens_of Intervals l) (end_of n ∷ [])) m d
    → There m (encode_face (boundary (end_of n) r)) d
side-there l r e n m d w =
    let x : Wrote (replicate 1024 0) 0 (encode_face (boundary (end_of n) r)) m d = wrote_as (kept-side l r e (end_of n)) w in
    let z : length (replicate {A = ℕ} 1024 0) ≡ 1024 = length-replicate {A = ℕ} 1024 0 in
    let g : length (encode_face (boundary (end_of n) r)) ≤ length (replicate {A = ℕ} 1024 0) = omega (arith, kept-short l r e (end_of n)) in
    let t = wrote-front (replicate 1024 0) (encode_face (boundary (end_of n) r)) m d g x in
    let k : length d ≡ length (replicate {A = ℕ} 1024 0) = ap length x.stored ∙ length-sets (replicate 1024 0) 0 (encode_face (boundary (end_of n) r)) in
    record { inside = omega (arith, x.next); count = omega (arith, x.next, ap length t); bytes = sym t }
