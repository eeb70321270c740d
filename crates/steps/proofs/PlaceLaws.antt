-- Formulas that stand at a place of bytes, by their first node.
use Prim.Native.Nat.{ℕ, ◌+◌, ◌-◌, ◌≤◌, ◌<◌}
use native.Mathlib.Omega.{arith}
use mathlib.Core.Path.{◌≡◌, refl, sym, ap, ap₂, ◌∙◌, subst}
use mathlib.Core.List.{List, [], ◌∷◌, ◌++◌, append_assoc, append-nil}
use lib.ListN.{length, get_or, take, drop, length-append, length-drop, get_or-append}
use lib.Seq.{take_at, drop-drop, drop-append_seam, get_or-drop}
use borrow.Author.Tests.{le-leb}
use Rattle.formula.specs.declared.Sort.{Sort}
use Rattle.formula.specs.declared.Advance.{Advance}
use Rattle.formula.specs.declared.Advance.TheVariants.{Leaf, Lit, One, Two, Stuck}
use Rattle.formula.specs.declared.Place.{Place}
use Rattle.formula.specs.Bytes.{Tree, dim_width, dim_bytes, dim_at, encode, Node, leaf, lit, one, two, node_of, Got, nothing, got, read, nodes, bound, max_nodes, max_bound}
use Rattle.formula.specs.Answers.{literal_step, step_by, step_of, bytes_of, part_at}
use Rattle.formula.proofs.Nodes.{made_as}
use Rattle.formula.proofs.Reading.{encode-pos, encode-read, read-encode}
use Rattle.steps.specs.Trees.{Is}
use Rattle.steps.specs.Walking.{StandsAt, tree_at, KnownAt, behind_at, span, Spans, inside_of, below_of}
use Rattle.steps.proofs.TreeLaws.{View, a-leaf, a-lit, a_one, a-two, view, tree-of, is-short}
use Rattle.steps.proofs.ResultLaws.{Over, Under}

-- The formula's bytes in front of what stands behind them.
record Front (s : Sort) (t : Tree s) (l : List ℕ) (at : ℕ) : Type 0 where
  rest : List ℕ
  bytes : drop at l ≡ encode s t ++ rest

front : (s : Sort) (t : Tree s) (l : List ℕ) (at : ℕ) → part_at s l at ≡ encode s t → Front s t l at
unfolding part_at
front s t l at e = go (read s (drop at l)) refl
  where
    go : (g : Got (Tree s)) → read s (drop at l) ≡ g → Front s t l at
    go nothing i = absurd (omega (arith, ap length (ap (bytes_of s) (sym i) ∙ e), encode-pos s t))
    go (got u m) i = record { rest = m; bytes = encode-read s (drop at l) u m i ∙ ap (λ (x : List ℕ). x ++ m) (ap (bytes_of s) (sym i) ∙ e) }

part_of : (s : Sort) (l : List ℕ) (at : ℕ) (t : Tree s) (m : List ℕ) → drop at l ≡ encode s t ++ m → part_at s l at ≡ encode s t
unfolding part_at
part_of s l at t m e = ap (λ (x : List ℕ). bytes_of s (read s x)) e ∙ ap (bytes_of s) (read-encode s t m)

stands : {s : Sort} {l : List ℕ} (t : Tree s) (m : List ℕ) (p : Place) → drop p.at l ≡ encode s t ++ m → nodes s t ≤ max_nodes → bound s t ≤ max_bound → 0 < p.pending → p.pending ≤ 1 + length m → StandsAt s t l p
stands {s} {l} t m p e a b h k =
    let q = part_of s l p.at t m e in
    record { is = record { bytes = q; few = a; low = b }; here = h; room = omega (arith, k, ap length q, ap length e, length-append (encode s t) m, length-drop p.at l, encode-pos s t) }

-- A whole list that is a formula, from its start.
abbrev pub start : Place
start = record { at = 0; pending = 1 }

pub whole-at : {s : Sort} {t : Tree s} {l : List ℕ} → Is s t l → StandsAt s t l start
whole-at {s} {t} {l} h = stands t [] start (h.bytes ∙ sym (append-nil (encode s t))) h.few h.low (omega arith) (omega arith)

pub whole_part : {s : Sort} {t : Tree s} {l : List ℕ} → Is s t l → part_at s l 0 ≡ l
whole_part h = (whole-at h).is.bytes ∙ sym h.bytes

-- A formula that is known to stand somewhere is what is read there.
pub known_at : {s : Sort} {t : Tree s} {l : List ℕ} {p : Place} → StandsAt s t l p → KnownAt s l p
known_at {s} {l = l} {p} h = subst (λ u. StandsAt s u l p) (sym (tree-of h.is)) h

module _ {s : Sort} {t : Tree s} {l : List ℕ} {p : Place} (h : StandsAt s t l p) where
  first : Front s t l p.at
  first = front s t l p.at h.is.bytes

  long : length l ≡ p.at + length (encode s t) + length first.rest
  long = omega (arith, ap length first.bytes, length-append (encode s t) first.rest, length-drop p.at l, encode-pos s t)

  wide : p.pending ≤ 1 + length first.rest
  wide = omega (arith, h.room, ap length h.is.bytes, long)

  -- It lies inside the bytes, and ends at a place that is not behind them.
  pub at-inside : p.at < length l
  at-inside = omega (arith, long, encode-pos s t)

  pub pending-inside : p.pending ≤ length l
  pending-inside = omega (arith, h.room, ap length h.is.bytes, encode-pos s t)

  pub at-grows : p.at < (behind_at s l p).at
  at-grows = omega (arith, ap length h.is.bytes, encode-pos s t)

  pub end-inside : (behind_at s l p).at ≤ length l
  end-inside = omega (arith, h.room, h.here)

  pub at-spans : {q : Place} → q ≡ behind_at s l p → Spans l p.at q
  at-spans e = subst (Spans l p.at) (sym e) (record { some = at-grows; inside = end-inside; few = omega (arith, is-short h.is) })

  -- The bytes between its place and the place behind it.
  pub between-part : {q : Place} {x : List ℕ} → x ≡ span p.at q l → q ≡ behind_at s l p → x ≡ part_at s l p.at
  between-part {q} {x} e i =
      let n : q.at - p.at ≡ length (part_at s l p.at) = omega (arith, ap (λ (w : Place). w.at) i) in
      let g : drop p.at l ≡ part_at s l p.at ++ first.rest = first.bytes ∙ ap (λ (y : List ℕ). y ++ first.rest) (sym h.is.bytes) in
      e ∙ ap₂ (λ (k : ℕ) (y : List ℕ). take k y) n g ∙ take_at (part_at s l p.at) first.rest (length (part_at s l p.at)) refl

  -- Its first byte.
  pub byte_at : get_or l p.at 0 ≡ get_or (part_at s l p.at) 0 0
  byte_at =
      let a : get_or l p.at 0 ≡ get_or (drop p.at l) 0 0 = ap (λ (n : ℕ). get_or l n 0) (omega arith) ∙ sym (get_or-drop p.at l 0 0) in
      a ∙ ap (λ (y : List ℕ). get_or y 0 0) first.bytes ∙ get_or-append (encode s t) first.rest 0 0 (encode-pos s t) ∙ ap (λ (y : List ℕ). get_or y 0 0) (sym h.is.bytes)

  step-at : (b : ℕ) (k : Node (Tree s)) → node_of s b ≡ k → get_or (part_at s l p.at) 0 0 ≡ b → step_of s l p.at p.pending ≡ step_by k l p.at p.pending
  step-at b k e g =
      rw (le-leb 1 p.pending h.here, le-leb p.pending (length l - p.at) (omega (arith, wide, long, encode-pos s t)))
      (ap (λ (n : Node (Tree s)). step_by n l p.at p.pending) (ap (node_of s) (byte_at ∙ g) ∙ e))

  -- What stands behind the first byte.
  behind-byte : {b : ℕ} {m : List ℕ} → encode s t ≡ b ∷ m → drop (p.at + 1) l ≡ m ++ first.rest
  behind-byte {b} {m} e = sym (drop-drop 1 p.at l) ∙ ap (drop 1) (first.bytes ∙ ap (λ (y : List ℕ). y ++ first.rest) e)

-- Both parts of a formula over two, at their places.
pub record PairAt (s : Sort) (x y : Tree s) (l : List ℕ) (p : Place) : Type 0 where
  pub left : StandsAt s x l (inside_of p)
  pub right : StandsAt s y l (behind_at s l (inside_of p))
  pub end : behind_at s l (behind_at s l (inside_of p)) ≡ behind_at s l p

pub pair-at : {s : Sort} {t x y : Tree s} {l : List ℕ} {p : Place} → Over s t x y → StandsAt s t l p → PairAt s x y l p
pair-at {s} {t} {x} {y} {l} {p} o h =
    let m = o.made in
    let n = (first h).rest in
    let e : drop (p.at + 1) l ≡ encode s x ++ (encode s y ++ n) = behind-byte h m.bytes ∙ append_assoc (encode s x) (encode s y) n in
    let i : StandsAt s x l (inside_of p) = stands x (encode s y ++ n) (inside_of p) e (omega (arith, m.count, h.is.few)) (omega (arith, m.top, h.is.low)) (omega arith) (omega (arith, wide h, length-append (encode s y) n, encode-pos s y)) in
    let f : drop (p.at + 1 + length (part_at s l (p.at + 1))) l ≡ encode s y ++ n = sym (drop-drop (length (part_at s l (p.at + 1))) (p.at + 1) l) ∙ ap₂ (λ (k : ℕ) (z : List ℕ). drop k z) (ap length i.is.bytes) e ∙ drop-append_seam (encode s x) (encode s y ++ n) in
    let j : StandsAt s y l (behind_at s l (inside_of p)) = stands y n (behind_at s l (inside_of p)) f (omega (arith, m.count, h.is.few)) (omega (arith, m.top, h.is.low)) (omega (arith, h.here)) (omega (arith, wide h)) in
    let a : p.at + 1 + length (part_at s l (p.at + 1)) + length (part_at s l (p.at + 1 + length (part_at s l (p.at + 1)))) ≡ p.at + length (part_at s l p.at) =
    omega (arith, ap length i.is.bytes, ap length j.is.bytes, ap length h.is.bytes, ap length m.bytes, length-append (encode s x) (encode s y)) in
    let b : p.pending + 1 - 1 - 1 ≡ p.pending - 1 = omega arith in
    record { left = i; right = j; end = ap₂ (λ (u v : ℕ). record { at = u; pending = v }) a b }

-- The part of a formula over one, at its place.
pub record BelowAt (s : Sort) (x : Tree s) (l : List ℕ) (p : Place) : Type 0 where
  pub below : StandsAt s x l (below_of p)
  pub end : behind_at s l (below_of p) ≡ behind_at s l p

pub below_at : {s : Sort} {t x : Tree s} {l : List ℕ} {p : Place} → Under s t x → StandsAt s t l p → BelowAt s x l p
below_at {s} {t} {x} {l} {p} o h =
    let m = o.made in
    let i : StandsAt s x l (below_of p) = stands x (first h).rest (below_of p) (behind-byte h m.bytes) (omega (arith, m.count, h.is.few)) (omega (arith, m.top, h.is.low)) h.here (wide h) in
    let a : p.at + 1 + length (part_at s l (p.at + 1)) ≡ p.at + length (part_at s l p.at) = omega (arith, ap length i.is.bytes, ap length h.is.bytes, ap length m.bytes) in
    record { below = i; end = ap (λ (u : ℕ). record { at = u; pending = p.pending - 1 }) a }

-- What a step from the place of a formula shows: its node, and where its parts stand.
pub record EndAt (s : Sort) (t : Tree s) (l : List ℕ) (p q : Place) (y : Advance) : Type 0 where
  pub view : View s (part_at s l p.at) t y
  pub end : q ≡ behind_at s l p

pub record OneAt (s : Sort) (t : Tree s) (l : List ℕ) (p q : Place) : Type 0 where
  pub view : View s (part_at s l p.at) t (One q)
  pub place : q ≡ below_of p
  pub below : KnownAt s l q
  pub part : part_at s l q.at ≡ drop 1 (part_at s l p.at)
  pub end : behind_at s l q ≡ behind_at s l p

pub record TwoAt (s : Sort) (t : Tree s) (l : List ℕ) (p q : Place) : Type 0 where
  pub view : View s (part_at s l p.at) t (Two q)
  pub place : q ≡ inside_of p
  pub left : KnownAt s l q
  pub left-part : part_at s l q.at ≡ part_at s (part_at s l p.at) 1
  pub right : KnownAt s l (behind_at s l q)
  pub right-part : part_at s l (behind_at s l q).at ≡ drop (1 + length (part_at s (part_at s l p.at) 1)) (part_at s l p.at)
  pub end : behind_at s l (behind_at s l q) ≡ behind_at s l p

abbrev pub ViewAt : (s : Sort) → Tree s → List ℕ → Place → Advance → Type 0
ViewAt s t l p (Leaf q) = EndAt s t l p q (Leaf q)
ViewAt s t l p (Lit q n) = EndAt s t l p q (Lit q n)
ViewAt s t l p (One q) = OneAt s t l p q
ViewAt s t l p (Two q) = TwoAt s t l p q
ViewAt s t l p Stuck = ⊥

module _ (s : Sort) (l : List ℕ) (p : Place) where
  end-place : (n : ℕ) → n ≡ p.at + length (part_at s l p.at) → ◌≡◌ {A = Place} (record { at = n; pending = p.pending - 1 }) (behind_at s l p)
  end-place n e = ap (λ (u : ℕ). record { at = u; pending = p.pending - 1 }) e

  view-by : (t : Tree s) → StandsAt s t l p → (y : Advance) → View s (part_at s l p.at) t y → ViewAt s t l p (step_of s l p.at p.pending)
  view-by t h y (a-leaf b t₁ e i) =
      subst (ViewAt s t l p) (sym (step-at h b (leaf t₁) e (ap (λ (z : List ℕ). get_or z 0 0) i)))
      (record { view = a-leaf b t₁ e i; end = end-place (p.at + 1) (omega (arith, ap length i)) })
  view-by t h y (a-lit b n g e i) =
      let m : drop (p.at + 1) l ≡ dim_bytes n ++ (first h).rest = behind-byte h (sym h.is.bytes ∙ i) in
      let d : dim_at l (p.at + 1) ≡ n = ap (λ (k : ℕ). get_or l k 0) (omega arith) ∙ sym (get_or-drop (p.at + 1) l 0 0) ∙ ap (λ (z : List ℕ). get_or z 0 0) m in
      let w : literal_step l (p.at + 1) (p.pending - 1) ≡ Lit (record { at = p.at + 1 + dim_width; pending = p.pending - 1 }) n =
      rw (le-leb dim_width (length l - (p.at + 1)) (omega (arith, ap length m, length-drop (p.at + 1) l))) (ap (Lit (record { at = p.at + 1 + dim_width; pending = p.pending - 1 })) d) in
      subst (ViewAt s t l p) (sym (step-at h b (lit g) e (ap (λ (z : List ℕ). get_or z 0 0) i) ∙ w))
      (record { view = a-lit b n g e i; end = end-place (p.at + 1 + dim_width) (omega (arith, ap length i)) })
  view-by t h y (a_one b u x e g i) =
      let k = below_at (record { byte = b; made = made_as s b (one u) e x }) h in
      subst (ViewAt s t l p) (sym (step-at h b (one u) e g))
      (record { view = a_one b u x e g i; place = refl; below = known_at k.below; part = k.below.is.bytes ∙ sym i.bytes; end = k.end })
  view-by t h y (a-two b v x z e g i j o) =
      let k = pair-at (record { byte = b; made = made_as s b (two v) e x z }) h in
      subst (ViewAt s t l p) (sym (step-at h b (two v) e g))
      (record { view = a-two b v x z e g i j o; place = refl; left = known_at k.left; left-part = k.left.is.bytes ∙ sym i.bytes; right = known_at k.right; right-part = k.right.is.bytes ∙ sym j.bytes; end = k.end })

  -- By a step that was taken.
  pub viewed-at : KnownAt s l p → (x y : Advance) → x ≡ step_of s l p.at p.pending → x ≡ y → ViewAt s (tree_at s l p) l p y
  viewed-at h x y e f = subst (ViewAt s (tree_at s l p) l p) (sym e ∙ f) (view-by (tree_at s l p) h _ (view s (tree_at s l p) (part_at s l p.at) h.is))
