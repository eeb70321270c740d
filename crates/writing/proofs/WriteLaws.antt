-- Texts at a place of an output: one behind another, and beyond its end.
use Prim.Native.Nat.{ℕ, zero, suc, ◌+◌, ◌-◌, ◌≤◌, ◌<◌, min}
use mathlib.Core.Bool.{Bool, true, false}
use lib.Dec.{leb}
use borrow.Author.Tests.{leb-true, leb-false}
use Rattle.std.proofs.Math.Nat.{min-eq_left, min-eq_right}
use native.Mathlib.Omega.{arith}
use native.Mathlib.Nat.{add-zero, eq-or-lt_of_le}
use native.Mathlib.Numerals.{add-one}
use mathlib.Core.Path.{◌≡◌, refl, sym, ap, ap₂, ◌∙◌, subst}
use mathlib.Core.Logic.{⊎_elim}
use mathlib.Core.List.{List, [], ◌∷◌, ◌++◌}
use lib.ListN.{length, take, set, length-append, length-set}
use lib.Seq.{sets, length-sets, set_out, take_all}
use Rattle.text.proofs.ParseLaws.{sets-append}
use Rattle.writing.specs.Writing.{Room, Wrote, Writes, times}
use Rattle.writing.specs.declared.Writer.{Writer}

-- Beyond the end nothing is written.
pub sets-beyond : (x d : List ℕ) (i : ℕ) → length d ≤ i → sets d i x ≡ d
sets-beyond [] d i h = refl
sets-beyond (a ∷ x) d i h = ap (λ (l : List ℕ). sets l (suc i) x) (set_out d i a h) ∙ sets-beyond x d (suc i) (omega arith)

-- What reaches over the end is cut off.
pub sets-cut : (x d : List ℕ) (i n : ℕ) → length d ≤ i + n → sets d i (take n x) ≡ sets d i x
sets-cut [] d i zero h = refl
sets-cut [] d i (suc n) h = refl
sets-cut (a ∷ x) d i zero h = sym (sets-beyond (a ∷ x) d i (omega arith))
sets-cut (a ∷ x) d i (suc n) h = sets-cut x (set d i a) (suc i) n (omega (arith, length-set d i a))

pub sets-fitting : (x d : List ℕ) (i : ℕ) → i ≤ length d → sets d i (take (min (length x) (length d - i)) x) ≡ sets d i x
sets-fitting x d i h = go (leb (length x) (length d - i)) refl
  where
    go : (t : Bool) → leb (length x) (length d - i) ≡ t → sets d i (take (min (length x) (length d - i)) x) ≡ sets d i x
    go true e = ap (λ n. sets d i (take n x)) (min-eq_left (leb-true _ _ e)) ∙ ap (sets d i) (take_all (length x) x (omega arith))
    go false e = let k = leb-false (length x) (length d - i) e in ap (λ n. sets d i (take n x)) (min-eq_right (omega (arith, k))) ∙ sets-cut x d i (length d - i) (omega (arith, h))

pub wrote-beyond : (x out : List ℕ) (to : ℕ) → length out ≤ to → Wrote x out to (to + length x) out
wrote-beyond x out to h = record { end = refl; bytes = sym (sets-beyond x out to h) }

-- One text behind another.
pub wrote-next : {x y out out' out'' : List ℕ} {to m r : ℕ} → Wrote x out to m out' → Wrote y out' m r out'' → Wrote (x ++ y) out to r out''
wrote-next {x} {y} {out} {to = to} h k =
    record {
      end = k.end ∙ ap (λ (n : ℕ). n + length y) h.end ∙ omega (arith, length-append x y);
      bytes = k.bytes ∙ ap₂ (λ (o : List ℕ) (n : ℕ). sets o n y) h.bytes h.end ∙ sets-append x y out to;
    }

-- The same text, told in another way.
pub wrote_as : {x y out out' : List ℕ} {to r : ℕ} → x ≡ y → Wrote x out to r out' → Wrote y out to r out'
wrote_as {out = out} {out'} {to} {r} e h = subst (λ (x : List ℕ). Wrote x out to r out') e h

-- The output keeps its length.
pub wrote-length : {x out out' : List ℕ} {to r : ℕ} → Wrote x out to r out' → length out' ≡ length out
wrote-length {x} {out} {to = to} h = ap length h.bytes ∙ length-sets out to x

-- Room for a text is room for what it begins with, and for what follows that.
pub room-first : (x y : List ℕ) {to : ℕ} → Room to (x ++ y) → Room to x
room-first x y h = record { fits = omega (arith, h.fits, length-append x y) }

pub room_next : {x out out' : List ℕ} (y : List ℕ) {to m : ℕ} → Room to (x ++ y) → Wrote x out to m out' → Room m y
room_next {x} y h w = record { fits = omega (arith, h.fits, w.end, length-append x y) }

pub room_as : {x y : List ℕ} {to : ℕ} → x ≡ y → Room to x → Room to y
room_as {to = to} e h = subst (Room to) e h

-- A text so many times, one time more.
pub times_more : (n : ℕ) (x : List ℕ) → times (n + 1) x ≡ times n x ++ x
unfolding times
times_more n x = ap (λ (k : ℕ). times k x) (add-one n)

times-low : (n m : ℕ) (x : List ℕ) → m < n → length (times m x) + length x ≤ length (times n x)
unfolding times
times-low zero m x h = absurd (omega arith)
times-low (suc n) m x h =
    ⊎_elim (λ e. omega (arith, length-append (times n x) x, ap (λ (k : ℕ). length (times k x)) e)) (λ k. omega (arith, length-append (times n x) x, times-low n m x k))
    (eq-or-lt_of_le {n = m} {m = n} (omega arith))

pub times-room : (n m : ℕ) (x : List ℕ) {to at : ℕ} → Room to (times n x) → m < n → at ≡ to + length (times m x) → Room at x
times-room n m x h k e = record { fits = omega (arith, h.fits, times-low n m x k, e) }

-- No text, and a text one time more.
pub wrote_none : {out : List ℕ} {to : ℕ} → Wrote [] out to to out
wrote_none {to = to} = record { end = sym (add-zero to); bytes = refl }

-- The place behind, told in another way.
pub wrote-to : {x out out' : List ℕ} {to r s : ℕ} → r ≡ s → Wrote x out to r out' → Wrote x out to s out'
wrote-to e h = record { end = sym e ∙ h.end; bytes = h.bytes }

-- The same of a writer, whose output is the same one throughout.
pub writes-next : {x y : List ℕ} {w w₁ w₂ : Writer} → Writes x w w₁ → Writes y w₁ w₂ → Writes (x ++ y) w w₂
writes-next h k = record { wrote = wrote-next h.wrote k.wrote; same = k.same ∙ h.same }

pub writes-as : {x y : List ℕ} {w w' : Writer} → x ≡ y → Writes x w w' → Writes y w w'
writes-as e h = record { wrote = wrote_as e h.wrote; same = h.same }

pub writes-none : {w : Writer} → Writes [] w w
writes-none = record { wrote = wrote_none; same = refl }

pub writes-more : (i : ℕ) {x : List ℕ} {w w₁ w₂ : Writer} → Writes (times i x) w w₁ → Writes x w₁ w₂ → Writes (times (i + 1) x) w w₂
writes-more i {x} h k = writes-as (sym (times_more i x)) (writes-next h k)
