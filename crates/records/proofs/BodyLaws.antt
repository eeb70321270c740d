-- Whether bytes are the body of a record: by where references and operands end.
use Rattle.std.specs.Prelude.{Option, Some, None}
use mathlib.Core.Path.{◌≡◌, refl, sym, ap, ap₂, ◌∙◌}
use mathlib.Core.Bool.{Bool, false}
use mathlib.Core.List.{List, [], ◌∷◌}
use Prim.Native.Nat.{ℕ, ◌-◌, ◌≤◌, ◌<◌}
use native.Mathlib.Omega.{arith}
use borrow.Author.Tests.{eq-eqb, ne_eqb}
use lib.Dec.{eqb}
use lib.ListN.{length, drop}
use Rattle.formula.specs.Bytes.{Got, nothing, got, then}
use Rattle.calculus.specs.Judgement.{Step}
use Rattle.calculus.specs.Table.{Pred, Entry, entry, unlisted, entry_of}
use Rattle.calculus.specs.Record.{Field, fields, Values}
use Rattle.calculus.specs.Parse.{read_references, read_values, judgement_of, read_as, read_body}
use Rattle.calculus.proofs.Fields.{fails, reads, post-then}
use Rattle.kinds.specs.Kinds.{number_of, predicate_of, entry_as}
use Rattle.kinds.proofs.KindLaws.{numbered}
use Rattle.kinds.specs.declared.Entry.{Entry as RowRead}
use Rattle.records.specs.Places.{little_at, ended, values_end}
use Rattle.records.specs.Bodies.{readable}
use Rattle.records.proofs.PlaceLaws.{little-at, little-short, little-leaves, Tail, tail-drop, RestIs, leaves_in, ended-map, values-leaves, references-leaves}

-- Does the reading end at n?
abbrev pub ends_at : ℕ → Option ℕ → Bool
ends_at n None = false
ends_at n (Some e) = eqb e n

readable-ended : {A : Type 0} (l : List ℕ) {g : Got A} → RestIs l g → readable g ≡ ends_at (length l) (ended l g)
readable-ended l fails = refl
readable-ended l (reads {m = []} t) = sym (eq-eqb (length l - 0) (length l) (omega arith))
readable-ended l (reads {m = b ∷ m} t) = sym (ne_eqb (length l - length (b ∷ m)) (length l) (λ e. omega (arith, t.fits)))

body-leaves : (i : ℕ) (l : List ℕ) → RestIs l (read_body i l)
unfolding read_body
body-leaves i l = post-then (little-leaves 2 l) (λ k m t. read-leaves (entry_of k) k t)
  where
    read-leaves : (x : Entry) (k : ℕ) {m : List ℕ} → Tail l m → RestIs l (read_as i k x m)
    read-leaves unlisted k t = fails
    read-leaves (entry name n p) k {m} t = post-then (leaves_in t (references-leaves i n m)) (λ is r u. post-then (leaves_in u (values-leaves (fields p) r)) (λ xs s v. reads v))

-- A body's end decides whether its bytes are used up.
pub body-readable : (i : ℕ) (l : List ℕ) {r : Option ℕ} → r ≡ ended l (read_body i l) → readable (read_body i l) ≡ ends_at (length l) r
body-readable i l e = readable-ended l (body-leaves i l) ∙ ap (ends_at (length l)) (sym e)

-- The operands behind the references.
abbrev pub operands_on : List Field → List ℕ → Option ℕ → Option ℕ
operands_on cs l None = None
operands_on cs l (Some at) = values_end cs l at

operands-law : (i n : ℕ) (cs : List Field) (l : List ℕ) → 2 ≤ length l → ended l (then (read_references i n (drop 2 l)) (λ is m. read_values cs m)) ≡ operands_on cs l (ended l (read_references i n (drop 2 l)))
unfolding values_end
operands-law i n cs l h = go (leaves_in (tail-drop l 2 h) (references-leaves i n (drop 2 l)))
  where
    go : {g : Got (List ℕ)} → RestIs l g → ended l (then g (λ is m. read_values cs m)) ≡ operands_on cs l (ended l g)
    go fails = refl
    go (reads {m} t) = ap (λ (z : List ℕ). ended l (read_values cs z)) t.same

-- The end of a body by the entry of its kind.
abbrev body_on : ℕ → List ℕ → Entry → Option ℕ
body_on i l (entry name n p) = operands_on (fields p) l (ended l (read_references i n (drop 2 l)))
body_on i l unlisted = None

body-as : (i k : ℕ) (l : List ℕ) → 2 ≤ length l → (x : Entry) → ended l (read_as i k x (drop 2 l)) ≡ body_on i l x
body-as i k l h unlisted = refl
body-as i k l h (entry name n p) = go (read_references i n (drop 2 l)) ∙ operands-law i n (fields p) l h
  where
    go : (g : Got (List ℕ))
        → ended {A = Step} l (then g (λ is m. then (read_values (fields p) m) (λ xs. got (record { kind = k; references = is; judgement = judgement_of p xs }))))
        ≡ ended l (then g (λ is m. read_values (fields p) m))
    go nothing = refl
    go (got is m) = ended-map {B = Step} (λ (xs : Values (fields p)). record { kind = k; references = is; judgement = judgement_of p xs }) l (read_values (fields p) m)

pub body-short : (i : ℕ) (l : List ℕ) → length l < 2 → ended l (read_body i l) ≡ None
unfolding read_body
body-short i l h = rw (little-short 2 l h)

module _ (i : ℕ) (l : List ℕ) (h : 2 ≤ length l) {k : ℕ} (e : k ≡ little_at 2 l 0) where
  body_entry : ended l (read_body i l) ≡ body_on i l (entry_of k)
  unfolding read_body
  body_entry =
      ap (λ (g : Got ℕ). ended l (then g (λ k. read_as i k (entry_of k)))) (little-at 2 l 0 (omega arith) ∙ ap (λ (n : ℕ). got n (drop 2 l)) (sym e))
      ∙ body-as i k l h (entry_of k)

  -- No kind, no body; else the entry tells references and fields.
  pub body-none : None ≡ entry_as (entry_of k) → ended l (read_body i l) ≡ None
  body-none z = body_entry ∙ go (entry_of k) z
    where
      go : (x : Entry) → None ≡ entry_as x → body_on i l x ≡ None
      go unlisted z = refl
      go (entry name n p) z = absurd (let q : ◌≡◌ {A = ℕ} 0 1 = cc in omega arith)

  pub body-some : {r : RowRead} → Some r ≡ entry_as (entry_of k) → ended l (read_body i l) ≡ operands_on (fields (predicate_of r.predicate)) l (ended l (read_references i r.references (drop 2 l)))
  body-some {r} f = body_entry ∙ go (entry_of k) f
    where
      go : (x : Entry) → Some r ≡ entry_as x → body_on i l x ≡ operands_on (fields (predicate_of r.predicate)) l (ended l (read_references i r.references (drop 2 l)))
      go unlisted f = absurd (let q : ◌≡◌ {A = ℕ} 0 1 = cc in omega arith)
      go (entry name n p) f =
          let m : r.references ≡ n = cc in
          let q : r.predicate ≡ number_of p = cc in
          ap₂ (λ (p : Pred) (n : ℕ). operands_on (fields p) l (ended l (read_references i n (drop 2 l)))) (sym (ap predicate_of q ∙ (numbered p).0)) (sym m)

-- The predicate in an entry is one of the fifteen.
pub few-predicates : (k : ℕ) {r : RowRead} → Some r ≡ entry_as (entry_of k) → r.predicate < 15
few-predicates k {r} f = go (entry_of k) f
  where
    go : (x : Entry) → Some r ≡ entry_as x → r.predicate < 15
    go unlisted f = absurd (let q : ◌≡◌ {A = ℕ} 0 1 = cc in omega arith)
    go (entry name n p) f = let q : r.predicate ≡ number_of p = cc in omega (arith, (numbered p).1)
