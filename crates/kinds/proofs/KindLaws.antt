-- The table of the code agrees with the table of the calculus: one computed test over the whole table.
use Rattle.std.proofs.Common.{◌≡◌, ◌≤◌, ◌<◌, arith, refl, sym, subst, ap, ◌∙◌, ℕ, zero, suc, Bool, true, ◌&&◌, List, [], ◌∷◌, length, map, get_or, Option, Some, None, MatchOption, Bor}
use mathlib.Core.Bool.{and-eq-true_iff}
use lib.Dec.{ltb}
use Rattle.std.specs.Slice.{IsItemAt}
use borrow.Author.Tests.{ltb-true}
use lib.ListN.{get_or-eq_default, get_or-map as get_or-maps}
use Rattle.std.proofs.lemmas.List.{length-map}
use Rattle.std.proofs.lemmas.List.{get_or-map}
use Rattle.calculus.specs.Table.{Pred, p_lt, p_le, p_interval, p_face, p_member, p_take, p_cover, p_entails, p_boundary, p_local, p_fforall, p_ishift, p_isubst, p_fshift, p_fsubst, Entry, entry, unlisted, table, entry_of}
use Rattle.kinds.specs.declared.Entry.{Entry as RowRead}
use Rattle.kinds.specs.declared.table.Row.{Row}
use Rattle.kinds.specs.Kinds.{number_of, predicate_of, entry_as, name_in, row_as, RowIs, RowsAre}

-- The numbers of the predicates.
pub numbered : (p : Pred) → (predicate_of (number_of p) ≡ p) × (number_of p < 15)
numbered p_lt = (refl, omega arith)
numbered p_le = (refl, omega arith)
numbered p_interval = (refl, omega arith)
numbered p_face = (refl, omega arith)
numbered p_member = (refl, omega arith)
numbered p_take = (refl, omega arith)
numbered p_cover = (refl, omega arith)
numbered p_entails = (refl, omega arith)
numbered p_boundary = (refl, omega arith)
numbered p_local = (refl, omega arith)
numbered p_fforall = (refl, omega arith)
numbered p_ishift = (refl, omega arith)
numbered p_isubst = (refl, omega arith)
numbered p_fshift = (refl, omega arith)
numbered p_fsubst = (refl, omega arith)

-- The reference count in an entry.
abbrev count_in : Entry → ℕ
count_in (entry name n p) = n
count_in unlisted = 0

-- Small columns.
unfoldable pub all_below : ℕ → List ℕ → Bool
all_below n [] = true
all_below n (b ∷ l) = ltb b n && all_below n l

pub below_at : (n : ℕ) (l : List ℕ) (k : ℕ) → 0 < n → all_below n l ≡ true → get_or l k 0 < n
unfolding all_below
below_at n [] k p h = p
below_at n (b ∷ l) zero p h = ltb-true b n ((and-eq-true_iff (ltb b n) (all_below n l)).0 h).0
below_at n (b ∷ l) (suc k) p h = below_at n l k p ((and-eq-true_iff (ltb b n) (all_below n l)).0 h).1

table-length : length table ≡ 75
unfolding table
table-length = refl

-- No kind has more than three references.
few-at : (k : ℕ) → count_in (entry_of k) < 4
unfolding all_below table
few-at zero = omega arith
few-at (suc k) = go (below_at 4 (map count_in table) k (omega arith) refl)
  where
    go : get_or (map count_in table) k 0 < 4 → count_in (get_or table k unlisted) < 4
    go h = omega (arith, h, get_or-maps count_in table k unlisted)

few-in : (e : Entry) (r : RowRead) → Some r ≡ entry_as e → r.references ≡ count_in e
few-in (entry name m q) r h = cc
few-in unlisted r h = cc

pub few-references : (k : ℕ) (r : RowRead) → Some r ≡ entry_as (entry_of k) → r.references ≤ 3
few-references k r h = omega (arith, few-in (entry_of k) r h, few-at k)

-- What is known of an entry that was answered.
pub listed_same : {r s : RowRead} → Some r ≡ Some s → (r.references ≡ s.references) × (r.predicate ≡ s.predicate)
listed_same e = (cc, cc)

pub not-unlisted : {A : Type 0} {r : RowRead} → ◌≡◌ {A = Option RowRead} None (Some r) → A
not-unlisted e = absurd (let z : ◌≡◌ {A = ℕ} 0 1 = cc in omega arith)

-- What was read in the rows is the row of its kind.
module _ (R : List Row) (a : RowsAre table R) where
  rows-length : length R ≡ 75
  rows-length = sym (length-map R row_as) ∙ ap length a.1 ∙ length-map table entry_as ∙ table-length

  row-at : (k : ℕ) → k < 75 → (d : Row) → RowIs (get_or table k unlisted) (get_or R k d)
  row-at k b d = (
    sym (get_or-map (λ (r : Row). r.0.now) R k d [] (omega (arith, rows-length))) ∙ ap (λ (l : List (List ℕ)). get_or l k []) a.0 ∙ get_or-map name_in table k unlisted [] (omega (arith, table-length)),
    sym (get_or-map row_as R k d None (omega (arith, rows-length))) ∙ ap (λ (l : List (Option RowRead)). get_or l k None) a.1 ∙ get_or-map entry_as table k unlisted None (omega (arith, table-length)),
  )

  pub row-law : (k i : ℕ) → suc i ≡ k → (r : Option (Bor Row)) → IsItemAt R i r → MatchOption r (entry_of k ≡ unlisted) (λ r. RowIs (entry_of k) r.now)
  row-law zero i h r b = absurd (omega arith)
  row-law (suc k) i h None b = get_or-eq_default table unlisted {n = k} (omega (arith, rows-length, table-length, b.3))
  row-law (suc k) i h (Some x) b =
      let j : i ≡ k = omega arith in
      let y : get_or R k x.now ≡ x.now = sym (b.1 ∙ ap (λ (n : ℕ). get_or R n x.now) j) in
      subst (RowIs (get_or table k unlisted)) y (row-at k (omega (arith, rows-length, b.3.0)) x.now)
