-- The guarded search has the moves of document 01, but where that clashes it may clash in another dimension.
use mathlib.Core.Path.{◌≡◌, refl, sym, ◌∙◌, subst}
use mathlib.Core.Bool.{Bool, true, false, true≢false}
use mathlib.Core.List.{List, [], ◌∷◌, Memᴰ}
use Prim.Native.Nat.{ℕ}
use Rattle.formula.specs.Formula.{lo, hi, Face, ff, ft, at, fand, for}
use Rattle.calculus.specs.Search.{Move, by-top, by-hit, by-absurd, by-clash, by-and-left, by-or-left, by-and-right, by-or-right, stuck, ◌else◌, provided, has, try_top, clash_of, try_clash, try_left, try_right, move}
use Rattle.calculus.proofs.Searching.{has-member, member-has, Moves, is-clash, Refuted, move-view}
use Rattle.obligations.specs.Obligations.{zeros, guarded_move}

-- A literal on the zero side.
abbrev Zero : Face → Type 0
Zero ff = ⊥
Zero ft = ⊥
Zero (at lo n) = Unit {0}
Zero (at hi n) = ⊥
Zero (fand x y) = ⊥
Zero (for x y) = ⊥

past : {f : Face} {n : ℕ} {G : List Face} → (Zero f → ⊥) → Memᴰ (at lo n) (f ∷ G) → Memᴰ (at lo n) G
past h (Memᴰ.head e) = absurd (h (subst Zero e tt))
past h (Memᴰ.tail m) = m

-- The zero literals of a context are those in it.
zeros_within : (G : List Face) (f : Face) → Memᴰ f (zeros G) → Memᴰ f G
unfolding zeros
zeros_within [] f m = m
zeros_within (ff ∷ G) f m = Memᴰ.tail (zeros_within G f m)
zeros_within (ft ∷ G) f m = Memᴰ.tail (zeros_within G f m)
zeros_within (at lo n ∷ G) f (Memᴰ.head e) = Memᴰ.head e
zeros_within (at lo n ∷ G) f (Memᴰ.tail m) = Memᴰ.tail (zeros_within G f m)
zeros_within (at hi n ∷ G) f m = Memᴰ.tail (zeros_within G f m)
zeros_within (fand x y ∷ G) f m = Memᴰ.tail (zeros_within G f m)
zeros_within (for x y ∷ G) f m = Memᴰ.tail (zeros_within G f m)

zeros-all : (G : List Face) (n : ℕ) → Memᴰ (at lo n) G → Memᴰ (at lo n) (zeros G)
unfolding zeros
zeros-all [] n m = m
zeros-all (ff ∷ G) n m = zeros-all G n (past (λ z. z) m)
zeros-all (ft ∷ G) n m = zeros-all G n (past (λ z. z) m)
zeros-all (at lo k ∷ G) n (Memᴰ.head e) = Memᴰ.head e
zeros-all (at lo k ∷ G) n (Memᴰ.tail m) = Memᴰ.tail (zeros-all G n m)
zeros-all (at hi k ∷ G) n m = zeros-all G n (past (λ z. z) m)
zeros-all (fand x y ∷ G) n m = zeros-all G n (past (λ z. z) m)
zeros-all (for x y ∷ G) n m = zeros-all G n (past (λ z. z) m)

-- The first of the assumptions H that clashes in G: both its literals are in G, or no zero literal of H has its opposite.
data Clash (G H : List Face) : Move → Type 0 where
  clashes : {n : ℕ} → Memᴰ (at lo n) G → Memᴰ (at hi n) G → Clash G H (by-clash n)
  clear : ((n : ℕ) → Memᴰ (at lo n) H → Memᴰ (at hi n) G → ⊥) → Clash G H stuck

-- One assumption more, whose clash was tried.
clash-on : {G H : List Face} {f : Face} {m : Move} → ((n : ℕ) → at lo n ≡ f → Memᴰ (at hi n) G → ⊥) → Clash G H m → Clash G (f ∷ H) m
clash-on h (clashes a b) = clashes a b
clash-on h (clear c) = clear (λ n. elim [ Memᴰ.head e ↦ h n e | Memᴰ.tail m ↦ c n m ])

clash-view : (G H : List Face) → ((f : Face) → Memᴰ f H → Memᴰ f G) → Clash G H (try_clash G H)
unfolding try_clash
clash-view G [] i = clear (λ n m. elim m [ ])
clash-view G (f ∷ H) i = go f (i f (Memᴰ.head refl)) (clash-view G H (λ f m. i f (Memᴰ.tail m)))
  where
    other : {f : Face} → (Zero f → ⊥) → Clash G H (try_clash G H) → Clash G (f ∷ H) (try_clash G H)
    other z r = clash-on (λ n e o. z (subst Zero e tt)) r

    zero-side : (n : ℕ) (b : Bool) → has (at hi n) G ≡ b → Memᴰ (at lo n) G → Clash G H (try_clash G H) → Clash G (at lo n ∷ H) (provided b (by-clash n) else try_clash G H)
    zero-side n true e m r = clashes m (has-member (at hi n) G e)
    zero-side n false e m r = clash-on (λ k p o. let q : k ≡ n = cc in true≢false (sym (member-has (rw q at o)) ∙ e)) r

    one_side : (n : ℕ) (b : Bool) → has (at lo n) G ≡ b → Memᴰ (at hi n) G → Clash G H (try_clash G H) → Clash G (at hi n ∷ H) (provided b (by-clash n) else try_clash G H)
    one_side n true e m r = clashes (has-member (at lo n) G e) m
    one_side n false e m r = other (λ z. z) r

    go : (f : Face) → Memᴰ f G → Clash G H (try_clash G H) → Clash G (f ∷ H) (clash_of G f else try_clash G H)
    go ff m r = other (λ z. z) r
    go ft m r = other (λ z. z) r
    go (at lo n) m r = zero-side n (has (at hi n) G) refl m r
    go (at hi n) m r = one_side n (has (at lo n) G) refl m r
    go (fand x y) m r = other (λ z. z) r
    go (for x y) m r = other (λ z. z) r

module _ {P : Type 0} {G : List Face} {g : Face} where
  -- What comes after the same try.
  else-alike : (m : Move) {x y : Move} → (Moves P G g x → Moves P G g y) → Moves P G g (m else x) → Moves P G g (m else y)
  else-alike by-top h v = v
  else-alike by-hit h v = v
  else-alike by-absurd h v = v
  else-alike (by-clash n) h v = v
  else-alike (by-and-left b x y a) h v = v
  else-alike (by-or-left b x y a) h v = v
  else-alike (by-and-right x y) h v = v
  else-alike (by-or-right x y) h v = v
  else-alike stuck h v = h v

  -- Where the zero literals are clear the context is.
  clash-alike : {m n : Move} (x : Move) → Clash G G m → Clash G (zeros G) n → Moves P G g (m else x) → Moves P G g (n else x)
  clash-alike x c (clashes a b) v = is-clash a b
  clash-alike x (clashes {n} a b) (clear c) v = absurd (c n (zeros-all G n a) b)
  clash-alike x (clear c) (clear d) v = v

  guarded-alike : Moves P G g (move G g) → Moves P G g (guarded_move G g)
  unfolding move guarded_move
  guarded-alike =
      else-alike (try_top g) (
      else-alike (provided (has g G) by-hit) (
      else-alike (provided (has ff G) by-absurd) (
      clash-alike (try_left [] G else try_right g) (clash-view G G (λ f m. m)) (clash-view G (zeros G) (zeros_within G)))))

pub guarded-view : (G : List Face) (g : Face) → Moves (Refuted G g) G g (guarded_move G g)
guarded-view G g = guarded-alike (move-view G g)
