-- Reading and writing are inverse, for both sorts: what was encoded is read back with what follows it, and what was read
-- was encoded; so encodings are injective and none is a proper prefix of another.
use Prim.Native.Nat.{ℕ, zero, suc, ◌≤◌, ◌<◌}
use native.Mathlib.Omega.{arith}
use mathlib.Core.Path.{◌≡◌, refl, sym, ap, ◌∙◌}
use mathlib.Core.Option.{some, none-ne-some, some-injective}
use mathlib.Core.List.{List, [], ◌∷◌, ◌++◌, append_assoc, append-nil}
use lib.ListN.{length, length-append}
use Rattle.formula.specs.Bytes.{Tree, dim_bytes, encode, Node, leaf, lit, one, two, bad, node_of, Got, nothing, got, then, front, read_in, read, wholly, read_all}
use Rattle.formula.specs.declared.Sort.{Sort}
use Rattle.formula.proofs.Nodes.{Makes, made, made_as, tree-ind}

pub got-value : {A : Type 0} {a b : A} {l m : List ℕ} → got a l ≡ got b m → a ≡ b
got-value e = cc

pub got-rest : {A : Type 0} {a b : A} {l m : List ℕ} → got a l ≡ got b m → l ≡ m
got-rest e = cc

pub nothing-got : {A : Type 0} {a : A} {l : List ℕ} → nothing ≡ got a l → ⊥
nothing-got e = let z : ◌≡◌ {A = ℕ} 0 1 = cc in omega arith

-- no formula is without bytes
pub encode-pos : (s : Sort) (t : Tree s) → 0 < length (encode s t)
encode-pos s =
    tree-ind s (λ t. 0 < length (encode s t))
    (record {
      at_leaf = λ b t e. omega (arith, ap length (made_as s b (leaf t) e).bytes);
      at-lit = λ b n g e. omega (arith, ap length (made_as s b (lit g) e n).bytes);
      at_one = λ b u x e h. omega (arith, ap length (made_as s b (one u) e x).bytes);
      at-two = λ b v x y e h i. omega (arith, ap length (made_as s b (two v) e x y).bytes);
    })

-- enough fuel reads a formula back
abbrev Back : (s : Sort) → Tree s → Type 0
Back s t = (n : ℕ) (m : List ℕ) → length (encode s t) ≤ n → read_in s n (encode s t ++ m) ≡ got t m

module _ (s : Sort) where
  back-node : (b : ℕ) (k : Node (Tree s)) → node_of s b ≡ k → (t : Tree s) (l m : List ℕ) → encode s t ≡ b ∷ l
      → ((n : ℕ) → length l ≤ n → front k (read_in s n) (l ++ m) ≡ got t m)
      → (n : ℕ) → length (encode s t) ≤ n → read_in s n (encode s t ++ m) ≡ got t m
  unfolding read_in
  back-node b k e t l m i h zero g = absurd (omega (arith, ap length i))
  back-node b k e t l m i h (suc n) g = rw (i, e) (h n (omega (arith, ap length i)))

  back-leaf : (b : ℕ) (t : Tree s) → node_of s b ≡ leaf t → Back s t
  back-leaf b t e n m = back-node b (leaf t) e t [] m (made_as s b (leaf t) e).bytes (λ j g. refl) n

  back-lit : (b n : ℕ) (g : ℕ → Tree s) → node_of s b ≡ lit g → Back s (g n)
  back-lit b d g e n m = back-node b (lit g) e (g d) (dim_bytes d) m (made_as s b (lit g) e d).bytes (λ j h. refl) n

  back_one : (b : ℕ) (u : Tree s → Tree s) (x : Tree s) → node_of s b ≡ one u → Back s x → Back s (u x)
  back_one b u x e r n m =
      back-node b (one u) e (u x) (encode s x) m (made_as s b (one u) e x).bytes
      (λ j h. ap (λ (z : Got (Tree s)). then z (λ y. got (u y))) (r j m h)) n

  back-two : (b : ℕ) (v : Tree s → Tree s → Tree s) (x y : Tree s) → node_of s b ≡ two v → Back s x → Back s y → Back s (v x y)
  back-two b v x y e p q n m =
      back-node b (two v) e (v x y) (encode s x ++ encode s y) m (made_as s b (two v) e x y).bytes
      (λ j h.
      let i = length-append (encode s x) (encode s y) in
      rw (append_assoc, p j (encode s y ++ m) (omega arith))
      (ap (λ (z : Got (Tree s)). then z (λ w. got (v x w))) (q j m (omega arith)))) n

  pub read_back : (t : Tree s) → Back s t
  read_back = tree-ind s (Back s) (record { at_leaf = back-leaf; at-lit = back-lit; at_one = back_one; at-two = back-two })

  -- Theorem 1: what was encoded is read back, with what follows it.
  pub read-encode : (t : Tree s) (m : List ℕ) → read s (encode s t ++ m) ≡ got t m
  unfolding read
  read-encode t m = read_back t (length (encode s t ++ m)) m (omega (arith, length-append (encode s t) m))

  -- what a reader reads was encoded
  abbrev Was : (List ℕ → Got (Tree s)) → Type 0
  Was reader = (l : List ℕ) (t : Tree s) (m : List ℕ) → reader l ≡ got t m → l ≡ encode s t ++ m

  was-one : (b : ℕ) (u : Tree s → Tree s) → Makes s b (one u) → (l : List ℕ) (r : Got (Tree s)) → ((t : Tree s) (m : List ℕ) → r ≡ got t m → l ≡ encode s t ++ m)
      → (t : Tree s) (m : List ℕ) → then r (λ x. got (u x)) ≡ got t m → b ∷ l ≡ encode s t ++ m
  was-one b u k l nothing h t m e = absurd (nothing-got e)
  was-one b u k l (got x r) h t m e = rw (← (got-value e), (k x).bytes, ← (got-rest e)) (ap (λ (z : List ℕ). b ∷ z) (h x r refl))

  was-second : (b : ℕ) (v : Tree s → Tree s → Tree s) → Makes s b (two v) → (l : List ℕ) (x : Tree s) (r : List ℕ) → l ≡ encode s x ++ r
      → (z : Got (Tree s)) → ((t : Tree s) (m : List ℕ) → z ≡ got t m → r ≡ encode s t ++ m)
      → (t : Tree s) (m : List ℕ) → then z (λ y. got (v x y)) ≡ got t m → b ∷ l ≡ encode s t ++ m
  was-second b v k l x r i nothing h t m e = absurd (nothing-got e)
  was-second b v k l x r i (got y q) h t m e =
      rw (← (got-value e), (k x y).bytes, ← (got-rest e))
      (ap (λ (z : List ℕ). b ∷ z) (i ∙ ap (λ (z : List ℕ). encode s x ++ z) (h y q refl) ∙ sym (append_assoc (encode s x) (encode s y) q)))

  was-two : (reader : List ℕ → Got (Tree s)) → Was reader → (b : ℕ) (v : Tree s → Tree s → Tree s) → Makes s b (two v) → (l : List ℕ) (r : Got (Tree s)) → reader l ≡ r
      → (t : Tree s) (m : List ℕ) → then r (λ x q. then (reader q) (λ y. got (v x y))) ≡ got t m → b ∷ l ≡ encode s t ++ m
  was-two reader h b v k l nothing i t m e = absurd (nothing-got e)
  was-two reader h b v k l (got x q) i t m e = was-second b v k l x q (h l x q i) (reader q) (h q) t m e

  was-front : (reader : List ℕ → Got (Tree s)) → Was reader → (b : ℕ) (k : Node (Tree s)) → Makes s b k → (l : List ℕ) (t : Tree s) (m : List ℕ)
      → front k reader l ≡ got t m → b ∷ l ≡ encode s t ++ m
  was-front reader h b (leaf x) k l t m e = rw (← (got-value e), k.bytes, ← (got-rest e))
  was-front reader h b (lit g) k [] t m e = absurd (nothing-got e)
  was-front reader h b (lit g) k (n ∷ l) t m e = rw (← (got-value e), (k n).bytes, ← (got-rest e))
  was-front reader h b (one u) k l t m e = was-one b u k l (reader l) (h l) t m e
  was-front reader h b (two v) k l t m e = was-two reader h b v k l (reader l) refl t m e
  was-front reader h b bad k l t m e = absurd (nothing-got e)

  was_read : (n : ℕ) → Was (read_in s n)
  unfolding read_in
  was_read zero l t m e = absurd (nothing-got e)
  was_read (suc n) [] t m e = absurd (nothing-got e)
  was_read (suc n) (b ∷ l) t m e = was-front (read_in s n) (was_read n) b (node_of s b) (made s b) l t m e

  -- Theorem 1: whatever reads as a formula with a rest is its encoding and that rest.
  pub encode-read : (l : List ℕ) (t : Tree s) (m : List ℕ) → read s l ≡ got t m → l ≡ encode s t ++ m
  unfolding read
  encode-read l t m e = was_read (length l) l t m e

  -- Theorem 1: no encoding is a proper prefix of another: what follows equal bytes is equal, and so are the formulas.
  pub encode-prefix : (t u : Tree s) (m r : List ℕ) → encode s t ++ m ≡ encode s u ++ r → (t ≡ u) × (m ≡ r)
  encode-prefix t u m r e =
      let h : got t m ≡ got u r = sym (read-encode t m) ∙ ap (read s) e ∙ read-encode u r in
      (got-value h, got-rest h)

  -- Theorem 1: encodings are injective.
  pub encode_injective : (t u : Tree s) → encode s t ≡ encode s u → t ≡ u
  encode_injective t u e = (encode-prefix t u [] [] (ap (λ (z : List ℕ). z ++ []) e)).0

  -- fuel beyond the length changes nothing
  reread : (n k : ℕ) (l : List ℕ) (t : Tree s) (m : List ℕ) → length l ≤ k → read_in s n l ≡ got t m → got t m ≡ read_in s k l
  reread n k l t m h e =
      let i = was_read n l t m e in
      sym (read_back t k m (omega (arith, simp length-append at (ap length i)))) ∙ ap (read_in s k) (sym i)

  same_read : (n k : ℕ) (l : List ℕ) → length l ≤ n → length l ≤ k → (a b : Got (Tree s)) → read_in s n l ≡ a → read_in s k l ≡ b → a ≡ b
  same_read n k l p q nothing nothing e f = refl
  same_read n k l p q (got t m) b e f = reread n k l t m q e ∙ f
  same_read n k l p q nothing (got t m) e f = sym (reread k n l t m p f ∙ e)

  pub read-fuel : (n : ℕ) (l : List ℕ) → length l ≤ n → read_in s n l ≡ read s l
  unfolding read
  read-fuel n l h = same_read n (length l) l h (omega arith) (read_in s n l) (read_in s (length l) l) refl refl

  pub read-nil : read s [] ≡ nothing
  unfolding read read_in
  read-nil = refl

  front-fuel : (b : ℕ) (l : List ℕ) (k : Node (Tree s)) → front k (read_in s (length l)) l ≡ front k (read s) l
  unfolding read
  front-fuel b l (leaf t) = refl
  front-fuel b l (lit g) = refl
  front-fuel b l (one u) = refl
  front-fuel b l (two v) = second (read_in s (length l) l) refl
    where
      second : (r : Got (Tree s)) → read s l ≡ r → then r (λ x m. then (read_in s (length l) m) (λ y. got (v x y))) ≡ then r (λ x m. then (read s m) (λ y. got (v x y)))
      second nothing e = refl
      second (got x m) e =
          ap (λ (z : Got (Tree s)). then z (λ y. got (v x y)))
          (read-fuel (length l) m (omega (arith, simp length-append at (ap length (encode-read l x m e)))))
  front-fuel b l bad = refl

  -- reading by the first byte
  pub read-cons : (b : ℕ) (l : List ℕ) → read s (b ∷ l) ≡ front (node_of s b) (read s) l
  unfolding read read_in
  read-cons b l = front-fuel b l (node_of s b)

  -- the whole list as a formula
  pub read_all-encode : (t : Tree s) → read_all s (encode s t) ≡ some t
  unfolding read_all
  read_all-encode t = ap wholly (ap (read s) (sym (append-nil (encode s t))) ∙ read-encode t [])

  pub encode-read_all : (l : List ℕ) (t : Tree s) → read_all s l ≡ some t → l ≡ encode s t
  unfolding read_all
  encode-read_all l t e = go (read s l) refl e
    where
      go : (r : Got (Tree s)) → read s l ≡ r → wholly r ≡ some t → l ≡ encode s t
      go nothing i e = absurd (none-ne-some t e)
      go (got u []) i e = encode-read l u [] i ∙ append-nil (encode s u) ∙ ap (encode s) (some-injective u t e)
      go (got u (b ∷ m)) i e = absurd (none-ne-some t e)
