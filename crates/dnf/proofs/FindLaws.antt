-- Laws of finding the clauses of a face, node by node.
use Prim.Native.Nat.{ℕ, zero, suc, ◌+◌, ◌-◌, ◌*◌, ◌≤◌, ◌<◌}
use native.Mathlib.Omega.{arith}
use native.Mathlib.Decide.{ℕ_discrete}
use mathlib.Core.Path.{◌≡◌, refl, sym, ap, ap₂, ◌∙◌}
use mathlib.Core.Option.{Option, none, some}
use mathlib.Core.List.{List, [], ◌∷◌, ◌++◌, append-nil}
use lib.Dec.{eqb}
use borrow.Rule.Slice.PartMut.{put_mid}
use lib.ListN.{length, get_or, set, take, drop, length-append, length-drop, length-set, drop_of_length-le}
use lib.Seq.{length-take-le, take_at, drop_at}
use borrow.Author.Tests.{eq-eqb, ne_eqb}
use Rattle.std.proofs.Common.{Some, None}
use Rattle.formula.specs.Formula.{Face}
use Rattle.formula.specs.Bytes.{dim_width, encode_face, nodes_face}
use Rattle.formula.specs.Answers.{pick}
use Rattle.clauses.specs.Normal.{Handling, limited, pairs, both, clauses}
use Rattle.clauses.specs.Words.{none_of}
use Rattle.clauses.specs.declared.Clause.{Clause as Bits}
use Rattle.clauses.specs.Lists.{Lists, node_list}
use Rattle.clauses.proofs.Lengths.{leaves-nodes, clauses-room}
use Rattle.literals.specs.declared.Found.{Found}
use Rattle.literals.proofs.FaceLaws.{LeafAt, LiteralAt, PartsAt, leaf-at, literal-at, parts_at, parts_same, kind-inside}
use Rattle.dnf.specs.Finding.{ranked, ranked_clause, literal_at, Asks, FoundOf, Finds}

-- ---- a list whose rest was lent

pub rebuilt : {A : Type 0} (n : ℕ) (l r : List A) → put_mid n (length l - n) l r ≡ take n l ++ r
rebuilt n l r = ap (λ m. take n l ++ (r ++ m)) (drop_of_length-le (drop n l) {i = length l - n} (omega (arith, length-drop n l))) ∙ ap (λ m. take n l ++ m) (append-nil r)

-- How many elements the rest has.
pub rest-long : {A : Type 0} (n : ℕ) (l : List A) → length (take (length l - n) (drop n l)) ≡ length l - n
rest-long n l = length-take-le (length l - n) (drop n l) (omega (arith, length-drop n l))

pub rebuilt-long : {A : Type 0} (n : ℕ) (l r : List A) → n ≤ length l → length r ≡ length (take (length l - n) (drop n l)) → length (put_mid n (length l - n) l r) ≡ length l
rebuilt-long n l r h e = ap length (rebuilt n l r) ∙ omega (arith, length-append (take n l) r, length-take-le n l h, e, rest-long n l, h)

pub rebuilt-front : {A : Type 0} (n : ℕ) (l r : List A) → n ≤ length l → take n (put_mid n (length l - n) l r) ≡ take n l
rebuilt-front n l r h = ap (take n) (rebuilt n l r) ∙ take_at (take n l) r n (length-take-le n l h)

pub rebuilt-rest : {A : Type 0} (n : ℕ) (l r : List A) → n ≤ length l → drop n (put_mid n (length l - n) l r) ≡ r
rebuilt-rest n l r h = ap (drop n) (rebuilt n l r) ∙ drop_at (take n l) r n (length-take-le n l h)

-- ---- a leaf

-- An element that was written in front is the list of one.
one : {A : Type 0} (l : List A) (x : A) → 0 < length l → take 1 (set l 0 x) ≡ x ∷ []
one [] x h = absurd (omega (arith, h))
one (y ∷ l) x h = refl

-- Of a constant the kind byte is how many clauses it has.
constant : (b : ℕ) (l : List Bits) {x : Bits} → b < 2 → 0 < length l → x ≡ none_of → pick (eqb b 0) [] (none_of ∷ []) ≡ take b (set l 0 x)
constant zero l h k e = refl
constant (suc zero) l {x} h k e = ap (λ y. y ∷ []) (sym e) ∙ sym (one l x k)
constant (suc (suc b)) l h k e = absurd (omega (arith, h))

module _ (f : List ℕ) (at : ℕ) where
  parts-nodes : {t : Face} {rest : List ℕ} (s : PartsAt f at t rest) → nodes_face t ≡ suc (nodes_face s.left + nodes_face s.right)
  unfolding nodes_face
  parts-nodes s = parts_same nodes_face s refl refl

  pub asks-inside : {n : ℕ} → Asks f at n → at < length f
  asks-inside q = kind-inside f at q.face q.rest q.bytes

  pub asks-literal : {n : ℕ} → Asks f at n → 2 ≤ get_or f at 0 → get_or f at 0 < 4 → at + 1 + dim_width ≤ length f
  asks-literal q h k = (literal-at f at q.face q.rest q.bytes h k).fits

  pub asks-left : {n : ℕ} → Asks f at n → 4 ≤ get_or f at 0 → Asks f (at + 1) n
  asks-left q h =
      let s = parts_at f at q.face q.rest q.bytes h in
      record { face = s.left; rest = encode_face s.right ++ q.rest; bytes = s.first; fits = omega (arith, q.fits, parts-nodes s) }

module _ (H : Handling Bits) (numbers : List ℕ) where
  abbrev listed : Face → Option (List Bits)
  listed t = clauses H (ranked numbers) t

  room : (t : Face) (xs : List Bits) → listed t ≡ some xs → length xs ≤ 16 * (nodes_face t + 1)
  room t xs e = omega (arith, clauses-room H (ranked numbers) t xs e, leaves-nodes t)

  module _ (f : List ℕ) (at : ℕ) where
    leaf-lists : {t : Face} → LeafAt f at t → listed t ≡ some (pick (eqb (get_or f at 0) 0) [] (none_of ∷ []))
    unfolding clauses
    leaf-lists {t} s = by (ℕ_discrete (get_or f at 0) 0)
      where
        by : Dec (get_or f at 0 ≡ 0) → listed t ≡ some (pick (eqb (get_or f at 0) 0) [] (none_of ∷ []))
        by (yes h) = ap listed (s.empty h) ∙ ap (λ b. some (pick b [] (none_of ∷ []))) (sym (eq-eqb (get_or f at 0) 0 h))
        by (no h) = ap listed (s.full h) ∙ ap (λ b. some (pick b [] (none_of ∷ []))) (sym (ne_eqb (get_or f at 0) 0 h))

    pub leaf-finds : (l : List Bits) {x : Bits} {n : ℕ} → get_or f at 0 < 2 → n ≡ get_or f at 0 → 0 < length l → x ≡ none_of → Finds H numbers f at (Some (record { end = at + 1; count = n })) (set l 0 x)
    leaf-finds l {x} h i k e = record {
      it = λ t rest q.
          let s = leaf-at f at t rest q h in
          record { fits = omega (arith, h, i, k, length-set l 0 x); lists = leaf-lists s ∙ ap some (constant (get_or f at 0) l h k e ∙ ap (λ m. take m (set l 0 x)) (sym i)); behind = ap (λ m. at + m) (sym s.ends) };
    }

    literal-lists : {t : Face} → LiteralAt f at t → listed t ≡ some (literal_at numbers f at ∷ [])
    unfolding clauses
    literal-lists s = ap listed s.face ∙ ap (λ k. some (ranked_clause numbers k ∷ [])) s.number

    pub literal-finds : (l : List Bits) {x : Bits} → 2 ≤ get_or f at 0 → get_or f at 0 < 4 → x ≡ literal_at numbers f at → 0 < length l → Finds H numbers f at (Some (record { end = at + 1 + dim_width; count = 1 })) (set l 0 x)
    literal-finds l {x} h k e m = record {
      it = λ t rest p.
          let s = literal-at f at t rest p h k in
          record { fits = omega (arith, m, length-set l 0 x); lists = literal-lists s ∙ ap some (ap (λ y. y ∷ []) (sym e) ∙ sym (one l x m)); behind = omega (arith, s.ends) };
    }

    -- ---- a node over two parts

    none_left : {t : Face} {rest : List ℕ} (s : PartsAt f at t rest) → listed s.left ≡ none → listed t ≡ none
    unfolding clauses
    none_left s e = parts_same listed s (ap (λ o. both (λ x y. limited H (pairs H x y)) o (listed s.right)) e) (ap (λ o. both (λ x y. limited H (x ++ y)) o (listed s.right)) e)

    none_right : {t : Face} {rest : List ℕ} (s : PartsAt f at t rest) {xs : List Bits} → listed s.left ≡ some xs → listed s.right ≡ none → listed t ≡ none
    unfolding clauses
    none_right s i e = parts_same listed s (ap₂ (both (λ x y. limited H (pairs H x y))) i e) (ap₂ (both (λ x y. limited H (x ++ y))) i e)

    -- The clauses of the node, from those of its parts.
    node_lists : {t : Face} {rest : List ℕ} (s : PartsAt f at t rest) {xs ys : List Bits} → listed s.left ≡ some xs → listed s.right ≡ some ys → listed t ≡ node_list H (get_or f at 0) xs ys
    unfolding clauses
    node_lists {t} s {xs} {ys} i j = by (ℕ_discrete (get_or f at 0) 4)
      where
        by : Dec (get_or f at 0 ≡ 4) → listed t ≡ node_list H (get_or f at 0) xs ys
        by (yes h) = ap listed (s.conjoined h) ∙ ap₂ (both (λ x y. limited H (pairs H x y))) i j ∙ ap (λ c. pick c (limited H (pairs H xs ys)) (limited H (xs ++ ys))) (sym (eq-eqb (get_or f at 0) 4 h))
        by (no h) = ap listed (s.disjoined h) ∙ ap₂ (both (λ x y. limited H (x ++ y))) i j ∙ ap (λ c. pick c (limited H (pairs H xs ys)) (limited H (xs ++ ys))) (sym (ne_eqb (get_or f at 0) 4 h))

    pub left-none : {l l' : List Bits} → 4 ≤ get_or f at 0 → Finds H numbers f (at + 1) None l → Finds H numbers f at None l'
    left-none h p = record { it = λ t rest e. let s = parts_at f at t rest e h in none_left s (p.it s.left (encode_face s.right ++ rest) s.first) }

    module _ {a : Found} {l : List Bits} (h : 4 ≤ get_or f at 0) (p : Finds H numbers f (at + 1) (Some a) l) where
      left : {t : Face} {rest : List ℕ} (s : PartsAt f at t rest) → FoundOf H numbers (at + 1) s.left a l
      left {rest = rest} s = p.it s.left (encode_face s.right ++ rest) s.first

      -- Where the right part stands.
      second_at : {t : Face} {rest : List ℕ} (s : PartsAt f at t rest) → drop a.end f ≡ encode_face s.right ++ rest
      second_at {rest = rest} s = ap (λ i. drop i f) (left s).behind ∙ s.second

      module _ {n : ℕ} (q : Asks f at n) where
        own : PartsAt f at q.face q.rest
        own = parts_at f at q.face q.rest q.bytes h

        left-few : a.count ≤ 16 * (nodes_face own.left + 1)
        left-few = let z = left own in omega (arith, room own.left (take a.count l) z.lists, length-take-le a.count l z.fits)

        pub right-later : at < a.end
        right-later = omega (arith, (left own).behind)

        pub asks-right : {m : ℕ} → n ≤ a.count + m → Asks f a.end m
        asks-right k = record { face = own.right; rest = q.rest; bytes = second_at own; fits = omega (arith, q.fits, parts-nodes f at own, left-few, k) }

        pub node-asks : {b : Found} {r : List Bits} → Finds H numbers f a.end (Some b) r → a.count + b.count + 257 ≤ n
        node-asks {b} {r} o =
            let w = o.it own.right q.rest (second_at own) in
            omega (arith, q.fits, parts-nodes f at own, left-few, room own.right (take b.count r) w.lists, length-take-le b.count r w.fits)

      pub right-none : {r l' : List Bits} → Finds H numbers f a.end None r → Finds H numbers f at None l'
      right-none o = record { it = λ t rest e. let s = parts_at f at t rest e h in none_right s (left s).lists (o.it s.right rest (second_at s)) }

      module _ {b : Found} {r : List Bits} (l' : List Bits) (o : Finds H numbers f a.end (Some b) r) (x : take a.count l' ≡ take a.count l) (y : take b.count (drop a.count l') ≡ take b.count r) where
        node : {t : Face} {rest : List ℕ} (s : PartsAt f at t rest) → listed t ≡ node_list H (get_or f at 0) (take a.count l') (take b.count (drop a.count l'))
        node {rest = rest} s = node_lists s (left s).lists (o.it s.right rest (second_at s)).lists ∙ ap₂ (node_list H (get_or f at 0)) (sym x) (sym y)

        pub node-none : {l'' : List Bits} → Lists (node_list H (get_or f at 0) (take a.count l') (take b.count (drop a.count l'))) None l'' → Finds H numbers f at None l''
        node-none z = record { it = λ t rest e. node (parts_at f at t rest e h) ∙ z.told }

        pub node-finds : {n : ℕ} {l'' : List Bits} → Lists (node_list H (get_or f at 0) (take a.count l') (take b.count (drop a.count l'))) (Some n) l'' → Finds H numbers f at (Some (record { end = b.end; count = n })) l''
        node-finds z = record {
          it = λ t rest e.
              let s = parts_at f at t rest e h in
              let w = o.it s.right rest (second_at s) in
              record { fits = z.told.0; lists = node s ∙ z.told.1; behind = omega (arith, w.behind, (left s).behind, s.ends) };
        }
