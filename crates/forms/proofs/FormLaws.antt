-- The nodes and the bytes of normal forms, and the loops that add up the ones and write the others.
use Prim.Native.Nat.{ℕ, zero, suc, ◌+◌, ◌-◌, ◌*◌, ◌≤◌}
use native.Mathlib.Nat.{add-zero}
use native.Mathlib.Omega.{arith}
use mathlib.Core.Path.{◌≡◌, refl, sym, ap, ap₂, ◌∙◌, subst}
use mathlib.Core.Bool.{Bool, true, false}
use mathlib.Core.List.{List, [], ◌∷◌, ◌++◌, append_assoc, append-nil, map, map-map, map_congr_left, flat_map}
use lib.ListN.{length, set, drop, replicate, length-append, length-map, length-replicate}
use lib.Seq.{sets, length-sets}
use Rattle.formula.specs.Formula.{Face, fand, for}
use Rattle.formula.specs.Bytes.{encode_face, nodes_face}
use Rattle.clauses.specs.Normal.{Clause, literal, ands, conjunction, ors, disjunction}
use Rattle.clauses.specs.Words.{bits, select, count}
use Rattle.clauses.specs.declared.Clause.{Clause as Bits}
use Rattle.clauses.proofs.Selecting.{bits-length, select-count}
use Rattle.forms.specs.Forms.{literal_nodes, weight_of, further_nodes, form_nodes, literals_bytes, clause_form, Wrote}

-- ---- faces that nest left

-- A fold of parts into faces by a node with the byte b.
record Nests {A : Type 0} (b : ℕ) (part : A → Face) (fold : Face → List A → Face) : Type 0 where
  node : Face → Face → Face
  bytes : (f g : Face) → encode_face (node f g) ≡ b ∷ (encode_face f ++ encode_face g)
  nodes : (f g : Face) → nodes_face (node f g) ≡ suc (nodes_face f + nodes_face g)
  stop : (f : Face) → fold f [] ≡ f
  more : (f : Face) (x : A) (l : List A) → fold f (x ∷ l) ≡ fold (node f (part x)) l

ands-nest : Nests 4 literal ands
unfolding encode_face nodes_face ands
ands-nest = record { node = fand; bytes = λ f g. refl; nodes = λ f g. refl; stop = λ f. refl; more = λ f k c. refl }

ors-nest : Nests 5 conjunction ors
unfolding encode_face nodes_face ors
ors-nest = record { node = for; bytes = λ f g. refl; nodes = λ f g. refl; stop = λ f. refl; more = λ f c l. refl }

-- Equal bytes pass one another.
replicate-past : (n b : ℕ) (l : List ℕ) → replicate n b ++ (b ∷ l) ≡ b ∷ (replicate n b ++ l)
replicate-past zero b l = refl
replicate-past (suc n) b l = ap (λ (x : List ℕ). b ∷ x) (replicate-past n b l)

module _ {A : Type 0} {b : ℕ} {part : A → Face} {fold : Face → List A → Face} (N : Nests b part fold) where
  nest-bytes : (f : Face) (l : List A) → encode_face (fold f l) ≡ replicate (length l) b ++ (encode_face f ++ flat_map (λ x. encode_face (part x)) l)
  unfolding flat_map
  nest-bytes f [] = ap encode_face (N.stop f) ∙ sym (append-nil (encode_face f))
  nest-bytes f (x ∷ l) =
      let rest = flat_map (λ x. encode_face (part x)) l in
      ap encode_face (N.more f x l)
      ∙ nest-bytes (N.node f (part x)) l
      ∙ ap (λ (y : List ℕ). replicate (length l) b ++ (y ++ rest)) (N.bytes f (part x))
      ∙ replicate-past (length l) b ((encode_face f ++ encode_face (part x)) ++ rest)
      ∙ ap (λ (y : List ℕ). b ∷ (replicate (length l) b ++ y)) (append_assoc (encode_face f) (encode_face (part x)) rest)

  nest-nodes : (f : Face) (l : List A) → nodes_face (fold f l) ≡ nodes_face f + further_nodes (map (λ x. nodes_face (part x)) l)
  unfolding further_nodes
  nest-nodes f [] = ap nodes_face (N.stop f) ∙ sym (add-zero (nodes_face f))
  nest-nodes f (x ∷ l) = ap nodes_face (N.more f x l) ∙ nest-nodes (N.node f (part x)) l ∙ omega (arith, N.nodes f (part x))

-- ---- conjunctions

pub conjunction-bytes : (k : ℕ) (c : Clause) → encode_face (conjunction (k ∷ c)) ≡ replicate (length c) 4 ++ literals_bytes (k ∷ c)
unfolding conjunction literals_bytes flat_map
conjunction-bytes k c = nest-bytes ands-nest (literal k) c

literal-nodes : (k : ℕ) → nodes_face (literal k) ≡ 1
unfolding literal nodes_face
literal-nodes k = refl

literals-nodes : (c : Clause) → further_nodes (map (λ k. nodes_face (literal k)) c) ≡ 2 * length c
unfolding further_nodes
literals-nodes [] = refl
literals-nodes (k ∷ c) = omega (arith, literal-nodes k, literals-nodes c)

pub conjunction-nodes : (c : Clause) → nodes_face (conjunction c) ≡ literal_nodes (length c)
unfolding conjunction nodes_face
conjunction-nodes [] = refl
conjunction-nodes (k ∷ c) = nest-nodes ands-nest (literal k) c ∙ omega (arith, literal-nodes k, literals-nodes c)

-- ---- disjunctions

pub disjunction-none : encode_face (disjunction []) ≡ 0 ∷ []
unfolding disjunction encode_face
disjunction-none = refl

pub disjunction-bytes : (c : Clause) (l : List Clause) → encode_face (disjunction (c ∷ l)) ≡ replicate (length l) 5 ++ flat_map (λ d. encode_face (conjunction d)) (c ∷ l)
unfolding disjunction flat_map
disjunction-bytes c l = nest-bytes ors-nest (conjunction c) l

pub disjunction-nodes : (l : List Clause) → nodes_face (disjunction l) ≡ form_nodes (map (λ c. nodes_face (conjunction c)) l)
unfolding disjunction nodes_face form_nodes
disjunction-nodes [] = refl
disjunction-nodes (c ∷ l) = nest-nodes ors-nest (conjunction c) l

-- ---- clauses as bits

-- As many literals are chosen as bits are set.
pub clause-count : (ks : List ℕ) (c : Bits) → length ks ≡ 256 → length (select ks (bits c)) ≡ count (bits c)
clause-count ks c e = select-count ks (bits c) (e ∙ sym (bits-length c))

count-few : (b : List Bool) → count b ≤ length b
unfolding count
count-few [] = omega arith
count-few (true ∷ b) = omega (arith, count-few b)
count-few (false ∷ b) = omega (arith, count-few b)

pub ones-few : (c : Bits) → count (bits c) ≤ 256
ones-few c = omega (arith, count-few (bits c), bits-length c)

pub literal_nodes-few : (m : ℕ) → m ≤ 256 → literal_nodes m ≤ 511
literal_nodes-few zero h = omega arith
literal_nodes-few (suc m) h = omega arith

pub weight-few : (c : Bits) → weight_of c ≤ 511
unfolding weight_of
weight-few c = literal_nodes-few (count (bits c)) (ones-few c)

pub clause-nodes : (ks : List ℕ) (c : Bits) → length ks ≡ 256 → nodes_face (conjunction (select ks (bits c))) ≡ weight_of c
unfolding weight_of
clause-nodes ks c e = conjunction-nodes (select ks (bits c)) ∙ ap literal_nodes (clause-count ks c e)

pub form-nodes : (ks : List ℕ) (cs : List Bits) → length ks ≡ 256 → nodes_face (disjunction (map (λ c. select ks (bits c)) cs)) ≡ form_nodes (map weight_of cs)
form-nodes ks cs e =
    disjunction-nodes (map (λ c. select ks (bits c)) cs)
    ∙ ap form_nodes (map-map (λ d. nodes_face (conjunction d)) (λ c. select ks (bits c)) cs ∙ map_congr_left {l = cs} (λ c m. clause-nodes ks c e))

pub flat_map-map : {A B : Type 0} (g : B → List ℕ) (f : A → B) (l : List A) → flat_map g (map f l) ≡ flat_map (λ x. g (f x)) l
unfolding flat_map
flat_map-map g f [] = refl
flat_map-map g f (x ∷ l) = ap (λ (r : List ℕ). g (f x) ++ r) (flat_map-map g f l)

-- The bytes of no clauses, and of some.
pub form-none : (ks : List ℕ) (cs : List Bits) → length cs ≡ 0 → encode_face (disjunction (map (λ c. select ks (bits c)) cs)) ≡ 0 ∷ []
form-none ks [] e = disjunction-none
form-none ks (c ∷ cs) e = absurd (omega (arith, e))

pub form-bytes : (ks : List ℕ) (cs : List Bits) → 1 ≤ length cs → encode_face (disjunction (map (λ c. select ks (bits c)) cs)) ≡ replicate (length cs - 1) 5 ++ flat_map (clause_form ks) cs
unfolding clause_form
form-bytes ks [] h = absurd (omega (arith, h))
form-bytes ks (c ∷ cs) h =
    let many : length (map (λ c. select ks (bits c)) cs) ≡ length (c ∷ cs) - 1 = length-map cs (λ c. select ks (bits c)) ∙ omega arith in
    disjunction-bytes (select ks (bits c)) (map (λ c. select ks (bits c)) cs)
    ∙ ap₂ (λ (n : ℕ) (r : List ℕ). replicate n 5 ++ r) many (flat_map-map (λ d. encode_face (conjunction d)) (λ c. select ks (bits c)) (c ∷ cs))

-- ---- a loop that adds up weights

-- The sum over the first i elements has a for with each, one more than the form.
pub record Summing {A : Type 0} (weigh : A → ℕ) (xs : List A) (i total : ℕ) : Type 0 where
  pub left : total + further_nodes (map weigh (drop i xs)) ≡ further_nodes (map weigh xs)
  pub few : total ≤ 512 * i

pub summing-next : {A : Type 0} {weigh : A → ℕ} {xs : List A} {i total w : ℕ} {x : A} → Summing weigh xs i total → drop i xs ≡ x ∷ drop (i + 1) xs → w ≡ weigh x → w ≤ 511 → Summing weigh xs (i + 1) (total + (w + 1))
unfolding further_nodes
summing-next {weigh = weigh} {xs} {i} {total} {w} s e k h = record { left = omega (arith, s.left, ap (λ l. further_nodes (map weigh l)) e, k); few = omega (arith, s.few, h) }

further-form : (ws : List ℕ) → 1 ≤ length ws → further_nodes ws ≡ form_nodes ws + 1
unfolding further_nodes form_nodes
further-form [] h = absurd (omega (arith, h))
further-form (w ∷ ws) h = omega arith

pub summing-end : {A : Type 0} {weigh : A → ℕ} {xs : List A} {i total : ℕ} → Summing weigh xs i total → drop i xs ≡ [] → 1 ≤ length xs → total ≡ form_nodes (map weigh xs) + 1
unfolding further_nodes
summing-end {weigh = weigh} {xs} s e h = omega (arith, s.left, ap (λ l. further_nodes (map weigh l)) e, further-form (map weigh xs) (omega (arith, h, length-map xs weigh)))

pub summing-none : {A : Type 0} (weigh : A → ℕ) (xs : List A) → length xs ≡ 0 → form_nodes (map weigh xs) ≡ 1
unfolding form_nodes
summing-none weigh [] e = refl
summing-none weigh (x ∷ xs) e = absurd (omega (arith, e))

-- ---- bytes one after another

sets-append : (x y d : List ℕ) (i : ℕ) → sets (sets d i x) (i + length x) y ≡ sets d i (x ++ y)
sets-append [] y d i = ap (λ (n : ℕ). sets d n y) (add-zero i)
sets-append (a ∷ x) y d i = ap (λ (n : ℕ). sets (sets (set d i a) (suc i) x) n y) (omega arith) ∙ sets-append x y (set d i a) (suc i)

pub wrote_none : {out : List ℕ} {to : ℕ} → Wrote out to [] to out
wrote_none {to = to} = record { next = sym (add-zero to); stored = refl }

pub wrote-next : {out out' out'' x y : List ℕ} {to m r : ℕ} → Wrote out to x m out' → Wrote out' m y r out'' → Wrote out to (x ++ y) r out''
wrote-next {out} {x = x} {y} {to} h k =
    record {
      next = k.next ∙ ap (λ (n : ℕ). n + length y) h.next ∙ omega (arith, length-append x y);
      stored = k.stored ∙ ap₂ (λ (o : List ℕ) (n : ℕ). sets o n y) h.stored h.next ∙ sets-append x y out to;
    }

pub wrote-length : {out out' x : List ℕ} {to r : ℕ} → Wrote out to x r out' → length out' ≡ length out
wrote-length {out} {x = x} {to} h = ap length h.stored ∙ length-sets out to x

-- The same bytes, told in another way.
pub wrote_as : {out out' x y : List ℕ} {to r : ℕ} → x ≡ y → Wrote out to x r out' → Wrote out to y r out'
wrote_as {out} {out'} {to = to} {r} e h = subst (λ (x : List ℕ). Wrote out to x r out') e h

-- Room for all is room for the equal bytes in front.
pub times-room : (b n to : ℕ) (rest : List ℕ) {whole : List ℕ} {room : ℕ} → whole ≡ replicate n b ++ rest → to + length whole ≤ room → to + n ≤ room
times-room b n to rest e h = omega (arith, h, ap length e, length-append (replicate n b) rest, length-replicate n b)

-- ---- a loop that writes the bytes of elements

-- What is written so far, with the bytes of the elements that are left, is the whole.
pub record Printing {A : Type 0} (form : A → List ℕ) (whole out₀ : List ℕ) (from : ℕ) (rest : List A) (to : ℕ) (out : List ℕ) : Type 0 where
  pub done : List ℕ
  pub wrote : Wrote out₀ from done to out
  pub left : done ++ flat_map form rest ≡ whole

pub printing-start : {A : Type 0} {form : A → List ℕ} {whole first out₀ out : List ℕ} {from to : ℕ} {xs : List A} → Wrote out₀ from first to out → first ++ flat_map form xs ≡ whole → Printing form whole out₀ from xs to out
printing-start {first = first} h e = record { done = first; wrote = h; left = e }

module _ {A : Type 0} {form : A → List ℕ} {whole out₀ : List ℕ} {from : ℕ} {rest : List A} {to : ℕ} {out : List ℕ} (p : Printing form whole out₀ from rest to out) where
  taken : {x : A} {ys : List A} → rest ≡ x ∷ ys → (p.done ++ form x) ++ flat_map form ys ≡ whole
  unfolding flat_map
  taken {x} {ys} e = append_assoc p.done (form x) (flat_map form ys) ∙ ap (λ l. p.done ++ flat_map form l) (sym e) ∙ p.left

  pub printing-room : {x : A} {ys : List A} → rest ≡ x ∷ ys → from + length whole ≤ length out₀ → to + length (form x) ≤ length out
  printing-room {x} {ys} e h = omega (arith, h, p.wrote.next, wrote-length p.wrote, ap length (taken e), length-append (p.done ++ form x) (flat_map form ys), length-append p.done (form x))

  pub printing-next : {x : A} {ys : List A} {to' : ℕ} {out' : List ℕ} → rest ≡ x ∷ ys → Wrote out to (form x) to' out' → Printing form whole out₀ from ys to' out'
  printing-next {x} e w = record { done = p.done ++ form x; wrote = wrote-next p.wrote w; left = taken e }

  pub printing-end : rest ≡ [] → Wrote out₀ from whole to out
  unfolding flat_map
  printing-end e = wrote_as (sym (append-nil p.done) ∙ ap (λ l. p.done ++ flat_map form l) (sym e) ∙ p.left) p.wrote

  pub printing-length : length out ≡ length out₀
  printing-length = wrote-length p.wrote

pub form-room : (ks : List ℕ) (cs : List Bits) (to : ℕ) {room : ℕ} → 1 ≤ length cs → to + length (encode_face (disjunction (map (λ c. select ks (bits c)) cs))) ≤ room → to + (length cs - 1) ≤ room
form-room ks cs to h r = times-room 5 (length cs - 1) to (flat_map (clause_form ks) cs) (form-bytes ks cs h) r
