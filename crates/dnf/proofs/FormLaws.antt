-- Laws of forming the bytes of a normal form from the clauses of a face.
use Prim.Native.Nat.{ℕ, zero, suc, ◌≤◌, ◌<◌}
use native.Mathlib.Omega.{arith}
use mathlib.Core.Path.{◌≡◌, refl, sym, ap, ◌∙◌, subst}
use mathlib.Core.Option.{none, some}
use mathlib.Core.List.{List, [], ◌∷◌, ◌++◌, map, append-nil}
use lib.ListN.{length, take, drop}
use borrow.Author.Tests.{le-leb, lt-leb}
use Rattle.std.proofs.Common.{Some, None}
use Rattle.formula.specs.Formula.{Face}
use Rattle.formula.specs.Bytes.{encode_face, nodes_face, max_nodes}
use Rattle.formula.specs.declared.Sort.TheVariants.{Faces}
use Rattle.formula.proofs.Nodes.{len_short}
use Rattle.formula.specs.Answers.{pick}
use Rattle.clauses.specs.Normal.{Handling}
use Rattle.clauses.specs.Shape.{All, nothing, each}
use Rattle.clauses.specs.declared.Clause.{Clause as Bits}
use Rattle.clauses.proofs.Lengths.{clauses-few}
use Rattle.literals.specs.declared.Found.{Found}
use Rattle.forms.specs.Forms.{weight_of, form_nodes, Wrote}
use Rattle.forms.proofs.FormLaws.{form-nodes}
use Rattle.dnf.specs.Finding.{ranked, Asks, FoundOf, Finds}
use Rattle.dnf.specs.Forming.{form_of, form_bytes, short_form, Printable, Shapes, Forms}

-- What holds of every element holds of the one at a place.
pub all-at : {A : Type 0} {P : A → Type 0} (i : ℕ) {xs ys : List A} {x : A} → All P xs → drop i xs ≡ x ∷ ys → P x
all-at {A = A} {P} i {xs} {ys} {x} h e = first (subst (All P) e (rest i h))
  where
    rest : (n : ℕ) {zs : List A} → All P zs → All P (drop n zs)
    rest zero h = h
    rest (suc n) nothing = nothing
    rest (suc n) (each p h) = rest n h

    first : All P (x ∷ ys) → P x
    first (each p h) = p

-- What finding its clauses asks of a face.
pub shapes-asks : {H : Handling Bits} {numbers f : List ℕ} {room out : ℕ} → Shapes H numbers f room out → Asks f 0 room
shapes-asks s = record { face = s.face; rest = []; bytes = s.bytes ∙ sym (append-nil (encode_face s.face)); fits = s.fits }

module _ (H : Handling Bits) (numbers f : List ℕ) where
  whole : (t : Face) → f ≡ encode_face t → f ≡ encode_face t ++ []
  whole t e = e ∙ sym (append-nil (encode_face t))

  -- Too many clauses.
  pub formed-none : {l : List Bits} {out : List ℕ} → Finds H numbers f 0 None l → Forms H numbers f out None out
  formed-none p = record { it = λ t e. record { told = (ap (short_form numbers) (p.it t [] (whole t e)), refl) } }

  module _ {z : Found} {l : List Bits} (p : Finds H numbers f 0 (Some z) l) where
    found : (t : Face) → f ≡ encode_face t → FoundOf H numbers 0 t z l
    found t e = p.it t [] (whole t e)

    -- The clauses that were found.
    abbrev form : List Bits
    form = take z.count l

    module _ {room out : ℕ} (s : Shapes H numbers f room out) where
      pub formed-few : length form ≤ 256
      formed-few = clauses-few H (ranked numbers) s.face form (found s.face s.bytes).lists

      module _ {size : ℕ} (e : size ≡ form_nodes (map weight_of form)) where
        counted : nodes_face (form_of numbers form) ≡ size
        counted = form-nodes numbers form s.many ∙ sym e

        -- Too many nodes.
        pub formed-large : {o : List ℕ} → max_nodes < size → Forms H numbers f o None o
        formed-large h = record {
          it = λ t q. record { told = (ap (short_form numbers) (found t q).lists ∙ ap (λ b. pick b (some (form_bytes numbers form)) none) (lt-leb (nodes_face (form_of numbers form)) max_nodes (omega (arith, counted, h))), refl) };
        }

        pub formed-prints : size ≤ max_nodes → Printable numbers form out
        formed-prints h = record {
          many = s.many;
          fielded = s.fielded form (found s.face s.bytes).lists;
          fits = omega (arith, len_short Faces (form_of numbers form), counted, h, s.writes);
        }

        pub formed-done : {o o' : List ℕ} {n : ℕ} → size ≤ max_nodes → Wrote o 0 (form_bytes numbers form) n o' → Forms H numbers f o (Some n) o'
        formed-done h w = record {
          it = λ t q. record { told = (form_bytes numbers form, ap (short_form numbers) (found t q).lists ∙ ap (λ b. pick b (some (form_bytes numbers form)) none) (le-leb (nodes_face (form_of numbers form)) max_nodes (omega (arith, counted, h))), w) };
        }
