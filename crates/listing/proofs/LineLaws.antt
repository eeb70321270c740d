-- The parts of a step's line.
use Prim.Native.Nat.{ℕ, zero, suc, ◌+◌, ◌*◌, ◌/◌, ◌%◌, ◌≤◌, ◌<◌}
use native.Mathlib.Omega.{arith}
use native.Mathlib.Nat.{mul-le-mul_left}
use native.Mathlib.Numerals.{add-one}
use mathlib.Core.Path.{◌≡◌, refl, sym, ap, ◌∙◌, subst}
use mathlib.Core.Bool.{Bool, true, false, ◌&&◌, and-eq-true_iff}
use mathlib.Core.List.{List, [], ◌∷◌, ◌++◌, map, append-nil, append_assoc}
use borrow.Author.Tests.{leb-true, le-leb, lt-ltb, le-ltb}
use lib.Dec.{ltb}
use lib.ListN.{length, get_or, take, length-append, length-drop, get_or-map}
use Rattle.formula.specs.declared.Sort.TheVariants.{Faces, Intervals}
use Rattle.formula.specs.Formula.{Face}
use Rattle.formula.specs.Bytes.{bound_face, got, max_nodes, max_bound}
use Rattle.formula.specs.Answers.{pick}
use Rattle.calculus.specs.Judgement.{Judgement, Step}
use Rattle.calculus.specs.Table.{Pred, unlisted, table, predicate, text_bytes, p_lt, p_le, p_interval, p_face, p_member, p_take, p_cover, p_entails, p_boundary, p_local, p_fforall, p_ishift, p_isubst, p_fshift, p_fsubst}
use Rattle.calculus.specs.Rules.{AllBelow, step_at}
use Rattle.calculus.specs.Record.{Field, number, index, context, end, formula, Value, nodes_in, bound_in, few_nodes, low_bound, belongs, allowed, fields, Values, operands, operand_bytes, all_allowed, bound_context, FormedStep}
use Rattle.calculus.specs.Search.{nodes_context}
use Rattle.calculus.specs.Parse.{read_values, read_ledger}
use Rattle.calculus.proofs.Searching.{nodes-positive}
use Rattle.calculus.proofs.Fields.{read-values}
use Rattle.kinds.specs.Kinds.{number_of, predicate_of, name_in, name_bytes, field_as}
use Rattle.kinds.specs.declared.Field.{Field as Told}
use Rattle.kinds.proofs.KindLaws.{numbered, all_below, below_at, few-references}
use Rattle.ledger.specs.Ledger.{steps_of, place_of, Led, Points, steps_in}
use Rattle.ledger.proofs.LedgerLaws.{formed-at-0, many, place-next, place_end}
use Rattle.ledger.proofs.PointLaws.{points-entry}
use Rattle.refusals.specs.declared.Refusal.TheVariants.{IllFormedLedger, ShortOutput}
use Rattle.refusals.specs.declared.Refusal.{Refusal}
use Rattle.std.specs.Prelude.{Result, Ok, Err}
use Rattle.ledger.specs.Checks.{step_count}
use Rattle.text.specs.Answers.{delivered}
use Rattle.text.specs.Wholes.{Delivers}
use Rattle.listing.specs.Answers.{line_of, WritesStep}
use mathlib.Core.Option.{Option, none, some}
use Rattle.writing.specs.Texts.{items_text, face_text, digits_in, decimal_text}
use Rattle.writing.specs.Writing.{Room, Wrote}
use Rattle.writing.proofs.WriteLaws.{wrote_as, wrote-next, room-first, room_next}
use Rattle.writing.proofs.NumberLaws.{unary-length}
use Rattle.writing.proofs.TextLaws.{text-long}
use Rattle.listing.specs.Lines.{context_text, field_text, value_texts, predicate_name, predicate_names, judgement_text, references_text, head_text, line_text}
use Rattle.listing.specs.Writing.{field_of, comma_text, ValuesFront, ValuesPrint, step_of, Shows}
use Rattle.listing.proofs.ValueLaws.{fields-front, fields-told, four-fields}

-- Names ------------------------------------------------------------------------------------------------

short-names : all_below 17 (map (λ x. length (name_in x)) table) ≡ true
unfolding all_below table text_bytes
short-names = refl

pub name-short : (k : ℕ) → length (name_bytes k) ≤ 16
unfolding name_bytes
name-short zero = omega arith
name-short (suc k) = omega (arith, get_or-map (λ x. length (name_in x)) table k unlisted, below_at 17 (map (λ x. length (name_in x)) table) k (omega arith) short-names)

-- The names of the predicates, by their numbers.
pub predicate-named : (p : Pred) → get_or predicate_names (number_of p) [] ≡ predicate_name p
predicate-named p_lt = refl
predicate-named p_le = refl
predicate-named p_interval = refl
predicate-named p_face = refl
predicate-named p_member = refl
predicate-named p_take = refl
predicate-named p_cover = refl
predicate-named p_entails = refl
predicate-named p_boundary = refl
predicate-named p_local = refl
predicate-named p_fforall = refl
predicate-named p_ishift = refl
predicate-named p_isubst = refl
predicate-named p_fshift = refl
predicate-named p_fsubst = refl

-- References -------------------------------------------------------------------------------------------

-- One reference more.
references-more : (is : List ℕ) (j : ℕ) → j < length is → references_text (take (suc j) is) ≡ references_text (take j is) ++ (comma_text j ++ decimal_text (get_or is j 0))
unfolding references_text
references-more [] j h = absurd (omega arith)
references-more (i ∷ is) zero h = refl
references-more (i ∷ []) (suc j) h = absurd (omega arith)
references-more (i ∷ (e ∷ is)) (suc zero) h = refl
references-more (i ∷ (e ∷ is)) (suc (suc j)) h =
    ap (λ x. decimal_text i ++ (44 ∷ x)) (references-more (e ∷ is) (suc j) (omega arith))
    ∙ sym (append_assoc (decimal_text i) (44 ∷ references_text (take (suc j) (e ∷ is))) (44 ∷ decimal_text (get_or is j 0)))

references-part : (is : List ℕ) (j : ℕ) → length (references_text (take j is)) ≤ length (references_text is)
unfolding references_text
references-part [] zero = omega arith
references-part [] (suc j) = omega arith
references-part (i ∷ is) zero = omega arith
references-part (i ∷ []) (suc zero) = omega arith
references-part (i ∷ []) (suc (suc j)) = omega arith
references-part (i ∷ (e ∷ is)) (suc zero) = omega (arith, length-append (decimal_text i) (44 ∷ references_text (e ∷ is)))
references-part (i ∷ (e ∷ is)) (suc (suc j)) =
    omega (arith, references-part (e ∷ is) (suc j), length-append (decimal_text i) (44 ∷ references_text (e ∷ is)), length-append (decimal_text i) (44 ∷ references_text (e ∷ take j is)))

module _ (is : List ℕ) (j : ℕ) {out out' : List ℕ} {to at : ℕ} (h : j < length is) (r : Room to (references_text is)) (w : Wrote (references_text (take j is)) out to at out') where
  -- What is written next: a comma, but not in front of the first, and a reference.
  reference-room : Room at (comma_text j ++ decimal_text (get_or is j 0))
  reference-room =
      record { fits = omega (arith, r.fits, w.end, references-part is (suc j), ap length (references-more is j h), length-append (references_text (take j is)) (comma_text j ++ decimal_text (get_or is j 0))) }

  pub comma-room : Room at (comma_text j)
  comma-room = room-first (comma_text j) (decimal_text (get_or is j 0)) reference-room

  module _ {a : ℕ} {out₁ : List ℕ} (v : Wrote (comma_text j) out' at a out₁) where
    pub decimal-room : Room a (decimal_text (get_or is j 0))
    decimal-room = room_next (decimal_text (get_or is j 0)) reference-room v

    pub reference-wrote : {b : ℕ} {out₂ : List ℕ} → Wrote (decimal_text (get_or is j 0)) out₁ a b out₂ → Wrote (references_text (take (j + 1) is)) out to b out₂
    reference-wrote u = wrote_as (sym (references-more is j h) ∙ ap (λ k. references_text (take k is)) (sym (add-one j))) (wrote-next w (wrote-next v u))

-- What stands before the judgement, from its parts.
pub head-is : (i : ℕ) (s : Step) → decimal_text i ++ (32 ∷ name_bytes s.kind ++ ((32 ∷ 91 ∷ []) ++ (references_text s.references ++ (93 ∷ 32 ∷ [])))) ≡ head_text i s
unfolding head_text
head-is i s = refl

-- Judgements -------------------------------------------------------------------------------------------

pub formed : {l : List ℕ} {step at : ℕ} → Points l step at → FormedStep step (step_of l step)
formed {step = step} h = formed-at-0 h.led step h.inside

module _ (j : Judgement) {p : ℕ} (e : p ≡ number_of (predicate j)) where
  -- The text of a judgement, from its predicate's number.
  pub judgement-is : 40 ∷ get_or predicate_names p [] ++ items_text (value_texts (fields (predicate j)) (operands j)) ≡ judgement_text j
  unfolding judgement_text
  judgement-is = ap (λ (n : List ℕ). 40 ∷ n ++ items_text (value_texts (fields (predicate j)) (operands j))) (ap (λ p. get_or predicate_names p []) e ∙ predicate-named (predicate j))

module _ (j : Judgement) {p : ℕ} {x : List ℕ} {ks : List Told} (e : p ≡ number_of (predicate j)) (f : ks ≡ map field_as (fields (predicate_of p))) (i : x ≡ operand_bytes j) where
  all-fields : map field_of ks ≡ fields (predicate j)
  all-fields = ap (map field_of) f ∙ fields-told (fields (predicate_of p)) ∙ ap fields (ap predicate_of e ∙ (numbered (predicate j)).0)

  module _ (a : all_allowed (fields (predicate j)) (operands j) ≡ true) where
    reads-operands : read_values (fields (predicate j)) x ≡ got (operands j) []
    reads-operands = ap (read_values (fields (predicate j))) (i ∙ sym (append-nil (operand_bytes j))) ∙ read-values (fields (predicate j)) (operands j) [] a

    pub operands-front : {to : ℕ} → Room to (items_text (value_texts (fields (predicate j)) (operands j))) → ValuesFront (map field_of ks) x to
    operands-front {to} r = fields-front (sym all-fields) (record { value = operands j; rest = []; reads = reads-operands; room = r })

    pub operands-wrote : {out out' : List ℕ} {to r : ℕ} → ValuesPrint (map field_of ks) x out to r out' → Wrote (items_text (value_texts (fields (predicate j)) (operands j))) out to r out'
    operands-wrote {out} {out'} {to} {r} h = (subst (λ (cs : List Field). ValuesPrint cs x out to r out') all-fields h).it (operands j) [] reads-operands

-- How long a line can be -------------------------------------------------------------------------------

context-short : (G : List Face) → bound_context G ≤ max_bound → length (context_text G) ≤ 4 + 1043 * nodes_context G
unfolding context_text bound_context nodes_context items_text text_bytes
context-short [] h = omega arith
context-short (f ∷ G) h =
    let p : bound_face f ≤ max_bound = omega arith in
    let q : bound_context G ≤ max_bound = omega arith in
    omega (arith, text-long Faces f p, nodes-positive f, context-short G q, length-append (face_text f) (32 ∷ context_text G ++ (41 ∷ [])), length-append (context_text G) (41 ∷ []))

-- What is allowed in a field is within the limits.
limits : (c : Field) (x : Value c) → allowed c x ≡ true → (nodes_in c x ≤ max_nodes) × (bound_in c x ≤ max_bound)
limits c x h =
    let p = ((and-eq-true_iff (belongs c x) (few_nodes c x && low_bound c x)).0 h).1 in
    let q = (and-eq-true_iff (few_nodes c x) (low_bound c x)).0 p in
    (leb-true _ _ q.0, leb-true _ _ q.1)

field-short : (c : Field) (x : Value c) → allowed c x ≡ true → length (field_text c x) ≤ 540000
field-short number n h = let k = limits number n h in omega (arith, unary-length n, k.1)
field-short index n h = let k = limits index n h in omega (arith, unary-length n, k.1)
field-short context G h = let k = limits context G h in omega (arith, context-short G k.1, k.0)
field-short end r h = let k = limits end r h in omega (arith, text-long Intervals r k.1, k.0)
field-short (formula s) t h = let k = limits (formula s) t h in omega (arith, text-long s t k.1, k.0)

values-short : (cs : List Field) (xs : Values cs) → all_allowed cs xs ≡ true → length (items_text (value_texts cs xs)) ≤ 1 + 540001 * length cs
unfolding items_text
values-short [] xs h = omega arith
values-short (c ∷ cs) xs h =
    let p = (and-eq-true_iff (allowed c xs.0) (all_allowed cs xs.1)).0 h in
    omega (arith, field-short c xs.0 p.0, values-short cs xs.1 p.1, length-append (field_text c xs.0) (items_text (value_texts cs xs.1)))

digits-short : (k n : ℕ) → length (digits_in k n) ≤ k
unfolding digits_in
digits-short zero n = omega arith
digits-short (suc k) n = by (ltb n 10) (digits-short k (n / 10))
  where
    by : (t : Bool) → length (digits_in k (n / 10)) ≤ k → length (pick t ((48 + n) ∷ []) (digits_in k (n / 10) ++ ((48 + n % 10) ∷ []))) ≤ suc k
    by true h = omega arith
    by false h = omega (arith, length-append (digits_in k (n / 10)) ((48 + n % 10) ∷ []))

pub decimal-short : (n : ℕ) → length (decimal_text n) ≤ n + 1
unfolding decimal_text
decimal-short n = omega (arith, digits-short (suc n) n)

references-short : (i : ℕ) (is : List ℕ) → AllBelow i is → length (references_text is) ≤ (i + 1) * length is
unfolding references_text
references-short i [] h = omega arith
references-short i (k ∷ []) h = omega (arith, decimal-short k, h.0)
references-short i (k ∷ (e ∷ is)) h = omega (arith, decimal-short k, h.0, references-short i (e ∷ is) h.1, length-append (decimal_text k) (44 ∷ references_text (e ∷ is)))

predicate-short : (p : Pred) → length (predicate_name p) ≤ 8
unfolding text_bytes
predicate-short p_lt = omega arith
predicate-short p_le = omega arith
predicate-short p_interval = omega arith
predicate-short p_face = omega arith
predicate-short p_member = omega arith
predicate-short p_take = omega arith
predicate-short p_cover = omega arith
predicate-short p_entails = omega arith
predicate-short p_boundary = omega arith
predicate-short p_local = omega arith
predicate-short p_fforall = omega arith
predicate-short p_ishift = omega arith
predicate-short p_isubst = omega arith
predicate-short p_fshift = omega arith
predicate-short p_fsubst = omega arith

judgement-short : (j : Judgement) → all_allowed (fields (predicate j)) (operands j) ≡ true → length (judgement_text j) ≤ 2160100
unfolding judgement_text
judgement-short j a =
    let n = predicate_name (predicate j) in
    let v = items_text (value_texts (fields (predicate j)) (operands j)) in
    omega (arith, length-append n v, predicate-short (predicate j), values-short (fields (predicate j)) (operands j) a, ap length (four-fields (predicate j)), length-drop 4 (fields (predicate j)))

head-short : (i : ℕ) (s : Step) → AllBelow i s.references → length s.references ≤ 3 → length (head_text i s) ≤ 4 * i + 25
unfolding head_text
head-short i s b k =
    let r = references_text s.references in
    let m : (i + 1) * length s.references ≤ (i + 1) * 3 = mul-le-mul_left (i + 1) k in
    omega (
      arith,
      decimal-short i,
      name-short s.kind,
      references-short i s.references b,
      length-append (decimal_text i) (32 ∷ name_bytes s.kind ++ (32 ∷ 91 ∷ r ++ (93 ∷ 32 ∷ []))),
      length-append (name_bytes s.kind) (32 ∷ 91 ∷ r ++ (93 ∷ 32 ∷ [])),
      length-append r (93 ∷ 32 ∷ []),
    )

-- The line of a step of a ledger.
pub line-short : {l : List ℕ} {step at : ℕ} → Points l step at → length (line_text step (step_of l step)) ≤ 4 * length l + 2160200
unfolding line_text
line-short {l} {step} h =
    let s = step_of l step in
    let f = formed h in
    let k = few-references s.kind (record { references = length s.references; predicate = number_of (predicate s.judgement) }) (sym (points-entry h)) in
    let b : step ≤ length l = omega (arith, many (steps_of l) step h.inside, place-next (steps_of l) step h.inside, place_end (steps_of l) step h.inside, h.led.fits) in
    omega (
      arith,
      head-short step s f.earlier k,
      judgement-short s.judgement f.limits,
      length-append (head_text step s) (judgement_text s.judgement ++ (10 ∷ [])),
      length-append (judgement_text s.judgement) (10 ∷ []),
    )

pub line-room : {l : List ℕ} {step at : ℕ} → Points l step at → Room 0 (line_text step (step_of l step))
line-room h = record { fits = omega (arith, line-short h, h.led.small) }

pub line-is : (i : ℕ) (s : Step) → head_text i s ++ (judgement_text s.judgement ++ (10 ∷ [])) ≡ line_text i s
unfolding line_text
line-is i s = refl

pub line-of : (l : List ℕ) {out out' : List ℕ} {step i to r : ℕ} → step ≡ i → Wrote (line_text step (step_of l step)) out to r out' → Wrote (line_text i (step_of l i)) out to r out'
line-of l e w = wrote_as (ap (λ (i : ℕ). line_text i (step_of l i)) e) w

-- Where the line of a step is asked for.
pub line-shows : {l : List ℕ} {i step at : ℕ} → Led l → i < length (steps_of l) → step ≡ i → at ≡ place_of (steps_of l) i → Shows l step at (line_text step) 0
line-shows {l} {i} {step} {at} h k e f =
    let p : Points l step at = record { led = h; inside = omega (arith, e); place = f ∙ ap (place_of (steps_of l)) (sym e) } in
    record { points = p; room = line-room p }

-- What is answered of a step, by the check of the ledger.
module _ {l : List ℕ} where
  pub step-ill : (i : ℕ) (out : List ℕ) {q : Refusal} → Err q ≡ step_count (read_ledger l) → WritesStep l i out (Err q) out
  step-ill i out {q} e = record { equal = go (read_ledger l) (sym e) }
    where
      go : (o : Option (List Step)) → step_count o ≡ Err q → delivered (line_of o i) out ≡ record { answer = Err q; output = out }
      go none k = ap (λ q. record { answer = Err q; output = out }) (let z : IllFormedLedger ≡ q = cc in z)
      go (some L) k = cc

  module _ {n : ℕ} (e : Ok n ≡ step_count (read_ledger l)) where
    pub step_past : (i : ℕ) (out : List ℕ) → n ≤ i → WritesStep l i out (Ok 0) out
    step_past i out k = record { equal = go (read_ledger l) (sym e) }
      where
        go : (o : Option (List Step)) → step_count o ≡ Ok n → delivered (line_of o i) out ≡ record { answer = Ok 0; output = out }
        go none q = cc
        go (some L) q =
            let m : length L ≡ n = cc in
            ap (λ (t : Bool). delivered (Ok (pick t (line_text i (step_at L i)) [])) out) (le-ltb i (length L) (omega arith)) ∙ ap (λ (t : Bool). pick t (record { answer = Ok 0; output = out }) (record { answer = Err ShortOutput; output = out })) (le-leb 0 (length out) (omega arith))

    pub step_in : (i : ℕ) {out out' : List ℕ} {x : Result ℕ Refusal} → i < n → Delivers (line_text i (step_of l i)) out x out' → WritesStep l i out x out'
    unfolding steps_of
    step_in i {out} {out'} {x} k d = record { equal = go (read_ledger l) refl (sym e) }
      where
        go : (o : Option (List Step)) → read_ledger l ≡ o → step_count o ≡ Ok n → delivered (line_of o i) out ≡ record { answer = x; output = out' }
        go none i q = cc
        go (some L) j q =
            let m : length L ≡ n = cc in
            ap (λ (t : Bool). delivered (Ok (pick t (line_text i (step_at L i)) [])) out) (lt-ltb i (length L) (omega arith)) ∙ ap (λ (o : Option (List Step)). delivered (Ok (line_text i (step_at (steps_in o) i))) out) (sym j) ∙ d.equal
