-- Whole texts: nothing follows, and what was made is delivered.
use Prim.Native.Nat.{ℕ, ◌+◌, ◌≤◌, ◌<◌}
use native.Mathlib.Omega.{arith}
use native.Mathlib.Nat.{zero-add}
use mathlib.Core.Path.{◌≡◌, refl, sym, ap, ap₂, ◌∙◌, subst}
use mathlib.Core.Bool.{Bool, true, false, ◌&&◌}
use mathlib.Core.List.{List, [], ◌∷◌}
use lib.Dec.{leb}
use lib.ListN.{length, take, drop}
use lib.Seq.{sets, sets-eq, take_at}
use borrow.Author.Tests.{le-leb, lt-leb}
use Rattle.formula.specs.declared.Sort.{Sort}
use Rattle.formula.specs.declared.Sort.TheVariants.{Faces}
use Rattle.formula.specs.Bytes.{Tree, encode, nodes, max_nodes, max_bound}
use Rattle.formula.specs.Answers.{pick, same_bytes, Put}
use Rattle.formula.proofs.Nodes.{len_short}
use Rattle.refusals.specs.declared.Refusal.{Refusal}
use Rattle.refusals.specs.declared.Refusal.TheVariants.{ShortOutput, NotAccepted}
use Rattle.refusals.specs.Refusals.{map}
use Rattle.std.specs.Prelude.{Result, Ok, Err}
use Rattle.text.specs.Tokens.{Token, tokens}
use Rattle.text.specs.Words.{entails-word}
use Rattle.text.specs.Reading.{Item, formula, part, number, claim, run, read_formula, Claimed, read_claim}
use Rattle.text.specs.Scanning.{between, Lexes, number_at, Numerals}
use Rattle.text.specs.Parsing.{single, part_at, Found, Parses}
use Rattle.text.specs.Answers.{delivered, ReadsInto, both_put, both_delivered, ReadsClaim}
use Rattle.text.specs.Wholes.{Finishes, WholeFound, Whole, Delivers, DeliversBoth, ClaimStarts, BothFaces, ClaimFound, WholeClaim}
use Rattle.text.specs.declared.Token.{Token as Answered}
use Rattle.text.specs.declared.Token.TheVariants.{Open, Close, Word, End}
use Rattle.text.specs.declared.Numeral.{Numeral}
use Rattle.text.specs.declared.Cursor.{Cursor}
use Rattle.text.specs.declared.Claim.{Claim}

-- The end of a text.
pub not-end : {l : List ℕ} {c : Cursor} (t : Answered) → Lexes l c.at t → (t ≡ End → ⊥) → Finishes l c (Err NotAccepted)
unfolding run
not-end (Open e) h f = record { it = λ n. ap (λ (ts : List Token). run ts n []) h.it.0 }
not-end (Close e) h f = record { it = λ n. ap (λ (ts : List Token). run ts n []) h.it.0 }
not-end (Word b e) h f = record { it = λ n. ap (λ (ts : List Token). run ts n []) h.it.0 }
not-end End h f = absurd (f refl)

pub at-close : {l : List ℕ} {c : Cursor} {t : Answered} {e : ℕ} → Lexes l c.at t → t ≡ Close e → Finishes l c (Err NotAccepted)
at-close {t} h p = not-end t h (λ q. let z : ◌≡◌ {A = ℕ} 0 1 = cc in omega arith)

pub at-end : {l : List ℕ} {c : Cursor} {t : Answered} → Lexes l c.at t → t ≡ End → Finishes l c (Ok c)
unfolding run
at-end {l} {c} h e = let g = subst (Lexes l c.at) e h in record { it = (λ n. ap (λ (ts : List Token). run ts n []) g.it, refl) }

-- A formula's nodes are counted anew.
pub formula-part : (ts : List Token) (n : ℕ) (s : Sort) (K : List Item) → run ts n (formula s ∷ K) ≡ run ts max_nodes (part s ∷ K)
unfolding run
formula-part [] n s K = refl
formula-part (t ∷ ts) n s K = refl

-- The cursor at the start of a formula.
abbrev pub fresh : ℕ → Cursor
fresh i = record { at = i; to = 0; left = 511 }

short-made : (s : Sort) (t : Tree s) → nodes s t ≤ 511 → length (encode s t) ≤ 1022
short-made s t h = omega (arith, len_short s t, h)

pub whole-found : {s : Sort} {l out out' : List ℕ} {i : ℕ} {c : Cursor} {r : Result Cursor Refusal} → Found (single s) (part_at s l (fresh i)) l (fresh i) out c out' → Finishes l c r → Whole s l i out r out'
whole-found {s} {l} {i = i} {c} {r = Ok d} f h =
    record {
      it = record {
        tree = f.thing;
        reads = λ n. formula-part (tokens (drop i l)) n s [] ∙ f.reads [] ∙ ap (map (λ v. (f.thing, v))) (h.it.0 c.left);
        wrote = f.wrote;
        upto = ap (λ (c : Cursor). c.to) h.it.1 ∙ f.upto ∙ zero-add (length (encode s f.thing));
        short = short-made s f.thing (omega (arith, f.count));
      };
    }
whole-found {s} {l} {i = i} {c} {r = Err q} f h = record { it = λ n. formula-part (tokens (drop i l)) n s [] ∙ f.reads [] ∙ ap (map (λ v. (f.thing, v))) (h.it c.left) }

pub whole-refused : {s : Sort} {l out out' : List ℕ} {i : ℕ} {q : Refusal} → Parses (single s) (part_at s l (fresh i)) l (fresh i) out (Err q) out' → Whole s l i out (Err q) out'
whole-refused {s} {l} {i = i} h = record { it = λ n. formula-part (tokens (drop i l)) n s [] ∙ h.it [] }

-- What was made, in front of a scratch slice.
pub made-front : (x d : List ℕ) {m : ℕ} → m ≡ length x → length x ≤ length d → take m (sets d 0 x) ≡ x
made-front x d {m} e h =
    let p : 0 + length x ≤ length d = omega (arith, h) in
    ap (take m) (sets-eq x d 0 p) ∙ take_at x (drop (0 + length x) d) m (sym e)

-- Delivery.
pub delivers : {x out out' : List ℕ} {t : Bool} → t ≡ true → Put x 0 out t out' → Delivers x out (Ok (length x)) out'
delivers {x} {out} e h =
    let b : leb (length x) (length out) ≡ true = ap (λ (n : ℕ). leb n (length out)) (sym (zero-add (length x))) ∙ sym h.says ∙ e in
    record { equal = ap (λ (t : Bool). pick t (record { answer = Ok (length x); output = sets out 0 x }) (record { answer = Err ShortOutput; output = out })) b ∙ ap (λ (o : List ℕ). record { answer = Ok (length x); output = o }) (sym (h.leaves ∙ ap (λ (t : Bool). pick t (sets out 0 x) out) (sym h.says ∙ e))) }

pub delivers-not : {x out out' : List ℕ} {t : Bool} → t ≡ false → Put x 0 out t out' → Delivers x out (Err ShortOutput) out'
delivers-not {x} {out} e h =
    let b : leb (length x) (length out) ≡ false = ap (λ (n : ℕ). leb n (length out)) (sym (zero-add (length x))) ∙ sym h.says ∙ e in
    record { equal = ap (λ (t : Bool). pick t (record { answer = Ok (length x); output = sets out 0 x }) (record { answer = Err ShortOutput; output = out })) b ∙ ap (λ (o : List ℕ). record { answer = Err ShortOutput; output = o }) (sym (h.leaves ∙ ap (λ (t : Bool). pick t (sets out 0 x) out) (sym h.says ∙ e))) }

pub formula-delivered : {s : Sort} {l made made' out out' : List ℕ} {m : ℕ} {r : Result ℕ Refusal} → WholeFound s l 0 made m made' → length made ≡ 1024 → Delivers (take m made') out r out' → ReadsInto s l out r out'
unfolding read_formula
formula-delivered {s} {l} {made} {made'} {out} {m = m} f k h =
    let x : List ℕ = encode s f.tree in
    let p : take m made' ≡ x = ap (take m) f.wrote ∙ made-front x made f.upto (omega (arith, f.short, k)) in
    record { equal = ap (λ (o : Result (Tree s) Refusal). delivered (map (encode s) o) out) (ap (map (λ v. v.0)) (f.reads 0)) ∙ ap (λ (x : List ℕ). delivered (Ok x) out) (sym p) ∙ h.equal }

pub formula-refused : {s : Sort} {l made made' out : List ℕ} {q : Refusal} → Whole s l 0 made (Err q) made' → ReadsInto s l out (Err q) out
unfolding read_formula
formula-refused {s} {out = out} h = record { equal = ap (λ (o : Result (Tree s) Refusal). delivered (map (encode s) o) out) (ap (map (λ v. v.0)) (h.it 0)) }

-- Claims ---------------------------------------------------------------------------------------------------

module _ {l : List ℕ} where
  pub claim-not : (t : Answered) → Lexes l 0 t → ((b e : ℕ) → t ≡ Word b e → ⊥) → ClaimStarts l (Err NotAccepted)
  unfolding run
  claim-not (Open e) h f = record { it = λ n K. ap (λ (ts : List Token). run ts n (claim ∷ K)) h.it.0 }
  claim-not (Close e) h f = record { it = λ n K. ap (λ (ts : List Token). run ts n (claim ∷ K)) h.it.0 }
  claim-not (Word b e) h f = absurd (f b e refl)
  claim-not End h f = record { it = λ n K. ap (λ (ts : List Token). run ts n (claim ∷ K)) h.it }

  pub claim-other : {b e : ℕ} → Lexes l 0 (Word b e) → same_bytes entails-word (between b e l) ≡ false → ClaimStarts l (Err NotAccepted)
  unfolding run
  claim-other {e = e} h q = record { it = λ n K. ap (λ (ts : List Token). run ts n (claim ∷ K)) h.it.0 ∙ ap (λ (t : Bool). pick t (run (tokens (drop e l)) n K) (Err NotAccepted)) q }

  pub claim-word : {b e : ℕ} → Lexes l 0 (Word b e) → same_bytes entails-word (between b e l) ≡ true → ClaimStarts l (Ok e)
  unfolding run
  claim-word {e = e} h q = record { it = (λ n K. ap (λ (ts : List Token). run ts n (claim ∷ K)) h.it.0 ∙ ap (λ (t : Bool). pick t (run (tokens (drop e l)) n K) (Err NotAccepted)) q, h.it.3) }

pub faces-found : {l a a' b b' : List ℕ} {i d : ℕ} {c e : Cursor} → Found (single Faces) (part_at Faces l (fresh i)) l (fresh i) a c a' → Whole Faces l c.at b (Ok e) b' → BothFaces l i d a b (Ok (record { d = d; left = c.to; right = e.to })) a' b'
faces-found {l} {i = i} {c = c} f h =
    let g = h.it in
    record {
      it = (
        refl,
        record {
          left = f.thing;
          right = g.tree;
          reads = λ n. formula-part (tokens (drop i l)) n Faces (formula Faces ∷ []) ∙ f.reads (formula Faces ∷ []) ∙ ap (map (λ v. (f.thing, v))) (g.reads c.left);
          wrote-left = f.wrote;
          wrote_right = g.wrote;
          upto_left = f.upto ∙ zero-add (length (encode Faces f.thing));
          upto-right = g.upto;
          short-left = short-made Faces f.thing (omega (arith, f.count));
          short-right = g.short;
        },
      );
    }

pub second-refused : {l a a' b b' : List ℕ} {i d : ℕ} {c : Cursor} {q : Refusal} → Found (single Faces) (part_at Faces l (fresh i)) l (fresh i) a c a' → Whole Faces l c.at b (Err q) b' → BothFaces l i d a b (Err q) a' b'
second-refused {l} {i = i} {c = c} f h = record { it = λ n. formula-part (tokens (drop i l)) n Faces (formula Faces ∷ []) ∙ f.reads (formula Faces ∷ []) ∙ ap (map (λ v. (f.thing, v))) (h.it c.left) }

pub faces-refused : {l a a' b : List ℕ} {i d : ℕ} {q : Refusal} → Parses (single Faces) (part_at Faces l (fresh i)) l (fresh i) a (Err q) a' → BothFaces l i d a b (Err q) a' b
faces-refused {l} {i = i} h = record { it = λ n. formula-part (tokens (drop i l)) n Faces (formula Faces ∷ []) ∙ h.it (formula Faces ∷ []) }

pub claim-found : {l a a' b b' : List ℕ} {e : ℕ} {n : Numeral} {r : Result Claim Refusal} → ClaimStarts l (Ok e) → Numerals (number_at l e 255) l e 255 (Ok n) → BothFaces l n.end n.n a b r a' b' → WholeClaim l a b r a' b'
unfolding read_claim
claim-found {n = n} {r = Ok k} s m h =
    let g = h.it.1 in
    record {
      it = record {
        left = g.left;
        right = g.right;
        reads =
            ap (map (λ v. record { dimensions = v.0; left = v.1.0; right = v.1.1.0 })) (s.it.0 0 (number max_bound ∷ formula Faces ∷ formula Faces ∷ []) ∙ m.it.reads 0 (formula Faces ∷ formula Faces ∷ []) ∙ ap (map (λ v. (n.n, v))) (g.reads 0))
            ∙ ap (λ (d : ℕ). Ok (record { dimensions = d; left = g.left; right = g.right })) (sym h.it.0);
        wrote-left = g.wrote-left;
        wrote_right = g.wrote_right;
        upto_left = g.upto_left;
        upto-right = g.upto-right;
        short-left = g.short-left;
        short-right = g.short-right;
      };
    }
claim-found {n = n} {r = Err q} s m h = record { it = ap (map (λ v. record { dimensions = v.0; left = v.1.0; right = v.1.1.0 })) (s.it.0 0 (number max_bound ∷ formula Faces ∷ formula Faces ∷ []) ∙ m.it.reads 0 (formula Faces ∷ formula Faces ∷ []) ∙ ap (map (λ v. (n.n, v))) (h.it 0)) }

pub claim-no-number : {l a b : List ℕ} {e : ℕ} {q : Refusal} → ClaimStarts l (Ok e) → Numerals (number_at l e 255) l e 255 (Err q) → WholeClaim l a b (Err q) a b
unfolding read_claim
claim-no-number s m = record { it = ap (map (λ v. record { dimensions = v.0; left = v.1.0; right = v.1.1.0 })) (s.it.0 0 (number max_bound ∷ formula Faces ∷ formula Faces ∷ []) ∙ m.it 0 (formula Faces ∷ formula Faces ∷ [])) }

pub claim-no-word : {l a b : List ℕ} {q : Refusal} → ClaimStarts l (Err q) → WholeClaim l a b (Err q) a b
unfolding read_claim
claim-no-word s = record { it = ap (map (λ v. record { dimensions = v.0; left = v.1.0; right = v.1.1.0 })) (s.it 0 (number max_bound ∷ formula Faces ∷ formula Faces ∷ [])) }

no-right : (t : Bool) → (t && false) ≡ false
no-right true = refl
no-right false = refl

module _ (d : ℕ) (x y a b : List ℕ) where
  picked : (t : Bool) → (leb (length x) (length a) && leb (length y) (length b)) ≡ t
      → both_put d x y a b ≡ pick t (record { answer = Ok (record { d = d; left = length x; right = length y }); left = sets a 0 x; right = sets b 0 y }) (record { answer = Err ShortOutput; left = a; right = b })
  picked t e = ap (λ (t : Bool). pick t (record { answer = Ok (record { d = d; left = length x; right = length y }); left = sets a 0 x; right = sets b 0 y }) (record { answer = Err ShortOutput; left = a; right = b })) e

  pub both-short-left : length a < length x → DeliversBoth d x y a b (Err ShortOutput) a b
  both-short-left h = record { equal = picked false (ap (λ (t : Bool). t && leb (length y) (length b)) (lt-leb _ _ h)) }

  pub both-short-right : length b < length y → DeliversBoth d x y a b (Err ShortOutput) a b
  both-short-right h = record { equal = picked false (ap (λ (t : Bool). leb (length x) (length a) && t) (lt-leb _ _ h) ∙ no-right (leb (length x) (length a))) }

  pub both-put : {a' b' : List ℕ} → length x ≤ length a → length y ≤ length b → a' ≡ sets a 0 x → b' ≡ sets b 0 y → DeliversBoth d x y a b (Ok (record { d = d; left = length x; right = length y })) a' b'
  both-put {a'} {b'} h k p q =
      record { equal = picked true (ap₂ (λ (s t : Bool). s && t) (le-leb _ _ h) (le-leb _ _ k)) ∙ ap₂ (λ (u v : List ℕ). record { answer = Ok (record { d = d; left = length x; right = length y }); left = u; right = v }) (sym p) (sym q) }

pub claim-delivered : {l a a' b b' m n m' n' : List ℕ} {d x y : ℕ} {r : Result Claim Refusal} → ClaimFound l m n d x y m' n' → length m ≡ 1024 → length n ≡ 1024 → DeliversBoth d (take x m') (take y n') a b r a' b' → ReadsClaim l a b r a' b'
claim-delivered {a = a} {b = b} {m = m} {n} {m'} {n'} {d} {x} {y} f h k g =
    let u : List ℕ = encode Faces f.left in
    let v : List ℕ = encode Faces f.right in
    let p : take x m' ≡ u = ap (take x) f.wrote-left ∙ made-front u m f.upto_left (omega (arith, f.short-left, h)) in
    let q : take y n' ≡ v = ap (take y) f.wrote_right ∙ made-front v n f.upto-right (omega (arith, f.short-right, k)) in
    record { equal = ap (λ (o : Result Claimed Refusal). both_delivered o a b) f.reads ∙ ap₂ (λ (u v : List ℕ). both_put d u v a b) (sym p) (sym q) ∙ g.equal }

pub claim-refused : {l a b m n m' n' : List ℕ} {q : Refusal} → WholeClaim l m n (Err q) m' n' → ReadsClaim l a b (Err q) a b
claim-refused {a = a} {b} h = record { equal = ap (λ (o : Result Claimed Refusal). both_delivered o a b) h.it }
