-- For private contracts: whole texts, read into scratch slices.
use Rattle.std.specs.Prelude.{ℕ, ◌≤◌, ◌≡◌, Result, Ok, Err, List, [], ◌∷◌, length, drop}
use Rattle.std.proofs.lemmas.List.Edits.{sets}
use Rattle.formula.specs.declared.Sort.{Sort}
use Rattle.formula.specs.declared.Sort.TheVariants.{Faces}
use Rattle.formula.specs.Formula.{Face}
use Rattle.formula.specs.Bytes.{Tree, encode}
use Rattle.refusals.specs.declared.Refusal.{Refusal}
use Rattle.text.specs.Tokens.{tokens}
use Rattle.text.specs.Reading.{Item, formula, claim, run, read_claim}
use Rattle.text.specs.Answers.{delivered, both_put}
use Rattle.text.specs.declared.Cursor.{Cursor}
use Rattle.text.specs.declared.Claim.{Claim}

-- No token follows the cursor.
abbrev pub FinishesAs : List ℕ → Cursor → Result Cursor Refusal → Type 0
FinishesAs l c (Ok d) = ((n : ℕ) → run (tokens (drop c.at l)) n [] ≡ Ok tt) × (d ≡ c)
FinishesAs l c (Err q) = (n : ℕ) → run (tokens (drop c.at l)) n [] ≡ Err q

pub record Finishes (l : List ℕ) (c : Cursor) (r : Result Cursor Refusal) : Type 0 where
  pub it : FinishesAs l c r

-- The formula from place i to the end of the text stands in front of the scratch slice, and takes m bytes.
pub record WholeFound (s : Sort) (l : List ℕ) (i : ℕ) (out : List ℕ) (m : ℕ) (out' : List ℕ) : Type 0 where
  pub tree : Tree s
  pub reads : (n : ℕ) → run (tokens (drop i l)) n (formula s ∷ []) ≡ Ok (tree, tt)
  pub wrote : out' ≡ sets out 0 (encode s tree)
  pub upto : m ≡ length (encode s tree)
  pub short : length (encode s tree) ≤ 1022

abbrev pub WholeAs : (s : Sort) → List ℕ → ℕ → List ℕ → Result Cursor Refusal → List ℕ → Type 0
WholeAs s l i out (Ok c) out' = WholeFound s l i out c.to out'
WholeAs s l i out (Err q) out' = (n : ℕ) → run (tokens (drop i l)) n (formula s ∷ []) ≡ Err q

pub record Whole (s : Sort) (l : List ℕ) (i : ℕ) (out : List ℕ) (r : Result Cursor Refusal) (out' : List ℕ) : Type 0 where
  pub it : WholeAs s l i out r out'

-- What was made is delivered.
pub record Delivers (x out : List ℕ) (r : Result ℕ Refusal) (out' : List ℕ) : Type 0 where
  pub equal : delivered (Ok x) out ≡ record { answer = r; output = out' }

-- The faces x and y of a claim over d are delivered, where both fit.
pub record DeliversBoth (d : ℕ) (x y a b : List ℕ) (r : Result Claim Refusal) (a' b' : List ℕ) : Type 0 where
  pub equal : both_put d x y a b ≡ record { answer = r; left = a'; right = b' }

-- The word that a claim starts with.
abbrev pub ClaimStartsAs : List ℕ → Result ℕ Refusal → Type 0
ClaimStartsAs l (Ok e) = ((n : ℕ) (K : List Item) → run (tokens l) n (claim ∷ K) ≡ run (tokens (drop e l)) n K) × (e ≤ length l)
ClaimStartsAs l (Err q) = (n : ℕ) (K : List Item) → run (tokens l) n (claim ∷ K) ≡ Err q

pub record ClaimStarts (l : List ℕ) (r : Result ℕ Refusal) : Type 0 where
  pub it : ClaimStartsAs l r

-- Both faces from place i to the end stand in front of the scratch slices, and take x and y bytes; d was read before.
pub record FacesFound (l : List ℕ) (i : ℕ) (a b : List ℕ) (x y : ℕ) (a' b' : List ℕ) : Type 0 where
  pub left : Face
  pub right : Face
  pub reads : (n : ℕ) → run (tokens (drop i l)) n (formula Faces ∷ formula Faces ∷ []) ≡ Ok (left, (right, tt))
  pub wrote-left : a' ≡ sets a 0 (encode Faces left)
  pub wrote_right : b' ≡ sets b 0 (encode Faces right)
  pub upto_left : x ≡ length (encode Faces left)
  pub upto-right : y ≡ length (encode Faces right)
  pub short-left : length (encode Faces left) ≤ 1022
  pub short-right : length (encode Faces right) ≤ 1022

abbrev pub BothFacesAs : List ℕ → ℕ → ℕ → List ℕ → List ℕ → Result Claim Refusal → List ℕ → List ℕ → Type 0
BothFacesAs l i d a b (Ok c) a' b' = (c.d ≡ d) × FacesFound l i a b c.left c.right a' b'
BothFacesAs l i d a b (Err q) a' b' = (n : ℕ) → run (tokens (drop i l)) n (formula Faces ∷ formula Faces ∷ []) ≡ Err q

pub record BothFaces (l : List ℕ) (i d : ℕ) (a b : List ℕ) (r : Result Claim Refusal) (a' b' : List ℕ) : Type 0 where
  pub it : BothFacesAs l i d a b r a' b'

-- The claim that the text is.
pub record ClaimFound (l a b : List ℕ) (d x y : ℕ) (a' b' : List ℕ) : Type 0 where
  pub left : Face
  pub right : Face
  pub reads : read_claim l ≡ Ok (record { dimensions = d; left = left; right = right })
  pub wrote-left : a' ≡ sets a 0 (encode Faces left)
  pub wrote_right : b' ≡ sets b 0 (encode Faces right)
  pub upto_left : x ≡ length (encode Faces left)
  pub upto-right : y ≡ length (encode Faces right)
  pub short-left : length (encode Faces left) ≤ 1022
  pub short-right : length (encode Faces right) ≤ 1022

abbrev pub WholeClaimAs : List ℕ → List ℕ → List ℕ → Result Claim Refusal → List ℕ → List ℕ → Type 0
WholeClaimAs l a b (Ok c) a' b' = ClaimFound l a b c.d c.left c.right a' b'
WholeClaimAs l a b (Err q) a' b' = read_claim l ≡ Err q

pub record WholeClaim (l a b : List ℕ) (r : Result Claim Refusal) (a' b' : List ℕ) : Type 0 where
  pub it : WholeClaimAs l a b r a' b'
