-- Definitions that only the contracts of private functions cite; no public contract rests on them.
-- Here: when bytes are a row's, and how the code holds what the row's variables stand for.
use Rattle.std.specs.Prelude.{◌≡◌, Bool, true, false, List, [], ◌∷◌, ◌++◌, map, ℕ, ◌+◌, ◌-◌, ◌/◌, ◌%◌, ◌≤◌, ◌<◌, eqb, ltb, length, get_or, drop, Option, None, Some}
use Rattle.formula.specs.declared.Sort.{Sort}
use Rattle.formula.specs.Formula.{Face, Interval}
use Rattle.formula.specs.Bytes.{Tree, dim_bytes, encode, encode_face, encode_interval}
use Rattle.formula.specs.Answers.{pick}
use Rattle.calculus.specs.Record.{little_endian, faces_bytes}
use Rattle.calculus.proofs.Rows.{Env, put}
use Rattle.rows.specs.declared.Token.{Token}
use Rattle.rows.specs.declared.Token.TheVariants.{Byte as byte, Number as number, Slot as slot, Front as front, Done as done, Pad as pad}
use Rattle.rows.specs.declared.Item.{Item}
use Rattle.rows.specs.declared.Item.TheVariants.{Claim as claim, Inside as inside}
use Rattle.rows.specs.Flattening.{part}
use Rattle.rules.specs.declared.Claim.{Claim}
use Rattle.rules.specs.declared.State.{State}
use Rattle.rules.specs.declared.slots.Span.{Span}
use Rattle.rules.specs.declared.slots.Bindings.{Bindings}

-- What the variables stand for ------------------------------------------------------------------

-- The bytes of slot u: the slots of a variable's face, interval and context stand side by side.
unfoldable pub bytes_of : Env → ℕ → List ℕ
bytes_of E u = pick (eqb (u % 3) 0) (encode_face (E.fac (u / 3))) (pick (eqb (u % 3) 1) (encode_interval (E.itv (u / 3))) (faces_bytes (E.ctx (u / 3))))

-- What may stand in slot u where n faces are left.
pub data Thing : ℕ → ℕ → List ℕ → Type 0 where
  a-face : {u n : ℕ} → u % 3 ≡ 0 → (f : Face) → Thing u n (encode_face f)
  an-interval : {u n : ℕ} → u % 3 ≡ 1 → (r : Interval) → Thing u n (encode_interval r)
  some-faces : {u n : ℕ} → u % 3 ≡ 2 → (G : List Face) → length G ≡ n → Thing u n (faces_bytes G)

-- The token leads from n faces left and the bytes s to n' faces left and the bytes s'.
abbrev pub Consumes : Env → Token → ℕ → List ℕ → ℕ → List ℕ → Type 0
Consumes E (byte b) n s n' s' = (s ≡ b ∷ s') × (n' ≡ n)
Consumes E (number k v) n s n' s' = (s ≡ dim_bytes (k + E.num v) ++ s') × (n' ≡ n)
Consumes E (slot u) n s n' s' = (s ≡ bytes_of E u ++ s') × (n' ≡ n) × Thing u n (bytes_of E u)
Consumes E (front k) n s n' s' = (s ≡ little_endian 2 (k + n') ++ s') × (k + n' < 65536)
Consumes E done n s n' s' = (s ≡ s') × (n' ≡ n) × (n ≡ 0)
Consumes E pad n s n' s' = (s ≡ s') × (n' ≡ n)

-- A predicate's number and the bytes of operands.
pub data Spoken : Type 0 where
  claimed : ℕ → List ℕ → Spoken

-- The same for an item, with the claims that are still to come.
abbrev pub Turned : Env → Item → ℕ → List ℕ → List Spoken → ℕ → List ℕ → List Spoken → Type 0
Turned E (claim p) n s cs n' s' cs' = (s ≡ []) × (n' ≡ 0) × (cs ≡ claimed p s' ∷ cs')
Turned E (inside t) n s cs n' s' cs' = Consumes E t n s n' s' × (cs' ≡ cs)

-- The items spell the bytes s and the claims exactly.
pub data Fits (E : Env) : List Item → ℕ → List ℕ → List Spoken → Type 0 where
  over : {n : ℕ} {s : List ℕ} {cs : List Spoken} → s ≡ [] → cs ≡ [] → Fits E [] n s cs
  turn : {i : Item} {is : List Item} {n n' : ℕ} {s s' : List ℕ} {cs cs' : List Spoken} → Turned E i n s cs n' s' cs' → Fits E is n' s' cs' → Fits E (i ∷ is) n s cs

-- What claims in a ledger say.
abbrev pub spoken_by : List ℕ → Claim → Spoken
spoken_by l c = claimed c.predicate (part l c.from c.to)

abbrev pub spoken : List ℕ → List Claim → List Spoken
spoken l cs = map (spoken_by l) cs

-- The variables can stand for something such that the items are these claims.
abbrev pub Matched : List Item → List Spoken → Type 0
Matched is cs = (E : Env) × Fits E is 0 [] cs

-- How the code holds it ------------------------------------------------------------------------

-- What a slot holds: a number in the slots 24 to 31, bytes in the others.
pub data Held : Type 0 where
  num : ℕ → Held
  bytes : List ℕ → Held

-- What slot u holds, by what the variables stand for.
abbrev pub held_in : Env → ℕ → Held
held_in E u = pick (ltb u 24) (bytes (bytes_of E u)) (num (E.num (u - 24)))

-- What is known of what stands in a slot of bytes: a range of the ledger, where it is bound.
abbrev pub PartKnown : List ℕ → Option Span → Held → Type 0
PartKnown l None x = Unit {0}
PartKnown l (Some s) x = (s.from ≤ s.to) × (s.to ≤ length l) × (x ≡ bytes (part l s.from s.to))

-- The same for a number.
abbrev pub NumberKnown : Option ℕ → Held → Type 0
NumberKnown None x = Unit {0}
NumberKnown (Some n) x = x ≡ num n

-- All slots are as H says, those of numbers from 24 on.
pub record Agrees (l : List ℕ) (m : Bindings) (H : ℕ → Held) : Type 0 where
  pub sizes : (length m.parts ≡ 24) × (length m.numbers ≡ 8)
  pub parts : (u : ℕ) → u < 24 → PartKnown l (get_or m.parts u None) (H u)
  pub numbers : (v : ℕ) → v < 8 → NumberKnown (get_or m.numbers v None) (H (v + 24))

-- The variables can stand for something.
abbrev pub Possible : List ℕ → Bindings → Type 0
Possible l m = (E : Env) × Agrees l m (held_in E)

-- Nothing is bound.
abbrev pub Free : Bindings → Type 0
Free m = (l : List ℕ) (H : ℕ → Held) → Agrees l m H

-- Slot u is bound to x, or what it holds compared with x.
abbrev pub Binds : List ℕ → Bindings → ℕ → Held → Bool → Bindings → Type 0
Binds l m u x true m' = ((E : Env) → Agrees l m (held_in E) → Agrees l m' (put u x (held_in E))) × ((E : Env) → Agrees l m' (held_in E) → Agrees l m (held_in E) × (held_in E u ≡ x))
Binds l m u x false m' = (E : Env) → Agrees l m (held_in E) → held_in E u ≡ x → ⊥

-- A number needs no ledger.
abbrev pub BindsNumber : Bindings → ℕ → ℕ → Bool → Bindings → Type 0
BindsNumber m u n r m' = (l : List ℕ) → Binds l m u (num n) r m'

-- Where something ends that starts at a place.
abbrev pub Ends : (List ℕ → Type 0) → List ℕ → ℕ → ℕ → Option ℕ → Type 0
Ends P l at end (Some e) = (at ≤ e) × (e ≤ end) × P (part l at e)
Ends P l at end None = (x m : List ℕ) → P x → part l at end ≡ x ++ m → ⊥

-- The bytes are a formula of the sort.
abbrev pub Formula : Sort → List ℕ → Type 0
Formula s x = (t : Tree s) × (x ≡ encode s t)

-- The bytes are n faces.
abbrev pub Faces : ℕ → List ℕ → Type 0
Faces n x = (G : List Face) × (x ≡ faces_bytes G) × (length G ≡ n)

-- The code's move over a token is the only one there is.
abbrev pub Moves : Token → State → List ℕ → Bindings → Option State → Bindings → Type 0
Moves t q l m None m' = (E : Env) (n : ℕ) (s : List ℕ) → Agrees l m (held_in E) → Consumes E t q.left (part l q.at q.end) n s → ⊥
Moves t q l m (Some p) m' = record {
  kept : (p.end ≡ q.end) × (p.j ≡ q.j);
  within : p.at ≤ p.end;
  forth : (E : Env) (n : ℕ) (s : List ℕ) → Agrees l m (held_in E) → Consumes E t q.left (part l q.at q.end) n s → Agrees l m' (held_in E) × (n ≡ p.left) × (s ≡ part l p.at p.end);
  back : (E : Env) → Agrees l m' (held_in E) → Agrees l m (held_in E) × Consumes E t q.left (part l q.at q.end) p.left (part l p.at p.end);
  possible : Possible l m → Possible l m';
}

-- A token that binds nothing.
abbrev pub MovesOnly : Token → State → List ℕ → Option State → Type 0
MovesOnly t q l r = (m : Bindings) → Moves t q l m r m

-- A place of the code: in the ledger, and among the claims.
pub record Placed (l : List ℕ) (cs : List Claim) (q : State) : Type 0 where
  pub ordered : q.at ≤ q.end
  pub within : q.end ≤ length l
  pub among : q.j ≤ length cs

-- The same for an item.
abbrev pub Turns : Item → State → List ℕ → List Claim → Bindings → Option State → Bindings → Type 0
Turns i q l cs m None m' = (E : Env) (k : ℕ) (s : List ℕ) (ds : List Spoken) → Agrees l m (held_in E) → Turned E i q.left (part l q.at q.end) (spoken l (drop q.j cs)) k s ds → ⊥
Turns i q l cs m (Some p) m' = record {
  placed : Placed l cs p;
  forth : (E : Env) (k : ℕ) (s : List ℕ) (ds : List Spoken) → Agrees l m (held_in E) → Turned E i q.left (part l q.at q.end) (spoken l (drop q.j cs)) k s ds
      → Agrees l m' (held_in E) × (k ≡ p.left) × (s ≡ part l p.at p.end) × (ds ≡ spoken l (drop p.j cs));
  back : (E : Env) → Agrees l m' (held_in E) → Agrees l m (held_in E) × Turned E i q.left (part l q.at q.end) (spoken l (drop q.j cs)) p.left (part l p.at p.end) (spoken l (drop p.j cs));
  possible : Possible l m → Possible l m';
}

-- An item that binds nothing.
abbrev pub Begins : Item → State → List ℕ → List Claim → Option State → Type 0
Begins i q l cs r = (m : Bindings) → Turns i q l cs m r m

-- The items spell what is left at the cursor and the claims that are still to come.
abbrev pub FitsAt : Env → List Item → State → List ℕ → List Claim → Type 0
FitsAt E is q l cs = Fits E is q.left (part l q.at q.end) (spoken l (drop q.j cs))

-- The same for items one after another, whatever items are behind them.
abbrev pub Passes : List Item → State → List ℕ → List Claim → Bindings → Option State → Bindings → Type 0
Passes is q l cs m None m' = (E : Env) (js : List Item) → Agrees l m (held_in E) → FitsAt E (is ++ js) q l cs → ⊥
Passes is q l cs m (Some p) m' = record {
  placed : Placed l cs p;
  forth : (E : Env) (js : List Item) → Agrees l m (held_in E) → FitsAt E (is ++ js) q l cs → Agrees l m' (held_in E) × FitsAt E js p l cs;
  back : (E : Env) (js : List Item) → Agrees l m' (held_in E) → FitsAt E js p l cs → Agrees l m (held_in E) × FitsAt E (is ++ js) q l cs;
  possible : Possible l m → Possible l m';
}
