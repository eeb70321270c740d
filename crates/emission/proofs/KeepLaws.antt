-- A step more in a ledger and in its index.
use Prim.Native.Nat.{ℕ, suc, ◌<◌, ◌≤◌}
use native.Mathlib.Omega.{arith}
use mathlib.Core.Path.{◌≡◌, sym, ap, ap₂, ◌∙◌, subst}
use mathlib.Core.List.{List, [], ◌∷◌, ◌++◌}
use lib.ListN.{length, take, length-append}
use lib.Seq.{get_or-append_seam}
use Rattle.calculus.specs.Judgement.{Step}
use Rattle.calculus.specs.Table.{predicate, entry_of}
use Rattle.calculus.specs.Record.{operand_bytes, size, FormedStep, Holds}
use Rattle.kinds.specs.Kinds.{number_of, entry_as}
use Rattle.kinds.specs.declared.Entry.{Entry as Listed}
use Rattle.std.specs.Prelude.{Some, None}
use Rattle.kinds.proofs.KindLaws.{listed_same}
use Rattle.ledger.specs.Ledger.{steps_of, place_of}
use Rattle.ledger.proofs.LedgerLaws.{holds-steps, holds-led, place-last}
use Rattle.index.specs.Index.{bucket_of, bucket_at, heads_of, places_from, IndexedTo, Roomy, Indexed, Entered, Enterable, Enters}
use Rattle.index.proofs.RoomLaws.{same_shape}
use Rattle.index.proofs.EnterLaws.{entered-length, indexed-after, indexed-more, place-more}
use Rattle.index.proofs.BuildLaws.{enterable}
use Rattle.emission.specs.Emitting.{Appends, Keeps, KeepsAs}
use Rattle.emission.proofs.EmitLaws.{holds_more}

-- A step more in the ledger, and in the index.
module _ {l x : List ℕ} (e : Indexed l x) (p b at : ℕ) (o l' x' : List ℕ) (is : b ≡ bucket_of (heads_of x) p o) (below : b < heads_of x) (behind : at ≡ size (steps_of l)) (enters : Enters x b at x')
    (s : Step) (formed : FormedStep (length (steps_of l)) s) (number : number_of (predicate s.judgement) ≡ p) (judges : operand_bytes s.judgement ≡ o) (grew : Appends l s (Some at) l') where
  abbrev L : List Step
  L = steps_of l

  abbrev more : List Step
  more = L ++ s ∷ []

  holds : (length l' ≡ length l) × Holds l' more
  holds = holds_more e.led s formed grew.0 grew.1

  more-length : length more ≡ suc (length L)
  more-length = omega (arith, length-append L (s ∷ []))

  fits : Enterable x
  fits = let r : Roomy l' x = omega (arith, e.room, holds.0) in enterable l' more x (length L) holds.1 r (omega (arith, more-length)) e.steps.count

  stored : Entered (heads_of x) (places_from x) (length L) x b at x'
  stored = subst (λ (n : ℕ). Entered (heads_of x) (places_from x) n x b at x') e.steps.count (enters fits)

  within : places_from x ≤ length x
  within = omega arith

  in-bucket : b ≡ bucket_at (heads_of x) more (length L)
  in-bucket =
      is ∙ ap₂ (bucket_of (heads_of x)) (sym number) (sym judges)
      ∙ ap (λ (t : Step). bucket_of (heads_of x) (number_of (predicate t.judgement)) (operand_bytes t.judgement)) (sym (get_or-append_seam L s [] _))

  at_place : at ≡ place_of more (length L)
  at_place = behind ∙ sym (place-last L) ∙ sym (place-more L (s ∷ []) (length L) (omega arith))

  steps-more : IndexedTo (heads_of x) (places_from x) more x' (suc (length L))
  steps-more = indexed-after stored within (indexed-more e.steps (omega arith) (s ∷ [])) below in-bucket at_place (omega (arith, fits.1, e.steps.count)) (omega (arith, fits.0, e.steps.count))

  pub indexed-step : Indexed l' x'
  indexed-step =
      let n : length x' ≡ length x = entered-length stored within in
      let m : more ≡ steps_of l' = sym (holds-steps holds.1) in
      let a : IndexedTo (heads_of x) (places_from x) (steps_of l') x' (length (steps_of l')) = subst (λ (M : List Step). IndexedTo (heads_of x) (places_from x) M x' (length M)) m (subst (IndexedTo (heads_of x) (places_from x) more x') (sym more-length) steps-more) in
      same_shape x (holds-led holds.1) (omega (arith, e.room, holds.0)) n a

-- Where there is no room, nothing changes.
pub indexed-full : {l x : List ℕ} → Indexed l x → (s : Step) (l' : List ℕ) → Appends l s None l' → Indexed l' x
indexed-full {l} {x} e s l' g = subst (λ (m : List ℕ). Indexed m x) (sym g.1) e

-- By the entry of the kind: as many references as it says.
pub keeps-as : (l l' x' : List ℕ) (kind : ℕ) (n : Listed) (references o : List ℕ) → Some n ≡ entry_as (entry_of kind) → KeepsAs l kind (take n.references references) n.predicate o l' x' → Keeps l kind references o l' x'
keeps-as l l' x' kind n references o e h s f t =
    let g = listed_same (e ∙ ap (λ (k : ℕ). entry_as (entry_of k)) (sym t.kinds) ∙ ap entry_as f.listed.listed) in
    h s f (record { kinds = t.kinds; refers = t.refers ∙ ap (λ (m : ℕ). take m references) (sym g.0); judges = t.judges }) (sym g.1)
