-- Answers as one number: a signed 64-bit number that is negative where the call is refused.
use Rattle.std.specs.Prelude.{◌≡◌, Bool, true, false, List, [], ◌∷◌, ℕ, zero, suc, ◌+◌, ◌*◌, ◌-◌, Result, Ok, Err}
use Rattle.std.proofs.Math.Option.{Option}
use Rattle.calculus.specs.Rules.{pass, fail}
use Rattle.refusals.specs.declared.Refusal.TheVariants.{IllFormedLedger, DoesNotFollow}
use Rattle.refusals.specs.declared.Refusal.{Refusal}
use Rattle.refusals.specs.Refusals.{number}
use Rattle.calculus.specs.Door
use Rattle.calculus.specs.Door.{answered, Reply}
use Rattle.calculus.specs.Desk.{DeskAnswer, unreadable, judged}
use Rattle.text.specs.declared.Claim.{Claim}
use Rattle.text.specs.Answers.{Delivered, BothDelivered}
use Rattle.counterexample.specs.Answers.{asked, Found, put}

-- Refusal n is the bits of -n.
abbrev pub refused : ℕ → ℕ
refused n = 18446744073709551616 - n

-- The number of steps that passed, refusal 1, or refusal 10 and sixteen times the lowest step that does not follow.
abbrev pub desk_number : DeskAnswer → ℕ
desk_number unreadable = refused (number IllFormedLedger)
desk_number (judged (pass n)) = n
desk_number (judged (fail n)) = refused (number DoesNotFollow + 16 * n)

-- The step, and 2^32 times the bytes of the (first) result, or the refusal.
abbrev pub reply_number : Door.Answer → ℕ
reply_number (answered n []) = n
reply_number (answered n (m ∷ ms)) = n + 4294967296 * m.bytes
reply_number (Door.refused e) = refused (number e)

-- A number of steps, bytes, dimensions or nodes, or the refusal.
abbrev pub count_number : Result ℕ Refusal → ℕ
count_number (Ok n) = n
count_number (Err e) = refused (number e)

-- d, 2^16 times the bytes of the first face and 2^32 times those of the second, or the refusal.
abbrev pub claim_number : Result Claim Refusal → ℕ
claim_number (Ok c) = c.d + 65536 * c.left + 4294967296 * c.right
claim_number (Err e) = refused (number e)

-- 1 where the ledgers repeat each other, 0 where not, or the refusal.
abbrev pub repeat_number : Result Bool Refusal → ℕ
repeat_number (Ok true) = 1
repeat_number (Ok false) = 0
repeat_number (Err e) = refused (number e)

-- Where a part of a ledger begins, and 2^32 times how many bytes it has.
abbrev pub part_number : ℕ → ℕ → ℕ
part_number start len = start + 4294967296 * len

-- The number of a reader, and every byte of its outputs, are those of what it delivers.
pub record Reads (x : Delivered) (r : ℕ) (out' : List ℕ) : Type 0 where
  pub numbered : r ≡ count_number x.answer
  pub output : out' ≡ x.output

pub record ReadsBoth (x : BothDelivered) (r : ℕ) (a' b' : List ℕ) : Type 0 where
  pub numbered : r ≡ claim_number x.answer
  pub left : a' ≡ x.left
  pub right : b' ≡ x.right

-- The number of a counterexample, and every byte of its output, are those of what there is for the two faces.
pub record Exhibits (d : ℕ) (a b out : List ℕ) (r : ℕ) (out' : List ℕ) : Type 0 where
  pub found : Result (Option (List ℕ)) Refusal
  pub is : Found d (asked d a b out) found
  pub numbered : r ≡ count_number (put d out found).answer
  pub output : out' ≡ (put d out found).output

-- The number of a call, and every lent byte after it, are those of the calculus' reply.
pub record Numbers (x : Reply) (r : ℕ) (l' : List ℕ) (outs : List (List ℕ)) : Type 0 where
  pub numbered : r ≡ reply_number x.answer
  pub ledger : l' ≡ x.ledger
  pub outputs : outs ≡ x.outputs

-- Whether a number names the end i1: any but 0.
abbrev pub is_one : ℕ → Bool
is_one zero = false
is_one (suc n) = true
