-- For private contracts: what fits into one number.
use Rattle.std.specs.Prelude.{◌≡◌, ℕ, ◌+◌, ◌*◌, ◌<◌, Result, Ok}
use Rattle.refusals.specs.declared.Refusal.{Refusal}
use Rattle.refusals.specs.declared.Refusal.TheVariants.{IllFormedLedger, DoesNotFollow}
use Rattle.refusals.specs.Refusals.{number}
use Rattle.replies.specs.declared.Made.{Made}
use Rattle.desk.specs.declared.Verdict.{Verdict}
use Rattle.desk.specs.declared.Verdict.TheVariants.{Ill, Fails, Passes}
use Rattle.text.specs.declared.Claim.{Claim}
use Rattle.numbers.specs.Answers.{refused}

-- The step takes 32 bits, and the length of the result 31.
pub record Packs (a : Result Made Refusal) : Type 0 where
  pub fits : (m : Made) → a ≡ Ok m → (m.step < 4294967296) × (m.size.len < 2147483648)

-- d and the lengths of the faces of a claim take 16 bits each.
pub record ClaimFits (a : Result Claim Refusal) : Type 0 where
  pub fits : (c : Claim) → a ≡ Ok c → (c.d < 65536) × (c.left < 65536) × (c.right < 65536)

-- The step that does not follow takes 32 bits.
pub record Low (v : Verdict) : Type 0 where
  pub fits : (n : ℕ) → v ≡ Fails n → n < 4294967296

-- The number of the desk's answer as the code gives it.
abbrev pub verdict_number : Verdict → ℕ
verdict_number Ill = refused (number IllFormedLedger)
verdict_number (Fails n) = refused (number DoesNotFollow + 16 * n)
verdict_number (Passes n) = n
