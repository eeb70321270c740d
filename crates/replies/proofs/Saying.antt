-- The contracts fix the answers: what is said tells them apart.
use Rattle.std.specs.Prelude.{ℕ, Result, Ok, Err}
use mathlib.Core.Path.{◌≡◌, refl, sym, ap, ◌∙◌}
use mathlib.Core.List.{List, [], ◌∷◌}
use Rattle.formula.specs.declared.Size.{Size}
use Rattle.calculus.specs.Door
use Rattle.calculus.specs.Door.{Measure, answered, refused}
use Rattle.refusals.specs.declared.Refusal.{Refusal}
use Rattle.replies.specs.declared.Made.{Made}
use Rattle.replies.specs.Replying.{said, said_one, said_both}

answer_from : Door.Answer → Result ℕ Refusal
answer_from (answered n ms) = Ok n
answer_from (refused r) = Err r

answer_back : (a : Result ℕ Refusal) → answer_from (said a) ≡ a
unfolding answer_from
answer_back (Ok n) = refl
answer_back (Err e) = refl

pub said-one : (a b : Result ℕ Refusal) → said a ≡ said b → a ≡ b
said-one a b e = sym (answer_back a) ∙ ap answer_from e ∙ answer_back b

size_from : List Measure → Size
size_from [] = record { len = 0; nodes = 0; bound = 0 }
size_from (m ∷ ms) = record { len = m.bytes; nodes = m.nodes; bound = m.bound }

made_from : Door.Answer → Result Made Refusal
made_from (answered n ms) = Ok (record { step = n; size = size_from ms })
made_from (refused r) = Err r

made-back : (a : Result Made Refusal) → made_from (said_one a) ≡ a
unfolding made_from size_from
made-back (Ok m) = refl
made-back (Err e) = refl

both-back : (a : Result Made Refusal) → made_from (said_both a) ≡ a
unfolding made_from size_from
both-back (Ok m) = refl
both-back (Err e) = refl

pub said_one-one : (a b : Result Made Refusal) → said_one a ≡ said_one b → a ≡ b
said_one-one a b e = sym (made-back a) ∙ ap made_from e ∙ made-back b

pub said_both-one : (a b : Result Made Refusal) → said_both a ≡ said_both b → a ≡ b
said_both-one a b e = sym (both-back a) ∙ ap made_from e ∙ both-back b
