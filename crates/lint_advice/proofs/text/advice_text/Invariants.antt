use Rattle.std.proofs.Common.{◌≡◌, take}
use Rattle.lint_advice.specs.Text.{text_of}
use Rattle.lint_advice.proofs.text.advice_text.Given as goal

-- the lines so far are written
abbrev pub invariant-loop-piece : goal.invariant-loop-piece
invariant-loop-piece l = l.text.items ≡ text_of (take l.piece-index l.advice)
