use Rattle.std.proofs.Common.{◌≡◌, ◌∷◌}
use Rattle.lic_text.specs.Left.{words_left}
use Rattle.options_text.specs.Answers.{with_prefix}
use Rattle.options_text.specs.Forms.{names_of}
use Rattle.options_text.proofs.form.read_names.Given as goal

-- the names so far and those of the words that are left are all of them
abbrev pub invariant-loop-word : goal.invariant-loop-word
invariant-loop-word l = with_prefix l.names.items (names_of l.line (words_left l.word-iterator)) ≡ names_of l.line (l.first ∷ words_left l.fn.others)
