use Rattle.std.proofs.Common.{List, ℕ, sym, ap, ◌∙◌}
use Rattle.lic_text.specs.Lines.{words_of}
use Rattle.lic_text.specs.Prefix.{joined_text}
use Rattle.lic_text.proofs.words.Words.go_on.Goals as goal

pub returns-clause-words : goal.returns-clause-words
returns-clause-words c =
    c.beginning.ensures.words ∙ ap (λ (lines : List (List ℕ)). words_of (joined_text lines)) (sym c.cut_line.ensures.cut)
