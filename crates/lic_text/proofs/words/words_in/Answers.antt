use Rattle.std.proofs.Common.{◌++◌, [], List, ℕ, refl, ap, ◌∙◌}
use Rattle.std.proofs.lemmas.List.{append-nil}
use Rattle.lic_text.specs.Lines.{words_of}
use Rattle.lic_text.specs.Prefix.{joined_text}
use Rattle.lic_text.proofs.Parts.{no_bytes}
use Rattle.lic_text.proofs.words.words_in.Goals as goal

pub returns : goal.returns
returns c =
    ap (λ (lines : List (List ℕ)). words_of c.args.text.now ++ words_of (joined_text lines)) (no_bytes [] refl) ∙ append-nil (words_of c.args.text.now)
