use Rattle.std.proofs.Common.{◌≡◌, ℕ, List, [], ◌∷◌, ◌++◌, refl, sym, ap, ◌∙◌, append_assoc}
use Rattle.std.proofs.lemmas.Grind.{flat_map-append}
use Rattle.options_text.specs.Texts.{further}

-- words behind words
pub further_both : (a b : List (List ℕ)) → further (a ++ b) ≡ further a ++ further b
further_both a b = flat_map-append (λ word. 32 ∷ word) a b

-- what texts of words are made of
pub ruleset joins = (further_both, append_assoc)
