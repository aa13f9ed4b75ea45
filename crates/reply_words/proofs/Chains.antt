-- Texts that are written one behind another are one text.
use Rattle.std.proofs.Common.{◌≡◌, ◌++◌, List, ℕ, ap, sym, ◌∙◌}
use Rattle.std.proofs.lemmas.List.{append_assoc}

pub one_more : (start said more : List ℕ) {b c : List ℕ} → b ≡ start ++ said → c ≡ b ++ more → c ≡ start ++ (said ++ more)
one_more start said more before next = next ∙ ap (λ (l : List ℕ). l ++ more) before ∙ append_assoc start said more

pub two_more : (start said word digits : List ℕ) {b c : List ℕ} → b ≡ start ++ said → c ≡ b ++ (word ++ digits) → c ≡ start ++ (said ++ word ++ digits)
two_more start said word digits before next =
    one_more start said (word ++ digits) before next ∙ ap (λ (l : List ℕ). start ++ l) (sym (append_assoc said word digits))
