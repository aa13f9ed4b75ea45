-- Texts that are put one behind another are one text.
use Rattle.std.proofs.Common.{◌≡◌, ◌∙◌, ◌++◌, List, ℕ, ap, append_assoc}

pub one_more : (start said more : List ℕ) {b c : List ℕ} → b ≡ start ++ said → c ≡ b ++ more → c ≡ start ++ (said ++ more)
one_more start said more before next = next ∙ ap (λ (l : List ℕ). l ++ more) before ∙ append_assoc start said more
