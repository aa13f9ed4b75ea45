use Rattle.std.proofs.Common.{◌≡◌, ℕ, ◌+◌, ◌<◌, List, ◌++◌, length, get_or, drop, sym, ap, ◌∙◌}
use Rattle.std.proofs.lemmas.List.{drop_more}
use Rattle.desk_logs.specs.Text.{numbered_texts}

-- the text of what is left begins with that of the next
pub next_at : {X : Type 0} (text : ℕ → X → List ℕ) (xs : List X) (i : ℕ) (d : X) → i < length xs → numbered_texts text i (drop i xs) ≡ text i (get_or xs i d) ++ numbered_texts text (i + 1) (drop (i + 1) xs)
next_at text xs i d h = ap (numbered_texts text i) (drop_more xs i d h)

-- the same where the next is known by another name
pub next_text : {X : Type 0} (text : ℕ → X → List ℕ) (xs : List X) (i : ℕ) (x : X) → i < length xs → x ≡ get_or xs i x → numbered_texts text i (drop i xs) ≡ text i x ++ numbered_texts text (i + 1) (drop (i + 1) xs)
next_text {X} text xs i x h e =
    next_at text xs i x h ∙ ap (λ (y : X). text i y ++ numbered_texts text (i + 1) (drop (i + 1) xs)) (sym e)
