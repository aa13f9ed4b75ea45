use Rattle.std.proofs.Common.{◌≡◌, ℕ, ◌+◌, ◌-◌, ◌<◌, ◌≤◌, Bool, true, false, List, [], ◌∷◌, length, take, drop, map, ◌==◌, refl, ap, ◌∙◌, arith, length-drop}
use Rattle.std.proofs.Math.ListN.{drop_of_length-le}
use Rattle.std.proofs.lemmas.List.{take_all, nil_from_length}
use Rattle.std.proofs.lemmas.List.Splits.{slice_split_first}
use Rattle.std.specs.List.{position_or_len, slice_split, onto_first}
use Rattle.lic_text.specs.Physical.{without_empty_end, without_return, physical_lines}
use Rattle.lic_text.proofs.Cuts.{cut}

onto_more : (text : List ℕ) (x : ℕ) (parts : List (List ℕ)) → without_empty_end (text ∷ onto_first x parts) ≡ text ∷ without_empty_end (onto_first x parts)
onto_more text x [] = refl
onto_more text x (part ∷ parts) = refl

more_step : (text : List ℕ) (p : ℕ → Bool) (x : ℕ) (xs : List ℕ) (b : Bool) → p x ≡ b → without_empty_end (text ∷ slice_split p (x ∷ xs)) ≡ text ∷ without_empty_end (slice_split p (x ∷ xs))
more_step text p x xs true h = rw h refl
more_step text p x xs false h = rw h (onto_more text x (slice_split p xs))

-- a part with others behind it stays
more_parts : (text : List ℕ) (p : ℕ → Bool) (xs : List ℕ) → without_empty_end (text ∷ slice_split p xs) ≡ text ∷ without_empty_end (slice_split p xs)
more_parts text p [] = refl
more_parts text p (x ∷ xs) = more_step text p x xs (p x) refl

-- a file without LF is one part
one_part : (xs : List ℕ) → length xs ≤ position_or_len (λ b. b == 10) xs → slice_split (λ b. b == 10) xs ≡ xs ∷ []
one_part xs end =
    let k = cut (λ b. b == 10) xs in
    let none : drop (position_or_len (λ b. b == 10) xs) xs ≡ [] = drop_of_length-le xs end in
    let whole : take (position_or_len (λ b. b == 10) xs) xs ≡ xs = take_all (position_or_len (λ b. b == 10) xs) xs end in
    let back : slice_split (λ b. b == 10) [] ≡ [] ∷ k.parts = rw none at k.back in
    let no_parts : k.parts ≡ [] = cc in
    k.front ∙ (ap (λ (front : List ℕ). front ∷ k.parts) whole ∙ ap (λ (parts : List (List ℕ)). xs ∷ parts) no_parts)

some_end : (xs : List ℕ) → 0 < length xs → without_empty_end (xs ∷ []) ≡ xs ∷ []
some_end [] h = absurd (omega arith)
some_end (x ∷ xs) h = refl

-- the first physical line ends at an LF
pub cut_at_feed : (xs : List ℕ) → position_or_len (λ b. b == 10) xs < length xs →
    physical_lines xs ≡ without_return (take (position_or_len (λ b. b == 10) xs) xs) ∷ physical_lines (drop (position_or_len (λ b. b == 10) xs + 1) xs)
unfolding physical_lines
cut_at_feed xs h =
    ap (λ (parts : List (List ℕ)). map without_return (without_empty_end parts)) (slice_split_first (λ b. b == 10) xs 0 h)
    ∙ ap (map without_return) (more_parts (take (position_or_len (λ b. b == 10) xs) xs) (λ b. b == 10) (drop (position_or_len (λ b. b == 10) xs + 1) xs))

-- the first physical line ends with the file
pub cut_at_end : (xs : List ℕ) → 0 < length xs → length xs ≤ position_or_len (λ b. b == 10) xs → physical_lines xs ≡ without_return xs ∷ physical_lines []
unfolding physical_lines
cut_at_end xs some end =
    ap (λ (parts : List (List ℕ)). map without_return (without_empty_end parts)) (one_part xs end) ∙ ap (map without_return) (some_end xs some)

-- no bytes, no lines
pub no_lines : physical_lines [] ≡ []
unfolding physical_lines
no_lines = refl

-- the rest of a list, as a slice from a place on has it
whole_rest : (n : ℕ) (xs : List ℕ) → take (length xs - n) (drop n xs) ≡ drop n xs
whole_rest n xs = take_all (length xs - n) (drop n xs) (omega (arith, length-drop n xs))

pub cut_found : (xs text : List ℕ) (n : ℕ) → n ≡ position_or_len (λ b. b == 10) xs → n < length xs → text ≡ without_return (take n xs) →
    physical_lines xs ≡ text ∷ physical_lines (take (length xs - (n + 1)) (drop (n + 1) xs))
cut_found xs text n e h is =
    let here : position_or_len (λ b. b == 10) xs < length xs = rw (← e) h in
    rw (whole_rest (n + 1) xs, is, e) (cut_at_feed xs here)

pub cut_none : (xs text : List ℕ) (n : ℕ) → n ≡ position_or_len (λ b. b == 10) xs → 0 < length xs → length xs ≤ n → text ≡ without_return xs →
    physical_lines xs ≡ text ∷ physical_lines []
cut_none xs text n e some h is =
    let end : length xs ≤ position_or_len (λ b. b == 10) xs = rw (← e) h in
    rw is (cut_at_end xs some end)

pub no_bytes : (xs : List ℕ) → length xs ≡ 0 → physical_lines xs ≡ []
no_bytes xs h = ap physical_lines (nil_from_length xs h) ∙ no_lines
