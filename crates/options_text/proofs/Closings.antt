use Rattle.std.proofs.Common.{◌≡◌, ◌==◌, ℕ, suc, ◌+◌, ◌-◌, ◌<◌, ◌≤◌, nat_le, Bool, true, false, cond, List, [], ◌∷◌, ◌++◌, length, get_or, refl, sym, ap, ◌∙◌, arith}
use Rattle.std.proofs.lemmas.Bool.{and_parts, leb-true, lt-ltb, ne_eqb}
use Rattle.std.proofs.lemmas.List.{append-nil, length-append}
use Rattle.std.specs.List.{list_all}
use Rattle.lic_text.specs.Physical.{ends_in, is_continued}
use Rattle.options_text.specs.Texts.{closed_text, spaced_text}

ends_at : (b : ℕ) (text : List ℕ) (i : ℕ) → 0 < length text → length text - 1 ≡ i → ends_in b text ≡ (get_or text i 0 == b)
ends_at b text i h e = rw (lt-ltb 0 (length text) h, e) refl

-- a text ends as its rest does
pub ends_step : (b x y : ℕ) (ys : List ℕ) → ends_in b (x ∷ y ∷ ys) ≡ ends_in b (y ∷ ys)
ends_step b x y ys = ends_at b (x ∷ y ∷ ys) (suc (length ys)) (omega arith) (omega arith) ∙ sym (ends_at b (y ∷ ys) (length ys) (omega arith) (omega arith))

pub ends_other : (b x : ℕ) → ((x ≡ b) → ⊥) → ends_in b (x ∷ []) ≡ false
ends_other b x h = rw (ne_eqb x b h) refl

-- a text with no byte below 32 doesn't end in a return
pub no_return : (text : List ℕ) → list_all (λ b. nat_le 32 b) text ≡ true → ends_in 13 text ≡ false
no_return [] h = refl
no_return (x ∷ []) h =
    let low : 32 ≤ x = leb-true 32 x (and_parts (nat_le 32 x) true h).0 in
    ends_other 13 x (λ e. omega arith)
no_return (x ∷ y ∷ ys) h = ends_step 13 x y ys ∙ no_return (y ∷ ys) (and_parts (nat_le 32 x) _ h).1

-- behind a space a text ends as it does alone
pub continued_behind : (front text : List ℕ) → is_continued (front ++ 32 ∷ text) ≡ is_continued text
continued_behind [] [] = refl
continued_behind [] (y ∷ ys) = ends_step 92 32 y ys
continued_behind (x ∷ []) text = ends_step 92 x 32 text ∙ continued_behind [] text
continued_behind (x ∷ y ∷ ys) text = ends_step 92 x y (ys ++ 32 ∷ text) ∙ continued_behind (y ∷ ys) text

not_closed : (text : List ℕ) (b : Bool) → is_continued text ≡ b → is_continued (cond b (text ++ 32 ∷ []) text) ≡ false
not_closed text true h = continued_behind text []
not_closed text false h = h

-- a closed text isn't read as continued
pub closed_ends : (text : List ℕ) → is_continued (closed_text text) ≡ false
closed_ends text = not_closed text (is_continued text) refl

-- one more where a text ends in a backslash
abbrev pub more_if : Bool → ℕ
more_if b = cond b 1 0

length_if : (text : List ℕ) (b : Bool) → length (cond b (text ++ 32 ∷ []) text) ≡ length text + more_if b
length_if text true = length-append text (32 ∷ [])
length_if text false = omega arith

pub length_closed : (text : List ℕ) → length (closed_text text) ≡ length text + more_if (is_continued text)
length_closed text = length_if text (is_continued text)

-- the length of words with one byte between, one more where the last ends in a backslash
abbrev pub room : List (List ℕ) → ℕ
room [] = 0
room (word ∷ []) = length word + more_if (is_continued word)
room (word ∷ next ∷ words) = length word + 1 + room (next ∷ words)

-- a line's text is as long as that
pub length_text : (word : List ℕ) (words : List (List ℕ)) → length (closed_text (spaced_text word words)) ≡ room (word ∷ words)
length_text word [] = ap (λ (text : List ℕ). length (closed_text text)) (append-nil word) ∙ length_closed word
length_text word (w ∷ ws) =
    let ends : more_if (is_continued (word ++ 32 ∷ spaced_text w ws)) ≡ more_if (is_continued (spaced_text w ws)) = ap more_if (continued_behind word (spaced_text w ws)) in
    let long : length (word ++ 32 ∷ spaced_text w ws) ≡ length word + length (32 ∷ spaced_text w ws) = length-append word (32 ∷ spaced_text w ws) in
    let rest : length (closed_text (spaced_text w ws)) ≡ room (w ∷ ws) = length_text w ws in
    omega (arith, length_closed (word ++ 32 ∷ spaced_text w ws), ends, long, rest, length_closed (spaced_text w ws))
