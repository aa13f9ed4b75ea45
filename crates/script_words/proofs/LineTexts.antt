-- Texts that are read as one line, where a line end stands behind each.
use Rattle.std.proofs.Common.{◌≡◌, ◌==◌, ℕ, suc, ◌+◌, ◌-◌, ◌<◌, ◌≤◌, nat_le, nat_lt, Bool, true, false, not, List, [], ◌∷◌, ◌++◌, length, map, get_or, None, Ok, refl, sym, ap, ◌∙◌, arith}
use Rattle.std.proofs.lemmas.Bool.{and_parts, leb-true, le-ltb, lt-ltb, ltb-true, ne_eqb}
use Rattle.std.proofs.lemmas.List.Splits.{slice_split-cons_no}
use Rattle.std.specs.List.{list_all, onto_first, slice_split}
use Rattle.lic_text.specs.Prefix.{has_no_end, joined_text, line_count, lines_behind}
use Rattle.lic_text.specs.Physical.{ends_in, is_comment, is_continued, is_empty, physical_lines, without_empty_end, without_return}
use Rattle.lic_text.specs.Lines.{fault_of, lines_from, words_of}
use Rattle.lic_text.proofs.Prefixes.{at_words}

-- How texts end.

ends_at : (b : ℕ) (text : List ℕ) (i : ℕ) → 0 < length text → length text - 1 ≡ i → ends_in b text ≡ (get_or text i 0 == b)
ends_at b text i h e = rw (lt-ltb 0 (length text) h, e) refl

-- a text ends as its rest does
ends_step : (b x y : ℕ) (ys : List ℕ) → ends_in b (x ∷ y ∷ ys) ≡ ends_in b (y ∷ ys)
ends_step b x y ys = ends_at b (x ∷ y ∷ ys) (suc (length ys)) (omega arith) (omega arith) ∙ sym (ends_at b (y ∷ ys) (length ys) (omega arith) (omega arith))

ends_other : (b x : ℕ) → ((x ≡ b) → ⊥) → ends_in b (x ∷ []) ≡ false
ends_other b x h = rw (ne_eqb x b h) refl

-- a text with no byte below 32 doesn't end in a return
no_return : (text : List ℕ) → list_all (λ b. nat_le 32 b) text ≡ true → ends_in 13 text ≡ false
no_return [] h = refl
no_return (x ∷ []) h =
    let low : 32 ≤ x = leb-true 32 x (and_parts (nat_le 32 x) true h).0 in
    ends_other 13 x (λ e. omega arith)
no_return (x ∷ y ∷ ys) h = ends_step 13 x y ys ∙ no_return (y ∷ ys) (and_parts (nat_le 32 x) _ h).1

-- a text whose bytes are below the backslash isn't read as continued
pub no_backslash : (text : List ℕ) → list_all (λ b. nat_lt b 92) text ≡ true → is_continued text ≡ false
no_backslash [] h = refl
no_backslash (x ∷ []) h =
    let low : x < 92 = ltb-true x 92 (and_parts (nat_lt x 92) true h).0 in
    ends_other 92 x (λ e. omega arith)
no_backslash (x ∷ y ∷ ys) h = ends_step 92 x y ys ∙ no_backslash (y ∷ ys) (and_parts (nat_lt x 92) _ h).1

-- behind a space a text ends as it does alone
pub continued_behind : (front text : List ℕ) → is_continued (front ++ 32 ∷ text) ≡ is_continued text
continued_behind [] [] = refl
continued_behind [] (y ∷ ys) = ends_step 92 32 y ys
continued_behind (x ∷ []) text = ends_step 92 x 32 text ∙ continued_behind [] text
continued_behind (x ∷ y ∷ ys) text = ends_step 92 x y (ys ++ 32 ∷ text) ∙ continued_behind (y ∷ ys) text

-- The physical lines of a written text.

text_split : (text rest : List ℕ) → list_all (λ b. nat_le 32 b) text ≡ true → slice_split (λ b. b == 10) (text ++ 10 ∷ rest) ≡ text ∷ slice_split (λ b. b == 10) rest
text_split [] rest h = refl
text_split (b ∷ bs) rest h =
    let parts : (nat_le 32 b ≡ true) × (list_all (λ x. nat_le 32 x) bs ≡ true) = and_parts _ _ h in
    let low : 32 ≤ b = leb-true 32 b parts.0 in
    slice_split-cons_no (λ x. x == 10) b (bs ++ 10 ∷ rest) (ne_eqb b 10 (λ e. omega arith)) ∙ ap (onto_first b) (text_split bs rest parts.1)

onto_more : (text : List ℕ) (x : ℕ) (parts : List (List ℕ)) → without_empty_end (text ∷ onto_first x parts) ≡ text ∷ without_empty_end (onto_first x parts)
onto_more text x [] = refl
onto_more text x (part ∷ parts) = refl

more_step : (text : List ℕ) (p : ℕ → Bool) (x : ℕ) (xs : List ℕ) (b : Bool) → p x ≡ b → without_empty_end (text ∷ slice_split p (x ∷ xs)) ≡ text ∷ without_empty_end (slice_split p (x ∷ xs))
more_step text p x xs true h = rw h refl
more_step text p x xs false h = rw h (onto_more text x (slice_split p xs))

more_parts : (text : List ℕ) (p : ℕ → Bool) (xs : List ℕ) → without_empty_end (text ∷ slice_split p xs) ≡ text ∷ without_empty_end (slice_split p xs)
more_parts text p [] = refl
more_parts text p (x ∷ xs) = more_step text p x xs (p x) refl

stays : (text : List ℕ) → list_all (λ b. nat_le 32 b) text ≡ true → without_return text ≡ text
stays text free = rw (no_return text free) refl

physical_more : (text rest : List ℕ) → list_all (λ b. nat_le 32 b) text ≡ true → physical_lines (text ++ 10 ∷ rest) ≡ text ∷ physical_lines rest
unfolding physical_lines
physical_more text rest free =
    ap (λ parts. map without_return (without_empty_end parts)) (text_split text rest free)
    ∙ (ap (map without_return) (more_parts text (λ b. b == 10) rest)
    ∙ ap (λ (first : List ℕ). first ∷ map without_return (without_empty_end (slice_split (λ b. b == 10) rest))) (stays text free))

-- The logical lines.

-- a text that is read as one line
pub record IsLineText (text : List ℕ) : Type 0 where
  pub free : list_all (λ b. nat_le 32 b) text ≡ true
  pub silent : is_comment text ≡ false
  pub ends : is_continued text ≡ false
  pub short : length text ≤ 8192
  pub some : is_empty (words_of text) ≡ false

no_fault : (n size : ℕ) → size ≤ 8192 → fault_of n size false ≡ None
no_fault n size h = rw (le-ltb 8192 size h) refl

one_line : (n : ℕ) (text : List ℕ) (texts : List (List ℕ)) → IsLineText text → lines_from n (text ∷ texts) ≡ Ok (n, words_of text) ∷ lines_from (n + 1) texts
one_line n text texts t =
    let joined : joined_text (text ∷ texts) ≡ text = rw t.ends refl in
    let ended : has_no_end (text ∷ texts) ≡ false = rw t.ends refl in
    let count : line_count (text ∷ texts) ≡ 1 = rw t.ends refl in
    let behind : lines_behind (text ∷ texts) ≡ texts = rw t.ends refl in
    let said : words_of (joined_text (text ∷ texts)) ≡ words_of text = ap words_of joined in
    let fine : fault_of n (length (joined_text (text ∷ texts))) (has_no_end (text ∷ texts)) ≡ None =
    (ap (λ (line : List ℕ). fault_of n (length line) (has_no_end (text ∷ texts))) joined ∙ (ap (fault_of n (length text)) ended ∙ no_fault n (length text) t.short)) in
    let told : not (is_empty (words_of (joined_text (text ∷ texts)))) ≡ true = ap (λ (ws : List (List ℕ)). not (is_empty ws)) said ∙ ap not t.some in
    at_words text texts n t.silent fine told
    ∙ (ap (λ (ws : List (List ℕ)). Ok (n, ws) ∷ lines_from (n + line_count (text ∷ texts)) (lines_behind (text ∷ texts))) said
    ∙ (ap (λ (c : ℕ). Ok (n, words_of text) ∷ lines_from (n + c) (lines_behind (text ∷ texts))) count
    ∙ ap (λ (rest : List (List ℕ)). Ok (n, words_of text) ∷ lines_from (n + 1) rest) behind))

-- such a text with a line end behind it is the first line, and what follows has the others
pub first_line : (n : ℕ) (text rest : List ℕ) → IsLineText text →
    lines_from n (physical_lines (text ++ 10 ∷ rest)) ≡ Ok (n, words_of text) ∷ lines_from (n + 1) (physical_lines rest)
first_line n text rest t = ap (lines_from n) (physical_more text rest t.free) ∙ one_line n text (physical_lines rest) t
