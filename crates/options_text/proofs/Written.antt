use Rattle.std.proofs.Common.{◌≡◌, ◌==◌, ℕ, zero, suc, ◌+◌, ◌-◌, ◌<◌, ◌≤◌, nat_le, Bool, true, false, not, List, [], ◌∷◌, ◌++◌, length, map, replicate, None, Result, Ok, refl, ap, ◌∙◌, arith, append_assoc}
use Rattle.std.proofs.lemmas.Bool.{and_parts, leb-true, le-ltb, ne_eqb}
use Rattle.std.proofs.lemmas.List.Splits.{slice_split-cons_no}
use Rattle.std.specs.List.{list_all, onto_first, slice_split, AllByRecursion}
use Rattle.lic_text.specs.Prefix.{has_no_end, joined_text, line_count, lines_behind}
use Rattle.lic_text.specs.Physical.{is_comment, is_continued, is_empty, physical_lines, without_empty_end, without_return}
use Rattle.lic_text.specs.Lines.{Worded, fault_of, lines_from, words_of}
use Rattle.lic_text.specs.declared.fault.TextFault.{TextFault}
use Rattle.lic_text.proofs.Prefixes.{at_words, none_left, past_blanks}
use Rattle.lic_text.proofs.Parts.{no_lines}
use Rattle.options_text.specs.Canonical.{entry_text, line_text, text_from}
use Rattle.options_text.specs.Entries.{line_of}
use Rattle.options_text.specs.Rises.{Rises}
use Rattle.options_text.specs.declared.entry.Entry.{Entry}
use Rattle.options_text.proofs.Closings.{no_return}

-- The physical lines of a written text.

text_split : (text rest : List ℕ) → list_all (λ b. nat_le 32 b) text ≡ true → slice_split (λ b. b == 10) (text ++ 10 ∷ rest) ≡ text ∷ slice_split (λ b. b == 10) rest
text_split [] rest h = refl
text_split (b ∷ bs) rest h =
    let parts : (nat_le 32 b ≡ true) × (list_all (λ x. nat_le 32 x) bs ≡ true) = and_parts _ _ h in
    let low : 32 ≤ b = leb-true 32 b parts.0 in
    slice_split-cons_no (λ x. x == 10) b (bs ++ 10 ∷ rest) (ne_eqb b 10 (λ e. omega arith)) ∙ ap (onto_first b) (text_split bs rest parts.1)

onto_more : (text : List ℕ) (x : ℕ) (parts : List (List ℕ)) → without_empty_end (text ∷ onto_first x parts) ≡ text ∷ without_empty_end (onto_first x parts)
onto_more text x [] = refl
onto_more text x (part ∷ parts) = refl

more_step : (text : List ℕ) (p : ℕ → Bool) (x : ℕ) (xs : List ℕ) (b : Bool) → p x ≡ b → without_empty_end (text ∷ slice_split p (x ∷ xs)) ≡ text ∷ without_empty_end (slice_split p (x ∷ xs))
more_step text p x xs true h = rw h refl
more_step text p x xs false h = rw h (onto_more text x (slice_split p xs))

more_parts : (text : List ℕ) (p : ℕ → Bool) (xs : List ℕ) → without_empty_end (text ∷ slice_split p xs) ≡ text ∷ without_empty_end (slice_split p xs)
more_parts text p [] = refl
more_parts text p (x ∷ xs) = more_step text p x xs (p x) refl

stays : (text : List ℕ) → list_all (λ b. nat_le 32 b) text ≡ true → without_return text ≡ text
stays text free = rw (no_return text free) refl

-- a text with a feed behind it is the first physical line
physical_more : (text rest : List ℕ) → list_all (λ b. nat_le 32 b) text ≡ true → physical_lines (text ++ 10 ∷ rest) ≡ text ∷ physical_lines rest
unfolding physical_lines
physical_more text rest free =
    ap (λ parts. map without_return (without_empty_end parts)) (text_split text rest free)
    ∙ (ap (map without_return) (more_parts text (λ b. b == 10) rest)
    ∙ ap (λ (first : List ℕ). first ∷ map without_return (without_empty_end (slice_split (λ b. b == 10) rest))) (stays text free))

-- The logical lines.

-- an empty line is passed over
empty_line : (n : ℕ) (texts : List (List ℕ)) → lines_from n ([] ∷ texts) ≡ lines_from (n + 1) texts
empty_line n texts = past_blanks [] texts n refl refl refl

gap : (d at : ℕ) (rest : List ℕ) → lines_from at (physical_lines (replicate d 10 ++ rest)) ≡ lines_from (at + d) (physical_lines rest)
gap zero at rest =
    let same : at ≡ at + 0 = omega arith in
    ap (λ (n : ℕ). lines_from n (physical_lines rest)) same
gap (suc d) at rest =
    let same : at + 1 + d ≡ at + suc d = omega arith in
    ap (lines_from at) (physical_more [] (replicate d 10 ++ rest) refl)
    ∙ (empty_line at (physical_lines (replicate d 10 ++ rest)) ∙ (gap d (at + 1) rest ∙ ap (λ (n : ℕ). lines_from n (physical_lines rest)) same))

-- a text that is read as one line of these words
pub record IsLineText (text : List ℕ) (words : List (List ℕ)) : Type 0 where
  pub free : list_all (λ b. nat_le 32 b) text ≡ true
  pub silent : is_comment text ≡ false
  pub ends : is_continued text ≡ false
  pub short : length text ≤ 8192
  pub says : words_of text ≡ words
  pub some : is_empty words ≡ false

no_fault : (n size : ℕ) → size ≤ 8192 → fault_of n size false ≡ None
no_fault n size h = rw (le-ltb 8192 size h) refl

one_line : (n : ℕ) (text : List ℕ) (words : List (List ℕ)) (texts : List (List ℕ)) → IsLineText text words → lines_from n (text ∷ texts) ≡ Ok (n, words) ∷ lines_from (n + 1) texts
one_line n text words texts t =
    let joined : joined_text (text ∷ texts) ≡ text = rw t.ends refl in
    let ended : has_no_end (text ∷ texts) ≡ false = rw t.ends refl in
    let count : line_count (text ∷ texts) ≡ 1 = rw t.ends refl in
    let behind : lines_behind (text ∷ texts) ≡ texts = rw t.ends refl in
    let said : words_of (joined_text (text ∷ texts)) ≡ words = ap words_of joined ∙ t.says in
    let fine : fault_of n (length (joined_text (text ∷ texts))) (has_no_end (text ∷ texts)) ≡ None =
    (ap (λ (line : List ℕ). fault_of n (length line) (has_no_end (text ∷ texts))) joined ∙ (ap (fault_of n (length text)) ended ∙ no_fault n (length text) t.short)) in
    let told : not (is_empty (words_of (joined_text (text ∷ texts)))) ≡ true = ap (λ (ws : List (List ℕ)). not (is_empty ws)) said ∙ ap not t.some in
    at_words text texts n t.silent fine told
    ∙ (ap (λ (ws : List (List ℕ)). Ok (n, ws) ∷ lines_from (n + line_count (text ∷ texts)) (lines_behind (text ∷ texts))) said
    ∙ (ap (λ (c : ℕ). Ok (n, words) ∷ lines_from (n + c) (lines_behind (text ∷ texts))) count
    ∙ ap (λ (rest : List (List ℕ)). Ok (n, words) ∷ lines_from (n + 1) rest) behind))

text_apart : (front text rest : List ℕ) → (front ++ text ++ 10 ∷ []) ++ rest ≡ front ++ (text ++ 10 ∷ rest)
text_apart front text rest = append_assoc (front ++ text) (10 ∷ []) rest ∙ append_assoc front text (10 ∷ rest)

line_step : (n line : ℕ) (text : List ℕ) (words : List (List ℕ)) (rest : List ℕ) → n < line → IsLineText text words →
    lines_from (n + 1) (physical_lines (line_text (n + 1) line text ++ rest)) ≡ Ok (line, words) ∷ lines_from (line + 1) (physical_lines rest)
line_step n line text words rest low t =
    let same : n + 1 + (line - (n + 1)) ≡ line = omega arith in
    ap (λ (file : List ℕ). lines_from (n + 1) (physical_lines file)) (text_apart (replicate (line - (n + 1)) 10) text rest)
    ∙ (gap (line - (n + 1)) (n + 1) (text ++ 10 ∷ rest)
    ∙ (ap (λ (at : ℕ). lines_from at (physical_lines (text ++ 10 ∷ rest))) same
    ∙ (ap (lines_from line) (physical_more text rest t.free) ∙ one_line line text words (physical_lines rest) t)))

-- the words of each entry's line
abbrev pub AreTexts : (Entry → List (List ℕ)) → List Entry → Type 0
AreTexts words entries = AllByRecursion (λ (e : Entry). IsLineText (entry_text e) (words e)) entries

-- the lines that are read of the text of entries
pub lines_written : (words : Entry → List (List ℕ)) (n : ℕ) (entries : List Entry) → Rises n (map line_of entries) → AreTexts words entries →
    lines_from (n + 1) (physical_lines (text_from (n + 1) entries)) ≡ map (λ (e : Entry). Ok (line_of e, words e)) entries
lines_written words n [] r ts = ap (lines_from (n + 1)) no_lines ∙ none_left (n + 1)
lines_written words n (e ∷ es) r ts =
    line_step n (line_of e) (entry_text e) (words e) (text_from (line_of e + 1) es) r.0 ts.0
    ∙ ap (λ (lines : List (Result Worded TextFault)). Ok (line_of e, words e) ∷ lines) (lines_written words (line_of e) es r.1 ts.1)
