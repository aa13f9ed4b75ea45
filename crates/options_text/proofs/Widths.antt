use Rattle.std.proofs.Common.{◌≡◌, ℕ, ◌+◌, ◌≤◌, Bool, true, false, not, cond, ltb, List, [], ◌∷◌, ◌++◌, length, filter, map, Option, None, Some, Result, Ok, Err, refl, sym, ap, subst, ◌∙◌, arith}
use Rattle.std.proofs.lemmas.Bool.{ltb-false}
use Rattle.std.specs.List.{slice_split, onto_first, AllByRecursion}
use Rattle.lic_text.specs.Physical.{is_blank, is_comment, is_continued, is_empty, without_last, physical_lines}
use Rattle.lic_text.specs.Lines.{Logical, Worded, ended_lines, line_or_fault, with_text, lines_from, lines_of, logical_lines, new_line, still_open, tells, unless_fault, up_to_fault, with_line, words_of}
use Rattle.lic_text.specs.declared.fault.TextFault.{TextFault}
use Rattle.lic_text.specs.declared.fault.TextFault.TheVariants.{LineTooLong, OpenContinuation}
use Rattle.lic_text.proofs.Cuts.{cut}
use Rattle.options_text.specs.Texts.{closed_text, spaced_text}
use Rattle.options_text.proofs.Closings.{continued_behind, ends_step, length_text, more_if, room}

-- the text of a line that was read: it has the line's words and at most 8,192 bytes, and doesn't end in a backslash
pub record IsRead (line : Worded) : Type 0 where
  pub text : List ℕ
  pub says : words_of text ≡ line.1
  pub short : length text ≤ 8192
  pub ends : is_continued text ≡ false

abbrev pub AreRead : Result Worded TextFault → Type 0
AreRead (Ok line) = IsRead line
AreRead (Err fault) = Unit {0}

-- A logical line ends in no backslash, be it open or not: one that is open ends in a space.

abbrev EndsWell : Logical → Type 0
EndsWell line = is_continued line.text ≡ false

ends_both : (a b : List ℕ) → is_continued a ≡ false → is_continued b ≡ false → is_continued (a ++ b) ≡ false
ends_both [] b h g = g
ends_both (x ∷ []) [] h g = h
ends_both (x ∷ []) (y ∷ ys) h g = ends_step 92 x y ys ∙ g
ends_both (x ∷ y ∷ ys) b h g = ends_step 92 x y (ys ++ b) ∙ ends_both (y ∷ ys) b (sym (ends_step 92 x y ys) ∙ h) g

joined_by : (line : Logical) (text : List ℕ) (b : Bool) → is_continued text ≡ b → EndsWell line → EndsWell (cond b (record { first = line.first; text = line.text ++ (without_last text ++ 32 ∷ []); is_open = true }) (record { first = line.first; text = line.text ++ text; is_open = false }))
joined_by line text true e h = ends_both line.text (without_last text ++ 32 ∷ []) h (continued_behind (without_last text) [])
joined_by line text false e h = ends_both line.text text h e

ends_joined : (line : Logical) (text : List ℕ) → EndsWell line → EndsWell (with_text line text)
ends_joined line text h = joined_by line text (is_continued text) refl h

abbrev EndWell : List Logical → Type 0
EndWell lines = AllByRecursion EndsWell lines

abbrev EndsIf : Option Logical → Type 0
EndsIf None = Unit {0}
EndsIf (Some line) = EndsWell line

new_or_none : (b : Bool) (line : Logical) → EndsWell line → EndsIf (cond b None (Some line))
new_or_none true line h = tt
new_or_none false line h = h

ends_with : (open_line : Option Logical) (number : ℕ) (text : List ℕ) → EndsIf open_line → EndsIf (with_line open_line number text)
ends_with None number text h = new_or_none (is_comment text) (with_text (new_line number) text) (ends_joined (new_line number) text refl)
ends_with (Some line) number text h = ends_joined line text h

ended_by : (line : Logical) (b : Bool) (others : List Logical) → EndsWell line → EndWell others → EndWell (cond b [] (line ∷ []) ++ others)
ended_by line true others h all = all
ended_by line false others h all = (h, all)

ends_ended : (line : Option Logical) (others : List Logical) → EndsIf line → EndWell others → EndWell (ended_lines line ++ others)
ends_ended None others h all = all
ends_ended (Some line) others h all = ended_by line line.is_open others h all

open_by : (line : Logical) (b : Bool) → EndsWell line → EndsIf (cond b (Some line) None)
open_by line true h = h
open_by line false h = tt

ends_open : (line : Option Logical) → EndsIf line → EndsIf (still_open line)
ends_open None h = tt
ends_open (Some line) h = open_by line line.is_open h

ends_lines : (texts : List (List ℕ)) (open_line : Option Logical) (number : ℕ) → EndsIf open_line → EndWell (logical_lines texts open_line number)
ends_lines [] None number h = tt
ends_lines [] (Some line) number h = (h, tt)
ends_lines (text ∷ texts) open_line number h =
    let more : EndsIf (with_line open_line number text) = ends_with open_line number text h in
    ends_ended (with_line open_line number text) (logical_lines texts (still_open (with_line open_line number text)) (number + 1)) more
    (ends_lines texts (still_open (with_line open_line number text)) (number + 1) (ends_open (with_line open_line number text) more))

judged_by : (line : Logical) (long is_open : Bool) → ltb 8192 (length line.text) ≡ long → EndsWell line
    → AreRead (unless_fault (cond long (Some (LineTooLong line.first)) (cond is_open (Some (OpenContinuation line.first)) None)) (line.first, words_of line.text))
judged_by line true is_open e h = tt
judged_by line false true e h = tt
judged_by line false false e h = record { text = line.text; says = refl; short = ltb-false 8192 (length line.text) e; ends = h }

read_judged : (line : Logical) → EndsWell line → AreRead (line_or_fault line)
read_judged line h = judged_by line (ltb 8192 (length line.text)) line.is_open refl h

told_step : (line : Result Worded TextFault) (others : List (Result Worded TextFault)) → AreRead line → AllByRecursion AreRead (up_to_fault (filter tells others)) → AllByRecursion AreRead (up_to_fault (filter tells (line ∷ others)))
told_step (Ok line) others h all =
    elim (is_empty line.1) as (λ b. AllByRecursion AreRead (up_to_fault (cond (not b) (Ok line ∷ filter tells others) (filter tells others)))) [
      | true ↦ all
      | false ↦ (h, all)
    ]
told_step (Err fault) others h all = (tt, tt)

read_told : (lines : List Logical) → EndWell lines → AllByRecursion AreRead (up_to_fault (filter tells (map line_or_fault lines)))
read_told [] all = tt
read_told (line ∷ others) all = told_step (line_or_fault line) (map line_or_fault others) (read_judged line all.0) (read_told others all.1)

-- each line of a file was read from such a text
pub lines_read : (file : List ℕ) → AllByRecursion AreRead (lines_of file)
unfolding lines_from
lines_read file = read_told (logical_lines (physical_lines file) None 1) (ends_lines (physical_lines file) None 1 tt)

-- A text has room for its words.

more_le : (b : Bool) → more_if b ≤ 1
more_le true = omega arith
more_le false = omega arith

room_more : (word : List ℕ) (words : List (List ℕ)) → room (word ∷ words) ≤ length word + 1 + room words
room_more word [] = omega (arith, more_le (is_continued word))
room_more word (next ∷ words) = omega arith

ends_more : (x : ℕ) (xs : List ℕ) → more_if (is_continued xs) ≤ more_if (is_continued (x ∷ xs))
ends_more x [] = omega arith
ends_more x (y ∷ ys) = omega (arith, ap more_if (ends_step 92 x y ys))

-- a text that isn't cut is its one part
one_step : (x : ℕ) (xs part first : List ℕ) (parts : List (List ℕ)) (b : Bool) → is_blank x ≡ b → slice_split is_blank xs ≡ first ∷ parts → ((other : List ℕ) → slice_split is_blank xs ≡ other ∷ [] → other ≡ xs)
    → cond b ([] ∷ slice_split is_blank xs) (onto_first x (slice_split is_blank xs)) ≡ part ∷ [] → part ≡ x ∷ xs
one_step x xs part first parts true e k hyp h = cc
one_step x xs part first parts false e k hyp h =
    let whole : (x ∷ first) ∷ parts ≡ part ∷ [] = sym (ap (onto_first x) k) ∙ h in
    let none : parts ≡ [] = cc in
    let begins : x ∷ first ≡ part = cc in
    sym begins ∙ ap (λ (rest : List ℕ). x ∷ rest) (hyp first (k ∙ ap (λ (others : List (List ℕ)). first ∷ others) none))

one_part : (xs part : List ℕ) → slice_split is_blank xs ≡ part ∷ [] → part ≡ xs
one_part [] part h = cc
one_part (x ∷ xs) part h = let k = cut is_blank xs in one_step x xs part _ k.parts (is_blank x) refl k.front (one_part xs) h

room_onto : (x : ℕ) (xs first : List ℕ) (parts : List (List ℕ)) → slice_split is_blank xs ≡ first ∷ parts → room (first ∷ parts) ≤ length xs + more_if (is_continued xs)
    → room ((x ∷ first) ∷ parts) ≤ length (x ∷ xs) + more_if (is_continued (x ∷ xs))
room_onto x xs first [] k h =
    let whole : first ≡ xs = one_part xs first k in
    let size : length (x ∷ first) ≡ length (x ∷ xs) = ap (λ (rest : List ℕ). length (x ∷ rest)) whole in
    let ends : more_if (is_continued (x ∷ first)) ≡ more_if (is_continued (x ∷ xs)) = ap (λ (rest : List ℕ). more_if (is_continued (x ∷ rest))) whole in
    omega (arith, size, ends)
room_onto x xs first (next ∷ others) k h = omega (arith, h, ends_more x xs)

room_step : (x : ℕ) (xs first : List ℕ) (parts : List (List ℕ)) (b : Bool) → slice_split is_blank xs ≡ first ∷ parts → room (slice_split is_blank xs) ≤ length xs + more_if (is_continued xs)
    → room (cond b ([] ∷ slice_split is_blank xs) (onto_first x (slice_split is_blank xs))) ≤ length (x ∷ xs) + more_if (is_continued (x ∷ xs))
room_step x xs first parts true k h = omega (arith, h, room_more [] (slice_split is_blank xs), ends_more x xs)
room_step x xs first parts false k h =
    let old : List (List ℕ) → Type 0 = λ all. room all ≤ length xs + more_if (is_continued xs) in
    let new : List (List ℕ) → Type 0 = λ all. room (onto_first x all) ≤ length (x ∷ xs) + more_if (is_continued (x ∷ xs)) in
    subst new (sym k) (room_onto x xs first parts k (subst old k h))

-- the parts between blanks
room_split : (text : List ℕ) → room (slice_split is_blank text) ≤ length text + more_if (is_continued text)
room_split [] = omega arith
room_split (x ∷ xs) = let k = cut is_blank xs in room_step x xs _ k.parts (is_blank x) k.front (room_split xs)

room_filter : (parts : List (List ℕ)) → room (filter (λ word. not (is_empty word)) parts) ≤ room parts
room_filter [] = omega arith
room_filter (part ∷ []) =
    elim (is_empty part) as (λ b. room (cond (not b) (part ∷ []) []) ≤ room (part ∷ [])) [
      | true ↦ omega arith
      | false ↦ omega arith
    ]
room_filter (part ∷ next ∷ parts) =
    let others : List (List ℕ) = filter (λ word. not (is_empty word)) (next ∷ parts) in
    elim (is_empty part) as (λ b. room (cond (not b) (part ∷ others) others) ≤ room (part ∷ next ∷ parts)) [
      | true ↦ omega (arith, room_filter (next ∷ parts))
      | false ↦ omega (arith, room_more part others, room_filter (next ∷ parts))
    ]

-- words have no more room than the text that they were read from
room_words : (text : List ℕ) → is_continued text ≡ false → room (words_of text) ≤ length text
room_words text h = omega (arith, room_filter (slice_split is_blank text), room_split text, ap more_if h)

-- Words that are written in the place of others.

-- none is longer than the other's, and none ends in a backslash where the other doesn't; there may be further words there
abbrev pub IsWithin : List (List ℕ) → List (List ℕ) → Type 0
IsWithin [] words = Unit {0}
IsWithin (word ∷ others) [] = ⊥
IsWithin (word ∷ others) (w ∷ ws) = (length word ≤ length w) × ((more_if (is_continued word) ≤ more_if (is_continued w)) × IsWithin others ws)

room_within : (written words : List (List ℕ)) → IsWithin written words → room written ≤ room words
room_within [] words h = omega arith
room_within (word ∷ others) [] h = absurd h
room_within (word ∷ []) (w ∷ []) h = omega (arith, h.0, h.1.0)
room_within (word ∷ []) (w ∷ v ∷ vs) h = omega (arith, h.0, more_le (is_continued word))
room_within (word ∷ next ∷ others) (w ∷ []) h = absurd h.1.1
room_within (word ∷ next ∷ others) (w ∷ v ∷ vs) h = omega (arith, h.0, room_within (next ∷ others) (v ∷ vs) h.1.1)

-- a line's text of such words is no longer than 8,192 bytes
pub short : (line : Worded) (word : List ℕ) (words : List (List ℕ)) → IsRead line → IsWithin (word ∷ words) line.1 → length (closed_text (spaced_text word words)) ≤ 8192
short line word words read within =
    omega (arith, length_text word words, room_within (word ∷ words) line.1 within, ap room read.says, room_words read.text read.ends, read.short)
