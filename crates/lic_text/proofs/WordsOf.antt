use Rattle.std.proofs.Common.{◌≡◌, ◌==◌, ℕ, zero, suc, ◌+◌, ◌-◌, if◌then◌else◌, Bool, true, false, not, List, [], ◌∷◌, ◌++◌, length, take, filter, map, Option, None, Some, Result, Ok, Err, refl}
use Rattle.std.specs.List.{slice_split, onto_first, AllByRecursion}
use Rattle.std.proofs.lemmas.Bool.{not-true}
use Rattle.lic_text.specs.Physical.{is_blank, is_empty, without_last, ends_in, without_return, without_empty_end, physical_lines, is_comment, is_continued}
use Rattle.lic_text.specs.Lines.{Logical, new_line, with_text, with_line, ended_lines, still_open, logical_lines, words_of, fault_of, unless_fault, line_or_fault, tells, up_to_fault, lines_from, lines_of, Worded, IsWordByte, IsWord, HasWords}
use Rattle.lic_text.specs.declared.fault.TextFault.{TextFault}

-- no LF
abbrev NoFeed : List ℕ → Type 0
NoFeed = AllByRecursion (λ b. (b == 10) ≡ false)

all-append : {X : Type 0} (P : X → Type 0) (xs ys : List X) → AllByRecursion P xs → AllByRecursion P ys → AllByRecursion P (xs ++ ys)
all-append P [] ys h g = g
all-append P (x ∷ xs) ys h g = (h.0, all-append P xs ys h.1 g)

all-take : {X : Type 0} (P : X → Type 0) (n : ℕ) (xs : List X) → AllByRecursion P xs → AllByRecursion P (take n xs)
all-take P zero xs h = tt
all-take P (suc n) [] h = tt
all-take P (suc n) (x ∷ xs) h = (h.0, all-take P n xs h.1)

all-map : {X Y : Type 0} (P : X → Type 0) (Q : Y → Type 0) (h : X → Y) (xs : List X) → ((x : X) → P x → Q (h x)) → AllByRecursion P xs → AllByRecursion Q (map h xs)
all-map P Q h [] f all = tt
all-map P Q h (x ∷ xs) f all = (f x all.0, all-map P Q h xs f all.1)

filter_step : {X : Type 0} (Q : X → Type 0) (p : X → Bool) (x : X) (xs : List X) (b : Bool) → p x ≡ b → (p x ≡ true → Q x) → AllByRecursion Q (filter p xs) → AllByRecursion Q (filter p (x ∷ xs))
filter_step Q p x xs true h f all = rw h (f h, all)
filter_step Q p x xs false h f all = rw h all

all-filter : {X : Type 0} (P Q : X → Type 0) (p : X → Bool) (xs : List X) → ((x : X) → P x → p x ≡ true → Q x) → AllByRecursion P xs → AllByRecursion Q (filter p xs)
all-filter P Q p [] f all = tt
all-filter P Q p (x ∷ xs) f all = filter_step Q p x xs (p x) refl (f x all.0) (all-filter P Q p xs f all.1)

-- what holds of both values holds of the one chosen
pub of_either : {X : Type 0} (P : X → Type 0) (b : Bool) (x y : X) → P x → P y → P (if b then x else y)
of_either P true x y h g = h
of_either P false x y h g = g

onto_all : (P : ℕ → Type 0) (x : ℕ) (parts : List (List ℕ)) → P x → AllByRecursion (AllByRecursion P) parts → AllByRecursion (AllByRecursion P) (onto_first x parts)
onto_all P x [] h all = ((h, tt), tt)
onto_all P x (part ∷ parts) h all = ((h, all.0), all.1)

parts_step : (P : ℕ → Type 0) (p : ℕ → Bool) (x : ℕ) (xs : List ℕ) (b : Bool) → p x ≡ b → (p x ≡ false → P x) → AllByRecursion (AllByRecursion P) (slice_split p xs) → AllByRecursion (AllByRecursion P) (slice_split p (x ∷ xs))
parts_step P p x xs true h f all = rw h (tt, all)
parts_step P p x xs false h f all = rw h (onto_all P x (slice_split p xs) (f h) all)

-- the bytes of the parts: those at which the text isn't cut
parts_are : (Q P : ℕ → Type 0) (p : ℕ → Bool) (xs : List ℕ) → ((x : ℕ) → Q x → p x ≡ false → P x) → AllByRecursion Q xs → AllByRecursion (AllByRecursion P) (slice_split p xs)
parts_are Q P p [] f all = (tt, tt)
parts_are Q P p (x ∷ xs) f all = parts_step P p x xs (p x) refl (f x all.0) (parts_are Q P p xs f all.1)

all_of : {X : Type 0} (xs : List X) → AllByRecursion (λ _. Unit {0}) xs
all_of [] = tt
all_of (x ∷ xs) = (tt, all_of xs)

all-end : (P : List ℕ → Type 0) (texts : List (List ℕ)) → AllByRecursion P texts → AllByRecursion P (without_empty_end texts)
all-end P [] h = tt
all-end P ([] ∷ []) h = tt
all-end P ((x ∷ xs) ∷ []) h = (h.0, tt)
all-end P (text ∷ next ∷ others) h = (h.0, all-end P (next ∷ others) h.1)

-- no physical line has an LF
no_feeds : (file : List ℕ) → AllByRecursion NoFeed (physical_lines file)
unfolding physical_lines
no_feeds file =
    all-map NoFeed NoFeed without_return (without_empty_end (slice_split (λ b. b == 10) file))
    (λ text h. of_either NoFeed (ends_in 13 text) (without_last text) text (all-take (λ b. (b == 10) ≡ false) (length text - 1) text h) h)
    (all-end NoFeed (slice_split (λ b. b == 10) file) (parts_are (λ _. Unit {0}) (λ b. (b == 10) ≡ false) (λ b. b == 10) file (λ x q h. h) (all_of file)))

-- no LF in a logical line, where there is one
abbrev NoFeedIn : Logical → Type 0
NoFeedIn line = NoFeed line.text

abbrev NoFeedIf : Option Logical → Type 0
NoFeedIf None = Unit {0}
NoFeedIf (Some line) = NoFeedIn line

no_feed_joined : (line : Logical) (text : List ℕ) → NoFeedIn line → NoFeed text → NoFeedIn (with_text line text)
no_feed_joined line text h g =
    of_either NoFeedIn (is_continued text) (record { first = line.first; text = line.text ++ (without_last text ++ 32 ∷ []); is_open = true }) (record { first = line.first; text = line.text ++ text; is_open = false })
    (all-append (λ b. (b == 10) ≡ false) line.text (without_last text ++ 32 ∷ []) h (all-append (λ b. (b == 10) ≡ false) (without_last text) (32 ∷ []) (all-take (λ b. (b == 10) ≡ false) (length text - 1) text g) (refl, tt)))
    (all-append (λ b. (b == 10) ≡ false) line.text text h g)

no_feed_with : (open_line : Option Logical) (number : ℕ) (text : List ℕ) → NoFeedIf open_line → NoFeed text → NoFeedIf (with_line open_line number text)
no_feed_with None number text h g = of_either NoFeedIf (is_comment text) None (Some (with_text (new_line number) text)) tt (no_feed_joined (new_line number) text tt g)
no_feed_with (Some line) number text h g = no_feed_joined line text h g

no_feed_ended : (line : Option Logical) → NoFeedIf line → AllByRecursion NoFeedIn (ended_lines line)
no_feed_ended None h = tt
no_feed_ended (Some line) h = of_either (AllByRecursion NoFeedIn) line.is_open [] (line ∷ []) tt (h, tt)

no_feed_open : (line : Option Logical) → NoFeedIf line → NoFeedIf (still_open line)
no_feed_open None h = tt
no_feed_open (Some line) h = of_either NoFeedIf line.is_open (Some line) None h tt

no_feed_lines : (texts : List (List ℕ)) (open_line : Option Logical) (number : ℕ) → AllByRecursion NoFeed texts → NoFeedIf open_line → AllByRecursion NoFeedIn (logical_lines texts open_line number)
no_feed_lines [] None number all h = tt
no_feed_lines [] (Some line) number all h = (h, tt)
no_feed_lines (text ∷ texts) open_line number all h =
    let more = no_feed_with open_line number text h all.0 in
    all-append NoFeedIn (ended_lines (with_line open_line number text)) (logical_lines texts (still_open (with_line open_line number text)) (number + 1))
    (no_feed_ended (with_line open_line number text) more) (no_feed_lines texts (still_open (with_line open_line number text)) (number + 1) all.1 (no_feed_open (with_line open_line number text) more))

-- the words of a text without LF
are_words : (text : List ℕ) → NoFeed text → AllByRecursion IsWord (words_of text)
are_words text h =
    all-filter (AllByRecursion IsWordByte) IsWord (λ word. not (is_empty word)) (slice_split is_blank text) (λ word all some. (not-true (is_empty word) some, all))
    (parts_are (λ b. (b == 10) ≡ false) IsWordByte is_blank text (λ x q g. (g, q)) h)

abbrev AreWords : Result Worded TextFault → Type 0
AreWords (Ok line) = AllByRecursion IsWord line.1
AreWords (Err fault) = Unit {0}

are_words_unless : (fault : Option TextFault) (line : Worded) → AllByRecursion IsWord line.1 → AreWords (unless_fault fault line)
are_words_unless None line h = h
are_words_unless (Some fault) line h = tt

has_words_told : (line : Result Worded TextFault) → AreWords line → tells line ≡ true → HasWords line
has_words_told (Ok line) h some = (not-true (is_empty line.1) some, h)
has_words_told (Err fault) h some = tt

all-up_to_fault : (lines : List (Result Worded TextFault)) → AllByRecursion HasWords lines → AllByRecursion HasWords (up_to_fault lines)
all-up_to_fault [] all = tt
all-up_to_fault (Ok line ∷ others) all = (all.0, all-up_to_fault others all.1)
all-up_to_fault (Err fault ∷ others) all = (tt, tt)

-- each line of a file has words, and they are words
pub words_are_words : (file : List ℕ) → AllByRecursion HasWords (lines_of file)
unfolding lines_from
words_are_words file =
    let lines = logical_lines (physical_lines file) None 1 in
    all-up_to_fault (filter tells (map line_or_fault lines))
    (all-filter AreWords HasWords tells (map line_or_fault lines) has_words_told
    (all-map NoFeedIn AreWords line_or_fault lines (λ line h. are_words_unless (fault_of line.first (length line.text) line.is_open) (line.first, words_of line.text) (are_words line.text h))
    (no_feed_lines (physical_lines file) None 1 (no_feeds file) tt)))
