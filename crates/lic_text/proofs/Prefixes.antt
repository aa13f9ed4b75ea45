use Rattle.std.proofs.Common.{◌≡◌, ℕ, ◌+◌, Bool, true, false, not, List, [], ◌∷◌, ◌++◌, length, filter, map, None, Some, Ok, Err, refl, sym, ap, ◌∙◌, append_assoc, arith}
use Rattle.std.proofs.lemmas.List.{append-nil}
use Rattle.lic_text.specs.Physical.{is_empty, is_comment, is_continued, without_last}
use Rattle.lic_text.specs.Lines.{Logical, logical_lines, fault_of, line_or_fault, tells, up_to_fault, words_of, lines_from}
use Rattle.lic_text.specs.Prefix.{joined_text, has_no_end, line_count, lines_behind}
use Rattle.lic_text.specs.declared.fault.TextFault.{TextFault}

-- a logical line of these parts
abbrev pub line_of : ℕ → List ℕ → Bool → Logical
line_of first text is_open = record { first = first; text = text; is_open = is_open }

-- the lines of a text that goes on with an open line
abbrev behind : ℕ → List ℕ → ℕ → List (List ℕ) → List Logical
behind first before number texts =
    line_of first (before ++ joined_text texts) (has_no_end texts) ∷ logical_lines (lines_behind texts) None (number + line_count texts)

same_lines : (first : ℕ) (a b : List ℕ) (is_open : Bool) (n m : ℕ) (texts : List (List ℕ)) → a ≡ b → n ≡ m →
    (line_of first a is_open ∷ logical_lines texts None n) ≡ (line_of first b is_open ∷ logical_lines texts None m)
same_lines first a b is_open n m texts e f =
    ap (λ (text : List ℕ). line_of first text is_open ∷ logical_lines texts None n) e
    ∙ ap (λ (number : ℕ). line_of first b is_open ∷ logical_lines texts None number) f

open_step : (text : List ℕ) (texts : List (List ℕ)) (first : ℕ) (before : List ℕ) (number : ℕ) (b : Bool) → is_continued text ≡ b →
    ((more : List ℕ) (next : ℕ) → logical_lines texts (Some (line_of first more true)) next ≡ behind first more next texts) →
    logical_lines (text ∷ texts) (Some (line_of first before true)) number ≡ behind first before number (text ∷ texts)
open_step text texts first before number true h hyp =
    rw h (hyp (before ++ (without_last text ++ 32 ∷ [])) (number + 1)
    ∙ same_lines first ((before ++ (without_last text ++ 32 ∷ [])) ++ joined_text texts) (before ++ (without_last text ++ 32 ∷ joined_text texts)) (has_no_end texts) (number + 1 + line_count texts) (number + (1 + line_count texts)) (lines_behind texts)
    (append_assoc before (without_last text ++ 32 ∷ []) (joined_text texts) ∙ ap (λ (t : List ℕ). before ++ t) (append_assoc (without_last text) (32 ∷ []) (joined_text texts)))
    (omega arith))
open_step text texts first before number false h hyp = rw h refl

-- an open line takes the physical lines up to the first that isn't continued
pub open_line : (texts : List (List ℕ)) (first : ℕ) (before : List ℕ) (number : ℕ) →
    logical_lines texts (Some (line_of first before true)) number ≡ behind first before number texts
open_line [] first before number = ap (λ (text : List ℕ). line_of first text true ∷ []) (sym (append-nil before))
open_line (text ∷ texts) first before number = open_step text texts first before number (is_continued text) refl (λ more next. open_line texts first more next)

-- the logical line at the beginning of physical lines, the first of them no comment
abbrev front_line : ℕ → List (List ℕ) → Logical
front_line number texts = line_of number (joined_text texts) (has_no_end texts)

-- a physical line that is no comment begins a logical line
begins_line : (text : List ℕ) (texts : List (List ℕ)) (number : ℕ) → is_comment text ≡ false →
    logical_lines (text ∷ texts) None number ≡ front_line number (text ∷ texts) ∷ logical_lines (lines_behind (text ∷ texts)) None (number + line_count (text ∷ texts))
begins_line text texts number h = rw h (open_line (text ∷ texts) number [] number)

-- a comment is passed over
pub past_comment : (text : List ℕ) (texts : List (List ℕ)) (number : ℕ) → is_comment text ≡ true → lines_from number (text ∷ texts) ≡ lines_from (number + 1) texts
unfolding lines_from
past_comment text texts number h = rw h refl

front_fault : (line : Logical) (others : List Logical) (fault : TextFault) → fault_of line.first (length line.text) line.is_open ≡ Some fault →
    up_to_fault (filter tells (map line_or_fault (line ∷ others))) ≡ Err fault ∷ []
front_fault line others fault h = rw h refl

front_told : (line : Logical) (others : List Logical) → fault_of line.first (length line.text) line.is_open ≡ None → not (is_empty (words_of line.text)) ≡ true →
    up_to_fault (filter tells (map line_or_fault (line ∷ others))) ≡ Ok (line.first, words_of line.text) ∷ up_to_fault (filter tells (map line_or_fault others))
front_told line others h g = rw (h, g) refl

front_silent : (line : Logical) (others : List Logical) → fault_of line.first (length line.text) line.is_open ≡ None → not (is_empty (words_of line.text)) ≡ false →
    up_to_fault (filter tells (map line_or_fault (line ∷ others))) ≡ up_to_fault (filter tells (map line_or_fault others))
front_silent line others h g = rw (h, g) refl

-- a line with a fault is the last
pub at_fault : (text : List ℕ) (texts : List (List ℕ)) (number : ℕ) (fault : TextFault) → is_comment text ≡ false →
    fault_of number (length (joined_text (text ∷ texts))) (has_no_end (text ∷ texts)) ≡ Some fault → lines_from number (text ∷ texts) ≡ Err fault ∷ []
unfolding lines_from
at_fault text texts number fault h f =
    ap (λ (lines : List Logical). up_to_fault (filter tells (map line_or_fault lines))) (begins_line text texts number h)
    ∙ front_fault (front_line number (text ∷ texts)) (logical_lines (lines_behind (text ∷ texts)) None (number + line_count (text ∷ texts))) fault f

-- a line with words comes first
pub at_words : (text : List ℕ) (texts : List (List ℕ)) (number : ℕ) → is_comment text ≡ false →
    fault_of number (length (joined_text (text ∷ texts))) (has_no_end (text ∷ texts)) ≡ None → not (is_empty (words_of (joined_text (text ∷ texts)))) ≡ true →
    lines_from number (text ∷ texts) ≡ Ok (number, words_of (joined_text (text ∷ texts))) ∷ lines_from (number + line_count (text ∷ texts)) (lines_behind (text ∷ texts))
unfolding lines_from
at_words text texts number h f g =
    ap (λ (lines : List Logical). up_to_fault (filter tells (map line_or_fault lines))) (begins_line text texts number h)
    ∙ front_told (front_line number (text ∷ texts)) (logical_lines (lines_behind (text ∷ texts)) None (number + line_count (text ∷ texts))) f g

-- a line without words is passed over
pub past_blanks : (text : List ℕ) (texts : List (List ℕ)) (number : ℕ) → is_comment text ≡ false →
    fault_of number (length (joined_text (text ∷ texts))) (has_no_end (text ∷ texts)) ≡ None → not (is_empty (words_of (joined_text (text ∷ texts)))) ≡ false →
    lines_from number (text ∷ texts) ≡ lines_from (number + line_count (text ∷ texts)) (lines_behind (text ∷ texts))
unfolding lines_from
past_blanks text texts number h f g =
    ap (λ (lines : List Logical). up_to_fault (filter tells (map line_or_fault lines))) (begins_line text texts number h)
    ∙ front_silent (front_line number (text ∷ texts)) (logical_lines (lines_behind (text ∷ texts)) None (number + line_count (text ∷ texts))) f g

-- no lines, nothing told
pub none_left : (number : ℕ) → lines_from number [] ≡ []
unfolding lines_from
none_left number = refl
