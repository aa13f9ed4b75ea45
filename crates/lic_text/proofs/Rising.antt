use Rattle.std.proofs.Common.{◌≡◌, ◌<◌, ◌≤◌, ◌+◌, ℕ, Bool, true, false, if◌then◌else◌, List, [], ◌∷◌, ◌++◌, length, filter, map, Option, None, Some, Result, Ok, Err, refl, sym, subst, nat_lt, arith}
use Rattle.lic_text.specs.Physical.{is_comment, is_continued, without_last, physical_lines}
use Rattle.lic_text.specs.Lines.{Logical, new_line, with_text, with_line, ended_lines, still_open, logical_lines, words_of, unless_fault, line_or_fault, tells, up_to_fault, lines_from, lines_of, Worded, number_at, RisesAbove}
use Rattle.lic_text.specs.declared.fault.TextFault.{TextFault}
use Rattle.lic_text.specs.declared.fault.TextFault.TheVariants.{LineTooLong, OpenContinuation}
use Rattle.lic_text.proofs.Prefixes.{line_of}
use Rattle.lic_text.proofs.WordsOf.{of_either}

-- the same of logical lines
abbrev LinesRise : ℕ → List Logical → Type 0
LinesRise number [] = Unit {0}
LinesRise number (line ∷ others) = (number < line.first) × LinesRise line.first others

-- where an open line begins, or else the next one
abbrev Begins : ℕ → Option Logical → ℕ → Type 0
Begins low None number = low < number
Begins low (Some line) number = (low < line.first) × (line.first < number)

begins_with : (open_line : Option Logical) (low number : ℕ) (text : List ℕ) → Begins low open_line number → Begins low (with_line open_line number text) (number + 1)
begins_with None low number text h =
    let P : Option Logical → Type 0 = λ line. Begins low line (number + 1) in
    let Q : Logical → Type 0 = λ line. (low < line.first) × (line.first < number + 1) in
    of_either P (is_comment text) None (Some (with_text (new_line number) text)) (omega arith)
    (of_either Q (is_continued text) (record { first = number; text = [] ++ (without_last text ++ 32 ∷ []); is_open = true }) (record { first = number; text = [] ++ text; is_open = false }) (h, omega arith) (h, omega arith))
begins_with (Some line) low number text h =
    let Q : Logical → Type 0 = λ line. (low < line.first) × (line.first < number + 1) in
    let later : line.first < number + 1 = omega (arith, h.1) in
    of_either Q (is_continued text) (record { first = line.first; text = line.text ++ (without_last text ++ 32 ∷ []); is_open = true }) (record { first = line.first; text = line.text ++ text; is_open = false }) (h.0, later) (h.0, later)

rise_some : (first : ℕ) (text : List ℕ) (is_open : Bool) (texts : List (List ℕ)) (low number : ℕ) → Begins low (Some (line_of first text is_open)) number →
    ((open_line : Option Logical) (from : ℕ) → Begins from open_line number → LinesRise from (logical_lines texts open_line number)) →
    LinesRise low (ended_lines (Some (line_of first text is_open)) ++ logical_lines texts (still_open (Some (line_of first text is_open))) number)
rise_some first text true texts low number h others = others (Some (line_of first text true)) low h
rise_some first text false texts low number h others = (h.0, others None first h.1)

rise_with : (line : Option Logical) (texts : List (List ℕ)) (low number : ℕ) → Begins low line number →
    ((open_line : Option Logical) (from : ℕ) → Begins from open_line number → LinesRise from (logical_lines texts open_line number)) →
    LinesRise low (ended_lines line ++ logical_lines texts (still_open line) number)
rise_with None texts low number h others = others None low h
rise_with (Some line) texts low number h others = rise_some line.first line.text line.is_open texts low number h others

rising_lines : (texts : List (List ℕ)) (open_line : Option Logical) (low number : ℕ) → Begins low open_line number → LinesRise low (logical_lines texts open_line number)
rising_lines [] None low number h = tt
rising_lines [] (Some line) low number h = (h.0, tt)
rising_lines (text ∷ texts) open_line low number h =
    rise_with (with_line open_line number text) texts low (number + 1) (begins_with open_line low number text h) (λ line from g. rising_lines texts line from (number + 1) g)

number_by : (long is_open : Bool) (first : ℕ) (words : List (List ℕ)) →
    number_at (unless_fault (if long then Some (LineTooLong first) else (if is_open then Some (OpenContinuation first) else None)) (first, words)) ≡ first
number_by true is_open first words = refl
number_by false true first words = refl
number_by false false first words = refl

number_judged : (line : Logical) → number_at (line_or_fault line) ≡ line.first
number_judged line = number_by (nat_lt 8192 (length line.text)) line.is_open line.first (words_of line.text)

rise_judged : (low : ℕ) (lines : List Logical) → LinesRise low lines → RisesAbove low (map line_or_fault lines)
rise_judged low [] h = tt
rise_judged low (line ∷ others) h =
    let P : ℕ → Type 0 = λ number. (low < number) × RisesAbove number (map line_or_fault others) in
    subst P (sym (number_judged line)) (h.0, rise_judged line.first others h.1)

rise_lower : (low high : ℕ) (lines : List (Result Worded TextFault)) → low ≤ high → RisesAbove high lines → RisesAbove low lines
rise_lower low high [] e h = tt
rise_lower low high (line ∷ others) e h = (omega (arith, h.0), h.1)

rise_step : (p : Result Worded TextFault → Bool) (low : ℕ) (line : Result Worded TextFault) (others : List (Result Worded TextFault)) (b : Bool) → p line ≡ b → low < number_at line →
    RisesAbove (number_at line) (filter p others) → RisesAbove low (filter p (line ∷ others))
rise_step p low line others true e h all = rw e (h, all)
rise_step p low line others false e h all = rw e (rise_lower low (number_at line) (filter p others) (omega arith) all)

rise_filter : (p : Result Worded TextFault → Bool) (low : ℕ) (lines : List (Result Worded TextFault)) → RisesAbove low lines → RisesAbove low (filter p lines)
rise_filter p low [] h = tt
rise_filter p low (line ∷ others) h = rise_step p low line others (p line) refl h.0 (rise_filter p (number_at line) others h.1)

rise_up_to : (low : ℕ) (lines : List (Result Worded TextFault)) → RisesAbove low lines → RisesAbove low (up_to_fault lines)
rise_up_to low [] h = tt
rise_up_to low (Ok line ∷ others) h = (h.0, rise_up_to line.0 others h.1)
rise_up_to low (Err fault ∷ others) h = (h.0, tt)

-- the numbers of the lines of a file rise
pub numbers_rise : (file : List ℕ) → RisesAbove 0 (lines_of file)
unfolding lines_from
numbers_rise file =
    let lines = logical_lines (physical_lines file) None 1 in
    rise_up_to 0 (filter tells (map line_or_fault lines)) (rise_filter tells 0 (map line_or_fault lines) (rise_judged 0 lines (rising_lines (physical_lines file) None 0 1 (omega arith))))
