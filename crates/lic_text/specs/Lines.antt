use Rattle.std.specs.Prelude.{◌≡◌, ◌<◌, ◌==◌, ℕ, ◌+◌, Bool, true, false, ◌&&◌, not, nat_lt, if◌then◌else◌, List, [], ◌∷◌, ◌++◌, length, filter, map, Option, None, Some, is_none, unwrap_or, Result, Ok, Err}
use Rattle.std.specs.List.{slice_split, AllByRecursion}
use Rattle.std.specs.Option.{option_to_list}
use Rattle.lic_text.specs.Physical.{is_blank, is_empty, physical_lines, is_comment, is_continued, without_last}
use Rattle.lic_text.specs.declared.fault.TextFault.{TextFault}
use Rattle.lic_text.specs.declared.fault.TextFault.TheVariants.{LineTooLong, OpenContinuation}

-- a logical line: the number of its first physical line, its text, and whether it waits for a further physical line
pub record Logical : Type 0 where
  pub first : ℕ
  pub text : List ℕ
  pub is_open : Bool

-- a logical line before its first physical line
abbrev pub new_line : ℕ → Logical
new_line number = record { first = number; text = []; is_open = true }

-- a logical line with one physical line more: a space stands in the place of the backslash that continues it
abbrev pub with_text : Logical → List ℕ → Logical
with_text line text =
    if is_continued text
    then record { first = line.first; text = line.text ++ (without_last text ++ 32 ∷ []); is_open = true }
    else record { first = line.first; text = line.text ++ text; is_open = false }

-- the logical line to which a physical line belongs, as far as that; a comment belongs to none, and continues none
abbrev pub with_line : Option Logical → ℕ → List ℕ → Option Logical
with_line open_line number text =
    if is_none open_line && is_comment text then None else Some (with_text (unwrap_or open_line (new_line number)) text)

-- the logical line where it is at its end
abbrev pub ended_lines : Option Logical → List Logical
ended_lines None = []
ended_lines (Some line) = if line.is_open then [] else line ∷ []

-- the logical line where it waits for a further physical line
abbrev pub still_open : Option Logical → Option Logical
still_open None = None
still_open (Some line) = if line.is_open then Some line else None

-- the logical lines of physical lines that are numbered from this on, of which the first go on with an open line
abbrev pub logical_lines : List (List ℕ) → Option Logical → ℕ → List Logical
logical_lines [] open_line number = option_to_list open_line
logical_lines (text ∷ texts) open_line number =
    ended_lines (with_line open_line number text) ++ logical_lines texts (still_open (with_line open_line number text)) (number + 1)

-- the words of a text: its longest runs of bytes that aren't blank
abbrev pub words_of : List ℕ → List (List ℕ)
words_of text = filter (λ word. not (is_empty word)) (slice_split is_blank text)

-- a line with words: the number of its first physical line, and the words
abbrev pub Worded : Type 0
Worded = ℕ × List (List ℕ)

-- the fault of a logical line with this first number and length: more than 8,192 bytes, and else no end
abbrev pub fault_of : ℕ → ℕ → Bool → Option TextFault
fault_of first size is_open =
    if nat_lt 8192 size then Some (LineTooLong first) else (if is_open then Some (OpenContinuation first) else None)

-- the line, unless it has a fault
abbrev pub unless_fault : Option TextFault → Worded → Result Worded TextFault
unless_fault None line = Ok line
unless_fault (Some fault) line = Err fault

-- a logical line as its number and words, or its fault
abbrev pub line_or_fault : Logical → Result Worded TextFault
line_or_fault line = unless_fault (fault_of line.first (length line.text) line.is_open) (line.first, words_of line.text)

-- a fault, or a line with words
abbrev pub tells : Result Worded TextFault → Bool
tells (Ok line) = not (is_empty line.1)
tells (Err fault) = true

-- the lines up to the first fault
abbrev pub up_to_fault : List (Result Worded TextFault) → List (Result Worded TextFault)
up_to_fault [] = []
up_to_fault (Ok line ∷ others) = Ok line ∷ up_to_fault others
up_to_fault (Err fault ∷ others) = Err fault ∷ []

-- the lines with words, of physical lines that are numbered from this on, ended by the first fault
unfoldable pub lines_from : ℕ → List (List ℕ) → List (Result Worded TextFault)
lines_from number texts = up_to_fault (filter tells (map line_or_fault (logical_lines texts None number)))

-- the lines of a file
abbrev pub lines_of : List ℕ → List (Result Worded TextFault)
lines_of file = lines_from 1 (physical_lines file)

-- a byte of a word: no space, no tab, no LF
abbrev pub IsWordByte : ℕ → Type 0
IsWordByte b = (is_blank b ≡ false) × ((b == 10) ≡ false)

-- one byte or more, each of them a byte of a word
abbrev pub IsWord : List ℕ → Type 0
IsWord word = (is_empty word ≡ false) × AllByRecursion IsWordByte word

-- a line has one word or more, and its words are words
abbrev pub HasWords : Result Worded TextFault → Type 0
HasWords (Ok line) = (is_empty line.1 ≡ false) × AllByRecursion IsWord line.1
HasWords (Err fault) = Unit {0}

-- each line of a file has words, none of them with a blank or an LF
abbrev pub WordsAreWords : Type 0
WordsAreWords = (file : List ℕ) → AllByRecursion HasWords (lines_of file)

-- the number of a line, or of a fault
abbrev pub number_at : Result Worded TextFault → ℕ
number_at (Ok line) = line.0
number_at (Err (LineTooLong first)) = first
number_at (Err (OpenContinuation first)) = first

-- each number is above the one before, and the first above this one
abbrev pub RisesAbove : ℕ → List (Result Worded TextFault) → Type 0
RisesAbove number [] = Unit {0}
RisesAbove number (line ∷ others) = (number < number_at line) × RisesAbove (number_at line) others

-- the numbers of the lines of a file rise from 1
abbrev pub NumbersRise : Type 0
NumbersRise = (file : List ℕ) → RisesAbove 0 (lines_of file)
