use Rattle.std.specs.Prelude.{ℕ, ◌+◌, ◌-◌, nat_le, if◌then◌else◌, List, [], ◌∷◌, ◌++◌, map, replicate}
use Rattle.lic_types.specs.declared.note.Note.{Note}
use Rattle.options_text.specs.Entries.{line_of}
use Rattle.options_text.specs.Options.{OptionsFile}
use Rattle.options_text.specs.Texts.{group_text, log_name, rule_text}
use Rattle.options_text.specs.declared.entry.Entry.{Entry}
use Rattle.options_text.specs.declared.entry.Entry.TheVariants.{Lists, Rules, Passes}
use Rattle.options_text.specs.declared.keyword.LogKeyword.{LogKeyword}

-- notes with their keywords
abbrev pub passes : List Note → List LogKeyword → List Entry
passes [] logs = []
passes (note ∷ notes) [] = []
passes (note ∷ notes) (log ∷ logs) = Passes note log ∷ passes notes logs

-- the entries of options: first the groups, then the rules, then the notes
abbrev pub entries_of : OptionsFile → List Entry
entries_of file = map Lists file.groups ++ (map Rules file.lines ++ passes file.notes file.logs)

-- an entry before the first one that isn't of an earlier line
abbrev pub insert_entry : Entry → List Entry → List Entry
insert_entry entry [] = entry ∷ []
insert_entry entry (x ∷ xs) = if nat_le (line_of entry) (line_of x) then entry ∷ x ∷ xs else x ∷ insert_entry entry xs

-- the entries in the order of their lines
abbrev pub in_line_order : List Entry → List Entry
in_line_order [] = []
in_line_order (entry ∷ entries) = insert_entry entry (in_line_order entries)

-- the text of an entry's line
abbrev pub entry_text : Entry → List ℕ
entry_text (Lists group) = group_text group
entry_text (Rules rule) = rule_text rule
entry_text (Passes note log) = log_name log

-- a line of this number with this text, where this is the number of the next line; the lines between are empty
abbrev pub line_text : ℕ → ℕ → List ℕ → List ℕ
line_text at line text = replicate (line - at) 10 ++ text ++ 10 ∷ []

-- the text of entries in line order, from the line of this number on
abbrev pub text_from : ℕ → List Entry → List ℕ
text_from at [] = []
text_from at (entry ∷ entries) = line_text at (line_of entry) (entry_text entry) ++ text_from (line_of entry + 1) entries

-- the canonical text of options: each of their lines at its own number
unfoldable pub canonical : OptionsFile → List ℕ
canonical file = text_from 1 (in_line_order (entries_of file))
