use Rattle.std.specs.Prelude.{ℕ, ◌+◌, Bool, true, nat_le, nat_lt, if◌then◌else◌, List, [], ◌∷◌, ◌++◌, length, sum_by, Result, Ok, Err}
use Rattle.lic_text.specs.Lines.{Worded}
use Rattle.lic_text.specs.declared.fault.TextFault.{TextFault}
use Rattle.lic_types.specs.declared.client.Rule.{Rule}
use Rattle.lic_types.specs.declared.client.Rule.TheVariants.{Include, Exclude, Max, Reserve, Linger, Timeout}
use Rattle.lic_types.specs.declared.limits.TheConstants.{LICENCE_LIMIT, MOMENT_END}
use Rattle.options_text.specs.Answers.{◌>>=◌}
use Rattle.options_text.specs.Forms.{entry_of}
use Rattle.options_text.specs.declared.entry.Entry.{Entry}
use Rattle.options_text.specs.declared.entry.Entry.TheVariants.{Lists, Rules, Passes}
use Rattle.options_text.specs.declared.fault.OptionsFault.{OptionsFault}
use Rattle.options_text.specs.declared.fault.OptionsFault.TheVariants.{Line, TooMany}
use Rattle.options_text.specs.declared.reading.TheConstants.{LINE_LIMIT, MEMBER_LIMIT}

-- the line of an entry
abbrev pub line_of : Entry → ℕ
line_of (Lists group) = group.line
line_of (Rules rule) = rule.line
line_of (Passes note log) = note.line

-- how many members an entry lists
abbrev pub members_in : Entry → ℕ
members_in (Lists group) = length group.members
members_in (Rules rule) = 0
members_in (Passes note log) = 0

-- numbers up to 65,535, and seconds below 2^40
abbrev pub is_within_limits : Rule → Bool
is_within_limits Include = true
is_within_limits Exclude = true
is_within_limits (Max n) = nat_lt n (LICENCE_LIMIT + 1)
is_within_limits (Reserve n) = nat_lt n (LICENCE_LIMIT + 1)
is_within_limits (Linger seconds) = nat_lt seconds MOMENT_END
is_within_limits (Timeout seconds) = nat_lt seconds MOMENT_END

-- an entry whose rule, if it is one, is within its limits
abbrev pub is_fit : Entry → Bool
is_fit (Lists group) = true
is_fit (Rules rule) = is_within_limits rule.rule
is_fit (Passes note log) = true

-- the entry of a line that so many lines stand before, of which 4,096 may be
abbrev pub entry_behind : ℕ → Result Worded TextFault → Result Entry OptionsFault
entry_behind before (Err fault) = Err (Line fault)
entry_behind before (Ok line) = if nat_le LINE_LIMIT before then Err (TooMany line.0) else entry_of line.0 line.1

-- the entry, unless its members and so many before it are more than 65,536
abbrev pub unless_crowded : ℕ → Entry → Result Entry OptionsFault
unless_crowded before entry = if nat_lt MEMBER_LIMIT (before + members_in entry) then Err (TooMany (line_of entry)) else Ok entry

-- the entry of a line that so many lines, with so many members, stand before
abbrev pub entry_next : ℕ → ℕ → Result Worded TextFault → Result Entry OptionsFault
entry_next lines members line = entry_behind lines line >>= unless_crowded members

-- the entry of a line, behind the entries of the lines before it
abbrev pub entry_after : List Entry → Result Worded TextFault → Result Entry OptionsFault
entry_after before line = entry_next (length before) (sum_by members_in before) line

-- the entries of lines, behind the entries of the lines before them: each line is judged by itself and by those before it, and the first fault decides
abbrev pub entries_after : List Entry → List (Result Worded TextFault) → Result (List Entry) OptionsFault
entries_after before [] = Ok []
entries_after before (line ∷ others) = do
  entry ← entry_after before line
  further ← entries_after (before ++ entry ∷ []) others
  Ok (entry ∷ further)
