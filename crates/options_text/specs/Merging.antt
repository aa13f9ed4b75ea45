use Rattle.std.specs.Prelude.{◌≡◌, ℕ, ◌+◌, ◌<◌, Bool, true, false, ◌&&◌, nat_le, if◌then◌else◌, List, [], ◌∷◌, ◌++◌, length, map, Option, None, Some, is_some}
use Rattle.lic_types.specs.Groups.{GroupLine}
use Rattle.lic_types.specs.declared.client.RuleLine.{RuleLine}
use Rattle.lic_types.specs.declared.note.Note.{Note}
use Rattle.options_text.specs.Canonical.{entries_of, in_line_order, text_from}
use Rattle.options_text.specs.Options.{OptionsFile}
use Rattle.options_text.specs.Rises.{AreRising}
use Rattle.options_text.specs.declared.entry.Entry.{Entry}
use Rattle.options_text.specs.declared.writing.Left.{Left}
use Rattle.options_text.specs.declared.writing.Next.{Next}
use Rattle.options_text.specs.declared.writing.Next.TheVariants.{OfGroup, OfRule, OfNote, OfNone}

-- the number of the first line, if there is one
abbrev pub first_line : {X : Type 0} → (X → ℕ) → List X → Option ℕ
first_line key [] = None
first_line key (x ∷ xs) = Some (key x)

-- there is a line, and no earlier one there
abbrev pub comes_before : Option ℕ → Option ℕ → Bool
comes_before None other = false
comes_before (Some line) None = true
comes_before (Some line) (Some other) = nat_le line other

-- which of the first lines of groups, rules and notes is the next
abbrev pub next_of : Option ℕ → Option ℕ → Option ℕ → Next
next_of group rule note =
    if comes_before group rule && comes_before group note then OfGroup
    else (if comes_before rule note then OfRule else (if is_some note then OfNote else OfNone))

-- what is left
abbrev pub file_left : Left → OptionsFile
file_left left = record { groups = left.groups.now; lines = left.lines.now; notes = left.notes.now; logs = left.logs.now }

abbrev pub next_in : OptionsFile → Next
next_in file = next_of (first_line (λ (g : GroupLine). g.line) file.groups) (first_line (λ (l : RuleLine). l.line) file.lines) (first_line (λ (n : Note). n.line) file.notes)

-- groups, rules and notes each in the order of their lines, and each note with its keyword
pub record IsRising (file : OptionsFile) : Type 0 where
  pub groups : AreRising (map (λ (g : GroupLine). g.line) file.groups)
  pub lines : AreRising (map (λ (l : RuleLine). l.line) file.lines)
  pub notes : AreRising (map (λ (n : Note). n.line) file.notes)
  pub paired : length file.logs ≡ length file.notes

abbrev pub entries_in_order : OptionsFile → List Entry
entries_in_order file = in_line_order (entries_of file)

-- how many entries options have
abbrev pub count : OptionsFile → ℕ
count file = length file.groups + (length file.lines + length file.notes)

-- one entry was written: the texts so far and what is left to write are the same together, and less is left
pub record Writes (text_old text_new : List ℕ) (at_old at_new : ℕ) (old new : OptionsFile) : Type 0 where
  pub whole : text_new ++ text_from at_new (entries_in_order new) ≡ text_old ++ text_from at_old (entries_in_order old)
  pub rising : IsRising new
  pub fewer : count new < count old
