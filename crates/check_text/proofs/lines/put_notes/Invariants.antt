use Rattle.std.proofs.Common.{◌≡◌, ◌++◌, take}
use Rattle.std.specs.List.{flat_map}
use Rattle.check_text.specs.Check.{note_line}
use Rattle.check_text.proofs.lines.put_notes.Given as goal

-- the notes so far are written
abbrev pub invariant-loop-note : goal.invariant-loop-note
invariant-loop-note l = l.text.items ≡ l.fn.text.items ++ flat_map (note_line l.of_file) (take l.note-index l.notes)
