use Rattle.options_text.specs.Options.{OptionsFile}
use Rattle.options_text.specs.declared.parts.Parts.{Parts}

-- what the parts say
abbrev pub file_of : Parts → OptionsFile
file_of p = record { groups = p.groups.items; lines = p.lines.items; notes = p.notes.items; logs = p.logs.items }
