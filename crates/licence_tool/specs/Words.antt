use Rattle.std.specs.Prelude.{◌≡◌, ℕ, List, Option, None, drop, map, string_bytes, String}
use Rattle.std.specs.declared.alloc.Global.{Global}
use Rattle.licence_tool.specs.Command.{CommandOf, command_of}
use Rattle.licence_tool.specs.declared.words.Words.{Words}
use Rattle.licence_tool.specs.declared.words.Words.TheVariants.{Text, NotText, NoMemory}

-- what comes of a command line of these words: the words behind the first one, unless memory was wanted
abbrev pub IsRead : List (String Global) → Words → Type 0
IsRead args (Text words) = words.items ≡ drop 1 args
IsRead args NotText = ⊥
IsRead args NoMemory = Unit {0}

-- the command that the words are, if they are one
abbrev pub command_in : Words → Option (CommandOf (List ℕ))
command_in (Text words) = command_of (map string_bytes words.items)
command_in NotText = None
command_in NoMemory = None

-- the words are no command: they aren't in the command set, or one is no UTF-8
abbrev pub IsNoCommand : Words → Type 0
IsNoCommand (Text words) = command_of (map string_bytes words.items) ≡ None
IsNoCommand NotText = Unit {0}
IsNoCommand NoMemory = ⊥
