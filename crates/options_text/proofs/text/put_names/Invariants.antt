use Rattle.std.proofs.Common.{◌≡◌, ◌++◌, take}
use Rattle.options_text.specs.Texts.{further}
use Rattle.options_text.proofs.text.put_names.Given as goal

-- the names so far are written
abbrev pub invariant-loop-name : goal.invariant-loop-name
invariant-loop-name l = l.text.items ≡ l.fn.text.items ++ further (take l.name-index l.names)
