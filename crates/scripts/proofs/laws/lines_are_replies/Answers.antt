use Rattle.scripts.specs.Ledgers.{new_ledgers}
use Rattle.scripts.proofs.Replied.{all_answered}
use Rattle.scripts.proofs.laws.lines_are_replies.Goals as goal

pub returns : goal.returns
returns c = λ pools files lines. all_answered files (new_ledgers pools files) lines
