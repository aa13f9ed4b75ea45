use Rattle.options_text.proofs.NameSets.{has_more}
use Rattle.options_text.proofs.names.add_name.Goals as goal

pub returns : goal.returns
returns c = has_more c.args.names.now.keys c.insert.new.self.keys c.args.name c.in_ok-insert.ensures.keys
