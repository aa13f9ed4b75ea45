use Rattle.options_text.proofs.ReadsBack.{stays}
use Rattle.options_text.proofs.laws.canonical_text_stays.Goals as goal

pub returns : goal.returns
returns c = stays
