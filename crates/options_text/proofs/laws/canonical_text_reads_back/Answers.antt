use Rattle.options_text.proofs.ReadsBack.{reads_back}
use Rattle.options_text.proofs.laws.canonical_text_reads_back.Goals as goal

pub returns : goal.returns
returns c = reads_back
