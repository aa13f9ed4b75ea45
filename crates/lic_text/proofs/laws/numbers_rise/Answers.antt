use Rattle.lic_text.proofs.Rising.{numbers_rise}
use Rattle.lic_text.proofs.laws.numbers_rise.Goals as goal

pub returns : goal.returns
returns c = numbers_rise
