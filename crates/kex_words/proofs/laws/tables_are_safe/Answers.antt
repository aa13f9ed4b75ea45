use Rattle.kex_words.proofs.Rules.{is_safe, low_card, apart_cards}
use Rattle.kex_words.proofs.laws.tables_are_safe.Goals as goal

pub returns-clause-safe : goal.returns-clause-safe
returns-clause-safe c = is_safe

pub returns-clause-low : goal.returns-clause-low
returns-clause-low c = λ net s id v k r h. low_card net s r id v k h

pub returns-clause-apart : goal.returns-clause-apart
returns-clause-apart c = λ net s i j v w k r h g. apart_cards net s r i j v w k h g
