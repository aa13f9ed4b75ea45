use Rattle.client_talk.specs.Requests.{line_judged}
use Rattle.client_talk.specs.Talks.{reread_line}
use Rattle.client_talk.specs.declared.want.Want.TheVariants.{Answer, Reread}
use Rattle.client_talk.proofs.Judgings.{alone}
use Rattle.client_talk.proofs.judging.judge_lines.Goals as goal

pub returns-in-Ask : goal.returns-in-Ask
returns-in-Ask c = rw c.in-Ask.is (alone (line_judged c.in-Ask.words.now) _ (c.judge_made.ensures c.in-Ask.words.now Answer c.make.ensures))

pub returns-in-Reread : goal.returns-in-Reread
returns-in-Reread c = rw c.in-Reread.is (alone (line_judged (reread_line c.in-Reread.number.now)) _ (c.judge_made-in-Reread.ensures (reread_line c.in-Reread.number.now) Reread c.reread.ensures))
