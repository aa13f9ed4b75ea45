use Rattle.std.proofs.Common.{◌≡◌, length, arith}
use Rattle.lic_text.proofs.Cuts.{next_word, no_words}
use Rattle.lic_text.proofs.words.Words.next_here.Goals as goal

pub returns-then-is_empty-clause-word : goal.returns-then-is_empty-clause-word
returns-then-is_empty-clause-word c =
    let none : length c.after_blanks-text.result.now ≡ 0 = grind arith in
    no_words c.args.self.now.text.now c.after_blanks-text.result.now c.after_blanks-text.ensures none

pub returns-clause-word : goal.returns-clause-word
returns-clause-word c = rw (c.split_at.ensures.front, c.split_at.ensures.back, c.word_end.ensures.place) (next_word c.args.self.now.text.now c.after_blanks-text.result.now c.after_blanks-text.ensures (grind arith))
