-- The output lines of a script, by what its lines are answered.
use Rattle.std.specs.Prelude.{ℕ, List, [], ◌∷◌, ◌++◌, codes, decimal}
use Rattle.lic_types.specs.Days.{day_text}
use Rattle.options_machine.specs.declared.reply.Reply.{Reply}
use Rattle.reply_words.specs.Words.{reply_text}
use Rattle.scripts.specs.declared.answers.Answer.{Answer}
use Rattle.scripts.specs.declared.answers.Answer.TheVariants.{Entry, Unknown, Expired, Reread, NoRules}

-- the output line of a reply: its words, and the place of its entry
abbrev pub reply_line : Reply → ℕ → List ℕ
reply_line reply place = reply_text reply ++ codes " #" ++ decimal place ++ 10 ∷ []

-- the output line of an answer
abbrev pub answer_text : Answer → List ℕ
answer_text (Entry reply place) = reply_line reply place
answer_text Unknown = codes "UNKNOWN\n"
answer_text (Expired day) = codes "EXPIRED " ++ day_text day ++ 10 ∷ []
answer_text (Reread n) = codes "REREAD " ++ decimal n ++ 10 ∷ []
answer_text (NoRules n) = codes "NORULES " ++ decimal n ++ 10 ∷ []
