use Rattle.std.specs.Prelude.{◌≡◌, ℕ, List, [], ◌∷◌, ◌++◌, codes, decimal}
use Rattle.std.specs.List.{flat_map}
use Rattle.options_machine.specs.Rules.{Rules}
use Rattle.options_machine.specs.declared.reply.Reply.{Reply}
use Rattle.reply_words.specs.Words.{reply_text}
use Rattle.log_audit.specs.Audit.{IsFirstBad, IsRunLog}
use Rattle.log_audit.specs.Summed.{Summed, SumsUp}
use Rattle.log_audit.specs.declared.log.Numbered.{Numbered}
use Rattle.log_audit.specs.declared.users.UserSum.{UserSum}

-- how often a user was granted a seat
abbrev pub user_line : UserSum → List ℕ
user_line u = codes "USER " ++ u.user ++ codes " GRANTS " ++ decimal u.grants ++ 10 ∷ []

-- what is written of a log that is a run: how many entries it has, and its users
abbrev pub yes_text : Summed → List ℕ
yes_text sums = codes "YES ENTRIES " ++ decimal sums.entries ++ (10 ∷ flat_map user_line sums.users)

-- what is written of a log that is no run: the first line that shows it, and the place, the moment and the reply that hold there
abbrev pub no_text : ℕ → ℕ → ℕ → Reply → List ℕ
no_text line place moment said =
    codes "NO LINE " ++ decimal line ++ codes " EXPECTED #" ++ decimal place ++ codes " " ++ decimal moment ++ codes " " ++ reply_text said ++ 10 ∷ []

-- the log is a run of the pools with these rule sets, and this text tells its sums
pub record IsYes (pools : List (List Rules)) (log : List Numbered) (text : List ℕ) : Type 0 where
  pub sums : Summed
  pub run : IsRunLog pools log
  pub sums_up : SumsUp pools log sums
  pub is : text ≡ yes_text sums

-- the log is no run, this line is the first that shows it, and this text tells so
pub record IsNo (pools : List (List Rules)) (log : List Numbered) (line : ℕ) (text : List ℕ) : Type 0 where
  pub place : ℕ
  pub moment : ℕ
  pub said : Reply
  pub first : IsFirstBad pools log line place moment said
  pub is : text ≡ no_text line place moment said
