-- What is printed of advice.
use Rattle.std.specs.Prelude.{ℕ, Bool, if◌then◌else◌, List, [], ◌∷◌, ◌++◌, codes, decimal}
use Rattle.std.specs.List.{flat_map}
use Rattle.lic_types.specs.Days.{day_text}
use Rattle.lint_advice.specs.declared.advice.Advice.{Advice}
use Rattle.lint_advice.specs.declared.advice.Advice.TheVariants.{NoRule, NoPool, Cut, IdleMax, ShutOut, NeverRead, ShortTimeout, Expires}

-- the file of whose line the advice is
abbrev pub file_of : Advice → List ℕ
file_of (NoRule line of_hosts name) = codes "options"
file_of (NoPool line feature) = codes "options"
file_of (Cut line pool to) = codes "options"
file_of (IdleMax line number) = codes "options"
file_of (ShutOut line by) = codes "options"
file_of (NeverRead line first) = codes "options"
file_of (ShortTimeout line seconds) = codes "options"
file_of (Expires line name day) = codes "licence"

-- the line of which the advice is
abbrev pub line_of : Advice → ℕ
line_of (NoRule line of_hosts name) = line
line_of (NoPool line feature) = line
line_of (Cut line pool to) = line
line_of (IdleMax line number) = line
line_of (ShutOut line by) = line
line_of (NeverRead line first) = line
line_of (ShortTimeout line seconds) = line
line_of (Expires line name day) = line

abbrev pub group_said : Bool → List ℕ → List ℕ
group_said of_hosts name = if of_hosts then codes "no rule names the host group " ++ name else codes "no rule names the group " ++ name

abbrev pub cut_said : ℕ → ℕ → List ℕ
cut_said to pool = codes "RESERVE is cut to " ++ decimal to ++ codes " at pool " ++ decimal pool

-- what is said of the line
abbrev pub said : Advice → List ℕ
said (NoRule line of_hosts name) = group_said of_hosts name
said (NoPool line feature) = codes "no pool has the feature " ++ feature
said (Cut line pool to) = cut_said to pool
said (IdleMax line number) = codes "MAX " ++ decimal number ++ codes " limits nobody"
said (ShutOut line by) = codes "EXCLUDEALL at line " ++ decimal by ++ codes " shuts them out already"
said (NeverRead line first) = codes "never read: line " ++ decimal first ++ codes " holds"
said (ShortTimeout line seconds) = codes "a timeout of " ++ decimal seconds ++ codes " counts as 900"
said (Expires line name day) = name ++ codes " is good to " ++ day_text day

-- the line of a piece of advice
abbrev pub advice_line : Advice → List ℕ
advice_line advice = file_of advice ++ codes ": line " ++ decimal (line_of advice) ++ codes ": " ++ said advice ++ 10 ∷ []

-- the text of advice
abbrev pub text_of : List Advice → List ℕ
text_of advice = flat_map advice_line advice
