use Rattle.std.proofs.Common.{◌≡◌, ◌≢◌, ℕ, ◌+◌, ◌^◌, ◌<◌, ◌≤◌, nat_lt, ◌||◌, ◌&&◌, Bool, true, false, cond, ltb, eqb, List, [], ◌∷◌, ◌++◌, length, map, codes, Option, None, Some, Result, Ok, Err, refl, sym, ap, subst, ◌∙◌, arith}
use Rattle.std.proofs.lemmas.Bool.{or_cases}
use Rattle.std.proofs.lemmas.List.{length-map}
use Rattle.std.proofs.lemmas.Slice.Eq.{bytes_eq-Decides}
use Rattle.std.specs.Char.{to_ascii_lowercase}
use Rattle.std.specs.Option.{option_or}
use Rattle.std.specs.Str.{str_to_ascii_lowercase}
use Rattle.lic_text.specs.Physical.{is_comment, is_continued}
use Rattle.lic_types.specs.declared.client.WhoKind.{WhoKind}
use Rattle.lic_types.specs.declared.client.WhoKind.TheVariants.{User, Host, Display, Project, Group, HostGroup}
use Rattle.options_text.specs.Keywords.{keyword_of, kind_of, list_keyword, log_keyword, number_keyword, rule_keyword, spells}
use Rattle.options_text.specs.Texts.{kind_name}
use Rattle.options_text.specs.declared.keyword.Access.TheVariants.{Granted, Refused}
use Rattle.options_text.specs.declared.keyword.Keyword.{Keyword}
use Rattle.options_text.specs.declared.keyword.Keyword.TheVariants.{Lists, Admits, AdmitsAll, Shares, Times, TimesAll, Logs}
use Rattle.options_text.specs.declared.keyword.LogKeyword.TheVariants.{ReportLog, DebugLog, NoLog}
use Rattle.options_text.specs.declared.keyword.Share.TheVariants.{Kept, Most}
use Rattle.options_text.specs.declared.keyword.Span.TheVariants.{Lingers, Waits}
use Rattle.options_text.proofs.Tokens.{IsToken}

-- the text of a keyword
abbrev pub keyword_name : Keyword → List ℕ
keyword_name (Lists false) = codes "GROUP"
keyword_name (Lists true) = codes "HOST_GROUP"
keyword_name (Admits Granted) = codes "INCLUDE"
keyword_name (Admits Refused) = codes "EXCLUDE"
keyword_name (AdmitsAll Granted) = codes "INCLUDEALL"
keyword_name (AdmitsAll Refused) = codes "EXCLUDEALL"
keyword_name (Shares Kept) = codes "RESERVE"
keyword_name (Shares Most) = codes "MAX"
keyword_name (Times Lingers) = codes "LINGER"
keyword_name (Times Waits) = codes "TIMEOUT"
keyword_name TimesAll = codes "TIMEOUTALL"
keyword_name (Logs ReportLog) = codes "REPORTLOG"
keyword_name (Logs DebugLog) = codes "DEBUGLOG"
keyword_name (Logs NoLog) = codes "NOLOG"

-- a word in any case is as long as the keyword
spells_length : (word keyword : List ℕ) → spells word keyword ≡ true → length word ≡ length keyword
unfolding spells
spells_length word keyword h =
    let same : str_to_ascii_lowercase word ≡ str_to_ascii_lowercase keyword = (bytes_eq-Decides (str_to_ascii_lowercase word) (str_to_ascii_lowercase keyword)).0 h in
    sym (length-map word to_ascii_lowercase) ∙ (ap length same ∙ length-map keyword to_ascii_lowercase)

-- What holds of the one that is found, by the tests that found it.

found_if : {X : Type 0} (P : X → Type 0) (b : Bool) (x k : X) (others : Option X) → (b ≡ true → P x) → (others ≡ Some k → P k) → cond b (Some x) others ≡ Some k → P k
found_if P true x k others h g e = let same : x ≡ k = cc in subst P same (h refl)
found_if P false x k others h g e = g e

found_or : {X : Type 0} (P : X → Type 0) (a b : Option X) (k : X) → (a ≡ Some k → P k) → (b ≡ Some k → P k) → option_or a b ≡ Some k → P k
found_or P None b k h g e = g e
found_or P (Some x) b k h g e = h e

found_none : {X : Type 0} (P : X → Type 0) (k : X) → None ≡ Some k → P k
found_none P k e = absurd cc

abbrev IsAsLong : List ℕ → Keyword → Type 0
IsAsLong word k = length word ≡ length (keyword_name k)

list_length : (word : List ℕ) (k : Keyword) → list_keyword word ≡ Some k → IsAsLong word k
list_length word k e =
    let P : Keyword → Type 0 = IsAsLong word in
    found_if P (spells word (codes "GROUP")) (Lists false) k _ (spells_length word (codes "GROUP"))
    (found_if P (spells word (codes "HOST_GROUP")) (Lists true) k _ (spells_length word (codes "HOST_GROUP")) (found_none P k)) e

rule_length : (word : List ℕ) (k : Keyword) → rule_keyword word ≡ Some k → IsAsLong word k
rule_length word k e =
    let P : Keyword → Type 0 = IsAsLong word in
    found_if P (spells word (codes "INCLUDE")) (Admits Granted) k _ (spells_length word (codes "INCLUDE"))
    (found_if P (spells word (codes "EXCLUDE")) (Admits Refused) k _ (spells_length word (codes "EXCLUDE"))
    (found_if P (spells word (codes "INCLUDEALL")) (AdmitsAll Granted) k _ (spells_length word (codes "INCLUDEALL"))
    (found_if P (spells word (codes "EXCLUDEALL")) (AdmitsAll Refused) k _ (spells_length word (codes "EXCLUDEALL")) (found_none P k)))) e

number_length : (word : List ℕ) (k : Keyword) → number_keyword word ≡ Some k → IsAsLong word k
number_length word k e =
    let P : Keyword → Type 0 = IsAsLong word in
    found_if P (spells word (codes "RESERVE")) (Shares Kept) k _ (spells_length word (codes "RESERVE"))
    (found_if P (spells word (codes "MAX")) (Shares Most) k _ (spells_length word (codes "MAX"))
    (found_if P (spells word (codes "LINGER")) (Times Lingers) k _ (spells_length word (codes "LINGER"))
    (found_if P (spells word (codes "TIMEOUT")) (Times Waits) k _ (spells_length word (codes "TIMEOUT"))
    (found_if P (spells word (codes "TIMEOUTALL")) TimesAll k _ (spells_length word (codes "TIMEOUTALL")) (found_none P k))))) e

log_length : (word : List ℕ) (k : Keyword) → log_keyword word ≡ Some k → IsAsLong word k
log_length word k e =
    let P : Keyword → Type 0 = IsAsLong word in
    found_if P (spells word (codes "REPORTLOG")) (Logs ReportLog) k _ (spells_length word (codes "REPORTLOG"))
    (found_if P (spells word (codes "DEBUGLOG")) (Logs DebugLog) k _ (spells_length word (codes "DEBUGLOG"))
    (found_if P (spells word (codes "NOLOG")) (Logs NoLog) k _ (spells_length word (codes "NOLOG")) (found_none P k))) e

-- a keyword's text is as long as the word that was read
pub keyword_length : (word : List ℕ) (k : Keyword) → keyword_of word ≡ Some k → length word ≡ length (keyword_name k)
unfolding keyword_of
keyword_length word k e =
    let P : Keyword → Type 0 = IsAsLong word in
    found_or P (option_or (option_or (list_keyword word) (rule_keyword word)) (number_keyword word)) (log_keyword word) k
    (found_or P (option_or (list_keyword word) (rule_keyword word)) (number_keyword word) k
    (found_or P (list_keyword word) (rule_keyword word) k (list_length word k) (rule_length word k)) (number_length word k)) (log_length word k) e

-- a keyword's text is read as the keyword
pub keyword_back : (k : Keyword) → keyword_of (keyword_name k) ≡ Some k
unfolding keyword_of spells
keyword_back (Lists false) = refl
keyword_back (Lists true) = refl
keyword_back (Admits Granted) = refl
keyword_back (Admits Refused) = refl
keyword_back (AdmitsAll Granted) = refl
keyword_back (AdmitsAll Refused) = refl
keyword_back (Shares Kept) = refl
keyword_back (Shares Most) = refl
keyword_back (Times Lingers) = refl
keyword_back (Times Waits) = refl
keyword_back TimesAll = refl
keyword_back (Logs ReportLog) = refl
keyword_back (Logs DebugLog) = refl
keyword_back (Logs NoLog) = refl

-- what is known of a keyword's text as a word: it begins no comment, and ends in no backslash
pub record IsOpening (word : List ℕ) : Type 0 where
  pub token : IsToken word
  pub silent : (others : List ℕ) → is_comment (word ++ others) ≡ false
  pub ends : is_continued word ≡ false

pub keyword_opens : (k : Keyword) → IsOpening (keyword_name k)
keyword_opens (Lists false) = record { token = record { some = refl; each = refl }; silent = λ others. refl; ends = refl }
keyword_opens (Lists true) = record { token = record { some = refl; each = refl }; silent = λ others. refl; ends = refl }
keyword_opens (Admits Granted) = record { token = record { some = refl; each = refl }; silent = λ others. refl; ends = refl }
keyword_opens (Admits Refused) = record { token = record { some = refl; each = refl }; silent = λ others. refl; ends = refl }
keyword_opens (AdmitsAll Granted) = record { token = record { some = refl; each = refl }; silent = λ others. refl; ends = refl }
keyword_opens (AdmitsAll Refused) = record { token = record { some = refl; each = refl }; silent = λ others. refl; ends = refl }
keyword_opens (Shares Kept) = record { token = record { some = refl; each = refl }; silent = λ others. refl; ends = refl }
keyword_opens (Shares Most) = record { token = record { some = refl; each = refl }; silent = λ others. refl; ends = refl }
keyword_opens (Times Lingers) = record { token = record { some = refl; each = refl }; silent = λ others. refl; ends = refl }
keyword_opens (Times Waits) = record { token = record { some = refl; each = refl }; silent = λ others. refl; ends = refl }
keyword_opens TimesAll = record { token = record { some = refl; each = refl }; silent = λ others. refl; ends = refl }
keyword_opens (Logs ReportLog) = record { token = record { some = refl; each = refl }; silent = λ others. refl; ends = refl }
keyword_opens (Logs DebugLog) = record { token = record { some = refl; each = refl }; silent = λ others. refl; ends = refl }
keyword_opens (Logs NoLog) = record { token = record { some = refl; each = refl }; silent = λ others. refl; ends = refl }

-- The same of the types, which may be shorter than the word: USER_GROUP is written as GROUP.

abbrev IsNoLonger : List ℕ → WhoKind → Type 0
IsNoLonger word k = length (kind_name k) ≤ length word

as_long : (word keyword : List ℕ) → spells word keyword ≡ true → length keyword ≤ length word
as_long word keyword h = omega (arith, spells_length word keyword h)

group_long : (word : List ℕ) → (spells word (codes "GROUP") || spells word (codes "USER_GROUP")) ≡ true → length (codes "GROUP") ≤ length word
group_long word h =
    Rattle.std.proofs.Common.⊎_elim (as_long word (codes "GROUP")) (λ e. let long : 10 ≤ length word = as_long word (codes "USER_GROUP") e in omega arith) (or_cases _ _ h)

pub kind_length : (word : List ℕ) (k : WhoKind) → kind_of word ≡ Some k → length (kind_name k) ≤ length word
unfolding kind_of
kind_length word k e =
    let P : WhoKind → Type 0 = IsNoLonger word in
    found_if P (spells word (codes "USER")) User k _ (as_long word (codes "USER"))
    (found_if P (spells word (codes "HOST")) Host k _ (as_long word (codes "HOST"))
    (found_if P (spells word (codes "DISPLAY")) Display k _ (as_long word (codes "DISPLAY"))
    (found_if P (spells word (codes "PROJECT")) Project k _ (as_long word (codes "PROJECT"))
    (found_if P (spells word (codes "GROUP") || spells word (codes "USER_GROUP")) Group k _ (group_long word)
    (found_if P (spells word (codes "HOST_GROUP")) HostGroup k _ (as_long word (codes "HOST_GROUP")) (found_none P k)))))) e

pub kind_back : (k : WhoKind) → kind_of (kind_name k) ≡ Some k
unfolding kind_of spells
kind_back User = refl
kind_back Host = refl
kind_back Display = refl
kind_back Project = refl
kind_back Group = refl
kind_back HostGroup = refl

pub kind_token : (k : WhoKind) → IsToken (kind_name k)
kind_token User = record { some = refl; each = refl }
kind_token Host = record { some = refl; each = refl }
kind_token Display = record { some = refl; each = refl }
kind_token Project = record { some = refl; each = refl }
kind_token Group = record { some = refl; each = refl }
kind_token HostGroup = record { some = refl; each = refl }

pub kind_ends : (k : WhoKind) → is_continued (kind_name k) ≡ false
kind_ends User = refl
kind_ends Host = refl
kind_ends Display = refl
kind_ends Project = refl
kind_ends Group = refl
kind_ends HostGroup = refl
