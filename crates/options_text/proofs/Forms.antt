use Rattle.std.proofs.Common.{◌≡◌, ℕ, ◌^◌, ◌≤◌, Bool, true, false, List, [], ◌∷◌, ◌++◌, length, decimal, Option, None, Some, Ok, refl, sym, ap, subst, ◌∙◌, arith}
use Rattle.std.specs.List.{AllByRecursion}
use Rattle.lic_text.specs.Physical.{is_continued}
use Rattle.lic_types.specs.Groups.{GroupLine}
use Rattle.lic_types.specs.declared.client.RuleLine.{RuleLine}
use Rattle.lic_types.specs.declared.client.Who.{Who}
use Rattle.lic_types.specs.declared.note.NoteKind.TheVariants.{NotActed}
use Rattle.options_text.specs.Answers.{◌>>=◌}
use Rattle.options_text.specs.Canonical.{entry_text}
use Rattle.options_text.specs.Forms.{access_rule, admits_all_of, admits_of, entry_of, feature_of, form_of, group_of, name_at, names_of, number_below, share_rule, shares_of, span_rule, times_all_of, times_of, unless_none, who_of}
use Rattle.options_text.specs.Keywords.{keyword_of}
use Rattle.options_text.specs.Texts.{all_name, closed_text, group_text, kind_name, list_name, log_name, rule_name, rule_text, rule_words, spaced_text}
use Rattle.options_text.specs.declared.entry.Entry.{Entry}
use Rattle.options_text.specs.declared.entry.Entry.TheVariants.{Lists as a_list, Rules, Passes}
use Rattle.options_text.specs.declared.fault.OptionsFault.TheVariants.{UnknownKeyword}
use Rattle.options_text.specs.declared.keyword.Access.{Access}
use Rattle.options_text.specs.declared.keyword.Access.TheVariants.{Granted, Refused}
use Rattle.options_text.specs.declared.keyword.Keyword.{Keyword}
use Rattle.options_text.specs.declared.keyword.Keyword.TheVariants.{Lists, Admits, AdmitsAll, Shares, Times, TimesAll, Logs}
use Rattle.options_text.specs.declared.keyword.LogKeyword.{LogKeyword}
use Rattle.options_text.specs.declared.keyword.LogKeyword.TheVariants.{ReportLog, DebugLog, NoLog}
use Rattle.options_text.specs.declared.keyword.Share.{Share}
use Rattle.options_text.specs.declared.keyword.Share.TheVariants.{Kept, Most}
use Rattle.options_text.specs.declared.keyword.Span.{Span}
use Rattle.options_text.specs.declared.keyword.Span.TheVariants.{Lingers, Waits}
use Rattle.options_text.proofs.Closings.{more_if}
use Rattle.options_text.proofs.Spellings.{IsOpening, keyword_back, keyword_length, keyword_name, keyword_opens, kind_ends, kind_token}
use Rattle.options_text.proofs.Tokens.{IsToken}
use Rattle.options_text.proofs.Widths.{IsWithin}
use Rattle.options_text.proofs.Words.{AreNamed, IsNamed, IsNumbered, IsSpokenOf, all_right, bind_ok, feature_ok, name_at_ok, names_ok, number_ok, some_ok, who_ok}

-- the keyword of an entry's line
abbrev pub name_in : Entry → List ℕ
name_in (a_list group) = list_name group.of_hosts
name_in (Rules rule) = rule_name rule.rule ++ all_name rule.feature
name_in (Passes note log) = log_name log

-- the words behind it
abbrev pub words_in : Entry → List (List ℕ)
words_in (a_list group) = group.name ∷ group.members
words_in (Rules rule) = rule_words rule
words_in (Passes note log) = []

-- the text of an entry's line is of these words
pub text_is : (entry : Entry) → entry_text entry ≡ closed_text (spaced_text (name_in entry) (words_in entry))
unfolding group_text rule_text
text_is (a_list group) = refl
text_is (Rules rule) = refl
text_is (Passes note ReportLog) = refl
text_is (Passes note DebugLog) = refl
text_is (Passes note NoLog) = refl

-- what words say behind a keyword is said by the words that are written of it
pub record ReadsBack (line : ℕ) (keyword : Keyword) (words : List (List ℕ)) (entry : Entry) : Type 0 where
  pub name : name_in entry ≡ keyword_name keyword
  pub back : form_of line keyword (words_in entry) ≡ Ok entry
  pub within : IsWithin (words_in entry) words
  pub tokens : AllByRecursion IsToken (words_in entry)

-- a word written as it was read, or shorter
within_same : (word w : List ℕ) (words ws : List (List ℕ)) → word ≡ w → IsWithin words ws → IsWithin (word ∷ words) (w ∷ ws)
within_same word w words ws same h =
    let long : length word ≡ length w = ap length same in
    let ends : more_if (is_continued word) ≡ more_if (is_continued w) = ap (λ (text : List ℕ). more_if (is_continued text)) same in
    (omega (arith, long), (omega (arith, ends), h))

within_short : (word w : List ℕ) (words ws : List (List ℕ)) → length word ≤ length w → is_continued word ≡ false → IsWithin words ws → IsWithin (word ∷ words) (w ∷ ws)
within_short word w words ws short ends h = (short, (omega (arith, ap more_if ends), h))

within_all : (words : List (List ℕ)) → IsWithin words words
within_all [] = tt
within_all (word ∷ words) = within_same word word words words refl (within_all words)

-- GROUP and HOST_GROUP.

list_named : (of_hosts : Bool) → list_name of_hosts ≡ keyword_name (Lists of_hosts)
list_named false = refl
list_named true = refl

group_is : (line : ℕ) (of_hosts : Bool) (name : List ℕ) (words : List (List ℕ)) (n : List ℕ) (ms : List (List ℕ)) (group : GroupLine) → group_of line of_hosts (name ∷ words) ≡ Ok group
    → IsNamed name n → AreNamed words ms → all_right (record { line = line; of_hosts = of_hosts; name = n; members = ms }) ≡ Ok group → ReadsBack line (Lists of_hosts) (name ∷ words) (a_list group)
group_is line of_hosts name words n ms group h first others is =
    let the : GroupLine = record { line = line; of_hosts = of_hosts; name = n; members = ms } in
    let whole : the ≡ group = cc in
    let same : (n ∷ ms) ≡ (name ∷ words) = ap (λ (w : List ℕ). w ∷ ms) first.same ∙ ap (λ (ws : List (List ℕ)). name ∷ ws) others.same in
    let P : GroupLine → Type 0 = λ g. group_of line of_hosts (name ∷ words) ≡ Ok g → ReadsBack line (Lists of_hosts) (name ∷ words) (a_list g) in
    let Q : List (List ℕ) → Type 0 = λ ws. IsWithin ws (name ∷ words) in
    subst P whole (λ e. record {
      name = list_named of_hosts;
      back = ap (λ r. r >>= λ g. Ok (a_list g)) (ap (group_of line of_hosts) same ∙ e);
      within = subst Q (sym same) (within_all (name ∷ words));
      tokens = (first.token, others.tokens);
    }) h

group_back : (line : ℕ) (of_hosts : Bool) (words : List (List ℕ)) (group : GroupLine) → group_of line of_hosts words ≡ Ok group → ReadsBack line (Lists of_hosts) words (a_list group)
unfolding group_of
group_back line of_hosts [] group h = absurd cc
group_back line of_hosts (name ∷ []) group h = absurd cc
group_back line of_hosts (name ∷ member ∷ members) group h =
    bind_ok (name_at line name) _ group h (λ n first rest.
    bind_ok (names_of line (member ∷ members)) _ group rest (λ ms second whole.
    group_is line of_hosts name (member ∷ members) n ms group h (name_at_ok line name n first) (names_ok line (member ∷ members) ms second) whole))

-- Rules.

again : (line : ℕ) (word name : List ℕ) → IsNamed word name → feature_of line word ≡ Ok name → feature_of line name ≡ Ok name
again line word name named h = ap (feature_of line) named.same ∙ h

who_within : (line : ℕ) (kind name : List ℕ) (who : Who) (others : List (List ℕ)) → IsSpokenOf line kind name who → IsWithin (kind_name who.kind ∷ who.name ∷ []) (kind ∷ name ∷ others)
who_within line kind name who others w =
    within_short (kind_name who.kind) kind (who.name ∷ []) (name ∷ others) w.shorter (kind_ends who.kind) (within_same who.name name [] others w.named.same tt)

who_tokens : (line : ℕ) (kind name : List ℕ) (who : Who) → IsSpokenOf line kind name who → AllByRecursion IsToken (kind_name who.kind ∷ who.name ∷ [])
who_tokens line kind name who w = (kind_token who.kind, (w.named.token, tt))

-- INCLUDE and EXCLUDE.

abbrev admits : ℕ → Access → List ℕ → Who → RuleLine
admits line access f who = record { line = line; feature = Some f; rule = access_rule access; who = Some who }

admits_again : (line : ℕ) (access : Access) (f : List ℕ) (who : Who) → feature_of line f ≡ Ok f → who_of line (kind_name who.kind) who.name ≡ Ok who
    → admits_of line access (f ∷ kind_name who.kind ∷ who.name ∷ []) ≡ Ok (admits line access f who)
unfolding admits_of
admits_again line access f who fe we = rw (fe, we) refl

admits_is : (line : ℕ) (access : Access) (feature kind name : List ℕ) (others : List (List ℕ)) (f : List ℕ) (who : Who) → feature_of line feature ≡ Ok f → IsSpokenOf line kind name who
    → ReadsBack line (Admits access) (feature ∷ kind ∷ name ∷ others) (Rules (admits line access f who))
admits_is line Granted feature kind name others f who fe w =
    let named : IsNamed feature f = feature_ok line feature f fe in
    record {
      name = refl;
      back = ap (λ r. r >>= λ rule. Ok (Rules rule)) (admits_again line Granted f who (again line feature f named fe) w.back);
      within = within_same f feature (kind_name who.kind ∷ who.name ∷ []) (kind ∷ name ∷ others) named.same (who_within line kind name who others w);
      tokens = (named.token, who_tokens line kind name who w);
    }
admits_is line Refused feature kind name others f who fe w =
    let named : IsNamed feature f = feature_ok line feature f fe in
    record {
      name = refl;
      back = ap (λ r. r >>= λ rule. Ok (Rules rule)) (admits_again line Refused f who (again line feature f named fe) w.back);
      within = within_same f feature (kind_name who.kind ∷ who.name ∷ []) (kind ∷ name ∷ others) named.same (who_within line kind name who others w);
      tokens = (named.token, who_tokens line kind name who w);
    }

-- what holds of the one that is Ok holds of the other
to_rule : (P : RuleLine → Type 0) (a b : RuleLine) → all_right a ≡ Ok b → P a → P b
to_rule P a b h p = let same : a ≡ b = cc in subst P same p

admits_back : (line : ℕ) (access : Access) (words : List (List ℕ)) (rule : RuleLine) → admits_of line access words ≡ Ok rule → ReadsBack line (Admits access) words (Rules rule)
unfolding admits_of
admits_back line access [] rule h = absurd cc
admits_back line access (feature ∷ []) rule h = absurd cc
admits_back line access (feature ∷ kind ∷ []) rule h = absurd cc
admits_back line access (feature ∷ kind ∷ name ∷ others) rule h =
    bind_ok (feature_of line feature) _ rule h (λ f first rest.
    bind_ok (who_of line kind name) _ rule rest (λ who second whole.
    to_rule (λ r. ReadsBack line (Admits access) (feature ∷ kind ∷ name ∷ others) (Rules r)) (admits line access f who) rule whole
    (admits_is line access feature kind name others f who first (who_ok line kind name who second))))

-- INCLUDEALL and EXCLUDEALL.

abbrev admits_all : ℕ → Access → Who → RuleLine
admits_all line access who = record { line = line; feature = None; rule = access_rule access; who = Some who }

admits_all_again : (line : ℕ) (access : Access) (who : Who) → who_of line (kind_name who.kind) who.name ≡ Ok who
    → admits_all_of line access (kind_name who.kind ∷ who.name ∷ []) ≡ Ok (admits_all line access who)
unfolding admits_all_of
admits_all_again line access who we = rw we refl

admits_all_is : (line : ℕ) (access : Access) (kind name : List ℕ) (others : List (List ℕ)) (who : Who) → IsSpokenOf line kind name who
    → ReadsBack line (AdmitsAll access) (kind ∷ name ∷ others) (Rules (admits_all line access who))
admits_all_is line Granted kind name others who w = record {
  name = refl;
  back = ap (λ r. r >>= λ rule. Ok (Rules rule)) (admits_all_again line Granted who w.back);
  within = who_within line kind name who others w;
  tokens = who_tokens line kind name who w;
}
admits_all_is line Refused kind name others who w = record {
  name = refl;
  back = ap (λ r. r >>= λ rule. Ok (Rules rule)) (admits_all_again line Refused who w.back);
  within = who_within line kind name who others w;
  tokens = who_tokens line kind name who w;
}

admits_all_back : (line : ℕ) (access : Access) (words : List (List ℕ)) (rule : RuleLine) → admits_all_of line access words ≡ Ok rule → ReadsBack line (AdmitsAll access) words (Rules rule)
unfolding admits_all_of
admits_all_back line access [] rule h = absurd cc
admits_all_back line access (kind ∷ []) rule h = absurd cc
admits_all_back line access (kind ∷ name ∷ others) rule h =
    bind_ok (who_of line kind name) _ rule h (λ who first whole.
    to_rule (λ r. ReadsBack line (AdmitsAll access) (kind ∷ name ∷ others) (Rules r)) (admits_all line access who) rule whole
    (admits_all_is line access kind name others who (who_ok line kind name who first)))

-- RESERVE and MAX.

abbrev shares : ℕ → Share → ℕ → List ℕ → Who → RuleLine
shares line share n f who = record { line = line; feature = Some f; rule = share_rule share n; who = Some who }

shares_again : (line : ℕ) (share : Share) (n : ℕ) (f : List ℕ) (who : Who) → number_below line (2 ^ 16) (decimal n) ≡ Ok n → feature_of line f ≡ Ok f → who_of line (kind_name who.kind) who.name ≡ Ok who
    → shares_of line share (decimal n ∷ f ∷ kind_name who.kind ∷ who.name ∷ []) ≡ Ok (shares line share n f who)
unfolding shares_of
shares_again line share n f who ne fe we = rw (ne, fe, we) refl

shares_is : (line : ℕ) (share : Share) (number feature kind name : List ℕ) (others : List (List ℕ)) (n : ℕ) (f : List ℕ) (who : Who) → IsNumbered line (2 ^ 16) number n → feature_of line feature ≡ Ok f → IsSpokenOf line kind name who
    → ReadsBack line (Shares share) (number ∷ feature ∷ kind ∷ name ∷ others) (Rules (shares line share n f who))
shares_is line Kept number feature kind name others n f who x fe w =
    let named : IsNamed feature f = feature_ok line feature f fe in
    record {
      name = refl;
      back = ap (λ r. r >>= λ rule. Ok (Rules rule)) (shares_again line Kept n f who x.back (again line feature f named fe) w.back);
      within =
          within_short (decimal n) number (f ∷ kind_name who.kind ∷ who.name ∷ []) (feature ∷ kind ∷ name ∷ others) x.shorter x.ends
          (within_same f feature (kind_name who.kind ∷ who.name ∷ []) (kind ∷ name ∷ others) named.same (who_within line kind name who others w));
      tokens = (x.token, (named.token, who_tokens line kind name who w));
    }
shares_is line Most number feature kind name others n f who x fe w =
    let named : IsNamed feature f = feature_ok line feature f fe in
    record {
      name = refl;
      back = ap (λ r. r >>= λ rule. Ok (Rules rule)) (shares_again line Most n f who x.back (again line feature f named fe) w.back);
      within =
          within_short (decimal n) number (f ∷ kind_name who.kind ∷ who.name ∷ []) (feature ∷ kind ∷ name ∷ others) x.shorter x.ends
          (within_same f feature (kind_name who.kind ∷ who.name ∷ []) (kind ∷ name ∷ others) named.same (who_within line kind name who others w));
      tokens = (x.token, (named.token, who_tokens line kind name who w));
    }

shares_back : (line : ℕ) (share : Share) (words : List (List ℕ)) (rule : RuleLine) → shares_of line share words ≡ Ok rule → ReadsBack line (Shares share) words (Rules rule)
unfolding shares_of
shares_back line share [] rule h = absurd cc
shares_back line share (number ∷ []) rule h = absurd cc
shares_back line share (number ∷ feature ∷ []) rule h = absurd cc
shares_back line share (number ∷ feature ∷ kind ∷ []) rule h = absurd cc
shares_back line share (number ∷ feature ∷ kind ∷ name ∷ others) rule h =
    bind_ok (number_below line (2 ^ 16) number) _ rule h (λ n first rest.
    bind_ok (feature_of line feature) _ rule rest (λ f second more.
    bind_ok (who_of line kind name) _ rule more (λ who third whole.
    to_rule (λ r. ReadsBack line (Shares share) (number ∷ feature ∷ kind ∷ name ∷ others) (Rules r)) (shares line share n f who) rule whole
    (shares_is line share number feature kind name others n f who (number_ok line (2 ^ 16) number n (omega arith) first) second (who_ok line kind name who third)))))

-- LINGER and TIMEOUT.

abbrev times : ℕ → Span → ℕ → Option (List ℕ) → RuleLine
times line span n f = record { line = line; feature = f; rule = span_rule span n; who = None }

times_again : (line : ℕ) (span : Span) (n : ℕ) (f : List ℕ) → feature_of line f ≡ Ok f → number_below line (2 ^ 40) (decimal n) ≡ Ok n
    → times_of line span (f ∷ decimal n ∷ []) ≡ Ok (times line span n (Some f))
unfolding times_of
times_again line span n f fe ne = rw (fe, ne) refl

times_is : (line : ℕ) (span : Span) (feature seconds : List ℕ) (others : List (List ℕ)) (f : List ℕ) (n : ℕ) → feature_of line feature ≡ Ok f → IsNumbered line (2 ^ 40) seconds n
    → ReadsBack line (Times span) (feature ∷ seconds ∷ others) (Rules (times line span n (Some f)))
times_is line Lingers feature seconds others f n fe x =
    let named : IsNamed feature f = feature_ok line feature f fe in
    record {
      name = refl;
      back = ap (λ r. r >>= λ rule. Ok (Rules rule)) (times_again line Lingers n f (again line feature f named fe) x.back);
      within = within_same f feature (decimal n ∷ []) (seconds ∷ others) named.same (within_short (decimal n) seconds [] others x.shorter x.ends tt);
      tokens = (named.token, (x.token, tt));
    }
times_is line Waits feature seconds others f n fe x =
    let named : IsNamed feature f = feature_ok line feature f fe in
    record {
      name = refl;
      back = ap (λ r. r >>= λ rule. Ok (Rules rule)) (times_again line Waits n f (again line feature f named fe) x.back);
      within = within_same f feature (decimal n ∷ []) (seconds ∷ others) named.same (within_short (decimal n) seconds [] others x.shorter x.ends tt);
      tokens = (named.token, (x.token, tt));
    }

times_back : (line : ℕ) (span : Span) (words : List (List ℕ)) (rule : RuleLine) → times_of line span words ≡ Ok rule → ReadsBack line (Times span) words (Rules rule)
unfolding times_of
times_back line span [] rule h = absurd cc
times_back line span (feature ∷ []) rule h = absurd cc
times_back line span (feature ∷ seconds ∷ others) rule h =
    bind_ok (feature_of line feature) _ rule h (λ f first rest.
    bind_ok (number_below line (2 ^ 40) seconds) _ rule rest (λ n second whole.
    to_rule (λ r. ReadsBack line (Times span) (feature ∷ seconds ∷ others) (Rules r)) (times line span n (Some f)) rule whole
    (times_is line span feature seconds others f n first (number_ok line (2 ^ 40) seconds n (omega arith) second))))

-- TIMEOUTALL.

times_all_again : (line n : ℕ) → number_below line (2 ^ 40) (decimal n) ≡ Ok n → times_all_of line (decimal n ∷ []) ≡ Ok (times line Waits n None)
unfolding times_all_of
times_all_again line n ne = rw ne refl

times_all_is : (line : ℕ) (seconds : List ℕ) (others : List (List ℕ)) (n : ℕ) → IsNumbered line (2 ^ 40) seconds n → ReadsBack line TimesAll (seconds ∷ others) (Rules (times line Waits n None))
times_all_is line seconds others n x = record {
  name = refl;
  back = ap (λ r. r >>= λ rule. Ok (Rules rule)) (times_all_again line n x.back);
  within = within_short (decimal n) seconds [] others x.shorter x.ends tt;
  tokens = (x.token, tt);
}

times_all_back : (line : ℕ) (words : List (List ℕ)) (rule : RuleLine) → times_all_of line words ≡ Ok rule → ReadsBack line TimesAll words (Rules rule)
unfolding times_all_of
times_all_back line [] rule h = absurd cc
times_all_back line (seconds ∷ others) rule h =
    bind_ok (number_below line (2 ^ 40) seconds) _ rule h (λ n first whole.
    to_rule (λ r. ReadsBack line TimesAll (seconds ∷ others) (Rules r)) (times line Waits n None) rule whole
    (times_all_is line seconds others n (number_ok line (2 ^ 40) seconds n (omega arith) first)))

-- All forms.

to_entry : (P : Entry → Type 0) (a b : Entry) → all_right a ≡ Ok b → P a → P b
to_entry P a b h p = let same : a ≡ b = cc in subst P same p

logs_back : (line : ℕ) (log : LogKeyword) (words : List (List ℕ)) → ReadsBack line (Logs log) words (Passes (record { line = line; kind = NotActed }) log)
logs_back line ReportLog words = record { name = refl; back = refl; within = tt; tokens = tt }
logs_back line DebugLog words = record { name = refl; back = refl; within = tt; tokens = tt }
logs_back line NoLog words = record { name = refl; back = refl; within = tt; tokens = tt }

form_back : (line : ℕ) (keyword : Keyword) (words : List (List ℕ)) (entry : Entry) → form_of line keyword words ≡ Ok entry → ReadsBack line keyword words entry
form_back line (Lists of_hosts) words entry h =
    bind_ok (group_of line of_hosts words) _ entry h (λ group first whole. to_entry (ReadsBack line (Lists of_hosts) words) (a_list group) entry whole (group_back line of_hosts words group first))
form_back line (Admits access) words entry h =
    bind_ok (admits_of line access words) _ entry h (λ rule first whole. to_entry (ReadsBack line (Admits access) words) (Rules rule) entry whole (admits_back line access words rule first))
form_back line (AdmitsAll access) words entry h =
    bind_ok (admits_all_of line access words) _ entry h (λ rule first whole. to_entry (ReadsBack line (AdmitsAll access) words) (Rules rule) entry whole (admits_all_back line access words rule first))
form_back line (Shares share) words entry h =
    bind_ok (shares_of line share words) _ entry h (λ rule first whole. to_entry (ReadsBack line (Shares share) words) (Rules rule) entry whole (shares_back line share words rule first))
form_back line (Times span) words entry h =
    bind_ok (times_of line span words) _ entry h (λ rule first whole. to_entry (ReadsBack line (Times span) words) (Rules rule) entry whole (times_back line span words rule first))
form_back line TimesAll words entry h =
    bind_ok (times_all_of line words) _ entry h (λ rule first whole. to_entry (ReadsBack line TimesAll words) (Rules rule) entry whole (times_all_back line words rule first))
form_back line (Logs log) words entry h = to_entry (ReadsBack line (Logs log) words) _ entry h (logs_back line log words)

-- what a line says is said by the line that is written of it
pub record SaysAgain (line : ℕ) (words : List (List ℕ)) (entry : Entry) : Type 0 where
  pub back : entry_of line (name_in entry ∷ words_in entry) ≡ Ok entry
  pub within : IsWithin (name_in entry ∷ words_in entry) words
  pub opens : IsOpening (name_in entry)
  pub tokens : AllByRecursion IsToken (words_in entry)

keyword_again : (line : ℕ) (keyword : Keyword) (words : List (List ℕ)) → entry_of line (keyword_name keyword ∷ words) ≡ form_of line keyword words
unfolding entry_of
keyword_again line keyword words = ap (λ o. unless_none (UnknownKeyword line) o >>= λ k. form_of line k words) (keyword_back keyword)

again_by : (line : ℕ) (word : List ℕ) (words : List (List ℕ)) (keyword : Keyword) (entry : Entry) → keyword_of word ≡ Some keyword → ReadsBack line keyword words entry → SaysAgain line (word ∷ words) entry
again_by line word words keyword entry known b =
    let opens : IsOpening (keyword_name keyword) = keyword_opens keyword in
    let long : length word ≡ length (keyword_name keyword) = keyword_length word keyword known in
    let short : length (name_in entry) ≤ length word = omega (arith, long, ap length b.name) in
    let P : List ℕ → Type 0 = IsOpening in
    let named : IsOpening (name_in entry) = subst P (sym b.name) opens in
    record {
      back = ap (λ (name : List ℕ). entry_of line (name ∷ words_in entry)) b.name ∙ (keyword_again line keyword (words_in entry) ∙ b.back);
      within = within_short (name_in entry) word (words_in entry) words short named.ends b.within;
      opens = named;
      tokens = b.tokens;
    }

pub says_again : (line : ℕ) (words : List (List ℕ)) (entry : Entry) → entry_of line words ≡ Ok entry → SaysAgain line words entry
unfolding entry_of
says_again line [] entry h = absurd cc
says_again line (word ∷ words) entry h =
    bind_ok (unless_none (UnknownKeyword line) (keyword_of word)) _ entry h (λ keyword first rest.
    again_by line word words keyword entry (some_ok (UnknownKeyword line) (keyword_of word) keyword first) (form_back line keyword words entry rest))
