use Rattle.std.proofs.Common.{◌≡◌, ℕ, ◌<◌, ◌^◌, Bool, true, false, nat_le, nat_lt, ◌+◌, List, [], ◌∷◌, ◌++◌, length, map, sum_by, Result, Ok, Err, IfOk, refl, sym, subst}
use Rattle.lic_text.specs.Lines.{Worded, RisesAbove, number_at}
use Rattle.lic_text.specs.declared.fault.TextFault.{TextFault}
use Rattle.lic_types.specs.Groups.{GroupLine}
use Rattle.lic_types.specs.declared.client.RuleLine.{RuleLine}
use Rattle.options_text.specs.Answers.{◌>>=◌}
use Rattle.options_text.specs.Entries.{entries_after, entry_after, entry_behind, line_of, members_in, unless_crowded}
use Rattle.options_text.specs.Forms.{admits_all_of, admits_of, entry_of, feature_of, form_of, group_of, name_at, names_of, number_below, shares_of, times_all_of, times_of, unless_none, who_of}
use Rattle.options_text.specs.Keywords.{keyword_of}
use Rattle.options_text.specs.declared.entry.Entry.{Entry}
use Rattle.options_text.specs.declared.fault.OptionsFault.{OptionsFault}
use Rattle.options_text.specs.declared.keyword.Access.{Access}
use Rattle.options_text.specs.declared.keyword.Keyword.{Keyword}
use Rattle.options_text.specs.declared.keyword.Keyword.TheVariants.{Lists, Admits, AdmitsAll, Shares, Times, TimesAll, Logs}
use Rattle.options_text.specs.declared.keyword.Share.{Share}
use Rattle.options_text.specs.declared.keyword.Span.{Span}
use Rattle.options_text.specs.Rises.{Rises}

-- what holds of each Ok of the second holds of the Ok of both
pub if_ok_then : {A B : Type 0} (P : B → Type 0) (r : Result A OptionsFault) (f : A → Result B OptionsFault) → ((a : A) → IfOk (f a) P) → IfOk (r >>= f) P
if_ok_then P (Ok a) f h = h a
if_ok_then P (Err e) f h = tt

-- the same, where something is known of the first
pub if_ok_with : {A B : Type 0} (Q : A → Type 0) (P : B → Type 0) (r : Result A OptionsFault) (f : A → Result B OptionsFault) → IfOk r Q → ((a : A) → Q a → IfOk (f a) P) → IfOk (r >>= f) P
if_ok_with Q P (Ok a) f q h = h a q
if_ok_with Q P (Err e) f q h = tt

-- Each form says the number of its line.

abbrev IsAt : ℕ → RuleLine → Type 0
IsAt line rule = rule.line ≡ line

group_line : (line : ℕ) (of_hosts : Bool) (words : List (List ℕ)) → IfOk (group_of line of_hosts words) (λ (g : GroupLine). g.line ≡ line)
unfolding group_of
group_line line of_hosts [] = tt
group_line line of_hosts (name ∷ []) = tt
group_line line of_hosts (name ∷ member ∷ members) =
    if_ok_then (λ (g : GroupLine). g.line ≡ line) (name_at line name) _ (λ n. if_ok_then (λ (g : GroupLine). g.line ≡ line) (names_of line (member ∷ members)) _ (λ ms. refl))

admits_line : (line : ℕ) (access : Access) (words : List (List ℕ)) → IfOk (admits_of line access words) (IsAt line)
unfolding admits_of
admits_line line access [] = tt
admits_line line access (feature ∷ []) = tt
admits_line line access (feature ∷ kind ∷ []) = tt
admits_line line access (feature ∷ kind ∷ name ∷ others) =
    if_ok_then (IsAt line) (feature_of line feature) _ (λ f. if_ok_then (IsAt line) (who_of line kind name) _ (λ w. refl))

admits_all_line : (line : ℕ) (access : Access) (words : List (List ℕ)) → IfOk (admits_all_of line access words) (IsAt line)
unfolding admits_all_of
admits_all_line line access [] = tt
admits_all_line line access (kind ∷ []) = tt
admits_all_line line access (kind ∷ name ∷ others) = if_ok_then (IsAt line) (who_of line kind name) _ (λ w. refl)

shares_line : (line : ℕ) (share : Share) (words : List (List ℕ)) → IfOk (shares_of line share words) (IsAt line)
unfolding shares_of
shares_line line share [] = tt
shares_line line share (number ∷ []) = tt
shares_line line share (number ∷ feature ∷ []) = tt
shares_line line share (number ∷ feature ∷ kind ∷ []) = tt
shares_line line share (number ∷ feature ∷ kind ∷ name ∷ others) =
    if_ok_then (IsAt line) (number_below line (2 ^ 16) number) _
    (λ n. if_ok_then (IsAt line) (feature_of line feature) _ (λ f. if_ok_then (IsAt line) (who_of line kind name) _ (λ w. refl)))

times_line : (line : ℕ) (span : Span) (words : List (List ℕ)) → IfOk (times_of line span words) (IsAt line)
unfolding times_of
times_line line span [] = tt
times_line line span (feature ∷ []) = tt
times_line line span (feature ∷ seconds ∷ others) =
    if_ok_then (IsAt line) (feature_of line feature) _ (λ f. if_ok_then (IsAt line) (number_below line (2 ^ 40) seconds) _ (λ n. refl))

times_all_line : (line : ℕ) (words : List (List ℕ)) → IfOk (times_all_of line words) (IsAt line)
unfolding times_all_of
times_all_line line [] = tt
times_all_line line (seconds ∷ others) = if_ok_then (IsAt line) (number_below line (2 ^ 40) seconds) _ (λ n. refl)

abbrev pub IsOf : ℕ → Entry → Type 0
IsOf line entry = line_of entry ≡ line

form_line : (line : ℕ) (keyword : Keyword) (words : List (List ℕ)) → IfOk (form_of line keyword words) (IsOf line)
form_line line (Lists of_hosts) words = if_ok_with (λ (g : GroupLine). g.line ≡ line) (IsOf line) (group_of line of_hosts words) _ (group_line line of_hosts words) (λ g is. is)
form_line line (Admits access) words = if_ok_with (IsAt line) (IsOf line) (admits_of line access words) _ (admits_line line access words) (λ r is. is)
form_line line (AdmitsAll access) words = if_ok_with (IsAt line) (IsOf line) (admits_all_of line access words) _ (admits_all_line line access words) (λ r is. is)
form_line line (Shares share) words = if_ok_with (IsAt line) (IsOf line) (shares_of line share words) _ (shares_line line share words) (λ r is. is)
form_line line (Times span) words = if_ok_with (IsAt line) (IsOf line) (times_of line span words) _ (times_line line span words) (λ r is. is)
form_line line TimesAll words = if_ok_with (IsAt line) (IsOf line) (times_all_of line words) _ (times_all_line line words) (λ r is. is)
form_line line (Logs log) words = refl

pub entry_line : (line : ℕ) (words : List (List ℕ)) → IfOk (entry_of line words) (IsOf line)
unfolding entry_of
entry_line line [] = tt
entry_line line (word ∷ words) = if_ok_then (IsOf line) (unless_none _ (keyword_of word)) _ (λ keyword. form_line line keyword words)

behind_line : (before : ℕ) (line : Result Worded TextFault) → IfOk (entry_behind before line) (IsOf (number_at line))
behind_line before (Err fault) = tt
behind_line before (Ok line) =
    elim (nat_le 4096 before) as (λ b. IfOk (Rattle.std.specs.Prelude.if◌then◌else◌ b (Err (Rattle.options_text.specs.declared.fault.OptionsFault.TheVariants.TooMany line.0)) (entry_of line.0 line.1)) (IsOf line.0)) [
      | true ↦ tt
      | false ↦ entry_line line.0 line.1
    ]

uncrowded_line : (before line : ℕ) (entry : Entry) → line_of entry ≡ line → IfOk (unless_crowded before entry) (IsOf line)
uncrowded_line before line entry is =
    elim (nat_lt 65536 (before + members_in entry)) as (λ b. IfOk (Rattle.std.specs.Prelude.if◌then◌else◌ b (Err (Rattle.options_text.specs.declared.fault.OptionsFault.TheVariants.TooMany (line_of entry))) (Ok entry)) (IsOf line)) [
      | true ↦ tt
      | false ↦ is
    ]

after_line : (before : List Entry) (line : Result Worded TextFault) → IfOk (entry_after before line) (IsOf (number_at line))
after_line before line =
    if_ok_with (IsOf (number_at line)) (IsOf (number_at line)) (entry_behind (length before) line) _ (behind_line (length before) line)
    (λ entry is. uncrowded_line (sum_by members_in before) (number_at line) entry is)

step_rises : (n at : ℕ) (entry : Entry) (entries : List Entry) → n < at → line_of entry ≡ at → Rises at (map line_of entries) → Rises n (map line_of (entry ∷ entries))
step_rises n at entry entries above is rest =
    let P : ℕ → Type 0 = λ m. (n < m) × Rises m (map line_of entries) in
    subst P (sym is) (above, rest)

-- the entries of lines whose numbers rise have lines that rise
pub entries_rise : (n : ℕ) (before : List Entry) (lines : List (Result Worded TextFault)) → RisesAbove n lines → IfOk (entries_after before lines) (λ entries. Rises n (map line_of entries))
entries_rise n before [] rises = tt
entries_rise n before (line ∷ others) rises =
    if_ok_with (IsOf (number_at line)) (λ (entries : List Entry). Rises n (map line_of entries)) (entry_after before line) _ (after_line before line)
    (λ entry is. if_ok_with (λ (entries : List Entry). Rises (number_at line) (map line_of entries)) (λ (entries : List Entry). Rises n (map line_of entries))
    (entries_after (before ++ entry ∷ []) others) _ (entries_rise (number_at line) (before ++ entry ∷ []) others rises.1)
    (λ entries rest. step_rises n (number_at line) entry entries rises.0 is rest))
