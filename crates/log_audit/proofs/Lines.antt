-- The entries of a log, line by line.
use Rattle.std.proofs.Common.{◌≡◌, ℕ, Bool, true, false, cond, List, [], ◌∷◌, ◌++◌, filter, map, Option, None, Some, IfSome, Result, Ok, Err, refl, sym, ap, ◌∙◌}
use Rattle.std.proofs.lemmas.List.{append-nil}
use Rattle.std.specs.List.{list_all}
use Rattle.std.specs.Option.{option_to_list}
use Rattle.lic_text.specs.Lines.{Worded}
use Rattle.lic_text.specs.declared.fault.TextFault.{TextFault}
use Rattle.options_machine.proofs.Counts.{and_left, and_right}
use Rattle.script_words.specs.Firsts.{all_or_first_fault, onto}
use Rattle.script_words.specs.declared.fault.ScriptFault.{ScriptFault}
use Rattle.script_words.proofs.Prefixes.{prefix_more, with_prefix}
use Rattle.log_audit.specs.Log.{some_or_fault, is_fit, numbered_or_fault, read_of, tells}
use Rattle.log_audit.specs.declared.log.Numbered.{Numbered}

-- the entries so far, and those of the lines that are left
abbrev pub as_far_as : ℕ → List Numbered → List (Result Worded TextFault) → Result (List Numbered) ScriptFault
as_far_as pools front left = with_prefix front (all_or_first_fault (map (numbered_or_fault pools) (filter tells left)))

split_step : (pools : ℕ) (line : Result Worded TextFault) (lines : List (Result Worded TextFault)) (b : Bool) → tells line ≡ b
    → all_or_first_fault (map (numbered_or_fault pools) (filter tells (line ∷ lines)))
    ≡ cond b (onto (numbered_or_fault pools line) (all_or_first_fault (map (numbered_or_fault pools) (filter tells lines)))) (all_or_first_fault (map (numbered_or_fault pools) (filter tells lines)))
split_step pools line lines true h = rw h refl
split_step pools line lines false h = rw h refl

more_step : (front : List Numbered) (x : Option Numbered) (b : Bool) (r : Result Numbered ScriptFault) (others : Result (List Numbered) ScriptFault)
    → cond b (some_or_fault r) (Ok None) ≡ Ok x → with_prefix front (cond b (onto r others) others) ≡ with_prefix (front ++ option_to_list x) others
more_step front None true (Ok y) others h = absurd cc
more_step front (Some z) true (Ok y) others h =
    let same : y ≡ z = cc in
    sym (prefix_more front y others) ∙ ap (λ (w : Numbered). with_prefix (front ++ w ∷ []) others) same
more_step front x true (Err fault) others h = absurd cc
more_step front None false r others h = ap (λ (l : List Numbered). with_prefix l others) (sym (append-nil front))
more_step front (Some z) false r others h = absurd cc

fault_step : (front : List Numbered) (fault : ScriptFault) (b : Bool) (r : Result Numbered ScriptFault) (others : Result (List Numbered) ScriptFault)
    → cond b (some_or_fault r) (Ok None) ≡ Err fault → with_prefix front (cond b (onto r others) others) ≡ Err fault
fault_step front fault true (Ok y) others h = absurd cc
fault_step front fault true (Err other) others h = ap Err cc
fault_step front fault false r others h = absurd cc

-- one line more was read
pub one_more : (pools : ℕ) (front : List Numbered) (x : Option Numbered) (line : Result Worded TextFault) (lines all : List (Result Worded TextFault)) (whole : Result (List Numbered) ScriptFault)
    → Ok x ≡ read_of pools line → all ≡ line ∷ lines → as_far_as pools front all ≡ whole → as_far_as pools (front ++ option_to_list x) lines ≡ whole
one_more pools front x line lines all whole is next before =
    sym (more_step front x (tells line) (numbered_or_fault pools line) (all_or_first_fault (map (numbered_or_fault pools) (filter tells lines))) (sym is))
    ∙ (ap (with_prefix front) (sym (split_step pools line lines (tells line) refl))
    ∙ (ap (as_far_as pools front) (sym next) ∙ before))

-- a line at fault was met
pub one_fault : (pools : ℕ) (front : List Numbered) (fault : ScriptFault) (line : Result Worded TextFault) (lines all : List (Result Worded TextFault)) (whole : Result (List Numbered) ScriptFault)
    → Err fault ≡ read_of pools line → all ≡ line ∷ lines → as_far_as pools front all ≡ whole → whole ≡ Err fault
one_fault pools front fault line lines all whole is next before =
    sym before
    ∙ (ap (as_far_as pools front) next
    ∙ (ap (with_prefix front) (split_step pools line lines (tells line) refl)
    ∙ fault_step front fault (tells line) (numbered_or_fault pools line) (all_or_first_fault (map (numbered_or_fault pools) (filter tells lines))) (sym is)))

-- one fit entry more
fit_one : (pools : ℕ) (xs : List Numbered) (x : Numbered) → list_all (is_fit pools) xs ≡ true → is_fit pools x ≡ true → list_all (is_fit pools) (xs ++ x ∷ []) ≡ true
fit_one pools [] x h f = rw f refl
fit_one pools (y ∷ ys) x h f = rw (and_left (is_fit pools y) (list_all (is_fit pools) ys) h) (fit_one pools ys x (and_right (is_fit pools y) (list_all (is_fit pools) ys) h) f)

pub fit_more : (pools : ℕ) (xs : List Numbered) (x : Option Numbered) → list_all (is_fit pools) xs ≡ true → IfSome x (λ (y : Numbered). is_fit pools y ≡ true) → list_all (is_fit pools) (xs ++ option_to_list x) ≡ true
fit_more pools xs None h f = ap (list_all (is_fit pools)) (append-nil xs) ∙ h
fit_more pools xs (Some x) h f = fit_one pools xs x h f
