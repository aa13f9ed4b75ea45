use Rattle.std.proofs.Common.{◌≡◌, List, [], ◌∷◌, ◌++◌, map, true, Result, Ok, Err, refl, sym, ap, ◌∙◌}
use Rattle.std.specs.List.{list_all}
use Rattle.lic_text.specs.Lines.{Worded}
use Rattle.lic_text.specs.declared.fault.TextFault.{TextFault}
use Rattle.options_machine.proofs.Counts.{and_left, and_right}
use Rattle.script_words.specs.declared.fault.ScriptFault.{ScriptFault}
use Rattle.script_text.specs.Fits.{is_fit}
use Rattle.script_words.proofs.Prefixes.{prefix_more, with_prefix}
use Rattle.script_words.specs.Firsts.{all_or_first_fault, onto}
use Rattle.script_text.specs.Script.{line_of}
use Rattle.script_text.specs.Line.{AskedLine}

-- the lines so far, and those that are left
abbrev pub as_far_as : List AskedLine → List (Result Worded TextFault) → Result (List AskedLine) ScriptFault
as_far_as front left = with_prefix front (all_or_first_fault (map line_of left))

-- one line more was read
pub one_more : (front : List AskedLine) (x : AskedLine) (line : Result Worded TextFault) (lines all : List (Result Worded TextFault)) (whole : Result (List AskedLine) ScriptFault)
    → Ok x ≡ line_of line → all ≡ line ∷ lines → as_far_as front all ≡ whole → as_far_as (front ++ x ∷ []) lines ≡ whole
one_more front x line lines all whole is next before =
    prefix_more front x (all_or_first_fault (map line_of lines))
    ∙ (ap (λ (found : Result AskedLine ScriptFault). with_prefix front (onto found (all_or_first_fault (map line_of lines)))) is
    ∙ (ap (λ (ls : List (Result Worded TextFault)). as_far_as front ls) (sym next) ∙ before))

-- a line at fault was met
pub one_fault : (front : List AskedLine) (fault : ScriptFault) (line : Result Worded TextFault) (lines all : List (Result Worded TextFault)) (whole : Result (List AskedLine) ScriptFault)
    → Err fault ≡ line_of line → all ≡ line ∷ lines → as_far_as front all ≡ whole → whole ≡ Err fault
one_fault front fault line lines all whole is next before =
    sym before
    ∙ (ap (λ (ls : List (Result Worded TextFault)). as_far_as front ls) next
    ∙ ap (λ (found : Result AskedLine ScriptFault). with_prefix front (onto found (all_or_first_fault (map line_of lines)))) (sym is))

-- one fit line more
pub fit_more : (lines : List AskedLine) (line : AskedLine) → list_all is_fit lines ≡ true → is_fit line ≡ true → list_all is_fit (lines ++ line ∷ []) ≡ true
fit_more [] line h f = rw f refl
fit_more (x ∷ xs) line h f = rw (and_left (is_fit x) (list_all is_fit xs) h) (fit_more xs line (and_right (is_fit x) (list_all is_fit xs) h) f)
