use Rattle.std.proofs.Common.{◌≡◌, ℕ, true, List, [], ◌∷◌, length, map, Option, None, Some, Result, Ok, Err, IfOk, refl, sym, ap, subst, ◌∙◌, arith}
use Rattle.std.specs.List.{filter_map, list_all}
use Rattle.std.specs.Option.{option_map}
use Rattle.std.proofs.lemmas.Bool.{and_parts}
use Rattle.lic_text.specs.Lines.{NumbersRise, lines_of}
use Rattle.lic_types.specs.Groups.{GroupLine}
use Rattle.lic_types.specs.declared.client.RuleLine.{RuleLine}
use Rattle.lic_types.specs.declared.note.Note.{Note}
use Rattle.options_text.specs.Answers.{◌>>=◌}
use Rattle.options_text.specs.Entries.{entries_after, is_fit, is_within_limits, line_of}
use Rattle.options_text.specs.Options.{IsOrderly, OptionsFile, first_undefined, group_in, log_in, note_in, options_among, options_of, rule_in, unless_undefined, with_groups_defined}
use Rattle.options_text.specs.declared.entry.Entry.{Entry}
use Rattle.options_text.specs.declared.entry.Entry.TheVariants.{Lists, Rules, Passes}
use Rattle.options_text.specs.Names.{line_undefined}
use Rattle.options_text.specs.declared.fault.OptionsFault.{OptionsFault}
use Rattle.options_text.specs.declared.fault.OptionsFault.TheVariants.{UnknownGroup}
use Rattle.options_text.proofs.Numbers.{entries_rise}
use Rattle.options_text.specs.Rises.{Rises}
use Rattle.options_text.proofs.Rising.{increasing, rises_from_below}

pub groups_rise : (n : ℕ) (entries : List Entry) → Rises n (map line_of entries) → Rises n (map (λ (g : GroupLine). g.line) (filter_map group_in entries))
groups_rise n [] r = tt
groups_rise n (Lists group ∷ entries) r = (r.0, groups_rise group.line entries r.1)
groups_rise n (Rules rule ∷ entries) r = rises_from_below n rule.line _ (omega (arith, r.0)) (groups_rise rule.line entries r.1)
groups_rise n (Passes note log ∷ entries) r = rises_from_below n note.line _ (omega (arith, r.0)) (groups_rise note.line entries r.1)

pub rules_rise : (n : ℕ) (entries : List Entry) → Rises n (map line_of entries) → Rises n (map (λ (l : RuleLine). l.line) (filter_map rule_in entries))
rules_rise n [] r = tt
rules_rise n (Lists group ∷ entries) r = rises_from_below n group.line _ (omega (arith, r.0)) (rules_rise group.line entries r.1)
rules_rise n (Rules rule ∷ entries) r = (r.0, rules_rise rule.line entries r.1)
rules_rise n (Passes note log ∷ entries) r = rises_from_below n note.line _ (omega (arith, r.0)) (rules_rise note.line entries r.1)

pub notes_rise : (n : ℕ) (entries : List Entry) → Rises n (map line_of entries) → Rises n (map (λ (m : Note). m.line) (filter_map note_in entries))
notes_rise n [] r = tt
notes_rise n (Lists group ∷ entries) r = rises_from_below n group.line _ (omega (arith, r.0)) (notes_rise group.line entries r.1)
notes_rise n (Rules rule ∷ entries) r = rises_from_below n rule.line _ (omega (arith, r.0)) (notes_rise rule.line entries r.1)
notes_rise n (Passes note log ∷ entries) r = (r.0, notes_rise note.line entries r.1)

rules_within : (entries : List Entry) → list_all is_fit entries ≡ true → list_all (λ (l : RuleLine). is_within_limits l.rule) (filter_map rule_in entries) ≡ true
rules_within [] h = refl
rules_within (Lists group ∷ entries) h = rules_within entries h
rules_within (Rules rule ∷ entries) h =
    let parts : (is_within_limits rule.rule ≡ true) × (list_all is_fit entries ≡ true) = and_parts _ _ h in
    rw parts.0 (rules_within entries parts.1)
rules_within (Passes note log ∷ entries) h = rules_within entries h

logs_paired : (entries : List Entry) → length (filter_map log_in entries) ≡ length (filter_map note_in entries)
logs_paired [] = refl
logs_paired (Lists group ∷ entries) = logs_paired entries
logs_paired (Rules rule ∷ entries) = logs_paired entries
logs_paired (Passes note log ∷ entries) = ap (λ n. Rattle.std.proofs.Common.suc n) (logs_paired entries)

orderly_if : (entries : List Entry) → Rises 0 (map line_of entries) → list_all is_fit entries ≡ true → IsOrderly (options_among entries)
orderly_if entries r fit = record {
  groups_rise = increasing 0 _ (groups_rise 0 entries r);
  lines_rise = increasing 0 _ (rules_rise 0 entries r);
  notes_rise = increasing 0 _ (notes_rise 0 entries r);
  within = rules_within entries fit;
  paired = logs_paired entries;
}

-- the options of a file are orderly
pub orderly : (file : List ℕ) (entries : List Entry) (options : OptionsFile) → NumbersRise → entries_after [] (lines_of file) ≡ Ok entries → list_all is_fit entries ≡ true → options ≡ options_among entries → IsOrderly options
orderly file entries options rise is fit same =
    let rises : Rises 0 (map line_of entries) =
    (let P : Result (List Entry) OptionsFault → Type 0 = λ r. IfOk r (λ (es : List Entry). Rises 0 (map line_of es)) in
    subst P is (entries_rise 0 [] (lines_of file) (rise file)))
    in subst IsOrderly (sym same) (orderly_if entries rises fit)

-- the options, unless there is such a line
abbrev unless_line : OptionsFile → Option ℕ → Result OptionsFile OptionsFault
unless_line options None = Ok options
unless_line options (Some line) = Err (UnknownGroup line)

line_or_rule : (options : OptionsFile) (found : Option RuleLine) → unless_line options (option_map (λ (rule : RuleLine). rule.line) found) ≡ unless_undefined options found
line_or_rule options None = refl
line_or_rule options (Some rule) = refl

-- the answer of a file whose entries are these, where this is the line of the first rule whose group is undefined
pub whole : (file : List ℕ) (entries : List Entry) (options : OptionsFile) (line : Option ℕ)
    → entries_after [] (lines_of file) ≡ Ok entries → options ≡ options_among entries → line ≡ line_undefined options → unless_line options line ≡ options_of file
whole file entries options line is same finds =
    ap (unless_line options) finds
    ∙ (line_or_rule options (first_undefined options)
    ∙ (ap with_groups_defined same ∙ ap (λ (r : Result (List Entry) OptionsFault). r >>= (λ es. with_groups_defined (options_among es))) (sym is)))
