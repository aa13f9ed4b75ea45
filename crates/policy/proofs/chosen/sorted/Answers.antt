use Rattle.std.proofs.Common.{◌≡◌, ◌∷◌, ◌++◌, ◌+◌, ◌<◌, ℕ, List, None, Some, false, drop, get_or, length, slice_get, refl, sym, ap, ◌∙◌}
use Rattle.std.proofs.lemmas.List.Elements.{All-get_or, All-push}
use Rattle.std.proofs.lemmas.Option.{slice_get_read}
use Rattle.lic_types.specs.declared.client.RuleLine.{RuleLine}
use Rattle.group_roster.specs.declared.prints.Printed.{Printed}
use Rattle.policy.specs.Passing.{names_group, print_of}
use Rattle.policy.specs.Places.{lines_at}
use Rattle.policy.proofs.Placings.{next_at}
use Rattle.policy.proofs.Others.{grouped_passed, grouped_more, printed_passed, printed_more, print_of-group, print_of-other}
use Rattle.policy.proofs.chosen.sorted.Goals as goal
use Rattle.policy.proofs.chosen.sorted.Goals.{in-None, in-Some+then-is_group+in_ok-push-in-Some, in-Some+else-is_group+in_ok-push-in-Some-2}

pub loop-place-preserved : goal.loop-place-preserved
loop-place-preserved c =
    let lines : List RuleLine = c.args.lines.now in
    let i : ℕ = c.loop-place.place-index in
    let line : RuleLine = c.index-lines-place.result in
    let rest : List RuleLine = lines_at lines (drop (i + 1) c.args.places.now) in
    let whole : List RuleLine = lines_at lines (drop i c.args.places.now) in
    let place : ℕ = get_or c.args.places.now i 0 in
    let step : whole ≡ line ∷ rest = next_at lines c.args.places.now i line c.requires c.loop-place-test.true c.index-lines-place.is in
    let within : place < length lines = All-get_or (λ (p : ℕ). p < length lines) c.args.places.now i 0 c.loop-place-test.true c.requires in
    let here : slice_get lines place ≡ Some line = slice_get_read lines (length lines) place line refl within c.index-lines-place.is in
    let before = c.loop-place.invariant in
    let no_group = λ (silent : names_group line.who ≡ false). ap (λ (ls : List RuleLine). lines_at lines c.loop-place.grouped.items ++ ls) (grouped_passed line rest whole silent step) ∙ before.of_groups in
    let no_print = λ (silent : print_of line.who ≡ None). ap (λ (es : List Printed). c.loop-place.printed.items ++ es) (printed_passed lines c.args.places.now i line c.loop-place-test.true here silent) ∙ before.others in
    elim c.match-lines-place.branch [
      | in-None w ↦
          let who = ap (λ (l : RuleLine). l.who) c.index-lines-place.is ∙ w.in-None.is in
          record {
            in_groups = rw w.grouped-is before.in_groups;
            of_groups = rw w.grouped-is (no_group (ap names_group who));
            others = rw w.printed-is (no_print (ap print_of who));
          }
      | in-Some+then-is_group+in_ok-push-in-Some w ↦
          let who = ap (λ (l : RuleLine). l.who) c.index-lines-place.is ∙ w.in-Some.is in
          let of_group = sym w.is_group.ensures ∙ w.if-is_group.true in
          let items = ap (λ (v : _). v.items) w.grouped-is ∙ w.in_ok-push-in-Some.ensures.items in
          record {
            in_groups = rw items (All-push (λ (n : ℕ). n < length lines) c.loop-place.grouped.items place before.in_groups within);
            of_groups = rw items (grouped_more lines c.loop-place.grouped.items place line rest whole (ap names_group who ∙ of_group) step here ∙ before.of_groups);
            others = rw w.printed-is (no_print (ap print_of who ∙ print_of-group w.in-Some.who of_group));
          }
      | in-Some+else-is_group+in_ok-push-in-Some-2 w ↦
          let who = ap (λ (l : RuleLine). l.who) c.index-lines-place.is ∙ w.in-Some.is in
          let of_other = sym w.is_group.ensures ∙ w.if-is_group.false in
          let items = ap (λ (v : _). v.items) w.printed-is ∙ w.in_ok-push-in-Some-2.ensures.items in
          record {
            in_groups = rw w.grouped-is before.in_groups;
            of_groups = rw w.grouped-is (no_group (ap names_group who ∙ of_other));
            others =
                rw (items, w.name_print.ensures, w.bytes.ensures.bytes)
                (printed_more lines c.args.places.now i line c.loop-place.printed.items _ c.loop-place-test.true here (ap print_of who ∙ print_of-other w.in-Some.who of_other) ∙ before.others);
          }
    ]
