use Rattle.std.proofs.Common.{◌≡◌, ◌∙◌, ◌++◌, [], All, List, Vec, Global, get_or, ap, refl, sym, subst, arith}
use Rattle.feature_desk.specs.Closings.{Tells}
use Rattle.feature_desk.specs.Sitters.{DeskView, Sitter}
use Rattle.feature_desk.specs.declared.closing.DeskTally.{DeskTally}
use Rattle.licence_office.specs.Offices.{AreAt, accounts_at}
use Rattle.options_machine.specs.declared.reply.Entry.{Entry}
use Rattle.trial_run.specs.Played.{counters_of}
use Rattle.trial_run.proofs.Trying.{the_counters}
use Rattle.trial_run.proofs.holding.close.Goals as goal

pub close-tallies-requires-clause-ready : goal.close-tallies-requires-clause-ready
close-tallies-requires-clause-ready g c =
    let desks = c.args.office.view.desks in
    let players = c.args.players.items in
    let e = c.take_counters.ensures ∙ ap (λ ps. ps ++ counters_of players) c.requires.empty in
    subst (λ ps. All (λ (v : Vec Sitter Global). AreAt desks v.items) ps) (sym e) (the_counters (λ (v : Vec Sitter Global). AreAt desks v.items) players c.requires.ready)

pub returns : goal.returns
returns g c = λ d.
    let desk : DeskView = get_or c.args.office.view.desks 0 d in
    let players : List (Vec Sitter Global) = counters_of c.args.players.items in
    let tally : DeskTally = c.index-tally.result.now in
    let history : List Entry = get_or c.close-tallies.ensures.0 0 [] in
    let taken : c.take_counters.new.passes.items ≡ players = c.take_counters.ensures ∙ ap (λ ps. ps ++ players) c.requires.empty in
    record {
      history = history;
      tally = tally;
      tells = subst (λ (t : DeskTally). Tells desk (accounts_at 0 players) t history) (sym c.index-tally.ensures)
          (subst (λ (ps : List (Vec Sitter Global)). Tells desk (accounts_at 0 ps) (get_or c.close-tallies.result.items 0 tally) history) taken (c.close-tallies.ensures.2 0 d tally (omega (arith, c.requires.one))));
      grants_is = refl;
      uses_are = refl;
    }
