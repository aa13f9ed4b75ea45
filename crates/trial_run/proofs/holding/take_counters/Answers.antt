use Rattle.std.proofs.Common.{◌≡◌, ◌∙◌, ◌++◌, ap, refl, sym, arith, length}
use Rattle.std.proofs.lemmas.List.{append-nil}
use Rattle.std.specs.Vec.Iter.{into_iter_items}
use Rattle.daemon_run.proofs.Splitting.{done_when, yielded_more}
use Rattle.trial_run.specs.Played.{counters_of}
use Rattle.trial_run.proofs.Trying.{counters_behind}
use Rattle.trial_run.proofs.holding.take_counters.Goals as goal

pub loop-player-init : goal.loop-player-init
loop-player-init c =
    let began = c.into_iter-player-iterator.ensures.into_iter_gives in
    record {
      all = began.0;
      sized = ap length began.0 ∙ sym c.args.players.ok.0 ∙ sym began.1;
      passes = sym (append-nil c.args.passes.now.items);
      room = refl;
    }

pub loop-player-preserved : goal.loop-player-preserved
loop-player-preserved c =
    let s = c.in-Some.ensures.steps in
    let v = c.loop-player.invariant in
    let ys = c.loop-player.yielded in
    let p = c.in-Some.player in
    record {
      all = yielded_more ys (into_iter_items c.loop-player.player-iterator) (into_iter_items c.next.new.self) c.args.players.items p s.0 v.all;
      sized = let a = ap length s.0 in let b = s.1 in let d = v.sized in omega arith;
      passes = counters_behind c.args.passes.now.items c.loop-player.passes.items c.push_reserved.new.self.items ys p c.push_reserved.ensures.items v.passes;
      room = c.push_reserved.ensures.capacity ∙ v.room;
    }

pub returns : goal.returns
returns c =
    let v = c.loop-player.invariant in
    let e : c.args.players.items ≡ c.loop-player.yielded = done_when c.loop-player.yielded (into_iter_items c.loop-player.player-iterator) c.args.players.items v.all (v.sized ∙ c.in-None.ensures.steps.0) in
    v.passes ∙ ap (λ l. c.args.passes.now.items ++ counters_of l) (sym e)
