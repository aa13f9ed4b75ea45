use Rattle.std.proofs.Common.{ℕ, sym, subst}
use Rattle.options_machine.specs.Rules.{Rules}
use Rattle.options_machine.specs.State.{State}
use Rattle.options_machine.specs.Kept.{IsBounded, IsKept}
use Rattle.seat_book.specs.Parts.{state_of}
use Rattle.seat_book.proofs.Settled.{bounded_timely, kept_timely, settled_alone}
use Rattle.seat_book.proofs.serving.settle.Goals as goal

pub serve-requires : goal.serve-requires
serve-requires c =
    let r : Rules = c.args.rules.now in
    let s : State = state_of c.args.parts.now in
    record {
      sound = c.requires.servable.sound;
      kept = subst (IsKept r) (sym c.let_go.ensures.state) (kept_timely r s c.args.moment c.requires.servable.kept);
      bounded = subst (λ (n : ℕ). IsBounded n (state_of c.let_go.new.parts)) (sym c.let_go.ensures.room.parties)
          (subst (IsBounded c.args.parts.now.seats.parties) (sym c.let_go.ensures.state) (bounded_timely c.args.parts.now.seats.parties r s c.args.moment c.requires.servable.bounded));
      counted = c.let_go.ensures.counted;
    }

pub returns-else-not-parts-clause-state : goal.returns-else-not-parts-clause-state
returns-else-not-parts-clause-state c =
    let (was, same) = c.let_go.ensures.served c.if-not-parts.false in
    settled_alone c.args.rules.now (state_of c.args.parts.now) (state_of c.let_go.new.parts) c.args.moment c.let_go.ensures.state same (c.requires.served was)
