use Rattle.std.proofs.Common.{◌∙◌, ◌<◌, get_or, sym, subst}
use Rattle.options_machine.specs.Run.{IsBelow}
use Rattle.options_machine.specs.Step.{set_asked}
use Rattle.session.proofs.Gaining.{gains_one}
use Rattle.session.proofs.Seats.{seat_comes}
use Rattle.session.proofs.Setting.{left_idle, of_set}
use Rattle.session.proofs.asking.ask_at.Goals as goal

pub desk-desk-requires : goal.desk-desk-requires
desk-desk-requires g c = subst (λ n. c.args.i < n) c.requires.of.long c.requires.within

pub ask-asked-requires : goal.ask-asked-requires
ask-asked-requires g c = record {
  of = subst (λ d. g.C.Counter.is_of (get_or c.args.pass.now c.args.i c.index-pass-i.result) d) (sym c.desk-desk.ensures) (c.requires.of.each c.args.i c.index-pass-i.result c.desk-desk.result.now c.requires.within);
  fits = subst (λ n. IsBelow (set_asked c.args.kind) n) (sym (c.requires.of.sets c.args.i c.index-pass-i.result c.requires.within)) c.requires.fits;
}

pub returns-clause-asked : goal.returns-clause-asked
returns-clause-asked g c =
    let h = c.ask-asked.ensures.asks.1 in (
      c.ask-asked.ensures.asks.0,
      gains_one g.C.Counter.account c.args.pass.now c.args.i c.index-pass-i.result c.ask-asked.new.self c.requires.within h,
      record { handed = h.handed; who = h.enters.client; kind = h.enters.kind },
      record { reply = h.enters.reply; place = h.enters.place; seat = c.seat_with-seat.ensures ∙ seat_comes h },
    )

pub returns-clause-of : goal.returns-clause-of
returns-clause-of g c =
    of_set c.args.pass.now c.args.i c.ask-asked.new.self c.requires.within g.C.Counter.is_of g.C.Counter.account c.args.office.now c.index-pass-i.result c.requires.of c.ask-asked.ensures.same_desk c.ask-asked.ensures.asks.1.enters.sets

pub returns-clause-left : goal.returns-clause-left
returns-clause-left g c = left_idle c.args.pass.now c.args.i c.ask-asked.new.self c.requires.within g.C.Counter.account c.args.kind c.ask-asked.ensures.asks.1.enters.quit
