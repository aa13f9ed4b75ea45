use Rattle.std.proofs.Common.{Ok}
use Rattle.client_talk.proofs.Standings.{gives_all}
use Rattle.client_talk.proofs.keeping.keep.Goals as goal

pub returns : goal.returns
returns g c = record {
  at = c.stay.new.link;
  came = Ok c.in_ok-stay.field-0;
  stays = c.in_ok-stay.ensures;
  gives =
      gives_all g.L.Link.tells g.K.Clock.gave g.B.Bell.answered c.args.link.now c.stay.new.link c.give_back.new.link c.args.clock.now c.stay.new.clock c.args.bell.now c.stay.new.bell c.args.feature.now c.args.every
      c.in_ok-stay.field-0 c.give_back.result c.in_ok-stay.ensures c.give_back.ensures;
}
