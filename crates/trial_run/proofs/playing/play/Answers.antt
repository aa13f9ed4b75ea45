use Rattle.std.proofs.Common.{refl}
use Rattle.trial_run.proofs.playing.play.Goals as goal

pub returns-clause-played : goal.returns-clause-played
returns-clause-played g c =
    let s = c.serve_session.ensures.session in
    record {
      visit = record { acts = s.0; end = c.serve_session.result };
      is_session = record { session = s.1; gives_back = s.2 };
      gains = s.3.pass;
      told = s.3.link.told;
      moments = s.3.clock;
      number = refl;
      door = refl;
    }
