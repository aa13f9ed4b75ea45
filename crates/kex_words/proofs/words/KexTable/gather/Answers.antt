use Rattle.kex_words.proofs.Gathers.{joins_at}
use Rattle.kex_words.proofs.words.KexTable.gather.Goals as goal

pub join_seat-requires : goal.join_seat-requires
join_seat-requires c = joins_at _ _ _ _ _ _ _ _ _ _ _ _ c.self.invariant.0 c.self.view_is c.gathering.view_is c.gathering.invariant c.requires.gathering c.into_seat-other.ensures.own c.requires.own c.into_seat-other.ensures.sits
