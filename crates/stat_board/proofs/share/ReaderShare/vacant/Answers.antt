use Rattle.std.proofs.Common.{refl}
use Rattle.stat_board.specs.declared.sharing.TheConstants.{PLACES}
use Rattle.stat_board.proofs.Slots.{opens}
use Rattle.stat_board.proofs.share.ReaderShare.vacant.Goals as goal

pub vacant-requires : goal.vacant-requires
vacant-requires c = opens _ _ PLACES _ refl
