-- What a seat knows of a board stays so when the front that it goes with becomes another one of the board.
use Rattle.std.proofs.Common.{◌≡◌, ◌∙◌, sym, subst, Option, Some}
use Rattle.stat_board.specs.Fronts.{Front, IsSameBoard, IsLater}
use Rattle.stat_board.specs.Rule.{IsTold}

-- a later front is of the same board
pub same_before : (f g h : Front) → IsSameBoard f h → IsLater f g → IsSameBoard g h
same_before f g h same up = record { board = same.board ∙ sym up.board; sets = same.sets ∙ sym up.sets }

pub same_later : (f g h : Front) → IsSameBoard f h → IsLater f g → IsSameBoard h g
same_later f g h same up = record { board = up.board ∙ sym same.board; sets = up.sets ∙ sym same.sets }

pub told_key : (f g : Front) (v : Option Front) → g ≡ f → IsTold g v → IsTold f v
told_key f g v e told = subst (λ (z : Front). IsTold z v) e told

pub told_same : (f h : Front) (v : Option Front) → IsTold f v → IsSameBoard h f → IsTold h v
told_same f h v told same = (told.0, told.1, record { board = told.2.board ∙ same.board; sets = told.2.sets ∙ same.sets })

-- what was read, where the front is then later than that
pub told_read : (f h : Front) (v : Option Front) → v ≡ Some f → IsLater f h → IsTold h v
told_read f h v is up = (f, is, record { board = sym up.board; sets = sym up.sets })
