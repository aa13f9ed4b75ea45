use Rattle.std.proofs.Common.{refl}
use Rattle.std.proofs.lemmas.Bool.Decides.{same_from_decides, Decides-eqb}
use Rattle.std.proofs.lemmas.Slice.Eq.{slice_eq-Decides}
use Rattle.std.specs.Str.{str_to_ascii_lowercase}
use Rattle.options_text.specs.Keywords.{spells}
use Rattle.options_text.proofs.keyword.spells.Goals as goal

pub returns : goal.returns
unfolding spells
returns c =
    same_from_decides _ _ c.eq_ignore_ascii_case.ensures.test
    (slice_eq-Decides Decides-eqb (str_to_ascii_lowercase c.args.word.now) (str_to_ascii_lowercase c.args.keyword.now) _ refl)
