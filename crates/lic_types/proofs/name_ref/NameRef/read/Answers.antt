use Rattle.std.proofs.Common.{arith, sym, ◌∙◌}
use Rattle.lic_types.proofs.Stored.{good_name}
use Rattle.lic_types.proofs.name_ref.NameRef.read.Goals as goal

pub invariant_of-result : goal.invariant_of-result
invariant_of-result c = good_name c.args.word.now (omega arith) (grind arith) (sym c.first_bad.ensures.first ∙ c.in-None.is)
