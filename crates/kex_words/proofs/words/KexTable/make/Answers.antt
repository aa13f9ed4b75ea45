use Rattle.std.proofs.Common.{◌∙◌, sym, subst}
use Rattle.kex_core.specs.Shapes.{IsNet}
use Rattle.kex_words.specs.Passes.{OpensWords}
use Rattle.kex_words.proofs.Start.{starts}
use Rattle.kex_words.proofs.words.KexTable.make.Goals as goal

pub new-requires : goal.new-requires
new-requires c = starts c.args.net _ _ _ c.of-about.ensures (subst IsNet c.net.view_is c.net.invariant) (subst (OpensWords c.args.net) (sym c.deref.ensures.value) c.in_ok-words.ensures) (sym c.in_ok-slots.slots.ok.0 ∙ (c.in_ok-slots.ensures.count ∙ c.width.ensures)) c.in_ok-slots.ensures.cards
