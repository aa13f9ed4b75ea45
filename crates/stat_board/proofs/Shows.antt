-- What a Glance with an exact front shows.
use Rattle.std.proofs.Common.{◌≡◌, List, length, ap, ◌∙◌}
use Rattle.std.proofs.Math.Nat.{mod-eq_of_lt}
use Rattle.counter.specs.declared.glance.Glance.{Glance}
use Rattle.options_machine.specs.declared.reply.Entry.{Entry}
use Rattle.options_machine.specs.Rules.{Rules}
use Rattle.stat_board.specs.Shows.{IsGlanceOf}

-- a front that is exact
pub front_is : (sets : List Rules) (list : List Entry) (g : Glance) → IsGlanceOf sets list g → g.front ≡ length list
front_is sets list g is = ap (λ x. x.front) is.shows ∙ mod-eq_of_lt is.short
