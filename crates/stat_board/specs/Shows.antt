-- For which list of entries a Glance stands.
use Rattle.std.specs.Prelude.{◌≡◌, ◌<◌, ◌^◌, List, length}
use Rattle.counter.specs.declared.glance.Glance.{Glance}
use Rattle.counter.specs.Glances.{glance_of, numbers_of}
use Rattle.options_machine.specs.declared.reply.Entry.{Entry}
use Rattle.options_machine.specs.Rules.{Rules}
use Rattle.options_machine.specs.Run.{after}

-- the Glance shows the desk after these entries, and its front is their exact number
pub record IsGlanceOf (sets : List Rules) (list : List Entry) (g : Glance) : Type 0 where
  pub shows : g ≡ glance_of sets list
  pub short : length list < 2 ^ 64

-- the Glance's numbers but for its front are those of the state after these entries
abbrev pub HasNumbers : List Rules → List Entry → Glance → Type 0
HasNumbers sets list g = g ≡ numbers_of sets g.front (after sets list)
