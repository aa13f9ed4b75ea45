-- What a step call says of its pass: it made the access that is due, at a state of its table that meets the rule and has this pass in it.
use Rattle.std.specs.Prelude.{◌≡◌, ℕ, ◌<◌, ◌≤◌}
use mathlib.Core.Option.{some}
use lib.ListN.{get_elem?}
use Rattle.kex_core.specs.Worlds.{value_found}
use Rattle.kex_core.specs.Costs.{bound}
use Rattle.kex_core.specs.Shapes.{plan}
use Rattle.kex_words.specs.Passes.{Pass, due_at, next_pass}
use Rattle.kex_words.specs.Rule.{IsReadOff}
use Rattle.kex_words.specs.Steps.{TableState, holding_seat}
use Rattle.kex_words.specs.Laws.{state_after}

-- q is p after the access that is due
pub record Moved (p q : Pass) : Type 0 where
  -- the table's words, the cards at home and all views, as the access met them: they meet the rule, and read off they are a world
  pub state : TableState
  pub ruled : IsReadOff p.table.net state
  -- one of the seats has the pass's view, with the uses of the card that it may hold
  pub seat : ℕ
  pub uses : ℕ
  pub sits : get_elem? state.views seat ≡ some (holding_seat p uses)
  -- in that world the party stands at the pass's place, and the access that is due there leads it on
  pub inside : p.number < p.table.net.parties
  pub stood : ruled.world.place p.number ≡ p.place
  pub now : q ≡ next_pass p (value_found ruled.world p.number (due_at p))
  pub bounded : q.firsts ≤ bound (plan q.table.net) q.number q.place

-- the table's state as the access left it
abbrev pub left_by : (p q : Pass) → Moved p q → TableState
left_by p q m = state_after m.state m.seat (holding_seat p m.uses) (due_at p)
