-- The loop of turns.
use Rattle.std.proofs.Common.{◌≡◌, List, [], ◌∷◌, ◌++◌, ◌∙◌}
use Rattle.kex_words.specs.Passes.{TableNet, Pass}
use Rattle.kex_words.specs.Moves.{Moved}
use Rattle.seat_names.specs.declared.turns.Turn.{Turn}
use Rattle.seat_names.specs.Turns.{pass_in_turn}
use Rattle.seat_names.specs.Ways.{Leads}
use Rattle.seat_names.proofs.Leading.{leads_more}

pub record Coming (t : TableNet) (start : Pass) (u : Turn) : Type 0 where
  pub table : (pass_in_turn u).table ≡ t
  pub same : ((pass_in_turn u).table ≡ start.table) × ((pass_in_turn u).number ≡ start.number)
  pub got : (pass_in_turn u).got ≡ start.got
  pub way : List Pass
  pub leads : Leads start way (pass_in_turn u)

-- one turn more
pub coming_on : (t : TableNet) (start : Pass) (u v : Turn) → Coming t start u → ((pass_in_turn v).table ≡ (pass_in_turn u).table) × ((pass_in_turn v).number ≡ (pass_in_turn u).number)
    → (pass_in_turn v).got ≡ (pass_in_turn u).got → Moved (pass_in_turn u) (pass_in_turn v) → Coming t start v
coming_on t start u v so same got m = record {
  table = same.0 ∙ so.table;
  same = (same.0 ∙ so.same.0, same.1 ∙ so.same.1);
  got = got ∙ so.got;
  way = so.way ++ pass_in_turn v ∷ [];
  leads = leads_more start so.way (pass_in_turn u) (pass_in_turn v) so.leads m;
}
