-- From one pass of a party to a later one.
use Rattle.std.proofs.Common.{List, ◌++◌, ap, ◌∙◌, append_assoc}
use Rattle.kex_gate.specs.declared.view.Visit.{Visit}
use Rattle.seat_names.proofs.Leading.{leads_on}
use Rattle.desk_seats.specs.Views.{SeatsView}
use Rattle.desk_seats.specs.Passes.{SeatPass, pass_of, visits_of}
use Rattle.desk_seats.specs.Turns.{Goes}

-- one call after another
pub goes_on : (p q r : SeatPass) → Goes p q → Goes q r → Goes p r
goes_on p q r a b = record {
  table = b.table ∙ a.table;
  number = b.number ∙ a.number;
  accesses = λ none.
      let v = a.accesses none in let w = b.accesses (ap (λ (t : SeatsView). t.gate) a.table ∙ none) in
      (v.0 ++ w.0, leads_on (pass_of p) v.0 (pass_of q) w.0 (pass_of r) v.1 w.1);
  visits =
      let v = a.visits in let w = b.visits in
      (v.0 ++ w.0, w.1 ∙ (ap (λ (l : List Visit). l ++ w.0) v.1 ∙ append_assoc (visits_of p.lane) v.0 w.0));
}
