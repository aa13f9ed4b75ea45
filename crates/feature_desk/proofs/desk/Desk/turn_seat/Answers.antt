use Rattle.std.proofs.Common.{◌≡◌, ◌<◌, ℕ, true, List, [], ◌∷◌, ap, sym, ◌∙◌, ◌++◌, subst, refl}
use Rattle.desk_seats.specs.Passes.{SeatPass}
use Rattle.desk_seats.specs.Turns.{Goes, IsAgain, IsThrough, pass_in_turn}
use Rattle.desk_seats.proofs.Goings as going
use Rattle.counter.specs.Account.{brings_seat}
use Rattle.feature_desk.specs.Sitters.{DeskView, NotedView, Sitter}
use Rattle.feature_desk.specs.Seatings.{MatchedAs}
use Rattle.feature_desk.specs.Sittings.{is_entering, pass_in}
use Rattle.feature_desk.proofs.Seated.{agrees_brought, matched_brought, there, under_way}
use Rattle.feature_desk.proofs.desk.Desk.turn_seat.Goals as goal

pub invariant_of-result-in-Through : goal.invariant_of-result-in-Through
invariant_of-result-in-Through c =
    let n = c.name-hold.ensures in let t = c.in-Through.ensures in
    let at = ap (λ (z : NotedView). z.sitter.seat.table) c.noted.view_is ∙ c.requires.of.seats in
    let brings : brings_seat c.noted.inside.asked.reply ≡ true = sym c.if-not-brings_seat.ensures in
    agrees_brought c.noted.inside.ticket c.noted.inside.chair c.noted.inside.queued c.noted.inside.asked c.name-hold.result c.args.self.now.seats c.noted.invariant brings
    at (n.goes.table ∙ t.own.0) (n.goes.number ∙ t.own.1) n.place (n.got ∙ ap (λ (l : List ℕ). l ++ c.name-hold.result.card.number ∷ []) t.got) (subst (λ (d : DeskView). c.name-hold.result.card.number < d.seats.net.width) c.self.view_is n.low)

pub returns-in-Again-clause-on : goal.returns-in-Again-clause-on
returns-in-Again-clause-on c =
    let s = c.stepped.ensures in
    let brings : brings_seat c.noted.inside.asked.reply ≡ true = sym c.if-not-brings_seat.ensures in
    let again : IsAgain c.stepped.result = subst IsAgain (sym c.in-Again.is) tt in
    under_way (record { sitter = record { ticket = c.noted.inside.ticket; seat = pass_in c.noted.inside.chair }; asked = c.noted.inside.asked; entering = is_entering c.noted.inside.chair }) c.args.noted
    (record { sitter = record { ticket = c.noted.inside.ticket; seat = c.in-Again.entering }; asked = c.noted.inside.asked; entering = true }) c.stepped.result c.noted.view_is brings s.own.0 s.own.1 s.starts again (sym (ap pass_in_turn c.in-Again.is))

pub returns-in-Through-clause-on : goal.returns-in-Through-clause-on
returns-in-Through-clause-on c =
    let s = c.stepped.ensures in
    let brings : brings_seat c.noted.inside.asked.reply ≡ true = sym c.if-not-brings_seat.ensures in
    let through : IsThrough c.stepped.result = subst IsThrough (sym c.in-Through.is) tt in
    there (record { sitter = record { ticket = c.noted.inside.ticket; seat = pass_in c.noted.inside.chair }; asked = c.noted.inside.asked; entering = is_entering c.noted.inside.chair }) c.args.noted
    (record { ticket = c.noted.inside.ticket; seat = c.name-hold.result.pass }) c.noted.inside.asked c.stepped.result c.noted.view_is brings s.own.0 s.own.1 s.starts through
    (subst (λ (q : SeatPass). Goes q c.name-hold.result.pass) (sym (ap pass_in_turn c.in-Through.is)) c.name-hold.ensures.goes)

pub returns-in-Through-clause-steps : goal.returns-in-Through-clause-steps
returns-in-Through-clause-steps c =
    let n = c.name-hold.ensures in let t = c.in-Through.ensures in
    let brings : brings_seat c.noted.inside.asked.reply ≡ true = sym c.if-not-brings_seat.ensures in
    let p : Sitter = record { ticket = c.noted.inside.ticket; seat = c.name-hold.result.pass } in (
      subst (λ (z : NotedView). MatchedAs z p) c.noted.view_is
          (matched_brought (record { sitter = record { ticket = c.noted.inside.ticket; seat = pass_in c.noted.inside.chair }; asked = c.noted.inside.asked; entering = is_entering c.noted.inside.chair })
          p c.name-hold.result.card.number brings refl n.place (n.got ∙ ap (λ (l : List ℕ). l ++ c.name-hold.result.card.number ∷ []) t.got)
          (going.goes_on _ _ _ t.goes n.goes)),
      ap (λ (z : NotedView). z.asked) c.noted.view_is,
    )
