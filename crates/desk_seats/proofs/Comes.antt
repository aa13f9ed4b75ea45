-- The calls of a party, from its pass to what it became.
use Rattle.std.proofs.Common.{◌≡◌, ◌↔◌, ℕ, ◌<◌, ◌≤◌, Bool, true, false, [], ◌∷◌, Some, refl, ap, sym, ◌∙◌, subst}
use Rattle.kex_core.specs.Shapes.{plan}
use Rattle.kex_words.specs.Passes.{IsOut, Pass}
use Rattle.kex_words.specs.Moves.{Moved}
use Rattle.seat_names.specs.declared.turns.Turn.{Turn}
use Rattle.seat_names.specs.declared.turns.Turn.TheVariants as seats
use Rattle.seat_names.specs.Turns as names
use Rattle.kex_gate.specs.declared.passes.GateTurn.{GateTurn}
use Rattle.kex_gate.specs.declared.passes.GateTurn.TheVariants as gate
use Rattle.kex_gate.specs.Passes.{Gate, GateHeld, Guest, IsPassFor, Way, guest_with_visit, seats_of}
use Rattle.kex_gate.specs.Turns.{Met, fast_in_turn, guest_in_turn, met_in_turn, turn_in}
use Rattle.desk_seats.specs.declared.turns.SeatTurn.{SeatTurn}
use Rattle.desk_seats.specs.Passes.{SeatHeld, SeatPass, gate_held, guest_pass, plain_pass, way_held, way_pass, way_through}
use Rattle.desk_seats.specs.Turns.{Begins, Goes, IsThrough, Leaves, gate_turn, pass_in_turn, plain_turn}
use Rattle.desk_seats.specs.Views.{plain_seats}
use Rattle.desk_seats.proofs.Lists.{seats_of-append}
use Rattle.desk_seats.proofs.Views.{no_gate}

-- the way of a turn at a gate
abbrev pub way_in : GateTurn → Way
way_in (gate.Again e) = e
way_in (gate.Through t) = way_through t

pub way_turned : (u : GateTurn) → pass_in_turn (gate_turn u) ≡ way_pass (way_in u)
way_turned (gate.Again e) = refl
way_turned (gate.Through t) = refl

through_at_gate : (u : GateTurn) → (IsThrough (gate_turn u) → names.IsThrough (turn_in u)) × (names.IsThrough (turn_in u) → IsThrough (gate_turn u))
through_at_gate (gate.Again e) = (λ h. h, λ h. h)
through_at_gate (gate.Through t) = (λ h. h, λ h. h)

in_turn : (u : GateTurn) → ((way_in u).guest ≡ guest_in_turn u) × ((way_in u).fast ≡ fast_in_turn u) × ((way_in u).met ≡ met_in_turn u) × ((way_in u).pass ≡ names.pass_in_turn (turn_in u))
in_turn (gate.Again e) = (refl, refl, refl, refl)
in_turn (gate.Through t) = (refl, refl, refl, refl)

begun_gated : (u : GateTurn) (g : Guest) → guest_in_turn u ≡ g → Met g (met_in_turn u) → (fast_in_turn u ≡ true → met_in_turn u < g.gate.seats.net.width) → (fast_in_turn u ≡ false → g.gate.seats.net.width ≤ met_in_turn u)
    → IsPassFor g (fast_in_turn u) (names.pass_in_turn (turn_in u)) → IsOut (names.pass_in_turn (turn_in u))
    → (names.IsThrough (turn_in u) ↔ ((plan g.gate.seats.net).start (names.pass_in_turn (turn_in u)).number ≡ (plan g.gate.seats.net).stages)) → Begins (guest_pass g) (gate_turn u)
begun_gated u g guest met few many pass rests at =
    let w = in_turn u in let th = through_at_gate u in
    let starts : (plan g.gate.seats.net).start (way_in u).pass.number ≡ (plan g.gate.seats.net).start (names.pass_in_turn (turn_in u)).number = ap (λ (z : Pass). (plan g.gate.seats.net).start z.number) w.3 in record {
      plain = λ none. no_gate (Some g.gate.id) g.gate.id none refl;
      gated = λ id some. (
        g,
        way_in u,
        refl,
        way_turned u,
        record {
          guest = w.0 ∙ guest;
          met = subst (Met g) (sym w.2) met;
          few = λ f. subst (λ (n : ℕ). n < g.gate.seats.net.width) (sym w.2) (few (sym w.1 ∙ f));
          many = λ f. subst (λ (n : ℕ). g.gate.seats.net.width ≤ n) (sym w.2) (many (sym w.1 ∙ f));
          pass = subst (λ (z : Bool × Pass). IsPassFor g z.0 z.1) (λ i. (sym w.1 i, sym w.3 i)) pass;
          rests = subst IsOut (sym w.3) rests;
        },
        (λ h. starts ∙ at.0 (th.0 h), λ e. th.1 (at.1 (sym starts ∙ e))),
      );
    }

-- a session that took its place at the gate x
pub begins_gated : (p : SeatPass) (r : SeatTurn) (u : GateTurn) (g : Guest) (x : Gate) → r ≡ gate_turn u → guest_pass g ≡ p → g.gate ≡ x → guest_in_turn u ≡ g → Met g (met_in_turn u)
    → (fast_in_turn u ≡ true → met_in_turn u < x.seats.net.width) → (fast_in_turn u ≡ false → x.seats.net.width ≤ met_in_turn u)
    → IsPassFor g (fast_in_turn u) (names.pass_in_turn (turn_in u)) → IsOut (names.pass_in_turn (turn_in u))
    → (names.IsThrough (turn_in u) ↔ ((plan x.seats.net).start (names.pass_in_turn (turn_in u)).number ≡ (plan x.seats.net).stages)) → Begins p r
begins_gated p r u g x is same own guest met few many pass rests at =
    let back : x ≡ g.gate = sym own in
    let begun = begun_gated u g guest met
    (subst (λ (z : Gate). fast_in_turn u ≡ true → met_in_turn u < z.seats.net.width) back few)
    (subst (λ (z : Gate). fast_in_turn u ≡ false → z.seats.net.width ≤ met_in_turn u) back many)
    pass rests
    (subst (λ (z : Gate). names.IsThrough (turn_in u) ↔ ((plan z.seats.net).start (names.pass_in_turn (turn_in u)).number ≡ (plan z.seats.net).stages)) back at) in
    subst (λ (z : SeatPass). Begins z r) same (subst (λ (z : SeatTurn). Begins (guest_pass g) z) (sym is) begun)

-- a session that left
module _ (h : SeatHeld) (k : GateHeld) (q : Guest) (same : gate_held k ≡ h) (left : q ≡ guest_with_visit k.guest k.held.card.number k.fast) where
  pub leaves_got : seats_of q.visits ≡ h.pass.got
  leaves_got = ap (λ (z : Guest). seats_of z.visits) left ∙ (seats_of-append k.guest.visits (record { seat = k.held.card.number; fast = k.fast } ∷ []) ∙ ap (λ (z : SeatHeld). z.pass.got) same)

  pub leaves_goes : Goes h.pass (guest_pass q)
  leaves_goes = subst (λ (z : SeatHeld). Goes z.pass (guest_pass q)) same (subst (λ (z : Guest). Goes (gate_held k).pass (guest_pass z)) (sym left) (record {
    table = refl;
    number = refl;
    accesses = λ none. no_gate (Some k.guest.gate.id) k.guest.gate.id none refl;
    visits = (record { seat = k.held.card.number; fast = k.fast } ∷ [], refl);
  }))

  pub leaves_so : Leaves h (guest_pass q)
  leaves_so = subst (λ (z : SeatHeld). Leaves z (guest_pass q)) same (record { gated = λ id some. (way_held k, refl, ap guest_pass left) })

-- one access with no gate
plain_goes : (e : Pass) (u : Turn) → (names.pass_in_turn u).table ≡ e.table → (names.pass_in_turn u).number ≡ e.number → Moved e (names.pass_in_turn u) → Goes (plain_pass e) (pass_in_turn (plain_turn u))
plain_goes e (seats.Again n) table number moved = record { table = (λ i. plain_seats (table i)); number = number; accesses = λ none. (n ∷ [], (moved, refl)); visits = ([], refl) }
plain_goes e (seats.Through h) table number moved = record { table = (λ i. plain_seats (table i)); number = number; accesses = λ none. (names.pass_in_through h ∷ [], (moved, refl)); visits = ([], refl) }

-- one turn with no gate
pub turn_goes : (p : SeatPass) (e : Pass) (t : Turn) → plain_pass e ≡ p → (names.pass_in_turn t).table ≡ e.table → (names.pass_in_turn t).number ≡ e.number → names.Turned e t → Goes p (pass_in_turn (plain_turn t))
turn_goes p e t same table number turned =
    let goes : (u : Turn) → (names.pass_in_turn u).table ≡ e.table → (names.pass_in_turn u).number ≡ e.number → Moved e (names.pass_in_turn u) → Goes (plain_pass e) (pass_in_turn (plain_turn u)) = plain_goes e in
    subst (λ (z : SeatPass). Goes z (pass_in_turn (plain_turn t))) same (goes t table number turned.moved)
