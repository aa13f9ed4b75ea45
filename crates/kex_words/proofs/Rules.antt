-- Each access is one move of the machine, and what is read off is safe.
use Rattle.std.proofs.Common.{◌≡◌, ◌≢◌, ℕ, ◌<◌, eqb, get_or, refl, sym, ap, ◌∙◌, ⊎_elim, arith, []}
use mathlib.Core.Option.{some}
use lib.ListN.{get_elem?}
use Rattle.kex_core.specs.declared.place.Place.{Place}
use Rattle.kex_core.specs.declared.place.Place.TheVariants.{Out, Dec, Mark, Look, Spin, Naming, Named, Holding, Clearing, Inc, Unmark}
use Rattle.kex_core.specs.Nets.{Plan}
use Rattle.kex_core.specs.Worlds.{due, value_found, machine_after_access, move}
use Rattle.kex_core.specs.Sets.{held_at}
use Rattle.kex_core.specs.Laws.{Safe}
use Rattle.kex_core.specs.Shapes.{Sheet, plan}
use Rattle.kex_core.proofs.Sums.{chosen}
use Rattle.kex_core.proofs.Steps.{split}
use Rattle.kex_core.proofs.Runs.{safe_of}
use Rattle.kex_core.proofs.Exports.{move_is}
use Rattle.pass_roles.specs.declared.role.Role.TheVariants.{Party}
use Rattle.kex_words.specs.declared.view.View.{View}
use Rattle.pass_roles.specs.Roles.{number_of}
use Rattle.kex_words.specs.Rule.{IsReadOff}
use Rattle.kex_words.specs.Passes.{Pass, due_at, next_pass}
use Rattle.kex_words.specs.Steps.{TableState, holding_seat}
use Rattle.kex_words.specs.Laws.{word_at, told_by, uses_after, state_after, IsDue, Holds}
use Rattle.kex_words.specs.Moves.{Moved, left_by}
use Rattle.pass_roles.proofs.Members.{set_at}
use Rattle.kex_words.proofs.Places.{never_out}
use Rattle.kex_words.proofs.Keeps.{knows, own_owner, mine, there}
use Rattle.kex_words.proofs.StageWords.{low, dec_read, inc_read, look_read, spin_read, mark_read, unmark_read}
use Rattle.kex_words.proofs.BitWords.{test_read, clear_read}
use Rattle.kex_words.proofs.CardWords.{card_out_law, card_in_read}

-- from Out no card's access is due
pub itself : (net : Plan) (p : ℕ) (q d : Place) → due net p q ≡ d → (due net p Out ≢ d) → q ≡ d
itself net p q d e n = ⊎_elim (λ (o : q ≡ Out). absurd (n (ap (due net p) (sym o) ∙ e))) (λ (f : due net p q ≡ q). sym f ∙ e) (split net p q)

not_named : (net : Plan) (p s : ℕ) → due net p Out ≢ Named s
not_named net p s = chosen (λ (q : Place). q ≢ Named s) (eqb (net.start p) net.stages) (Naming 0) (Dec (net.start p)) (λ _ y. cc) (λ _ y. cc)

not_holding : (net : Plan) (p s : ℕ) → due net p Out ≢ Holding s
not_holding net p s = chosen (λ (q : Place). q ≢ Holding s) (eqb (net.start p) net.stages) (Naming 0) (Dec (net.start p)) (λ _ y. cc) (λ _ y. cc)

module _ (s : TableState) (id : ℕ) (v : View) (r : IsReadOff v.net s) where
  abbrev net : Plan
  net = plan v.net

  abbrev p : ℕ
  p = number_of v.role

  abbrev Read : Place → Type 0
  Read d = (next : IsReadOff v.net (state_after s id v d)) × (next.world ≡ machine_after_access net r.world p d)

  read_as : (d : Place) → get_elem? s.views id ≡ some v → v.role ≡ Party p → due net p v.place ≡ d → Read d
  read_as Out at is e = absurd (never_out net p v.place e)
  read_as (Dec j) at is e = dec_read (v, []) is s id j r at e
  read_as (Mark j) at is e = mark_read (v, []) is s id j r at e
  read_as (Look j) at is e = look_read (v, []) is s id j r at e
  read_as (Spin j) at is e = spin_read (v, []) is s id j r at e
  read_as (Naming i) at is e = test_read (v, []) is s id i r at e
  read_as (Named k) at is e = card_out_law (v, []) is k (itself net p v.place (Named k) e (not_named net p k)) s id r at
  read_as (Holding k) at is e = card_in_read v is k (itself net p v.place (Holding k) e (not_holding net p k)) s id r at (record { number = k; uses = v.uses }) refl refl
  read_as (Clearing k) at is e = clear_read (v, []) is s id k r at e
  read_as (Inc j) at is e = inc_read (v, []) is s id j r at e
  read_as (Unmark j) at is e = unmark_read (v, []) is s id j r at e

  pub moves : (d : Place) → IsDue s id v d → (next : IsReadOff v.net (state_after s id v d)) × (next.world ≡ move net r.world p)
  moves d i = let t = read_as d i.sits i.party i.due_is in
      (t.0, t.1 ∙ sym (move_is net r.is_net.valid r.world r.kept p (mine s id v r i.sits i.party d i.due_is) d (there s id v r i.sits i.party d i.due_is)))

  -- what the access tells is what the world has there
  told_is : (d : Place) → get_elem? s.views id ≡ some v → v.role ≡ Party p → due net p v.place ≡ d → told_by p d (get_or s.words (word_at v.net d) 0) ≡ value_found r.world p d
  told_is Out at is e = absurd (never_out net p v.place e)
  told_is (Dec j) at is e = r.x_is j (low (v, []) is s id r at (Dec j) e).0
  told_is (Mark j) at is e = refl
  told_is (Look j) at is e = r.x_is j (low (v, []) is s id r at (Look j) e).0
  told_is (Spin j) at is e = r.q_is j (low (v, []) is s id r at (Spin j) e).0
  told_is (Naming i) at is e = r.bit_is i (low (v, []) is s id r at (Naming i) e).0
  told_is (Named k) at is e = r.card_is k (low (v, []) is s id r at (Named k) e).0
  told_is (Holding k) at is e = r.card_is k (low (v, []) is s id r at (Holding k) e).0
  told_is (Clearing k) at is e = refl
  told_is (Inc j) at is e = r.x_is j (low (v, []) is s id r at (Inc j) e).0
  told_is (Unmark j) at is e = refl

-- the state that a step call left
pub calls : (p q : Pass) (m : Moved p q) → (next : IsReadOff p.table.net (left_by p q m)) × (next.world ≡ move (plan p.table.net) m.ruled.world p.number)
    × (get_elem? (left_by p q m).views m.seat ≡ some (holding_seat q (uses_after (due_at p) m.state.views)))
calls p q m =
    let v : View = holding_seat p m.uses in let d : Place = due_at p in let u : ℕ = uses_after d m.state.views in
    let t = moves m.state m.seat v m.ruled d (record { sits = m.sits; party = refl; due_is = refl }) in (
      t.0,
      t.1,
      set_at m.state.views m.seat v (holding_seat (next_pass p (told_by p.number d (get_or m.state.words (word_at p.table.net d) 0))) u) m.sits
          ∙ ap (λ (x : Pass). some (holding_seat x u)) (ap (next_pass p) (told_is m.state m.seat v m.ruled d m.sits refl refl) ∙ sym m.now),
    )

module _ (net : Sheet) (s : TableState) (r : IsReadOff net s) where
  pub is_safe : Safe (plan net) r.world
  is_safe = safe_of (plan net) r.is_net.valid r.world r.kept

  -- a seat that holds is its party's, who is at Holding
  seat_of : (id : ℕ) (v : View) (k : ℕ) → Holds s id v k → (r.world.place (number_of v.role) ≡ Holding k) × (number_of v.role < net.parties) × (r.owner (number_of v.role) ≡ id)
  seat_of id v k h = let f = knows net s r id (number_of v.role) v h.sits h.party in
      let o = own_owner net r.world r.made r.maker_seat r.owner s.views id (number_of v.role) v f in let l = o.0 in let few = r.few in (f.place_is ∙ h.place_is, omega arith, o.1)

  pub low_card : (id : ℕ) (v : View) (k : ℕ) → Holds s id v k → k < net.width
  low_card id v k h = let t = seat_of id v k h in (is_safe.assigned).low (number_of v.role) k t.1 (ap held_at t.0)

  pub apart_cards : (i j : ℕ) (v w : View) (k : ℕ) → Holds s i v k → Holds s j w k → i ≡ j
  apart_cards i j v w k h g = let t = seat_of i v k h in let u = seat_of j w k g in
      sym t.2 ∙ (ap r.owner (is_safe.assigned.apart (number_of v.role) (number_of w.role) k t.1 u.1 (ap held_at t.0) (ap held_at u.0)) ∙ u.2)
