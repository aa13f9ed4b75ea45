-- Which turns leave a party among the stages.
use Rattle.std.proofs.Common.{◌≡◌, ◌≢◌, ◌⊎◌, ℕ, ◌+◌, ◌≤◌, cond, eqb, refl, sym, ap, ◌∙◌, subst, ⊎_elim, inl, inr}
use Rattle.std.proofs.lemmas.Bool.{eqb-true, eq-eqb}
use Rattle.kex_core.specs.declared.place.Place.{Place}
use Rattle.kex_core.specs.declared.place.Place.TheVariants.{Out, Dec, Mark, Look, Spin, Naming, Named, Holding, Clearing, Inc, Unmark}
use Rattle.kex_core.specs.Nets.{Plan}
use Rattle.kex_core.specs.Worlds.{place_past, value_found, after}
use Rattle.kex_core.specs.Shapes.{plan}
use Rattle.kex_core.specs.Costs.{bound}
use Rattle.kex_core.proofs.Sums.{chosen, ne_test, ne_from}
use Rattle.kex_words.specs.Passes.{Pass, due_at, kind_of, entering}
use Rattle.kex_words.specs.Moves.{Moved}
use Rattle.seat_names.specs.declared.turns.Turn.{Turn}
use Rattle.seat_names.specs.declared.turns.Turn.TheVariants as turn
use Rattle.seat_names.specs.declared.turns.Through.TheVariants as through
use Rattle.seat_names.specs.Turns.{pass_in_turn, kind_in_turn, IsAgain, Stays, Turned}

-- whoever has passed stage j is among the stages, unless Exit is next
passed_in : (net : Plan) (j : ℕ) → kind_of (place_past net j) ≡ entering → net.next j ≢ net.stages
passed_in net j k e =
    let f : place_past net j ≡ cond (eqb net.width 1) (Named 0) (Naming 0) = rw (eq-eqb (net.next j) net.stages e) refl in
    chosen (λ (q : Place). kind_of q ≡ entering → ⊥) (eqb net.width 1) (Named 0) (Naming 0) (λ _ h. cc) (λ _ h. cc) (sym (ap kind_of f) ∙ k)

passed_on : (net : Plan) (j : ℕ) → net.next j ≢ net.stages → kind_of (place_past net j) ≡ entering
passed_on net j d = rw (ne_test (net.next j) net.stages d) refl

-- at a test, and else passed
module _ (net : Plan) (j n m : ℕ) (stop : Place) (among : kind_of stop ≡ entering) where
  met_in : kind_of (cond (eqb n m) stop (place_past net j)) ≡ entering → (n ≡ m) ⊎ (net.next j ≢ net.stages)
  met_in = chosen (λ (q : Place). kind_of q ≡ entering → (n ≡ m) ⊎ (net.next j ≢ net.stages)) (eqb n m) stop (place_past net j) (λ e _. inl (eqb-true n m e)) (λ _ k. inr (passed_in net j k))

  met_on : (n ≡ m) ⊎ (net.next j ≢ net.stages) → kind_of (cond (eqb n m) stop (place_past net j)) ≡ entering
  met_on w = chosen (λ (q : Place). kind_of q ≡ entering) (eqb n m) stop (place_past net j) (λ _. among) (λ d. ⊎_elim (λ (e : n ≡ m). absurd (ne_from n m d e)) (passed_on net j) w)

stays_in : (net : Plan) (p : ℕ) (d : Place) (n : ℕ) → kind_of d ≡ entering → kind_of (after net p d n) ≡ entering → Stays net p d n
stays_in net p (Dec j) n h k = met_in net j n 1 (Mark j) refl k
stays_in net p (Mark j) n h k = tt
stays_in net p (Look j) n h k = met_in net j n 0 (Spin j) refl k
stays_in net p (Spin j) n h k = met_in net j n (p + 1) (Spin j) refl k
stays_in net p Out n h k = cc
stays_in net p (Naming i) n h k = cc
stays_in net p (Named s) n h k = cc
stays_in net p (Holding s) n h k = cc
stays_in net p (Clearing s) n h k = cc
stays_in net p (Inc j) n h k = cc
stays_in net p (Unmark j) n h k = cc

stays_on : (net : Plan) (p : ℕ) (d : Place) (n : ℕ) → Stays net p d n → kind_of (after net p d n) ≡ entering
stays_on net p (Dec j) n w = met_on net j n 1 (Mark j) refl w
stays_on net p (Mark j) n w = refl
stays_on net p (Look j) n w = met_on net j n 0 (Spin j) refl w
stays_on net p (Spin j) n w = met_on net j n (p + 1) (Spin j) refl w
stays_on net p Out n w = absurd w
stays_on net p (Naming i) n w = absurd w
stays_on net p (Named s) n w = absurd w
stays_on net p (Holding s) n w = absurd w
stays_on net p (Clearing s) n w = absurd w
stays_on net p (Inc j) n w = absurd w
stays_on net p (Unmark j) n w = absurd w

again_in : (t : Turn) → IsAgain t → kind_in_turn t ≡ entering
again_in (turn.Again e) h = refl
again_in (turn.Through t) h = absurd h

again_on : (t : Turn) → kind_in_turn t ≡ entering → IsAgain t
again_on (turn.Again e) h = tt
again_on (turn.Through (through.Naming n)) h = cc
again_on (turn.Through (through.Named n)) h = cc

pub moved_along : (p q r : Pass) → Moved p q → r ≡ q → Moved p r
moved_along p q r m e = record { state = m.state; ruled = m.ruled; seat = m.seat; uses = m.uses; sits = m.sits; inside = m.inside; stood = m.stood; now = e ∙ m.now; bounded = subst (λ (z : Pass). z.firsts ≤ bound (plan z.table.net) z.number z.place) (sym e) m.bounded }

pub turned_by : (p q : Pass) (t : Turn) → kind_of (due_at p) ≡ entering → Moved p q → pass_in_turn t ≡ q → kind_in_turn t ≡ kind_of q.place → Turned p t
unfolding moved_along
turned_by p q t d m same k =
    let n = value_found m.ruled.world p.number (due_at p) in
    let a : kind_of q.place ≡ kind_of (after (plan p.table.net) p.number (due_at p) n) = ap (λ (z : Pass). kind_of z.place) m.now in
    record {
      moved = moved_along p q (pass_in_turn t) m same;
      again = (λ h. stays_in (plan p.table.net) p.number (due_at p) n d (sym a ∙ (sym k ∙ again_in t h)), λ w. again_on t (k ∙ (a ∙ stays_on (plan p.table.net) p.number (due_at p) n w)));
    }
