-- What is due for a pass that enters.
use Rattle.std.proofs.Common.{◌≡◌, ◌≢◌, ◌↔◌, ℕ, ◌+◌, ◌*◌, ◌≤◌, Bool, true, false, cond, eqb, get_or, refl, sym, ap, ◌∙◌}
use Rattle.std.proofs.lemmas.Bool.{eqb-true}
use Rattle.kex_core.specs.declared.place.Place.{Place}
use Rattle.kex_core.specs.declared.place.Place.TheVariants.{Out, Dec, Mark, Look, Spin, Naming, Named, Holding, Clearing, Inc, Unmark}
use Rattle.kex_core.specs.Nets.{Plan}
use Rattle.kex_core.specs.Worlds.{due, place_past, value_found, after}
use Rattle.kex_core.specs.Sets.{is_between, others}
use Rattle.kex_core.specs.Shapes.{plan}
use Rattle.kex_core.proofs.Exports.{due_placed}
use Rattle.kex_core.proofs.Sums.{chosen, ne_from}
use Rattle.kex_words.specs.Passes.{Pass, due_at, kind_of, entering, naming, EntersAt}
use Rattle.kex_words.specs.Moves.{Moved}
use Rattle.kex_words.proofs.Rules.{itself}

other_kind : (p : Pass) (d : Place) → due_at p ≡ d → kind_of (due_at p) ≡ entering → kind_of d ≢ entering → ⊥
other_kind p d e k n = n (ap kind_of (sym e) ∙ k)

from_start : (b : Bool) (j : ℕ) (d : Place) → d ≡ cond b (Naming 0) (Dec j) → kind_of d ≡ entering → (i : ℕ) × (d ≡ Dec i)
from_start true j d e k = let z : naming ≡ entering = ap kind_of (sym e) ∙ k in absurd (cc)
from_start false j d e k = (j, e)

pub enters_at : (p : Pass) (place : Place) → p.place ≡ place → kind_of (due_at p) ≡ entering → EntersAt p place
enters_at p Out is k = let net = plan p.table.net in from_start (eqb (net.start p.number) net.stages) (net.start p.number) (due_at p) (ap (due net p.number) is) k
enters_at p (Dec i) is k = (i, ap (due (plan p.table.net) p.number) is)
enters_at p (Mark j) is k = ap (due (plan p.table.net) p.number) is
enters_at p (Look j) is k = ap (due (plan p.table.net) p.number) is
enters_at p (Spin j) is k = ap (due (plan p.table.net) p.number) is
enters_at p (Naming i) is k = other_kind p (Naming i) (ap (due (plan p.table.net) p.number) is) k (λ e. cc)
enters_at p (Named s) is k = other_kind p (Named s) (ap (due (plan p.table.net) p.number) is) k (λ e. cc)
enters_at p (Holding s) is k = other_kind p (Holding s) (ap (due (plan p.table.net) p.number) is) k (λ e. cc)
enters_at p (Clearing s) is k = other_kind p (Clearing s) (ap (due (plan p.table.net) p.number) is) k (λ e. cc)
enters_at p (Inc j) is k = other_kind p (Inc j) (ap (due (plan p.table.net) p.number) is) k (λ e. cc)
enters_at p (Unmark j) is k = other_kind p (Unmark j) (ap (due (plan p.table.net) p.number) is) k (λ e. cc)

passed_on : (net : Plan) (j k : ℕ) → place_past net j ≢ Spin k
passed_on net j k = chosen (λ (q : Place). q ≢ Spin k) (eqb (net.next j) net.stages) (cond (eqb net.width 1) (Named 0) (Naming 0)) (Dec (net.next j))
    (λ _. chosen (λ (q : Place). q ≢ Spin k) (eqb net.width 1) (Named 0) (Naming 0) (λ _ z. cc) (λ _ z. cc)) (λ _ z. cc)

spin_due : (net : Plan) (p j : ℕ) → due net p Out ≢ Spin j
spin_due net p j = chosen (λ (q : Place). q ≢ Spin j) (eqb (net.start p) net.stages) (Naming 0) (Dec (net.start p)) (λ _ y. cc) (λ _ y. cc)

module _ (p q : Pass) (j : ℕ) (m : Moved p q) (e : due_at p ≡ Spin j) where
  abbrev net : Plan
  net = plan p.table.net

  -- the spin word is that of the table
  word_is : get_or m.state.words (2 * j + 2) 0 ≡ m.ruled.world.q j
  word_is = m.ruled.q_is j (due_placed net m.ruled.is_net.valid m.ruled.world m.ruled.kept p.number m.inside (Spin j) (ap (due net p.number) m.stood ∙ e)).0

  spins_by : (q.place ≡ Spin j) ↔ (m.ruled.world.q j ≡ p.number + 1)
  spins_by =
      let at : q.place ≡ cond (eqb (m.ruled.world.q j) (p.number + 1)) (Spin j) (place_past net j) = ap (λ (x : Pass). x.place) m.now ∙ ap (λ (d : Place). after net p.number d (value_found m.ruled.world p.number d)) e in (
        (λ (stays : q.place ≡ Spin j). chosen (λ (x : Place). x ≡ Spin j → m.ruled.world.q j ≡ p.number + 1) (eqb (m.ruled.world.q j) (p.number + 1)) (Spin j) (place_past net j)
            (λ own _. eqb-true (m.ruled.world.q j) (p.number + 1) own) (λ _ on. absurd (passed_on net j j on)) (sym at ∙ stays)),
        (λ (own : m.ruled.world.q j ≡ p.number + 1). at ∙ chosen (λ (x : Place). x ≡ Spin j) (eqb (m.ruled.world.q j) (p.number + 1)) (Spin j) (place_past net j)
            (λ _. refl) (λ other. absurd (ne_from (m.ruled.world.q j) (p.number + 1) other own))),
      )

  -- one spins on exactly where the spin word has one's own number
  pub spins_on : (q.place ≡ Spin j) ↔ (get_or m.state.words (2 * j + 2) 0 ≡ p.number + 1)
  spins_on = (λ stays. word_is ∙ spins_by.0 stays, λ own. spins_by.1 (sym word_is ∙ own))

  -- and then the others are between
  pub spins_while : q.place ≡ Spin j → net.cap j ≤ others is_between net m.ruled.world p.number j
  spins_while stays = m.ruled.kept.waits p.number j m.inside (m.stood ∙ itself net p.number p.place (Spin j) e (spin_due net p.number j)) (spins_by.0 stays)
