-- The steps of readers and of the writer keep the rule of what is published.
use Rattle.std.proofs.Common.{◌≡◌, ℕ, ◌≢◌, List, set, refl, ap, subst, ◌∙◌, ⊎_elim, Option, None, Some}
use mathlib.Core.Option.{some}
use lib.ListN.{get_elem?}
use Rattle.left_right.specs.Register.{Admits, TurnsAt, Forks, Merges}
use Rattle.atomic_table.proofs.Lists.{at_set, at_snoc}
use Rattle.stat_board.specs.Fronts.{Front, IsLater}
use Rattle.stat_board.specs.Rule.{Keeps, Knows}
use Rattle.stat_board.proofs.Fronts.{later_self, later_trans}

-- a new seat knows nothing
pub admits : Admits {T = Front} Keeps None
admits x views h seat f at = ⊎_elim (h seat f) (λ (e : None ≡ Some f). absurd (cc e)) (at_snoc views None (Some f) seat at)

-- what is published becomes a later front, and the seat knows it
pub turns : (seat : ℕ) (v : Option Front) (x y : Front) → IsLater x y → TurnsAt Keeps seat v x y Knows
turns seat v x y up views h at = (
  Some y,
  (λ j f e. ⊎_elim (λ (t : (j ≡ seat) × (Some y ≡ Some f)). let same : y ≡ f = cc (t.1) in subst (λ (z : Front). IsLater z y) same (later_self y))
      (λ (t : (j ≢ seat) × (get_elem? views j ≡ some (Some f))). later_trans f x y (h j f t.1) up)
      (at_set views seat j (Some y) (Some f) e)),
  ((λ f is. later_trans f x y (h seat f (at ∙ ap some is)) up), refl),
)

-- a seat comes to know what another knows
set_known : (x : Front) (views : List (Option Front)) (seat : ℕ) (v : Option Front) → Keeps x views → ((f : Front) → v ≡ Some f → IsLater f x) → Keeps x (set views seat v)
set_known x views seat v h low j f e = ⊎_elim (λ (t : (j ≡ seat) × (v ≡ Some f)). low f t.1) (λ (t : (j ≢ seat) × (get_elem? views j ≡ some (Some f))). h j f t.1) (at_set views seat j v (Some f) e)

-- a seat that tells what it knows keeps it
pub forks : (seat : ℕ) (v : Option Front) → Forks {T = Front} Keeps seat v v v
forks seat v x views h at j f e = ⊎_elim (set_known x views seat v h (λ g is. h seat g (at ∙ ap some is)) j f) (λ (same : v ≡ Some f). h seat f (at ∙ ap some same)) (at_snoc (set views seat v) v (Some f) j e)

-- a seat that is told knows what the other knew, and the other is spent
pub merges : (seat : ℕ) (v : Option Front) (other : ℕ) (w : Option Front) → Merges {T = Front} Keeps seat v other w w None
merges seat v other w x views h at apart there =
    let known : get_elem? views other ≡ some w = ⊎_elim (λ (t : (other ≡ seat) × (w ≡ w)). absurd (apart t.0)) (λ (t : (other ≢ seat) × (get_elem? views other ≡ some w)). t.1) (at_set views seat other w w there) in
    set_known x (set views seat w) other None (set_known x views seat w h (λ f is. h other f (known ∙ ap some is))) (λ f (is : None ≡ Some f). absurd (cc is))
