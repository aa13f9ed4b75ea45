-- One step of a session at the gate as a change of the table's state, whatever the others do.
use Rattle.std.specs.Prelude.{◌≡◌, ℕ, ◌+◌, ◌-◌, ◌%◌, ◌^◌, List, [], ◌∷◌, ◌++◌, slice_index, slice_set, Option, Some, None, true, false}
use mathlib.Core.Option.{none, some}
use mathlib.Core.Option as maybe
use lib.ListN.{get_elem?}
use Rattle.kex_words.specs.Passes.{Pass}
use Rattle.pass_roles.specs.declared.role.Role.TheVariants.{Party}
use Rattle.kex_gate.specs.declared.view.Spot.{Spot}
use Rattle.kex_gate.specs.declared.view.Spot.TheVariants.{Free, Testing, Taking, Fast, Clearing, Giving, Slow}
use Rattle.kex_gate.specs.declared.view.View.{View}
use Rattle.kex_gate.specs.Passes.{sessions, resting, room_word, bit_word}
use Rattle.pass_roles.specs.Roles.{total, number_of}
use Rattle.kex_gate.specs.Rule.{GateState, Homes, busy_in}
use Rattle.kex_gate.specs.Steps.{view_at, entered_view, spot_tested, spot_home}

-- what the pass of a slot has taken
abbrev pub got_home : maybe.Option (maybe.Option (Option Pass)) → List ℕ
got_home none = []
got_home (some none) = []
got_home (some (some None)) = []
got_home (some (some (Some p))) = p.got

-- the word i becomes f of what it was, and the seat's view is w
abbrev pub with_word_and_view : GateState → ℕ → ℕ → (ℕ → ℕ) → Homes → View → GateState
with_word_and_view s id i f hs w = record { words = slice_set s.words i (f (slice_index s.words i)); homes = hs; views = slice_set s.views id w }

-- the step that is due at this spot of the seat `id`, whose view is v: x is the seat that it had, where it leaves one
abbrev pub stepped_at : GateState → ℕ → View → ℕ → Spot → GateState
stepped_at s id v x Free = with_word_and_view s id room_word (λ n. (n + (2 ^ 64 - 1)) % 2 ^ 64) s.homes (entered_view v (slice_index s.words room_word) (total busy_in s.views))
stepped_at s id v x (Testing i) = with_word_and_view s id (bit_word i) (λ n. 1) s.homes (view_at v (spot_tested v.seats.net.width (slice_index s.words (bit_word i)) (Testing i)))
stepped_at s id v x (Taking i) = with_word_and_view s id 0 (λ n. n) (slice_set s.homes i none) (record v { spot = Fast i; kept = got_home (get_elem? s.homes i) })
stepped_at s id v x (Fast i) = with_word_and_view s id 0 (λ n. n) (slice_set s.homes i (some (Some (resting v.seats (sessions v.seats.net + i) (v.kept ++ x ∷ [])))))
    (record v { spot = spot_home v.seats.net.width i; visits = v.visits ++ (record { seat = x; fast = true }) ∷ []; kept = [] })
stepped_at s id v x (Clearing i) = with_word_and_view s id (bit_word i) (λ n. 0) s.homes (view_at v Giving)
stepped_at s id v x Giving = with_word_and_view s id room_word (λ n. (n + 1) % 2 ^ 64) s.homes (view_at v Free)
stepped_at s id v x Slow = with_word_and_view s id room_word (λ n. (n + 1) % 2 ^ 64) s.homes (record v { spot = Free; visits = v.visits ++ (record { seat = x; fast = false }) ∷ [] })

-- the seat `id` is a session's, with this view
pub record IsSeated (s : GateState) (id : ℕ) (v : View) : Type 0 where
  pub sits : get_elem? s.views id ≡ some v
  pub party : v.role ≡ Party (number_of v.role)
