-- What an office and its passes are to whoever has them.
use Rattle.std.specs.Prelude.{◌≡◌, ℕ, ◌+◌, ◌*◌, ◌<◌, Bool, true, false, ◌&&◌, nat_le, nat_lt, is_some, List, [], get_or, length, map, min, Vec}
use Rattle.lic_types.specs.declared.limits.TheConstants.{PARTY_LIMIT}
use Rattle.counter.specs.Account.{Account}
use Rattle.desk_seats.specs.Views.{parties_of}
use Rattle.feature_desk.specs.Closings.{Rests}
use Rattle.feature_desk.specs.Sitters.{DeskView, IsOf, Sitter, account_of, newcomer}
use Rattle.feature_lines.specs.declared.pool.Pool.{Pool}
use Rattle.kex_net.specs.Gates.{IsGated}
use Rattle.kex_net.specs.Trees.{IsTree}
use Rattle.office_view.specs.View.{View}
use Rattle.options_text.specs.Options.{OptionsFile}
use Rattle.policy.specs.Pools.{rules_of}

-- an office: its pools with their desks, and the number of its parties
pub record OfficeSeen : Type 0 where
  pub view : View DeskView
  pub parties : ℕ

-- whether a fast gate stands before the seats of so many licences: there are more than twice as many parties as seats, and the two numbers together are at most 256
abbrev pub has_gate : ℕ → ℕ → Bool
has_gate parties count = nat_lt (2 * min count parties) parties && nat_le (parties + min count parties) PARTY_LIMIT

-- a desk of a pool for n parties: it has the rules that each options file gives the pool, in order, and as many seats as the pool has licences, but not more than there are parties
pub record IsDeskFor (sets : List OptionsFile) (n : ℕ) (pool : Pool) (d : DeskView) : Type 0 where
  pub rules : d.lock.law.sets ≡ map (rules_of pool) sets
  pub parties : d.lock.id.parties ≡ n
  pub seated : parties_of d.seats ≡ n
  pub gate_is : is_some d.seats.gate ≡ has_gate n pool.count
  pub seats_are : d.seats.net.width ≡ min pool.count n
  -- they stand on the net of a gate where there is one, and else on the tree
  pub gated_net : has_gate n pool.count ≡ true → IsGated n pool.count d.seats.net
  pub tree_net : has_gate n pool.count ≡ false → IsTree n pool.count d.seats.net

-- each party has its pass of each desk, in the order of the desks, and has asked nothing
abbrev pub AreDealt : {Z : Type 0} → List DeskView → List (Vec Sitter Z) → Type 0
AreDealt {Z} desks parties = (p : ℕ) (v : Vec Sitter Z) → p < length parties → (get_or parties p v).items ≡ map (λ (d : DeskView). newcomer d p) desks

-- a party's passes, one of each desk, in order; it holds no seat
pub record AreAt (desks : List DeskView) (passes : List Sitter) : Type 0 where
  pub long : length passes ≡ length desks
  pub each : (j : ℕ) (s : Sitter) (d : DeskView) → j < length desks → IsOf (get_or passes j s) (get_or desks j d) × Rests (get_or passes j s)

-- the account of a party that has no pass
abbrev pub nobody : Account
nobody = record { sets = []; party = 0; mine = []; seen = []; got = []; board = 0; board_seen = [] }

-- the accounts of the parties at desk j, in order
abbrev pub accounts_at : {Z : Type 0} → ℕ → List (Vec Sitter Z) → List Account
accounts_at {Z} j parties = map (λ (p : Vec Sitter Z). get_or (map account_of p.items) j nobody) parties
