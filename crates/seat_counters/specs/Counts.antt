use Rattle.std.specs.Prelude.{◌≡◌, ℕ, ◌+◌, ◌-◌, ◌<◌, ◌≤◌, ◌^◌, Bool, ◌&&◌, nat_le, nat_lt, if◌then◌else◌, All, List, [], ◌∷◌, Option, None, Some, length, map}
use Rattle.lic_types.specs.declared.client.Client.{Client}
use Rattle.options_machine.specs.declared.limits.Limit.{Limit}
use Rattle.options_machine.specs.declared.reply.Charge.{Charge}
use Rattle.options_machine.specs.declared.reply.Charge.TheVariants.{Reserve, Open}
use Rattle.options_machine.specs.Rules.{Rules, applies}
use Rattle.options_machine.specs.State.{State, charges, same_charge}
use Rattle.options_machine.specs.Decide.{match_count}

-- how many seats, held or lingering, are charged to Open, how many to each RESERVE line, and how many are of clients of whom each MAX line speaks
pub record Counts : Type 0 where
  pub taken : ℕ
  pub reserves : List ℕ
  pub maxes : List ℕ

-- what they are in a state, by these rules
abbrev pub counts_of : Rules → State → Counts
counts_of r s =
    record {
      taken = charges s Open;
      reserves = map (λ (m : Limit). charges s (Reserve m.line.line)) r.reserves;
      maxes = map (λ (m : Limit). match_count r s m.line) r.maxes;
    }

-- what they are where there is no seat
abbrev pub no_counts : Rules → Counts
no_counts r = record { taken = 0; reserves = map (λ (m : Limit). 0) r.reserves; maxes = map (λ (m : Limit). 0) r.maxes }

-- what is seen of counters: what they count, and for how many RESERVE and MAX lines there is room
pub record CounterList : Type 0 where
  pub counts : Counts
  pub reserve_room : ℕ
  pub max_room : ℕ

-- there is room for the lines of these rules
pub record HasRoomFor (r : Rules) (c : CounterList) : Type 0 where
  pub reserves : length r.reserves ≤ c.reserve_room
  pub maxes : length r.maxes ≤ c.max_room

-- there is a count for each line of these rules
pub record AreOf (r : Rules) (c : Counts) : Type 0 where
  pub reserves : length c.reserves ≡ length r.reserves
  pub maxes : length c.maxes ≡ length r.maxes

-- each count may go up by one
pub record AreSmall (c : Counts) : Type 0 where
  pub taken : c.taken + 1 < 2 ^ 32
  pub reserves : All (λ n. n + 1 < 2 ^ 32) c.reserves
  pub maxes : All (λ n. n + 1 < 2 ^ 32) c.maxes

-- one more at each line that passes
abbrev pub with_more : (Limit → Bool) → List Limit → List ℕ → List ℕ
with_more p [] ns = []
with_more p (m ∷ ms) [] = []
with_more p (m ∷ ms) (n ∷ ns) = (n + (if p m then 1 else 0)) ∷ with_more p ms ns

-- one less at each line that passes
abbrev pub with_less : (Limit → Bool) → List Limit → List ℕ → List ℕ
with_less p [] ns = []
with_less p (m ∷ ms) [] = []
with_less p (m ∷ ms) (n ∷ ns) = (n - (if p m then 1 else 0)) ∷ with_less p ms ns

-- the charge is to this RESERVE line
abbrev pub is_charged : Charge → Limit → Bool
is_charged charge m = same_charge charge (Reserve m.line.line)

-- this MAX line speaks of the client
abbrev pub speaks_of : Rules → Client → Limit → Bool
speaks_of r client m = applies r.groups client m.line

-- the counts with a seat more
abbrev pub counts_with : Rules → Client → Charge → Counts → Counts
counts_with r client charge c =
    record {
      taken = c.taken + (if same_charge charge Open then 1 else 0);
      reserves = with_more (is_charged charge) r.reserves c.reserves;
      maxes = with_more (speaks_of r client) r.maxes c.maxes;
    }

-- the counts with a seat less
abbrev pub counts_without : Rules → Client → Charge → Counts → Counts
counts_without r client charge c =
    record {
      taken = c.taken - (if same_charge charge Open then 1 else 0);
      reserves = with_less (is_charged charge) r.reserves c.reserves;
      maxes = with_less (speaks_of r client) r.maxes c.maxes;
    }

-- the number of the first line that passes with its count
abbrev pub first_line : (Limit → ℕ → Bool) → List Limit → List ℕ → Option ℕ
first_line p [] ns = None
first_line p (m ∷ ms) [] = None
first_line p (m ∷ ms) (n ∷ ns) = if p m n then Some m.line.line else first_line p ms ns

-- a MAX line speaks of the client, and its count has come to its number
abbrev pub is_used_up : Rules → Client → Limit → ℕ → Bool
is_used_up r client m n = applies r.groups client m.line && nat_le m.number n

-- a RESERVE line speaks of the client, and its count is below its cut number
abbrev pub has_seat : Rules → Client → Limit → ℕ → Bool
has_seat r client m n = applies r.groups client m.line && nat_lt n m.number
