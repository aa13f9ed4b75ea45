use Rattle.std.specs.Prelude.{◌≡◌, ℕ, ◌+◌, ◌≤◌, ◌<◌, Bool, count_by, true, false, ◌&&◌, nat_le, nat_lt, List, [], ◌∷◌, length}
use Rattle.std.specs.List.{list_all, list_any}
use Rattle.std.specs.Option.{is_none}
use Rattle.lic_types.specs.declared.client.Client.{Client}
use Rattle.lic_types.specs.declared.limits.TheConstants.{MOMENT_END}
use Rattle.options_machine.specs.declared.decision.Decision.TheVariants.{Grant}
use Rattle.options_machine.specs.declared.limits.Limit.{Limit}
use Rattle.options_machine.specs.declared.reply.Charge.{Charge}
use Rattle.options_machine.specs.declared.reply.Charge.TheVariants.{Reserve, Open}
use Rattle.options_machine.specs.declared.reply.Entry.{Entry}
use Rattle.options_machine.specs.declared.reply.Request.{Request}
use Rattle.options_machine.specs.declared.rows.Holder.{Holder}
use Rattle.options_machine.specs.declared.rows.Lingerer.{Lingerer}
use Rattle.options_machine.specs.declared.rows.Queuer.{Queuer}
use Rattle.options_machine.specs.Rules.{IsSound, Rules, applies}
use Rattle.options_machine.specs.State.{State, charges, entries, in_force, in_use, set_at}
use Rattle.options_machine.specs.Decide.{decide, is_seat}
use Rattle.options_machine.specs.Settle.{later_moment, settle}
use Rattle.options_machine.specs.Step.{set_asked, step}
use Rattle.options_machine.specs.Run.{IsRun, after}

-- the rule sets of a pool of this count: one to four
pub record AreSets (sets : List Rules) (count : ℕ) : Type 0 where
  pub some : 0 < length sets
  pub few : length sets ≤ 4
  pub sound : (n : ℕ) → n < length sets → IsSound (set_at sets n)
  pub same : (n : ℕ) → n < length sets → (set_at sets n).count ≡ count

-- what holds in every state of a run: seats in use are at most the count, each RESERVE line of the set that holds has at most its cut number of charges, and each party has at most one entry in holders and queue together
pub record IsLawful (sets : List Rules) (count : ℕ) (s : State) : Type 0 where
  pub set : s.set < length sets
  pub within : in_use s ≤ count
  pub reserved : list_all (λ (m : Limit). nat_le (charges s (Reserve m.line.line)) m.number) (in_force sets s).reserves ≡ true
  pub single : (party : ℕ) → entries s party ≤ 1

-- nobody waits who could have a seat
abbrev pub IsServed : Rules → State → Type 0
IsServed r s = list_any (λ (q : Queuer). is_seat (decide r s q.client)) s.queue ≡ false

-- a MAX line counts seats that are held and seats that linger: where it speaks of a client, and at least its number of them are of clients of whom it speaks, no new seat is granted
abbrev pub MaxCountsLingering : Type 0
MaxCountsLingering = (r : Rules) (s : State) (client : Client) (charge : Charge)
    → list_any (λ (m : Limit). applies r.groups client m.line && nat_le m.number (count_by (λ (h : Holder). applies r.groups h.client m.line) s.holders + count_by (λ (l : Lingerer). applies r.groups l.client m.line) s.lingering)) r.maxes ≡ true
    → decide r s client ≡ Grant charge → ⊥

-- every state of a run is lawful
abbrev pub RunsAreLawful : Type 0
RunsAreLawful = (sets : List Rules) (count : ℕ) (h : List Entry) → AreSets sets count → IsRun sets h → IsLawful sets count (after sets h)

-- right after settling nobody waits who could have a seat
abbrev pub SettlingServes : Type 0
SettlingServes = (r : Rules) (s : State) (moment : ℕ) → IsServed r (settle r s moment)

-- whether the party of each holder is below those of the holders behind it
abbrev pub are_in_order : List Holder → Bool
are_in_order [] = true
are_in_order (h ∷ hs) = list_all (λ (g : Holder). nat_lt h.party g.party) hs && are_in_order hs

-- in every state of a run the holders stand in the order of their parties, and no two are of one party
abbrev pub HoldersStandInOrder : Type 0
HoldersStandInOrder = (sets : List Rules) (count : ℕ) (h : List Entry) → AreSets sets count → IsRun sets h → are_in_order (after sets h).holders ≡ true

-- whether an entry asks for no rule set
abbrev pub asks_for_none : Entry → Bool
asks_for_none e = is_none (set_asked e.request.kind)

-- in every state of a run that asks for no rule set, the seats that are charged to Open are at most those that no RESERVE line keeps
abbrev pub OpenStaysFree : Type 0
OpenStaysFree = (sets : List Rules) (count : ℕ) (h : List Entry) → AreSets sets count → IsRun sets h → list_all asks_for_none h ≡ true → charges (after sets h) Open ≤ (in_force sets (after sets h)).free

-- a step at the handed moment is the step at the moment that it used, which is that of the state after it; this is not before the state's own, and below 2^40 if that is
abbrev pub StepsUseTheirMoment : Type 0
StepsUseTheirMoment = (sets : List Rules) (s : State) (request : Request) (moment : ℕ) → s.now < MOMENT_END
    → (step sets s request (later_moment s.now moment) ≡ step sets s request moment)
    × ((step sets s request moment).1.now ≡ later_moment s.now moment)
    × (s.now ≤ later_moment s.now moment)
    × (later_moment s.now moment < MOMENT_END)

-- the moment of every state of a run is below 2^40
abbrev pub MomentsAreBounded : Type 0
MomentsAreBounded = (sets : List Rules) (h : List Entry) → IsRun sets h → (after sets h).now < MOMENT_END
