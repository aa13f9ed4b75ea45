-- The sessions of a gate are joined, one after another, and their own passes are taken in.
use Rattle.std.proofs.Common.{◌≡◌, ℕ, ◌<◌, List, [], ◌∷◌, ◌++◌, length, sym, ap, ◌∙◌, subst, arith, length-append}
use Rattle.atomic_table.specs.Seated.{TableId}
use Rattle.atomic_table.specs.Table.{Joins}
use Rattle.kex_words.specs.Passes.{TableNet, Pass, times}
use Rattle.pass_roles.specs.Roles.{total}
use Rattle.kex_words.proofs.Times.{times_append}
use Rattle.kex_gate.specs.Passes.{Guest, session_numbers, slow_of}
use Rattle.kex_gate.specs.Rule.{IsGate, fast_worth}
use Rattle.kex_gate.specs.Steps.{Self, both, spent_view, guest_of, IsIdle, IsGathered}
use Rattle.kex_gate.proofs.Counts.{total_append}
use Rattle.kex_gate.proofs.Join.{joins}

-- a session that is Free, with its own pass
module _ (seats : TableNet) (g : Guest) (own : Pass) (id : TableId) (w : Self) (idle : IsIdle own g w) (guest_is : guest_of id w.0 ≡ g) (seats_is : g.gate.seats ≡ seats) where
  visits_are : w.0.visits ≡ g.visits
  visits_are = ap (λ (z : Guest). z.visits) guest_is

  -- its pass is of these seats
  pub own_table : own.table ≡ seats
  own_table = ap (λ (p : Pass). p.table) idle.own_is ∙ seats_is

  -- it is the first
  pub gathered_first : IsGathered seats (g ∷ []) w
  gathered_first = record {
    role = idle.session.role;
    seats_is = ap (λ (z : Guest). z.gate.seats) guest_is ∙ seats_is;
    spot_is = idle.spot_is;
    hand = idle.hand;
    joined = let a : length w.0.joined ≡ 0 = ap length idle.session.joined in omega arith;
    fasts = λ f. let a : total (fast_worth f) w.0.visits ≡ total (fast_worth f) g.visits = ap (total (fast_worth f)) visits_are in omega arith;
  }

  -- it is joined into those that were joined before
  pub gathered_on : (done : List Guest) (m m' : Self) → IsGathered seats done m → m' ≡ (both m.0 w.0, m.1) → IsGathered seats (g ∷ done) m'
  gathered_on done m m' so m_is = subst (λ (z : Self). IsGathered seats (g ∷ done) z) (sym m_is) record {
    role = so.role;
    seats_is = so.seats_is;
    spot_is = so.spot_is;
    hand = so.hand;
    joined = let a = so.joined in let b = length-append w.0.joined m.0.joined in let c : length w.0.joined ≡ 0 = ap length idle.session.joined in omega arith;
    fasts = λ f. let a : total (fast_worth f) w.0.visits ≡ total (fast_worth f) g.visits = ap (total (fast_worth f)) visits_are in let b = total_append (fast_worth f) m.0.visits w.0.visits in let c = so.fasts f in omega arith;
  }

  -- and so its numbers are added to theirs
  pub numbers_on : (done : List Guest) (before after : List ℕ) → before ≡ session_numbers done → after ≡ own.number ∷ before → after ≡ session_numbers (g ∷ done)
  numbers_on done before after so e = e ∙ (λ i. (idle.own_is i).number ∷ so i)

  pub slow_on : (done : List Guest) (s : ℕ) (before after : List ℕ) → times s before ≡ total (slow_of s) done → after ≡ before ++ own.got → times s after ≡ total (slow_of s) (g ∷ done)
  slow_on done s before after so e = let a = ap (times s) e in let b = times_append s before own.got in let c : times s own.got ≡ slow_of s g = ap (λ (p : Pass). times s p.got) idle.own_is in omega arith

-- from what is known where a session is joined
pub joins_at : (table : TableId) (key seats : TableNet) (done : List Guest) (seat_id other_id : TableId) (id gone : ℕ) (m w : Self) (g : Guest) (own : Pass) → key ≡ seats → IsGathered seats done m → seat_id ≡ table → IsIdle own g w → other_id ≡ g.gate.id → g.gate.id ≡ table → 0 < table.words
    → (seat_id ≡ table) × (other_id ≡ table) × (w.1 ≡ []) × (0 < table.words) × Joins (IsGate key) id m.0 gone w.0 (both m.0 w.0) spent_view
joins_at table key seats done seat_id other_id id gone m w g own told so seat_is idle other_is gate_is words = (
  seat_is,
  other_is ∙ gate_is,
  idle.hand,
  words,
  subst (λ (t : TableNet). Joins (IsGate t) id m.0 gone w.0 (both m.0 w.0) spent_view) (so.seats_is ∙ sym told) (joins id gone m.0 w.0 so.role idle.session.role idle.spot_is),
)
