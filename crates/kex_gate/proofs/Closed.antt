-- From what is known where a gate is closed.
use Rattle.std.proofs.Common.{◌≡◌, ℕ, ◌+◌, ◌%◌, ◌^◌, ◌<◌, ◌≤◌, List, [], ◌∷◌, ◌++◌, length, refl, sym, ap, ◌∙◌, subst, arith, length-append, slice_get, EachIndex, sum_by, Option, Some}
use Rattle.std.proofs.lemmas.List.Sums.{sum_by-cons}
use mathlib.Core.Option.{some}
use lib.ListN.{get_elem?}
use Rattle.atomic_table.specs.Seated.{TableId}
use Rattle.atomic_table.specs.Table.{Final, Seen}
use Rattle.kex_words.specs.declared.card.Card.{Card}
use Rattle.kex_words.specs.Passes.{TableNet, Pass, times, counted_card}
use Rattle.pass_roles.specs.Roles.{total}
use Rattle.kex_words.proofs.Times.{times_append}
use Rattle.kex_words.proofs.Uses.{sums}
use Rattle.kex_gate.specs.declared.view.Visit.{Visit}
use Rattle.kex_gate.specs.Passes.{Gate, Guest, IsSetUp, sessions, session_numbers, slow_of, taken_by, used_by, got, seats_of}
use Rattle.kex_gate.specs.Rule.{IsGate}
use Rattle.kex_gate.specs.Steps.{Self, IsGathered, slot_worth, slot_number}
use Rattle.kex_gate.proofs.Close.{homes_at, slots_had, slots_numbered, all_ways}
use Rattle.kex_gate.proofs.Start.{sessions_is}

-- the numbers that all sessions took
abbrev pub all_got : List Guest → List ℕ
all_got [] = []
all_got (g ∷ gs) = got g ++ all_got gs

times_all : (s : ℕ) (guests : List Guest) → times s (all_got guests) ≡ taken_by guests s
times_all s [] = refl
times_all s (g ∷ gs) = let a = times_all s gs in let b = times_append s (got g) (all_got gs) in omega arith

seats_counted : (vs : List Visit) → length (seats_of vs) ≡ length vs
seats_counted [] = refl
seats_counted (v ∷ vs) = let a = seats_counted vs in omega arith

all_counted : (guests : List Guest) → length (all_got guests) ≡ sum_by (λ (g : Guest). length g.visits) guests
all_counted [] = refl
all_counted (g ∷ gs) = let a = all_counted gs in let b = length-append (got g) (all_got gs) in let c = seats_counted g.visits in let d = sum_by-cons (λ (x : Guest). length x.visits) g gs in omega arith

-- the uses of all cards are all visits
pub uses_are : (guests : List Guest) (cards : List Card) (w : ℕ) → length cards ≡ w → EachIndex cards (λ s. slice_get cards s ≡ Some (used_by guests s)) → ((s : ℕ) → w ≤ s → taken_by guests s ≡ 0)
    → sum_by (λ c. c.uses) cards % 2 ^ 64 ≡ sum_by (λ (g : Guest). length g.visits) guests % 2 ^ 64
uses_are guests cards w count each low =
    sums (all_got guests) cards w count (λ i l. each i l ∙ ap (λ (n : ℕ). let card : Card = record { number = i; uses = n % 2 ^ 64 } in Some card) (sym (times_all i guests))) (λ s far. times_all s guests ∙ low s far)
    ∙ ap (λ (n : ℕ). n % 2 ^ 64) (all_counted guests)

module _ (id : TableId) (told seats : TableNet) (n m : ℕ) (self : Gate) (up : IsSetUp id told seats n m) (self_is : record { id = id; seats = seats } ≡ self) (seat : ℕ) (guests : List Guest) (me : Self) (ws : List ℕ) (xs : List (Option Pass)) (whole : length guests ≡ sessions self.seats.net) (joined : IsGathered seats guests me) (final : Final (Seen (IsGate told) seat me.0) ws xs) (slots : length xs ≡ id.slots) where
  told_self : self.seats ≡ told
  told_self = sym (ap (λ (x : Gate). x.seats) self_is) ∙ sym up.told_is

  all_in : length guests ≡ sessions told.net
  all_in = whole ∙ ap (λ (t : TableNet). sessions t.net) told_self

  width_is : told.net.width ≡ m
  width_is = ap (λ (t : TableNet). t.net.width) up.told_is ∙ up.width

  slots_are : length xs ≡ told.net.width
  slots_are = slots ∙ (up.slots ∙ sym width_is)

  g : IsGathered told guests me
  g = subst (λ (t : TableNet). IsGathered t guests me) (sym up.told_is) joined

  -- the passes of the gate lie in their slots
  pub closes_home : (i : ℕ) → i < m → (p : Pass) × (get_elem? xs i ≡ some (Some p)) × (p.table ≡ seats)
  closes_home i l = let h = homes_at told seat guests me ws xs all_in g final slots_are i (let w = width_is in omega arith) in (h.0, h.2, h.3 ∙ up.told_is)

  -- the passes that were taken in are all
  pub closes_count : (a b : ℕ) → a ≡ length guests → b ≡ a + m → b ≡ seats.net.parties
  closes_count a b a_is b_is = let n_is = sessions_is id told seats n m self up self_is in let p = n_is.0 in let q = up.parties in omega arith

  -- each session's number stands once among those of the sessions
  pub closes_numbers : (q : ℕ) (ns ns' : List ℕ) → q < sessions self.seats.net → ns ≡ session_numbers guests → times q ns' ≡ times q ns + total (slot_number q) xs → ((q : ℕ) → q < seats.net.parties → times q ns' ≡ 1) → times q (session_numbers guests) ≡ 1
  closes_numbers q ns ns' lt ns_are more once =
      let n_is = sessions_is id told seats n m self up self_is in let p = n_is.0 in let r = up.parties in
      let none = slots_numbered told seat guests me ws xs all_in g final slots_are q (subst (λ (t : TableNet). q < sessions t.net) told_self lt) in
      let a = ap (times q) ns_are in let b = once q (omega arith) in omega arith

  -- what was counted of the passes is what the sessions had
  module _ (slow all : List ℕ) (slow_is : (s : ℕ) → times s slow ≡ total (slow_of s) guests) (all_is : (s : ℕ) → times s all ≡ times s slow + total (slot_worth s) xs) where
    uses_at : (s : ℕ) → times s all ≡ taken_by guests s
    uses_at s = let a = slow_is s in let b = all_is s in let c = slots_had told seat guests me ws xs all_in g final slots_are s in let d = all_ways s guests in omega arith

    pub closes_cards : (cards : List Card) → EachIndex cards (λ s. slice_get cards s ≡ Some (counted_card all s)) → EachIndex cards (λ s. slice_get cards s ≡ Some (used_by guests s))
    closes_cards cards each s l = each s l ∙ ap (λ (k : ℕ). let card : Card = record { number = s; uses = k % 2 ^ 64 } in Some card) (uses_at s)

    pub closes_low : ((s : ℕ) → seats.net.width ≤ s → times s all ≡ 0) → (s : ℕ) → self.seats.net.width ≤ s → taken_by guests s ≡ 0
    closes_low low s far = sym (uses_at s) ∙ low s (let w = (sessions_is id told seats n m self up self_is).1 in let v = up.width in omega arith)

    -- and all of it together are their visits
    pub closes_uses : (cards : List Card) → length cards ≡ seats.net.width → EachIndex cards (λ s. slice_get cards s ≡ Some (counted_card all s)) → ((s : ℕ) → seats.net.width ≤ s → times s all ≡ 0)
        → sum_by (λ c. c.uses) cards % 2 ^ 64 ≡ sum_by (λ (g : Guest). length g.visits) guests % 2 ^ 64
    closes_uses cards count each low = uses_are guests cards seats.net.width count (closes_cards cards each) (λ s far. sym (uses_at s) ∙ low s far)
