-- Charges that are given anew, party by party.
use Rattle.std.specs.Prelude.{◌≡◌, ℕ, ◌++◌, true, nat_le, nat_lt, List, [], drop, length, map, take}
use Rattle.std.specs.List.{list_all}
use Rattle.options_machine.specs.declared.rows.Holder.{Holder}
use Rattle.options_machine.specs.declared.rows.Lingerer.{Lingerer}
use Rattle.options_machine.specs.Rules.{Rules}
use Rattle.options_machine.specs.State.{opening}
use Rattle.options_machine.specs.Step.{holders_anew, lingering_anew}
use Rattle.seat_counters.specs.Counts.{Counts, counts_of}

-- what is counted of these holders and of what lingers
abbrev pub counts_in : Rules → List Holder → List Lingerer → Counts
counts_in r hs ls = counts_of r (record opening { holders = hs; lingering = ls })

-- for proofs alone: the holders of parties below this one have their charges anew, and are counted; the others are as they were
pub record AreAnewBelow (r : Rules) (party : ℕ) (old new : List Holder) (counts : Counts) : Type 0 where
  pub front : List Holder
  pub back : List Holder
  pub whole : old ≡ front ++ back
  pub anew : new ≡ holders_anew r [] front ++ back
  pub below : list_all (λ (h : Holder). nat_lt h.party party) front ≡ true
  pub behind : list_all (λ (h : Holder). nat_le party h.party) back ≡ true
  pub counted : counts ≡ counts_in r (holders_anew r [] front) []

-- for proofs alone: the first lingering entries, so many, have their charges anew after those of the holders, and are counted with them; the others are as they were
pub record AreAnewUpTo (r : Rules) (at : ℕ) (hs : List Holder) (old new : List Lingerer) (counts : Counts) : Type 0 where
  pub length_stays : length new ≡ length old
  pub anew : take at new ++ lingering_anew r (map (λ (h : Holder). h.charge) hs ++ map (λ (l : Lingerer). l.charge) (take at new)) (drop at new) ≡ lingering_anew r (map (λ (h : Holder). h.charge) hs) old
  pub counted : counts ≡ counts_in r hs (take at new)
