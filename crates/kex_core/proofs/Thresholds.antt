-- The sets read by a threshold: for each place, the number below which the stages on its party's path have the party in a set.
-- Their sizes are sums, which the proofs go by. That they are the sets of specs/ is proved in Readings.
use Rattle.std.proofs.Common.{◌≡◌, ℕ, ◌+◌, ◌<◌, ◌≤◌, eqb, ltb, ◌&&◌, cond}
use Rattle.kex_core.specs.declared.place.Place.{Place}
use Rattle.kex_core.specs.declared.place.Place.TheVariants.{Out, Dec, Mark, Look, Spin, Naming, Named, Holding, Clearing, Inc, Unmark}
use Rattle.kex_core.specs.Nets.{Plan, over, on_path}
use Rattle.kex_core.specs.Worlds.{Machine}
use Rattle.kex_core.specs.Laws.{Placed, Waits}

abbrev pub starts_at : Plan → ℕ → ℕ → ℕ
starts_at net p j = cond (eqb (net.start p) j) 1 0

abbrev pub feeds_at : Plan → ℕ → ℕ → ℕ
feeds_at net i j = cond (eqb (net.next i) j) (net.cap i) 0

-- past its Dec and before its Inc
abbrev pub counted_to : ℕ → Place → ℕ
counted_to exit Out = 0
counted_to exit (Dec j) = j
counted_to exit (Mark j) = j + 1
counted_to exit (Look j) = j + 1
counted_to exit (Spin j) = j + 1
counted_to exit (Naming i) = exit
counted_to exit (Named s) = exit
counted_to exit (Holding s) = exit
counted_to exit (Clearing s) = exit
counted_to exit (Inc j) = j + 1
counted_to exit (Unmark j) = j

-- the same, or at its Dec or its Unmark; and inside for Exit
abbrev pub within_to : ℕ → Place → ℕ
within_to exit Out = 0
within_to exit (Dec j) = j + 1
within_to exit (Mark j) = j + 1
within_to exit (Look j) = j + 1
within_to exit (Spin j) = j + 1
within_to exit (Naming i) = exit + 1
within_to exit (Named s) = exit + 1
within_to exit (Holding s) = exit + 1
within_to exit (Clearing s) = exit + 1
within_to exit (Inc j) = j + 1
within_to exit (Unmark j) = j + 1

-- past its Dec and before its Inc, or at its Unmark
abbrev pub between_to : ℕ → Place → ℕ
between_to exit Out = 0
between_to exit (Dec j) = j
between_to exit (Mark j) = j + 1
between_to exit (Look j) = j + 1
between_to exit (Spin j) = j + 1
between_to exit (Naming i) = exit
between_to exit (Named s) = exit
between_to exit (Holding s) = exit
between_to exit (Clearing s) = exit
between_to exit (Inc j) = j + 1
between_to exit (Unmark j) = j + 1

-- past its Dec and before its Inc, and at none of its Mark, Look and Spin
abbrev pub passed_to : ℕ → Place → ℕ
passed_to exit Out = 0
passed_to exit (Dec j) = j
passed_to exit (Mark j) = j
passed_to exit (Look j) = j
passed_to exit (Spin j) = j
passed_to exit (Naming i) = exit
passed_to exit (Named s) = exit
passed_to exit (Holding s) = exit
passed_to exit (Clearing s) = exit
passed_to exit (Inc j) = j + 1
passed_to exit (Unmark j) = j

-- 1 where j is on p's path and below the bound
abbrev pub below : Plan → ℕ → ℕ → ℕ → ℕ
below net p bound j = cond (on_path net p j && ltb j bound) 1 0

-- the name position of a party inside is at least i
abbrev pub reaches : ℕ → Place → ℕ
reaches i (Naming s) = cond (ltb s i) 0 1
reaches i (Named s) = cond (ltb s i) 0 1
reaches i (Holding s) = cond (ltb s i) 0 1
reaches i (Clearing s) = cond (ltb s i) 0 1
reaches i Out = 0
reaches i (Dec j) = 0
reaches i (Mark j) = 0
reaches i (Look j) = 0
reaches i (Spin j) = 0
reaches i (Inc j) = 0
reaches i (Unmark j) = 0

-- at Named, Holding or Clearing of i
abbrev pub owns : ℕ → Place → ℕ
owns i (Named s) = cond (eqb s i) 1 0
owns i (Holding s) = cond (eqb s i) 1 0
owns i (Clearing s) = cond (eqb s i) 1 0
owns i Out = 0
owns i (Dec j) = 0
owns i (Mark j) = 0
owns i (Look j) = 0
owns i (Spin j) = 0
owns i (Naming s) = 0
owns i (Inc j) = 0
owns i (Unmark j) = 0

abbrev pub holds : ℕ → Place → ℕ
holds i (Holding s) = cond (eqb s i) 1 0
holds i Out = 0
holds i (Dec j) = 0
holds i (Mark j) = 0
holds i (Look j) = 0
holds i (Spin j) = 0
holds i (Naming s) = 0
holds i (Named s) = 0
holds i (Clearing s) = 0
holds i (Inc j) = 0
holds i (Unmark j) = 0

abbrev pub counted : Plan → Machine → ℕ → ℕ
counted net w j = over net.parties (λ p. below net p (counted_to net.stages (w.place p)) j)

abbrev pub within : Plan → Machine → ℕ → ℕ
within net w j = over net.parties (λ p. below net p (within_to net.stages (w.place p)) j)

abbrev pub between : Plan → Machine → ℕ → ℕ
between net w j = over net.parties (λ p. below net p (between_to net.stages (w.place p)) j)

abbrev pub through : Plan → Machine → ℕ → ℕ
through net w j = over net.parties (λ p. below net p (passed_to net.stages (w.place p)) j)

abbrev pub inside : Plan → Machine → ℕ
inside net w = over net.parties (λ p. reaches 0 (w.place p))

-- the others of a set
abbrev pub but : ℕ → (ℕ → ℕ) → ℕ → ℕ
but p f q = cond (eqb q p) 0 (f q)

abbrev pub between_others : Plan → Machine → ℕ → ℕ → ℕ
between_others net w p j = over net.parties (but p (λ q. below net q (between_to net.stages (w.place q)) j))

-- the invariant, read by thresholds
pub record KeptTo (net : Plan) (w : Machine) : Type 0 where
  pub placed : (p : ℕ) → p < net.parties → Placed net p (w.place p)
  pub counters : (j : ℕ) → j < net.stages → w.x j + counted net w j ≡ net.cap j + 1
  pub within : (j : ℕ) → j < net.stages → within net w j ≤ net.cap j + 1
  pub inside : inside net w ≤ net.width
  pub watched : (j : ℕ) → j < net.stages → w.x j ≡ 0 → (q : ℕ) × (q < net.parties) × Waits w q j
  pub waits : (p j : ℕ) → p < net.parties → w.place p ≡ Spin j → w.q j ≡ p + 1 → net.cap j ≤ between_others net w p j
  pub names : (i : ℕ) → i < net.width → over net.parties (λ p. reaches i (w.place p)) + i ≤ net.width
  pub bits : (i : ℕ) → i + 1 < net.width → over net.parties (λ p. owns i (w.place p)) ≡ w.bit i
  pub bit_small : (i : ℕ) → i + 1 < net.width → w.bit i ≤ 1
  pub cards : (s : ℕ) → s < net.width → over net.parties (λ p. holds s (w.place p)) ≡ w.card s
  pub card_small : (s : ℕ) → s < net.width → w.card s ≤ 1
