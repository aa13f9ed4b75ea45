-- The machine of a net: where each party stands, and the words that they share.
-- The stages and the renaming are after Anderson and Moir, Distributed Computing 11, 1997. The exact listing is this project's.
-- A stored counter is one more than the number that it stands for, and a stored name one more than the party's number, or 0.
use Rattle.std.specs.Prelude.{ℕ, ◌+◌, ◌-◌, ◌<◌, ◌==◌, nat_lt, if◌then◌else◌, List, [], ◌∷◌}
use Rattle.kex_core.specs.declared.place.Place.{Place}
use Rattle.kex_core.specs.declared.place.Place.TheVariants.{Out, Dec, Mark, Look, Spin, Naming, Named, Holding, Clearing, Inc, Unmark}
use Rattle.kex_core.specs.Nets.{Plan, before}

-- x: the counters, q: the spin words, bit: the renaming bits, card: the card words, place: where each party stands
pub record Machine : Type 0 where
  pub x : ℕ → ℕ
  pub q : ℕ → ℕ
  pub bit : ℕ → ℕ
  pub card : ℕ → ℕ
  pub place : ℕ → Place

-- f with c at i
abbrev pub put : {X : Type 0} → (ℕ → X) → ℕ → X → ℕ → X
put f i c j = (if j == i then c else f j)

-- all parties are Out, each counter is at its capacity, and the other words are 0
abbrev pub opening : Plan → Machine
opening net = record { x = λ j. (if nat_lt j net.stages then net.cap j + 1 else 0); q = λ _. 0; bit = λ _. 0; card = λ _. 0; place = λ _. Out }

-- the place whose access is due: from Out it is that of the start
abbrev pub due : Plan → ℕ → Place → Place
due net p Out = (if net.start p == net.stages then Naming 0 else Dec (net.start p))
due net p (Dec j) = Dec j
due net p (Mark j) = Mark j
due net p (Look j) = Look j
due net p (Spin j) = Spin j
due net p (Naming i) = Naming i
due net p (Named s) = Named s
due net p (Holding s) = Holding s
due net p (Clearing s) = Clearing s
due net p (Inc j) = Inc j
due net p (Unmark j) = Unmark j

-- where a party goes that has passed stage j
abbrev pub place_past : Plan → ℕ → Place
place_past net j = (if net.next j == net.stages then (if net.width == 1 then Named 0 else Naming 0) else Dec (net.next j))

-- where p goes back to from j, a stage or Exit
abbrev pub back : Plan → ℕ → ℕ → Place
back net p j = (if net.start p == j then Out else Inc (before net p j))

-- what the access that is due finds; of a store, what it stores
abbrev pub value_found : Machine → ℕ → Place → ℕ
value_found w p (Dec j) = w.x j
value_found w p (Inc j) = w.x j
value_found w p (Look j) = w.x j
value_found w p (Spin j) = w.q j
value_found w p (Mark j) = p + 1
value_found w p (Unmark j) = p + 1
value_found w p (Naming i) = w.bit i
value_found w p (Named s) = w.card s
value_found w p (Holding s) = w.card s
value_found w p (Clearing s) = 0
value_found w p Out = 0

-- the place after the access of this place, which found n
abbrev pub after : Plan → ℕ → Place → ℕ → Place
after net p Out n = Out
after net p (Dec j) n = (if n == 1 then Mark j else place_past net j)
after net p (Mark j) n = Look j
after net p (Look j) n = (if n == 0 then Spin j else place_past net j)
after net p (Spin j) n = (if n == p + 1 then Spin j else place_past net j)
after net p (Naming i) n = (if n == 0 then Named i else (if i + 2 == net.width then Named (i + 1) else Naming (i + 1)))
after net p (Named s) n = Holding s
after net p (Holding s) n = (if s + 1 == net.width then back net p net.stages else Clearing s)
after net p (Clearing s) n = back net p net.stages
after net p (Inc j) n = Unmark j
after net p (Unmark j) n = back net p j

abbrev pub x_after : Place → (ℕ → ℕ) → ℕ → ℕ
x_after (Dec j) x = put x j (x j - 1)
x_after (Inc j) x = put x j (x j + 1)
x_after Out x = x
x_after (Mark j) x = x
x_after (Look j) x = x
x_after (Spin j) x = x
x_after (Naming i) x = x
x_after (Named s) x = x
x_after (Holding s) x = x
x_after (Clearing s) x = x
x_after (Unmark j) x = x

abbrev pub q_after : ℕ → Place → (ℕ → ℕ) → ℕ → ℕ
q_after p (Mark j) q = put q j (p + 1)
q_after p (Unmark j) q = put q j (p + 1)
q_after p Out q = q
q_after p (Dec j) q = q
q_after p (Look j) q = q
q_after p (Spin j) q = q
q_after p (Naming i) q = q
q_after p (Named s) q = q
q_after p (Holding s) q = q
q_after p (Clearing s) q = q
q_after p (Inc j) q = q

abbrev pub bit_after : Place → (ℕ → ℕ) → ℕ → ℕ
bit_after (Naming i) b = put b i 1
bit_after (Clearing s) b = put b s 0
bit_after Out b = b
bit_after (Dec j) b = b
bit_after (Mark j) b = b
bit_after (Look j) b = b
bit_after (Spin j) b = b
bit_after (Named s) b = b
bit_after (Holding s) b = b
bit_after (Inc j) b = b
bit_after (Unmark j) b = b

abbrev pub card_after : Place → (ℕ → ℕ) → ℕ → ℕ
card_after (Named s) c = put c s 1
card_after (Holding s) c = put c s 0
card_after Out c = c
card_after (Dec j) c = c
card_after (Mark j) c = c
card_after (Look j) c = c
card_after (Spin j) c = c
card_after (Naming i) c = c
card_after (Clearing s) c = c
card_after (Inc j) c = c
card_after (Unmark j) c = c

-- The same row word by word: for whoever has read the word himself, and knows what the access found.
abbrev pub machine_after_access : Plan → Machine → ℕ → Place → Machine
machine_after_access net w p d = record {
  x = x_after d w.x;
  q = q_after p d w.q;
  bit = bit_after d w.bit;
  card = card_after d w.card;
  place = put w.place p (after net p d (value_found w p d));
}

-- p goes to this place
abbrev pub goes : Machine → ℕ → Place → Machine
goes w p d = record w { place = put w.place p d }

-- The listing: for the place whose access is due, the one word that it changes and the place that follows. Out has no row of its own: what is due there is its start's.
abbrev pub row : Plan → Machine → ℕ → Place → Machine
row net w p Out = goes w p Out
row net w p (Dec j) = goes (record w { x = put w.x j (w.x j - 1) }) p (if w.x j == 1 then Mark j else place_past net j)
row net w p (Mark j) = goes (record w { q = put w.q j (p + 1) }) p (Look j)
row net w p (Look j) = goes w p (if w.x j == 0 then Spin j else place_past net j)
row net w p (Spin j) = goes w p (if w.q j == p + 1 then Spin j else place_past net j)
row net w p (Naming i) = goes (record w { bit = put w.bit i 1 }) p (if w.bit i == 0 then Named i else (if i + 2 == net.width then Named (i + 1) else Naming (i + 1)))
row net w p (Named s) = goes (record w { card = put w.card s 1 }) p (Holding s)
row net w p (Holding s) = goes (record w { card = put w.card s 0 }) p (if s + 1 == net.width then back net p net.stages else Clearing s)
row net w p (Clearing s) = goes (record w { bit = put w.bit s 0 }) p (back net p net.stages)
row net w p (Inc j) = goes (record w { x = put w.x j (w.x j + 1) }) p (Unmark j)
row net w p (Unmark j) = goes (record w { q = put w.q j (p + 1) }) p (back net p j)

-- the one access that is due for p
abbrev pub move : Plan → Machine → ℕ → Machine
move net w p = row net w p (due net p (w.place p))

-- a whole schedule: the moves of these parties, one after another
abbrev pub run : Plan → List ℕ → Machine → Machine
run net [] w = w
run net (p ∷ ps) w = run net ps (move net w p)

-- each of a schedule's numbers is a party's
abbrev pub Parties : Plan → List ℕ → Type 0
Parties net [] = Unit {0}
Parties net (p ∷ ps) = (p < net.parties) × Parties net ps
