-- The logs of an office's desks: whose they are, and rounds of taking.
use Rattle.std.proofs.Common.{◌≡◌, ◌≢◌, ℕ, ◌+◌, ◌<◌, ◌≤◌, List, [], ◌++◌, map, length, get_or, set, All, sym, ap, ◌∙◌, subst, arith, append_assoc, sum_by, vec_capacity, Vec, Global}
use mathlib.Core.Logic.{dite}
use native.Mathlib.Decide.{dec_le}
use Rattle.std.proofs.lemmas.List.{get_or-map, get_or-set_other, get_or-set_same, length-map, length-set, map-set}
use Rattle.std.proofs.lemmas.List.Sums.{sum_by-set}
use Rattle.std.proofs.Math.Seq.{map-set_same}
use Rattle.counter.specs.Account.{Extends}
use Rattle.feature_desk.specs.Closings.{DeskKeeperView, IsKeeperOf}
use Rattle.feature_desk.specs.Sitters.{DeskView, Sitter}
use Rattle.options_machine.specs.declared.reply.Entry.{Entry}
use Rattle.stat_board.specs.Fronts.{the_first}
use Rattle.licence_office.specs.declared.closing.OfficeEnd.{OfficeEnd}
use Rattle.licence_office.specs.declared.logs.DeskEnd.{DeskEnd}
use Rattle.licence_office.specs.Logs.{HaveGrown, untouched_keeper}
use Rattle.licence_office.specs.Rooms.{AreEnds, AreTaken, HasPlace, HasRoom, taken_at}

abbrev keeper_of : DeskEnd → DeskKeeperView
keeper_of e = untouched_keeper e.keeper

abbrev room_of : DeskEnd → Vec Sitter Global
room_of e = e.room

-- a keeper is of the same desk whatever was taken
was_of : (k : DeskKeeperView) (d : DeskView) → IsKeeperOf k d → IsKeeperOf (untouched_keeper k) d
was_of k d h = record { queue = h.queue; book_room = h.book_room; room = h.room; seats = h.seats }

still_of : (k : DeskKeeperView) (d : DeskView) → IsKeeperOf (untouched_keeper k) d → IsKeeperOf k d
still_of k d h = record { queue = h.queue; book_room = h.book_room; room = h.room; seats = h.seats }

-- the ends of the desks of an office, in its logs
module _ (desks : List DeskView) (ends : List DeskEnd) (n : ℕ) where
  pub ends_of_logs : length (map keeper_of ends) ≡ length desks
      → ((j : ℕ) (k : DeskKeeperView) (d : DeskView) → j < length desks → IsKeeperOf (get_or (map keeper_of ends) j k) (get_or desks j d))
      → All (λ (d : DeskView). d.lock.id.parties ≡ n) desks → All (HasPlace n) ends → AreEnds n desks ends
  ends_of_logs many keepers parties places =
      let long : length ends ≡ length desks = sym (length-map ends keeper_of) ∙ many in
      record {
        many = long;
        each = λ j d e lt.
            let within : j < length ends = omega (arith, lt, long) in
            let x : DeskEnd = get_or ends j e in
            let place : HasPlace n x = places j e within in
            let keeper : IsKeeperOf (untouched_keeper x.keeper) (get_or desks j d)
            = subst (λ (z : DeskKeeperView). IsKeeperOf z (get_or desks j d)) (get_or-map keeper_of ends j e (keeper_of e) within) (keepers j (keeper_of e) d lt) in
            record { parties = parties j d lt; keeper = still_of x.keeper (get_or desks j d) keeper; empty = place.empty; room = place.room };
      }

  -- the keepers of the logs are those of the desks
  pub keepers_are : AreEnds n desks ends → (j : ℕ) (k : DeskKeeperView) (d : DeskView) → j < length desks → IsKeeperOf (get_or (map keeper_of ends) j k) (get_or desks j d)
  keepers_are are j k d lt =
      let many = are.many in
      let at : j < length ends = omega (arith, lt, many) in
      let e : DeskEnd = the_first ends (omega (arith, at)) in
      subst (λ (z : DeskKeeperView). IsKeeperOf z (get_or desks j d)) (sym (get_or-map keeper_of ends j e k at)) (was_of (get_or ends j e).keeper (get_or desks j d) (are.each j d e lt).keeper)

  pub keepers_many : AreEnds n desks ends → length (map keeper_of ends) ≡ length desks
  keepers_many are = length-map ends keeper_of ∙ are.many

  pub places_are : AreEnds n desks ends → All (HasPlace n) ends
  places_are are j e lt =
      let many = are.many in
      let at : j < length desks = omega (arith, lt, many) in
      let d : DeskView = the_first desks (omega (arith, at)) in
      let end = are.each j d e at in
      record { empty = end.empty; room = end.room }

  pub parties_are : AreEnds n desks ends → All (λ (d : DeskView). d.lock.id.parties ≡ n) desks
  parties_are are j d lt =
      let many = are.many in
      let e : DeskEnd = the_first ends (omega (arith, lt, many)) in
      (are.each j d e lt).parties

-- the ends of the same desks, by other names
pub ends_named : (n m : ℕ) (desks again : List DeskView) (ends : List DeskEnd) → n ≡ m → desks ≡ again → AreEnds n desks ends → AreEnds m again ends
ends_named n m desks again ends count same are = subst (λ (z : ℕ). AreEnds z again ends) count (subst (λ (z : List DeskView). AreEnds n z ends) same are)

-- as many places as before, with the same room
pub same_places : (n : ℕ) (old new : List DeskEnd) → map room_of new ≡ map room_of old → All (HasPlace n) old → All (HasPlace n) new
same_places n old new same places j e lt =
    let many : length new ≡ length old = sym (length-map new room_of) ∙ (ap length same ∙ length-map old room_of) in
    let at : j < length old = omega (arith, lt, many) in
    let r : Vec Sitter Global = room_of e in
    let is : room_of (get_or old j e) ≡ room_of (get_or new j e)
    = sym (get_or-map room_of old j e r at) ∙ (ap (λ (z : List (Vec Sitter Global)). get_or z j r) (sym same) ∙ get_or-map room_of new j e r lt) in
    let place : HasPlace n (get_or old j e) = places j e at in
    record {
      empty = subst (λ (z : Vec Sitter Global). z.items ≡ []) is place.empty;
      room = subst (λ (z : Vec Sitter Global). n ≤ vec_capacity z) is place.room;
    }

-- more was taken at desk i
grown_more : (base xs : List (List Entry)) (i : ℕ) (x : List Entry) → HaveGrown base xs → i < length xs → Extends (get_or xs i []) x → HaveGrown base (set xs i x)
grown_more base xs i x h within more =
    let here : Extends (get_or base i []) (get_or (set xs i x) i [])
    = (let many = h.many in
    let before = h.each i (omega (arith, within, many)) in (
      before.0 ++ more.0,
      get_or-set_same xs i x [] within ∙ (more.1 ∙ (ap (λ (z : List Entry). z ++ more.0) before.1 ∙ append_assoc (get_or base i []) before.0 more.0)),
    )) in
    let there : (j : ℕ) → j ≢ i → j < length base → Extends (get_or base j []) (get_or (set xs i x) j [])
    = λ j other lt. subst (Extends (get_or base j [])) (sym (get_or-set_other xs i j x [] other)) (h.each j lt) in
    record {
      many = length-set xs i x ∙ h.many;
      each = λ j lt.
          dite (dec_le (i + 1) j) (λ above. there j (λ e. omega (arith, e, above)) lt)
          (λ near.
          dite (dec_le i j) (λ below. let e : i ≡ j = omega (arith, near, below) in subst (λ (k : ℕ). Extends (get_or base k []) (get_or (set xs i x) k [])) e here)
          (λ far. there j (λ e. omega (arith, e, far)) lt));
    }

-- one desk more of the round
module _ (old now : List DeskEnd) (i : ℕ) (d is : DeskEnd) (within : i < length now) where
  abbrev was : DeskEnd
  was = get_or now i d

  pub taken_more : AreTaken old now → untouched_keeper is.keeper ≡ untouched_keeper was.keeper → is.room ≡ was.room → Extends (taken_at was) (taken_at is) → AreTaken old (set now i is)
  taken_more t keeper room more = record {
    keepers = map-set_same keeper_of now i is d keeper ∙ t.keepers;
    rooms = map-set_same room_of now i is d room ∙ t.rooms;
    grown =
        (let long : i < length (map taken_at now) = (let l = length-map now taken_at in omega (arith, within, l)) in
        let at : taken_at was ≡ get_or (map taken_at now) i [] = sym (get_or-map taken_at now i d [] within) in
        subst (HaveGrown (map taken_at old)) (sym (map-set taken_at now i is))
        (grown_more (map taken_at old) (map taken_at now) i (taken_at is) t.grown long (subst (λ (z : List Entry). Extends z (taken_at is)) at more)));
  }

  pub count_more : (total count more : ℕ) → sum_by length (map taken_at now) ≡ total + count → length (taken_at is) ≡ length (taken_at was) + more → sum_by length (map taken_at (set now i is)) ≡ total + (count + more)
  count_more total count more so_far grown =
      let long : i < length (map taken_at now) = (let l = length-map now taken_at in omega (arith, within, l)) in
      let at : get_or (map taken_at now) i [] ≡ taken_at was = get_or-map taken_at now i d [] within in
      let sums : sum_by length (map taken_at (set now i is)) + length (taken_at was) ≡ sum_by length (map taken_at now) + length (taken_at is)
      = subst (λ (z : List (List Entry)). sum_by length z + length (taken_at was) ≡ sum_by length (map taken_at now) + length (taken_at is)) (sym (map-set taken_at now i is))
      (subst (λ (z : List Entry). sum_by length (set (map taken_at now) i (taken_at is)) + length z ≡ sum_by length (map taken_at now) + length (taken_at is)) at (sum_by-set length (map taken_at now) i (taken_at is) [] long)) in
      omega (arith, sums, so_far, grown)

-- a round is over
module _ (old now : List DeskEnd) (t : AreTaken old now) where
  pub still_kept : (n : ℕ) (told : OfficeEnd) → All (HasPlace n) old → HasRoom (length old) told → All (HasPlace n) now × HasRoom (length now) told
  still_kept n told places room =
      let many : length old ≡ length now = sym (length-map old room_of) ∙ (ap length (sym t.rooms) ∙ length-map now room_of) in
      (same_places n old now t.rooms places, subst (λ (z : ℕ). HasRoom z told) many room)
