-- What the rule says once one seat has all numbers: all sessions are Free, and all passes are home.
use Rattle.std.proofs.Common.{◌≡◌, ◌≢◌, ℕ, zero, suc, ◌+◌, ◌<◌, Bool, true, false, cond, List, [], ◌∷◌, ◌++◌, length, drop, sym, refl, ap, ◌∙◌, ⊎_elim, arith, Option, Some, None, if◌then◌else◌, ◌==◌}
use mathlib.Core.Option.{some, some-injective}
use lib.ListN.{get_elem?}
use Rattle.atomic_table.specs.Table.{Final, Seen}
use Rattle.atomic_table.proofs.Lists.{drop_at}
use Rattle.kex_words.specs.Passes.{TableNet, Pass, times}
use Rattle.pass_roles.specs.Roles.{total, number_of, weigh}
use Rattle.pass_roles.proofs.Members.{total_two, total_alone, total_none, at_inside}
use Rattle.kex_words.proofs.Times.{times_append, times_other}
use Rattle.pass_roles.specs.declared.role.Role.{Role}
use Rattle.pass_roles.specs.declared.role.Role.TheVariants.{Maker, Party, Spent}
use Rattle.kex_gate.specs.declared.view.Spot.{Spot}
use Rattle.kex_gate.specs.declared.view.Spot.TheVariants.{Free}
use Rattle.kex_gate.specs.declared.view.Visit.{Visit}
use Rattle.kex_gate.specs.declared.view.View.{View}
use Rattle.kex_gate.specs.Passes.{Guest, sessions, resting, seats_of, slow_seats, slow_of, taken_by, session_numbers}
use Rattle.kex_gate.specs.Rule.{GateState, Homes, IsGate, IsHome, IsAway, Fits, is_out, kept_at, weight, is_out_in, fast_in, kept_in, home_worth, fast_worth}
use Rattle.kex_gate.specs.Steps.{Self, IsGathered, slot_worth, slot_number}

-- 1 at s, and else 0
abbrev pub one_at : ℕ → ℕ → ℕ
one_at s y = if y == s then 1 else 0

pub times_total : (s : ℕ) (l : List ℕ) → total (one_at s) l ≡ times s l
times_total s [] = refl
times_total s (y ∷ ys) = ap (λ (n : ℕ). one_at s y + n) (times_total s ys)

by_way : (b : Bool) (s x : ℕ) (l : List ℕ) → times s (x ∷ l) ≡ times s (cond b l (x ∷ l)) + cond b (one_at s x) 0
by_way true s x l = omega arith
by_way false s x l = omega arith

-- a session's seats are those by the slow way and those by the fast
pub both_ways : (s : ℕ) (vs : List Visit) → times s (seats_of vs) ≡ times s (slow_seats vs) + total (fast_worth (one_at s)) vs
both_ways s [] = refl
both_ways s (v ∷ vs) = let a = both_ways s vs in let b = by_way v.fast s v.seat (slow_seats vs) in let c = split v.fast s v.seat (slow_seats vs) in omega arith
  where
    split : (b : Bool) (s x : ℕ) (l : List ℕ) → times s (cond b l (x ∷ l)) + cond b (one_at s x) 0 ≡ one_at s x + times s l
    split true s x l = omega arith
    split false s x l = omega arith

pub all_ways : (s : ℕ) (guests : List Guest) → taken_by guests s ≡ total (slow_of s) guests + total (λ (g : Guest). total (fast_worth (one_at s)) g.visits) guests
all_ways s [] = refl
all_ways s (g ∷ gs) = let a = all_ways s gs in let b = both_ways s g.visits in omega arith

-- a view of no weight is of nobody who is at the gate
module _ (seats : TableNet) (made maker_seat j n : ℕ) (d : View) where
  light_free : (role : Role) → Fits seats made maker_seat j d role → weigh n (length d.joined) role ≡ 0 → d.spot ≡ Free
  light_free (Maker m) f light = f.spot_is
  light_free (Party p) f light = absurd (omega arith)
  light_free Spent f light = f.spot_is

  light_new : (role : Role) → Fits seats made maker_seat j d role → weigh n (length d.joined) role ≡ 0 → d.visits ≡ []
  light_new (Maker m) f light = f.visits
  light_new (Party p) f light = absurd (omega arith)
  light_new Spent f light = f.visits

-- the values that come out of the slots are those that were home
homes_out : (f : ℕ → ℕ) (homes : Homes) (xs : List (Option Pass)) → length homes ≡ length xs → ((k : ℕ) → k < length homes → (p : Pass) × (get_elem? homes k ≡ some (some (Some p))) × (get_elem? xs k ≡ some (Some p)))
    → total (home_worth f) homes ≡ total (λ (x : Option Pass). home_worth f (some x)) xs
homes_out f [] [] n h = refl
homes_out f [] (y ∷ ys) n h = absurd (omega arith)
homes_out f (x ∷ xs) [] n h = absurd (omega arith)
homes_out f (x ∷ xs) (y ∷ ys) n h =
    let a = h 0 (omega arith) in
    let x_is : x ≡ some (Some a.0) = some-injective x (some (Some a.0)) a.1 in let y_is : y ≡ Some a.0 = some-injective y (Some a.0) a.2 in
    let p : home_worth f x ≡ home_worth f (some (Some a.0)) = ap (home_worth f) x_is in let q : home_worth f (some y) ≡ home_worth f (some (Some a.0)) = ap (λ (z : Option Pass). home_worth f (some z)) y_is in
    let b = homes_out f xs ys (omega arith) (λ k l. h (suc k) (omega arith)) in omega arith

slot_is : (s : ℕ) (xs : List (Option Pass)) → total (λ (x : Option Pass). home_worth (one_at s) (some x)) xs ≡ total (slot_worth s) xs
slot_is s [] = refl
slot_is s (None ∷ xs) = let b = slot_is s xs in omega arith
slot_is s (Some p ∷ xs) = let a = times_total s p.got in let b = slot_is s xs in omega arith

module _ (seats : TableNet) (s : GateState) (r : IsGate seats s) (id : ℕ) (v : View) (at : get_elem? s.views id ≡ some v) (is : v.role ≡ Party (number_of v.role)) (free : v.spot ≡ Free) (whole : length v.joined + 1 ≡ sessions seats.net) where
  heavy : weight (sessions seats.net) v ≡ sessions seats.net
  heavy = ap (weigh (sessions seats.net) (length v.joined)) is ∙ omega arith

  light : (j : ℕ) (d : View) → j ≢ id → get_elem? s.views j ≡ some d → weight (sessions seats.net) d ≡ 0
  light j d other e = let t = total_two (weight (sessions seats.net)) s.views j id d v other e at in let w = r.weights in let h = heavy in omega arith

  other_free : (j : ℕ) (d : View) → j ≢ id → get_elem? s.views j ≡ some d → d.spot ≡ Free
  other_free j d other e = light_free seats r.made r.maker_seat j (sessions seats.net) d d.role (r.each j d e) (light j d other e)

  none_out : (i : ℕ) → total (is_out_in i) s.views ≡ 0
  none_out i = total_alone (is_out_in i) s.views id v at (λ j d other e. ap (is_out i) (other_free j d other e)) ∙ ap (is_out i) free

  none_kept : (f : ℕ → ℕ) → total (kept_in f) s.views ≡ 0
  none_kept f = total_alone (kept_in f) s.views id v at (λ j d other e. ap (λ (x : Spot). total f (kept_at x d.kept)) (other_free j d other e)) ∙ ap (λ (x : Spot). total f (kept_at x v.kept)) free

  mine_alone : (f : ℕ → ℕ) → total (fast_in f) s.views ≡ fast_in f v
  mine_alone f = total_alone (fast_in f) s.views id v at (λ j d other e. ap (total (fast_worth f)) (light_new seats r.made r.maker_seat j (sessions seats.net) d d.role (r.each j d e) (light j d other e)))

  all_home : (i : ℕ) → i < seats.net.width → IsHome seats s.homes s.views i
  all_home i l = ⊎_elim (λ (h : IsHome seats s.homes s.views i). h) (λ (a : IsAway seats s.homes s.views i). absurd (let z = a.0 in let y = none_out i in omega arith)) (r.slots i l)

  homes_had : (f : ℕ → ℕ) → total (home_worth f) s.homes ≡ fast_in f v
  homes_had f = let a = r.books f in let b = none_kept f in let c = mine_alone f in omega arith

module _ (seats : TableNet) (id : ℕ) (guests : List Guest) (m : Self) (ws : List ℕ) (xs : List (Option Pass)) (whole : length guests ≡ sessions seats.net) (g : IsGathered seats guests m) (final : Final (Seen (IsGate seats) id m.0) ws xs) (slots : length xs ≡ seats.net.width) where
  abbrev s : GateState
  s = final.0

  all_in : length m.0.joined + 1 ≡ sessions seats.net
  all_in = g.joined ∙ whole

  pub homes_at : (i : ℕ) → i < seats.net.width → (p : Pass) × (get_elem? s.homes i ≡ some (some (Some p))) × (get_elem? xs i ≡ some (Some p)) × (p.table ≡ seats) × (p.number ≡ sessions seats.net + i)
  homes_at i l = let h = all_home seats s final.1.0 id m.0 final.1.1 g.role g.spot_is all_in i l in
      (resting seats (sessions seats.net + i) h.1.0, h.1.1, final.4 i (Some (resting seats (sessions seats.net + i) h.1.0)) h.1.1, refl, refl)

  -- a session's number is that of no pass of the gate
  pub slots_numbered : (q : ℕ) → q < sessions seats.net → total (slot_number q) xs ≡ 0
  slots_numbered q lt = total_none (slot_number q) xs (λ i o e. let h = homes_at i (let n = at_inside xs i o e in omega arith) in
      let o_is : o ≡ Some h.0 = some-injective o (Some h.0) (sym e ∙ h.2) in ap (slot_number q) o_is ∙ times_other q h.0.number [] (λ z. let d = h.4 in omega arith))

  -- the passes of the gate took what the sessions had by the fast way
  pub slots_had : (x : ℕ) → total (slot_worth x) xs ≡ total (λ (q : Guest). total (fast_worth (one_at x)) q.visits) guests
  slots_had x = sym (slot_is x xs) ∙ (sym (homes_out (one_at x) s.homes xs final.3 (λ k l. let h = homes_at k (let n = final.3 in omega arith) in (h.0, h.1, h.2)))
      ∙ (homes_had seats s final.1.0 id m.0 final.1.1 g.role g.spot_is all_in (one_at x) ∙ g.fasts (one_at x)))

-- a pass is taken out of the slot i
pub home_at : (now old : List (Option Pass)) (i : ℕ) (o : Option Pass) (p : Pass) → now ≡ old → get_elem? now i ≡ some o → o ≡ Some p → get_elem? old i ≡ some (Some p)
home_at now old i o p e value is = sym (ap (λ (l : List (Option Pass)). get_elem? l i) e) ∙ (value ∙ ap some is)

pub it_is : (now old : List (Option Pass)) (i : ℕ) (o : Option Pass) (p : Pass) → now ≡ old → get_elem? now i ≡ some o → get_elem? old i ≡ some (Some p) → o ≡ Some p
it_is now old i o p e value home = some-injective o (Some p) (sym value ∙ (ap (λ (l : List (Option Pass)). get_elem? l i) e ∙ home))

-- what was counted so far, and what the slots that are left are worth
pub slots_on : (f : Option Pass → ℕ) (a a' i b : ℕ) (xs : List (Option Pass)) (p : Pass) → get_elem? xs i ≡ some (Some p) → a' ≡ a + f (Some p) → a + total f (drop i xs) ≡ b → a' + total f (drop (i + 1) xs) ≡ b
slots_on f a a' i b xs p home more so =
    let h : suc i ≡ i + 1 = omega arith in let d : drop i xs ≡ Some p ∷ drop (i + 1) xs = drop_at xs i (Some p) home ∙ ap (λ (k : ℕ). Some p ∷ drop k xs) h in
    let e : total f (drop i xs) ≡ total f (Some p ∷ drop (i + 1) xs) = ap (total f) d in omega arith

drop_whole : (xs : List (Option Pass)) (n : ℕ) → length xs ≡ n → drop n xs ≡ []
drop_whole [] zero e = refl
drop_whole [] (suc n) e = refl
drop_whole (x ∷ xs) zero e = absurd (omega arith)
drop_whole (x ∷ xs) (suc n) e = drop_whole xs n (omega arith)

-- one more pass is taken in
pub number_more : (q : ℕ) (before after : List ℕ) (p : Pass) → after ≡ p.number ∷ before → times q after ≡ times q before + slot_number q (Some p)
number_more q before after p e = let a = ap (times q) e in let b = times_append q (p.number ∷ []) before in omega arith

pub got_more : (s : ℕ) (before after : List ℕ) (p : Pass) → after ≡ before ++ p.got → times s after ≡ times s before + slot_worth s (Some p)
got_more s before after p e = ap (times s) e ∙ times_append s before p.got

pub sessions_counted : (guests : List Guest) → length (session_numbers guests) ≡ length guests
sessions_counted [] = refl
sessions_counted (g ∷ gs) = let a = sessions_counted gs in omega arith
