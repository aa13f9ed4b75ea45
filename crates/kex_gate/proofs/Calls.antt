-- A session's seat at its gate's table.
use Rattle.std.proofs.Common.{◌≡◌, ℕ, ◌+◌, ◌-◌, ◌*◌, ◌%◌, ◌^◌, ◌<◌, ◌≤◌, cond, min, Bool, true, false, List, [], ◌∷◌, ◌++◌, sym, refl, ap, ◌∙◌, subst, arith, Option, Some, None}
use mathlib.Core.Option.{none}
use Rattle.atomic_table.specs.Seated.{TableId}
use Rattle.atomic_table.specs.Table.{step, rest, Allows}
use Rattle.kex_core.specs.Costs.{depth}
use Rattle.kex_core.specs.Shapes.{Sheet, plan}
use Rattle.kex_net.specs.Gates.{IsGated}
use Rattle.kex_words.specs.Passes.{TableNet, Pass, IsOut}
use Rattle.pass_roles.specs.declared.role.Role.TheVariants.{Party}
use Rattle.kex_gate.specs.declared.view.Spot.{Spot}
use Rattle.kex_gate.specs.declared.view.Spot.TheVariants.{Free, Testing, Taking, Fast, Clearing, Giving, Slow}
use Rattle.kex_gate.specs.declared.view.Visit.{Visit}
use Rattle.kex_gate.specs.declared.view.View.{View}
use Rattle.kex_gate.specs.Passes.{Gate, Guest, Way, IsSetUp, sessions, resting, slow_seats, own_pass, guest_with_visit, room_word, bit_word}
use Rattle.pass_roles.specs.Roles.{number_of}
use Rattle.kex_gate.specs.Rule.{IsGate}
use Rattle.kex_gate.specs.Steps.{Self, last_of, IsSession, IsIdle, IsLane, StandsAt, GoesOn, guest_of, way_of, pass_at, meets_others, tested_bit, went_out, went_home, cleared_bit, gave, gave_slow}
use Rattle.kex_gate.proofs.Words.{comes, test_bit, clear_bit, gives, gives_slow}
use Rattle.kex_gate.proofs.Moving.{leaves_slot, comes_home, last_snoc}

-- a session's seat is of this table
module _ (id : TableId) (told seats : TableNet) (n m : ℕ) (self : Gate) (seat_id : TableId) (me : Self) (up : IsSetUp id told seats n m) (self_is : record { id = id; seats = seats } ≡ self) (own : seat_id ≡ self.id) (seats_is : me.0.seats ≡ self.seats) (is : me.0.role ≡ Party (number_of me.0.role)) where
  pub same_id : seat_id ≡ id
  same_id = own ∙ sym (ap (λ (g : Gate). g.id) self_is)

  pub told_is : me.0.seats ≡ told
  told_is = seats_is ∙ (sym (ap (λ (g : Gate). g.seats) self_is) ∙ sym up.told_is)

  pub width_is : self.seats.net.width ≡ m
  width_is = ap (λ (g : Gate). g.seats.net.width) (sym self_is) ∙ up.width

  pub takes_place : (seat slots : ℕ) → me.0.spot ≡ Free → (seat_id ≡ id) × (room_word < id.words) × Allows (IsGate told) slots seat me room_word (λ k. (k + (2 ^ 64 - 1)) % 2 ^ 64) (meets_others (step slots room_word 1 0 none) me)
  takes_place seat slots free = (same_id, (let a = up.words in let b = up.one in omega arith), subst (λ (t : TableNet). Allows (IsGate t) slots seat me room_word (λ k. (k + (2 ^ 64 - 1)) % 2 ^ 64) (meets_others (step slots room_word 1 0 none) me)) told_is (comes me is slots seat free))

  pub tests_bit : (seat slots w i : ℕ) → me.0.spot ≡ Testing i → i + 1 < self.seats.net.width → w ≡ bit_word i → (seat_id ≡ id) × (w < id.words) × Allows (IsGate told) slots seat me w (λ _. 1) (tested_bit (step slots w 1 0 none) me)
  tests_bit seat slots w i e low w_is = (same_id, (let a = up.words in let b = width_is in omega arith), subst (λ (x : TableNet × ℕ). Allows (IsGate x.0) slots seat me x.1 (λ _. 1) (tested_bit (step slots x.1 1 0 none) me)) (λ k. (told_is k, sym w_is k)) (test_bit me is slots seat i e))

  pub clears_bit : (seat slots w i : ℕ) → me.0.spot ≡ Clearing i → i + 1 < self.seats.net.width → w ≡ bit_word i → (seat_id ≡ id) × (w < id.words) × Allows (IsGate told) slots seat me w (λ _. 0) (λ _. cleared_bit (step slots w 0 0 none) me 0)
  clears_bit seat slots w i e low w_is = (same_id, (let a = up.words in let b = width_is in omega arith), subst (λ (x : TableNet × ℕ). Allows (IsGate x.0) slots seat me x.1 (λ _. 0) (λ _. cleared_bit (step slots x.1 0 0 none) me 0)) (λ k. (told_is k, sym w_is k)) (clear_bit me is slots seat i e))

  pub gives_place : (seat slots : ℕ) → me.0.spot ≡ Giving → (seat_id ≡ id) × (room_word < id.words) × Allows (IsGate told) slots seat me room_word (λ k. (k + 1) % 2 ^ 64) (gave (step slots room_word 1 0 none) me)
  gives_place seat slots e = (same_id, (let a = up.words in let b = up.one in omega arith), subst (λ (t : TableNet). Allows (IsGate t) slots seat me room_word (λ k. (k + 1) % 2 ^ 64) (gave (step slots room_word 1 0 none) me)) told_is (gives me is slots seat e))

  pub gives_slow_place : (seat slots x y : ℕ) → x ≡ y → me.0.spot ≡ Slow → (seat_id ≡ id) × (room_word < id.words) × Allows (IsGate told) slots seat me room_word (λ k. (k + 1) % 2 ^ 64) (gave_slow y (step slots room_word 1 0 none) me)
  gives_slow_place seat slots x y same e = (
    same_id,
    (let a = up.words in let b = up.one in omega arith),
    subst (λ (z : TableNet × ℕ). Allows (IsGate z.0) slots seat me room_word (λ k. (k + 1) % 2 ^ 64) (gave_slow z.1 (step slots room_word 1 0 none) me)) (λ k. (told_is k, same k)) (gives_slow me is slots seat x e),
  )

  pub takes_pass : (seat slots i : ℕ) → me.0.spot ≡ Taking i → (seat_id ≡ id) × (0 < id.words) × Allows (IsGate told) slots seat me 0 (λ k. k) (went_out (step slots 0 0 0 none) me)
  takes_pass seat slots i e = (same_id, (let a = up.words in omega arith), subst (λ (t : TableNet). Allows (IsGate t) slots seat me 0 (λ k. k) (went_out (step slots 0 0 0 none) me)) told_is (leaves_slot me is slots seat i e))

  pub gives_pass : (seat slots i x : ℕ) → me.0.spot ≡ Fast i → me.1 ≡ (i, Some (resting me.0.seats (sessions me.0.seats.net + i) (me.0.kept ++ x ∷ []))) ∷ []
      → (seat_id ≡ id) × (0 < id.words) × Allows (IsGate told) slots seat me 0 (λ k. k) (went_home (step slots 0 0 0 none) me)
  gives_pass seat slots i x e in_hand = (same_id, (let a = up.words in omega arith), subst (λ (t : TableNet). Allows (IsGate t) slots seat me 0 (λ k. k) (went_home (step slots 0 0 0 none) me)) told_is (comes_home me is slots seat i x e in_hand))

-- what is in hand, once the value of the slot taken last was put in its place
pub held : (c : List (ℕ × Option Pass)) (k : ℕ) (x : Option Pass) (t : List (ℕ × Option Pass)) → c ≡ (k, x) ∷ t → c ≡ (k, x) ∷ rest c
held c k x t e = e ∙ ap (λ (z : List (ℕ × Option Pass)). (k, x) ∷ z) (sym (ap rest e))

module _ (id : TableId) (told seats : TableNet) (n m : ℕ) (self : Gate) (seat_id : TableId) (me : Self) (up : IsSetUp id told seats n m) (self_is : record { id = id; seats = seats } ≡ self) (own : seat_id ≡ self.id) (seats_is : me.0.seats ≡ self.seats) (is : me.0.role ≡ Party (number_of me.0.role)) where
  -- the pass p was put into the slot in hand
  pub gives_back : (me' : Self) (seat_id' : TableId) (p : Pass) (seat slots i x : ℕ) → seat_id' ≡ seat_id → me' ≡ (me.0, (i, Some p) ∷ rest me.1) → me.0.spot ≡ Fast i → me.1 ≡ (i, None) ∷ []
      → p ≡ resting self.seats (sessions self.seats.net + i) (me.0.kept ++ x ∷ []) → (seat_id' ≡ id) × (0 < id.words) × Allows (IsGate told) slots seat me' 0 (λ k. k) (went_home (step slots 0 0 0 none) me')
  gives_back me' seat_id' p seat slots i x same_seat me_is e hand p_is =
      let here : Self = (me.0, (i, Some p) ∷ []) in
      let here_is : me' ≡ here = me_is ∙ ap (λ (c : List (ℕ × Option Pass)). let d : List (ℕ × Option Pass) = (i, Some p) ∷ rest c in (me.0, d)) hand in
      let in_hand : here.1 ≡ (i, Some (resting me.0.seats (sessions me.0.seats.net + i) (me.0.kept ++ x ∷ []))) ∷ [] =
      ap (λ (q : Pass). (i, Some q) ∷ []) (p_is ∙ ap (λ (t : TableNet). resting t (sessions t.net + i) (me.0.kept ++ x ∷ [])) (sym seats_is)) in
      let t = gives_pass id told seats n m self seat_id here up self_is own seats_is is seat slots i x e in_hand in
      (same_seat ∙ t.0, t.1, subst (λ (z : Self). Allows (IsGate told) slots seat z 0 (λ k. k) (went_home (step slots 0 0 0 none) z)) (sym here_is) t.2)

pub in_hand : (c : List (ℕ × Option Pass)) (k i : ℕ) (x : Option Pass) (t : List (ℕ × Option Pass)) → c ≡ (k, x) ∷ t → k ≡ i → c ≡ (i, x) ∷ rest c
in_hand c k i x t e same = held c k x t e ∙ ap (λ (y : ℕ). (y, x) ∷ rest c) same

-- the pass p is this one that is Out
pub is_resting : (p : Pass) (t : TableNet) (n : ℕ) (l : List ℕ) → IsOut p → p.table ≡ t → p.number ≡ n → p.got ≡ l → p ≡ resting t n l
is_resting p t n l out a b c = λ i. record { table = a i; number = b i; place = out.place_is i; firsts = out.firsts i; spins = out.spins i; got = c i }

pub slow_fast : (vs : List Visit) (x : ℕ) → slow_seats (vs ++ (record { seat = x; fast = true }) ∷ []) ≡ slow_seats vs
slow_fast [] x = refl
slow_fast (v ∷ vs) x = λ i. cond v.fast (slow_fast vs x i) (v.seat ∷ slow_fast vs x i)

cons_on : (b : Bool) (y : ℕ) (l : List ℕ) (x : ℕ) → cond b (l ++ x ∷ []) (y ∷ (l ++ x ∷ [])) ≡ cond b l (y ∷ l) ++ x ∷ []
cons_on true y l x = refl
cons_on false y l x = refl

pub slow_slow : (vs : List Visit) (x : ℕ) → slow_seats (vs ++ (record { seat = x; fast = false }) ∷ []) ≡ slow_seats vs ++ x ∷ []
slow_slow [] x = refl
slow_slow (v ∷ vs) x = (λ i. cond v.fast (slow_slow vs x i) (v.seat ∷ slow_slow vs x i)) ∙ cons_on v.fast v.seat (slow_seats vs) x

-- where a session stands that came with its own pass, or with a pass of the gate
pub stands_fast : (own : Option Pass) (g : Guest) (m : ℕ) (hand : List (ℕ × Option Pass)) (a : Spot) (x : Pass) → StandsAt own g m hand a → own ≡ Some x → (i : ℕ) × (i < m) × (a ≡ Fast i) × (hand ≡ (i, None) ∷ []) × (x ≡ own_pass g)
stands_fast own g m hand (Fast i) x s e = (i, s.0, refl, s.2, (let q : Some x ≡ Some (own_pass g) = sym e ∙ s.1 in cc))
stands_fast own g m hand Slow x s e = absurd (let q : None ≡ Some x = sym s.0 ∙ e in cc)
stands_fast own g m hand Free x s e = absurd s
stands_fast own g m hand (Testing i) x s e = absurd s
stands_fast own g m hand (Taking i) x s e = absurd s
stands_fast own g m hand (Clearing i) x s e = absurd s
stands_fast own g m hand Giving x s e = absurd s

pub stands_slow : (own : Option Pass) (g : Guest) (m : ℕ) (hand : List (ℕ × Option Pass)) (a : Spot) → StandsAt own g m hand a → own ≡ None → (a ≡ Slow) × (hand ≡ [])
stands_slow own g m hand (Fast i) s e = absurd (let q : None ≡ Some (own_pass g) = sym e ∙ s.1 in cc)
stands_slow own g m hand Slow s e = (refl, s.1)
stands_slow own g m hand Free s e = absurd s
stands_slow own g m hand (Testing i) s e = absurd s
stands_slow own g m hand (Taking i) s e = absurd s
stands_slow own g m hand (Clearing i) s e = absurd s
stands_slow own g m hand Giving s e = absurd s

-- a pass that went on by the number of a card, and was left
pub left_with : (p h q : Pass) (x : ℕ) → GoesOn p h (x ∷ []) → (q.table ≡ h.table) × (q.number ≡ h.number) → IsOut q → q.got ≡ h.got → (t : TableNet) (n : ℕ) (l : List ℕ) → p ≡ resting t n l → (q ≡ resting t n (l ++ x ∷ [])) × (last_of q.got ≡ x)
left_with p h q x on same out got t n l p_is =
    let got_is : q.got ≡ l ++ x ∷ [] = got ∙ (on.got ∙ ap (λ (z : Pass). z.got ++ x ∷ []) p_is) in
    (is_resting q t n (l ++ x ∷ []) out (same.0 ∙ (on.table ∙ ap (λ (z : Pass). z.table) p_is)) (same.1 ∙ (on.number ∙ ap (λ (z : Pass). z.number) p_is)) got_is, ap last_of got_is ∙ last_snoc l x)

-- from what is known when the gate's pass is to go home
pub goes_home : (id : TableId) (v : View) (hand : List (ℕ × Option Pass)) (own : Option Pass) (x h q : Pass) (k : ℕ) (w : Way) (self : TableNet) → way_of id v ≡ w → v.seats ≡ self → IsLane own (guest_of id v) (v, hand) → own ≡ Some x → GoesOn w.pass h (k ∷ []) → (q.table ≡ h.table) × (q.number ≡ h.number) → IsOut q → q.got ≡ h.got
    → (i : ℕ) × (i < self.net.width) × (v.spot ≡ Fast i) × (hand ≡ (i, None) ∷ []) × (q ≡ resting self (sessions self.net + i) (v.kept ++ last_of q.got ∷ []))
goes_home id v hand own x h q k w self w_is seats_is lane e on same out got =
    let st = stands_fast own (guest_of id v) v.seats.net.width hand v.spot x lane.stands e in let i : ℕ = st.0 in
    let p_is : w.pass ≡ resting v.seats (sessions v.seats.net + i) v.kept = ap (λ (z : Way). z.pass) (sym w_is) ∙ ap (pass_at v) st.2 in
    let l = left_with w.pass h q k on same out got v.seats (sessions v.seats.net + i) v.kept p_is in (
      i,
      subst (λ (t : TableNet). i < t.net.width) seats_is st.1,
      st.2,
      st.3,
      l.0 ∙ (λ j. resting (seats_is j) (sessions (seats_is j).net + i) (v.kept ++ sym l.1 j ∷ [])),
    )

-- the same where the session came with its own pass
pub left_own : (id : TableId) (v : View) (hand : List (ℕ × Option Pass)) (own : Option Pass) (h q : Pass) (k : ℕ) (w : Way) → way_of id v ≡ w → IsLane own (guest_of id v) (v, hand) → own ≡ None → GoesOn w.pass h (k ∷ []) → (q.table ≡ h.table) × (q.number ≡ h.number) → IsOut q → q.got ≡ h.got
    → q ≡ resting v.seats (number_of v.role) (slow_seats v.visits ++ k ∷ [])
left_own id v hand own h q k w w_is lane e on same out got =
    let st = stands_slow own (guest_of id v) v.seats.net.width hand v.spot lane.stands e in
    (left_with w.pass h q k on same out got v.seats (number_of v.role) (slow_seats v.visits) (ap (λ (z : Way). z.pass) (sym w_is) ∙ ap (pass_at v) st.0)).0

-- a session is Free again, with its own pass
pub idle_fast : (id : TableId) (v : View) (me : Self) (own : Pass) (x : ℕ) → IsSession v → own ≡ own_pass (guest_of id v) → (id' : TableId) → me ≡ (record v { spot = Free; visits = v.visits ++ (record { seat = x; fast = true }) ∷ []; kept = [] }, []) → IsIdle own (guest_of id' me.0) me
idle_fast id v me own x session own_is id' me_is = subst (λ (z : Self). IsIdle own (guest_of id' z.0) z) (sym me_is) record {
  session = record { role = session.role; joined = session.joined };
  spot_is = refl;
  hand = refl;
  own_is = own_is ∙ ap (resting v.seats (number_of v.role)) (sym (slow_fast v.visits x));
}

pub idle_slow : (v : View) (me : Self) (own : Pass) (x : ℕ) → IsSession v → own ≡ resting v.seats (number_of v.role) (slow_seats v.visits ++ x ∷ []) → (id' : TableId) (hand : List (ℕ × Option Pass)) → hand ≡ [] → me ≡ (record v { spot = Free; visits = v.visits ++ (record { seat = x; fast = false }) ∷ [] }, hand) → IsIdle own (guest_of id' me.0) me
idle_slow v me own x session own_is id' hand empty me_is = subst (λ (z : Self). IsIdle own (guest_of id' z.0) z) (sym me_is) record {
  session = record { role = session.role; joined = session.joined };
  spot_is = refl;
  hand = empty;
  own_is = own_is ∙ ap (resting v.seats (number_of v.role)) (sym (slow_slow v.visits x));
}

-- a pass of the gate makes at most 4m accesses until it holds, m being the number of seats
pub few_firsts : (told seats : TableNet) (id : TableId) (n m : ℕ) (self : Gate) → IsSetUp id told seats n m → record { id = id; seats = seats } ≡ self
    → ((n k : ℕ) (s : Sheet) (p : ℕ) → 2 ≤ n → 1 ≤ k → 2 * min k n < n → n + min k n ≤ 256 → IsGated n k s → n ≤ p → p < n + min k n → depth (plan s) p ≤ min k n)
    → (p f : ℕ) → (sessions self.seats.net ≤ p) × (p < sessions self.seats.net + self.seats.net.width) → f ≤ 3 * depth (plan self.seats.net) p + self.seats.net.width → f ≤ 4 * self.seats.net.width
few_firsts told seats id n m self up self_is law p f inside bound =
    let w : self.seats.net.width ≡ m = ap (λ (g : Gate). g.seats.net.width) (sym self_is) ∙ up.width in
    let q : self.seats.net.parties ≡ n + m = ap (λ (g : Gate). g.seats.net.parties) (sym self_is) ∙ up.parties in
    let gated : IsGated n m self.seats.net = subst (λ (g : Gate). IsGated n m g.seats.net) self_is up.gated in
    let two = up.two in let one = up.one in let thin = up.thin in let small = up.small in
    let low : min m n ≡ m = omega arith in
    let d = law n m self.seats.net p two one (omega arith) (omega arith) gated (omega arith) (omega arith) in omega arith

pub few_of : (told seats : TableNet) (id : TableId) (n m : ℕ) (self : Gate) → IsSetUp id told seats n m → record { id = id; seats = seats } ≡ self
    → ((n k : ℕ) (s : Sheet) (p : ℕ) → 2 ≤ n → 1 ≤ k → 2 * min k n < n → n + min k n ≤ 256 → IsGated n k s → n ≤ p → p < n + min k n → depth (plan s) p ≤ min k n)
    → (w : Way) (p f : ℕ) → w.guest.gate ≡ self → p ≡ w.pass.number → (sessions w.guest.gate.seats.net ≤ w.pass.number) × (w.pass.number < sessions w.guest.gate.seats.net + w.guest.gate.seats.net.width)
    → f ≤ 3 * depth (plan self.seats.net) p + self.seats.net.width → f ≤ 4 * self.seats.net.width
few_of told seats id n m self up self_is law w p f gate_is p_is inside bound = few_firsts told seats id n m self up self_is law p f
    (subst (λ (z : Gate × ℕ). (sessions z.0.seats.net ≤ z.1) × (z.1 < sessions z.0.seats.net + z.0.seats.net.width)) (λ i. (gate_is i, sym p_is i)) inside) bound

-- what a session had, once it was noted
pub visit_is : (id id' : TableId) (v w : View) (x k : ℕ) (g : Guest) (b f : Bool) (a : Spot) (l : List ℕ) → id' ≡ id → w ≡ record v { spot = a; visits = v.visits ++ (record { seat = x; fast = b }) ∷ []; kept = l } → x ≡ k → guest_of id v ≡ g → b ≡ f → guest_of id' w ≡ guest_with_visit g k f
visit_is id id' v w x k g b f a l same w_is x_is g_is f_is = (λ i. guest_of (same i) (w_is i)) ∙ (λ i. guest_with_visit (g_is i) (x_is i) (f_is i))

pub last_taken : (p h : Pass) (q : Pass) (k : ℕ) → GoesOn p h (k ∷ []) → q.got ≡ h.got → last_of q.got ≡ k
last_taken p h q k on got = ap last_of (got ∙ on.got) ∙ last_snoc p.got k
