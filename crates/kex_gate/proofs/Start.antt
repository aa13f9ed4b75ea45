-- The rule holds of a new gate, whose passes come in order.
use Rattle.std.proofs.Common.{◌≡◌, ◌≢◌, ℕ, zero, suc, ◌+◌, ◌<◌, ◌≤◌, List, [], ◌∷◌, ◌++◌, map, length, take, drop, get_or, slice_get, sym, refl, ap, ◌∙◌, subst, inl, arith, EachIndex, All, Option, Some}
use Rattle.std.proofs.lemmas.Option.{get_or_from_slice_get}
use mathlib.Core.Option.{some, some-ne-none}
use lib.ListN.{get_elem?}
use Rattle.atomic_table.specs.Seated.{TableId}
use Rattle.atomic_table.specs.Table.{opening, Splits}
use Rattle.atomic_table.proofs.Lists.{at_map}
use Rattle.kex_words.specs.Passes.{TableNet, Pass}
use Rattle.pass_roles.specs.Roles.{total}
use Rattle.pass_roles.proofs.Members.{each_snoc}
use Rattle.kex_gate.specs.declared.view.View.{View}
use Rattle.kex_gate.specs.Passes.{Gate, Guest, sessions, resting, fresh, room_word, bit_word, IsSetUp}
use Rattle.kex_gate.specs.Rule.{IsGate, Fits, home_worth}
use Rattle.kex_gate.specs.Steps.{Self, maker, dealt_view, newcomer, guest_of, AreInRow, IsIdle}
use Rattle.kex_gate.proofs.Split.{deals}

pub got_at : {X : Type 0} (l : List X) (i : ℕ) (x : X) → slice_get l i ≡ Some x → get_elem? l i ≡ some x
got_at [] i x e = absurd (cc)
got_at (y ∷ ys) zero x e = ap some (cc)
got_at (y ∷ ys) (suc i) x e = got_at ys i x e

pub got_take : {X : Type 0} (l : List X) (n k : ℕ) → k < n → slice_get (take n l) k ≡ slice_get l k
got_take [] zero k lt = absurd (omega arith)
got_take [] (suc n) k lt = refl
got_take (x ∷ xs) zero k lt = absurd (omega arith)
got_take (x ∷ xs) (suc n) zero lt = refl
got_take (x ∷ xs) (suc n) (suc k) lt = got_take xs n k (omega arith)

pub got_drop : {X : Type 0} (l : List X) (n k : ℕ) → slice_get (drop n l) k ≡ slice_get l (n + k)
got_drop l zero k = ap (slice_get l) (omega arith)
got_drop [] (suc n) k = refl
got_drop (x ∷ xs) (suc n) k = let a : suc (n + k) ≡ suc n + k = omega arith in got_drop xs n k ∙ ap (slice_get (x ∷ xs)) a

-- passes that took nothing are worth nothing
none_had : (f : ℕ → ℕ) (slots : List (Option Pass)) → ((i : ℕ) → i < length slots → (p : Pass) × (slice_get slots i ≡ Some (Some p)) × (p.got ≡ [])) → total (home_worth f) (map some slots) ≡ 0
none_had f [] h = refl
none_had f (x ∷ xs) h =
    let a = h 0 (omega arith) in
    let x_is : x ≡ Some a.0 = (let e : Some x ≡ Some (Some a.0) = a.1 in cc) in
    let none_of : home_worth f (some x) ≡ 0 = ap (λ (z : Option Pass). home_worth f (some z)) x_is ∙ ap (total f) a.2 in
    let b = none_had f xs (λ i l. h (suc i) (omega arith)) in omega arith

pub starts : (seats told : TableNet) (n m : ℕ) (ws : List ℕ) (slots : List (Option Pass)) → told ≡ seats → 1 ≤ m → n + m ≤ 256 → seats.net.parties ≡ n + m → seats.net.width ≡ m
    → length ws ≡ m + 1 → get_or ws room_word 0 ≡ 256 + m → ((k : ℕ) → k ≢ room_word → get_or ws k 0 ≡ 0) → length slots ≡ m → ((i : ℕ) → i < m → slice_get slots i ≡ Some (Some (resting seats (n + i) [])))
    → IsGate told (opening ws slots (maker told 0))
starts seats told n m ws slots is one small parties width wide room others count passes = subst (λ (t : TableNet). IsGate t (opening ws slots (maker t 0))) (sym is)
    (let n_is : sessions seats.net ≡ n = omega arith in record {
      made = 0;
      maker_seat = 0;
      some_seats = omega arith;
      small = omega arith;
      wide = omega arith;
      room = omega arith;
      inside = omega arith;
      behind = λ i l. omega arith;
      bits = λ i l. (others (bit_word i) (λ e. omega arith), omega arith);
      slots = λ i l. inl (refl, ([], at_map some slots i (Some (resting seats (sessions seats.net + i) [])) (got_at slots i (Some (resting seats (sessions seats.net + i) [])) (passes i (omega arith) ∙ ap (λ (k : ℕ). Some (Some (resting seats (k + i) []))) (sym n_is)))));
      books = λ f. let a = none_had f slots (λ i l. (resting seats (n + i) [], passes i (omega arith), refl)) in omega arith;
      few = omega arith;
      weights = omega arith;
      dealt = λ q l. absurd (omega arith);
      undealt = λ q _. refl;
      maker = (maker seats 0, refl, refl);
      each = each_snoc (λ (j : ℕ) (d : View). Fits seats 0 0 j d d.role) [] (maker seats 0)
          record { seats_is = refl; made_is = refl; seat_is = refl; spot_is = refl; visits = refl } (λ j d e. absurd (some-ne-none d (sym e)));
    })

-- the first of the passes goes
pub row_first : (t : TableNet) (first : ℕ) (l : List Pass) (p : Pass) → AreInRow t first l → 0 < length l → p ≡ get_or l 0 p → p ≡ resting t first []
row_first t first [] p row some_left e = absurd (omega arith)
row_first t first (x ∷ xs) p row some_left e = e ∙ (let h : Some x ≡ Some (resting t (first + 0) []) = row 0 some_left in let g : x ≡ resting t (first + 0) [] = cc in g ∙ ap (λ (k : ℕ). resting t k []) (omega arith))

pub row_on : (t : TableNet) (first : ℕ) (l m : List Pass) → AreInRow t first l → m ≡ take 0 l ++ drop 1 l → AreInRow t (first + 1) m
row_on t first [] m row e = subst (AreInRow t (first + 1)) (sym e) (λ k lt. absurd (omega arith))
row_on t first (x ∷ xs) m row e = subst (AreInRow t (first + 1)) (sym e) (λ k lt. row (suc k) (omega arith) ∙ ap (λ (j : ℕ). Some (resting t j [])) (omega arith))

-- a new session, which is Free
pub dealt_on : (m m' : Self) (t : TableNet) (i : ℕ) → m ≡ (maker t i, []) → m' ≡ (dealt_view m.0, m.1) → m' ≡ (maker t (i + 1), [])
dealt_on m m' t i e f = f ∙ ap (λ (z : Self). let w : View = dealt_view z.0 in (w, z.1)) e

pub came_new : (m m' : Self) (gate : Gate) (i : ℕ) → m ≡ (maker gate.seats i, []) → m' ≡ (newcomer m.0, []) → m' ≡ (newcomer (maker gate.seats i), [])
came_new m m' gate i e f = f ∙ ap (λ (z : Self). let w : View = newcomer z.0 in let c : List (ℕ × Option Pass) = [] in (w, c)) e

pub is_fresh : (id : TableId) (m : Self) (gate : Gate) (i : ℕ) → m ≡ (newcomer (maker gate.seats i), []) → id ≡ gate.id → guest_of id m.0 ≡ fresh gate i
is_fresh id m gate i e same = λ k. guest_of (same k) (e k).0

pub rests_new : (id : TableId) (m : Self) (gate : Gate) (i : ℕ) (p : Pass) → m ≡ (newcomer (maker gate.seats i), []) → p ≡ resting gate.seats i [] → IsIdle p (guest_of id m.0) m
rests_new id m gate i p e p_is = subst (λ (z : Self). IsIdle p (guest_of id z.0) z) (sym e) record { session = record { role = refl; joined = refl }; spot_is = refl; hand = refl; own_is = p_is }

pub splits_at : (id : TableId) (told seats : TableNet) (n m : ℕ) (self : Gate) (seat_id : TableId) (me : Self) (seat i : ℕ) → IsSetUp id told seats n m → record { id = id; seats = seats } ≡ self → seat_id ≡ self.id → me ≡ (maker self.seats i, []) → i < n
    → (seat_id ≡ id) × (0 < id.words) × Splits (IsGate told) seat me.0 (dealt_view me.0) (newcomer me.0)
splits_at id told seats n m self seat_id me seat i up self_is own me_is l =
    let told_is : self.seats ≡ told = sym (ap (λ (g : Gate). g.seats) self_is) ∙ sym up.told_is in
    let here : me.0 ≡ maker told i = ap (λ (z : Self). z.0) me_is ∙ ap (λ (t : TableNet). maker t i) told_is in
    let p : told.net.parties ≡ n + m = ap (λ (t : TableNet). t.net.parties) up.told_is ∙ up.parties in let w : told.net.width ≡ m = ap (λ (t : TableNet). t.net.width) up.told_is ∙ up.width in (
      own ∙ sym (ap (λ (g : Gate). g.id) self_is),
      (let a = up.words in omega arith),
      subst (λ (v : View). Splits (IsGate told) seat v (dealt_view v) (newcomer v)) (sym here) (deals seat (maker told i) i refl (omega arith)),
    )

pub sessions_is : (id : TableId) (told seats : TableNet) (n m : ℕ) (self : Gate) → IsSetUp id told seats n m → record { id = id; seats = seats } ≡ self → (sessions self.seats.net ≡ n) × (self.seats.net.width ≡ m) × (self.seats.net.parties ≡ n + m)
sessions_is id told seats n m self up self_is =
    let p : self.seats.net.parties ≡ n + m = ap (λ (g : Gate). g.seats.net.parties) (sym self_is) ∙ up.parties in let w : self.seats.net.width ≡ m = ap (λ (g : Gate). g.seats.net.width) (sym self_is) ∙ up.width in
    (omega arith, w, p)

pub fresh_own : (gate : Gate) (guests : List Guest) → EachIndex guests (λ i. slice_get guests i ≡ Some (fresh gate i)) → All (λ (g : Guest). g.gate ≡ gate) guests
fresh_own gate guests each = λ k d l. ap (λ (z : Guest). z.gate) (get_or_from_slice_get guests k (fresh gate k) d (each k l))
