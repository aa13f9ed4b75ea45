use Rattle.std.proofs.Common.{◌≡◌, ℕ, ◌+◌, ◌<◌, ◌≤◌, ◌^◌, List, length, get_or, ap, sym, ◌∙◌, arith, subst, vec_capacity}
use Rattle.std.proofs.lemmas.Grind.{common_steps}
use Rattle.lic_types.specs.declared.client.Client.{Client}
use Rattle.options_machine.specs.declared.decision.Place.TheVariants.{Away}
use Rattle.policy.specs.declared.lists.Lists.{Lists}
use Rattle.options_machine.specs.declared.effect.Effect.{Effect}
use Rattle.options_machine.specs.Rules.{IsSound, Rules}
use Rattle.options_machine.specs.State.{State, set_at}
use Rattle.options_machine.specs.Settle.{settle}
use Rattle.options_machine.specs.Apply.{Fits, IsPlace, apply}
use Rattle.options_machine.specs.Step.{with_charges_anew}
use Rattle.policy.specs.Books.{Book, rules_now}
use Rattle.policy.specs.Kept.{HasRoom, HasSameRoom, IsBookKept, state_of}
use Rattle.options_machine.specs.Kept.{IsBounded, IsKept}
use Rattle.options_machine.proofs.Keeps.{kept_settle}
use Rattle.options_machine.proofs.Steps.{apply_set, away_has_none, kept_anew, kept_apply, settle_set}
use Rattle.options_machine.proofs.Bounds.{bounded_anew, bounded_apply, bounded_settle, entries_fit, entry_fits}

-- the rule set at a place
pub set_is : (sets : List Rules) (n : ℕ) (r : Rules) → n < length sets → r ≡ get_or sets n r → r ≡ set_at sets n
set_is sets n r h e = grind (arith, common_steps)

-- a book has room for its parties
pub book_fits : (sets : List Rules) (n : ℕ) (l : Lists) → IsBookKept sets n l → length l.holders.items + length l.queue.items ≤ vec_capacity l.holders
book_fits sets n l b = omega (arith, entries_fit n (state_of l) b.kept.single b.bounded.outside, b.room.holders)

room_kept : (n : ℕ) (old new : Lists) → HasSameRoom old new → HasRoom n old → HasRoom n new
room_kept n old new e h = record {
  holders = omega (arith, e.holders, h.holders);
  lingering = omega (arith, e.lingering, h.lingering);
  queue = omega (arith, e.queue, h.queue);
}

-- settling leaves a book that is kept
pub book_settled : (sets : List Rules) (n : ℕ) (l new : Lists) (r : Rules) (moment : ℕ) → IsBookKept sets n l → r ≡ get_or sets l.set r → state_of new ≡ settle r (state_of l) moment → HasSameRoom l new → IsBookKept sets n new
book_settled sets n l new r moment b at f room =
    let e : r ≡ set_at sets l.set = set_is sets l.set r b.set at in
    let same : new.set ≡ l.set = ap (λ (s : State). s.set) f ∙ settle_set r (state_of l) moment in
    let sound : IsSound r = subst (λ (x : Rules). IsSound x) (sym e) (b.rules.sound l.set b.set) in
    let before : IsKept r (state_of l) = subst (λ (x : Rules). IsKept x (state_of l)) (sym e) b.kept in
    let kept : IsKept r (settle r (state_of l) moment) = kept_settle r (state_of l) moment sound before in
    record {
      rules = b.rules;
      set = omega (arith, same, b.set);
      parties = b.parties;
      kept = subst (λ (x : Rules). IsKept x (state_of new)) (e ∙ ap (set_at sets) (sym same)) (subst (λ (s : State). IsKept r s) (sym f) kept);
      bounded = subst (λ (s : State). IsBounded n s) (sym f) (bounded_settle n r (state_of l) moment b.bounded);
      room = room_kept n l new room b.room;
    }

-- a rereading leaves a book that is kept
pub book_reread : (sets : List Rules) (n : ℕ) (l new : Lists) (r : Rules) (m : ℕ) → IsBookKept sets n l → m < length sets → r ≡ get_or sets m r
    → state_of new ≡ with_charges_anew r (record (state_of l) { set = m }) → HasSameRoom l new → IsBookKept sets n new
book_reread sets n l new r m b below at f room =
    let e : r ≡ set_at sets m = set_is sets m r below at in
    let same : new.set ≡ m = ap (λ (s : State). s.set) f in
    let sound : IsSound r = subst (λ (x : Rules). IsSound x) (sym e) (b.rules.sound m below) in
    let count : (set_at sets l.set).count ≡ r.count = b.rules.same l.set b.set ∙ sym (b.rules.same m below) ∙ ap (λ (x : Rules). x.count) (sym e) in
    let before : IsKept (set_at sets l.set) (record (state_of l) { set = m }) = record { within = b.kept.within; reserved = b.kept.reserved; single = b.kept.single } in
    let kept : IsKept r (with_charges_anew r (record (state_of l) { set = m })) = kept_anew (set_at sets l.set) r (record (state_of l) { set = m }) sound count before in
    let bounded : IsBounded n (record (state_of l) { set = m }) = record { outside = b.bounded.outside; lingering = b.bounded.lingering; moment = b.bounded.moment } in
    record {
      rules = b.rules;
      set = omega (arith, same, below);
      parties = b.parties;
      kept = subst (λ (x : Rules). IsKept x (state_of new)) (e ∙ ap (set_at sets) (sym same)) (subst (λ (s : State). IsKept r s) (sym f) kept);
      bounded = subst (λ (s : State). IsBounded n s) (sym f) (bounded_anew n r (record (state_of l) { set = m }) bounded);
      room = room_kept n l new room b.room;
    }

-- an effect that fits leaves a book that is kept
pub book_applied : (sets : List Rules) (n : ℕ) (l new : Lists) (party : ℕ) (client : Client) (x : Effect) → IsBookKept sets n l → party < n → Fits (set_at sets l.set) (state_of l) party client x
    → state_of new ≡ apply (state_of l) party client x → HasSameRoom l new → IsBookKept sets n new
book_applied sets n l new party client x b within fits f room =
    let r : Rules = set_at sets l.set in
    let same : new.set ≡ l.set = ap (λ (s : State). s.set) f ∙ apply_set (state_of l) party client x in
    let kept : IsKept r (apply (state_of l) party client x) = kept_apply r (state_of l) party client x fits (b.rules.sound l.set b.set) b.kept in
    record {
      rules = b.rules;
      set = omega (arith, same, b.set);
      parties = b.parties;
      kept = subst (λ (m : ℕ). IsKept (set_at sets m) (state_of new)) (sym same) (subst (IsKept r) (sym f) kept);
      bounded = subst (IsBounded n) (sym f) (bounded_apply n r (state_of l) party client x fits within b.bounded);
      room = room_kept n l new room b.room;
    }

-- room for one more that has nothing
pub book_room : (sets : List Rules) (n : ℕ) (l : Lists) (party : ℕ) → IsBookKept sets n l → party < n → IsPlace (state_of l) party Away → (length l.holders.items < vec_capacity l.holders) × (length l.queue.items < vec_capacity l.queue)
book_room sets n l party b within away =
    let fits : length l.holders.items + length l.queue.items < n = entry_fits n (state_of l) party within (away_has_none (state_of l) party away) b.kept.single b.bounded.outside in
    (omega (arith, fits, b.room.holders), omega (arith, fits, b.room.queue))

-- the seats in use are few
pub book_few : (sets : List Rules) (n : ℕ) (l : Lists) → IsBookKept sets n l → length l.holders.items + length l.lingering.items < 2 ^ 32
book_few sets n l b = omega (arith, b.kept.within, (b.rules.sound l.set b.set).few)

pub book_short : (sets : List Rules) (n : ℕ) (l : Lists) → IsBookKept sets n l → length l.holders.items + length l.queue.items ≤ 256
book_short sets n l b = omega (arith, entries_fit n (state_of l) b.kept.single b.bounded.outside, b.parties)

-- what is seen of the fields of a book
abbrev pub seen_of : List Rules → ℕ → Lists → Book
seen_of sets n l = record { sets = sets; parties = n; state = state_of l }

-- the same, where what is asked is asked of what is seen
pub book_changed : (b : Book) (sets : List Rules) (n : ℕ) (l new : Lists) (party : ℕ) (client : Client) (x : Effect) → seen_of sets n l ≡ b → IsBookKept sets n l → party < b.parties → Fits (rules_now b) b.state party client x
    → state_of new ≡ apply (state_of l) party client x → HasSameRoom l new → IsBookKept sets n new
book_changed b sets n l new party client x e k within fits =
    book_applied sets n l new party client x k (subst (λ (v : Book). party < v.parties) (sym e) within) (subst (λ (v : Book). Fits (rules_now v) v.state party client x) (sym e) fits)

-- room for one more that has nothing, by what is seen
pub room_seen : (b : Book) (sets : List Rules) (n : ℕ) (l : Lists) (party : ℕ) → seen_of sets n l ≡ b → IsBookKept sets n l → party < b.parties → IsPlace b.state party Away → (length l.holders.items < vec_capacity l.holders) × (length l.queue.items < vec_capacity l.queue)
room_seen b sets n l party e k within away =
    book_room sets n l party k (subst (λ (v : Book). party < v.parties) (sym e) within) (subst (λ (v : Book). IsPlace v.state party Away) (sym e) away)
