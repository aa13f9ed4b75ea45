use Rattle.std.proofs.Common.{◌≡◌, ℕ, ◌+◌, ◌<◌, ◌≤◌, ◌^◌, true, false, List, [], None, length, get_or, ap, sym, ◌∙◌, arith, subst, vec_capacity}
use Rattle.std.specs.List.{count_by, find}
use Rattle.std.proofs.lemmas.List.Sums.{count_by-le-length}
use Rattle.lic_types.specs.declared.client.Client.{Client}
use Rattle.options_machine.specs.declared.decision.Place.TheVariants.{Away}
use Rattle.options_machine.specs.declared.effect.Effect.{Effect}
use Rattle.options_machine.specs.declared.effect.Effect.TheVariants.{Linger, Reseat, Seat}
use Rattle.options_machine.specs.declared.reply.Charge.{Charge}
use Rattle.options_machine.specs.declared.rows.Holder.{Holder}
use Rattle.options_machine.specs.declared.rows.Lingerer.{Lingerer}
use Rattle.options_machine.specs.Rules.{IsSound, Rules}
use Rattle.options_machine.specs.State.{State, in_use, is_holder, set_at}
use Rattle.options_machine.specs.Law.{IsServed}
use Rattle.options_machine.specs.Settle.{settle, with_seat_again}
use Rattle.options_machine.specs.Apply.{Fits, HasSeat, IsPlace, apply, with_lingerer, with_told}
use Rattle.options_machine.specs.Step.{with_charges_anew}
use Rattle.options_machine.specs.Kept.{IsBounded, IsKept}
use Rattle.options_machine.proofs.Keeps.{kept_settle, retakes}
use Rattle.options_machine.proofs.Owns.{found_one}
use Rattle.options_machine.proofs.Served.{settled_served}
use Rattle.options_machine.proofs.Stays.{may_free, served_after}
use Rattle.options_machine.proofs.Steps.{apply_set, away_has_none, kept_anew, kept_apply, settle_set}
use Rattle.options_machine.proofs.Bounds.{bounded_anew, bounded_apply, bounded_settle, entries_fit, entry_fits}
use Rattle.policy.specs.Books.{rules_now}
use Rattle.policy.proofs.Books.{set_is}
use Rattle.seat_counters.specs.Counts.{CounterList, Counts, HasRoomFor, counts_of, no_counts}
use Rattle.seat_counters.proofs.Effects.{counts_of-with_lingerer, counts_of-with_seat_again, counts_of-with_told}
use Rattle.seat_book.specs.Beats.{heard_after}
use Rattle.seat_book.specs.Books.{BookWithGrants, rows_of}
use Rattle.seat_book.specs.Parts.{AreCounted, HasRoom, HasSameRoom, IsBookKept, IsServable, state_of}
use Rattle.seat_book.specs.declared.parts.Parts.{Parts}
use Rattle.seat_book.proofs.Heard.{heard_after-anew, unheard_apply, unheard_settle}
use Rattle.seat_book.proofs.Offering.{grant_within}

pub same_room : (a b c : Parts) → HasSameRoom a b → HasSameRoom b c → HasSameRoom a c
same_room a b c f g = record {
  parties = g.parties ∙ f.parties;
  table = g.table ∙ f.table;
  queue = g.queue ∙ f.queue;
  reserves = g.reserves ∙ f.reserves;
  maxes = g.maxes ∙ f.maxes;
}

room_kept : (sets : List Rules) (old new : Parts) → HasSameRoom old new → HasRoom sets old → HasRoom sets new
room_kept sets old new e h = record {
  table = e.table ∙ h.table;
  queue = omega (arith, e.queue, e.parties, h.queue);
  lines = λ k below. record { reserves = omega (arith, e.reserves, (h.lines k below).reserves); maxes = omega (arith, e.maxes, (h.lines k below).maxes) };
}

-- an effect that fits leaves a book that is kept
pub book_applied : (sets : List Rules) (p new : Parts) (party : ℕ) (client : Client) (x : Effect) → IsBookKept sets p → party < p.seats.parties → Fits (set_at sets p.set) (state_of p) party client x
    → state_of new ≡ apply (state_of p) party client x → AreCounted (set_at sets p.set) new → (new.is_served ≡ true → (p.is_served ≡ true) × (may_free x ≡ false)) → HasSameRoom p new → IsBookKept sets new
book_applied sets p new party client x b within fits f counted served room =
    let r : Rules = set_at sets p.set in
    let same : new.set ≡ p.set = ap (λ (s : State). s.set) f ∙ apply_set (state_of p) party client x in
    let kept : IsKept r (apply (state_of p) party client x) = kept_apply r (state_of p) party client x fits (b.rules.sound p.set b.set) b.kept in
    record {
      rules = b.rules;
      set = omega (arith, same, b.set);
      parties = omega (arith, room.parties, b.parties);
      kept = subst (λ (m : ℕ). IsKept (set_at sets m) (state_of new)) (sym same) (subst (IsKept r) (sym f) kept);
      bounded = subst (λ (n : ℕ). IsBounded n (state_of new)) (sym room.parties) (subst (IsBounded p.seats.parties) (sym f) (bounded_apply p.seats.parties r (state_of p) party client x fits within b.bounded));
      unheard = subst (λ (s : State). heard_after s.now s.holders ≡ 0) (sym f) (unheard_apply (state_of p) party client x b.unheard);
      counted = subst (λ (m : ℕ). AreCounted (set_at sets m) new) (sym same) counted;
      served = λ e.
          let (was, stays) = served e in
          subst (λ (m : ℕ). IsServed (set_at sets m) (state_of new)) (sym same) (subst (IsServed r) (sym f) (served_after r (state_of p) party client x stays fits (b.served was)));
      room = room_kept sets p new room b.room;
    }

-- what is seen of the fields of a book
abbrev pub seen_of : List Rules → Parts → ℕ → BookWithGrants
seen_of sets p grants = record { sets = sets; parties = p.seats.parties; state = state_of p; grants = grants }

-- the same, where what is asked is asked of what is seen
pub book_changed : (b : BookWithGrants) (sets : List Rules) (p new : Parts) (grants party : ℕ) (client : Client) (x : Effect) → seen_of sets p grants ≡ b → IsBookKept sets p → party < b.parties → Fits (rules_now (rows_of b)) b.state party client x
    → state_of new ≡ apply (state_of p) party client x → AreCounted (set_at sets p.set) new → (new.is_served ≡ true → (p.is_served ≡ true) × (may_free x ≡ false)) → HasSameRoom p new → IsBookKept sets new
book_changed b sets p new grants party client x e k within fits =
    book_applied sets p new party client x k (subst (λ (v : BookWithGrants). party < v.parties) (sym e) within) (subst (λ (v : BookWithGrants). Fits (rules_now (rows_of v)) v.state party client x) (sym e) fits)

-- the rules that hold are those at their place
pub rules_are : (sets : List Rules) (p : Parts) (r : Rules) → IsBookKept sets p → r ≡ get_or sets p.set r → r ≡ set_at sets p.set
rules_are sets p r b at = set_is sets p.set r b.set at

pub book_servable : (sets : List Rules) (p : Parts) (r : Rules) → IsBookKept sets p → r ≡ get_or sets p.set r → IsServable r p
book_servable sets p r b at =
    let e : r ≡ set_at sets p.set = rules_are sets p r b at in
    record {
      sound = subst IsSound (sym e) (b.rules.sound p.set b.set);
      kept = subst (λ (x : Rules). IsKept x (state_of p)) (sym e) b.kept;
      bounded = b.bounded;
      counted = subst (λ (x : Rules). AreCounted x p) (sym e) b.counted;
    }

pub book_served : (sets : List Rules) (p : Parts) (r : Rules) → IsBookKept sets p → r ≡ get_or sets p.set r → p.is_served ≡ true → IsServed r (state_of p)
book_served sets p r b at is = subst (λ (x : Rules). IsServed x (state_of p)) (sym (rules_are sets p r b at)) (b.served is)

-- settling leaves a book that is kept
pub book_settled : (sets : List Rules) (p new : Parts) (r : Rules) (moment : ℕ) → IsBookKept sets p → r ≡ get_or sets p.set r → state_of new ≡ settle r (state_of p) moment → AreCounted r new → HasSameRoom p new → IsBookKept sets new
book_settled sets p new r moment b at f counted room =
    let e : r ≡ set_at sets p.set = rules_are sets p r b at in
    let same : new.set ≡ p.set = ap (λ (s : State). s.set) f ∙ settle_set r (state_of p) moment in
    let now_is : r ≡ set_at sets new.set = e ∙ ap (set_at sets) (sym same) in
    let s : IsServable r p = book_servable sets p r b at in
    record {
      rules = b.rules;
      set = omega (arith, same, b.set);
      parties = omega (arith, room.parties, b.parties);
      kept = subst (λ (x : Rules). IsKept x (state_of new)) now_is (subst (IsKept r) (sym f) (kept_settle r (state_of p) moment s.sound s.kept));
      bounded = subst (λ (n : ℕ). IsBounded n (state_of new)) (sym room.parties) (subst (IsBounded p.seats.parties) (sym f) (bounded_settle p.seats.parties r (state_of p) moment b.bounded));
      unheard = subst (λ (t : State). heard_after t.now t.holders ≡ 0) (sym f) (unheard_settle r (state_of p) moment b.unheard);
      counted = subst (λ (x : Rules). AreCounted x new) now_is counted;
      served = λ is. subst (λ (x : Rules). IsServed x (state_of new)) now_is (subst (IsServed r) (sym f) (settled_served r (state_of p) moment));
      room = room_kept sets p new room b.room;
    }

-- a rereading leaves a book that is kept
pub book_reread : (sets : List Rules) (p new : Parts) (r : Rules) (m : ℕ) → IsBookKept sets p → m < length sets → r ≡ get_or sets m r → state_of new ≡ with_charges_anew r (record (state_of p) { set = m })
    → AreCounted r new → new.is_served ≡ false → HasSameRoom p new → IsBookKept sets new
book_reread sets p new r m b below at f counted unserved room =
    let e : r ≡ set_at sets m = set_is sets m r below at in
    let same : new.set ≡ m = ap (λ (s : State). s.set) f in
    let now_is : r ≡ set_at sets new.set = e ∙ ap (set_at sets) (sym same) in
    let sound : IsSound r = subst IsSound (sym e) (b.rules.sound m below) in
    let count : (set_at sets p.set).count ≡ r.count = b.rules.same p.set b.set ∙ sym (b.rules.same m below) ∙ ap (λ (x : Rules). x.count) (sym e) in
    let before : IsKept (set_at sets p.set) (record (state_of p) { set = m }) = record { within = b.kept.within; reserved = b.kept.reserved; single = b.kept.single } in
    let kept : IsKept r (with_charges_anew r (record (state_of p) { set = m })) = kept_anew (set_at sets p.set) r (record (state_of p) { set = m }) sound count before in
    let bounded : IsBounded p.seats.parties (record (state_of p) { set = m }) = record { outside = b.bounded.outside; lingering = b.bounded.lingering; moment = b.bounded.moment } in
    record {
      rules = b.rules;
      set = omega (arith, same, below);
      parties = omega (arith, room.parties, b.parties);
      kept = subst (λ (x : Rules). IsKept x (state_of new)) now_is (subst (IsKept r) (sym f) kept);
      bounded = subst (λ (n : ℕ). IsBounded n (state_of new)) (sym room.parties) (subst (IsBounded p.seats.parties) (sym f) (bounded_anew p.seats.parties r (record (state_of p) { set = m }) bounded));
      unheard = subst (λ (t : State). heard_after t.now t.holders ≡ 0) (sym f) (heard_after-anew r [] p.moment p.seats.holders ∙ b.unheard);
      counted = subst (λ (x : Rules). AreCounted x new) now_is counted;
      served = λ is. let never : false ≡ true = sym unserved ∙ is in absurd (cc);
      room = room_kept sets p new room b.room;
    }

-- the seats in use are few, and so are the entries of holders and queue
pub book_few : (sets : List Rules) (p : Parts) → IsBookKept sets p → in_use (state_of p) < 2 ^ 32
book_few sets p b = omega (arith, b.kept.within, (b.rules.sound p.set b.set).few)

pub book_short : (sets : List Rules) (p : Parts) → IsBookKept sets p → length p.seats.holders + length p.queue.items ≤ 256
book_short sets p b = omega (arith, entries_fit p.seats.parties (state_of p) b.kept.single b.bounded.outside, b.parties)

-- room for one more entry of the queue, of a party that has nothing
pub queue_room : (b : BookWithGrants) (sets : List Rules) (p : Parts) (grants party : ℕ) → seen_of sets p grants ≡ b → IsBookKept sets p → party < b.parties → IsPlace b.state party Away → length p.queue.items < vec_capacity p.queue
queue_room b sets p grants party e k within away =
    let away_there : IsPlace (state_of p) party Away = subst (λ (v : BookWithGrants). IsPlace v.state party Away) (sym e) away in
    let within_there : party < p.seats.parties = subst (λ (v : BookWithGrants). party < v.parties) (sym e) within in
    let fits : length p.seats.holders + length p.queue.items < p.seats.parties = entry_fits p.seats.parties (state_of p) party within_there (away_has_none (state_of p) party away_there) k.kept.single k.bounded.outside in
    omega (arith, fits, k.room.queue)

-- room for one more entry that lingers, of a party that has a seat
pub table_room : (b : BookWithGrants) (sets : List Rules) (p : Parts) (grants party : ℕ) (client : Client) (l : Lingerer) → seen_of sets p grants ≡ b → IsBookKept sets p → Fits (rules_now (rows_of b)) b.state party client (Linger l) → length p.table.entries < p.table.room
table_room b sets p grants party client l e k fits =
    let (h, found, who, charge, room) = subst (λ (v : BookWithGrants). Fits (rules_now (rows_of v)) v.state party client (Linger l)) (sym e) fits in
    let one : 1 ≤ count_by (is_holder party) p.seats.holders = found_one (is_holder party) p.seats.holders h found in
    let most : count_by (is_holder party) p.seats.holders ≤ length p.seats.holders = count_by-le-length (is_holder party) p.seats.holders in
    omega (arith, one, most, room, k.kept.within, k.rules.same p.set k.set, k.room.table)

-- the counters count by the rules that hold

pub counted_by : (sets : List Rules) (p : Parts) (r : Rules) (new : Parts) → IsBookKept sets p → r ≡ get_or sets p.set r → AreCounted r new → AreCounted (set_at sets p.set) new
counted_by sets p r new b at counted = subst (λ (x : Rules). AreCounted x new) (rules_are sets p r b at) counted

pub counted_same : (r : Rules) (p new : Parts) (s : State) → AreCounted r p → new.counters.counts ≡ p.counters.counts → state_of new ≡ s → counts_of r s ≡ counts_of r (state_of p) → AreCounted r new
counted_same r p new s counted same f e = same ∙ counted ∙ sym e ∙ ap (counts_of r) (sym f)

one_seat : (r : Rules) (s : State) (party : ℕ) → IsKept r s → count_by (is_holder party) s.holders ≤ 1
one_seat r s party k = omega (arith, k.single party)

pub counted_tell : (sets : List Rules) (p new : Parts) (party : ℕ) → IsBookKept sets p → new.counters.counts ≡ p.counters.counts → state_of new ≡ with_told (state_of p) party → AreCounted (set_at sets p.set) new
counted_tell sets p new party b same f = counted_same (set_at sets p.set) p new (with_told (state_of p) party) b.counted same f (counts_of-with_told (set_at sets p.set) (state_of p) party)

pub counted_linger : (b : BookWithGrants) (sets : List Rules) (p new : Parts) (grants party : ℕ) (client : Client) (l : Lingerer) → seen_of sets p grants ≡ b → IsBookKept sets p → Fits (rules_now (rows_of b)) b.state party client (Linger l)
    → new.counters.counts ≡ p.counters.counts → state_of new ≡ with_lingerer (state_of p) party l → AreCounted (set_at sets p.set) new
counted_linger b sets p new grants party client l e k fits same f =
    let (h, found, who, charge, room) = subst (λ (v : BookWithGrants). Fits (rules_now (rows_of v)) v.state party client (Linger l)) (sym e) fits in
    let r : Rules = set_at sets p.set in
    counted_same r p new (with_lingerer (state_of p) party l) k.counted same f (counts_of-with_lingerer r (state_of p) party h l found (one_seat r (state_of p) party k.kept) who charge)

pub counted_reseat : (b : BookWithGrants) (sets : List Rules) (p new : Parts) (grants party : ℕ) (client : Client) (charge : Charge) → seen_of sets p grants ≡ b → IsBookKept sets p → Fits (rules_now (rows_of b)) b.state party client (Reseat charge)
    → new.counters.counts ≡ p.counters.counts → state_of new ≡ with_seat_again (state_of p) party client charge true → AreCounted (set_at sets p.set) new
counted_reseat b sets p new grants party client charge e k fits same f =
    let (away, d) = subst (λ (v : BookWithGrants). Fits (rules_now (rows_of v)) v.state party client (Reseat charge)) (sym e) fits in
    let r : Rules = set_at sets p.set in
    counted_same r p new (with_seat_again (state_of p) party client charge true) k.counted same f (counts_of-with_seat_again r (state_of p) party client charge true (retakes r (state_of p) client charge d))

-- what is asked of a party, of what is kept

pub party_inside : (b : BookWithGrants) (sets : List Rules) (p : Parts) (grants party : ℕ) → seen_of sets p grants ≡ b → party < b.parties → party < p.seats.parties
party_inside b sets p grants party e within = subst (λ (v : BookWithGrants). party < v.parties) (sym e) within

pub seat_there : (b : BookWithGrants) (sets : List Rules) (p : Parts) (grants party : ℕ) → seen_of sets p grants ≡ b → HasSeat b.state party → HasSeat (state_of p) party
seat_there b sets p grants party e seat = subst (λ (v : BookWithGrants). HasSeat v.state party) (sym e) seat

pub none_there : (b : BookWithGrants) (sets : List Rules) (p : Parts) (grants party : ℕ) → seen_of sets p grants ≡ b → IsPlace b.state party Away → find (is_holder party) p.seats.holders ≡ None
none_there b sets p grants party e away = subst (λ (v : BookWithGrants). find (is_holder party) v.state.holders ≡ None) (sym e) away.0

pub seat_few : (b : BookWithGrants) (sets : List Rules) (p : Parts) (grants party : ℕ) (client : Client) (charge : Charge) → seen_of sets p grants ≡ b → IsBookKept sets p → Fits (rules_now (rows_of b)) b.state party client (Seat charge) → in_use (state_of p) + 1 < 2 ^ 32
seat_few b sets p grants party client charge e k fits =
    let (away, d) = subst (λ (v : BookWithGrants). Fits (rules_now (rows_of v)) v.state party client (Seat charge)) (sym e) fits in
    let r : Rules = set_at sets p.set in
    grant_within r (state_of p) (record { party = party; client = client }) charge d (k.rules.sound p.set k.set) k.kept

-- a book without seats counts none

pub counted_none : (r first : Rules) (p : Parts) → p.seats.holders ≡ [] → p.table.entries ≡ [] → first ≡ r → p.counters.counts ≡ no_counts first → AreCounted r p
counted_none r first p h l e c = c ∙ ap no_counts e ∙ sym (ap (λ (s : State). counts_of r s) (ap (λ (hs : List Holder). record (state_of p) { holders = hs }) h ∙ ap (λ (ls : List Lingerer). record (state_of p) { holders = []; lingering = ls }) l))

pub room_cleared : (sets read : List Rules) (k : ℕ) (made : CounterList) (new : Counts) → read ≡ sets → ((k : ℕ) → k < length read → HasRoomFor (set_at read k) made) → k < length sets → HasRoomFor (set_at sets k) (record made { counts = new })
room_cleared sets read k made new same room less =
    let r : HasRoomFor (set_at sets k) made = subst (λ (rs : List Rules). HasRoomFor (set_at rs k) made) same (room k (subst (λ (rs : List Rules). k < length rs) (sym same) less)) in
    record { reserves = r.reserves; maxes = r.maxes }
