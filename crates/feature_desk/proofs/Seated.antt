-- A seat that was brought and entered, and steps towards one.
use Rattle.std.proofs.Common.{◌≡◌, ℕ, ◌+◌, ◌<◌, Bool, true, false, ◌||◌, cond, arith, List, [], ◌∷◌, ◌++◌, length, ltb, refl, ap, sym, ◌∙◌, subst, length-append, None}
use Rattle.std.proofs.lemmas.Bool.{lt-ltb}
use Rattle.std.proofs.lemmas.List.Folds.{list_all-append}
use Rattle.kex_core.specs.declared.place.Place.TheVariants.{Holding}
use Rattle.kex_core.specs.Shapes.{plan}
use Rattle.desk_seats.specs.declared.turns.SeatTurn.{SeatTurn}
use Rattle.desk_seats.specs.declared.turns.SeatTurn.TheVariants.{Again, Through}
use Rattle.desk_seats.specs.Passes.{SeatHeld, SeatPass}
use Rattle.desk_seats.specs.Turns.{Goes, IsAgain, IsThrough, pass_in_turn}
use Rattle.desk_seats.specs.Views.{SeatsView}
use Rattle.counter.specs.declared.counter.Asked.{Asked}
use Rattle.counter.specs.Account.{brings_seat}
use Rattle.feature_desk.specs.declared.passes.Chair.{Chair}
use Rattle.feature_desk.specs.declared.passes.Chair.TheVariants as chair
use Rattle.feature_desk.specs.declared.passes.Seating.{Seating}
use Rattle.feature_desk.specs.declared.passes.Seating.TheVariants as seating
use Rattle.feature_desk.specs.Sitters.{NotedView, Sitter}
use Rattle.desk_book.specs.Askers.{Asker}
use Rattle.feature_desk.specs.Sittings.{Agree, AreLow, Sits, Waits, is_entering, is_hold, pass_in}
use Rattle.feature_desk.specs.Seatings.{Gives, GoesOn, IsUnderWay, MatchedAs, Matches, Starts}
use Rattle.feature_desk.proofs.Lasts.{last_of}

low_more : (width : ℕ) (got : List ℕ) (s : ℕ) → AreLow width got → s < width → AreLow width (got ++ s ∷ [])
low_more width got s low new = list_all-append (λ n. ltb n width) got (s ∷ []) ∙ rw (low, lt-ltb s width new) refl

-- whoever has entered a seat that was brought agrees with its entries
pub agrees_brought : (t : Asker) (c : Chair) (queued : Bool) (a : Asked) (h : SeatHeld) (d : SeatsView) → Waits t c queued a → brings_seat a.reply ≡ true
    → (pass_in c).table ≡ d → h.pass.table ≡ (pass_in c).table → h.pass.number ≡ (pass_in c).number → h.pass.place ≡ Holding h.card.number
    → h.pass.got ≡ (pass_in c).got ++ h.card.number ∷ [] → h.card.number < d.net.width → Agree t (chair.Hold h) queued
agrees_brought t c queued a h d w brings at table number place got low =
    let wide : h.pass.table.net.width ≡ d.net.width = ap (λ (z : SeatsView). z.net.width) (table ∙ at) in
    let olds : AreLow d.net.width (pass_in c).got = subst (λ (z : SeatsView). AreLow z.net.width (pass_in c).got) at w.belong.low in
    record {
      belong = record {
        number = number ∙ w.belong.number;
        low = subst (λ (n : ℕ). AreLow n h.pass.got) (sym wide) (subst (AreLow d.net.width) (sym got) (low_more d.net.width (pass_in c).got h.card.number olds low));
      };
      sits = record { place = place; last = last_of None h.pass.got (pass_in c).got h.card.number got };
      rests = refl;
      held = sym (w.brought brings) ∙ w.held;
      queued_is = w.queued_is;
      count =
          let n : length h.pass.got ≡ length (pass_in c).got + 1 = ap length got ∙ length-append (pass_in c).got (h.card.number ∷ []) in
          let m : length (pass_in c).got + 1 ≡ _ = sym (ap (λ (b : Bool). length (pass_in c).got + cond b 1 0) brings) ∙ w.count in
          n ∙ m;
    }

or_held : (b h : Bool) → (b ≡ true → h ≡ true) → (b || h) ≡ h
or_held true h f = sym (f refl)
or_held false h f = refl

-- as many numbers more as seats that were brought
got_more : (b h : Bool) (old new : SeatPass) → Matches b h old new → length new.got ≡ length old.got + cond b 1 0
got_more true h old new (s, place, got) = ap length got ∙ length-append old.got (s ∷ [])
got_more false true old new (there, same) = let e = ap (λ (p : SeatPass). length p.got) same in omega (arith, e)
got_more false false old new (out, got) = let e = ap length got in omega (arith, e)

-- whoever's seat was made to agree with an entry agrees with its entries
pub agrees_so : (t : Asker) (c d : Chair) (queued : Bool) (a : Asked) (v : SeatsView) → Waits t c queued a → (pass_in c).table ≡ v → ((pass_in d).table ≡ (pass_in c).table) × ((pass_in d).number ≡ (pass_in c).number)
    → Sits d × (is_entering d ≡ false) × (is_hold d ≡ (brings_seat a.reply || a.held)) → Matches (brings_seat a.reply) a.held (pass_in c) (pass_in d)
    → (AreLow v.net.width (pass_in c).got → AreLow v.net.width (pass_in d).got) → Agree t d queued
agrees_so t c d queued a v w at own (sits, rests, hold) matched low = record {
  belong = record {
    number = own.1 ∙ w.belong.number;
    low = subst (λ (z : SeatsView). AreLow z.net.width (pass_in d).got) (sym (own.0 ∙ at)) (low (subst (λ (z : SeatsView). AreLow z.net.width (pass_in c).got) at w.belong.low));
  };
  sits = sits;
  rests = rests;
  held = hold ∙ (or_held (brings_seat a.reply) a.held w.brought ∙ w.held);
  queued_is = w.queued_is;
  count = got_more (brings_seat a.reply) a.held (pass_in c) (pass_in d) matched ∙ w.count;
}

-- a party that is not among the stages is through
again_or_through : (t : SeatTurn) → (IsAgain t → IsThrough t → ⊥) × ((IsThrough t → ⊥) → IsAgain t)
again_or_through (Again e) = (λ a th. th, λ no. tt)
again_or_through (Through h) = (λ a th. a, λ no. no tt)

-- a step towards a seat that was brought goes on where it left the party among the stages
pub goes_on : (b entering : Bool) (p : SeatPass) (t : SeatTurn) (s : Seating) → b ≡ true → (pass_in_turn t).table ≡ p.table → (pass_in_turn t).number ≡ p.number
    → Starts entering p t → Gives t s → (IsUnderWay s → IsAgain t) → (IsAgain t → IsUnderWay s) → GoesOn b entering p s
goes_on false entering p t s is table number starts gives f g = absurd (let never : false ≡ true = is in cc)
goes_on true true p t s is table number starts gives f g = (t, starts, gives)
goes_on true false p t s is table number (out, rests, goes, begins) gives f g = record {
  plain = λ none.
      let gate : out.table.gate ≡ None = ap (λ (v : SeatsView). v.gate) goes.table ∙ none in
      let at = (begins.plain gate).1 in
      let start : (plan out.table.net).start out.number ≡ (plan p.table.net).start p.number = (λ i. (plan (goes.table i).net).start (goes.number i)) in
      let stages : (plan out.table.net).stages ≡ (plan p.table.net).stages = ap (λ (z : SeatsView). (plan z.net).stages) goes.table in
      let a = again_or_through t in
      (λ under ends. a.0 (f under) (at.1 (start ∙ (ends ∙ sym stages))), λ not_there. g (a.1 (λ th. not_there (sym start ∙ (at.0 th ∙ stages)))));
  begun = (t, (out, rests, goes, begins), gives);
}

pub matched_brought : (n : NotedView) (p : Sitter) (s : ℕ) → brings_seat n.asked.reply ≡ true → p.ticket ≡ n.sitter.ticket → p.seat.place ≡ Holding s → p.seat.got ≡ n.sitter.seat.got ++ s ∷ [] → Goes n.sitter.seat p.seat → MatchedAs n p
matched_brought n p s brings ticket place got goes = record { ticket = ticket; seat = subst (λ (b : Bool). Matches b n.asked.held n.sitter.seat p.seat) (sym brings) (s, place, got); goes = goes }

gives_way : (t : SeatTurn) (m : NotedView) → IsAgain t → m.sitter.seat ≡ pass_in_turn t → Gives t (seating.Again m)
gives_way (Again e) m again seat = seat
gives_way (Through h) m again seat = again

gives_seat : (t : SeatTurn) (p : Sitter) (a : Asked) → IsThrough t → Goes (pass_in_turn t) p.seat → Gives t (seating.Matched p a)
gives_seat (Again e) p a through goes = through
gives_seat (Through h) p a through goes = goes

-- a step that left the party among the stages
pub under_way : (n k m : NotedView) (t : SeatTurn) → n ≡ k → brings_seat n.asked.reply ≡ true → (pass_in_turn t).table ≡ n.sitter.seat.table → (pass_in_turn t).number ≡ n.sitter.seat.number
    → Starts n.entering n.sitter.seat t → IsAgain t → m.sitter.seat ≡ pass_in_turn t → GoesOn (brings_seat k.asked.reply) k.entering k.sitter.seat (seating.Again m)
under_way n k m t same brings table number starts again seat =
    subst (λ (z : NotedView). GoesOn (brings_seat z.asked.reply) z.entering z.sitter.seat (seating.Again m)) same
    (goes_on (brings_seat n.asked.reply) n.entering n.sitter.seat t (seating.Again m) brings table number starts (gives_way t m again seat) (λ u. again) (λ a. tt))

-- a step that led through the stages
pub there : (n k : NotedView) (p : Sitter) (a : Asked) (t : SeatTurn) → n ≡ k → brings_seat n.asked.reply ≡ true → (pass_in_turn t).table ≡ n.sitter.seat.table → (pass_in_turn t).number ≡ n.sitter.seat.number
    → Starts n.entering n.sitter.seat t → IsThrough t → Goes (pass_in_turn t) p.seat → GoesOn (brings_seat k.asked.reply) k.entering k.sitter.seat (seating.Matched p a)
there n k p a t same brings table number starts through goes =
    subst (λ (z : NotedView). GoesOn (brings_seat z.asked.reply) z.entering z.sitter.seat (seating.Matched p a)) same
    (goes_on (brings_seat n.asked.reply) n.entering n.sitter.seat t (seating.Matched p a) brings table number starts (gives_seat t p a through goes) (λ under. absurd under) (λ again. (again_or_through t).0 again through))
