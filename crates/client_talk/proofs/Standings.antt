-- The turns of a client that stands at a desk, one after another.
use Rattle.std.proofs.Common.{◌≡◌, ◌∙◌, ℕ, Bool, true, false, ◌&&◌, not, ◌++◌, ◌∷◌, [], List, length, map, replicate, ap, ap₂, refl, sym, subst, Option, None, Some, Result, Ok, Err, append_assoc, append-nil, length-append}
use Rattle.std.proofs.lemmas.List.{map-append, replicate_more}
use Rattle.std.proofs.lemmas.List.Folds.{list_all-append}
use Rattle.std.specs.Prelude.{is_some}
use Rattle.line_protocol.specs.Streams.{Held}
use Rattle.session_outside.specs.Talk.{Event, Follows, Silence}
use Rattle.client_talk.specs.Exchange.{Asks}
use Rattle.client_talk.specs.Keeping.{AreDue, SaidBy, SaidIn, Turn, Turns, is_due, last_of, later}
use Rattle.client_talk.specs.Standing.{goes_on}
use Rattle.client_talk.specs.Stays.{Gives, Stays, Stood}
use Rattle.client_talk.specs.Talks.{beat_line, checkin_line}
use Rattle.client_talk.specs.declared.cause.Cause.{Cause}
use Rattle.client_talk.specs.declared.standing.Standing.{Standing}
use Rattle.client_talk.specs.declared.standing.Standing.TheVariants.{Holding}
use Rattle.client_talk.specs.declared.want.Want.TheVariants.{Returned}
use Rattle.client_talk.proofs.Heardings.{follows_none, follows_then}

said_snoc : (line : List ℕ) (turns : List Turn) (t : Turn) (es now : List Event) → SaidBy line turns es → SaidIn line t.reply now → SaidBy line (turns ++ t ∷ []) (es ++ now)
said_snoc line [] t es now s a = (now, [], ap (λ l. l ++ now) s ∙ sym (append-nil now), a, refl)
said_snoc line (u ∷ us) t es now s a = (s.0, s.1 ++ now, ap (λ l. l ++ now) s.2 ∙ append_assoc s.0 s.1 now, s.3, said_snoc line us t s.1 now s.4 a)

due_snoc : (every last : ℕ) (turns : List Turn) (t : Turn) → AreDue every last turns → is_some t.reply ≡ is_due (last_of last turns) t.moment every → AreDue every last (turns ++ t ∷ [])
due_snoc every last [] t d h = (h, tt)
due_snoc every last (u ∷ us) t d h = (d.0, due_snoc every (later last u) us t d.1 h)

last_snoc : (last : ℕ) (turns : List Turn) (t : Turn) → last_of last (turns ++ t ∷ []) ≡ later (last_of last turns) t
last_snoc last [] t = refl
last_snoc last (u ∷ us) t = last_snoc (later last u) us t

-- a turn that was said
record Said {X : Type 0} (tells : X → List Event → Type 0) (old new : X) (feature : List ℕ) (standing : Standing) (due : Bool) : Type 0 where
  reply : Option (List ℕ)
  events : List Event
  told : Follows tells old new events
  said : SaidIn (beat_line feature) reply events
  is_due : is_some reply ≡ due
  on : goes_on standing reply ≡ true

module _ {X K B : Type 0} (tells : X → List Event → Type 0) (gave : K → List ℕ → Type 0) (answered : B → List Bool → Type 0) where
  turn_said : (a b : X) (feature : List ℕ) (standing : Standing) (due : Bool) → Turns tells a b feature standing due (Ok None) → Said tells a b feature standing due
  turn_said a b feature standing true t = record {
    reply = Some t.0.bytes;
    events = t.1.0;
    told = t.1.1;
    said = t.1.2;
    is_due = refl;
    on = ap₂ (λ x y. x && not y) t.1.3 t.2;
  }
  turn_said a b feature standing false t = record { reply = None; events = Silence ∷ []; told = t; said = refl; is_due = refl; on = refl }

  pub stood_none : (x : X) (k k' : K) (b : B) (feature : List ℕ) (every : ℕ) (standing : Standing) (start : ℕ) → Follows gave k k' (start ∷ []) → Stood tells gave answered x x k k' b b feature every standing start []
  stood_none x k k' b feature every standing start h = record { events = []; told = follows_none tells x; said = refl; shown = h; unrung = follows_none answered b; due = tt; each = refl }

  -- turns and one more
  pub record More (old new : X) (clock clock' : K) (bell bell' : B) (feature : List ℕ) (every : ℕ) (standing : Standing) (start : ℕ) (turns : List Turn) (moment : ℕ) (due : Bool) : Type 0 where
    pub turn : Turn
    pub stood : Stood tells gave answered old new clock clock' bell bell' feature every standing start (turns ++ turn ∷ [])
    pub last : last_of start (turns ++ turn ∷ []) ≡ Rattle.std.proofs.Common.cond due moment (last_of start turns)

  pub stood_more : (a x y : X) (j k k' : K) (d b b' : B) (feature : List ℕ) (every : ℕ) (standing : Standing) (start : ℕ) (turns : List Turn) (moment : ℕ) (due : Bool) → Stood tells gave answered a x j k d b feature every standing start turns
      → Follows gave k k' (moment ∷ []) → Follows answered b b' (false ∷ []) → due ≡ is_due (last_of start turns) moment every → Turns tells x y feature standing due (Ok None)
      → More a y j k' d b' feature every standing start turns moment due
  stood_more a x y j k k' d b b' feature every standing start turns moment due s shown unrung is t =
      let said = turn_said x y feature standing due t in
      let turn : Turn = record { moment = moment; reply = said.reply } in
      let M : List ℕ → Type 0 = λ ms. Follows gave j k' (start ∷ ms) in
      let A : List Bool → Type 0 = λ bs. Follows answered d b' bs in
      record {
        turn = turn;
        stood = record {
          events = s.events ++ said.events;
          told = follows_then tells a x y s.events said.events s.told said.told;
          said = said_snoc (beat_line feature) turns turn s.events said.events s.said said.said;
          shown = subst M (sym (map-append (λ (t : Turn). t.moment) turns (turn ∷ []))) (follows_then gave j k k' (start ∷ map (λ (t : Turn). t.moment) turns) (moment ∷ []) s.shown shown);
          unrung = subst A (sym (ap (λ n. replicate n false) (length-append turns (turn ∷ [])) ∙ sym (replicate_more (length turns) false))) (follows_then answered d b b' (replicate (length turns) false) (false ∷ []) s.unrung unrung);
          due = due_snoc every start turns turn s.due (said.is_due ∙ is);
          each = list_all-append (λ (t : Turn). goes_on standing t.reply) turns (turn ∷ []) ∙ ap₂ (λ x y. x && (y && true)) s.each said.on;
        };
        last = last_snoc start turns turn ∙ ap (λ b. Rattle.std.proofs.Common.cond b moment (last_of start turns)) said.is_due;
      }

  -- a seat is never ended by a reply
  never_seated : (x y : X) (feature : List ℕ) (due : Bool) (seat : Held) → Turns tells x y feature Holding due (Ok (Some seat)) → ⊥
  never_seated x y feature true seat t = absurd cc
  never_seated x y feature false seat t = t

  pub gives_all : (a x y : X) (j k : K) (d b : B) (feature : List ℕ) (every : ℕ) (came : Option Held) (r : Result Held Cause) → Stays tells gave answered a x j k d b feature every Holding (Ok came) → Asks tells x y (checkin_line feature) Returned r
      → Gives tells gave answered x y feature (Ok came) r
  gives_all a x y j k d b feature every None r s h = h
  gives_all a x y j k d b feature every (Some seat) r s h = absurd (never_seated s.at x feature (is_due (last_of s.start s.turns) s.ended.moment every) seat s.ended.turn)
