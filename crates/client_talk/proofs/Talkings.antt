-- How a talk goes on.
use Rattle.std.proofs.Common.{◌≡◌, ◌∙◌, ℕ, true, false, ◌++◌, ◌∷◌, [], List, length, take, ap, refl, sym, arith, Result, Ok, Err, append_assoc, append-nil, string_bytes}
use Rattle.std.proofs.lemmas.List.{take_all}
use Rattle.line_protocol.specs.Streams.{Held}
use Rattle.session_outside.specs.Talk.{Event, Follows, Wrote, WriteFault}
use Rattle.client_talk.specs.Exchange.{Asks, Says, SaysBy}
use Rattle.client_talk.specs.Requests.{Makes}
use Rattle.client_talk.specs.Hearing.{HearsBy, HearsReply, Replies, Shows, written_of}
use Rattle.client_talk.specs.Replies.{accepts}
use Rattle.client_talk.specs.Talks.{Answered, Halts, Spoke, Went, Why}
use Rattle.client_talk.specs.declared.cause.Cause.{Cause}
use Rattle.client_talk.specs.declared.cause.Cause.TheVariants as cause
use Rattle.client_talk.specs.declared.cause.Refusal.{Refusal}
use Rattle.client_talk.specs.declared.lost.Lost.{Lost}
use Rattle.client_talk.specs.declared.lost.Lost.TheVariants.{Fault, Closed, Silent, Garbled, Unasked}
use Rattle.client_talk.specs.declared.want.Want.{Want}
use Rattle.client_talk.proofs.Heardings.{follows_none, follows_then}

-- what is shown is shown behind a line too
shows_behind : (line : List ℕ) (lost : Lost) (es : List Event) → Shows lost es → Shows lost (Wrote line ∷ es)
shows_behind line Fault es s = (Wrote line ∷ s.0, s.1, ap (λ l. Wrote line ∷ l) s.2, s.3)
shows_behind line Closed es s = (Wrote line ∷ s.0, ap (λ l. Wrote line ∷ l) s.1)
shows_behind line Silent es s = (Wrote line ∷ s.0, s.1, ap (λ l. Wrote line ∷ l) s.2, s.3)
shows_behind line Garbled es s = s
shows_behind line Unasked es s = (Wrote line ∷ s.0, s.1, ap (λ l. Wrote line ∷ l) s.2)

says_behind : (line : List ℕ) (es : List Event) (r : Result Held Lost) → HearsBy es r → SaysBy line (Wrote line ∷ es) r
says_behind line es (Ok held) h = (es, refl, h)
says_behind line es (Err lost) h =
    ((length line, ap (λ l. line ++ l) h.0 ∙ append-nil line ∙ sym (take_all (length line) line (omega arith))), shows_behind line lost es h.1)

module _ {X : Type 0} (tells : X → List Event → Type 0) where
  pub says : (a b c : X) (line : List ℕ) (r : Result Held Lost) → Follows tells a b (Wrote line ∷ []) → HearsReply tells b c r → Says tells a c line r
  says a b c line r f h = (Wrote line ∷ h.0, follows_then tells a b c (Wrote line ∷ []) h.0 f h.1, says_behind line h.0 r h.2)

  pub says_fault : (a b : X) (line : List ℕ) (taken : ℕ) → Follows tells a b (WriteFault (take taken line) ∷ []) → Says tells a b line (Err Fault)
  says_fault a b line taken f = (WriteFault (take taken line) ∷ [], f, ((taken, append-nil (take taken line)), ([], WriteFault (take taken line), refl, refl)))

  pub asks_lost : (a b : X) (line words : List ℕ) (want : Want) (lost : Lost) → line ≡ words ++ 10 ∷ [] → Says tells a b line (Err lost) → Asks tells a b words want (Err (cause.Lost lost))
  asks_lost a b line words want lost is s = record { events = s.0; told = s.1; front = (s.2.0.0, s.2.0.1 ∙ ap (take s.2.0.0) is); why = s.2.1 }

  answered : (line words reply : List ℕ) (events : List Event) → line ≡ words ++ 10 ∷ [] → (hearing : List Event) → events ≡ Wrote line ∷ hearing → Replies hearing reply → Answered words reply events
  answered line words reply events is hearing e h = record { hearing = hearing; order = e ∙ ap (λ l. Wrote l ∷ hearing) is; replied = h }

  pub asks_reply : (a b : X) (line words : List ℕ) (want : Want) (held : Held) → line ≡ words ++ 10 ∷ [] → Says tells a b line (Ok held) → accepts want held.bytes ≡ true → Asks tells a b words want (Ok held)
  asks_reply a b line words want held is s y = (s.0, s.1, answered line words held.bytes s.0 is s.2.0 s.2.1 s.2.2, y)

  pub asks_refused : (a b : X) (line words : List ℕ) (r : Refusal) → line ≡ string_bytes r.request.line → string_bytes r.request.line ≡ words ++ 10 ∷ [] → Says tells a b line (Ok r.reply)
      → accepts r.request.want r.reply.bytes ≡ false → Halts tells a b words (cause.Refused r)
  asks_refused a b line words r same is s n = record {
    events = s.0;
    told = s.1;
    front = (length (words ++ 10 ∷ []), ap written_of s.2.1 ∙ ap (λ l. line ++ l) s.2.2.unwritten ∙ append-nil line ∙ same ∙ is ∙ sym (take_all (length (words ++ 10 ∷ [])) (words ++ 10 ∷ []) (omega arith)));
    why = record { answered = answered line words r.reply.bytes s.0 (same ∙ is) s.2.0 s.2.1 s.2.2; asked = is; unwanted = n };
  }

  -- a reply more
  went_snoc : (lines replies : List (List ℕ)) (line reply : List ℕ) (es now : List Event) → Went lines replies es → Answered line reply now → Went (lines ++ line ∷ []) (replies ++ reply ∷ []) (es ++ now)
  went_snoc [] [] line reply es now w a = (now, [], ap (λ l. l ++ now) w ∙ sym (append-nil now), a, refl)
  went_snoc [] (r ∷ rs) line reply es now w a = absurd w
  went_snoc (l ∷ ls) [] line reply es now w a = absurd w
  went_snoc (l ∷ ls) (r ∷ rs) line reply es now w a =
      (w.0, w.1 ++ now, ap (λ x. x ++ now) w.2 ∙ append_assoc w.0 w.1 now, w.3, went_snoc ls rs line reply w.1 now w.4 a)

  pub spoke_none : (a : X) → Spoke tells a a [] []
  spoke_none a = ([], follows_none tells a, refl)

  pub spoke_more : (a b c : X) (lines replies : List (List ℕ)) (words : List ℕ) (want : Want) (held : Held) → Spoke tells a b lines replies → Asks tells b c words want (Ok held)
      → Spoke tells a c (lines ++ words ∷ []) (replies ++ held.bytes ∷ [])
  spoke_more a b c lines replies words want held s k = (s.0 ++ k.0, follows_then tells a b c s.0 k.0 s.1 k.1, went_snoc lines replies words held.bytes s.0 k.0 s.2 k.2)

  pub halts_unmade : (a : X) (words : List ℕ) (want : Want) (cause : Cause) → Makes words want (Err cause) → Halts tells a a words cause
  halts_unmade a words want (cause.NoRequest fault) m = record { events = []; told = follows_none tells a; front = (0, refl); why = m }
  halts_unmade a words want cause.TooLong m = record { events = []; told = follows_none tells a; front = (0, refl); why = m }
  halts_unmade a words want cause.NoMemory m = record { events = []; told = follows_none tells a; front = (0, refl); why = tt }
  halts_unmade a words want (cause.Lost lost) m = absurd m
  halts_unmade a words want (cause.BadWord bad) m = absurd m
  halts_unmade a words want (cause.Refused r) m = absurd m
  halts_unmade a words want (cause.NoNumbers r) m = absurd m
  halts_unmade a words want cause.WriteFault m = absurd m

  -- what was written of a line that was answered
  written_answered : (line reply : List ℕ) (events : List Event) → Answered line reply events → written_of events ≡ line ++ 10 ∷ []
  written_answered line reply events a = ap written_of a.order ∙ (ap (λ l. (line ++ 10 ∷ []) ++ l) a.replied.unwritten ∙ append-nil (line ++ 10 ∷ []))

  whole_front : (line : List ℕ) (events : List Event) → written_of events ≡ line ++ 10 ∷ [] → (k : ℕ) × (written_of events ≡ take k (line ++ 10 ∷ []))
  whole_front line events e = (length (line ++ 10 ∷ []), e ∙ sym (take_all (length (line ++ 10 ∷ [])) (line ++ 10 ∷ []) (omega arith)))

  pub halts_answered : (a b : X) (words : List ℕ) (want : Want) (held : Held) (cause : Cause) → Asks tells a b words want (Ok held) → ((events : List Event) → Answered words held.bytes events → Why words cause events) → Halts tells a b words cause
  halts_answered a b words want held cause k why = record { events = k.0; told = k.1; front = whole_front words k.0 (written_answered words held.bytes k.0 k.2); why = why k.0 k.2 }
