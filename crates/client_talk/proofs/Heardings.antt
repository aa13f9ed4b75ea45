-- How a reply is heard, read by read.
use Rattle.std.proofs.Common.{◌≡◌, ◌∙◌, ℕ, ◌+◌, ◌<◌, ◌≤◌, false, cond, ◌++◌, ◌∷◌, [], List, length, take, drop, ap, ap₂, refl, sym, subst, arith, Ok, Err, append_assoc, append-nil, length-drop, length-take-le}
use Rattle.std.proofs.lemmas.List.{nil_from_length}
use Rattle.std.proofs.lemmas.List.Sums.{sum_by-append}
use Rattle.std.proofs.lemmas.List.Concat.{flat_map-append}
use Rattle.line_protocol.specs.Streams.{Begins, Held, IsOpen, waiting}
use Rattle.session_outside.specs.Talk.{Event, Follows}
use Rattle.client_talk.specs.Hearing.{HearsReply, IsGarbled, IsHearing, StepSays, heard_in, heard_of, is_silence, silences_in, written_in, written_of}
use Rattle.client_talk.specs.declared.hearing.Step.TheVariants as step
use Rattle.client_talk.specs.declared.lost.Lost.{Lost}
use Rattle.client_talk.specs.declared.lost.Lost.TheVariants.{Fault, Closed, Silent, Garbled, Unasked}

pub follows_none : {X E : Type 0} (stands : X → List E → Type 0) (x : X) → Follows stands x x []
follows_none stands x t h = subst (λ l. stands x l) (sym (append-nil t)) h

pub follows_then : {X E : Type 0} (stands : X → List E → Type 0) (x y z : X) (as' bs : List E) → Follows stands x y as' → Follows stands y z bs → Follows stands x z (as' ++ bs)
follows_then stands x y z as' bs h k t s = subst (λ l. stands z l) (append_assoc t as' bs) (k (t ++ as') (h t s))

-- a piece that was taken whole leaves nothing
pub whole_piece : (used count : ℕ) (buffer : List ℕ) → used ≡ count → count ≤ length buffer → drop used (take count buffer) ≡ []
whole_piece used count buffer same within =
    nil_from_length (drop used (take count buffer)) (omega (arith, length-drop used (take count buffer), length-take-le count buffer within))

pub part_piece : (used count : ℕ) (buffer : List ℕ) → used ≤ length (take count buffer) → (used ≡ count → ⊥) → count ≤ length buffer → 0 < length (drop used (take count buffer))
part_piece used count buffer most other within = omega (arith, length-drop used (take count buffer), length-take-le count buffer within)

pub heard_snoc : (events : List Event) (e : Event) → heard_of (events ++ e ∷ []) ≡ heard_of events ++ heard_in e
heard_snoc events e = flat_map-append heard_in events (e ∷ []) ∙ ap (λ l. heard_of events ++ l) (append-nil (heard_in e))

pub written_snoc : (events : List Event) (e : Event) → written_of events ≡ [] → written_in e ≡ [] → written_of (events ++ e ∷ []) ≡ []
written_snoc events e none nothing = flat_map-append written_in events (e ∷ []) ∙ ap₂ (λ a b. a ++ b) none (append-nil (written_in e) ∙ nothing)

silences_snoc : (events : List Event) (e : Event) → silences_in (events ++ e ∷ []) ≡ silences_in events + cond (is_silence e) 1 0
silences_snoc events e = sum_by-append (λ x. cond (is_silence x) 1 0) events (e ∷ []) ∙ omega arith

abbrev made : Held
made = record { bytes = []; given = false; over = false }

module _ {X : Type 0} (tells : X → List Event → Type 0) where
  module _ (old mid new : X) (held held' : Held) (quiets : ℕ) (h : IsHearing tells old mid held quiets) (e : Event) (f : Follows tells mid new (e ∷ [])) where
    abbrev after : List Event
    after = h.events ++ e ∷ []

    told_after : Follows tells old new after
    told_after = follows_then tells old mid new h.events (e ∷ []) h.told f

    heard_after : heard_of after ≡ waiting held ++ heard_in e
    heard_after = heard_snoc h.events e ∙ ap (λ l. l ++ heard_in e) h.heard

    pub hears_more : StepSays e held held' (Ok step.More) → IsHearing tells old new held' quiets
    hears_more s = record {
      events = after;
      told = told_after;
      unwritten = written_snoc h.events e h.unwritten s.0;
      heard = heard_after ∙ sym s.3;
      silent = silences_snoc h.events e ∙ ap (λ b. silences_in h.events + cond b 1 0) s.1 ∙ omega (arith, h.silent);
      fits = s.4;
      still = s.5;
    }

    pub hears_quiet : StepSays e held held' (Ok step.Quiet) → IsHearing tells old new held' (quiets + 1)
    hears_quiet s =
        let nothing : heard_in e ≡ [] = ap heard_in s.0 in
        record {
          events = after;
          told = told_after;
          unwritten = written_snoc h.events e h.unwritten (ap written_in s.0);
          heard = heard_after ∙ ap (λ l. waiting held ++ l) nothing ∙ append-nil (waiting held) ∙ ap waiting (sym s.1);
          silent = silences_snoc h.events e ∙ ap (λ x. silences_in h.events + cond (is_silence x) 1 0) s.0 ∙ omega (arith, h.silent);
          fits = ap (λ (x : Held). x.over) s.1 ∙ h.fits;
          still = subst (λ (x : Held). IsOpen (waiting x)) (sym s.1) h.still;
        }

    pub hears_reply : StepSays e held held' (Ok step.Reply) → HearsReply tells old new (Ok held')
    hears_reply s = (
      after,
      told_after,
      record {
        unwritten = written_snoc h.events e h.unwritten s.0;
        heard = subst (λ l. Begins l held'.bytes []) (sym heard_after) s.1;
      },
    )

    pub hears_none : (lost : Lost) → StepSays e held held' (Err lost) → HearsReply tells old new (Err lost)
    hears_none Fault s = (after, told_after, (written_snoc h.events e h.unwritten (ap written_in s), (h.events, e, refl, ap Rattle.client_talk.specs.Hearing.is_fault s)))
    hears_none Closed s = (after, told_after, (written_snoc h.events e h.unwritten (ap written_in s), (h.events, ap (λ x. h.events ++ x ∷ []) s)))
    hears_none Silent s = absurd s
    hears_none Unasked s = absurd s
    hears_none Garbled s = (after, told_after, (written_snoc h.events e h.unwritten s.0, subst IsGarbled (sym heard_after) s.1))
