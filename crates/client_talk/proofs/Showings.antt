-- How an errand goes on.
use Rattle.std.proofs.Common.{◌≡◌, ◌∙◌, ℕ, suc, ◌+◌, ◌-◌, ◌<◌, ◌≤◌, true, ◌++◌, ◌∷◌, [], List, length, get_or, take, map, replicate, Bor, ap, ap₂, refl, sym, subst, arith, Option, Vec, Global, Result, Ok, Err, append_assoc, append-nil, length-append, length-take-le}
use Rattle.std.proofs.lemmas.List.{map-append, take-append-le, take-map, take-replicate, take-take, take_all, take_more}
use Rattle.std.proofs.lemmas.Simd.{map-map}
use Rattle.std.proofs.lemmas.List.Concat.{flat_map-append}
use Rattle.std.specs.Prelude.{flat_map, nat_eq}
use Rattle.std.specs.Cmp.Lexicographic.{bytes_decides, pointwise}
use Rattle.counter.specs.declared.glance.Glance.{Glance}
use Rattle.line_protocol.specs.Streams.{Held}
use Rattle.session_outside.specs.Talk.{Event}
use Rattle.client_talk.specs.Errands.{IsAnswered, IsGlanced, IsShown, feature_in, heard_of, said_of}
use Rattle.client_talk.specs.Exchange.{Asks}
use Rattle.client_talk.specs.Printing.{Prints, PrintsReply}
use Rattle.client_talk.specs.Table.{Row, cell, head_text, row_text, text_of}
use Rattle.client_talk.specs.Talks.{Halts, Spoke, Stopped, glance_line}
use Rattle.client_talk.specs.declared.cause.Cause.{Cause}
use Rattle.client_talk.specs.declared.want.Want.{Want}
use Rattle.client_talk.specs.declared.want.Want.TheVariants.{Welcome, Numbers}
use Rattle.client_talk.proofs.Talkings.{spoke_more, spoke_none}

-- a cell behind a text
pub cell_behind : (old piece : List ℕ) (width : ℕ) → width ≤ 24 → old ++ piece ++ take (width - length piece) (replicate 24 32) ++ 32 ∷ [] ≡ old ++ cell width piece
cell_behind old piece width most =
    ap (λ (l : List ℕ). old ++ piece ++ l ++ 32 ∷ []) (take-replicate (width - length piece) 24 32 (omega arith))
    ∙ (ap (λ (l : List ℕ). l ++ 32 ∷ []) (append_assoc old piece (replicate (width - length piece) 32))
    ∙ append_assoc old (piece ++ replicate (width - length piece) 32) (32 ∷ []))

pub cell_made : (old piece one : List ℕ) (width k : ℕ) → width ≤ 24 → one ≡ old ++ piece → k ≡ width - length piece → one ++ take k (replicate 24 32) ++ 32 ∷ [] ≡ old ++ cell width piece
cell_made old piece one width k most is e = ap₂ (λ (l : List ℕ) (n : ℕ). l ++ take n (replicate 24 32) ++ 32 ∷ []) is e ∙ cell_behind old piece width most

pub bytes_same : (a b : List ℕ) → a ≡ b → pointwise nat_eq a b ≡ true
bytes_same a b h = (bytes_decides a b).1 h

pub same_bytes : (a b : List ℕ) → pointwise nat_eq a b ≡ true → a ≡ b
same_bytes a b h = (bytes_decides a b).0 h

-- the bytes of a line whose text is known
pub ended : (text room reply : List ℕ) (end : ℕ) → end ≤ length room → take end room ≡ text ++ 10 ∷ [] → text ≡ reply → (0 < end) × (take (end - 1) room ≡ reply)
ended text room reply end within whole is =
    let long : length text + 1 ≡ end = omega (arith, length-append text (10 ∷ []), ap length whole, length-take-le end room within) in
    let cut : take (end - 1) room ≡ take (end - 1) (text ++ 10 ∷ []) = sym (take-take (end - 1) end room (omega arith)) ∙ ap (take (end - 1)) whole in
    let front : take (end - 1) (text ++ 10 ∷ []) ≡ take (end - 1) text = take-append-le (end - 1) text (10 ∷ []) (omega (arith, long)) in
    (omega (arith, long), cut ∙ (front ∙ (take_all (end - 1) text (omega (arith, long)) ∙ is)))

-- the features up to the next one
pub next_feature : (fs : List (Bor (List ℕ))) (i : ℕ) (d : Bor (List ℕ)) → i < length fs → map (λ f. f.now) (take (i + 1) fs) ≡ map (λ f. f.now) (take i fs) ++ (get_or fs i d).now ∷ []
next_feature fs i d h = ap (map (λ (f : Bor (List ℕ)). f.now)) (take_more fs i d h) ∙ map-append (λ (f : Bor (List ℕ)). f.now) (take i fs) (get_or fs i d ∷ [])

pub next_front : (fs : List (Bor (List ℕ))) (i : ℕ) (d : Bor (List ℕ)) → i < length fs → take (i + 1) (map (λ f. f.now) fs) ≡ map (λ f. f.now) (take i fs) ++ (get_or fs i d).now ∷ []
next_front fs i d h = take-map (λ (f : Bor (List ℕ)). f.now) (i + 1) fs ∙ next_feature fs i d h

-- a line without its LF
pub unended : (text room reply : List ℕ) (end : ℕ) → 0 < end → end ≤ length room → take end room ≡ text ++ 10 ∷ [] → take (end - 1) room ≡ reply → text ≡ reply
unended text room reply end some within whole is =
    let long : length text + 1 ≡ end = omega (arith, length-append text (10 ∷ []), ap length whole, length-take-le end room within) in
    let cut : take (end - 1) room ≡ take (end - 1) (text ++ 10 ∷ []) = sym (take-take (end - 1) end room (omega arith)) ∙ ap (take (end - 1)) whole in
    let front : take (end - 1) (text ++ 10 ∷ []) ≡ take (end - 1) text = take-append-le (end - 1) text (10 ∷ []) (omega (arith, long)) in
    sym (take_all (end - 1) text (omega (arith, long))) ∙ (sym front ∙ (sym cut ∙ is))

module _ {X : Type 0} (tells : X → List Event → Type 0) where
  -- the first line was answered
  pub spoke_first : (a b : X) (words : List ℕ) (want : Want) (held : Held) → Asks tells a b words want (Ok held) → Spoke tells a b (words ∷ []) (held.bytes ∷ [])
  spoke_first a b words want held k = spoke_more tells a a b [] [] words want held (spoke_none tells a) k

  pub stopped_first : (a b : X) (words : List ℕ) (rest : List (List ℕ)) (cause : Cause) → Halts tells a b words cause → Stopped tells a b (words ∷ rest) cause
  stopped_first a b words rest cause h = record { done = []; line = words; replies = []; front = (1, refl); at = a; went = spoke_none tells a; halts = h }

  pub answered_after : (a b c : X) (hello words : List ℕ) (want : Want) (w : Held) (r : Result Held Cause) → Asks tells a b hello Welcome (Ok w) → Asks tells b c words want r → IsAnswered tells a c hello words want r
  answered_after a b c hello words want w (Ok held) k l =
      (w.bytes, spoke_more tells a b c (hello ∷ []) (w.bytes ∷ []) words want held (spoke_first a b hello Welcome w k) l, k.3, l.3)
  answered_after a b c hello words want w (Err cause) k h =
      record { done = hello ∷ []; line = words; replies = w.bytes ∷ []; front = (2, refl); at = b; went = spoke_first a b hello Welcome w k; halts = h }

  pub shown_none : (a b : X) (hello text : List ℕ) (w : Held) → Asks tells a b hello Welcome (Ok w) → text ≡ head_text → IsShown tells a b hello [] text
  shown_none a b hello text w k e = record {
    welcome = w.bytes;
    rows = [];
    asked = refl;
    spoke = spoke_first a b hello Welcome w k;
    welcomed = k.3;
    table = e ∙ sym (append-nil head_text);
  }

  pub shown_more : (a b c : X) (hello feature text text' : List ℕ) (features all : List (List ℕ)) (glance : Glance) → IsShown tells a b hello features text → IsGlanced tells b c feature (Ok glance) → text' ≡ text ++ row_text feature glance
      → all ≡ features ++ feature ∷ [] → IsShown tells a c hello all text'
  shown_more a b c hello feature text text' features all glance s k e is =
      let row : Row = record { feature = feature; glance = glance } in
      let said : map said_of (s.rows ++ row ∷ []) ≡ map said_of s.rows ++ glance_line feature ∷ [] = map-append said_of s.rows (row ∷ []) in
      let heard : map heard_of (s.rows ++ row ∷ []) ≡ map heard_of s.rows ++ k.0.bytes ∷ [] = map-append heard_of s.rows (row ∷ []) ∙ ap (λ (l : List ℕ). map heard_of s.rows ++ l ∷ []) (sym k.1) in
      let P : List (List ℕ) → Type 0 = λ lines. Spoke tells a c (hello ∷ lines) (s.welcome ∷ (map heard_of s.rows ++ k.0.bytes ∷ [])) in
      let Q : List (List ℕ) → Type 0 = λ replies. Spoke tells a c (hello ∷ map said_of (s.rows ++ row ∷ [])) (s.welcome ∷ replies) in
      record {
        welcome = s.welcome;
        rows = s.rows ++ row ∷ [];
        asked = map-append feature_in s.rows (row ∷ []) ∙ (ap (λ (l : List (List ℕ)). l ++ feature ∷ []) s.asked ∙ sym is);
        spoke = subst Q (sym heard) (subst P (sym said) (spoke_more tells a b c (hello ∷ map said_of s.rows) (s.welcome ∷ map heard_of s.rows) (glance_line feature) Numbers k.0 s.spoke k.2));
        welcomed = s.welcomed;
        table = e ∙ (ap (λ (l : List ℕ). l ++ row_text feature glance) s.table ∙ (append_assoc head_text (flat_map text_of s.rows) (row_text feature glance)
            ∙ ap (λ (l : List ℕ). head_text ++ l) (ap (λ (l : List ℕ). flat_map text_of s.rows ++ l) (sym (append-nil (row_text feature glance))) ∙ sym (flat_map-append text_of s.rows (row ∷ [])))));
      }

  pub shown_stopped : (a b c : X) (hello feature text : List ℕ) (features all : List (List ℕ)) (k : ℕ) (cause : Cause) → IsShown tells a b hello features text → Halts tells b c (glance_line feature) cause
      → take k all ≡ features ++ feature ∷ [] → Stopped tells a c (hello ∷ map glance_line all) cause
  shown_stopped a b c hello feature text features all k cause s h is = record {
    done = hello ∷ map said_of s.rows;
    line = glance_line feature;
    replies = s.welcome ∷ map heard_of s.rows;
    front = (
      suc k,
      ap (λ (l : List (List ℕ)). hello ∷ l) (take-map glance_line k all ∙ (ap (map glance_line) is ∙ (map-append glance_line features (feature ∷ [])
          ∙ ap (λ (l : List (List ℕ)). l ++ glance_line feature ∷ []) (ap (map glance_line) (sym s.asked) ∙ map-map glance_line feature_in s.rows)))),
    );
    at = b;
    went = s.spoke;
    halts = h;
  }

text_printed : (Failed Other : Type 0) (old new : Option (List ℕ)) (text : Result (Vec ℕ Global) Cause) (u : Unit {0}) → Prints Failed old new text (Ok u) → Prints Other old new text (Ok u)
text_printed Failed Other old new (Ok text) u p = p
text_printed Failed Other old new (Err cause) u p = absurd p

-- a reply that was printed was so whatever a fault is
pub reply_printed : (Failed Other : Type 0) (old new : Option (List ℕ)) (said : Result Held Cause) (u : Unit {0}) → PrintsReply Failed old new said (Ok u) → PrintsReply Other old new said (Ok u)
reply_printed Failed Other old new said u p = (p.0, p.1, text_printed Failed Other old new p.0 u p.2)
