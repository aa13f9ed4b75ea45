-- What the others saw, one act after another.
use Rattle.std.proofs.Common.{◌≡◌, ℕ, ◌++◌, ◌∷◌, [], List, Bool, true, false, ◌||◌, ap, sym, refl, subst, inl, inr, Option, Some}
use Rattle.std.proofs.lemmas.Grind.{flat_map-append}
use Rattle.counter.specs.Account.{Account, Asking}
use Rattle.line_protocol.specs.declared.told.Told.{Told}
use Rattle.line_protocol.specs.declared.told.Told.TheVariants.{Stopping}
use Rattle.session_outside.specs.Talk.{Counted, Event, Silence, Follows}
use Rattle.session.specs.Acts.{Act, Shown, Tell, Moment, Enter, Look, Hear, Ring, moments_of, peals_of, talk_of, askings, sights}
use Rattle.session.specs.Asks.{AsksOnly}
use Rattle.session.specs.Did.{Belled, Did, Linked, is_fault, is_silence}
use Rattle.session.specs.Pass.{Gains}
use Rattle.session.specs.Table.{Writes, WritesAnd}
use Rattle.session.specs.declared.end.SessionEnd.{SessionEnd}
use Rattle.session.specs.declared.end.SessionEnd.TheVariants as ends
use Rattle.session.proofs.Counts.{belled_none, belled_then, counted_still, follows_none, follows_then, linked_none, linked_then}
use Rattle.session.proofs.Gaining.{gains_none, gains_same, gains_then}

pub did_then : {C L K B : Type 0} {account : C → Account} {tells : L → List Event → Type 0} {faults quiets : L → ℕ} {gave : K → List ℕ → Type 0} {answers : B → List Bool → Type 0} {tolls rings : B → ℕ}
    {as' bs : List Act} {xs ys zs : List C} {l0 l1 l2 : L} {k0 k1 k2 : K} {b0 b1 b2 : B} → Did account tells faults quiets gave answers tolls rings as' xs ys l0 l1 k0 k1 b0 b1 → Did account tells faults quiets gave answers tolls rings bs ys zs l1 l2 k1 k2 b1 b2
    → Did account tells faults quiets gave answers tolls rings (as' ++ bs) xs zs l0 l2 k0 k2 b0 b2
did_then {C} {L} {K} {B} {account} {tells} {faults} {quiets} {gave} {answers} {tolls} {rings} {as'} {bs} {xs} {ys} {zs} {l0} {l1} {l2} {k0} {k1} {k2} {b0} {b1} {b2} h k = record {
  pass = gains_then account as' bs xs ys zs h.pass k.pass;
  link = subst (λ t. Linked tells faults quiets t l0 l2) (sym (flat_map-append _ as' bs)) (linked_then tells faults quiets (talk_of as') (talk_of bs) l0 l1 l2 h.link k.link);
  clock = subst (λ t. Follows gave k0 k2 t) (sym (flat_map-append _ as' bs)) (follows_then gave k0 k1 k2 (moments_of as') (moments_of bs) h.clock k.clock);
  bell = subst (λ t. Belled answers tolls rings t b0 b2) (sym (flat_map-append _ as' bs)) (belled_then answers tolls rings (peals_of as') (peals_of bs) b0 b1 b2 h.bell k.bell);
}

module _ {C L K B : Type 0} (account : C → Account) (tells : L → List Event → Type 0) (faults quiets : L → ℕ) (gave : K → List ℕ → Type 0) (answers : B → List Bool → Type 0) (tolls rings : B → ℕ) where
  pub did_none : (xs : List C) (l : L) (k : K) (b : B) → Did account tells faults quiets gave answers tolls rings [] xs xs l l k k b b
  did_none xs l k b = record { pass = gains_none account xs; link = linked_none tells faults quiets l; clock = follows_none gave k; bell = belled_none answers tolls rings b }

  pub did_moment : (at : ℕ) (xs : List C) (l : L) (k0 k1 : K) (b : B) → Follows gave k0 k1 (at ∷ []) → Did account tells faults quiets gave answers tolls rings (Moment at ∷ []) xs xs l l k0 k1 b b
  did_moment at xs l k0 k1 b f = record { pass = gains_same account (Moment at ∷ []) xs (λ j. refl) (λ j. refl); link = linked_none tells faults quiets l; clock = f; bell = belled_none answers tolls rings b }

  pub did_enter : (i : ℕ) (a : Asking) (xs ys : List C) (l : L) (k : K) (b : B) → Gains account (Enter i a ∷ []) xs ys → Did account tells faults quiets gave answers tolls rings (Enter i a ∷ []) xs ys l l k k b b
  did_enter i a xs ys l k b h = record { pass = h; link = linked_none tells faults quiets l; clock = follows_none gave k; bell = belled_none answers tolls rings b }

  pub did_look : (i : ℕ) (s : Shown) (xs ys : List C) (l : L) (k : K) (b : B) → Gains account (Look i s ∷ []) xs ys → Did account tells faults quiets gave answers tolls rings (Look i s ∷ []) xs ys l l k k b b
  did_look i s xs ys l k b h = record { pass = h; link = linked_none tells faults quiets l; clock = follows_none gave k; bell = belled_none answers tolls rings b }

  -- acts that only the link and the bell see
  pub did_tell : (new : List Act) (xs : List C) (l0 l1 : L) (k : K) (b0 b1 : B) → ((j : ℕ) → askings j new ≡ []) → ((j : ℕ) → sights j new ≡ []) → moments_of new ≡ [] → Linked tells faults quiets (talk_of new) l0 l1 → Belled answers tolls rings (peals_of new) b0 b1
      → Did account tells faults quiets gave answers tolls rings new xs xs l0 l1 k k b0 b1
  did_tell new xs l0 l1 k b0 b1 e f m h g = record { pass = gains_same account new xs e f; link = h; clock = subst (λ t. Follows gave k k t) (sym m) (follows_none gave k); bell = g }

  pub did_writes : (t : Told) (next out : Option SessionEnd) (new : List Act) (xs : List C) (l0 l1 : L) (k : K) (b : B) → Writes t next new out → Linked tells faults quiets (talk_of new) l0 l1 → peals_of new ≡ [] → Did account tells faults quiets gave answers tolls rings new xs xs l0 l1 k k b b
  did_writes t next out new xs l0 l1 k b (inl w) h p =
      did_tell new xs l0 l1 k b b (λ j. ap (askings j) w.0) (λ j. ap (sights j) w.0) (ap moments_of w.0) h (subst (λ q. Belled answers tolls rings q b b) (sym p) (belled_none answers tolls rings b))
  did_writes t next out new xs l0 l1 k b (inr w) h p =
      did_tell new xs l0 l1 k b b (λ j. ap (askings j) w.3) (λ j. ap (sights j) w.3) (ap moments_of w.3) h (subst (λ q. Belled answers tolls rings q b b) (sym p) (belled_none answers tolls rings b))

  pub did_asked : (new : List Act) (xs ys : List C) (l : L) (k0 k1 : K) (b : B) → AsksOnly account gave xs ys k0 k1 new → Did account tells faults quiets gave answers tolls rings new xs ys l l k0 k1 b b
  did_asked new xs ys l k0 k1 b h = record {
    pass = h.pass;
    link = subst (λ t. Linked tells faults quiets t l l) (sym h.silent.talk) (linked_none tells faults quiets l);
    clock = h.clock;
    bell = subst (λ t. Belled answers tolls rings t b b) (sym h.silent.peals) (belled_none answers tolls rings b);
  }

  pub did_stopping : (out : Option SessionEnd) (new : List Act) (xs : List C) (l0 l1 : L) (k : K) (b0 b1 : B) → WritesAnd Stopping (Ring ∷ []) (Some ends.Down) new out → Linked tells faults quiets (talk_of new) l0 l1 → Belled answers tolls rings (peals_of new) b0 b1
      → Did account tells faults quiets gave answers tolls rings new xs xs l0 l1 k k b0 b1
  did_stopping out new xs l0 l1 k b0 b1 (inl w) h p = did_tell new xs l0 l1 k b0 b1 (λ j. ap (askings j) w.0) (λ j. ap (sights j) w.0) (ap moments_of w.0) h p
  did_stopping out new xs l0 l1 k b0 b1 (inr w) h p = did_tell new xs l0 l1 k b0 b1 (λ j. ap (askings j) w.3) (λ j. ap (sights j) w.3) (ap moments_of w.3) h p

  -- a read that is no Quiet
  pub did_heard : (e : Event) (xs : List C) (l0 l1 : L) (k : K) (b : B) → Follows tells l0 l1 (e ∷ []) → Counted (is_fault e || false) (faults l0) (faults l1) → Counted (is_silence e || false) (quiets l0) (quiets l1) → Did account tells faults quiets gave answers tolls rings (Tell e ∷ []) xs xs l0 l1 k k b b
  did_heard e xs l0 l1 k b f h q = did_tell (Tell e ∷ []) xs l0 l1 k b b (λ j. refl) (λ j. refl) refl (record { told = f; fault = h; quiet = q }) (belled_none answers tolls rings b)

  -- a Quiet, and the bell's answer
  pub did_quiet : (r : Bool) (xs : List C) (l0 l1 : L) (k : K) (b0 b1 : B) → Follows tells l0 l1 (Silence ∷ []) → Counted false (faults l0) (faults l1) → Counted true (quiets l0) (quiets l1) → Follows answers b0 b1 (r ∷ []) → Counted (r || false) (tolls b0) (tolls b1) → rings b1 ≡ rings b0
      → Did account tells faults quiets gave answers tolls rings (Tell Silence ∷ Hear r ∷ []) xs xs l0 l1 k k b0 b1
  did_quiet r xs l0 l1 k b0 b1 f h q a t s = did_tell (Tell Silence ∷ Hear r ∷ []) xs l0 l1 k b0 b1 (λ j. refl) (λ j. refl) refl (record { told = f; fault = h; quiet = q }) (record { told = a; toll = t; ring = counted_still (rings b0) (rings b1) s })
