-- Sessions one after another.
use Rattle.std.proofs.Common.{◌≡◌, ◌≢◌, ℕ, ◌<◌, ◌≤◌, ◌∙◌, ◌++◌, ◌∷◌, [], List, length, map, ap, sym, refl, arith, subst}
use Rattle.std.proofs.lemmas.List.{append-nil, get_or-map, length-map, map-append, same_lists}
use Rattle.std.proofs.lemmas.Grind.{flat_map-append}
use Rattle.std.specs.List.{AllByRecursion}
use Rattle.std.proofs.Math.Bool.{or-false}
use Rattle.counter.specs.Account.{Account}
use Rattle.office_view.specs.View.{View}
use Rattle.session_outside.specs.Talk.{Counted, Event, Follows, HasRisen}
use Rattle.session.specs.Acts.{Act, moments_of, talk_of}
use Rattle.session.specs.Pass.{Gains}
use Rattle.session.specs.Session.{setup_of}
use Rattle.session.specs.declared.end.SessionEnd.{SessionEnd}
use Rattle.session.specs.declared.end.SessionEnd.TheVariants as ends
use Rattle.session.proofs.Counts.{counted_more, counted_still, follows_none, follows_then}
use Rattle.session.proofs.Gaining.{gains_none, gains_then}
use Rattle.door_worker.specs.Visits.{AreSessions, IsSession, Served, Visit, acts_in, is_down, talks_in}

-- a session rings the bell exactly where it ends Down
pub counted_down : (end : SessionEnd) (x y : ℕ) → x ≤ y → (end ≡ ends.Down → HasRisen x y) → (end ≢ ends.Down → y ≡ x) → Counted (is_down end) x y
counted_down ends.Quit x y l up still = counted_still x y (still (λ e. absurd (cc)))
counted_down ends.Down x y l up still = record { never_falls = l; rises = λ e. up refl; stands = λ e. absurd (cc) }
counted_down ends.End x y l up still = counted_still x y (still (λ e. absurd (cc)))
counted_down (ends.Torn n) x y l up still = counted_still x y (still (λ e. absurd (cc)))
counted_down ends.LineTooLong x y l up still = counted_still x y (still (λ e. absurd (cc)))
counted_down ends.LinkFault x y l up still = counted_still x y (still (λ e. absurd (cc)))
counted_down ends.Stopped x y l up still = counted_still x y (still (λ e. absurd (cc)))

pub all-append : {X : Type 0} (P : X → Type 0) (xs ys : List X) → AllByRecursion P xs → AllByRecursion P ys → AllByRecursion P (xs ++ ys)
all-append P [] ys h k = k
all-append P (x ∷ xs) ys h k = (h.0, all-append P xs ys h.1 k)

-- a member of a list
pub the_at : {X : Type 0} (xs : List X) (k : ℕ) → k < length xs → X
the_at [] k l = absurd (omega arith)
the_at (x ∷ xs) k l = x

module _ {C D : Type 0} (account : C → Account) (v : View D) where
  -- no act changes a party's number
  pub setup_kept : (acts : List Act) (xs ys : List C) → Gains account acts xs ys → setup_of account v ys ≡ setup_of account v xs
  setup_kept acts xs ys h =
      let f : C → ℕ = λ c. (account c).party in
      ap (λ (ps : List ℕ). record { pools = v.pools; sets = v.sets; parties = ps })
      (same_lists (map f ys) (map f xs) (length-map ys f ∙ h.long ∙ sym (length-map xs f))
      (λ k d b.
      let at : k < length ys = subst (λ n. k < n) (length-map ys f) b in
      let low : k < length xs = subst (λ n. k < n) h.long at in
      let c = the_at xs k low in
      get_or-map f ys k c d at ∙ (h.each k c low).party ∙ sym (get_or-map f xs k c d low)))

  -- sessions of the same parties, one after another
  pub sessions_then : (vs ws : List Visit) (xs ys : List C) → Gains account (acts_in vs) xs ys → AreSessions (setup_of account v xs) vs → AreSessions (setup_of account v ys) ws → AreSessions (setup_of account v xs) (vs ++ ws)
  sessions_then vs ws xs ys g h k = all-append (IsSession (setup_of account v xs)) vs ws h
      (subst (λ o. AreSessions o ws) (setup_kept (acts_in vs) xs ys g) k)

module _ {C D K B : Type 0} (account : C → Account) (talks : D → List (List Event) → Type 0) (gave : K → List ℕ → Type 0) (tolls rings : B → ℕ) where
  -- no session
  pub served_none : (cs : List C) (d0 d1 : D) (k : K) (b0 b1 : B) → Follows talks d0 d1 [] → rings b1 ≡ rings b0 → tolls b0 ≤ tolls b1 → Served account talks gave tolls rings [] cs cs d0 d1 k k b0 b1
  served_none cs d0 d1 k b0 b1 f r t = record {
    gains = gains_none account cs;
    told = f;
    moments = follows_none gave k;
    rung = counted_still (rings b0) (rings b1) r;
    heard = t;
  }

  -- one session
  pub served_one : (acts : List Act) (end : SessionEnd) (p0 p1 : List C) (d0 d1 : D) (k0 k1 : K) (b0 b1 : B)
      → Gains account acts p0 p1 → Follows talks d0 d1 (talk_of acts ∷ []) → Follows gave k0 k1 (moments_of acts) → Counted (is_down end) (rings b0) (rings b1) → tolls b0 ≤ tolls b1
      → Served account talks gave tolls rings (record { acts = acts; end = end } ∷ []) p0 p1 d0 d1 k0 k1 b0 b1
  served_one acts end p0 p1 d0 d1 k0 k1 b0 b1 g f m r t = record {
    gains = subst (λ l. Gains account l p0 p1) (sym (append-nil acts)) g;
    told = f;
    moments = subst (λ l. Follows gave k0 k1 (moments_of l)) (sym (append-nil acts)) m;
    rung = subst (λ x. Counted x (rings b0) (rings b1)) (sym (or-false (is_down end))) r;
    heard = t;
  }

  -- sessions, and more of them
  pub served_then : (vs ws : List Visit) (p0 p1 p2 : List C) (d0 d1 d2 : D) (k0 k1 k2 : K) (b0 b1 b2 : B)
      → Served account talks gave tolls rings vs p0 p1 d0 d1 k0 k1 b0 b1 → Served account talks gave tolls rings ws p1 p2 d1 d2 k1 k2 b1 b2
      → Served account talks gave tolls rings (vs ++ ws) p0 p2 d0 d2 k0 k2 b0 b2
  served_then vs ws p0 p1 p2 d0 d1 d2 k0 k1 k2 b0 b1 b2 h k =
      let e : acts_in (vs ++ ws) ≡ acts_in vs ++ acts_in ws = flat_map-append _ vs ws in
      record {
        gains = subst (λ l. Gains account l p0 p2) (sym e) (gains_then account (acts_in vs) (acts_in ws) p0 p1 p2 h.gains k.gains);
        told = subst (λ l. Follows talks d0 d2 l) (sym (map-append (λ (v : Visit). talk_of v.acts) vs ws)) (follows_then talks d0 d1 d2 (talks_in vs) (talks_in ws) h.told k.told);
        moments = subst (λ l. Follows gave k0 k2 l) (sym (ap moments_of e ∙ flat_map-append _ (acts_in vs) (acts_in ws))) (follows_then gave k0 k1 k2 (moments_of (acts_in vs)) (moments_of (acts_in ws)) h.moments k.moments);
        rung = counted_more (λ (v : Visit). is_down v.end) vs ws (rings b0) (rings b1) (rings b2) h.rung k.rung;
        heard = let x = h.heard in let y = k.heard in omega arith;
      }
