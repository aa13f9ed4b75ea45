-- What the counters of a pass gain, one asking or glance after another.
use Rattle.std.proofs.Common.{◌≡◌, ◌≢◌, ℕ, ◌+◌, ◌<◌, ◌≤◌, ◌∙◌, ◌++◌, ◌∷◌, [], List, Bool, true, false, cond, length, map, ap, sym, refl, arith, subst, get_or, set, append_assoc, length-set, inl, inr}
use Rattle.std.proofs.lemmas.List.{get_or-set_same, get_or-set_other, get_or_default, map-append, append-nil}
use Rattle.std.proofs.lemmas.Grind.{flat_map-append}
use Rattle.std.proofs.lemmas.Bool.Decides.{eqb_tells}
use Rattle.std.specs.List.{AllByRecursion, flat_map}
use Rattle.counter.specs.Account.{Account, Asking, Asks, Extends, Glances}
use Rattle.counter.specs.declared.counter.Asked.{Asked}
use Rattle.counter.specs.declared.glance.Glance.{Glance}
use Rattle.lic_types.specs.declared.client.Client.{Client}
use Rattle.options_machine.specs.Rules.{Rules}
use Rattle.options_machine.specs.Run.{IsRun, after}
use Rattle.options_machine.specs.Settle.{later_moment}
use Rattle.options_machine.specs.declared.reply.Entry.{Entry}
use Rattle.options_machine.specs.declared.reply.Kind.{Kind}
use Rattle.session.specs.Acts.{Act, Enter, Look, Shown, askings, sights}
use Rattle.session.specs.Pass.{AreSights, Gained, Gains, Stands, WhereAny, WhereNone}

pub extends_same : (l : List Entry) → Extends l l
extends_same l = ([], sym (append-nil l))

pub extends_then : (x y z : List Entry) → Extends x y → Extends y z → Extends x z
extends_then x y z h k = (h.0 ++ k.0, k.1 ∙ ap (λ es. es ++ k.0) h.1 ∙ append_assoc x h.0 k.0)

-- one asking
pub gained_one : {old new : Account} {what : Kind} {who : Client} {at : ℕ} {answer : Asked} {a : Asking} → Asks old new what who at answer a → Gained (a ∷ []) [] old new
gained_one {old} {new} {what} {who} {at} {answer} {a} h = record {
  sets = h.enters.sets;
  party = h.enters.party;
  mine = h.enters.mine;
  got = h.got ∙ ap (λ ns. old.got ++ ns) (sym (append-nil a.seats));
  seen = (h.enters.since.0 ++ a.entry ∷ [], h.enters.seen ∙ ap (λ es. es ++ a.entry ∷ []) h.enters.since.1 ∙ append_assoc old.seen h.enters.since.0 (a.entry ∷ []));
  stands = (
    record {
      rest = [];
      is = h.enters.seen;
      asker = h.enters.asker ∙ sym h.enters.party;
      moment = h.enters.moment ∙ ap (λ (s : List Rules). later_moment (after s a.before).now at) (sym h.enters.sets) ∙ ap (λ (t : ℕ). later_moment (after new.sets a.before).now t) (sym h.handed);
      seats = h.seats;
    },
    tt,
  );
  run = h.enters.run;
  still = tt;
  shown = h.board_seen;
}

-- one glance
pub gained_sight : (old new : Account) (glance : Glance) → Glances old new glance → Gained [] ((record { glance = glance; list = new.board_seen }) ∷ []) old new
gained_sight old new glance h = record {
  sets = h.sets;
  party = h.party;
  mine = h.mine ∙ sym (append-nil old.mine);
  got = h.got ∙ sym (append-nil old.got);
  seen = ([], h.seen ∙ sym (append-nil old.seen));
  stands = tt;
  run = tt;
  still = h.seen;
  shown = (h.since, h.shows, extends_same new.board_seen);
}

-- nothing
pub gained_none : (x : Account) → Gained [] [] x x
gained_none x = record {
  sets = refl;
  party = refl;
  mine = sym (append-nil x.mine);
  got = sym (append-nil x.got);
  seen = extends_same x.seen;
  stands = tt;
  run = tt;
  still = refl;
  shown = extends_same x.board_seen;
}

later_sights : (sets : List Rules) (x y z : List Entry) (hs : List Shown) → Extends x y → AreSights sets y hs z → AreSights sets x hs z
later_sights sets x y z [] h k = extends_then x y z h k
later_sights sets x y z (s ∷ hs) h k = (extends_then x y s.list h k.0, k.1, k.2)

pub sights_then : (sets : List Rules) (x y z : List Entry) (gs hs : List Shown) → AreSights sets x gs y → AreSights sets y hs z → AreSights sets x (gs ++ hs) z
sights_then sets x y z [] hs h k = later_sights sets x y z hs h k
sights_then sets x y z (s ∷ gs) hs h k = (h.0, h.1, sights_then sets s.list y z gs hs h.2 k)

stands_longer : (sets : List Rules) (p : ℕ) (early late : List Entry) (as' : List Asking) → Extends early late → AllByRecursion (Stands sets p early) as' → AllByRecursion (Stands sets p late) as'
stands_longer sets p early late [] x h = tt
stands_longer sets p early late (a ∷ as') x h = (
  record {
    rest = h.0.rest ++ x.0;
    is = x.1 ∙ ap (λ es. es ++ x.0) h.0.is ∙ append_assoc a.before (a.entry ∷ h.0.rest) x.0;
    asker = h.0.asker;
    moment = h.0.moment;
    seats = h.0.seats;
  },
  stands_longer sets p early late as' x h.1,
)

all-append : {X : Type 0} (P : X → Type 0) (xs ys : List X) → AllByRecursion P xs → AllByRecursion P ys → AllByRecursion P (xs ++ ys)
all-append P [] ys h k = k
all-append P (x ∷ xs) ys h k = (h.0, all-append P xs ys h.1 k)

still-append : (as' bs : List Asking) (x y z : List Entry) → WhereNone as' (y ≡ x) → WhereNone bs (z ≡ y) → WhereNone (as' ++ bs) (z ≡ x)
still-append [] [] x y z h k = k ∙ h
still-append [] (b ∷ bs) x y z h k = tt
still-append (a ∷ as') bs x y z h k = tt

run-append : (as' bs : List Asking) (sy sz : List Rules) (y z : List Entry) → sz ≡ sy → WhereAny as' (IsRun sy y) → WhereNone bs (z ≡ y) → WhereAny bs (IsRun sz z) → WhereAny (as' ++ bs) (IsRun sz z)
run-append [] bs sy sz y z e h s k = k
run-append (a ∷ as') [] sy sz y z e h s k = subst (λ (l : List Entry). IsRun sz l) (sym s) (subst (λ (r : List Rules). IsRun r y) (sym e) h)
run-append (a ∷ as') (b ∷ bs) sy sz y z e h s k = k

pub gained_then : (as' bs : List Asking) (gs hs : List Shown) (x y z : Account) → Gained as' gs x y → Gained bs hs y z → Gained (as' ++ bs) (gs ++ hs) x z
gained_then as' bs gs hs x y z h k = record {
  sets = k.sets ∙ h.sets;
  party = k.party ∙ h.party;
  mine = k.mine ∙ ap (λ es. es ++ map (λ (a : Asking). a.entry) bs) h.mine ∙ append_assoc x.mine (map (λ (a : Asking). a.entry) as') (map (λ (a : Asking). a.entry) bs) ∙ ap (λ es. x.mine ++ es) (sym (map-append (λ (a : Asking). a.entry) as' bs));
  got = k.got ∙ ap (λ es. es ++ flat_map (λ (a : Asking). a.seats) bs) h.got ∙ append_assoc x.got (flat_map (λ (a : Asking). a.seats) as') (flat_map (λ (a : Asking). a.seats) bs) ∙ ap (λ es. x.got ++ es) (sym (flat_map-append (λ (a : Asking). a.seats) as' bs));
  seen = extends_then x.seen y.seen z.seen h.seen k.seen;
  stands = all-append (Stands z.sets z.party z.seen) as' bs
      (stands_longer z.sets z.party y.seen z.seen as' k.seen
      (subst (λ (r : List Rules). AllByRecursion (Stands r z.party y.seen) as') (sym k.sets)
      (subst (λ (p : ℕ). AllByRecursion (Stands y.sets p y.seen) as') (sym k.party) h.stands)))
      k.stands;
  run = run-append as' bs y.sets z.sets y.seen z.seen k.sets h.run k.still k.run;
  still = still-append as' bs x.seen y.seen z.seen h.still k.still;
  shown = sights_then z.sets x.board_seen y.board_seen z.board_seen gs hs (subst (λ (r : List Rules). AreSights r x.board_seen gs y.board_seen) (sym k.sets) h.shown) k.shown;
}

module _ {C : Type 0} (account : C → Account) where
  pub gains_none : (cs : List C) → Gains account [] cs cs
  gains_none cs = record { long = refl; each = λ j c below. gained_none (account (get_or cs j c)) }

  -- acts that no counter sees
  pub gains_same : (new : List Act) (cs : List C) → ((j : ℕ) → askings j new ≡ []) → ((j : ℕ) → sights j new ≡ []) → Gains account new cs cs
  gains_same new cs e f = record {
    long = refl;
    each = λ j c below.
        subst (λ (l : List Asking). Gained l (sights j new) (account (get_or cs j c)) (account (get_or cs j c))) (sym (e j))
        (subst (λ (l : List Shown). Gained [] l (account (get_or cs j c)) (account (get_or cs j c))) (sym (f j)) (gained_none (account (get_or cs j c))));
  }

  pub gains_then : (as' bs : List Act) (xs ys zs : List C) → Gains account as' xs ys → Gains account bs ys zs → Gains account (as' ++ bs) xs zs
  gains_then as' bs xs ys zs h k = record {
    long = k.long ∙ h.long;
    each = λ j c below.
        let e : askings j (as' ++ bs) ≡ askings j as' ++ askings j bs = flat_map-append _ as' bs in
        let f : sights j (as' ++ bs) ≡ sights j as' ++ sights j bs = flat_map-append _ as' bs in
        subst (λ (l : List Asking). Gained l (sights j (as' ++ bs)) (account (get_or xs j c)) (account (get_or zs j c))) (sym e)
        (subst (λ (l : List Shown). Gained (askings j as' ++ askings j bs) l (account (get_or xs j c)) (account (get_or zs j c))) (sym f)
        (gained_then (askings j as') (askings j bs) (sights j as') (sights j bs) _ (account (get_or ys j c)) _ (h.each j c below) (k.each j c (subst (λ n. j < n) (sym h.long) below))));
  }

  -- what one counter gains
  gains_at : (cs : List C) (i : ℕ) (d new : C) (asked : Bool → List Asking) (shown : Bool → List Shown) (act : Act) → i < length cs
      → ((j : ℕ) → askings j (act ∷ []) ≡ asked (Rattle.std.proofs.Common.eqb i j)) → ((j : ℕ) → sights j (act ∷ []) ≡ shown (Rattle.std.proofs.Common.eqb i j)) → asked false ≡ [] → shown false ≡ []
      → Gained (asked true) (shown true) (account (get_or cs i d)) (account new) → Gains account (act ∷ []) cs (set cs i new)
  gains_at cs i d new asked shown act within ea es fa fs h = record {
    long = length-set cs i new;
    each = λ j c below.
        let Q : Bool → C → C → Type 0 = λ b x y. Gained (asked b) (shown b) (account x) (account y) in
        let q : Q (Rattle.std.proofs.Common.eqb i j) (get_or cs j c) (get_or (set cs i new) j c) =
        elim (eqb_tells i j) [
          | inl p ↦
              subst (λ (b : Bool). Q b (get_or cs j c) (get_or (set cs i new) j c)) (sym p.0)
              (subst (λ (k : ℕ). Q true (get_or cs k c) (get_or (set cs i new) k c)) p.1
              (subst (λ (y : C). Q true (get_or cs i c) y) (sym (get_or-set_same cs i new c within))
              (subst (λ (x : C). Q true x new) (get_or_default cs i d c within) h)))
          | inr p ↦
              subst (λ (b : Bool). Q b (get_or cs j c) (get_or (set cs i new) j c)) (sym p.0)
              (subst (λ (y : C). Q false (get_or cs j c) y) (sym (get_or-set_other cs i j new c (λ e. p.1 (sym e))))
              (subst (λ (l : List Asking). Gained l (shown false) (account (get_or cs j c)) (account (get_or cs j c))) (sym fa)
              (subst (λ (l : List Shown). Gained [] l (account (get_or cs j c)) (account (get_or cs j c))) (sym fs) (gained_none (account (get_or cs j c))))))
        ] in
        subst (λ (l : List Asking). Gained l (sights j (act ∷ [])) (account (get_or cs j c)) (account (get_or (set cs i new) j c))) (sym (ea j))
        (subst (λ (l : List Shown). Gained (asked (Rattle.std.proofs.Common.eqb i j)) l (account (get_or cs j c)) (account (get_or (set cs i new) j c))) (sym (es j)) q);
  }

  pub gains_one : (cs : List C) (i : ℕ) (d new : C) {what : Kind} {who : Client} {at : ℕ} {answer : Asked} {a : Asking} → i < length cs → Asks (account (get_or cs i d)) (account new) what who at answer a → Gains account (Enter i a ∷ []) cs (set cs i new)
  gains_one cs i d new {what} {who} {at} {answer} {a} within h =
      gains_at cs i d new (λ b. cond b (a ∷ []) [] ++ []) (λ b. []) (Enter i a) within (λ j. refl) (λ j. refl) refl refl (gained_one h)

  pub gains_sight : (cs : List C) (i : ℕ) (d new : C) (glance : Glance) → i < length cs → Glances (account (get_or cs i d)) (account new) glance → Gains account (Look i (record { glance = glance; list = (account new).board_seen }) ∷ []) cs (set cs i new)
  gains_sight cs i d new glance within h =
      let s : Shown = record { glance = glance; list = (account new).board_seen } in
      gains_at cs i d new (λ b. []) (λ b. cond b (s ∷ []) [] ++ []) (Look i s) within (λ j. refl) (λ j. refl) refl refl (gained_sight (account (get_or cs i d)) (account new) glance h)
