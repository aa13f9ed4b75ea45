-- The counters stand where the session does.
use Rattle.std.proofs.Common.{◌≡◌, ℕ, ◌<◌, ◌∙◌, ◌++◌, ◌∷◌, [], List, Bool, true, false, cond, length, map, ap, sym, refl, subst, get_or, Option, Some, None}
use Rattle.std.proofs.lemmas.List.{map-append, append-nil, get_or-map, length-map}
use Rattle.std.proofs.lemmas.Grind.{flat_map-append}
use Rattle.counter.specs.Account.{Account, Asking}
use Rattle.office_view.specs.View.{View}
use Rattle.options_machine.specs.Own.{holds, is_of_holding, is_of_queueing, is_some_of, queues, standing_from, standing_then, stands_for}
use Rattle.options_machine.specs.declared.reply.Entry.{Entry}
use Rattle.options_machine.specs.declared.reply.Reply.{Reply}
use Rattle.session.specs.Acts.{Act, askings, entries}
use Rattle.session.specs.Asks.{is_meant_at}
use Rattle.session.specs.Did.{Agrees, StandsAt}
use Rattle.session.specs.Pass.{AreIdle, Gained, Gains}
use Rattle.session.specs.Session.{setup_of}
use Rattle.session.specs.Table.{Setup, is_desk_meant, is_holding_at, is_meant, party_at}
use Rattle.session.specs.declared.asked.Whom.{Whom}

pub standing_append : (p : ℕ) (o : Option Reply) (xs ys : List Entry) → standing_from p o (xs ++ ys) ≡ standing_from p (standing_from p o xs) ys
standing_append p o [] ys = refl
standing_append p o (x ∷ xs) ys = standing_append p (standing_then p o x) xs ys

same_then : (t : Reply → Bool) (b : Bool) (r : Reply) (u v : Option Reply) → is_some_of t u ≡ is_some_of t v → is_some_of t (cond b (Some r) u) ≡ is_some_of t (cond b (Some r) v)
same_then t true r u v e = refl
same_then t false r u v e = e

same_from : (t : Reply → Bool) (p : ℕ) (u v : Option Reply) (es : List Entry) → is_some_of t u ≡ is_some_of t v → is_some_of t (standing_from p u es) ≡ is_some_of t (standing_from p v es)
same_from t p u v [] e = e
same_from t p u v (x ∷ es) e = same_from t p (standing_then p u x) (standing_then p v x) es (same_then t (stands_for p x) x.reply u v e)

-- two lists that stand alike stand alike with the same entries at their ends
pub same_more : (t : Reply → Bool) (p : ℕ) (xs ys es : List Entry) → is_some_of t (standing_from p None xs) ≡ is_some_of t (standing_from p None ys) → is_some_of t (standing_from p None (xs ++ es)) ≡ is_some_of t (standing_from p None (ys ++ es))
same_more t p xs ys es e =
    ap (is_some_of t) (standing_append p None xs es)
    ∙ same_from t p (standing_from p None xs) (standing_from p None ys) es e
    ∙ ap (is_some_of t) (sym (standing_append p None ys es))

pub entries_append : (j : ℕ) (as' bs : List Act) → entries j (as' ++ bs) ≡ entries j as' ++ entries j bs
entries_append j as' bs = ap (map (λ (a : Asking). a.entry)) (flat_map-append _ as' bs) ∙ map-append (λ (a : Asking). a.entry) (askings j as') (askings j bs)

test_then : (t : Reply → Bool) (o : Setup) (before new : List Act) (j p : ℕ) (old mine : List Entry) → p ≡ party_at o j → mine ≡ old ++ entries j new
    → is_some_of t (standing_from p None old) ≡ is_some_of t (standing_from (party_at o j) None (entries j before)) → is_some_of t (standing_from p None mine) ≡ is_some_of t (standing_from (party_at o j) None (entries j (before ++ new)))
test_then t o before new j p old mine e m h =
    let q = party_at o j in
    let h' : is_some_of t (standing_from q None old) ≡ is_some_of t (standing_from q None (entries j before)) = subst (λ (n : ℕ). is_some_of t (standing_from n None old) ≡ is_some_of t (standing_from q None (entries j before))) e h in
    ap (λ (n : ℕ). is_some_of t (standing_from n None mine)) e
    ∙ ap (λ (es : List Entry). is_some_of t (standing_from q None es)) m
    ∙ same_more t q old (entries j before) (entries j new) h'
    ∙ ap (λ (es : List Entry). is_some_of t (standing_from q None es)) (sym (entries_append j before new))

at_more : (t : Reply → Bool) (o : Setup) (before new : List Act) (j : ℕ) (x y : Account) → y.party ≡ x.party → y.mine ≡ x.mine ++ entries j new → x.party ≡ party_at o j
    → is_some_of t (standing_from x.party None x.mine) ≡ is_some_of t (standing_from (party_at o j) None (entries j before)) → is_some_of t (standing_from y.party None y.mine) ≡ is_some_of t (standing_from (party_at o j) None (entries j (before ++ new)))
at_more t o before new j x y p m e h =
    test_then t o before new j y.party x.mine y.mine (p ∙ e) m (ap (λ (n : ℕ). is_some_of t (standing_from n None x.mine)) p ∙ h)

pub stands_then : (o : Setup) (before new : List Act) (j : ℕ) (x y : Account) {shown : List Rattle.session.specs.Acts.Shown} → StandsAt o before j x → Gained (askings j new) shown x y → StandsAt o (before ++ new) j y
stands_then o before new j x y h k = record {
  party = k.party ∙ h.party;
  holds = at_more is_of_holding o before new j x y k.party k.mine h.party h.holds;
  queues = at_more is_of_queueing o before new j x y k.party k.mine h.party h.queues;
}

module _ {C D : Type 0} (account : C → Account) (v : View D) where
  pub agrees_then : (o : Setup) (before new : List Act) (xs ys : List C) → Agrees account v o before xs → Gains account new xs ys → Agrees account v o (before ++ new) ys
  agrees_then o before new xs ys h k = record {
    pools = h.pools;
    sets = h.sets;
    long = h.long ∙ sym k.long;
    each = λ j c below.
        let b : j < length xs = subst (λ n. j < n) k.long below in
        stands_then o before new j (account (get_or xs j c)) (account (get_or ys j c)) (h.each j c b) (k.each j c b);
  }

  -- a desk is meant where its counter is
  pub meant_is : (o : Setup) (before : List Act) (xs : List C) (whom : Whom) (j : ℕ) (c : C) → Agrees account v o before xs → j < length xs → is_meant_at whom (account (get_or xs j c)) ≡ is_desk_meant whom o before j
  meant_is o before xs whom j c h below =
      let s = h.each j c below in
      ap (λ b. is_meant whom b (queues (account (get_or xs j c)).mine (account (get_or xs j c)).party)) s.holds ∙ ap (λ b. is_meant whom (is_holding_at o before j) b) s.queues

pub same_at : (whom : Whom) (o : Setup) (before new : List Act) (j : ℕ) → askings j new ≡ [] → is_desk_meant whom o (before ++ new) j ≡ is_desk_meant whom o before j
same_at whom o before new j e =
    let es : entries j (before ++ new) ≡ entries j before = entries_append j before new ∙ ap (λ (l : List Asking). entries j before ++ map (λ (a : Asking). a.entry) l) e ∙ append-nil (entries j before) in
    ap (λ (l : List Entry). is_meant whom (holds l (party_at o j)) (queues l (party_at o j))) es

-- at the opening nothing is kept
pub agrees_opening : {C D : Type 0} (account : C → Account) (v : View D) (cs : List C) → AreIdle account cs → Agrees account v (setup_of account v cs) [] cs
agrees_opening {C} account v cs idle = record {
  pools = refl;
  sets = refl;
  long = length-map cs (λ c. (account c).party);
  each = λ j c below. record {
    party = sym (get_or-map (λ c. (account c).party) cs j c 0 below);
    holds = (idle j c below).0;
    queues = (idle j c below).1;
  };
}
