-- What is known of the office of a trial, and of its clients.
use Rattle.std.proofs.Common.{◌≡◌, ◌∙◌, ℕ, ◌<◌, Bool, true, false, nat_lt, ◌++◌, ◌∷◌, [], List, length, map, get_or, reverse, append_assoc, length-append, ap, refl, sym, subst, arith}
use Rattle.std.proofs.lemmas.Bool.{ltb-true, ltb-false}
use Rattle.std.proofs.Math.Seq.{get_or-append_seam}
use Rattle.std.proofs.lemmas.List.{get_or_append_left, map-append, reverse-append}
use Rattle.daemon_run.specs.Join.{HasSets}
use Rattle.door_worker.specs.Visits.{Visit}
use Rattle.feature_desk.specs.Sitters.{DeskView, Sitter, account_of, newcomer}
use Rattle.feature_lines.specs.declared.pool.Pool.{Pool}
use Rattle.licence_office.specs.Offices.{IsDeskFor}
use Rattle.office_view.specs.View.{View}
use Rattle.options_text.specs.Options.{OptionsFile}
use Rattle.session.specs.Session.{setup_of}
use Rattle.session.specs.Table.{Setup}
use Rattle.trial_link.specs.declared.link.TrialLink.{TrialLink}
use Rattle.trial_rounds.specs.Rounds.{trial_setup}
use Rattle.trial_run.specs.Fresh.{AreFresh, IsFresh}
use Rattle.trial_run.specs.Held.{Held}
use Rattle.trial_run.specs.Tried.{IsPlayed}
use Rattle.trial_run.specs.declared.player.Player.{Player}
use Rattle.trial_run.specs.declared.player.Trial.{Trial}
use Rattle.trial_terms.specs.Terms.{no_options, trial_pool}

-- the desk of the one pool of a trial's licence
pub trial_desk : (pools : List Pool) (file : OptionsFile) (n seats : ℕ) (desks : List DeskView) → pools ≡ trial_pool seats ∷ [] → file ≡ no_options
    → ((j : ℕ) (p : Pool) (d : DeskView) → j < length pools → IsDeskFor (file ∷ []) n (get_or pools j p) (get_or desks j d)) → (d : DeskView) → IsDeskFor (no_options ∷ []) n (trial_pool seats) (get_or desks 0 d)
trial_desk pools file n seats desks terms empty desks_are d =
    let pool = trial_pool seats in
    let is = desks_are 0 pool d (subst (λ (ps : List Pool). 0 < length ps) (sym terms) (omega arith)) in
    subst (λ (f : OptionsFile). IsDeskFor (f ∷ []) n pool (get_or desks 0 d)) empty
    (subst (λ (ps : List Pool). IsDeskFor (file ∷ []) n (get_or ps 0 pool) (get_or desks 0 d)) terms is)

fresh_at : (rounds : ℕ) (links : List TrialLink) (l : TrialLink) → AreFresh rounds links → IsFresh (length links) rounds l → (k : ℕ) (d : TrialLink) → k < length (links ++ l ∷ []) → (b : Bool) → nat_lt k (length links) ≡ b → IsFresh k rounds (get_or (links ++ l ∷ []) k d)
fresh_at rounds links l h one k d below true t =
    let before : k < length links = ltb-true k (length links) t in
    subst (IsFresh k rounds) (sym (get_or_append_left links (l ∷ []) d k before)) (h k d before)
fresh_at rounds links l h one k d below false t =
    let last : k ≡ length links = omega (arith, ltb-false k (length links) t, below, length-append links (l ∷ [])) in
    subst (λ i. IsFresh i rounds (get_or (links ++ l ∷ []) i d)) (sym last) (subst (IsFresh (length links) rounds) (sym (get_or-append_seam links l [] d)) one)

module _ (office : View DeskView) (n seats : ℕ) (pools_are : office.pools ≡ trial_pool seats ∷ []) (sets_are : office.sets ≡ 1)
    (desk_is : (d : DeskView) → IsDeskFor (no_options ∷ []) n (trial_pool seats) (get_or office.desks 0 d)) where
  pub one_pool : length office.pools ≡ 1
  one_pool = ap length pools_are

  -- its desk has one rule set
  pub has_sets : HasSets office
  has_sets = λ j d l.
      let m : j < 1 = subst (λ (ps : List Pool). j < length ps) pools_are l in
      let first : 0 ≡ j = omega arith in
      subst (λ (i : ℕ). length (get_or office.desks i d).lock.law.sets ≡ office.sets) first (ap length (desk_is d).rules ∙ sym sets_are)

  one_party : (p : ℕ) (desks : List DeskView) → length desks ≡ 1 → map (λ (s : Sitter). (account_of s).party) (map (λ (desk : DeskView). newcomer desk p) desks) ≡ p ∷ []
  one_party p [] l = absurd (omega arith)
  one_party p (d ∷ []) l = refl
  one_party p (d ∷ e ∷ desks) l = absurd (omega arith)

  -- what its clients' sessions stand on
  pub same_setup : length office.desks ≡ 1 → (p : ℕ) → setup_of account_of office (map (λ (desk : DeskView). newcomer desk p) office.desks) ≡ trial_setup seats p
  same_setup one p =
      let numbers = one_party p office.desks one in
      ap (λ (ps : List Pool). record { pools = ps; sets = office.sets; parties = map (λ (s : Sitter). (account_of s).party) (map (λ (desk : DeskView). newcomer desk p) office.desks) }) pools_are
      ∙ (ap (λ (k : ℕ). record { pools = trial_pool seats ∷ []; sets = k; parties = map (λ (s : Sitter). (account_of s).party) (map (λ (desk : DeskView). newcomer desk p) office.desks) }) sets_are
      ∙ ap (λ (l : List ℕ). record { pools = trial_pool seats ∷ []; sets = 1; parties = l }) numbers)

-- what was held of equal setups
pub held_as : (desk : DeskView) (setup other : ℕ → Setup) (n clients rounds : ℕ) (kept : List Visit → Type 0) (trial : Trial) → n ≡ clients → ((p : ℕ) → setup p ≡ other p) → Held desk setup n rounds kept trial → Held desk other clients rounds kept trial
held_as desk setup other n clients rounds kept trial e same t = record {
  sessions = t.sessions;
  history = t.history;
  clients_are = t.clients_are ∙ e;
  played = λ p v l. subst (λ (o : Setup). IsPlayed p rounds o (get_or t.sessions p v)) (same p) (t.played p v (subst (λ (k : ℕ). p < k) (sym e) l));
  keeps = t.keeps;
  joined = t.joined;
  grants_are = t.grants_are;
  uses_are = t.uses_are;
}

module _ {X : Type 0} (part : Player → X) where
  -- one more client took the last of what is dealt
  pub seated_more : (rest all dealt : List X) (players : List Player) (p : Player) → all ≡ rest ++ part p ∷ [] → all ++ reverse (map part players) ≡ dealt → rest ++ reverse (map part (players ++ p ∷ [])) ≡ dealt
  seated_more rest all dealt players p e h =
      ap (λ ps. rest ++ reverse ps) (map-append part players (p ∷ []))
      ∙ ap (λ ps. rest ++ ps) (reverse-append (map part players) (part p ∷ []))
      ∙ sym (append_assoc rest (part p ∷ []) (reverse (map part players)))
      ∙ ap (λ ps. ps ++ reverse (map part players)) (sym e)
      ∙ h

  -- the parts of clients in the other order
  parts_back : (players : List Player) → map part (reverse players) ≡ reverse (map part players)
  parts_back [] = refl
  parts_back (p ∷ players) =
      ap (map part) (reverse-append (p ∷ []) players)
      ∙ map-append part (reverse players) (p ∷ [])
      ∙ ap (λ ps. ps ++ part p ∷ []) (parts_back players)
      ∙ sym (reverse-append (part p ∷ []) (map part players))

  -- where none are left, all clients have them
  pub all_seated : (left dealt : List X) (players : List Player) → left ≡ [] → left ++ reverse (map part players) ≡ dealt → map part (reverse players) ≡ dealt
  all_seated left dealt players none h = parts_back players ∙ subst (λ ps. ps ++ reverse (map part players) ≡ dealt) none h

-- one more link as it is made
pub fresh_more : (rounds : ℕ) (links : List TrialLink) (l : TrialLink) → AreFresh rounds links → IsFresh (length links) rounds l → AreFresh rounds (links ++ l ∷ [])
fresh_more rounds links l h one = λ k d below. fresh_at rounds links l h one k d below (nat_lt k (length links)) refl
