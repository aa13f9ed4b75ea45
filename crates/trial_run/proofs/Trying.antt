-- What follows once all clients have played.
use Rattle.std.proofs.Common.{◌≡◌, ◌∙◌, ℕ, suc, ◌+◌, ◌<◌, ◌++◌, ◌∷◌, [], List, All, Vec, Global, length, map, get_or, append_assoc, ap, refl, sym, subst, arith}
use Rattle.std.proofs.lemmas.List.{append-nil, get_or-map, get_or_default, length-map, map-append}
use Rattle.daemon_outside.specs.Sites.{IsNew, Kept}
use Rattle.daemon_run.proofs.Joining.{IsNewcomer, choose, joins}
use Rattle.stat_board.specs.Fronts.{the_first}
use Rattle.daemon_run.specs.Gives.{AreKept, IsKept, passes_of}
use Rattle.daemon_run.specs.declared.worker.Worker.{Worker}
use Rattle.door_worker.specs.Visits.{IsSession, Visit, acts_in}
use Rattle.feature_desk.specs.Sitters.{DeskView, Sitter, account_of, newcomer}
use Rattle.licence_office.specs.Offices.{AreDealt}
use Rattle.office_view.specs.View.{View}
use Rattle.session.specs.Acts.{moments_of, talk_of}
use Rattle.session.specs.Pass.{Gains}
use Rattle.session.specs.Session.{setup_of}
use Rattle.session.specs.Table.{Setup}
use Rattle.session_outside.specs.Talk.{Event, Follows}
use Rattle.trial_link.proofs.Notes.{noted_talk, starts_noted}
use Rattle.trial_link.specs.Plays.{HasTold, IsTalk, Noted, note_of}
use Rattle.trial_link.specs.declared.call.Call.TheVariants.{Hello}
use Rattle.trial_link.specs.declared.call.Stage.{Stage}
use Rattle.trial_link.specs.declared.call.Stage.TheVariants.{Gives}
use Rattle.trial_link.specs.declared.link.TrialLink.{TrialLink}
use Rattle.trial_run.specs.Closed.{HasClosed}
use Rattle.trial_run.specs.Fresh.{AreFresh, IsFresh}
use Rattle.trial_run.specs.Held.{Held}
use Rattle.trial_run.specs.Played.{AllPlayed, AreNumbered, Played, TellsTrial, counters_of, links_of}
use Rattle.trial_run.specs.Tried.{IsPlayed, each_alone, kept_of}
use Rattle.trial_run.specs.declared.player.Player.{Player}
use Rattle.trial_run.specs.declared.player.Trial.{Trial}

-- a link as it is made stands for its note
fresh_told : (number rounds : ℕ) (l : TrialLink) → IsFresh number rounds l → TellsTrial l (note_of number rounds)
fresh_told number rounds l f =
    let P : ℕ → ℕ → Stage → ℕ → ℕ → ℕ → Type 0 = λ n r s given played grants. Noted n r (HasTold n r s given played grants) (note_of number rounds) in
    subst (λ n. P n l.rounds l.stage l.given l.played l.grants) (sym f.number_is)
    (subst (λ n. P number n l.stage l.given l.played l.grants) (sym f.rounds_are)
    (subst (λ s. P number rounds s l.given l.played l.grants) (sym f.stage)
    (subst (λ n. P number rounds (Gives Hello) n l.played l.grants) (sym f.given)
    (subst (λ n. P number rounds (Gives Hello) 0 n l.grants) (sym f.played)
    (subst (λ n. P number rounds (Gives Hello) 0 0 n) (sym f.grants) (starts_noted number rounds))))))

-- and so its talk is one that its client can have had
talk_told : (number rounds : ℕ) (old new : TrialLink) (talk : List Event) → IsFresh number rounds old → Follows TellsTrial old new talk → IsTalk number rounds talk
talk_told number rounds old new talk f h = noted_talk number rounds new.number new.rounds new.stage new.given new.played new.grants talk (h (note_of number rounds) (fresh_told number rounds old f))

-- the acts of one session alone
pub alone_acts : (visits : List Visit) (p : ℕ) (v : Visit) → p < length visits → acts_in (get_or (each_alone visits) p []) ≡ (get_or visits p v).acts
alone_acts visits p v l = ap acts_in (get_or-map (λ (x : Visit). x ∷ []) visits p v [] l) ∙ append-nil (get_or visits p v).acts

module _ {D K B G : Type 0} where
  -- the counters of a worker
  pub counters_at : (ws : List (Worker Player D K B G)) (i : ℕ) (d : Worker Player D K B G) (v : Vec Sitter Global) → i < length ws → get_or (counters_of (passes_of ws)) i v ≡ (get_or ws i d).pass.counters
  counters_at ws i d v l =
      get_or-map (λ (p : Player). p.counters) (passes_of ws) i d.pass v (subst (λ n. i < n) (sym (length-map ws (λ (w : Worker Player D K B G). w.pass))) l)
      ∙ ap (λ (p : Player). p.counters) (get_or-map (λ (w : Worker Player D K B G). w.pass) ws i d d.pass l)

  -- its link
  link_at : (ws : List (Worker Player D K B G)) (i : ℕ) (d : Worker Player D K B G) (x : TrialLink) → i < length ws → get_or (links_of (passes_of ws)) i x ≡ (get_or ws i d).pass.link
  link_at ws i d x l =
      get_or-map (λ (p : Player). p.link) (passes_of ws) i d.pass x (subst (λ n. i < n) (sym (length-map ws (λ (w : Worker Player D K B G). w.pass))) l)
      ∙ ap (λ (p : Player). p.link) (get_or-map (λ (w : Worker Player D K B G). w.pass) ws i d d.pass l)

  fresh_link : (rounds : ℕ) (ws : List (Worker Player D K B G)) → AreFresh rounds (links_of (passes_of ws)) → (i : ℕ) (d : Worker Player D K B G) → i < length ws → IsFresh i rounds (get_or ws i d).pass.link
  fresh_link rounds ws fresh i d l =
      let m : i < length (links_of (passes_of ws)) = subst (λ n. i < n) (sym (length-map (passes_of ws) (λ (p : Player). p.link) ∙ length-map ws (λ (w : Worker Player D K B G). w.pass))) l in
      subst (IsFresh i rounds) (link_at ws i d d.pass.link l) (fresh i d.pass.link m)

  pub counters_count : (ws : List (Worker Player D K B G)) → length (counters_of (passes_of ws)) ≡ length ws
  counters_count ws = length-map (passes_of ws) (λ (p : Player). p.counters) ∙ length-map ws (λ (w : Worker Player D K B G). w.pass)

  -- what a site keeps of posts of which only the clocks were used
  are_kept : (talks : D → List (List Event) → Type 0) (gave : K → List ℕ → Type 0) (base : ℕ) (ws : List (Worker Player D K B G)) (vs : List Visit) → length vs ≡ length ws
      → ((i : ℕ) (d : Worker Player D K B G) (v : Visit) → i < length ws → IsKept talks gave (get_or ws i d) (record { number = base + i; talks = []; moments = moments_of (get_or vs i v).acts }))
      → AreKept talks gave ws (kept_of base vs)
  are_kept talks gave base [] [] l h = tt
  are_kept talks gave base [] (v ∷ vs) l h = absurd (omega arith)
  are_kept talks gave base (w ∷ ws) [] l h = absurd (omega arith)
  are_kept talks gave base (w ∷ ws) (v ∷ vs) l h =
      let same : base + 0 ≡ base = omega arith in (
        subst (λ (n : ℕ). IsKept talks gave w (record { number = n; talks = []; moments = moments_of v.acts })) same (h 0 w v (omega arith)),
        are_kept talks gave (suc base) ws vs (omega arith) (λ i d u below.
            let next : base + suc i ≡ suc base + i = omega arith in
            subst (λ (n : ℕ). IsKept talks gave (get_or ws i d) (record { number = n; talks = []; moments = moments_of (get_or vs i u).acts })) next (h (suc i) d u (omega (arith, below)))),
      )

module _ {D K B G : Type 0} (office : View DeskView) (talks : D → List (List Event) → Type 0) (gave : K → List ℕ → Type 0) (faults quiets fails lent : D → ℕ) (tolls rings : B → ℕ)
    (olds news : List (Worker Player D K B G)) (long : length news ≡ length olds) (played : AllPlayed account_of office gave olds news)
    (unused : All (λ (w : Worker Player D K B G). IsNew talks gave faults quiets fails lent tolls rings w.post.door w.post.clock w.post.bell) olds)
    (rounds : ℕ) (fresh : AreFresh rounds (links_of (passes_of olds))) (dealt : AreDealt office.desks (counters_of (passes_of olds))) (some : 0 < length olds) where
  one : Worker Player D K B G
  one = the_first olds some

  -- the session of each client
  abbrev Did : ℕ → Visit → Type 0
  Did i v = (p : Played account_of office gave (get_or olds i one) (get_or news i one)) × (p.visit ≡ v)

  chosen : (visits : List Visit) × (length visits ≡ length olds) × ((i : ℕ) (d : Visit) → i < length olds → Did i (get_or visits i d))
  chosen = choose Did (length olds) (λ i l. let p = played i one l in (p.visit, (p, refl)))

  first : Visit
  first = (played 0 one some).visit

  dealt_at : (i : ℕ) → i < length olds → (get_or olds i one).pass.counters.items ≡ map (λ (desk : DeskView). newcomer desk i) office.desks
  dealt_at i l =
      let v = (get_or olds i one).pass.counters in
      ap (λ (x : Vec Sitter Global). x.items) (sym (counters_at olds i one v l)) ∙ dealt i v (subst (λ n. i < n) (sym (counters_count olds)) l)

  are_played : (i : ℕ) (v : Visit) → i < length olds → IsPlayed i rounds (setup_of account_of office (map (λ (desk : DeskView). newcomer desk i) office.desks)) (get_or chosen.0 i v)
  are_played i v l =
      let c = chosen.2 i v l in
      let p = c.0 in
      subst (λ (x : Visit). IsPlayed i rounds (setup_of account_of office (map (λ (desk : DeskView). newcomer desk i) office.desks)) x) c.1 (record {
        is_session = subst (λ (cs : List Sitter). IsSession (setup_of account_of office cs) p.visit) (dealt_at i l) p.is_session;
        talk = talk_told i rounds (get_or olds i one).pass.link (get_or news i one).pass.link (talk_of p.visit.acts) (fresh_link rounds olds fresh i one l) p.told;
      })

  alone_count : length (each_alone chosen.0) ≡ length olds
  alone_count = length-map chosen.0 (λ (v : Visit). v ∷ []) ∙ chosen.1

  chosen_acts : (p : ℕ) → p < length olds → acts_in (get_or (each_alone chosen.0) p []) ≡ (get_or chosen.0 p first).acts
  chosen_acts p l = alone_acts chosen.0 p first (subst (λ n. p < n) (sym chosen.1) l)

  newcomers : (d : DeskView) → 0 < length office.desks → (p : ℕ) (v : Vec Sitter Global) → p < length (each_alone chosen.0) → IsNewcomer (get_or office.desks 0 d) 0 p (get_or (counters_of (passes_of olds)) p v).items
  newcomers d below p v l =
      let m : p < length olds = subst (λ n. p < n) alone_count l in
      let e : (get_or (counters_of (passes_of olds)) p v).items ≡ map (λ (desk : DeskView). newcomer desk p) office.desks = dealt p v (subst (λ n. p < n) (sym (counters_count olds)) m) in
      record {
        there = subst (λ (cs : List Sitter). 0 < length cs) (sym e) (subst (λ n. 0 < n) (sym (length-map office.desks (λ (desk : DeskView). newcomer desk p))) below);
        is = λ s. ap (λ (cs : List Sitter). get_or cs 0 s) e ∙ get_or-map (λ (desk : DeskView). newcomer desk p) office.desks 0 d s below;
      }

  gained : (p : ℕ) (v : Vec Sitter Global) → p < length (each_alone chosen.0)
      → Gains account_of (acts_in (get_or (each_alone chosen.0) p [])) (get_or (counters_of (passes_of olds)) p v).items (get_or (counters_of (passes_of news)) p v).items
  gained p v l =
      let m : p < length olds = subst (λ n. p < n) alone_count l in
      let c = chosen.2 p first m in
      let acts = ap (λ (x : Visit). x.acts) c.1 ∙ sym (chosen_acts p m) in
      subst (λ (x : Vec Sitter Global). Gains account_of (acts_in (get_or (each_alone chosen.0) p [])) x.items (get_or (counters_of (passes_of news)) p v).items) (sym (counters_at olds p one v m))
      (subst (λ (x : Vec Sitter Global). Gains account_of (acts_in (get_or (each_alone chosen.0) p [])) (get_or olds p one).pass.counters.items x.items) (sym (counters_at news p one v (subst (λ n. p < n) (sym long) m)))
      (subst (λ as'. Gains account_of as' (get_or olds p one).pass.counters.items (get_or news p one).pass.counters.items) acts c.0.gains))

  kept : (base : ℕ) → ((i : ℕ) (d : Worker Player D K B G) → i < length olds → (get_or olds i d).post.number ≡ base + i) → AreKept talks gave news (kept_of base chosen.0)
  kept base numbers = are_kept talks gave base news chosen.0 (chosen.1 ∙ sym long) (λ i d v l.
      let m : i < length olds = subst (λ n. i < n) long l in
      let c = chosen.2 i v m in
      let p = c.0 in
      let u = unused i one m in
      subst (λ (w : Worker Player D K B G). IsKept talks gave w (record { number = base + i; talks = []; moments = moments_of (get_or chosen.0 i v).acts })) (get_or_default news i one d l)
      (record {
        number_is = sym (p.number ∙ numbers i one m);
        talks_are = subst (λ (x : D). talks x []) (sym p.door) u.no_talks;
        moments_are = subst (λ (x : Visit). gave (get_or news i one).post.clock (moments_of x.acts)) c.1 (p.moments [] u.no_moments);
      }))

  -- what was held
  pub held : (base : ℕ) (d : DeskView) (trial : Trial) (keeps : List Kept → Type 0) → 0 < length office.desks
      → AreNumbered base olds
      → ((new : List Kept) → AreKept talks gave news new → keeps new)
      → HasClosed (get_or office.desks 0 d) (counters_of (passes_of news)) trial
      → Held (get_or office.desks 0 d) (λ p. setup_of account_of office (map (λ (desk : DeskView). newcomer desk p) office.desks)) (length olds) rounds (λ sessions. keeps (kept_of base sessions)) trial
  held base d trial keeps below numbers keep closed = record {
    sessions = chosen.0;
    history = closed.history;
    clients_are = chosen.1;
    played = are_played;
    keeps = keep (kept_of base chosen.0) (kept base numbers);
    joined = joins (get_or office.desks 0 d) 0 (counters_of (passes_of olds)) (counters_of (passes_of news)) (each_alone chosen.0)
        (counters_count olds ∙ sym alone_count) (counters_count news ∙ long ∙ sym alone_count) (newcomers d below) gained closed.tally closed.history closed.tells;
    grants_are = closed.grants_is ∙ closed.tells.grants_is;
    uses_are = closed.uses_are ∙ closed.tells.uses_are ∙ sym closed.grants_is;
  }

-- what holds of the counters of each client holds of each of the counters
pub the_counters : (Q : Vec Sitter Global → Type 0) (players : List Player) → All (λ (p : Player). Q p.counters) players → All Q (counters_of players)
the_counters Q players h = λ k v l.
    let m : k < length players = subst (λ n. k < n) (length-map players (λ (p : Player). p.counters)) l in
    let p = the_first players (omega arith) in
    subst Q (sym (get_or-map (λ (x : Player). x.counters) players k p v m)) (h k p m)

-- what holds of each worker's client holds of each of the clients
pub the_players : {D K B G : Type 0} (Q : Player → Type 0) (ws : List (Worker Player D K B G)) → All (λ (w : Worker Player D K B G). Q w.pass) ws → All Q (passes_of ws)
the_players {D} {K} {B} {G} Q ws h = λ k p l.
    let m : k < length ws = subst (λ n. k < n) (length-map ws (λ (w : Worker Player D K B G). w.pass)) l in
    let w = the_first ws (omega arith) in
    subst Q (sym (get_or-map (λ (x : Worker Player D K B G). x.pass) ws k w p m)) (h k w m)

-- one more client's counters come behind those before it
pub counters_behind : (start old new : List (Vec Sitter Global)) (players : List Player) (p : Player) → new ≡ old ++ p.counters ∷ [] → old ≡ start ++ counters_of players → new ≡ start ++ counters_of (players ++ p ∷ [])
counters_behind start old new players p e h =
    e ∙ ap (λ ps. ps ++ p.counters ∷ []) h ∙ append_assoc start (counters_of players) (p.counters ∷ []) ∙ ap (λ ps. start ++ ps) (sym (map-append (λ (x : Player). x.counters) players (p ∷ [])))

-- each worker's client has what was dealt to its party
pub dealt_each : {D K B G : Type 0} (desks : List DeskView) (ws : List (Worker Player D K B G)) → AreDealt desks (counters_of (passes_of ws)) → (k : ℕ) (d : Worker Player D K B G) → k < length ws → (get_or ws k d).pass.counters.items ≡ map (λ (desk : DeskView). newcomer desk k) desks
dealt_each desks ws dealt k d l =
    let v = (get_or ws k d).pass.counters in
    ap (λ (x : Vec Sitter Global). x.items) (sym (counters_at ws k d v l)) ∙ dealt k v (subst (λ n. k < n) (sym (counters_count ws)) l)

-- what was dealt to a client
pub dealt_player : (desks : List DeskView) (players : List Player) → AreDealt desks (counters_of players) → (k : ℕ) (d : Player) → k < length players → (get_or players k d).counters.items ≡ map (λ (desk : DeskView). newcomer desk k) desks
dealt_player desks players dealt k d l =
    let v = (get_or players k d).counters in
    ap (λ (x : Vec Sitter Global). x.items) (sym (get_or-map (λ (p : Player). p.counters) players k d v l))
    ∙ dealt k v (subst (λ n. k < n) (sym (length-map players (λ (p : Player). p.counters))) l)

-- what the site keeps otherwise
pub held_kept : (desk : DeskView) (setup : ℕ → Setup) (n m rounds : ℕ) (kept more : List Visit → Type 0) (trial : Trial) → n ≡ m → ((sessions : List Visit) → kept sessions → more sessions) → Held desk setup n rounds kept trial → Held desk setup m rounds more trial
held_kept desk setup n m rounds kept more trial e h t = subst (λ k. Held desk setup k rounds more trial) e (record {
  sessions = t.sessions;
  history = t.history;
  clients_are = t.clients_are;
  played = t.played;
  keeps = h t.sessions t.keeps;
  joined = t.joined;
  grants_are = t.grants_are;
  uses_are = t.uses_are;
})
