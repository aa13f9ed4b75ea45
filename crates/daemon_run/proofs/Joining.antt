-- How what the workers' counters gained joins with the closing of a desk.
use Rattle.std.proofs.Common.{◌≡◌, ◌∙◌, ℕ, zero, suc, ◌<◌, ◌++◌, ◌∷◌, [], List, length, map, get_or, ap, refl, sym, subst, arith, append_assoc}
use Rattle.std.proofs.lemmas.List.{get_or-map, get_or_default, length-map}
use Rattle.std.specs.List.{AllByRecursion, flat_map}
use Rattle.std.specs.Prelude.{Vec}
use Rattle.counter.specs.Account.{Account, Asking, Extends}
use Rattle.door_worker.specs.Visits.{Visit, acts_in}
use Rattle.feature_desk.specs.Closings.{Tells}
use Rattle.feature_desk.specs.Sitters.{DeskView, Sitter, account_of, newcomer}
use Rattle.feature_desk.specs.Sittings.{AreLow}
use Rattle.feature_desk.specs.declared.closing.DeskTally.{DeskTally}
use Rattle.licence_office.specs.Offices.{accounts_at, nobody}
use Rattle.options_machine.specs.Own.{own}
use Rattle.options_machine.specs.Rules.{Rules}
use Rattle.options_machine.specs.declared.reply.Entry.{Entry}
use Rattle.session.specs.Acts.{askings, sights}
use Rattle.session.specs.Pass.{Gained, Gains, Stands}
use Rattle.daemon_run.specs.Join.{IsHistory}
use Rattle.stat_board.specs.Fronts.{the_first}

-- one for each number below n
pub choose : {Y : Type 0} (R : ℕ → Y → Type 0) (n : ℕ) → ((i : ℕ) → i < n → (y : Y) × R i y) → (ys : List Y) × (length ys ≡ n) × ((i : ℕ) (d : Y) → i < n → R i (get_or ys i d))
choose R zero f = ([], refl, λ i d l. absurd (omega arith))
choose R (suc n) f =
    let h = f 0 (omega arith) in
    let t = choose (λ i. R (suc i)) n (λ i l. f (suc i) (omega arith)) in (
      h.0 ∷ t.0,
      ap (λ k. suc k) t.1,
      elim [ zero ↦ λ d l. h.1 | suc i ↦ λ d l. t.2 i d (omega arith) ],
    )

-- a party's counter at desk j that has asked nothing yet
pub record IsNewcomer (d : DeskView) (j p : ℕ) (cs : List Sitter) : Type 0 where
  pub there : j < length cs
  pub is : (s : Sitter) → get_or cs j s ≡ newcomer d p

stands_as : (sets sets' : List Rules) (p p' : ℕ) (h : List Entry) (asked : List Asking) → sets' ≡ sets → p' ≡ p → AllByRecursion (Stands sets p h) asked → AllByRecursion (Stands sets' p' h) asked
stands_as sets sets' p p' h asked e f k = subst (λ (s : List Rules). AllByRecursion (Stands s p' h) asked) (sym e) (subst (λ (q : ℕ). AllByRecursion (Stands sets q h) asked) (sym f) k)

stands_later : (sets : List Rules) (p : ℕ) (early late : List Entry) (asked : List Asking) → Extends early late → AllByRecursion (Stands sets p early) asked → AllByRecursion (Stands sets p late) asked
stands_later sets p early late [] x h = tt
stands_later sets p early late (a ∷ others) x h = (
  record {
    rest = h.0.rest ++ x.0;
    is = x.1 ∙ ap (λ es. es ++ x.0) h.0.is ∙ append_assoc a.before (a.entry ∷ h.0.rest) x.0;
    asker = h.0.asker;
    moment = h.0.moment;
    seats = h.0.seats;
  },
  stands_later sets p early late others x h.1,
)

-- what a party is after its sessions at a desk
record IsAfter (d : DeskView) (p : ℕ) (asked : List Asking) (a : Account) : Type 0 where
  pub party_is : a.party ≡ p
  pub entries_are : a.mine ≡ map (λ (x : Asking). x.entry) asked
  pub seats_are : a.got ≡ flat_map (λ (x : Asking). x.seats) asked
  pub stands_in : AllByRecursion (Stands d.lock.law.sets p a.seen) asked

module _ {Z : Type 0} (d : DeskView) (j : ℕ) (olds news : List (Vec Sitter Z)) (sessions : List (List Visit)) where
  module _ (lo : length olds ≡ length sessions) (ln : length news ≡ length sessions)
      (new : (p : ℕ) (v : Vec Sitter Z) → p < length sessions → IsNewcomer d j p (get_or olds p v).items)
      (gains : (p : ℕ) (v : Vec Sitter Z) → p < length sessions → Gains account_of (acts_in (get_or sessions p [])) (get_or olds p v).items (get_or news p v).items) where
    after : (p : ℕ) → p < length sessions → IsAfter d p (askings j (acts_in (get_or sessions p []))) (get_or (accounts_at j news) p nobody)
    after p l =
        let v = the_first olds (omega (arith, lo)) in
        let n = new p v l in
        let s = newcomer d p in
        let asked = askings j (acts_in (get_or sessions p [])) in
        let k : j < length (get_or news p v).items = subst (λ m. j < m) (sym (gains p v l).long) n.there in
        let now = get_or (get_or news p v).items j s in
        let g : Gained asked (sights j (acts_in (get_or sessions p []))) (account_of s) (account_of now) = subst (λ (x : Sitter). Gained asked (sights j (acts_in (get_or sessions p []))) (account_of x) (account_of now)) (n.is s) ((gains p v l).each j s n.there) in
        let at : get_or (accounts_at j news) p nobody ≡ account_of now
        = get_or-map (λ (x : Vec Sitter Z). get_or (map account_of x.items) j nobody) news p v nobody (subst (λ m. p < m) (sym ln) l)
        ∙ get_or-map account_of (get_or news p v).items j s nobody k in
        subst (λ (a : Account). IsAfter d p asked a) (sym at) (record {
          party_is = g.party;
          entries_are = g.mine;
          seats_are = g.got;
          stands_in = stands_as (account_of now).sets d.lock.law.sets (account_of now).party p (account_of now).seen asked (sym g.sets) (sym g.party) g.stands;
        })

    count : length (accounts_at j news) ≡ length sessions
    count = length-map news (λ (x : Vec Sitter Z). get_or (map account_of x.items) j nobody) ∙ ln

    pub joins : (t : DeskTally) (h : List Entry) → Tells d (accounts_at j news) t h → IsHistory d j sessions h
    joins t h told = record {
      run = told.run;
      own_is = λ p l.
          let a = after p l in
          let m = told.mine p nobody (subst (λ n. p < n) (sym count) l) in
          subst (λ q. own h q ≡ (get_or (accounts_at j news) p nobody).mine) a.party_is m ∙ a.entries_are;
      stands = λ p l.
          let a = after p l in
          stands_later d.lock.law.sets p (get_or (accounts_at j news) p nobody).seen h (askings j (acts_in (get_or sessions p []))) (told.seen p nobody (subst (λ n. p < n) (sym count) l)) a.stands_in;
      seats_are = λ p l.
          let a = after p l in
          subst (AreLow d.seats.net.width) a.seats_are (told.low p nobody (subst (λ n. p < n) (sym count) l));
      others = λ q l. told.others q (λ i x k.
          let m : i < length sessions = subst (λ n. i < n) count k in
          let a = after i m in
          λ is.
          let w : i ≡ q = sym a.party_is ∙ ap (λ (y : Account). y.party) (get_or_default (accounts_at j news) i nobody x k) ∙ is in
          absurd (omega (arith, w, m, l)));
    }
