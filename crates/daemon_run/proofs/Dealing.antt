-- Passes that were dealt, and passes that come back.
use Rattle.std.proofs.Common.{◌≡◌, ◌∙◌, ℕ, ◌+◌, ◌<◌, ◌++◌, List, All, length, map, get_or, reverse, ap, refl, sym, subst, arith, length-append}
use Rattle.std.proofs.lemmas.List.{get_or-map, length-map, get_or_append_left, get_or-append-add, reverse-reverse}
use Rattle.std.proofs.lemmas.List.Elements.{All-append}
use Rattle.std.proofs.lemmas.List.Sorted.{All-permutation, IsPermutation-reverse}
use Rattle.feature_desk.specs.Sitters.{DeskView, IsOf, Sitter, account_of, newcomer}
use Rattle.feature_desk.specs.Closings.{DeskKeeperView, IsKeeperOf}
use Rattle.licence_office.specs.Logs.{AreLogsOf, LogsSeen}
use Rattle.licence_office.specs.Offices.{AreAt, OfficeSeen}
use Rattle.office_view.specs.View.{View}
use Rattle.session.specs.Pass.{AreIdle, AreOf}
use Rattle.daemon_run.specs.Join.{HasSets}

-- a party that has asked nothing is of its desk
newcomer_of : (d : DeskView) (p : ℕ) (s : Sitter) → s ≡ newcomer d p → IsOf s d
newcomer_of d p s e = subst (λ (x : Sitter). IsOf x d) (sym e) (record { lock = refl; law = refl; seats = refl })

module _ (desks : List DeskView) (p : ℕ) (cs : List Sitter) (dealt : cs ≡ map (λ (d : DeskView). newcomer d p) desks) where
  dealt_long : length cs ≡ length desks
  dealt_long = ap length dealt ∙ length-map desks (λ (d : DeskView). newcomer d p)

  dealt_here : (j : ℕ) (s : Sitter) (d : DeskView) → j < length desks → get_or cs j s ≡ newcomer (get_or desks j d) p
  dealt_here j s d l = ap (λ (xs : List Sitter). get_or xs j s) dealt ∙ get_or-map (λ (x : DeskView). newcomer x p) desks j d s l

  -- passes that were dealt are at their desks, and hold no seat
  pub dealt_at : AreAt desks cs
  dealt_at = record {
    long = dealt_long;
    each = λ j s d l. (newcomer_of (get_or desks j d) p (get_or cs j s) (dealt_here j s d l), ap (λ (x : Sitter). Rattle.options_machine.specs.Own.holds x.ticket.mine x.ticket.number) (dealt_here j s d l));
  }

  -- and are idle
  pub dealt_idle : AreIdle account_of cs
  dealt_idle = λ j c l.
      let m : j < length desks = subst (λ n. j < n) dealt_long l in
      let d = Rattle.stat_board.specs.Fronts.the_first desks (omega arith) in
      subst (λ (x : Sitter). Rattle.session.specs.Pass.IsIdle (account_of x)) (sym (dealt_here j c d m)) (refl, refl)

-- and are of the office
pub dealt_of : (office : View DeskView) (p : ℕ) (cs : List Sitter) → length office.desks ≡ length office.pools → HasSets office → cs ≡ map (λ (d : DeskView). newcomer d p) office.desks → AreOf IsOf account_of cs office
dealt_of office p cs paired sets dealt =
    let long : length cs ≡ length office.desks = dealt_long office.desks p cs dealt in
    record {
      long = long ∙ paired;
      each = λ j c d l. newcomer_of (get_or office.desks j d) p (get_or cs j c) (dealt_here office.desks p cs dealt j c d (subst (λ n. j < n) long l));
      sets = λ j c l.
          let m : j < length office.desks = subst (λ n. j < n) long l in
          let d = Rattle.stat_board.specs.Fronts.the_first office.desks (omega arith) in
          ap (λ (x : Sitter). length x.ticket.law.sets) (dealt_here office.desks p cs dealt j c d m) ∙ sets j d (subst (λ n. j < n) paired m);
    }

-- passes that are of the office and idle can be taken in
pub at_end : (office : View DeskView) (cs : List Sitter) → length office.desks ≡ length office.pools → AreOf IsOf account_of cs office → AreIdle account_of cs → AreAt office.desks cs
at_end office cs paired of idle =
    let long : length cs ≡ length office.desks = of.long ∙ sym paired in
    record {
      long = long;
      each = λ j s d l.
          let m : j < length cs = subst (λ n. j < n) (sym long) l in
          (of.each j s d m, (idle j s m).0);
    }

module _ {X : Type 0} (P : X → Type 0) where
  all_left : (xs ys : List X) → All P (xs ++ ys) → All P xs
  all_left xs ys h k d l = subst P (get_or_append_left xs ys d k l) (h k d (let n = length-append xs ys in omega (arith, n, l)))

  all_right : (xs ys : List X) → All P (xs ++ ys) → All P ys
  all_right xs ys h k d l = subst P (get_or-append-add xs ys k d) (h (length xs + k) d (let n = length-append xs ys in omega (arith, n, l)))

  -- what holds of all holds of those that have gone and of those that are left
  pub all_parts : (gone left all : List X) → gone ++ reverse left ≡ all → All P all → All P (left ++ gone)
  all_parts gone left all e h =
      let both : All P (gone ++ reverse left) = subst (λ (l : List X). All P l) (sym e) h in
      All-append P left gone
      (subst (λ (l : List X). All P l) (reverse-reverse left) (All-permutation P (reverse left) (reverse (reverse left)) (IsPermutation-reverse (reverse left)) (all_right gone (reverse left) both)))
      (all_left gone (reverse left) both)

-- logs that kept their desks are of the same office, whatever was taken out of them
pub still_logs : (old new : LogsSeen) (o : OfficeSeen) → new.keepers ≡ old.keepers → new.parties ≡ old.parties → AreLogsOf old o → AreLogsOf new o
still_logs old new o keepers parties of = record {
  parties = parties ∙ of.parties;
  many = ap length keepers ∙ of.many;
  keepers = λ j k d lt. subst (λ (ks : List DeskKeeperView). IsKeeperOf (get_or ks j k) (get_or o.view.desks j d)) (sym keepers) (of.keepers j k d lt);
}
