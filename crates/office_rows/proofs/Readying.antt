-- Passes that were dealt, and passes that come back.
use Rattle.std.proofs.Common.{◌≡◌, ◌∙◌, ℕ, ◌<◌, List, length, map, get_or, ap, refl, sym, subst, arith}
use Rattle.std.proofs.lemmas.List.{get_or-map, length-map}
use Rattle.feature_desk.specs.Sitters.{DeskView, IsOf, Sitter, account_of, newcomer}
use Rattle.daemon_run.specs.Join.{HasSets}
use Rattle.licence_office.specs.Offices.{AreAt}
use Rattle.office_view.specs.View.{View}
use Rattle.session.specs.Pass.{IsIdle}
use Rattle.office_rows.specs.Ready.{IsReady}
use Rattle.stat_board.specs.Fronts.{the_first}

module _ (office : View DeskView) (paired : length office.desks ≡ length office.pools) where
  -- a party that has asked nothing yet
  newcomers_ready : HasSets office → (p : ℕ) → IsReady office (map (λ (d : DeskView). newcomer d p) office.desks)
  newcomers_ready sets p =
      let desks = office.desks in
      let f : DeskView → Sitter = λ d. newcomer d p in
      let long : length (map f desks) ≡ length desks = length-map desks f in
      let here : (j : ℕ) (s : Sitter) (d : DeskView) → j < length (map f desks) → get_or (map f desks) j s ≡ newcomer (get_or desks j d) p
      = λ j s d l. get_or-map f desks j d s (subst (λ n. j < n) long l) in
      let first : (j : ℕ) → j < length (map f desks) → DeskView = λ j l. the_first desks (omega (arith, l, long)) in
      record {
        of = record {
          long = long ∙ paired;
          each = λ j s d l. subst (λ (x : Sitter). IsOf x (get_or desks j d)) (sym (here j s d l)) (record { lock = refl; law = refl; seats = refl });
          sets = λ j s l. ap (λ (x : Sitter). length x.ticket.law.sets) (here j s (first j l) l) ∙ sets j (first j l) (subst (λ n. j < n) (long ∙ paired) l);
        };
        idle = λ j s l. subst (λ (x : Sitter). IsIdle (account_of x)) (sym (here j s (first j l) l)) (refl, refl);
      }

  -- passes that were dealt are ready
  pub dealt_ready : HasSets office → (p : ℕ) (passes : List Sitter) → passes ≡ map (λ (d : DeskView). newcomer d p) office.desks → IsReady office passes
  dealt_ready sets p passes dealt = subst (IsReady office) (sym dealt) (newcomers_ready sets p)

  -- passes that are ready can be taken in
  pub at_end : (passes : List Sitter) → IsReady office passes → AreAt office.desks passes
  at_end passes ready =
      let long : length passes ≡ length office.desks = ready.of.long ∙ sym paired in
      record {
        long = long;
        each = λ j s d l. let m : j < length passes = subst (λ n. j < n) (sym long) l in (ready.of.each j s d m, (ready.idle j s m).0);
      }
