-- What an access tells of the pass, where the place that is due is known.
use Rattle.std.proofs.Common.{◌≡◌, ℕ, ◌+◌, ◌-◌, refl, sym, ap, ◌∙◌, subst}
use Rattle.kex_core.specs.declared.place.Place.{Place}
use Rattle.kex_core.specs.declared.place.Place.TheVariants.{Out, Dec, Mark, Look, Spin, Naming, Named, Holding, Clearing, Inc, Unmark}
use Rattle.kex_core.specs.Worlds.{value_found, after}
use Rattle.kex_core.specs.Laws.{Placed}
use Rattle.kex_core.specs.Costs.{is_spin, kept_at}
use Rattle.kex_core.specs.Shapes.{plan}
use Rattle.kex_words.specs.Passes.{Pass, IsOut, due_at, kind_of, got_after, outside}
use Rattle.kex_words.specs.Moves.{Moved}

is_out : (d : Place) → kind_of d ≡ outside → d ≡ Out
is_out Out k = refl
is_out (Dec j) k = cc
is_out (Mark j) k = cc
is_out (Look j) k = cc
is_out (Spin j) k = cc
is_out (Naming i) k = cc
is_out (Named s) k = cc
is_out (Holding s) k = cc
is_out (Clearing s) k = cc
is_out (Inc j) k = cc
is_out (Unmark j) k = cc

module _ (p q : Pass) (m : Moved p q) where
  pub moved_table : q.table ≡ p.table
  moved_table = ap (λ (z : Pass). z.table) m.now

  pub moved_number : q.number ≡ p.number
  moved_number = ap (λ (z : Pass). z.number) m.now

  -- what the access found
  pub met : ℕ
  met = value_found m.ruled.world p.number (due_at p)

  pub moved_place : (d : Place) → due_at p ≡ d → q.place ≡ after (plan p.table.net) p.number d met
  unfolding met
  moved_place d e = ap (λ (z : Pass). z.place) m.now ∙ ap (λ (z : Place). after (plan p.table.net) p.number z (value_found m.ruled.world p.number (due_at p))) e

  pub moved_got : (d : Place) → due_at p ≡ d → q.got ≡ got_after d p.got
  moved_got d e = ap (λ (z : Pass). z.got) m.now ∙ ap (λ (z : Place). got_after z p.got) e

  pub stood_placed : Placed (plan p.table.net) p.number p.place
  stood_placed = subst (Placed (plan p.table.net) p.number) m.stood (m.ruled.kept.placed p.number m.inside)

  pub rests_out : kind_of q.place ≡ outside → IsOut q
  rests_out k =
      let o = is_out q.place k in
      let a : after (plan p.table.net) p.number (due_at p) (value_found m.ruled.world p.number (due_at p)) ≡ Out = sym (ap (λ (z : Pass). z.place) m.now) ∙ o in
      record {
        place_is = o;
        firsts = ap (λ (z : Pass). z.firsts) m.now ∙ ap (λ (z : Place). kept_at z (p.firsts + 1 - is_spin (due_at p))) a;
        spins = ap (λ (z : Pass). z.spins) m.now ∙ ap (λ (z : Place). kept_at z (p.spins + is_spin (due_at p))) a;
      }
