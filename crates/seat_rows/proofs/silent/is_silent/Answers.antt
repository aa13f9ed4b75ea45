use Rattle.std.proofs.Common.{◌∙◌, ap, subst, sym, List, ℕ, Option}
use Rattle.std.specs.Option.{option_copied}
use Rattle.std.proofs.lemmas.Bool.{leb-true}
use Rattle.seat_rows.specs.Rows.{AreMarked}
use Rattle.seat_rows.proofs.Heard.{marked_again}
use Rattle.seat_rows.proofs.Rows.{row_at}
use Rattle.seat_rows.proofs.silent.is_silent.Goals as goal

pub returns-then-not-silent-clause-marked : goal.returns-then-not-silent-clause-marked
returns-then-not-silent-clause-marked c heard =
    subst (λ (marks : List (Option ℕ)). AreMarked c.args.rows.now marks) (sym c.note.ensures)
    (marked_again c.args.rows.now c.args.beats.now c.args.party c.in-Some.holder.now c.requires.inside c.requires.long
    (row_at c.args.rows.now c.args.party c.index-rows-party.result c.requires.inside c.index-rows-party.is ∙ sym c.holder.ensures ∙ ap option_copied c.in-Some.is) c.requires.marked)

pub returns-else-not-silent-clause-silent : goal.returns-else-not-silent-clause-silent
returns-else-not-silent-clause-silent c silent = (
  c.in-Some.holder.now,
  row_at c.args.rows.now c.args.party c.index-rows-party.result c.requires.inside c.index-rows-party.is ∙ sym c.holder.ensures ∙ ap option_copied c.in-Some.is,
  leb-true c.in-Some.holder.now.beat c.args.over silent,
)
