use Rattle.std.proofs.Common.{◌≡◌, Option, Some, find, rules, subst}
use Rattle.options_machine.specs.declared.rows.Holder.{Holder}
use Rattle.options_machine.specs.State.{State, is_holder}
use Rattle.options_machine.specs.Apply.{Fits}
use Rattle.policy.specs.Books.{Book, rules_now}
use Rattle.policy.specs.Changes.{lingers_until}
use Rattle.policy.proofs.answers.linger.Goals as goal

pub linger-requires-clause-fits : goal.linger-requires-clause-fits
linger-requires-clause-fits g c =
    let b : Book = g.B.Rows.seen c.args.book.now in
    let s : State = b.state in
    let found : find (is_holder c.args.party) s.holders ≡ Some c.in-Some.holder.now = search rules in
    subst (λ (o : Option Holder). Fits (rules_now b) s c.args.party c.in-Some.holder.now.client (lingers_until o c.args.until)) found (c.requires.fits c.in-Some.holder.now.client)
