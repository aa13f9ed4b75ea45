use Rattle.std.proofs.Common.{◌≡◌, slice_get, Some, None, refl, sym, ap, ◌∙◌}
use Rattle.std.specs.Option.{option_map}
use Rattle.linger_clock.specs.Deadlines.{is_due}
use Rattle.linger_clock.proofs.Pairs.{due_least, find_none_due}
use Rattle.linger_clock.proofs.Keeping.{kept_later, none_before, none_first}
use Rattle.linger_clock.proofs.Clock.settle.Goals as goal

-- none falls due before the clock's own moment
pub returns-then-now-self-clause-first : goal.returns-then-now-self-clause-first
returns-then-now-self-clause-first c =
    rw (← c.self.view_is) (rw (none_before c.args.now c.self.inside.earliest c.self.inside.by_moment.0 c.self.invariant.not_earlier c.if-now-self.true) refl)

pub returns-in_default-clause-first : goal.returns-in_default-clause-first
returns-in_default-clause-first c =
    let nothing : slice_get c.self.inside.by_moment.0 0 ≡ None = sym c.first.ensures ∙ c.in_default.is in
    rw (← c.self.view_is) (rw (none_first (is_due c.args.now) c.self.inside.by_moment.0 nothing) refl)

-- nor before the first one's
pub invariant_of-self-then-now-first : goal.invariant_of-self-then-now-first
invariant_of-self-then-now-first c =
    let front : slice_get c.self.inside.by_moment.0 0 ≡ Some c.in-Some.first = sym c.first.ensures ∙ c.in-Some.is in
    kept_later c.in-Some.first.until c.self.invariant (due_least c.self.inside.by_moment.0 (Some c.in-Some.first.until) (ap (option_map (λ d. d.until)) (sym front)) c.self.invariant.sound.in_order)

pub returns-then-now-first-clause-first : goal.returns-then-now-first-clause-first
returns-then-now-first-clause-first c =
    let front : slice_get c.self.inside.by_moment.0 0 ≡ Some c.in-Some.first = sym c.first.ensures ∙ c.in-Some.is in
    rw (← c.self.view_is) (rw (find_none_due c.args.now c.self.inside.by_moment.0 c.in-Some.first front c.self.invariant.sound.in_order c.if-now-first.true) refl)
