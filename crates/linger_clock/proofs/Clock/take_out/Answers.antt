use Rattle.std.proofs.Common.{◌≡◌, Some, vec_len, vec_capacity, refl, ◌∙◌, arith}
use Rattle.linger_clock.specs.Deadlines.{until_of}
use Rattle.linger_clock.specs.Kept.{IsKept}
use Rattle.linger_clock.proofs.Keeping.{there_by_moment, kept_removed, removed_moment}
use Rattle.linger_clock.proofs.Clock.take_out.Goals as goal

pub remove-first-requires-clause-there : goal.remove-first-requires-clause-there
remove-first-requires-clause-there c = there_by_moment c.args.deadline c.self.inside.by_moment.0 (rw (← c.self.view_is) at c.requires)

kept : (c : goal.After-push_reserved-2) → IsKept c.self.inside.room c.self.inside.earliest c.remove-first.new.self.0 c.remove-second.new.self.0 (vec_len c.push_reserved-2.new.self) (vec_capacity c.push_reserved-2.new.self)
kept c =
    let waits : until_of c.args.deadline.owner c.self.inside.by_moment.0 ≡ Some c.args.deadline.until = rw (← c.self.view_is) at c.requires in
    rw (c.remove-first.ensures.content, c.remove-second.ensures.content)
    (kept_removed c.self.inside.room c.self.inside.earliest c.args.deadline c.self.inside.by_moment.0 c.self.inside.by_owner.0 (vec_len c.self.inside.spare) (vec_len c.push_reserved-2.new.self) (vec_capacity c.self.inside.spare) (vec_capacity c.push_reserved-2.new.self) c.self.invariant waits (omega arith) (omega arith))

pub invariant_of-self : goal.invariant_of-self
invariant_of-self c = kept c

pub returns-clause-removed : goal.returns-clause-removed
returns-clause-removed c =
    let waits : until_of c.args.deadline.owner c.self.inside.by_moment.0 ≡ Some c.args.deadline.until = rw (← c.self.view_is) at c.requires in
    let left = c.remove-first.ensures.content ∙ removed_moment c.self.inside.room c.args.deadline c.self.inside.by_moment.0 c.self.inside.by_owner.0 c.self.invariant waits in
    rw (left, ← c.self.view_is) refl

pub returns-clause-kept : goal.returns-clause-kept
returns-clause-kept c = let k = kept c in k.sound
