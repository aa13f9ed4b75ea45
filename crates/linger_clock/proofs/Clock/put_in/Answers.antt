use Rattle.std.proofs.Common.{◌≡◌, ◌+◌, IsNone, vec_len, vec_capacity, refl, ◌∙◌, arith}
use Rattle.linger_clock.specs.Deadlines.{until_of}
use Rattle.linger_clock.specs.Kept.{IsKept}
use Rattle.linger_clock.proofs.Keeping.{kept_added, added_moment, ranked_in-put}
use Rattle.linger_clock.proofs.Pairs.{there-put, others-put}
use Rattle.linger_clock.proofs.Clock.put_in.Goals as goal

kept : (c : goal.After-insert-2) → IsKept c.self.inside.room c.min-self-inside.result c.insert.new.self.0 c.insert-2.new.self.0 (vec_len c.pop-2.new.self) (vec_capacity c.pop-2.new.self)
kept c =
    let absent : IsNone (until_of c.args.deadline.owner c.self.inside.by_moment.0) = rw (← c.self.view_is) at c.requires.absent in
    let two : vec_len c.pop-2.new.self + 2 ≡ vec_len c.self.inside.spare = grind arith in
    rw (c.insert.ensures.content, c.insert-2.ensures.content)
    (kept_added c.self.inside.room c.self.inside.earliest c.min-self-inside.result c.args.deadline c.self.inside.by_moment.0 c.self.inside.by_owner.0 (vec_len c.self.inside.spare) (vec_len c.pop-2.new.self) (vec_capacity c.self.inside.spare) (vec_capacity c.pop-2.new.self) c.self.invariant absent two (omega arith) (omega arith) (omega arith))

pub invariant_of-self : goal.invariant_of-self
invariant_of-self c = kept c

pub returns-clause-added : goal.returns-clause-added
returns-clause-added c =
    let absent : IsNone (until_of c.args.deadline.owner c.self.inside.by_moment.0) = rw (← c.self.view_is) at c.requires.absent in
    let content = c.insert.ensures.content ∙ added_moment c.self.inside.room c.args.deadline c.self.inside.by_moment.0 c.self.inside.by_owner.0 c.self.invariant absent in
    rw (content, ← c.self.view_is) refl

pub returns-clause-there : goal.returns-clause-there
returns-clause-there c =
    let absent : IsNone (until_of c.args.deadline.owner c.self.inside.by_moment.0) = rw (← c.self.view_is) at c.requires.absent in
    let content = c.insert.ensures.content ∙ ranked_in-put c.args.deadline c.self.inside.by_moment.0 in
    rw content (there-put c.args.deadline c.self.inside.by_moment.0 absent)

pub returns-clause-others : goal.returns-clause-others
returns-clause-others c =
    let absent : IsNone (until_of c.args.deadline.owner c.self.inside.by_moment.0) = rw (← c.self.view_is) at c.requires.absent in
    let content = c.insert.ensures.content ∙ ranked_in-put c.args.deadline c.self.inside.by_moment.0 in
    rw (content, ← c.self.view_is) (others-put c.args.deadline c.self.inside.by_moment.0 absent)

pub returns-clause-kept : goal.returns-clause-kept
returns-clause-kept c = let k = kept c in k.sound
