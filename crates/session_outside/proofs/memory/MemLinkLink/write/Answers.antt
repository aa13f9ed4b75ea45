use Rattle.std.proofs.Common.{◌/◌, length, sym, subst, arith}
use Rattle.session_outside.specs.Memory.{KeepsTalk}
use Rattle.session_outside.specs.declared.talk.Talk.{Talk}
use Rattle.session_outside.proofs.memory.MemLinkLink.write.Goals as goal

pub returns-then-fails-clause-told : goal.returns-then-fails-clause-told
returns-then-fails-clause-told c = (
  length c.args.piece.now / 2,
  omega arith,
  λ told h. c.keep.ensures told (subst (λ (t : Talk). KeepsTalk t.lost t.marks.items t.bytes.items told) (sym c.fails.ensures.0) h),
)
