-- What is known of a tree's content once its node is a fork.
use Rattle.std.proofs.Common.{◌≡◌, ℕ, List, ◌∷◌, ◌++◌, Box, sym, ap, ◌∙◌}
use Rattle.std.specs.declared.alloc.Global.{Global}
use Rattle.linger_clock.specs.declared.Deadline.{Deadline}
use Rattle.linger_clock.specs.declared.tree.Tree.{Tree}
use Rattle.linger_clock.specs.declared.tree.Node.{Node}
use Rattle.linger_clock.specs.declared.tree.Node.TheVariants.{Fork}
use Rattle.linger_clock.specs.Tree.{content_of}

-- the deadlines of a fork: those of the left, its own, those of the right
pub fork_content : {n : Node} {content : List Deadline × ℕ} {l r : Box Tree Global} {k : Deadline} {h : ℕ} → content_of n ≡ content → n ≡ Fork l k h r → content.0 ≡ l.value.0 ++ k ∷ r.value.0
fork_content {n} {content} {l} {r} {k} {h} view_is is = ap (λ c. c.0) (sym view_is ∙ ap content_of is)
