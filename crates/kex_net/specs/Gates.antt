-- The net behind the fast gate, for n parties and k licences, m the smaller of them: the tree, and a chain of m stages of its own behind it.
-- After the fast path of Anderson and Moir, Distributed Computing 11, 1997. This net is this project's.
use Rattle.std.specs.Prelude.{◌≡◌, ℕ, ◌+◌, ◌++◌, length, min, replicate}
use Rattle.kex_core.specs.Shapes.{Sheet}
use Rattle.kex_net.specs.Trees.{falling, leading, IsTree}

-- The number that means Exit in the tree is here that of the chain's first stage. So the stage that led to Exit leads there, and so do the starts that were Exit.
-- The chain has the capacities 2m - 1, .., m, and m parties more than the tree's start at its first stage.
pub record IsGated (n k : ℕ) (s : Sheet) : Type 0 where
  pub tree : Sheet
  pub is_tree : IsTree n k tree
  pub parties : s.parties ≡ n + min k n
  pub width : s.width ≡ min k n
  pub caps : s.caps ≡ tree.caps ++ falling (min k n) (min k n)
  pub nexts : s.nexts ≡ tree.nexts ++ leading (length tree.caps) (min k n) (length s.caps)
  pub starts : s.starts ≡ tree.starts ++ replicate (min k n) (length tree.caps)
