-- What a node of a tree of deadlines is seen as, and how even it is.
use Rattle.std.specs.Prelude.{◌≡◌, ℕ, ◌+◌, ◌^◌, ◌≤◌, max, List, [], ◌∷◌, ◌++◌, length}
use Rattle.linger_clock.specs.declared.Deadline.{Deadline}
use Rattle.linger_clock.specs.declared.tree.Node.{Node}
use Rattle.linger_clock.specs.declared.tree.Node.TheVariants.{Leaf, Fork}

-- the deadlines from left to right, and the height that the node stores
abbrev pub content_of : Node → List Deadline × ℕ
content_of Leaf = ([], 0)
content_of (Fork l d h r) = (l.value.0 ++ d ∷ r.value.0, h)

-- neither height is more than this above the other
abbrev pub DifferByAtMost : ℕ → ℕ → ℕ → Type 0
DifferByAtMost by l r = (l ≤ r + by) × (r ≤ l + by)

-- the stored height is right, the sides differ by at most one level, and no level is empty
abbrev pub IsEven : Node → Type 0
IsEven Leaf = Unit {0}
IsEven (Fork l d h r) = (h ≡ max l.value.1 r.value.1 + 1) × DifferByAtMost 1 l.value.1 r.value.1 × (h ≤ length (l.value.0 ++ d ∷ r.value.0))

-- the heights leave room for one more, and the sides differ by at most two levels
abbrev pub IsNearlyEven : Node → Type 0
IsNearlyEven Leaf = Unit {0}
IsNearlyEven (Fork l d h r) = (max l.value.1 r.value.1 ≤ 2 ^ 32) × DifferByAtMost 2 l.value.1 r.value.1

-- the height h of what a node with sides of these heights settles to
abbrev pub IsHeightAfter : ℕ → ℕ → ℕ → Type 0
IsHeightAfter l r h = (max l r ≤ h) × (h ≤ max l r + 1) × (DifferByAtMost 1 l r → h ≡ max l r + 1)

-- the new node is even, has the same deadlines in their order, and a height that its old sides allow
abbrev pub RebalancesTo : Node → Node → Type 0
RebalancesTo Leaf m = m ≡ Leaf
RebalancesTo (Fork l d h r) m = IsEven m × ((content_of m).0 ≡ l.value.0 ++ d ∷ r.value.0) × IsHeightAfter l.value.1 r.value.1 (content_of m).1
