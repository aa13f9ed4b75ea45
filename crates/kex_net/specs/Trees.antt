-- The tree for n parties and k licences, by groups and levels. m is the smaller of n and k.
-- After Anderson and Moir, Distributed Computing 11, 1997. The pairing and the numbering are this project's.
use Rattle.std.specs.Prelude.{◌≡◌, ℕ, List, [], ◌∷◌, ◌++◌, ◌+◌, ◌-◌, ◌/◌, ◌<◌, ◌≤◌, length, min, slice_index}
use Rattle.std.proofs.Common.{zero, suc}
use Rattle.kex_core.specs.Shapes.{Sheet}

-- the sizes of so many groups of n parties: m in each, and in the last one the rest
abbrev pub groups : ℕ → ℕ → ℕ → List ℕ
groups zero m n = []
groups (suc more) m n = min m n ∷ groups more m (n - m)

-- the sizes of the groups at the bottom
abbrev pub bottom : ℕ → ℕ → List ℕ
bottom m n = groups ((n + m - 1) / m) m n

-- the sizes of the groups above a level. A pair hands up m at most, and a last group without a partner goes up unchanged
abbrev pub above : ℕ → List ℕ → List ℕ
above m [] = []
above m (a ∷ []) = a ∷ []
above m (a ∷ b ∷ sizes) = min m (a + b) ∷ above m sizes

-- and so many levels up
abbrev pub after_levels : ℕ → ℕ → List ℕ → List ℕ
after_levels zero m sizes = sizes
after_levels (suc levels) m sizes = after_levels levels m (above m sizes)

-- the capacities of so many stages: they fall by one, the last is m
abbrev pub falling : ℕ → ℕ → List ℕ
falling m zero = []
falling m (suc count) = (m + count) ∷ falling m count

-- so many stages from `first` on, each leading to the next, and the last one to `up`
abbrev pub leading : ℕ → ℕ → ℕ → List ℕ
leading first zero up = []
leading first (suc zero) up = up ∷ []
leading first (suc (suc count)) up = (first + 1) ∷ leading (first + 1) (suc count) up

-- the stage that the groups of a pair of so many stages meet: the first of them, or where there is none the one above
abbrev pub stage_met : ℕ → ℕ → ℕ → ℕ
stage_met first zero up = up
stage_met first (suc count) up = first

-- The stages of one level, from the left. A pair of sizes a and b has the stages a + b - 1, .., m.
-- `first` is the level's first stage, and `ups` are the stages that the groups above the level meet.
abbrev pub level_caps : ℕ → List ℕ → List ℕ
level_caps m [] = []
level_caps m (a ∷ []) = []
level_caps m (a ∷ b ∷ sizes) = falling m (a + b - m) ++ level_caps m sizes

abbrev pub level_nexts : ℕ → ℕ → List ℕ → List ℕ → List ℕ
level_nexts m first [] ups = []
level_nexts m first (a ∷ []) ups = []
level_nexts m first (a ∷ b ∷ sizes) [] = []
level_nexts m first (a ∷ b ∷ sizes) (up ∷ ups) = leading first (a + b - m) up ++ level_nexts m (first + (a + b - m)) sizes ups

-- the stage that each group of the level meets
abbrev pub level_meets : ℕ → ℕ → List ℕ → List ℕ → List ℕ
level_meets m first [] ups = []
level_meets m first (a ∷ sizes) [] = []
level_meets m first (a ∷ []) (up ∷ ups) = up ∷ []
level_meets m first (a ∷ b ∷ sizes) (up ∷ ups) = stage_met first (a + b - m) up ∷ stage_met first (a + b - m) up ∷ level_meets m (first + (a + b - m)) sizes ups

-- the stages of some levels, and the stage that each group meets below them
pub record Stages : Type 0 where
  pub caps : List ℕ
  pub nexts : List ℕ
  pub meets : List ℕ

-- above the last level each group meets what follows the stages
abbrev pub through : ℕ → List ℕ → List ℕ
through exit [] = []
through exit (a ∷ sizes) = exit ∷ through exit sizes

abbrev pub level_below : ℕ → ℕ → List ℕ → Stages → Stages
level_below m first sizes up = record {
  caps = level_caps m sizes ++ up.caps;
  nexts = level_nexts m first sizes up.meets ++ up.nexts;
  meets = level_meets m first sizes up.meets;
}

-- so many levels over groups of these sizes, with the stages numbered from `first` on, level by level
abbrev pub levels_over : ℕ → ℕ → ℕ → List ℕ → Stages
levels_over zero m first sizes = record { caps = []; nexts = []; meets = through first sizes }
levels_over (suc levels) m first sizes = level_below m first sizes (levels_over levels m (first + length (level_caps m sizes)) (above m sizes))

-- with so many levels one group is left, and with fewer there are more
pub record IsHeight (m : ℕ) (sizes : List ℕ) (levels : ℕ) : Type 0 where
  pub one : length (after_levels levels m sizes) ≡ 1
  pub more : (l : ℕ) → l < levels → 2 ≤ length (after_levels l m sizes)

abbrev pub stages_of : List ℕ → List ℕ → List ℕ → Stages
stages_of caps nexts meets = record { caps = caps; nexts = nexts; meets = meets }

-- these are the stages of all the levels over groups of these sizes
pub record AreLevels (m first : ℕ) (sizes : List ℕ) (s : Stages) : Type 0 where
  pub levels : ℕ
  pub height : IsHeight m sizes levels
  pub stages : s ≡ levels_over levels m first sizes

-- The tree. Party p is in the group p / m, and starts at the stage that this group meets.
pub record IsTree (n k : ℕ) (s : Sheet) : Type 0 where
  pub levels : ℕ
  pub height : IsHeight (min k n) (bottom (min k n) n) levels
  pub parties : s.parties ≡ n
  pub width : s.width ≡ min k n
  pub caps : s.caps ≡ (levels_over levels (min k n) 0 (bottom (min k n) n)).caps
  pub nexts : s.nexts ≡ (levels_over levels (min k n) 0 (bottom (min k n) n)).nexts
  pub starts : length s.starts ≡ n
  pub start : (p : ℕ) → p < n → slice_index s.starts p ≡ slice_index (levels_over levels (min k n) 0 (bottom (min k n) n)).meets (p / min k n)
