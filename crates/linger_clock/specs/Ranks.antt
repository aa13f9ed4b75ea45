-- The two orders by which deadlines are kept.
use Rattle.std.specs.Prelude.{Bool, not, ◌&&◌, List, [], ◌∷◌, cond, IsTrue, nat_lt}
use Rattle.linger_clock.specs.declared.Deadline.{Deadline}
use Rattle.linger_clock.specs.declared.tree.Order.{Order}
use Rattle.linger_clock.specs.declared.tree.Order.TheVariants.{ByMoment, ByOwner}
use Rattle.linger_clock.specs.Deadlines.{is_before}

-- a comes before b in the order
abbrev pub comes_before : Order → Deadline → Deadline → Bool
comes_before ByMoment a b = is_before a b
comes_before ByOwner a b = nat_lt a.owner b.owner

-- neither comes before the other
abbrev pub ties : Order → Deadline → Deadline → Bool
ties order a b = not (comes_before order a b) && not (comes_before order b a)

-- each of the deadlines comes after d
abbrev pub AllFollow : Order → Deadline → List Deadline → Type 0
AllFollow order d [] = Unit {0}
AllFollow order d (e ∷ es) = IsTrue (comes_before order d e) × AllFollow order d es

-- each deadline comes before all later ones
abbrev pub IsRanked : Order → List Deadline → Type 0
IsRanked order [] = Unit {0}
IsRanked order (d ∷ ds) = AllFollow order d ds × IsRanked order ds

-- d in front of the first that it comes before
abbrev pub ranked_in : Order → Deadline → List Deadline → List Deadline
ranked_in order d [] = d ∷ []
ranked_in order d (e ∷ es) = cond (comes_before order d e) (d ∷ e ∷ es) (e ∷ ranked_in order d es)
