use Rattle.std.proofs.Common.{◌≡◌, List, length, ℕ}
use Rattle.client_talk.specs.Keeping.{Turn, last_of}
use Rattle.client_talk.specs.Stays.{Stood}
use Rattle.client_talk.proofs.keeping.stay.Given as goal

abbrev pub invariant-loop-turn : goal.invariant-loop-turn
invariant-loop-turn g l =
    (start : ℕ) × (turns : List Turn)
    × Stood g.L.Link.tells g.K.Clock.gave g.B.Bell.answered l.fn.link l.link l.fn.clock l.clock l.fn.bell l.bell l.feature l.every l.standing start turns
    × (l.last ≡ last_of start turns) × (length turns ≡ l._turn)
