use Rattle.std.proofs.Common.{◌++◌, [], ◌∷◌}
use Rattle.stat_board.proofs.Idle.{idle_on, idle_numbers, idle_published}
use Rattle.desk_rows.proofs.tests.boards.look.Goals as goal

pub publish-requires : goal.publish-requires
publish-requires g c = record { numbers = λ live. idle_numbers _ (c.args.board.now.front.list ++ c.of-looked.result ∷ []) 0 c.requires.sets (idle_on c.args.board.now.front.list _ _ _ _ _ c.of-looked.ensures c.requires.idle) }

pub returns-clause-idle : goal.returns-clause-idle
returns-clause-idle g c = idle_published _ _ _ c.publish.ensures c.requires.idle (idle_on c.args.board.now.front.list _ _ _ _ _ c.of-looked.ensures c.requires.idle)
