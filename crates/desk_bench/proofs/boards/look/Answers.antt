use Rattle.std.proofs.Common.{◌++◌, [], ◌∷◌}
use Rattle.options_machine.specs.declared.reply.Reply.TheVariants.{NotHeld}
use Rattle.stat_board.proofs.Idle.{idle_on, idle_numbers, idle_published}
use Rattle.desk_bench.proofs.boards.look.Goals as goal

pub publish-requires : goal.publish-requires
publish-requires g c =
    let list = c.args.board.now.front.list in
    record { numbers = λ live. idle_numbers _ (list ++ c.of-looked.result ∷ []) 0 c.requires.sets (idle_on list 0 c.args.client.now 0 NotHeld c.of-looked.result c.of-looked.ensures c.requires.idle) }

pub returns-clause-idle : goal.returns-clause-idle
returns-clause-idle g c =
    let list = c.args.board.now.front.list in
    idle_published _ _ c.of-looked.result c.publish.ensures c.requires.idle (idle_on list 0 c.args.client.now 0 NotHeld c.of-looked.result c.of-looked.ensures c.requires.idle)
