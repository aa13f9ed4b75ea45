use Rattle.std.proofs.Common.{◌≡◌, ◌++◌, List, ℕ, take, codes, decimal, subst, sym}
use Rattle.options_machine.specs.declared.reply.Reply.{Reply}
use Rattle.reply_words.specs.Words.{reply_text}
use Rattle.reply_words.proofs.Chains.{one_more}
use Rattle.reply_words.proofs.words.put_reply.Goals as goal

pub returns-in-Lingering-clause-written : goal.returns-in-Lingering-clause-written
returns-in-Lingering-clause-written c =
    let start : List ℕ = take c.args.at c.args.room.now in
    subst (λ (r : Reply). take c.put_number.result c.put_number.new.room ≡ start ++ reply_text r) (sym c.in-Lingering.is)
    (one_more start (codes "LINGERING UNTIL ") (decimal c.in-Lingering.until) c.put-at-in-Lingering.ensures.written c.put_number.ensures.written)
