use Rattle.std.proofs.Common.{◌++◌, List, ℕ, take, codes, decimal}
use Rattle.reply_words.specs.Words.{own_text}
use Rattle.reply_words.proofs.Chains.{one_more, two_more}
use Rattle.reply_words.proofs.words.put_counts.Goals as goal

pub returns-clause-written : goal.returns-clause-written
returns-clause-written c =
    let start : List ℕ = take c.args.at c.args.room.now in
    let n = c.args in
    let t1 : List ℕ = codes "COUNTS HELD " ++ decimal n.held in
    let t2 : List ℕ = t1 ++ codes " LINGERING " ++ decimal n.lingering in
    let t3 : List ℕ = t2 ++ codes " OPEN " ++ decimal n.taken in
    let t4 : List ℕ = t3 ++ codes " OF " ++ decimal n.free in
    let lingering = two_more start t1 (codes " LINGERING ") (decimal n.lingering) c.put_numbered-at.ensures.written c.put_numbered-at-2.ensures.written in
    let taken = two_more start t2 (codes " OPEN ") (decimal n.taken) lingering c.put_numbered-at-3.ensures.written in
    let free = two_more start t3 (codes " OF ") (decimal n.free) taken c.put_numbered-at-4.ensures.written in
    let own = one_more start t4 (codes " OWN ") free c.put-at.ensures.written in
    one_more start (t4 ++ codes " OWN ") (own_text n.own n.queued) own c.put_own.ensures.written
