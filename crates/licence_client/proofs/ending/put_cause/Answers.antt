use Rattle.std.proofs.Common.{◌∙◌, ◌++◌, ◌∷◌, [], List, ℕ, ap, codes}
use Rattle.licence_client.proofs.Texts.{one_more}
use Rattle.licence_client.proofs.ending.put_cause.Goals as goal

pub returns-in_ok-extend_from_slice-in-TooLong : goal.returns-in_ok-extend_from_slice-in-TooLong
returns-in_ok-extend_from_slice-in-TooLong c = rw c.in-TooLong.is c.in_ok-extend_from_slice-in-TooLong.ensures.items

pub returns-in_ok-extend_from_slice-in-NoNumbers-3 : goal.returns-in_ok-extend_from_slice-in-NoNumbers-3
returns-in_ok-extend_from_slice-in-NoNumbers-3 c =
    let line = c.args.line.now.items in
    let reply = c.in-NoNumbers.reply.bytes in
    let begin = c.in_ok-extend_from_slice-in-NoNumbers.ensures.items in
    let named = c.in_ok-extend_from_slice-in-NoNumbers-2.ensures.items ∙ ap (λ (l : List ℕ). c.extend_from_slice-in-NoNumbers.new.self.items ++ l) c.line-in-NoNumbers.ensures in
    rw c.in-NoNumbers.is (one_more line (codes "no numbers: " ++ reply) (10 ∷ []) (one_more line (codes "no numbers: ") reply begin named) c.in_ok-extend_from_slice-in-NoNumbers-3.ensures.items)
