use Rattle.std.proofs.Common.{◌∙◌, ap, sym}
use Rattle.std.proofs.lemmas.Result.{err_from_is_err_and}
use Rattle.client_talk.specs.Replies.{accepts}
use Rattle.client_talk.proofs.Talkings.{asks_lost, asks_refused, asks_reply}
use Rattle.client_talk.proofs.exchange.ask_for.Goals as goal

pub returns-in_err-reply : goal.returns-in_err-reply
returns-in_err-reply g c words is =
    let p = err_from_is_err_and c.from_residual.result c.from_residual.ensures.1 in
    rw (p.1, p.2) (asks_lost g.L.Link.tells c.args.link.now c.say.new.link c.as_bytes.result.now words c.args.request.want c.in_err-reply.field-0.0 (c.as_bytes.ensures.value ∙ is) c.in_err-reply.ensures)

pub returns-then-accepts : goal.returns-then-accepts
returns-then-accepts g c words is = asks_reply g.L.Link.tells c.args.link.now c.say.new.link c.as_bytes.result.now words c.args.request.want c.in_ok-reply.reply (c.as_bytes.ensures.value ∙ is) c.in_ok-reply.ensures (ap (accepts c.args.request.want) (sym c.line.ensures) ∙ sym c.accepts.ensures ∙ c.if-accepts.true)

pub returns-else-accepts : goal.returns-else-accepts
returns-else-accepts g c words is = asks_refused g.L.Link.tells c.args.link.now c.say.new.link c.as_bytes.result.now words (record { request = c.args.request; reply = c.in_ok-reply.reply }) c.as_bytes.ensures.value is c.in_ok-reply.ensures (ap (accepts c.args.request.want) (sym c.line.ensures) ∙ sym c.accepts.ensures ∙ c.if-accepts.false)
