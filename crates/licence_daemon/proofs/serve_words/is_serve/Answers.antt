use Rattle.std.proofs.Common.{string_bytes, sym}
use Rattle.licence_daemon.proofs.ServeWords.{all_plain, is_true, not_plain}
use Rattle.licence_daemon.proofs.serve_words.is_serve.Goals as goal

pub returns-then-not-are_plain : goal.returns-then-not-are_plain
returns-then-not-are_plain c =
    not_plain string_bytes c.args.verb.now c.args.licence.now c.args.options.now c.args.socket.now c.args.more.now (sym c.if-not-are_plain.ensures)

pub returns : goal.returns
returns c =
    all_plain string_bytes c.args.verb.now c.args.licence.now c.args.options.now c.args.socket.now c.args.more.now
    (is_true _ c.if-ne.ensures) (sym c.if-not-are_names.ensures) (sym c.if-not-are_plain.ensures)
