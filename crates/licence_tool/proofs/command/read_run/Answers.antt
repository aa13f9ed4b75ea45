use Rattle.std.proofs.Common.{sym, ◌∙◌, string_bytes}
use Rattle.licence_tool.proofs.WordLists.{is_run, no_names, too_many_names}
use Rattle.licence_tool.proofs.command.read_run.Goals as goal
use Rattle.licence_tool.proofs.command.read_run.Goals.{else-are_plain-via-then-are_plain+else-more-le-MORE_LIMIT, else-are_plain-via-else-are_plain}

pub returns-then-more-le-MORE_LIMIT-clause-run : goal.returns-then-more-le-MORE_LIMIT-clause-run
returns-then-more-le-MORE_LIMIT-clause-run c =
    is_run string_bytes c.args.names.now c.licence-item.result c.options-item.result c.third-item.result _ _ _
    c.as_str.ensures.value c.as_str-2.ensures.value c.as_str-3.ensures.value c.in-len3-up.len_at_least
    c.licence-item.is c.options-item.is c.third-item.is (sym c.are_plain.ensures ∙ c.if-are_plain.true) c.if-more-le-MORE_LIMIT.true

pub returns-else-are_plain-clause-run : goal.returns-else-are_plain-clause-run
returns-else-are_plain-clause-run c =
    elim c.else-are_plain.branch [
      | else-are_plain-via-then-are_plain+else-more-le-MORE_LIMIT w ↦ too_many_names string_bytes c.args.names.now w.if-more-le-MORE_LIMIT.false
      | else-are_plain-via-else-are_plain w ↦ no_names string_bytes c.args.names.now (sym c.are_plain.ensures ∙ w.if-are_plain.false)
    ]
