use Rattle.licence_tool.proofs.Clauses.{complete, histories, no_comes, not_run, own_fault, read_fault, refusal_comes, refused, told, unwritten}
use Rattle.licence_tool.proofs.running.tool.Goals as goal

pub returns-clause-told : goal.returns-clause-told
returns-clause-told g c = told _ _

pub returns-clause-unwritten : goal.returns-clause-unwritten
returns-clause-unwritten g c =
    unwritten _ _ _ _ _ _ _ (record { idle = c.perform-status.ensures.idle; unwritten = c.perform-status.ensures.unwritten; says = c.perform-status.ensures.says })

pub returns-clause-refused : goal.returns-clause-refused
returns-clause-refused g c =
    refused _ _ _ _ _ _ _ (record { idle = c.perform-status.ensures.idle; unwritten = c.perform-status.ensures.unwritten; says = c.perform-status.ensures.says })

pub returns-clause-own_fault : goal.returns-clause-own_fault
returns-clause-own_fault g c =
    own_fault _ _ _ _ _ _ _ (record { idle = c.perform-status.ensures.idle; unwritten = c.perform-status.ensures.unwritten; says = c.perform-status.ensures.says })

pub returns-clause-read_fault : goal.returns-clause-read_fault
returns-clause-read_fault g c =
    read_fault _ _ _ _ _ _ _ _ _ _ _ (record { idle = c.perform-status.ensures.idle; unwritten = c.perform-status.ensures.unwritten; says = c.perform-status.ensures.says }) c.perform-status.ensures.asked

pub returns-clause-complete : goal.returns-clause-complete
returns-clause-complete g c =
    complete _ _ _ _ _ _ _ (record { idle = c.perform-status.ensures.idle; unwritten = c.perform-status.ensures.unwritten; says = c.perform-status.ensures.says })

pub returns-clause-refusal_comes : goal.returns-clause-refusal_comes
returns-clause-refusal_comes g c =
    refusal_comes _ _ _ _ _ _ _ (record { idle = c.perform-status.ensures.idle; unwritten = c.perform-status.ensures.unwritten; says = c.perform-status.ensures.says })

pub returns-clause-histories : goal.returns-clause-histories
returns-clause-histories g c =
    histories _ _ _ _ _ _ _ (record { idle = c.perform-status.ensures.idle; unwritten = c.perform-status.ensures.unwritten; says = c.perform-status.ensures.says })

pub returns-clause-not_run : goal.returns-clause-not_run
returns-clause-not_run g c =
    not_run _ _ _ _ _ _ _ (record { idle = c.perform-status.ensures.idle; unwritten = c.perform-status.ensures.unwritten; says = c.perform-status.ensures.says })

pub returns-clause-no_comes : goal.returns-clause-no_comes
returns-clause-no_comes g c =
    no_comes _ _ _ _ _ _ _ (record { idle = c.perform-status.ensures.idle; unwritten = c.perform-status.ensures.unwritten; says = c.perform-status.ensures.says })
