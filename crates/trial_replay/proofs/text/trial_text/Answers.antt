use Rattle.std.proofs.Common.{◌++◌, ap, ◌∙◌, codes}
use Rattle.trial_replay.specs.Counts.{count_line, counts_text, events_text}
use Rattle.trial_replay.proofs.text.trial_text.Goals as goal

pub returns-clause-text : goal.returns-clause-text
returns-clause-text c =
    c.in_ok-put_counts.ensures
    ∙ (ap (λ front. front ++ counts_text c.in_ok-counts.counts) (c.in_ok-put_count.ensures ∙ ap (λ front. front ++ count_line (codes "EVENTS ") c.args.events) c.new-text.ensures.items)
    ∙ ap (events_text c.args.events) c.in_ok-counts.ensures.counts)
