use Rattle.scripts.proofs.histories.tell_histories.Goals as goal

pub returns : goal.returns
returns c = record {
  pooled = c.scripts_are_pooled.ensures c.args.licence.now.pools c.args.options.now c.args.lines.now;
  runs = c.scripts_are_runs.ensures c.args.licence.now.pools c.args.options.now c.args.lines.now c.requires.fit;
  lawful = c.scripts_are_lawful.ensures c.args.licence.now.pools c.args.options.now c.args.lines.now c.requires.some c.requires.few c.tell_orderly.ensures c.pools.ensures.counts;
  replies = c.lines_are_replies.ensures c.args.licence.now.pools c.args.options.now c.args.lines.now;
  denials = c.denials_name_their_line.ensures;
  no_seat = c.no_seat_is_left.ensures;
}
