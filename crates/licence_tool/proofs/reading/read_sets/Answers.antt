use Rattle.std.proofs.Common.{◌+◌, ◌≡◌, map, string_bytes, refl, arith, length}
use Rattle.std.proofs.lemmas.Result.{err_from_is_err_and}
use Rattle.std.proofs.lemmas.List.{length-map}
use Rattle.licence_tool.specs.Outcome.{position_of_set}
use Rattle.licence_tool.proofs.Asking.{further, further_forgotten, further_position, further_read, further_refused, none_asked}
use Rattle.licence_tool.proofs.Sets.{told_one_more, within_map, all_heard, none_heard, one_more, one_refused, sets_without_memory}
use Rattle.licence_tool.proofs.reading.read_sets.Goals as goal

pub returns-in_err-push-clause-says : goal.returns-in_err-push-clause-says
returns-in_err-push-clause-says g c =
    let p = err_from_is_err_and c.from_residual.result c.from_residual.ensures.1 in
    rw (p.1, p.2) (sets_without_memory (λ v. v.items) _ _ c.args.options)

pub returns-in_err-push-2-clause-says : goal.returns-in_err-push-2-clause-says
returns-in_err-push-2-clause-says g c =
    let p = err_from_is_err_and c.from_residual-in_err-push-2.result c.from_residual-in_err-push-2.ensures.1 in
    rw (p.1, p.2) (sets_without_memory (λ v. v.items) _ _ c.args.options)

pub returns-in_err-further-clause-says : goal.returns-in_err-further-clause-says
returns-in_err-further-clause-says g c =
    let p = err_from_is_err_and c.from_residual-in_err-further.result c.from_residual-in_err-further.ensures.1 in
    let place : c.len.result ≡ length c.loop-name.sets.items = omega (arith, c.len.ensures, c.loop-name.sets.ok.0) in
    rw (p.1, p.2) (one_refused c.name-item.result c.loop-name.invariant.heard c.loop-name-test.true c.name-item.is place
    c.in_err-further.ensures.later (rw c.as_str.ensures.value at c.in_err-further.ensures.says))

pub loop-name-init : goal.loop-name-init
loop-name-init g c = record {
  heard = rw (c.in_ok-push.ensures.items, c.new-sets.ensures.items) (none_heard string_bytes _ _ _ _);
  asked = none_asked 4 _ _ _ _ refl refl;
}

pub loop-name-preserved : goal.loop-name-preserved
loop-name-preserved g c = record {
  heard =
      let place : c.len.result ≡ length c.loop-name.sets.items = omega (arith, c.len.ensures, c.loop-name.sets.ok.0) in
      rw c.in_ok-push-2.ensures.items (one_more c.name-item.result c.in_ok-further.further c.loop-name.invariant.heard c.loop-name-test.true c.name-item.is place
      c.in_ok-further.ensures.same c.in_ok-further.ensures.later (rw c.as_str.ensures.value at c.in_ok-further.ensures.says));
  asked =
      let name = c.name-item.result in
      let place : c.len.result ≡ 1 + c.loop-name.name-index = omega (arith, c.len.ensures, c.loop-name.sets.ok.0, c.loop-name.invariant.heard.size) in
      further (map string_bytes c.args.names.now) _ _ _ _ _ _ c.loop-name.name-index (position_of_set c.len.result) (string_bytes name) _ c.loop-name.invariant.asked (rw c.as_str.ensures.value at c.in_ok-further.ensures.asked)
      (further_position c.len.result c.loop-name.name-index place) (within_map string_bytes c.args.names.now c.loop-name.name-index c.loop-name-test.true)
      (told_one_more string_bytes c.args.names.now c.loop-name.name-index name c.loop-name-test.true c.name-item.is);
}

pub returns-clause-says : goal.returns-clause-says
returns-clause-says g c = all_heard (λ v. v.items) c.loop-name.sets c.loop-name.invariant.heard c.loop-name-test.false

pub returns-in_err-push-clause-asked : goal.returns-in_err-push-clause-asked
returns-in_err-push-clause-asked g c =
    let p = err_from_is_err_and c.from_residual.result c.from_residual.ensures.1 in
    rw (p.1, p.2) (none_asked 4 _ _ _ _ tt refl)

pub returns-in_err-push-2-clause-asked : goal.returns-in_err-push-2-clause-asked
returns-in_err-push-2-clause-asked g c =
    let p = err_from_is_err_and c.from_residual-in_err-push-2.result c.from_residual-in_err-push-2.ensures.1 in
    let name = c.name-item.result in
    let place : c.len.result ≡ 1 + c.loop-name.name-index = omega (arith, c.len.ensures, c.loop-name.sets.ok.0, c.loop-name.invariant.heard.size) in
    rw (p.1, p.2) (further_forgotten _ _ _ _ _ _
    (further (map string_bytes c.args.names.now) _ _ _ _ _ _ c.loop-name.name-index (position_of_set c.len.result) (string_bytes name) _ c.loop-name.invariant.asked (rw c.as_str.ensures.value at c.in_ok-further.ensures.asked)
    (further_position c.len.result c.loop-name.name-index place) (within_map string_bytes c.args.names.now c.loop-name.name-index c.loop-name-test.true)
    (told_one_more string_bytes c.args.names.now c.loop-name.name-index name c.loop-name-test.true c.name-item.is)))

pub returns-in_err-further-clause-asked : goal.returns-in_err-further-clause-asked
returns-in_err-further-clause-asked g c =
    let p = err_from_is_err_and c.from_residual-in_err-further.result c.from_residual-in_err-further.ensures.1 in
    let name = c.name-item.result in
    let place : c.len.result ≡ 1 + c.loop-name.name-index = omega (arith, c.len.ensures, c.loop-name.sets.ok.0, c.loop-name.invariant.heard.size) in
    rw (p.1, p.2) (further_refused _ _ _ _ _ _ _ _ _ c.in_err-further.ensures.says.says
    (further (map string_bytes c.args.names.now) _ _ _ _ _ _ c.loop-name.name-index (position_of_set c.len.result) (string_bytes name) _ c.loop-name.invariant.asked (rw c.as_str.ensures.value at c.in_err-further.ensures.asked)
    (further_position c.len.result c.loop-name.name-index place) (within_map string_bytes c.args.names.now c.loop-name.name-index c.loop-name-test.true)
    (told_one_more string_bytes c.args.names.now c.loop-name.name-index name c.loop-name-test.true c.name-item.is)))

pub returns-clause-asked : goal.returns-clause-asked
returns-clause-asked g c =
    further_read (map string_bytes c.args.names.now) _ _ _ _ c.loop-name.name-index
    (omega (arith, length-map c.args.names.now string_bytes, c.loop-name-test.false)) c.loop-name.invariant.asked
