use Rattle.std.proofs.Common.{map, take, [], ◌+◌, get_or, Bor, List, ℕ}
use Rattle.std.proofs.lemmas.Result.{err_from_is_err_and}
use Rattle.client_talk.specs.Talks.{glance_line, hello_line}
use Rattle.client_talk.specs.declared.cause.Cause.TheVariants.{NoMemory}
use Rattle.client_talk.specs.declared.want.Want.TheVariants.{Numbers, Welcome}
use Rattle.client_talk.proofs.Talkings.{halts_answered}
use Rattle.client_talk.proofs.Showings.{next_feature, next_front, shown_more, shown_none, shown_stopped, stopped_first}
use Rattle.client_talk.proofs.errand.status.Goals as goal

pub returns-in_err-greet : goal.returns-in_err-greet
returns-in_err-greet g c =
    let p = err_from_is_err_and c.from_residual.result c.from_residual.ensures.1 in
    rw (p.1, p.2) (stopped_first g.L.Link.tells c.args.link.now c.greet.new.link (hello_line c.args.client.now) _ c.in_err-greet.field-0.0 c.in_err-greet.ensures)

pub returns-in_err-text : goal.returns-in_err-text
returns-in_err-text g c =
    let p = err_from_is_err_and c.from_residual-in_err-text.result c.from_residual-in_err-text.ensures.1 in
    rw (p.1, p.2)
    (stopped_first g.L.Link.tells c.args.link.now c.greet.new.link (hello_line c.args.client.now) _ NoMemory
    (halts_answered g.L.Link.tells c.args.link.now c.greet.new.link (hello_line c.args.client.now) Welcome c.in_ok-greet.field-0 NoMemory c.in_ok-greet.ensures (λ events a. tt)))

pub loop-feature-init : goal.loop-feature-init
loop-feature-init g c = shown_none g.L.Link.tells c.args.link.now c.greet.new.link (hello_line c.args.client.now) c.in_ok-text.text.items c.in_ok-greet.field-0 c.in_ok-greet.ensures c.in_ok-text.ensures

pub returns-in_err-glance : goal.returns-in_err-glance
returns-in_err-glance g c =
    let fs = c.args.features.now in
    let i = c.loop-feature.feature-index in
    let d : Bor (List ℕ) = record { ref_ptr = (0, 0); now = [] } in
    let p = err_from_is_err_and c.from_residual-in_err-glance.result c.from_residual-in_err-glance.ensures.1 in
    rw (p.1, p.2)
    (shown_stopped g.L.Link.tells c.args.link.now c.loop-feature.link c.glance.new.link (hello_line c.args.client.now) (get_or fs i d).now c.loop-feature.text.items (map (λ f. f.now) (take i fs)) (map (λ f. f.now) fs) (i + 1)
    c.in_err-glance.field-0.0 c.loop-feature.invariant c.in_err-glance.ensures (next_front fs i d c.loop-feature-test.true))

pub returns-in_err-put_row : goal.returns-in_err-put_row
returns-in_err-put_row g c =
    let fs = c.args.features.now in
    let i = c.loop-feature.feature-index in
    let d : Bor (List ℕ) = record { ref_ptr = (0, 0); now = [] } in
    let said = c.in_ok-glance.ensures in
    let p = err_from_is_err_and c.from_residual-in_err-put_row.result c.from_residual-in_err-put_row.ensures.1 in
    rw (p.1, p.2)
    (shown_stopped g.L.Link.tells c.args.link.now c.loop-feature.link c.glance.new.link (hello_line c.args.client.now) (get_or fs i d).now c.loop-feature.text.items (map (λ f. f.now) (take i fs)) (map (λ f. f.now) fs) (i + 1)
    NoMemory c.loop-feature.invariant
    (halts_answered g.L.Link.tells c.loop-feature.link c.glance.new.link (glance_line (get_or fs i d).now) Numbers said.0 NoMemory said.2 (λ events a. tt))
    (next_front fs i d c.loop-feature-test.true))

pub loop-feature-preserved : goal.loop-feature-preserved
loop-feature-preserved g c =
    let fs = c.args.features.now in
    let i = c.loop-feature.feature-index in
    let d : Bor (List ℕ) = record { ref_ptr = (0, 0); now = [] } in
    shown_more g.L.Link.tells c.args.link.now c.loop-feature.link c.glance.new.link (hello_line c.args.client.now) (get_or fs i d).now c.loop-feature.text.items c.put_row.new.text.items (map (λ f. f.now) (take i fs)) (map (λ f. f.now) (take (i + 1) fs))
    c.in_ok-glance.glance c.loop-feature.invariant c.in_ok-glance.ensures c.in_ok-put_row.ensures (next_feature fs i d c.loop-feature-test.true)
