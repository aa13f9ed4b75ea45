use Rattle.std.proofs.Common.{◌≡◌, ◌<◌, ◌∙◌, ◌+◌, ℕ, Bool, List, Some, None, cond, true, false, length, get_or, ap, sym, arith}
use Rattle.feature_lines.specs.declared.pool.Pool.{Pool}
use Rattle.office_view.specs.View.{named_from}
use Rattle.office_view.proofs.Searches.{search_at}
use Rattle.session.specs.Asks.{is_meant_at}
use Rattle.session.specs.Table.{is_desk_meant}
use Rattle.session.specs.declared.asked.Whom.TheVariants.{Keeping}
use Rattle.session.proofs.Firsts.{kept_at, kept_by, kept_from, named_next, next_is, next_leaves}
use Rattle.session.proofs.Standing.{meant_is}
use Rattle.session.proofs.finding.kept_pool.Goals as goal

pub loop-next-init : goal.loop-next-init
loop-next-init g c = record {
  within = c.first-first.ensures.there;
  named = named_next c.args.office.now.pools c.args.name.now 0 c.first-first.result c.first-first.ensures.first;
  same = λ o before h. ap (λ (ps : List Pool). kept_from (is_desk_meant Keeping o before) ps c.args.name.now 0) h.pools
      ∙ kept_by (is_desk_meant Keeping o before) c.args.office.now.pools c.args.name.now 0 c.first-first.result c.first-first.ensures.first;
}

pub loop-next-smaller : goal.loop-next-smaller
loop-next-smaller g c =
    let within : c.in-Some.i < length c.args.office.now.pools = rw c.in-Some.is at c.loop-next.invariant.within in
    let next : c.next-next.result ≡ named_from c.args.office.now.pools c.args.name.now (c.in-Some.i + 1)
    = next_is c.args.office.now.pools c.args.name.now c.in-Some.i c.next-next.result within (rw c.in-Some.is at c.loop-next.invariant.named) c.next-next.ensures.next in
    rw c.in-Some.is (next_leaves c.args.office.now.pools c.args.name.now c.in-Some.i c.next-next.result within next)

pub loop-next-preserved : goal.loop-next-preserved
loop-next-preserved g c =
    let within : c.in-Some.i < length c.args.office.now.pools = rw c.in-Some.is at c.loop-next.invariant.within in
    let named : (p : Pool) → (get_or c.args.office.now.pools c.in-Some.i p).name ≡ c.args.name.now = rw c.in-Some.is at c.loop-next.invariant.named in
    let next : c.next-next.result ≡ named_from c.args.office.now.pools c.args.name.now (c.in-Some.i + 1)
    = next_is c.args.office.now.pools c.args.name.now c.in-Some.i c.next-next.result within named c.next-next.ensures.next in
    record {
      within = c.next-next.ensures.there;
      named = named_next c.args.office.now.pools c.args.name.now (c.in-Some.i + 1) c.next-next.result next;
      same = λ o before h.
          let test : ℕ → Bool = is_desk_meant Keeping o before in
          let passed : test c.in-Some.i ≡ false
          = sym (ap (λ x. is_meant_at Keeping (g.C.Counter.account x)) c.index-pass-i.is ∙ meant_is g.C.Counter.account c.args.office.now o before c.args.pass.now Keeping c.in-Some.i c.index-pass-i.result h (omega (arith, within, c.requires))) ∙ sym c.is_meant.ensures ∙ c.if-is_meant.false in
          c.loop-next.invariant.same o before h ∙ ap (search_at None (kept_from test c.args.office.now.pools c.args.name.now)) c.in-Some.is
          ∙ kept_at test c.args.office.now.pools c.args.name.now c.in-Some.i within named
          ∙ ap (λ b. cond b (Some c.in-Some.i) (kept_from test c.args.office.now.pools c.args.name.now (c.in-Some.i + 1))) passed
          ∙ kept_by test c.args.office.now.pools c.args.name.now (c.in-Some.i + 1) c.next-next.result next;
    }

pub returns-then-is_meant-clause-pool : goal.returns-then-is_meant-clause-pool
returns-then-is_meant-clause-pool g c = λ o before h.
    let within : c.in-Some.i < length c.args.office.now.pools = rw c.in-Some.is at c.loop-next.invariant.within in
    let test : ℕ → Bool = is_desk_meant Keeping o before in
    let kept : test c.in-Some.i ≡ true
    = sym (ap (λ x. is_meant_at Keeping (g.C.Counter.account x)) c.index-pass-i.is ∙ meant_is g.C.Counter.account c.args.office.now o before c.args.pass.now Keeping c.in-Some.i c.index-pass-i.result h (omega (arith, within, c.requires))) ∙ sym c.is_meant.ensures ∙ c.if-is_meant.true in
    sym
    (c.loop-next.invariant.same o before h ∙ ap (search_at None (kept_from test c.args.office.now.pools c.args.name.now)) c.in-Some.is
    ∙ kept_at test c.args.office.now.pools c.args.name.now c.in-Some.i within (rw c.in-Some.is at c.loop-next.invariant.named)
    ∙ ap (λ b. cond b (Some c.in-Some.i) (kept_from test c.args.office.now.pools c.args.name.now (c.in-Some.i + 1))) kept)
