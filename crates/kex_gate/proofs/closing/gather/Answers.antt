use Rattle.std.proofs.Common.{◌≡◌, [], ◌∷◌, ◌∙◌}
use Rattle.pass_roles.proofs.Members.{all_cut, front_of, moved_on}
use Rattle.kex_gate.specs.Passes.{Guest}
use Rattle.kex_gate.proofs.Gathers.{own_table, gathered_first, gathered_on, numbers_on, slow_on, joins_at}
use Rattle.kex_gate.proofs.closing.gather.Goals as goal

pub loop-pass-init : goal.loop-pass-init
loop-pass-init c = let t = c.args.table.now.shared in let e = front_of _ _ _ _ c.pop.ensures.items c.in-Some.is in
    let a = all_cut (λ (p : Guest). (p.gate.id ≡ t.table_id) × (p.gate.seats ≡ c.args.seats.now)) _ _ _ e c.requires.own in let o = c.open-own.ensures in let g = c.of-gathering.ensures in (
      o.own ∙ a.1.0,
      a.0,
      g.table ∙ own_table _ _ _ _ _ o.idle o.guest a.1.1,
      (
        c.in-Some.first ∷ [],
        e,
        gathered_first _ _ _ _ _ o.idle o.guest a.1.1,
        numbers_on _ _ _ _ _ o.idle o.guest a.1.1 [] [] _ (λ i. []) g.numbers,
        λ s. slow_on _ _ _ _ _ o.idle o.guest a.1.1 [] s [] _ (λ i. 0) g.got,
      ),
    )

pub gather-gathering-requires-clause-own : goal.gather-gathering-requires-clause-own
gather-gathering-requires-clause-own c = let t = c.args.table.now.shared in let e = front_of _ _ _ _ c.pop-in-loop-pass.ensures.items c.in-Some-pop.is in let o = c.open-own-in-Some-pop.ensures in
    own_table _ _ _ _ _ o.idle o.guest (all_cut (λ (p : Guest). (p.gate.id ≡ t.table_id) × (p.gate.seats ≡ c.args.seats.now)) _ _ _ e c.loop-pass.invariant.1).1.1

pub join_seat-requires : goal.join_seat-requires
join_seat-requires c = let t = c.args.table.now.shared in let i = c.loop-pass.invariant in let e = front_of _ _ _ _ c.pop-in-loop-pass.ensures.items c.in-Some-pop.is in
    let a = all_cut (λ (p : Guest). (p.gate.id ≡ t.table_id) × (p.gate.seats ≡ c.args.seats.now)) _ _ _ e i.1 in let o = c.open-own-in-Some-pop.ensures in
    joins_at t.table_id t.key.value c.args.seats.now i.3.0 _ _ _ _ _ _ c.in-Some-pop.pass _ c.requires.told i.3.2 i.0 o.idle o.own a.1.0 c.requires.words

pub loop-pass-preserved : goal.loop-pass-preserved
loop-pass-preserved c = let t = c.args.table.now.shared in let i = c.loop-pass.invariant in let e = front_of _ _ _ _ c.pop-in-loop-pass.ensures.items c.in-Some-pop.is in
    let a = all_cut (λ (p : Guest). (p.gate.id ≡ t.table_id) × (p.gate.seats ≡ c.args.seats.now)) _ _ _ e i.1 in let o = c.open-own-in-Some-pop.ensures in let g = c.gather-gathering.ensures in let j = c.join_seat.ensures in let d = i.3 in (
      j.0 ∙ i.0,
      a.0,
      g.table,
      (
        c.in-Some-pop.pass ∷ d.0,
        moved_on _ _ _ _ _ d.1 e,
        gathered_on _ _ _ _ _ o.idle o.guest a.1.1 d.0 _ _ d.2 j.2,
        numbers_on _ _ _ _ _ o.idle o.guest a.1.1 d.0 _ _ d.3 g.numbers,
        λ s. slow_on _ _ _ _ _ o.idle o.guest a.1.1 d.0 s _ _ (d.4 s) g.got,
      ),
    )
