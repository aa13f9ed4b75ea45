use Rattle.std.proofs.Common.{◌≡◌, [], ◌∷◌, length, ap, ◌∙◌, sym, arith, length-append}
use Rattle.std.proofs.lemmas.List.Sums.{sum_by-cons}
use Rattle.kex_words.specs.Passes.{times}
use Rattle.kex_words.specs.Steps.{numbers_of}
use Rattle.kex_words.proofs.Gathers.{times_after}
use Rattle.pass_roles.proofs.Members.{all_cut, all_gone, front_of, moved_on}
use Rattle.kex_words.proofs.words.KexTable.gather_all.Goals as goal

pub loop-pass-init : goal.loop-pass-init
loop-pass-init c = let e = front_of _ _ _ _ c.pop.ensures.items c.in-Some.is in let a = all_cut (λ p. p.table ≡ c.args.self.now) _ _ _ e c.requires.own in let g = c.of-gathering.ensures in
    (g.table ∙ a.1, a.0, (c.in-Some.first ∷ [], e, g.numbers, λ s. let t = ap (times s) g.got in omega arith, (let n = ap length g.got in let m = sum_by-cons (λ p. length p.got) c.in-Some.first [] in omega arith)))

pub gather-gathering-requires-clause-own : goal.gather-gathering-requires-clause-own
gather-gathering-requires-clause-own c = let e = front_of _ _ _ _ c.pop-in-loop-pass.ensures.items c.in-Some-pop.is in (all_cut (λ p. p.table ≡ c.args.self.now) _ _ _ e c.loop-pass.invariant.1).1

pub loop-pass-preserved : goal.loop-pass-preserved
loop-pass-preserved c = let i = c.loop-pass.invariant in let e = front_of _ _ _ _ c.pop-in-loop-pass.ensures.items c.in-Some-pop.is in
    let a = all_cut (λ p. p.table ≡ c.args.self.now) _ _ _ e i.1 in let g = c.gather-gathering.ensures in (
      g.table,
      a.0,
      (c.in-Some-pop.pass ∷ i.2.0, moved_on _ _ _ _ _ i.2.1 e, g.numbers ∙ ap (λ l. c.in-Some-pop.pass.number ∷ l) i.2.2, λ s. let t = ap (times s) g.got in let u = times_after s c.loop-pass.gathering.got c.in-Some-pop.pass.got in let d = i.2.3 s in omega arith, (let n = ap length g.got in let a = length-append c.loop-pass.gathering.got c.in-Some-pop.pass.got in let m = sum_by-cons (λ p. length p.got) c.in-Some-pop.pass i.2.0 in let d = i.2.4 in omega arith)),
    )

pub returns-clause-numbers : goal.returns-clause-numbers
returns-clause-numbers c = let i = c.loop-pass.invariant in let none = rw c.in_default-pop.is at c.pop-in-loop-pass.ensures.cases in
    i.2.2 ∙ ap numbers_of (sym (all_gone c.loop-pass.passes.items _ _ (sym c.loop-pass.passes.ok.0 ∙ none.0) i.2.1))
