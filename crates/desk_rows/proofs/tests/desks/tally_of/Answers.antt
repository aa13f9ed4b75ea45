use Rattle.std.proofs.Common.{◌≡◌, ◌++◌, List, All, length, take, drop, ap, sym, ◌∙◌, subst, arith, ℕ}
use Rattle.std.proofs.Math.Seq.{take-append_seam}
use Rattle.feature_desk.specs.Closings.{Rests}
use Rattle.feature_desk.specs.Sitters.{DeskView, IsOf, Sitter}
use Rattle.desk_rows.proofs.tests.desks.tally_of.Goals as goal

pub close-requires-clause-all : goal.close-requires-clause-all
close-requires-clause-all g c =
    let xs : List Sitter = c.come_and_go_all.new.passes in let e = c.come_and_go_all.ensures in let d : DeskView = c.args.desk in
    let len = e.len in let ok = c.args.passes.ok.0 in
    let rest : List Sitter = drop (length xs) c.args.passes.items in
    let whole : c.args.passes.len ≡ length xs = omega (arith, len, ok) in
    let same : take c.args.passes.len (xs ++ rest) ≡ xs = ap (λ (n : ℕ). take n (xs ++ rest)) whole ∙ take-append_seam xs rest in
    record {
      own = subst (All (λ (s : Sitter). IsOf s d)) (sym same) e.own;
      rest = subst (All Rests) (sym same) e.rest;
    }
