use Rattle.std.proofs.Common.{◌≡◌, [], ◌∙◌, arith}
use Rattle.lic_text.specs.Physical.{physical_lines}
use Rattle.lic_text.proofs.Parts.{no_bytes}
use Rattle.lic_text.proofs.extent.measure_further.Goals as goal

pub returns-clause-length : goal.returns-clause-length
returns-clause-length c =
    let none : physical_lines c.loop-rest.rest.now ≡ [] = no_bytes c.loop-rest.rest.now (grind arith) in
    let all = rw none at c.loop-rest.invariant.text in
    omega (arith, all)

pub returns-clause-is_open : goal.returns-clause-is_open
returns-clause-is_open c =
    let none : physical_lines c.loop-rest.rest.now ≡ [] = no_bytes c.loop-rest.rest.now (grind arith) in
    rw none at c.loop-rest.invariant.end

pub returns-clause-count : goal.returns-clause-count
returns-clause-count c =
    let none : physical_lines c.loop-rest.rest.now ≡ [] = no_bytes c.loop-rest.rest.now (grind arith) in
    let all = rw none at c.loop-rest.invariant.numbers in
    omega (arith, all)

pub returns-clause-rest : goal.returns-clause-rest
returns-clause-rest c =
    let none : physical_lines c.loop-rest.rest.now ≡ [] = no_bytes c.loop-rest.rest.now (grind arith) in
    none ∙ (rw none at c.loop-rest.invariant.behind)
