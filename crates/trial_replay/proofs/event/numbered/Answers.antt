use Rattle.std.proofs.Common.{◌≡◌, ◌∷◌, ◌∙◌, ap, decimal, take, refl, arith, rules}
use Rattle.lic_types.specs.Name.{name_of}
use Rattle.trial_terms.proofs.Names.{numbered_name}
use Rattle.trial_replay.proofs.event.numbered.Goals as goal

pub unwrap-requires : goal.unwrap-requires
unwrap-requires c =
    let word : take c.put_number-at.result c.put_number-at.new.room ≡ c.args.letter ∷ decimal c.args.number = c.put_number-at.ensures.written ∙ rw (c.put-at.ensures.written, c.from.ensures) refl in
    let read = c.read.ensures ∙ (ap name_of word ∙ numbered_name c.args.letter c.args.number c.requires (omega arith)) in
    rw read (search rules)
