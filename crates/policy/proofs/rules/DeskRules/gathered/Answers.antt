use Rattle.policy.proofs.rules.DeskRules.gathered.Goals as goal

pub invariant_of-result : goal.invariant_of-result
invariant_of-result c = record {
  sound = record {
    parted = rw (c.in_ok-reserves.ensures.cut, c.in_ok-reserves.ensures.left) c.requires.sound.parted;
    apart = rw c.in_ok-reserves.ensures.cut c.requires.sound.apart;
    few = c.requires.sound.few;
    short = rw (c.unwrap_or-linger.ensures, c.first_linger.ensures, c.as_slice.ensures) c.requires.sound.short;
  };
  told = c.in_ok-cuts.ensures;
}
