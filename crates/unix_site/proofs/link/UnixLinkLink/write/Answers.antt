use Rattle.std.proofs.Common.{arith}
use Rattle.unix_site.proofs.link.UnixLinkLink.write.Goals as goal

pub returns-then-is_ok-clause-told : goal.returns-then-is_ok-clause-told
returns-then-is_ok-clause-told c = (0, omega arith, λ told t. tt)

pub returns-clause-told : goal.returns-clause-told
returns-clause-told c = (0, omega arith, λ told t. tt)
