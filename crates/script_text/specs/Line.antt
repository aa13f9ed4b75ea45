use Rattle.std.specs.Prelude.{ℕ, List, Option}
use Rattle.lic_types.specs.declared.client.Client.{Client}
use Rattle.lic_types.specs.declared.version.Version.{Version}
use Rattle.options_machine.specs.declared.reply.Kind.{Kind}

-- what is seen of a line of a script: what a party asks at a moment
pub record AskedLine : Type 0 where
  pub line : ℕ
  pub moment : ℕ
  pub party : ℕ
  pub client : Client
  pub kind : Kind
  pub feature : Option (List ℕ)
  pub version : Option Version
