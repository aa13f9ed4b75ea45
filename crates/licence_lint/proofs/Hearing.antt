use Rattle.std.proofs.Common.{ℕ, List, Option, Vec, Result, Err}
use Rattle.std.specs.declared.alloc.Global.{Global}
use Rattle.licence_tool.specs.Asked.{Asks}
use Rattle.licence_tool.specs.Command.{CheckFiles}
use Rattle.licence_tool.specs.Files.{Bytes}
use Rattle.licence_tool.specs.Tool.{AreHeard, HearingSays}
use Rattle.licence_tool.specs.declared.status.Status.{Status}
use Rattle.licence_tool.specs.declared.status.Status.TheVariants as tool
use Rattle.licence_tool.proofs.Hearing.{agreeing, is_agreeing}
use Rattle.licence_tool.proofs.Runs.{as_check, both_heard, check_files}
use Rattle.lint_advice.specs.Advice.{advice_of}
use Rattle.lint_advice.specs.declared.advice.Advice.{Advice}
use Rattle.lint_advice.specs.declared.advice.Horizon.{Horizon}
use Rattle.licence_lint.specs.Lint.{IsHeardOf, advice_heard}

-- what comes of the files in their order
abbrev pub lint_hears : Option Horizon → List Bytes → Result (List Advice) Status
lint_hears horizon = both_heard (λ licence options. advice_of licence options horizon)

-- what is heard of them in that order is heard of them
pub heard_of : {horizon : Option Horizon} {Failed : Type 0} {told : CheckFiles Bytes} {result : Result (Vec Advice Global) Status}
    → AreHeard (λ (v : Vec Advice Global). v.items) (lint_hears horizon) Failed (check_files told) result → IsHeardOf horizon Failed told result
unfolding advice_heard
heard_of {horizon = horizon} {Failed = Failed} {told = told} {result = result} heard =
    let r = as_check Failed told heard.readings (λ readings. HearingSays (λ (v : Vec Advice Global). v.items) Failed (lint_hears horizon readings) result) heard.are heard.says in
    record { readings = r.0; are = r.1; says = r.2 }

-- memory may be wanted whatever they hold
pub heard_forgotten : (horizon : Option Horizon) (Failed : Type 0) (told : CheckFiles Bytes) → IsHeardOf horizon Failed told (Err tool.NoMemory)
heard_forgotten horizon Failed told = record {
  readings = record { licence = agreeing told.licence; options = agreeing told.options };
  are = record { licence = is_agreeing Failed told.licence; options = is_agreeing Failed told.options };
  says = tt;
}

-- where all files were asked for, that may be said where memory is wanted too
pub asked_forgotten : (first : ℕ) (names a b f h : List (List ℕ)) → Asks first names a b f h tool.Done → Asks first names a b f h tool.NoMemory
asked_forgotten first names a b f h asks = record { count = asks.count; within = asks.within; asked = asks.asked; ends = tt; fails = asks.fails }
