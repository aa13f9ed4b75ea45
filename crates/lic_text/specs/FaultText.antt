use Rattle.std.specs.Prelude.{ℕ, List, codes}
use Rattle.lic_text.specs.declared.fault.TextFault.{TextFault}
use Rattle.lic_text.specs.declared.fault.TextFault.TheVariants.{LineTooLong, OpenContinuation}

-- what is printed of lines that end early
abbrev pub end_text : TextFault → List ℕ
end_text (LineTooLong first) = codes "line too long"
end_text (OpenContinuation first) = codes "open continuation"
