use Rattle.std.specs.Prelude.{◌≡◌, ℕ, List, Ok}
use Rattle.options_text.specs.Canonical.{canonical}
use Rattle.options_text.specs.Options.{OptionsFile, options_of}

-- the canonical text of what a file says says the same
abbrev pub CanonicalReadsBack : Type 0
CanonicalReadsBack = (file : List ℕ) (options : OptionsFile) → options_of file ≡ Ok options → options_of (canonical options) ≡ Ok options

-- the canonical text of what a canonical text says is that text
abbrev pub CanonicalStays : Type 0
CanonicalStays = (file : List ℕ) (options again : OptionsFile) → options_of file ≡ Ok options → options_of (canonical options) ≡ Ok again → canonical again ≡ canonical options
