-- The pass that an access leads to, and its kind.
use Rattle.kex_words.specs.Passes.{Pass, Kind, entering, naming, named, leaving, outside}
use Rattle.kex_words.specs.declared.passes.Next.{Next}
use Rattle.kex_words.specs.declared.passes.Next.TheVariants.{Entering, Naming, Named}
use Rattle.kex_words.specs.declared.passes.Back.{Back}
use Rattle.kex_words.specs.declared.passes.Back.TheVariants.{Leaving, Out}

abbrev pub pass_in_next : Next → Pass
pass_in_next (Entering e) = e
pass_in_next (Naming n) = n
pass_in_next (Named n) = n

abbrev pub kind_in_next : Next → Kind
kind_in_next (Entering e) = entering
kind_in_next (Naming n) = naming
kind_in_next (Named n) = named

abbrev pub pass_in_back : Back → Pass
pass_in_back (Leaving l) = l
pass_in_back (Out o) = o

abbrev pub kind_in_back : Back → Kind
kind_in_back (Leaving l) = leaving
kind_in_back (Out o) = outside
