-- What is seen of a table of seats that linger.
use Rattle.std.specs.Prelude.{◌≡◌, ℕ, Bool, nat_lt, List, ◌∷◌, ◌++◌}
use Rattle.options_machine.specs.declared.rows.Lingerer.{Lingerer}

-- for how many entries it has room, and the entries in the order in which they came
pub record LingeringList : Type 0 where
  pub room : ℕ
  pub entries : List Lingerer

-- whether an entry stays at the moment
abbrev pub stays_at : ℕ → Lingerer → Bool
stays_at now l = nat_lt now l.until

-- new is old without one entry l, all others in their order
abbrev pub TakesOneOut : Lingerer → List Lingerer → List Lingerer → Type 0
TakesOneOut l old new = (front : List Lingerer) × ((back : List Lingerer) × ((old ≡ front ++ l ∷ back) × (new ≡ front ++ back)))
