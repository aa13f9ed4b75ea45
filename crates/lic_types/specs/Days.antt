use Rattle.std.specs.Prelude.{ℕ, ◌-◌, List, [], ◌∷◌, ◌++◌, length, replicate, codes, decimal, slice_index_or}
use Rattle.lic_types.specs.declared.day.Day.{Day}

-- the names of the months, as they are printed
abbrev pub month_names : List (List ℕ)
month_names = codes "jan" ∷ codes "feb" ∷ codes "mar" ∷ codes "apr" ∷ codes "may" ∷ codes "jun" ∷ codes "jul" ∷ codes "aug" ∷ codes "sep" ∷ codes "oct" ∷ codes "nov" ∷ codes "dec" ∷ []

-- the name of the month of this number, from 1
abbrev pub month_text : ℕ → List ℕ
month_text month = slice_index_or month_names (month - 1) []

-- a year in four digits
abbrev pub year_text : ℕ → List ℕ
year_text year = replicate (4 - length (decimal year)) 48 ++ decimal year

-- a day as it is printed: `d-mmm-yyyy`, the day without a leading zero
abbrev pub day_text : Day → List ℕ
day_text day = decimal day.day ++ 45 ∷ month_text day.month ++ 45 ∷ year_text day.year
