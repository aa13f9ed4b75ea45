-- The table of the desks of features.
use Rattle.std.specs.Prelude.{ℕ, ◌-◌, List, [], ◌∷◌, ◌++◌, flat_map, length, replicate, codes, decimal}
use Rattle.counter.specs.declared.glance.Glance.{Glance}

-- a cell: a text, blanks up to this width, and one blank more
abbrev pub cell : ℕ → List ℕ → List ℕ
cell width text = text ++ replicate (width - length text) 32 ++ 32 ∷ []

-- the first line
abbrev pub head_text : List ℕ
head_text = cell 24 (codes "FEATURE") ++ cell 10 (codes "IN USE") ++ cell 10 (codes "LINGERING") ++ cell 10 (codes "FREE") ++ codes "WAITING\n"

-- The row of a feature. Free are the seats that no RESERVE line keeps and that nobody has.
abbrev pub row_text : List ℕ → Glance → List ℕ
row_text feature g =
    cell 24 feature ++ cell 10 (decimal g.held) ++ cell 10 (decimal g.lingering) ++ cell 10 (decimal (g.free - g.taken)) ++ decimal g.queued ++ 10 ∷ []

-- a feature and its numbers
pub record Row : Type 0 where
  pub feature : List ℕ
  pub glance : Glance

abbrev pub text_of : Row → List ℕ
text_of row = row_text row.feature row.glance

abbrev pub table_text : List Row → List ℕ
table_text rows = head_text ++ flat_map text_of rows
