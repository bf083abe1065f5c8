-- Rows: each amount has a row of its own in the gap in front of the column where its edge ends, so that none is written over another.
use Rattle.std.specs.Prelude.{◌≡◌, ℕ, ◌+◌, ◌≤◌, List, length, map, AllPairs, Some, None, All}
use Rattle.genealogy_svg.specs.declared.model.Picture.{Picture}
use Rattle.genealogy_svg.specs.declared.drawing.Drawing.{Drawing}
use Rattle.genealogy_svg.specs.declared.drawing.DrawnEdge.{DrawnEdge}

-- the picture has at most 80 lots and batches
abbrev pub IsSmall : Picture → Type 0
IsSmall p = length p.lots + length p.batches ≤ 80

-- the edge with its amount in a row, and without it
abbrev pub in_row : DrawnEdge → ℕ → DrawnEdge
in_row e row = record { from = e.from; to = e.to; amount = e.amount; unit = e.unit; row = Some row }

abbrev pub without_row : DrawnEdge → DrawnEdge
without_row e = record { from = e.from; to = e.to; amount = e.amount; unit = e.unit; row = None }

-- the amount of the edge has a row
abbrev pub HasRow : DrawnEdge → Type 0
HasRow e = (row : ℕ) × (e.row ≡ Some row)

-- the amounts of two edges that end in one column aren't in one row
abbrev pub AreApart : DrawnEdge → DrawnEdge → Type 0
AreApart d e = d.to.layer ≡ e.to.layer → d.row ≡ e.row → ⊥

-- the edges, each with its amount in a row of its own
pub record HaveRows (edges placed : List DrawnEdge) : Type 0 where
  pub same : map without_row placed ≡ map without_row edges
  pub each : All HasRow placed
  pub apart : AllPairs AreApart placed

-- the drawing of a small picture, with the amounts in rows; of a larger one it stays as it is
pub record HasAmounts (picture : Picture) (bare drawing : Drawing) : Type 0 where
  pub lots : drawing.lots ≡ bare.lots
  pub batches : drawing.batches ≡ bare.batches
  pub small : IsSmall picture → HaveRows bare.edges drawing.edges
  pub large : (IsSmall picture → ⊥) → drawing.edges ≡ bare.edges
