-- The nodes of a picture, at which its edges begin and end.
use Rattle.std.specs.Prelude.{List, ◌++◌, map, Contains, All}
use Rattle.genealogy_svg.specs.declared.model.Picture.{Picture}
use Rattle.genealogy_svg.specs.declared.model.PictureEdge.{PictureEdge}
use Rattle.plant_trace.specs.{Node}
use Rattle.plant_trace.specs.declared.node.Node.TheVariants.{Lot, Batch}

-- the lots of a picture, and its batches
abbrev pub nodes_in : Picture → List Node
nodes_in p = map (λ lot. Lot lot.id) p.lots ++ map Batch p.batches

-- the edge begins and ends at nodes of these
abbrev pub IsBetween : List Node → PictureEdge → Type 0
IsBetween nodes e = Contains nodes e.from × Contains nodes e.to

-- each edge begins and ends at a node of the picture
abbrev pub HasEnds : Picture → Type 0
HasEnds p = All (IsBetween (nodes_in p)) p.edges
