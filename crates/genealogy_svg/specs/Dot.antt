-- A picture in DOT, which Graphviz draws. Its names and labels are made of ids, units and numbers, none of which has a quotation mark, a backslash
-- or a line end, so nothing in them has to be escaped.
use Rattle.std.specs.Prelude.{ℕ, List, [], ◌++◌, Bool, true, false, codes, decimal, flat_map}
use Rattle.plant_trace.specs.{node_text}
use Rattle.plant_trace.specs.declared.node.Node.TheVariants.{Batch}
use Rattle.genealogy_svg.specs.declared.model.Picture.{Picture}
use Rattle.genealogy_svg.specs.declared.model.PictureEdge.{PictureEdge}
use Rattle.genealogy_svg.specs.declared.model.PictureLot.{PictureLot}

-- ---- marks

-- the word for a lot that is held, for one that is recalled, and for one that is both
abbrev pub mark_name : Bool → Bool → List ℕ
mark_name false false = []
mark_name true false = codes "HELD"
mark_name false true = codes "RECALLED"
mark_name true true = codes "HELD, RECALLED"

-- the colour that it is filled with
abbrev pub mark_colour : Bool → Bool → List ℕ
mark_colour false false = codes "#ffffff"
mark_colour true false = codes "#fff3cd"
mark_colour false true = codes "#f8d7da"
mark_colour true true = codes "#f8d7da"

-- a marked lot has a line of its own for the word, and a second border
abbrev pub mark_line : Bool → Bool → List ℕ
mark_line false false = []
mark_line true false = codes "\\nHELD"
mark_line false true = codes "\\nRECALLED"
mark_line true true = codes "\\nHELD, RECALLED"

abbrev pub borders : Bool → Bool → ℕ
borders false false = 1
borders true false = 2
borders false true = 2
borders true true = 2

-- ---- nodes and edges

-- the text below a lot's id: its definition, and how much is in stock
abbrev pub stock_text : PictureLot → List ℕ
stock_text lot = lot.definition ++ (codes " " ++ (decimal lot.stock ++ (codes " " ++ lot.unit)))

abbrev pub lot_label : PictureLot → List ℕ
lot_label lot = lot.id ++ (codes "\\n" ++ (stock_text lot ++ mark_line lot.is_held lot.is_recalled))

abbrev pub lot_style : PictureLot → List ℕ
lot_style lot = codes "shape=ellipse, style=filled, fillcolor=\"" ++ (mark_colour lot.is_held lot.is_recalled
    ++ (codes "\", peripheries=" ++ decimal (borders lot.is_held lot.is_recalled)))

unfoldable pub lot_line : PictureLot → List ℕ
lot_line lot = codes "  \"lot " ++ (lot.id ++ (codes "\" [" ++ (lot_style lot ++ (codes ", label=\"" ++ (lot_label lot ++ codes "\"];\n")))))

abbrev pub batch_label : List ℕ → List ℕ
batch_label id = id ++ codes "\\nbatch"

unfoldable pub batch_line : List ℕ → List ℕ
batch_line id = codes "  \"" ++ (node_text (Batch id) ++ (codes "\" [shape=box, label=\"" ++ (batch_label id ++ codes "\"];\n")))

abbrev pub ends_text : PictureEdge → List ℕ
ends_text e = codes "\"" ++ (node_text e.from ++ (codes "\" -> \"" ++ (node_text e.to ++ codes "\"")))

unfoldable pub edge_line : PictureEdge → List ℕ
edge_line e = codes "  " ++ (ends_text e ++ (codes " [label=\"" ++ (decimal e.amount ++ (codes " " ++ (e.unit ++ codes "\"];\n")))))

-- ---- the whole

-- the lots, then the batches, then the edges, a line each
unfoldable pub dot_text : Picture → List ℕ
dot_text p = codes "digraph genealogy {\n  rankdir=LR;\n" ++ (flat_map lot_line p.lots ++ (flat_map batch_line p.batches
    ++ (flat_map edge_line p.edges ++ codes "}\n")))
