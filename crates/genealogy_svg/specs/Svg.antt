-- A drawing in SVG, which a browser shows. Its texts are made of ids, units and numbers, none of which has a mark of XML (`<`, `&` or a quotation
-- mark), so nothing in them has to be escaped.
use Rattle.std.specs.Prelude.{ℕ, ◌+◌, ◌-◌, ◌*◌, max, ◌==◌, Bool, true, false, List, [], ◌++◌, length, Option, Some, None, is_none, if◌then◌else◌, codes, decimal, flat_map, fold}
use Rattle.std.specs.List.{list_any}
use Rattle.genealogy_svg.specs.Dot.{mark_colour, mark_name, stock_text}
use Rattle.genealogy_svg.specs.declared.model.PictureLot.{PictureLot}
use Rattle.genealogy_svg.specs.declared.drawing.Drawing.{Drawing}
use Rattle.genealogy_svg.specs.declared.drawing.DrawnBatch.{DrawnBatch}
use Rattle.genealogy_svg.specs.declared.drawing.DrawnEdge.{DrawnEdge}
use Rattle.genealogy_svg.specs.declared.drawing.DrawnLot.{DrawnLot}
use Rattle.genealogy_svg.specs.declared.drawing.BoxPosition.{BoxPosition}
use Rattle.plant_trace.specs.{node_eq, node_text, Node}
use Rattle.plant_trace.specs.declared.node.Node.TheVariants.{Lot, Batch}

-- ---- where a box is: it is 180 wide and 56 high, and before each column is a gap of 260, which has the amounts

abbrev pub left_of : BoxPosition → ℕ
left_of p = 20 + 440 * p.layer

abbrev pub top_of : BoxPosition → ℕ
top_of p = 60 + 80 * p.slot

abbrev pub middle_of : BoxPosition → ℕ
middle_of p = left_of p + 90

-- how far down the line of an amount of a row is
abbrev pub row_line : ℕ → ℕ
row_line row = 72 + 16 * row

-- ---- edges: from the right side of one box to the left side of the other, where an arrow ends. An edge with an amount is level below it.

-- the attributes of a point
abbrev pub point : ℕ → ℕ → List ℕ
point x y = codes " x=\"" ++ (decimal x ++ (codes "\" y=\"" ++ (decimal y ++ codes "\"")))

-- a point on the way of a line
abbrev pub way_point : ℕ → ℕ → List ℕ
way_point x y = decimal x ++ (codes " " ++ decimal y)

-- the level part, below the amount of a row
abbrev pub level : BoxPosition → Option ℕ → List ℕ
level to None = []
level to (Some row) = codes "L" ++ (way_point (left_of to - 230) (row_line row) ++ (codes "H" ++ decimal (left_of to - 30)))

unfoldable pub edge_line : DrawnEdge → List ℕ
edge_line e = codes "<path d=\"M" ++ (way_point (left_of e.from + 180) (top_of e.from + 28) ++ (level e.to e.row
    ++ (codes "L" ++ (way_point (left_of e.to) (top_of e.to + 28) ++ codes "\"/>\n"))))

-- an amount in the middle of the gap, above the level part of its line
abbrev pub amount_text : DrawnEdge → ℕ → List ℕ
amount_text e row = codes "<text" ++ (point (left_of e.to - 130) (row_line row - 4) ++ (codes ">" ++ (decimal e.amount ++ (codes " " ++ (e.unit ++ codes "</text>\n")))))

abbrev pub amount_in : DrawnEdge → Option ℕ → List ℕ
amount_in e None = []
amount_in e (Some row) = amount_text e row

unfoldable pub edge_amount : DrawnEdge → List ℕ
edge_amount e = amount_in e e.row

-- ---- boxes

-- a line of a box
abbrev pub box_text : BoxPosition → ℕ → List ℕ → List ℕ
box_text p below text = codes "<text" ++ (point (middle_of p) (top_of p + below) ++ (codes ">" ++ (text ++ codes "</text>")))

-- the border of a box: that of the node that was asked for is thick
abbrev pub border : Bool → List ℕ
border false = codes "\" stroke=\"#333333\"/>"
border true = codes "\" stroke=\"#0b5fa5\" stroke-width=\"4\"/>"

-- the outline of a box, with corners that are so round
abbrev pub outline : BoxPosition → ℕ → List ℕ → Bool → List ℕ
outline p round colour is_asked = codes "<rect" ++ (point (left_of p) (top_of p) ++ (codes " width=\"180\" height=\"56\" rx=\"" ++ (decimal round
    ++ (codes "\" fill=\"" ++ (colour ++ border is_asked)))))

-- nothing where the text is empty
abbrev pub unless_empty : List ℕ → List ℕ → List ℕ
unless_empty text shown = if length text == 0 then [] else shown

abbrev pub lot_mark : PictureLot → List ℕ
lot_mark lot = mark_name lot.is_held lot.is_recalled

abbrev pub mark_end : PictureLot → List ℕ
mark_end lot = unless_empty (lot_mark lot) (codes ", " ++ lot_mark lot)

-- what a browser shows of a lot where the pointer rests on it
abbrev pub lot_title : PictureLot → List ℕ
lot_title lot = codes "<title>lot " ++ (lot.id ++ (codes ", " ++ (stock_text lot ++ (mark_end lot ++ codes "</title>"))))

abbrev pub mark_text : DrawnLot → List ℕ
mark_text l = unless_empty (lot_mark l.lot) (box_text l.position 50 (lot_mark l.lot))

abbrev pub lot_texts : DrawnLot → List ℕ
lot_texts l = box_text l.position 18 l.lot.id ++ (box_text l.position 34 (stock_text l.lot) ++ mark_text l)

-- the node is the one that was asked for
abbrev pub is_asked : Option Node → Node → Bool
is_asked None node = false
is_asked (Some asked) node = node_eq asked node

unfoldable pub lot_box : Option Node → DrawnLot → List ℕ
lot_box asked l = codes "<g>" ++ (lot_title l.lot ++ (outline l.position 14 (mark_colour l.lot.is_held l.lot.is_recalled) (is_asked asked (Lot l.lot.id))
    ++ (lot_texts l ++ codes "</g>\n")))

abbrev pub batch_title : List ℕ → List ℕ
batch_title id = codes "<title>batch " ++ (id ++ codes "</title>")

abbrev pub batch_texts : DrawnBatch → List ℕ
batch_texts b = box_text b.position 26 b.batch ++ box_text b.position 42 (codes "batch")

-- what a batch is filled with
unfoldable pub batch_colour : List ℕ
batch_colour = codes "#e7f1ff"

unfoldable pub batch_box : Option Node → DrawnBatch → List ℕ
batch_box asked b = codes "<g>" ++ (batch_title b.batch ++ (outline b.position 0 batch_colour (is_asked asked (Batch b.batch)) ++ (batch_texts b ++ codes "</g>\n")))

-- ---- the whole

abbrev pub right_end : BoxPosition → ℕ
right_end p = left_of p + 200

abbrev pub lower_end : BoxPosition → ℕ
lower_end p = top_of p + 76

-- how far down the line of an edge goes
abbrev pub row_end : Option ℕ → ℕ
row_end None = 0
row_end (Some row) = row_line row + 20

abbrev pub edge_end : DrawnEdge → ℕ
edge_end e = row_end e.row

-- the greatest of the ends, at least that
abbrev pub greatest : {A : Type 0} → (A → ℕ) → ℕ → List A → ℕ
greatest end least xs = fold (λ most x. max most (end x)) least xs

abbrev pub width_of : Drawing → ℕ
width_of d = greatest (λ (b : DrawnBatch). right_end b.position) (greatest (λ (l : DrawnLot). right_end l.position) 480 d.lots) d.batches

abbrev pub boxes_end : Drawing → ℕ
boxes_end d = greatest (λ (b : DrawnBatch). lower_end b.position) (greatest (λ (l : DrawnLot). lower_end l.position) 136 d.lots) d.batches

abbrev pub height_of : Drawing → ℕ
height_of d = greatest edge_end (boxes_end d) d.edges

abbrev pub size : ℕ → ℕ → List ℕ
size width height = codes " width=\"" ++ (decimal width ++ (codes "\" height=\"" ++ (decimal height ++ codes "\"")))

unfoldable pub head : ℕ → ℕ → List ℕ
head width height = codes "<svg xmlns=\"http://www.w3.org/2000/svg\"" ++ (size width height ++ (codes " viewBox=\"0 0 " ++ (decimal width
    ++ (codes " " ++ (decimal height ++ codes "\" font-family=\"sans-serif\" font-size=\"12\" text-anchor=\"middle\">\n")))))

-- what the picture is of
abbrev pub heading : Option Node → List ℕ
heading None = codes "genealogy"
heading (Some asked) = codes "genealogy of " ++ node_text asked

-- the whole is white, and has its heading at the top
unfoldable pub ground : Option Node → ℕ → ℕ → List ℕ
ground asked width height = codes "<title>" ++ (heading asked ++ (codes "</title>\n<rect" ++ (size width height
    ++ (codes " fill=\"#ffffff\"/>\n<text x=\"20\" y=\"26\" font-size=\"15\" text-anchor=\"start\">" ++ (heading asked ++ codes "</text>\n")))))

-- some amount is left out
abbrev pub leaves_out : List DrawnEdge → Bool
leaves_out edges = list_any (λ e. is_none e.row) edges

-- the drawing says so
abbrev pub note_of : Bool → List ℕ
note_of false = []
note_of true = codes "<text x=\"20\" y=\"46\" text-anchor=\"start\">Amounts are left out in a picture of more than 80 lots and batches.</text>\n"

-- the head of an arrow
abbrev pub arrow : List ℕ
arrow = codes "<defs><marker id=\"arrow\" viewBox=\"0 0 10 10\" refX=\"10\" refY=\"5\" markerWidth=\"9\" markerHeight=\"9\" orient=\"auto\"><path d=\"M0 1L10 5L0 9z\" fill=\"#666666\"/></marker></defs>\n"

-- lines lie below the amounts, and both below the boxes
unfoldable pub edge_texts : List DrawnEdge → List ℕ
edge_texts edges = arrow ++ (codes "<g fill=\"none\" stroke=\"#888888\" marker-end=\"url(#arrow)\">\n" ++ (flat_map edge_line edges
    ++ (codes "</g>\n<g stroke=\"#ffffff\" stroke-width=\"3\" paint-order=\"stroke\">\n" ++ (flat_map edge_amount edges ++ codes "</g>\n"))))

unfoldable pub svg_text : Option Node → Drawing → List ℕ
svg_text asked d = head (width_of d) (height_of d) ++ (ground asked (width_of d) (height_of d) ++ (note_of (leaves_out d.edges) ++ (edge_texts d.edges
    ++ (flat_map (lot_box asked) d.lots ++ (flat_map (batch_box asked) d.batches ++ codes "</svg>\n")))))
