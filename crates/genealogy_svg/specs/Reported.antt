-- What is wrong with what is reported, in words. Ids are of A to Z, 0 to 9 and `-`, so none of them needs a mark around it.
use Rattle.std.specs.Prelude.{ℕ, List, ◌++◌, codes}
use Rattle.plant_trace.specs.{node_text}
use Rattle.genealogy_svg.specs.declared.reported.GraphError.{GraphError}
use Rattle.genealogy_svg.specs.declared.reported.GraphError.TheVariants as graph_error

abbrev pub graph_error_text : GraphError → List ℕ
graph_error_text (graph_error.Lot id) = codes "lot " ++ (id ++ codes " is told twice, and not alike")
graph_error_text (graph_error.Amounts from to) = codes "the edge from " ++ (node_text from ++ (codes " to " ++ (node_text to ++ codes " is told twice, with two amounts")))
graph_error_text (graph_error.Lost node) = codes "an edge begins or ends at " ++ (node_text node ++ codes ", which is none of the nodes")
graph_error_text (graph_error.Batches from to) = codes "an edge leads from batch " ++ (from ++ (codes " to batch " ++ to))
