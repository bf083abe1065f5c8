-- What the lines of an input report.
use Rattle.std.specs.Prelude.{◌≡◌, ℕ, ◌+◌, ◌==◌, ◌||◌, List, [], ◌∷◌, ◌++◌, length, Bool, if◌then◌else◌, codes, decimal, Option, Some, None, option_and_then, is_some, Result, Ok, Err, ⊤, bytes_eq}
use Rattle.std.specs.Str.{is_utf8}
use Rattle.serde_json.specs.Data.{Data, Items, no_items, item}
use Rattle.serde_json.specs.Find.{get, as_array}
use Rattle.serde_json.specs.Read.{read}
use Rattle.genealogy_svg.specs.declared.reported.Reported.{Reported}
use Rattle.genealogy_svg.specs.{ReportedEdge}
use Rattle.genealogy_picture.specs.declared.answers.LineError.{LineError}
use Rattle.genealogy_picture.specs.declared.answers.LineError.TheVariants as line_error
use Rattle.genealogy_picture.specs.declared.answers.AnswerLineFault.{AnswerLineFault}
use Rattle.genealogy_picture.specs.declared.answers.AnswerLineFault.TheVariants as fault
use Rattle.genealogy_picture.specs.declared.members.ReportedNode.{ReportedNode}
use Rattle.genealogy_picture.specs.Gathering.{with_node, with_edge}
use Rattle.genealogy_picture.specs.Members.{has_members, node_of, edge_of}

-- the one, and then the other, where nothing is wrong
infixl 10 ◌>>=◌
abbrev pub ◌>>=◌ : {A B E : Type 0} → Result A E → (A → Result B E) → Result B E
Ok a >>= f = f a
Err e >>= f = Err e

-- this is reported now, or else this is wrong; nothing is said where memory was refused
abbrev pub Reports : Reported → Result Unit AnswerLineFault → Result Reported LineError → Type 0
Reports now (Ok u) r = r ≡ Ok now
Reports now (Err (fault.Reported w)) r = r ≡ Err w
Reports now (Err fault.Memory) r = ⊤

abbrev pub line_error_text : LineError → List ℕ
line_error_text line_error.NoJson = codes "not a JSON text"
line_error_text line_error.Refused = codes "the desk refused the question"
line_error_text line_error.NoAnswer = codes "not an answer with edges and nodes, and these alone"
line_error_text (line_error.Node number) = codes "nodes " ++ (decimal number ++ codes ": neither a lot with def, held, lot, recalled, stock and unit nor a batch")
line_error_text (line_error.Edge number) = codes "edges " ++ (decimal number ++ codes ": not an amount with from and to, each a lot or a batch")

-- ---- nodes and edges, which are counted

abbrev pub node_where : Reported → ℕ → Option ReportedNode → Result Reported LineError
node_where t number None = Err (line_error.Node number)
node_where t number (Some node) = Ok (with_node t node)

abbrev pub node_into : Reported → ℕ → Data → Result Reported LineError
node_into t number d = node_where t number (node_of d)

abbrev pub nodes_into : Reported → ℕ → Items → Result Reported LineError
nodes_into t number no_items = Ok t
nodes_into t number (item d ds) = node_into t number d >>= (λ now. nodes_into now (number + 1) ds)

abbrev pub edge_where : Reported → ℕ → Option ReportedEdge → Result Reported LineError
edge_where t number None = Err (line_error.Edge number)
edge_where t number (Some edge) = Ok (with_edge t edge)

abbrev pub edge_into : Reported → ℕ → Data → Result Reported LineError
edge_into t number d = edge_where t number (edge_of d)

abbrev pub edges_into : Reported → ℕ → Items → Result Reported LineError
edges_into t number no_items = Ok t
edges_into t number (item d ds) = edge_into t number d >>= (λ now. edges_into now (number + 1) ds)

-- ---- answers

abbrev pub list_at : List ℕ → Data → Option Items
list_at name d = option_and_then as_array (get name d)

abbrev pub parts_with : Reported → Option Items → Option Items → Result Reported LineError
parts_with t (Some nodes) (Some edges) = nodes_into t 1 nodes >>= (λ now. edges_into now 1 edges)
parts_with t _ _ = Err line_error.NoAnswer

abbrev pub parts_into : Reported → Data → Result Reported LineError
parts_into t d = parts_with t (list_at (codes "nodes") d) (list_at (codes "edges") d)

abbrev pub answer_into : Reported → Data → Result Reported LineError
answer_into t d =
    if is_some (get (codes "refused") d) then Err line_error.Refused else (
    if has_members 2 d then parts_into t d else
    Err line_error.NoAnswer)

abbrev pub text_into : Reported → Option Data → Result Reported LineError
text_into t None = Err line_error.NoJson
text_into t (Some d) = answer_into t d

-- nothing, or a CR alone
abbrev pub is_blank : List ℕ → Bool
is_blank line = length line == 0 || bytes_eq line (13 ∷ [])

-- a blank line reports nothing, and any other has to be an answer
unfoldable pub line_into : Reported → List ℕ → Result Reported LineError
line_into t line = if is_blank line then Ok t else text_into t (if is_utf8 line then read line else None)
