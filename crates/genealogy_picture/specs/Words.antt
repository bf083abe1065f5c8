-- The command line of the program, and what its arguments mean.
use Rattle.std.specs.Prelude.{ℕ, List, Option, codes, true, Some, None, if◌then◌else◌}
use Rattle.clap.specs.declared.builder.action.ArgAction.TheVariants.{SetTrue}
use Rattle.clap.specs.Words.{App, Row, Rule, Text, first_of, new_app, new_rule, with_rule}
use Rattle.desk_cli.specs.{is_set}
use Rattle.plant_trace.specs.{Node}
use Rattle.plant_trace.specs.declared.node.Node.TheVariants.{Lot, Batch}
use Rattle.genealogy_picture.specs.declared.words.Asked.{Asked}
use Rattle.genealogy_picture.specs.declared.words.Asked.TheVariants as asked
use Rattle.genealogy_picture.specs.declared.words.Format.{Format}
use Rattle.genealogy_picture.specs.declared.words.Format.TheVariants.{Dot, Svg}

-- the name of a file, which may be left out
abbrev pub file_rule : Rule
file_rule = record (new_rule (codes "file")) { value_names = 1 }

abbrev pub flag_rule : Text → Rule
flag_rule name = record (new_rule name) {
  long = Some name;
  action = Some SetTrue;
}

-- an id that may be given under a name
abbrev pub id_rule : Text → Rule
id_rule name = record (new_rule name) {
  long = Some name;
  value_names = 1;
}

abbrev pub bare_app : App
bare_app =
    let plain = new_app (codes "genealogy_picture") in
    record plain { top = record plain.top { has_version = true } }

-- the ids of nodes, and the flags of formats
abbrev pub with_nodes : App → App
with_nodes app = with_rule (with_rule app (id_rule (codes "lot"))) (id_rule (codes "batch"))

abbrev pub with_formats : App → App
with_formats app = with_rule (with_rule app (flag_rule (codes "dot"))) (flag_rule (codes "svg"))

-- a program that has a version and takes a file, two ids and two flags
abbrev pub picture_app : App
picture_app = with_formats (with_nodes (with_rule bare_app file_rule))

-- DOT where it is asked for, else SVG
abbrev pub format_of : List Row → Format
format_of rows = if is_set (first_of (codes "dot") rows) then Dot else Svg

-- the node of a kind with the id that is given, else another
abbrev pub of_kind : (List ℕ → Node) → Option Text → Option Node → Option Node
of_kind kind None other = other
of_kind kind (Some id) other = Some (kind id)

-- the node that is named: the lot, where one is, else the batch
abbrev pub node_asked : List Row → Option Node
node_asked rows = of_kind Lot (first_of (codes "lot") rows) (of_kind Batch (first_of (codes "batch") rows) None)

-- the node that a value means
abbrev pub names : Asked → Option Node
names asked.Nothing = None
names (asked.Lot id) = Some (Lot id.now)
names (asked.Batch id) = Some (Batch id.now)
