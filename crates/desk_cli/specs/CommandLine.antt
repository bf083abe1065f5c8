-- The command line of the program, as a value.
use Rattle.std.specs.Prelude.{◌≡◌, ℕ, true, false, [], ◌∷◌, Some, codes, pos}
use Rattle.clap.specs.declared.builder.command.Command.{Command}
use Rattle.clap.specs.declared.builder.command.Command.TheViews.{out-Command}
use Rattle.clap.specs.declared.builder.action.ArgAction.TheVariants.{Append, SetTrue}
use Rattle.clap.specs.declared.builder.value_parser.ValueParser.{ValueParser}
use Rattle.clap.specs.declared.builder.value_parser.ValueParser.TheVariants as parser
use Rattle.clap.specs.Words.{App, Rule, Text, new_app, new_rule, with_rule, with_subcommand}
use Rattle.plant_base.specs.{greatest_moment}

abbrev pub greatest_port : ℕ
greatest_port = 65535

-- the most connections that are served
abbrev pub most_connections : ℕ
most_connections = 1000000

-- the most seconds that can be said of a command that is ahead
abbrev pub greatest_ahead : ℕ
greatest_ahead = 1000000

-- ---- arguments

-- an argument that has to be there
abbrev pub required_rule : Text → Rule
required_rule id = record (new_rule id) { required = true; value_names = 1 }

-- a number that has to be there
abbrev pub number_rule : Text → ValueParser → Rule
number_rule id p = record (required_rule id) { parser = Some p }

-- the name of a file
abbrev pub file_rule : Rule
file_rule = required_rule (codes "file")

-- when the orders came
abbrev pub at_rule : Rule
at_rule = record (number_rule (codes "at") (parser.Unsigned 0 greatest_moment)) { long = Some (codes "at") }

-- who brought them: the desk, where nobody is named
abbrev pub by_rule : Rule
by_rule = record (new_rule (codes "by")) {
  long = Some (codes "by");
  value_names = 1;
  defaults = codes "desk" ∷ [];
}

-- the reference of an import, which may be left out
abbrev pub reference_rule : Rule
reference_rule = record (new_rule (codes "ref")) {
  long = Some (codes "ref");
  value_names = 1;
}

abbrev pub port_rule : Rule
port_rule = number_rule (codes "port") (parser.Signed (pos 1) (pos greatest_port))

abbrev pub count_rule : Rule
count_rule = number_rule (codes "count") (parser.Signed (pos 1) (pos most_connections))

-- whether requests are noted
abbrev pub log_rule : Rule
log_rule = record (new_rule (codes "log")) {
  long = Some (codes "log");
  action = Some SetTrue;
}

-- whether the page is served
abbrev pub page_rule : Rule
page_rule = record (new_rule (codes "page")) {
  long = Some (codes "page");
  action = Some SetTrue;
}

-- a further name of a host, which may be given again and again
abbrev pub host_rule : Rule
host_rule = record (new_rule (codes "host")) {
  long = Some (codes "host");
  action = Some Append;
  value_names = 1;
}

-- by how many seconds a command may be ahead of the machine's clock
abbrev pub ahead_rule : Rule
ahead_rule = record (new_rule (codes "ahead")) {
  long = Some (codes "ahead");
  value_names = 1;
  parser = Some (parser.Signed (pos 0) (pos greatest_ahead));
}

-- whether a command has to have a reference
abbrev pub references_rule : Rule
references_rule = record (new_rule (codes "references")) {
  long = Some (codes "references");
  action = Some SetTrue;
}

-- the field of a head that says whose commands a request may bring
abbrev pub operator_field_rule : Rule
operator_field_rule = record (new_rule (codes "operator-field")) {
  long = Some (codes "operator-field");
  value_names = 1;
}

-- the name that the page shows
abbrev pub name_rule : Rule
name_rule = record (new_rule (codes "name")) {
  long = Some (codes "name");
  value_names = 1;
}

-- the language of the page
abbrev pub language_rule : Rule
language_rule = record (new_rule (codes "language")) {
  long = Some (codes "language");
  value_names = 1;
}

-- ---- subcommands

-- a subcommand that takes a file
abbrev pub word_app : Text → App
word_app name = with_rule (new_app name) file_rule

abbrev pub import_app : App
import_app = with_rule (with_rule (with_rule (word_app (codes "import")) at_rule) by_rule) reference_rule

abbrev pub trace_app : App
trace_app = with_rule (with_rule (word_app (codes "trace")) (required_rule (codes "direction"))) (required_rule (codes "lot"))

abbrev pub record_app : App
record_app = with_rule (word_app (codes "record")) (required_rule (codes "batch"))

-- a port that is served, and how many connections
abbrev pub port_app : App
port_app = with_rule (with_rule (with_rule (word_app (codes "serve")) port_rule) count_rule) log_rule

-- the same with the arguments about the web page and the clock
abbrev pub page_app : App
page_app = with_rule (with_rule (with_rule port_app page_rule) host_rule) ahead_rule

-- the same with the arguments about commands
abbrev pub commands_app : App
commands_app = with_rule (with_rule page_app references_rule) operator_field_rule

abbrev pub serve_app : App
serve_app = with_rule (with_rule commands_app name_rule) language_rule

-- the program's name alone: the subcommand `help` has no meaning of its own
abbrev pub bare_program : App
bare_program =
    let plain = new_app (codes "desk") in
    record plain { top = record plain.top { disable_help_subcommand = true; has_version = true } }

-- the subcommands that take commands in
abbrev pub with_taking : App → App
with_taking program = with_subcommand (with_subcommand (with_subcommand program
    (word_app (codes "init")).top)
    (word_app (codes "run")).top)
    import_app.top

-- the subcommands that report on a desk
abbrev pub with_report_words : App → App
with_report_words program = with_subcommand (with_subcommand (with_subcommand program
    trace_app.top)
    record_app.top)
    (word_app (codes "verify")).top

abbrev pub the_program : App
the_program = with_subcommand (with_report_words (with_taking bare_program)) serve_app.top

-- no argument of the command is global
abbrev pub IsLocal : Command → Type 0
IsLocal c = (out-Command c).has_globals ≡ false
