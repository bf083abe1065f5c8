-- The command lines of the programs that check a file.
use Rattle.std.specs.Prelude.{codes, Some, true}
use Rattle.clap.specs.declared.builder.action.ArgAction.TheVariants.{SetTrue}
use Rattle.clap.specs.Words.{App, Rule, Text, new_app, new_rule, with_rule}

-- the name of a file, which may be left out
abbrev pub checked_rule : Rule
checked_rule = record (new_rule (codes "file")) { value_names = 1 }

-- a program of this name that has a version
abbrev pub versioned_app : Text → App
versioned_app name =
    let plain = new_app name in
    record plain { top = record plain.top { has_version = true } }

-- one that takes a file as well
abbrev pub check_app : Text → App
check_app name = with_rule (versioned_app name) checked_rule

-- the one that checks an order file
abbrev pub order_check_app : App
order_check_app = check_app (codes "order_check")

-- whether the schema of lines is printed
abbrev pub schema_rule : Rule
schema_rule = record (new_rule (codes "schema")) {
  long = Some (codes "schema");
  action = Some SetTrue;
}

-- the one that checks lines
abbrev pub line_check_app : App
line_check_app = with_rule (check_app (codes "line_check")) schema_rule
