-- The command line of the program that checks a desk's file.
use Rattle.std.specs.Prelude.{◌≡◌, ◌⊎◌, ℕ, List, codes, Option, Some, None, string_bytes}
use Rattle.clap.specs.declared.builder.action.ArgAction.TheVariants.{SetTrue}
use Rattle.clap.specs.Words.{App, Rule, Text, fault_of, first_of, matches_of, new_rule, with_rule}
use Rattle.desk_cli.specs.Arguments.{refusal_text}
use Rattle.desk_cli.specs.Checking.{versioned_app}
use Rattle.desk_cli.specs.CommandLine.{file_rule}
use Rattle.desk_cli.specs.Meaning.{IsRefusalOf}
use Rattle.desk_cli.specs.declared.argument.Argument.TheVariants as argument
use Rattle.desk_cli.specs.declared.meaning.WordsFault.{WordsFault}
use Rattle.desk_cli.specs.declared.meaning.WordsFault.TheVariants.{Usage}

-- whether one JSON object is written
abbrev pub json_rule : Rule
json_rule = record (new_rule (codes "json")) {
  long = Some (codes "json");
  action = Some SetTrue;
}

-- whether a megabyte is written next to the file
abbrev pub room_rule : Rule
room_rule = record (new_rule (codes "room")) {
  long = Some (codes "room");
  action = Some SetTrue;
}

-- a program that has a version and takes a file, which has to be there, and these
abbrev pub desk_check_app : App
desk_check_app = with_rule (with_rule (with_rule (versioned_app (codes "desk_check")) file_rule) json_rule) room_rule

-- the values that are given for an argument
abbrev pub given : List Text → Text → Option Text
given words id = first_of id (matches_of desk_check_app words)

-- clap takes the arguments, and they give no file: this says so
abbrev pub LacksFile : List Text → List ℕ → Type 0
LacksFile words reported = (given words (codes "file") ≡ None) × (reported ≡ refusal_text argument.File)

-- the arguments are refused by this fault as clap refuses them, or since they give no file
abbrev pub IsUnchecked : List Text → WordsFault → Type 0
IsUnchecked words (Usage text) = IsRefusalOf (fault_of desk_check_app words) (Usage text) ⊎ LacksFile words (string_bytes text)
IsUnchecked words fault = IsRefusalOf (fault_of desk_check_app words) fault
