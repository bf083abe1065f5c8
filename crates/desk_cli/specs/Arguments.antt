-- The arguments of the subcommands, and the message of one whose value breaks its rule.
use Rattle.std.specs.Prelude.{ℕ, List, ◌++◌, codes}
use Rattle.desk_cli.specs.declared.argument.Argument.{Argument}
use Rattle.desk_cli.specs.declared.argument.Argument.TheVariants as argument

-- the name under which clap has it
abbrev pub name_of : Argument → List ℕ
name_of argument.Word = codes "word"
name_of argument.File = codes "file"
name_of argument.At = codes "at"
name_of argument.By = codes "by"
name_of argument.Reference = codes "ref"
name_of argument.Direction = codes "direction"
name_of argument.Lot = codes "lot"
name_of argument.Batch = codes "batch"
name_of argument.Port = codes "port"
name_of argument.Count = codes "count"
name_of argument.Host = codes "host"
name_of argument.Ahead = codes "ahead"
name_of argument.OperatorField = codes "operator-field"
name_of argument.Name = codes "name"
name_of argument.Language = codes "language"

abbrev pub rule_text : Argument → List ℕ
rule_text argument.Word = codes "the word is one of init, run, import, trace, record, verify and serve"
rule_text argument.File = codes "FILE is the name of a file"
rule_text argument.At = codes "N of --at is a whole number from 0 to 253402300799"
rule_text argument.By = codes "TEXT of --by is at most 60 characters from the space to ~"
rule_text argument.Reference = codes "ID of --ref is 1 to 24 of A to Z, 0 to 9 and -, the first a letter"
rule_text argument.Direction = codes "DIRECTION is back or forward"
rule_text argument.Lot = codes "LOT is 1 to 24 of A to Z, 0 to 9 and -, the first a letter"
rule_text argument.Batch = codes "BATCH is 1 to 24 of A to Z, 0 to 9 and -, the first a letter"
rule_text argument.Port = codes "PORT is a whole number from 1 to 65535"
rule_text argument.Count = codes "COUNT is a whole number from 1 to 1000000"
rule_text argument.Host = codes "NAME of --host is 1 to 60 of a to z, 0 to 9, - and ., the first no - and no .; 8 of them at most, and only with --page"
rule_text argument.Ahead = codes "SECONDS of --ahead is a whole number from 0 to 1000000"
rule_text argument.OperatorField = codes "NAME of --operator-field is 1 to 60 of A to Z, a to z, 0 to 9 and -"
rule_text argument.Name = codes "TEXT of --name is 1 to 60 characters from the space to ~"
rule_text argument.Language = codes "LANGUAGE of --language is en or de"

-- the lines that refuse arguments with such a value
abbrev pub refusal_text : Argument → List ℕ
refusal_text a = codes "error: " ++ rule_text a ++ codes "\n\nFor more information, try '--help'.\n"
