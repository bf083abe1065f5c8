-- What the arguments of the command line mean.
use Rattle.std.specs.Prelude.{◌≡◌, ◌⊎◌, ℕ, ◌&&◌, nat_le, Bool, true, false, List, [], length, codes, Option, Some, None, is_some, Result, Ok, Err, ok_or, option_and_then, if◌then◌else◌, string_bytes, bytes_eq}
use Rattle.std.specs.List.{list_any}
use Rattle.std.specs.Str.{all_ascii_digits}
use Rattle.std.specs.Str.Parse.{digits_value, without_leading_plus}
use Rattle.clap.specs.Words.{Kinds, Row, Text, all_of, fault_of, first_of, subcommand_of}
use Rattle.clap.specs.declared.error.kind.ErrorKind.{ErrorKind}
use Rattle.clap.specs.declared.error.kind.ErrorKind.TheVariants as kind
use Rattle.plant_base.specs.{greatest_moment, is_id, is_text, only}
use Rattle.plant_trace.specs.{Direction}
use Rattle.plant_trace.specs.declared.direction.Direction.TheVariants.{Back, Forward}
use Rattle.desk_cli.specs.Arguments.{name_of, refusal_text}
use Rattle.desk_cli.specs.CommandLine.{the_program, greatest_ahead, greatest_port, most_connections}
use Rattle.desk_cli.specs.FieldNames.{is_field_name, is_language, is_shown_name}
use Rattle.desk_cli.specs.Hosts.{hosts_of, hosts_of_names}
use Rattle.desk_cli.specs.declared.hosts.Hosts.{Hosts}
use Rattle.desk_cli.specs.declared.argument.Argument.{Argument}
use Rattle.desk_cli.specs.declared.argument.Argument.TheVariants as argument
use Rattle.desk_cli.specs.declared.meaning.Words.{Words}
use Rattle.desk_cli.specs.declared.meaning.Work.{Work}
use Rattle.desk_cli.specs.declared.meaning.Work.TheVariants as work
use Rattle.desk_cli.specs.declared.meaning.Task.{Task}
use Rattle.desk_cli.specs.declared.meaning.Task.TheVariants as task
use Rattle.desk_cli.specs.declared.meaning.Serving.{Serving}
use Rattle.desk_cli.specs.declared.meaning.WordsFault.{WordsFault}
use Rattle.desk_cli.specs.declared.meaning.WordsFault.TheVariants.{Usage, Help, Memory}

-- the name of a file, and what is done over it
abbrev pub Meant : Type 0
Meant = Text × Work

abbrev pub words_meant : Words → Meant
words_meant words = (words.file.now, words.work)

-- the one, and then the other, where no value breaks its rule
infixl 10 ◌>>=◌
abbrev pub ◌>>=◌ : {A B E : Type 0} → Result A E → (A → Result B E) → Result B E
Ok a >>= f = f a
Err e >>= f = Err e

abbrev pub all_meant : Result Words Argument → Result Meant Argument
all_meant read = read >>= λ words. Ok (words_meant words)

-- ---- values

-- one digit or more, and nothing else
abbrev pub is_numeral : Text → Bool
is_numeral text = nat_le 1 (length text) && all_ascii_digits text

-- the number that a text spells, with or without a plus before it, where it is one of these
unfoldable pub number_in : ℕ → ℕ → Text → Option ℕ
number_in least greatest text =
    if is_numeral (without_leading_plus text)
    then only (λ number. nat_le least number && nat_le number greatest) (digits_value 10 (without_leading_plus text))
    else None

abbrev pub direction_of : Text → Option Direction
direction_of text = if bytes_eq text (codes "back") then Some Back
    else (if bytes_eq text (codes "forward") then Some Forward else None)

-- ---- arguments: what each is, or the first whose value breaks its rule

abbrev pub value_in : {A : Type 0} → Argument → (Text → Option A) → List Row → Result A Argument
value_in a read rows = ok_or (option_and_then read (first_of (name_of a) rows)) a

-- a value that may be left out
abbrev pub if_named : {A : Type 0} → Argument → (Text → Option A) → Option Text → Result (Option A) Argument
if_named a read None = Ok None
if_named a read (Some text) = ok_or (read text) a >>= λ found. Ok (Some found)

abbrev pub import_in : List Row → Result Task Argument
import_in rows = do
  at ← value_in argument.At (number_in 0 greatest_moment) rows
  by ← value_in argument.By (only is_text) rows
  reference ← if_named argument.Reference (only is_id) (first_of (codes "ref") rows)
  Ok (task.Import at by reference)

abbrev pub trace_in : List Row → Result Task Argument
trace_in rows = do
  direction ← value_in argument.Direction direction_of rows
  lot ← value_in argument.Lot (only is_id) rows
  Ok (task.Trace direction lot)

abbrev pub record_in : List Row → Result Task Argument
record_in rows = do
  batch ← value_in argument.Batch (only is_id) rows
  Ok (task.Record batch)

-- a flag that is given
abbrev pub is_set : Option Text → Bool
is_set None = false
is_set (Some text) = bytes_eq text (codes "true")

-- the names of hosts that are given, none where none is
abbrev pub hosts_given : Option (List Text) → Result Hosts Argument
hosts_given None = Ok (hosts_of_names [])
hosts_given (Some texts) = ok_or (hosts_of texts) argument.Host

-- no name is given
abbrev pub no_hosts_given : Option (List Text) → Result (Option Hosts) Argument
no_hosts_given None = Ok None
no_hosts_given (Some texts) = Err argument.Host

-- whether the page is served, and under which further names: these are given with the page alone
abbrev pub page_in : List Row → Result (Option Hosts) Argument
page_in rows =
    if is_set (first_of (codes "page") rows) then (hosts_given (all_of (codes "host") rows) >>= λ hosts. Ok (Some hosts))
    else no_hosts_given (all_of (codes "host") rows)

-- By how many seconds a command may be ahead of the machine's clock: as many as are said, which 0 leaves open, and where nothing is said
-- 300 with the page, and else any.
abbrev pub most_ahead_of : Bool → Option ℕ → Option ℕ
most_ahead_of with_page None = if with_page then Some 300 else None
most_ahead_of with_page (Some seconds) = only (nat_le 1) seconds

abbrev pub serving_in : List Row → Result Serving Argument
serving_in rows = do
  port ← value_in argument.Port (number_in 1 greatest_port) rows
  count ← value_in argument.Count (number_in 1 most_connections) rows
  page ← page_in rows
  ahead ← if_named argument.Ahead (number_in 0 greatest_ahead) (first_of (codes "ahead") rows)
  operator_field ← if_named argument.OperatorField (only is_field_name) (first_of (codes "operator-field") rows)
  name ← if_named argument.Name (only is_shown_name) (first_of (codes "name") rows)
  language ← if_named argument.Language (only is_language) (first_of (codes "language") rows)
  Ok (record {
    port = port;
    count = count;
    is_logged = is_set (first_of (codes "log") rows);
    page = page;
    most_ahead = most_ahead_of (is_some page) ahead;
    needs_references = is_set (first_of (codes "references") rows);
    operator_field = operator_field;
    name = name;
    language = language;
  })

-- ---- subcommands

abbrev pub task_work : Result Task Argument → Result Work Argument
task_work read = read >>= λ t. Ok (work.Task t)

-- the work over the file by a subcommand and its arguments
unfoldable pub work_in : Text → List Row → Result Work Argument
work_in name rows = if bytes_eq name (codes "init") then Ok (work.Task task.Init)
    else (if bytes_eq name (codes "run") then Ok (work.Task task.Run)
    else (if bytes_eq name (codes "import") then task_work (import_in rows)
    else (if bytes_eq name (codes "trace") then task_work (trace_in rows)
    else (if bytes_eq name (codes "record") then task_work (record_in rows)
    else (if bytes_eq name (codes "verify") then Ok (work.Task task.Verify)
    else (if bytes_eq name (codes "serve") then (serving_in rows >>= λ s. Ok (work.Serve s))
    else Err argument.Word))))))

-- a subcommand and its arguments
abbrev pub meant_by : Text → List Row → Result Meant Argument
meant_by name rows = do
  file ← ok_or (first_of (codes "file") rows) argument.File
  w ← work_in name rows
  Ok (file, w)

-- without arguments it is a run over memory
abbrev pub meant_in : Option (Text × List Row) → Result Meant Argument
meant_in None = Ok (codes ":memory:", work.Task task.Run)
meant_in (Some p) = meant_by p.0 p.1

-- ---- refusals

abbrev pub asks_help : ErrorKind → Bool
asks_help kind.DisplayHelp = true
asks_help kind.DisplayVersion = true
asks_help _ = false

-- a mistake in the arguments: neither a request for help or for the version nor want of memory
abbrev pub is_mistake : ErrorKind → Bool
is_mistake kind.DisplayHelp = false
is_mistake kind.DisplayVersion = false
is_mistake kind.OutOfMemory = false
is_mistake _ = true

-- one of the kinds is a mistake in the arguments
abbrev pub has_mistake : Kinds → Bool
has_mistake = list_any is_mistake

-- one of the kinds is a request for help or for the version
abbrev pub has_request : Kinds → Bool
has_request = list_any asks_help

-- the fault for an error of this kind
abbrev pub IsFaultOf : ErrorKind → WordsFault → Type 0
IsFaultOf k (Usage text) = is_mistake k ≡ true
IsFaultOf k (Help text) = asks_help k ≡ true
IsFaultOf k Memory = Unit {0}

-- the fault for an error of this kind, of these two, which have its text as a mistake and as help
abbrev pub fault_as : ErrorKind → WordsFault → WordsFault → WordsFault
fault_as kind.OutOfMemory usage help = Memory
fault_as kind.DisplayHelp usage help = help
fault_as kind.DisplayVersion usage help = help
fault_as _ usage help = usage

-- the fault that names the argument whose value breaks its rule, or want of memory for that
abbrev pub NamesBroken : Argument → WordsFault → Type 0
NamesBroken a (Usage text) = string_bytes text ≡ refusal_text a
NamesBroken a (Help text) = ⊥
NamesBroken a Memory = Unit {0}

-- the arguments are refused by this fault only where one of these kinds is a mistake, only where one asks for help or for the version, or for
-- want of memory
abbrev pub IsRefusalOf : Kinds → WordsFault → Type 0
IsRefusalOf ks (Usage text) = has_mistake ks ≡ true
IsRefusalOf ks (Help text) = has_request ks ≡ true
IsRefusalOf ks Memory = Unit {0}

-- clap takes the arguments, and this names the first value that breaks its rule
abbrev pub IsBroken : List Text → List ℕ → Type 0
IsBroken words reported = (a : Argument) × (meant_in (subcommand_of the_program words) ≡ Err a) × (reported ≡ refusal_text a)

-- the arguments are refused by this fault as clap refuses them, or since it names a value that breaks its rule
abbrev pub IsRefusedBy : List Text → WordsFault → Type 0
IsRefusedBy words (Usage text) = IsRefusalOf (fault_of the_program words) (Usage text) ⊎ IsBroken words (string_bytes text)
IsRefusedBy words fault = IsRefusalOf (fault_of the_program words) fault
