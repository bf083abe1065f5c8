-- What plain arguments mean, whatever the program, the file and the batch are called.
use Rattle.std.specs.Prelude.{◌≡◌, ◌==◌, ◌||◌, Bool, true, false, List, [], ◌∷◌, codes, Some, None, Ok, Err, bytes_eq}
use Rattle.clap.specs.Words.{Text, fault_of, subcommand_of}
use Rattle.clap.specs.declared.error.kind.ErrorKind.TheVariants as kind
use Rattle.plant_base.specs.{is_id}
use Rattle.plant_trace.specs.{Direction}
use Rattle.plant_trace.specs.declared.direction.Direction.TheVariants.{Back, Forward}
use Rattle.desk_cli.specs.declared.argument.Argument.{Argument}
use Rattle.desk_cli.specs.declared.argument.Argument.TheVariants as argument
use Rattle.desk_cli.specs.CommandLine.{the_program}
use Rattle.desk_cli.specs.Hosts.{hosts_of_names}
use Rattle.desk_cli.specs.Meaning.{Meant, has_mistake, meant_in}
use Rattle.desk_cli.specs.declared.meaning.Work.{Work}
use Rattle.desk_cli.specs.declared.meaning.Work.TheVariants as work
use Rattle.desk_cli.specs.declared.meaning.Task.TheVariants as task

-- the argument may be an option
abbrev pub begins_with_dash : Text → Bool
begins_with_dash [] = false
begins_with_dash (x ∷ xs) = x == 45

-- the argument is one of the seven subcommands
abbrev pub is_word : Text → Bool
is_word word = bytes_eq (codes "init") word || (bytes_eq (codes "run") word || (bytes_eq (codes "import") word
    || (bytes_eq (codes "trace") word || (bytes_eq (codes "record") word || (bytes_eq (codes "verify") word
    || bytes_eq (codes "serve") word)))))

-- the arguments are taken, and mean this
abbrev pub Mean : List Text → Meant → Type 0
Mean words meant = (fault_of the_program words ≡ []) × (meant_in (subcommand_of the_program words) ≡ Ok meant)

-- the arguments ask for help, and no mistake is in them
abbrev pub AskHelp : List Text → Type 0
AskHelp words = fault_of the_program words ≡ kind.DisplayHelp ∷ []

-- a mistake is in the arguments
abbrev pub AreWrong : List Text → Type 0
AreWrong words = has_mistake (fault_of the_program words) ≡ true

-- clap takes the arguments, and the value of this one is the first that breaks a rule of the desk
abbrev pub Break : List Text → Argument → Type 0
Break words a = meant_in (subcommand_of the_program words) ≡ Err a

-- a subcommand with a file
abbrev pub NamesFile : Text → Work → Type 0
NamesFile word w = (name file : Text) → begins_with_dash file ≡ false → Mean (name ∷ word ∷ file ∷ []) (file, w)

-- a subcommand wants one file, and no further argument
abbrev pub WantsFile : Text → Type 0
WantsFile word = ((name : Text) → AreWrong (name ∷ word ∷ []))
    × ((name file more : Text) → begins_with_dash file ≡ false → begins_with_dash more ≡ false
    → AreWrong (name ∷ word ∷ file ∷ more ∷ []))

-- a direction after a file, for one lot
abbrev pub NamesTrace : Text → Direction → Type 0
NamesTrace word direction = (name file : Text) → begins_with_dash file ≡ false
    → Mean (name ∷ codes "trace" ∷ file ∷ word ∷ codes "L-1" ∷ []) (file, work.Task (task.Trace direction (codes "L-1")))

-- subcommands that take a file alone, arguments that are none, and those that ask
pub record FileWords : Type 0 where
  -- without arguments it is a run over memory
  pub alone : (name : Text) → Mean (name ∷ []) (codes ":memory:", work.Task task.Run)
  pub init_file : NamesFile (codes "init") (work.Task task.Init)
  pub run_file : NamesFile (codes "run") (work.Task task.Run)
  pub verify_file : NamesFile (codes "verify") (work.Task task.Verify)
  pub init_wants : WantsFile (codes "init")
  pub run_wants : WantsFile (codes "run")
  pub verify_wants : WantsFile (codes "verify")
  pub help : (name : Text) → AskHelp (name ∷ codes "--help" ∷ [])
  pub short_help : (name : Text) → AskHelp (name ∷ codes "-h" ∷ [])
  pub version : (name : Text) → fault_of the_program (name ∷ codes "--version" ∷ []) ≡ kind.DisplayVersion ∷ []

-- a trace and a record
pub record ReportWords : Type 0 where
  pub trace_back : NamesTrace (codes "back") Back
  pub trace_forward : NamesTrace (codes "forward") Forward
  pub record_batch : (name file batch : Text) → begins_with_dash file ≡ false → is_id batch ≡ true
      → Mean (name ∷ codes "record" ∷ file ∷ batch ∷ []) (file, work.Task (task.Record batch))

-- an import
pub record ImportWords : Type 0 where
  -- where nobody is named, the desk brings the orders
  pub import_at : (name file : Text) → begins_with_dash file ≡ false
      → Mean (name ∷ codes "import" ∷ file ∷ codes "--at" ∷ codes "100" ∷ []) (file, work.Task (task.Import 100 (codes "desk") None))
  pub import_by : (name file : Text) → begins_with_dash file ≡ false
      → Mean (name ∷ codes "import" ∷ file ∷ codes "--at" ∷ codes "100" ∷ codes "--by" ∷ codes "anna" ∷ [])
      (file, work.Task (task.Import 100 (codes "anna") None))
  pub import_ref : (name file : Text) → begins_with_dash file ≡ false
      → Mean (name ∷ codes "import" ∷ file ∷ codes "--at" ∷ codes "100" ∷ codes "--ref" ∷ codes "R-1" ∷ [])
      (file, work.Task (task.Import 100 (codes "desk") (Some (codes "R-1"))))
  -- a reference is an id
  pub no_reference : (name file : Text) → begins_with_dash file ≡ false
      → Break (name ∷ codes "import" ∷ file ∷ codes "--at" ∷ codes "100" ∷ codes "--ref" ∷ codes "r-1" ∷ []) argument.Reference
  pub import_wants : (name file : Text) → begins_with_dash file ≡ false → AreWrong (name ∷ codes "import" ∷ file ∷ [])

-- serving
pub record ServeWords : Type 0 where
  pub serve_port : (name file : Text) → begins_with_dash file ≡ false
      → Mean (name ∷ codes "serve" ∷ file ∷ codes "8080" ∷ codes "1000" ∷ [])
      (file, work.Serve (record { port = 8080; count = 1000; is_logged = false; page = None; most_ahead = None; needs_references = false; operator_field = None; name = None; language = None }))
  -- each request is noted only where that is asked for
  pub serve_logged : (name file : Text) → begins_with_dash file ≡ false
      → Mean (name ∷ codes "serve" ∷ file ∷ codes "8080" ∷ codes "1000" ∷ codes "--log" ∷ [])
      (file, work.Serve (record { port = 8080; count = 1000; is_logged = true; page = None; most_ahead = None; needs_references = false; operator_field = None; name = None; language = None }))
  -- the page is served where that is asked for, under further names where these are given
  pub serve_page : (name file : Text) → begins_with_dash file ≡ false
      → Mean (name ∷ codes "serve" ∷ file ∷ codes "8080" ∷ codes "1000" ∷ codes "--page" ∷ [])
      (file, work.Serve (record { port = 8080; count = 1000; is_logged = false; page = Some (hosts_of_names []); most_ahead = Some 300; needs_references = false; operator_field = None; name = None; language = None }))
  pub serve_hosts : (name file : Text) → begins_with_dash file ≡ false
      → Mean (name ∷ codes "serve" ∷ file ∷ codes "8080" ∷ codes "1000" ∷ codes "--page" ∷ codes "--host" ∷ codes "a.example" ∷ codes "--host" ∷ codes "b" ∷ [])
      (file, work.Serve (record { port = 8080; count = 1000; is_logged = false; page = Some (hosts_of_names (codes "a.example" ∷ codes "b" ∷ [])); most_ahead = Some 300; needs_references = false; operator_field = None; name = None; language = None }))
  -- a command may be ahead by as many seconds as are said, and with 0 by any
  pub serve_ahead : (name file : Text) → begins_with_dash file ≡ false
      → Mean (name ∷ codes "serve" ∷ file ∷ codes "8080" ∷ codes "1000" ∷ codes "--ahead" ∷ codes "60" ∷ [])
      (file, work.Serve (record { port = 8080; count = 1000; is_logged = false; page = None; most_ahead = Some 60; needs_references = false; operator_field = None; name = None; language = None }))
  pub serve_any_ahead : (name file : Text) → begins_with_dash file ≡ false
      → Mean (name ∷ codes "serve" ∷ file ∷ codes "8080" ∷ codes "1000" ∷ codes "--page" ∷ codes "--ahead" ∷ codes "0" ∷ [])
      (file, work.Serve (record { port = 8080; count = 1000; is_logged = false; page = Some (hosts_of_names []); most_ahead = None; needs_references = false; operator_field = None; name = None; language = None }))
  -- references are needed where that is asked for, and a field says whose commands a request may bring where one is named
  pub serve_references : (name file : Text) → begins_with_dash file ≡ false
      → Mean (name ∷ codes "serve" ∷ file ∷ codes "8080" ∷ codes "1000" ∷ codes "--references" ∷ [])
      (file, work.Serve (record { port = 8080; count = 1000; is_logged = false; page = None; most_ahead = None; needs_references = true; operator_field = None; name = None; language = None }))
  pub serve_operator_field : (name file : Text) → begins_with_dash file ≡ false
      → Mean (name ∷ codes "serve" ∷ file ∷ codes "8080" ∷ codes "1000" ∷ codes "--operator-field" ∷ codes "X-Operator" ∷ [])
      (file, work.Serve (record { port = 8080; count = 1000; is_logged = false; page = None; most_ahead = None; needs_references = false; operator_field = Some (codes "X-Operator"); name = None; language = None }))
  -- the name of a field has no colon, and comes after its option
  pub field_with_colon : (name file : Text) → begins_with_dash file ≡ false
      → Break (name ∷ codes "serve" ∷ file ∷ codes "8080" ∷ codes "1000" ∷ codes "--operator-field" ∷ codes "X:" ∷ []) argument.OperatorField
  pub field_wants : (name file : Text) → begins_with_dash file ≡ false
      → AreWrong (name ∷ codes "serve" ∷ file ∷ codes "8080" ∷ codes "1000" ∷ codes "--operator-field" ∷ [])
  -- the name that the page shows has a character at least, and its language is English or German
  pub serve_presented : (name file : Text) → begins_with_dash file ≡ false
      → Mean (name ∷ codes "serve" ∷ file ∷ codes "8080" ∷ codes "1000" ∷ codes "--name" ∷ codes "Bakery 1" ∷ codes "--language" ∷ codes "de" ∷ [])
      (file, work.Serve (record { port = 8080; count = 1000; is_logged = false; page = None; most_ahead = None; needs_references = false; operator_field = None; name = Some (codes "Bakery 1"); language = Some (codes "de") }))
  pub other_language : (name file : Text) → begins_with_dash file ≡ false
      → Break (name ∷ codes "serve" ∷ file ∷ codes "8080" ∷ codes "1000" ∷ codes "--language" ∷ codes "fr" ∷ []) argument.Language
  pub empty_name : (name file : Text) → begins_with_dash file ≡ false
      → Break (name ∷ codes "serve" ∷ file ∷ codes "8080" ∷ codes "1000" ∷ codes "--name" ∷ codes "" ∷ []) argument.Name
  -- a name is given with the page alone, has no port and no upper case, and comes after its option
  pub host_alone : (name file : Text) → begins_with_dash file ≡ false
      → Break (name ∷ codes "serve" ∷ file ∷ codes "8080" ∷ codes "1000" ∷ codes "--host" ∷ codes "a" ∷ []) argument.Host
  pub host_with_port : (name file : Text) → begins_with_dash file ≡ false
      → Break (name ∷ codes "serve" ∷ file ∷ codes "8080" ∷ codes "1000" ∷ codes "--page" ∷ codes "--host" ∷ codes "a:80" ∷ []) argument.Host
  pub high_host : (name file : Text) → begins_with_dash file ≡ false
      → Break (name ∷ codes "serve" ∷ file ∷ codes "8080" ∷ codes "1000" ∷ codes "--page" ∷ codes "--host" ∷ codes "A" ∷ []) argument.Host
  pub host_wants : (name file : Text) → begins_with_dash file ≡ false
      → AreWrong (name ∷ codes "serve" ∷ file ∷ codes "8080" ∷ codes "1000" ∷ codes "--page" ∷ codes "--host" ∷ [])
  -- ports are 1 to 65535, and connections 1 to 1000000
  pub no_port : (name file : Text) → begins_with_dash file ≡ false
      → AreWrong (name ∷ codes "serve" ∷ file ∷ codes "0" ∷ codes "1" ∷ [])
  pub high_port : (name file : Text) → begins_with_dash file ≡ false
      → AreWrong (name ∷ codes "serve" ∷ file ∷ codes "65536" ∷ codes "1" ∷ [])
  pub no_connection : (name file : Text) → begins_with_dash file ≡ false
      → AreWrong (name ∷ codes "serve" ∷ file ∷ codes "80" ∷ codes "0" ∷ [])
  pub many_connections : (name file : Text) → begins_with_dash file ≡ false
      → AreWrong (name ∷ codes "serve" ∷ file ∷ codes "80" ∷ codes "1000001" ∷ [])

pub record PlainWords : Type 0 where
  pub files : FileWords
  pub reporting : ReportWords
  pub importing : ImportWords
  pub serving : ServeWords
  pub unknown : (name word : Text) (rest : List Text) → begins_with_dash word ≡ false → is_word word ≡ false
      → AreWrong (name ∷ word ∷ rest)
