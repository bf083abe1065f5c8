-- The plain arguments, computed.
use Rattle.std.proofs.Common.{◌≡◌, ◌||◌, Bool, true, false, List, [], ◌∷◌, None, Some, Ok, Err, codes, refl, ap, ◌∙◌, rules, bytes_eq}
use Rattle.clap.specs.Lexer.{long_of, short_of}
use Rattle.clap.specs.Words.{Row, Text, fault_of, subcommand_of}
use Rattle.clap.specs.declared.parser.matches.ValueSource.TheVariants.{CommandLine, DefaultValue}
use Rattle.clap.specs.declared.builder.value_parser.Reading.TheVariants.{AsWritten, WithoutMinus}
use Rattle.desk_cli.specs.{the_program, Meant, meant_in, number_in, work_in, AreWrong, Break, FileWords, ImportWords, Mean, ServeWords, ReportWords, begins_with_dash, hosts_of_names}
use Rattle.clap.proofs.OnLiterals.{clap_on_literals}
use Rattle.plant_base.specs.{is_id}
use Rattle.desk_cli.specs.PlainWords.{PlainWords}
use Rattle.desk_cli.specs.declared.argument.Argument.{Argument}
use Rattle.desk_cli.specs.declared.argument.Argument.TheVariants as argument
use Rattle.desk_cli.specs.declared.meaning.Work.TheVariants as work

abbrev dashes : Text
dashes = 45 ∷ 45 ∷ []

not_dashes : (word : Text) → begins_with_dash word ≡ false → bytes_eq word dashes ≡ false
not_dashes [] h = refl
not_dashes (x ∷ xs) h = rw h refl

not_long : (word : Text) → begins_with_dash word ≡ false → long_of word ≡ None
not_long [] h = refl
not_long (x ∷ xs) h = rw h refl

not_short : (word : Text) → begins_with_dash word ≡ false → short_of word ≡ None
not_short [] h = refl
not_short (x ∷ xs) h = rw h refl

-- an id begins with a letter
id_is_plain : (id : Text) → is_id id ≡ true → begins_with_dash id ≡ false
id_is_plain [] h = refl
id_is_plain (x ∷ xs) h = search (rules, h)

-- none of two
neither : (a b : Bool) → (a || b) ≡ false → (a ≡ false) × (b ≡ false)
neither true b h = cc h
neither false b h = (refl, h)

file_words : FileWords
unfolding clap_on_literals work_in number_in
file_words = record {
  alone = λ name. (refl, refl);
  init_file = λ name file h. rw (not_dashes file h, not_long file h, not_short file h) (refl, refl);
  run_file = λ name file h. rw (not_dashes file h, not_long file h, not_short file h) (refl, refl);
  verify_file = λ name file h. rw (not_dashes file h, not_long file h, not_short file h) (refl, refl);
  init_wants = (λ name. refl, λ name file more h k. rw (not_dashes file h, not_long file h, not_short file h, not_dashes more k, not_long more k, not_short more k) refl);
  run_wants = (λ name. refl, λ name file more h k. rw (not_dashes file h, not_long file h, not_short file h, not_dashes more k, not_long more k, not_short more k) refl);
  verify_wants = (λ name. refl, λ name file more h k. rw (not_dashes file h, not_long file h, not_short file h, not_dashes more k, not_long more k, not_short more k) refl);
  help = λ name. refl;
  short_help = λ name. refl;
  version = λ name. refl;
}

report_words : ReportWords
unfolding clap_on_literals work_in number_in
report_words = record {
  trace_back = λ name file h. rw (not_dashes file h, not_long file h, not_short file h) (refl, refl);
  trace_forward = λ name file h. rw (not_dashes file h, not_long file h, not_short file h) (refl, refl);
  record_batch = λ name file batch h id.
      let k = id_is_plain batch id in
      rw (not_dashes file h, not_long file h, not_short file h, not_dashes batch k, not_long batch k, not_short batch k, id) (refl, refl);
}

import_words : ImportWords
unfolding clap_on_literals work_in number_in
import_words = record {
  import_at = λ name file h. rw (not_dashes file h, not_long file h, not_short file h) (refl, refl);
  import_by = λ name file h. rw (not_dashes file h, not_long file h, not_short file h) (refl, refl);
  import_ref = λ name file h. rw (not_dashes file h, not_long file h, not_short file h) (refl, refl);
  no_reference = λ name file h. rw (not_dashes file h, not_long file h, not_short file h) refl;
  import_wants = λ name file h. rw (not_dashes file h, not_long file h, not_short file h) refl;
}

-- ---- serving: the rows that clap finds, and what they mean

-- an argument that is given, as it is written
abbrev given : Text → List Text → Row
given id values = record { id = id; values = values; count = None; source = Some CommandLine; reading = AsWritten }

-- a number that is given
abbrev number : Text → Text → Row
number id text = record { id = id; values = text ∷ []; count = None; source = Some CommandLine; reading = WithoutMinus }

-- a flag that isn't given
abbrev unset : Text → Row
unset id = record { id = id; values = codes "false" ∷ []; count = None; source = Some DefaultValue; reading = AsWritten }

-- a file, a port and a number of connections, and these
abbrev rows_of_serve : Text → List Row → List Row
rows_of_serve file more = given (codes "file") (file ∷ []) ∷ number (codes "port") (codes "8080") ∷ number (codes "count") (codes "1000") ∷ more

-- what the arguments mean by their rows
by_rows : (words : List Text) (rows : List Row) (meant : Meant) → fault_of the_program words ≡ [] → subcommand_of the_program words ≡ Some (codes "serve", rows)
    → meant_in (Some (codes "serve", rows)) ≡ Ok meant → Mean words meant
by_rows words rows meant taken found means = (taken, ap meant_in found ∙ means)

broken_by_rows : (words : List Text) (rows : List Row) (a : Argument) → subcommand_of the_program words ≡ Some (codes "serve", rows)
    → meant_in (Some (codes "serve", rows)) ≡ Err a → Break words a
broken_by_rows words rows a found means = ap meant_in found ∙ means

serve_port_taken : (name file : Text) → begins_with_dash file ≡ false → fault_of the_program (name ∷ codes "serve" ∷ file ∷ codes "8080" ∷ codes "1000" ∷ []) ≡ []
unfolding clap_on_literals
serve_port_taken name file h = rw (not_dashes file h, not_long file h, not_short file h) (refl {a = []})

serve_port_rows : (name file : Text) → begins_with_dash file ≡ false → subcommand_of the_program (name ∷ codes "serve" ∷ file ∷ codes "8080" ∷ codes "1000" ∷ []) ≡ Some (codes "serve", rows_of_serve file (unset (codes "log") ∷ unset (codes "page") ∷ unset (codes "references") ∷ []))
unfolding clap_on_literals
serve_port_rows name file h = rw (not_dashes file h, not_long file h, not_short file h) (refl {a = Some (codes "serve", rows_of_serve file (unset (codes "log") ∷ unset (codes "page") ∷ unset (codes "references") ∷ []))})

serve_port : (name file : Text) → begins_with_dash file ≡ false → Mean (name ∷ codes "serve" ∷ file ∷ codes "8080" ∷ codes "1000" ∷ []) (file, work.Serve (record { port = 8080; count = 1000; is_logged = false; page = None; most_ahead = None; needs_references = false; operator_field = None; name = None; language = None }))
unfolding work_in number_in
serve_port name file h = by_rows (name ∷ codes "serve" ∷ file ∷ codes "8080" ∷ codes "1000" ∷ []) (rows_of_serve file (unset (codes "log") ∷ unset (codes "page") ∷ unset (codes "references") ∷ [])) (file, work.Serve (record { port = 8080; count = 1000; is_logged = false; page = None; most_ahead = None; needs_references = false; operator_field = None; name = None; language = None })) (serve_port_taken name file h) (serve_port_rows name file h) refl

serve_logged_taken : (name file : Text) → begins_with_dash file ≡ false → fault_of the_program (name ∷ codes "serve" ∷ file ∷ codes "8080" ∷ codes "1000" ∷ codes "--log" ∷ []) ≡ []
unfolding clap_on_literals
serve_logged_taken name file h = rw (not_dashes file h, not_long file h, not_short file h) (refl {a = []})

serve_logged_rows : (name file : Text) → begins_with_dash file ≡ false → subcommand_of the_program (name ∷ codes "serve" ∷ file ∷ codes "8080" ∷ codes "1000" ∷ codes "--log" ∷ []) ≡ Some (codes "serve", rows_of_serve file (given (codes "log") (codes "true" ∷ []) ∷ unset (codes "page") ∷ unset (codes "references") ∷ []))
unfolding clap_on_literals
serve_logged_rows name file h = rw (not_dashes file h, not_long file h, not_short file h) (refl {a = Some (codes "serve", rows_of_serve file (given (codes "log") (codes "true" ∷ []) ∷ unset (codes "page") ∷ unset (codes "references") ∷ []))})

serve_logged : (name file : Text) → begins_with_dash file ≡ false → Mean (name ∷ codes "serve" ∷ file ∷ codes "8080" ∷ codes "1000" ∷ codes "--log" ∷ []) (file, work.Serve (record { port = 8080; count = 1000; is_logged = true; page = None; most_ahead = None; needs_references = false; operator_field = None; name = None; language = None }))
unfolding work_in number_in
serve_logged name file h = by_rows (name ∷ codes "serve" ∷ file ∷ codes "8080" ∷ codes "1000" ∷ codes "--log" ∷ []) (rows_of_serve file (given (codes "log") (codes "true" ∷ []) ∷ unset (codes "page") ∷ unset (codes "references") ∷ [])) (file, work.Serve (record { port = 8080; count = 1000; is_logged = true; page = None; most_ahead = None; needs_references = false; operator_field = None; name = None; language = None })) (serve_logged_taken name file h) (serve_logged_rows name file h) refl

serve_page_taken : (name file : Text) → begins_with_dash file ≡ false → fault_of the_program (name ∷ codes "serve" ∷ file ∷ codes "8080" ∷ codes "1000" ∷ codes "--page" ∷ []) ≡ []
unfolding clap_on_literals
serve_page_taken name file h = rw (not_dashes file h, not_long file h, not_short file h) (refl {a = []})

serve_page_rows : (name file : Text) → begins_with_dash file ≡ false → subcommand_of the_program (name ∷ codes "serve" ∷ file ∷ codes "8080" ∷ codes "1000" ∷ codes "--page" ∷ []) ≡ Some (codes "serve", rows_of_serve file (given (codes "page") (codes "true" ∷ []) ∷ unset (codes "log") ∷ unset (codes "references") ∷ []))
unfolding clap_on_literals
serve_page_rows name file h = rw (not_dashes file h, not_long file h, not_short file h) (refl {a = Some (codes "serve", rows_of_serve file (given (codes "page") (codes "true" ∷ []) ∷ unset (codes "log") ∷ unset (codes "references") ∷ []))})

serve_page : (name file : Text) → begins_with_dash file ≡ false → Mean (name ∷ codes "serve" ∷ file ∷ codes "8080" ∷ codes "1000" ∷ codes "--page" ∷ []) (file, work.Serve (record { port = 8080; count = 1000; is_logged = false; page = Some (hosts_of_names []); most_ahead = Some 300; needs_references = false; operator_field = None; name = None; language = None }))
unfolding work_in number_in
serve_page name file h = by_rows (name ∷ codes "serve" ∷ file ∷ codes "8080" ∷ codes "1000" ∷ codes "--page" ∷ []) (rows_of_serve file (given (codes "page") (codes "true" ∷ []) ∷ unset (codes "log") ∷ unset (codes "references") ∷ [])) (file, work.Serve (record { port = 8080; count = 1000; is_logged = false; page = Some (hosts_of_names []); most_ahead = Some 300; needs_references = false; operator_field = None; name = None; language = None })) (serve_page_taken name file h) (serve_page_rows name file h) refl

serve_hosts_taken : (name file : Text) → begins_with_dash file ≡ false → fault_of the_program (name ∷ codes "serve" ∷ file ∷ codes "8080" ∷ codes "1000" ∷ codes "--page" ∷ codes "--host" ∷ codes "a.example" ∷ codes "--host" ∷ codes "b" ∷ []) ≡ []
unfolding clap_on_literals
serve_hosts_taken name file h = rw (not_dashes file h, not_long file h, not_short file h) (refl {a = []})

serve_hosts_rows : (name file : Text) → begins_with_dash file ≡ false → subcommand_of the_program (name ∷ codes "serve" ∷ file ∷ codes "8080" ∷ codes "1000" ∷ codes "--page" ∷ codes "--host" ∷ codes "a.example" ∷ codes "--host" ∷ codes "b" ∷ []) ≡ Some (codes "serve", rows_of_serve file (given (codes "page") (codes "true" ∷ []) ∷ given (codes "host") (codes "a.example" ∷ codes "b" ∷ []) ∷ unset (codes "log") ∷ unset (codes "references") ∷ []))
unfolding clap_on_literals
serve_hosts_rows name file h = rw (not_dashes file h, not_long file h, not_short file h) (refl {a = Some (codes "serve", rows_of_serve file (given (codes "page") (codes "true" ∷ []) ∷ given (codes "host") (codes "a.example" ∷ codes "b" ∷ []) ∷ unset (codes "log") ∷ unset (codes "references") ∷ []))})

serve_hosts : (name file : Text) → begins_with_dash file ≡ false → Mean (name ∷ codes "serve" ∷ file ∷ codes "8080" ∷ codes "1000" ∷ codes "--page" ∷ codes "--host" ∷ codes "a.example" ∷ codes "--host" ∷ codes "b" ∷ []) (file, work.Serve (record { port = 8080; count = 1000; is_logged = false; page = Some (hosts_of_names (codes "a.example" ∷ codes "b" ∷ [])); most_ahead = Some 300; needs_references = false; operator_field = None; name = None; language = None }))
unfolding work_in number_in
serve_hosts name file h = by_rows (name ∷ codes "serve" ∷ file ∷ codes "8080" ∷ codes "1000" ∷ codes "--page" ∷ codes "--host" ∷ codes "a.example" ∷ codes "--host" ∷ codes "b" ∷ []) (rows_of_serve file (given (codes "page") (codes "true" ∷ []) ∷ given (codes "host") (codes "a.example" ∷ codes "b" ∷ []) ∷ unset (codes "log") ∷ unset (codes "references") ∷ [])) (file, work.Serve (record { port = 8080; count = 1000; is_logged = false; page = Some (hosts_of_names (codes "a.example" ∷ codes "b" ∷ [])); most_ahead = Some 300; needs_references = false; operator_field = None; name = None; language = None })) (serve_hosts_taken name file h) (serve_hosts_rows name file h) refl

serve_ahead_taken : (name file : Text) → begins_with_dash file ≡ false → fault_of the_program (name ∷ codes "serve" ∷ file ∷ codes "8080" ∷ codes "1000" ∷ codes "--ahead" ∷ codes "60" ∷ []) ≡ []
unfolding clap_on_literals
serve_ahead_taken name file h = rw (not_dashes file h, not_long file h, not_short file h) (refl {a = []})

serve_ahead_rows : (name file : Text) → begins_with_dash file ≡ false → subcommand_of the_program (name ∷ codes "serve" ∷ file ∷ codes "8080" ∷ codes "1000" ∷ codes "--ahead" ∷ codes "60" ∷ []) ≡ Some (codes "serve", rows_of_serve file (number (codes "ahead") (codes "60") ∷ unset (codes "log") ∷ unset (codes "page") ∷ unset (codes "references") ∷ []))
unfolding clap_on_literals
serve_ahead_rows name file h = rw (not_dashes file h, not_long file h, not_short file h) (refl {a = Some (codes "serve", rows_of_serve file (number (codes "ahead") (codes "60") ∷ unset (codes "log") ∷ unset (codes "page") ∷ unset (codes "references") ∷ []))})

serve_ahead : (name file : Text) → begins_with_dash file ≡ false → Mean (name ∷ codes "serve" ∷ file ∷ codes "8080" ∷ codes "1000" ∷ codes "--ahead" ∷ codes "60" ∷ []) (file, work.Serve (record { port = 8080; count = 1000; is_logged = false; page = None; most_ahead = Some 60; needs_references = false; operator_field = None; name = None; language = None }))
unfolding work_in number_in
serve_ahead name file h = by_rows (name ∷ codes "serve" ∷ file ∷ codes "8080" ∷ codes "1000" ∷ codes "--ahead" ∷ codes "60" ∷ []) (rows_of_serve file (number (codes "ahead") (codes "60") ∷ unset (codes "log") ∷ unset (codes "page") ∷ unset (codes "references") ∷ [])) (file, work.Serve (record { port = 8080; count = 1000; is_logged = false; page = None; most_ahead = Some 60; needs_references = false; operator_field = None; name = None; language = None })) (serve_ahead_taken name file h) (serve_ahead_rows name file h) refl

serve_any_ahead_taken : (name file : Text) → begins_with_dash file ≡ false → fault_of the_program (name ∷ codes "serve" ∷ file ∷ codes "8080" ∷ codes "1000" ∷ codes "--page" ∷ codes "--ahead" ∷ codes "0" ∷ []) ≡ []
unfolding clap_on_literals
serve_any_ahead_taken name file h = rw (not_dashes file h, not_long file h, not_short file h) (refl {a = []})

serve_any_ahead_rows : (name file : Text) → begins_with_dash file ≡ false → subcommand_of the_program (name ∷ codes "serve" ∷ file ∷ codes "8080" ∷ codes "1000" ∷ codes "--page" ∷ codes "--ahead" ∷ codes "0" ∷ []) ≡ Some (codes "serve", rows_of_serve file (given (codes "page") (codes "true" ∷ []) ∷ number (codes "ahead") (codes "0") ∷ unset (codes "log") ∷ unset (codes "references") ∷ []))
unfolding clap_on_literals
serve_any_ahead_rows name file h = rw (not_dashes file h, not_long file h, not_short file h) (refl {a = Some (codes "serve", rows_of_serve file (given (codes "page") (codes "true" ∷ []) ∷ number (codes "ahead") (codes "0") ∷ unset (codes "log") ∷ unset (codes "references") ∷ []))})

serve_any_ahead : (name file : Text) → begins_with_dash file ≡ false → Mean (name ∷ codes "serve" ∷ file ∷ codes "8080" ∷ codes "1000" ∷ codes "--page" ∷ codes "--ahead" ∷ codes "0" ∷ []) (file, work.Serve (record { port = 8080; count = 1000; is_logged = false; page = Some (hosts_of_names []); most_ahead = None; needs_references = false; operator_field = None; name = None; language = None }))
unfolding work_in number_in
serve_any_ahead name file h = by_rows (name ∷ codes "serve" ∷ file ∷ codes "8080" ∷ codes "1000" ∷ codes "--page" ∷ codes "--ahead" ∷ codes "0" ∷ []) (rows_of_serve file (given (codes "page") (codes "true" ∷ []) ∷ number (codes "ahead") (codes "0") ∷ unset (codes "log") ∷ unset (codes "references") ∷ [])) (file, work.Serve (record { port = 8080; count = 1000; is_logged = false; page = Some (hosts_of_names []); most_ahead = None; needs_references = false; operator_field = None; name = None; language = None })) (serve_any_ahead_taken name file h) (serve_any_ahead_rows name file h) refl

serve_references_taken : (name file : Text) → begins_with_dash file ≡ false → fault_of the_program (name ∷ codes "serve" ∷ file ∷ codes "8080" ∷ codes "1000" ∷ codes "--references" ∷ []) ≡ []
unfolding clap_on_literals
serve_references_taken name file h = rw (not_dashes file h, not_long file h, not_short file h) (refl {a = []})

serve_references_rows : (name file : Text) → begins_with_dash file ≡ false → subcommand_of the_program (name ∷ codes "serve" ∷ file ∷ codes "8080" ∷ codes "1000" ∷ codes "--references" ∷ []) ≡ Some (codes "serve", rows_of_serve file (given (codes "references") (codes "true" ∷ []) ∷ unset (codes "log") ∷ unset (codes "page") ∷ []))
unfolding clap_on_literals
serve_references_rows name file h = rw (not_dashes file h, not_long file h, not_short file h) (refl {a = Some (codes "serve", rows_of_serve file (given (codes "references") (codes "true" ∷ []) ∷ unset (codes "log") ∷ unset (codes "page") ∷ []))})

serve_references : (name file : Text) → begins_with_dash file ≡ false → Mean (name ∷ codes "serve" ∷ file ∷ codes "8080" ∷ codes "1000" ∷ codes "--references" ∷ []) (file, work.Serve (record { port = 8080; count = 1000; is_logged = false; page = None; most_ahead = None; needs_references = true; operator_field = None; name = None; language = None }))
unfolding work_in number_in
serve_references name file h = by_rows (name ∷ codes "serve" ∷ file ∷ codes "8080" ∷ codes "1000" ∷ codes "--references" ∷ []) (rows_of_serve file (given (codes "references") (codes "true" ∷ []) ∷ unset (codes "log") ∷ unset (codes "page") ∷ [])) (file, work.Serve (record { port = 8080; count = 1000; is_logged = false; page = None; most_ahead = None; needs_references = true; operator_field = None; name = None; language = None })) (serve_references_taken name file h) (serve_references_rows name file h) refl

serve_operator_field_taken : (name file : Text) → begins_with_dash file ≡ false → fault_of the_program (name ∷ codes "serve" ∷ file ∷ codes "8080" ∷ codes "1000" ∷ codes "--operator-field" ∷ codes "X-Operator" ∷ []) ≡ []
unfolding clap_on_literals
serve_operator_field_taken name file h = rw (not_dashes file h, not_long file h, not_short file h) (refl {a = []})

serve_operator_field_rows : (name file : Text) → begins_with_dash file ≡ false → subcommand_of the_program (name ∷ codes "serve" ∷ file ∷ codes "8080" ∷ codes "1000" ∷ codes "--operator-field" ∷ codes "X-Operator" ∷ []) ≡ Some (codes "serve", rows_of_serve file (given (codes "operator-field") (codes "X-Operator" ∷ []) ∷ unset (codes "log") ∷ unset (codes "page") ∷ unset (codes "references") ∷ []))
unfolding clap_on_literals
serve_operator_field_rows name file h = rw (not_dashes file h, not_long file h, not_short file h) (refl {a = Some (codes "serve", rows_of_serve file (given (codes "operator-field") (codes "X-Operator" ∷ []) ∷ unset (codes "log") ∷ unset (codes "page") ∷ unset (codes "references") ∷ []))})

serve_operator_field : (name file : Text) → begins_with_dash file ≡ false → Mean (name ∷ codes "serve" ∷ file ∷ codes "8080" ∷ codes "1000" ∷ codes "--operator-field" ∷ codes "X-Operator" ∷ []) (file, work.Serve (record { port = 8080; count = 1000; is_logged = false; page = None; most_ahead = None; needs_references = false; operator_field = Some (codes "X-Operator"); name = None; language = None }))
unfolding work_in number_in
serve_operator_field name file h = by_rows (name ∷ codes "serve" ∷ file ∷ codes "8080" ∷ codes "1000" ∷ codes "--operator-field" ∷ codes "X-Operator" ∷ []) (rows_of_serve file (given (codes "operator-field") (codes "X-Operator" ∷ []) ∷ unset (codes "log") ∷ unset (codes "page") ∷ unset (codes "references") ∷ [])) (file, work.Serve (record { port = 8080; count = 1000; is_logged = false; page = None; most_ahead = None; needs_references = false; operator_field = Some (codes "X-Operator"); name = None; language = None })) (serve_operator_field_taken name file h) (serve_operator_field_rows name file h) refl

field_with_colon_rows : (name file : Text) → begins_with_dash file ≡ false → subcommand_of the_program (name ∷ codes "serve" ∷ file ∷ codes "8080" ∷ codes "1000" ∷ codes "--operator-field" ∷ codes "X:" ∷ []) ≡ Some (codes "serve", rows_of_serve file (given (codes "operator-field") (codes "X:" ∷ []) ∷ unset (codes "log") ∷ unset (codes "page") ∷ unset (codes "references") ∷ []))
unfolding clap_on_literals
field_with_colon_rows name file h = rw (not_dashes file h, not_long file h, not_short file h) (refl {a = Some (codes "serve", rows_of_serve file (given (codes "operator-field") (codes "X:" ∷ []) ∷ unset (codes "log") ∷ unset (codes "page") ∷ unset (codes "references") ∷ []))})

field_with_colon : (name file : Text) → begins_with_dash file ≡ false → Break (name ∷ codes "serve" ∷ file ∷ codes "8080" ∷ codes "1000" ∷ codes "--operator-field" ∷ codes "X:" ∷ []) argument.OperatorField
unfolding work_in number_in
field_with_colon name file h = broken_by_rows (name ∷ codes "serve" ∷ file ∷ codes "8080" ∷ codes "1000" ∷ codes "--operator-field" ∷ codes "X:" ∷ []) (rows_of_serve file (given (codes "operator-field") (codes "X:" ∷ []) ∷ unset (codes "log") ∷ unset (codes "page") ∷ unset (codes "references") ∷ [])) argument.OperatorField (field_with_colon_rows name file h) refl

serve_presented_taken : (name file : Text) → begins_with_dash file ≡ false → fault_of the_program (name ∷ codes "serve" ∷ file ∷ codes "8080" ∷ codes "1000" ∷ codes "--name" ∷ codes "Bakery 1" ∷ codes "--language" ∷ codes "de" ∷ []) ≡ []
unfolding clap_on_literals
serve_presented_taken name file h = rw (not_dashes file h, not_long file h, not_short file h) (refl {a = []})

serve_presented_rows : (name file : Text) → begins_with_dash file ≡ false → subcommand_of the_program (name ∷ codes "serve" ∷ file ∷ codes "8080" ∷ codes "1000" ∷ codes "--name" ∷ codes "Bakery 1" ∷ codes "--language" ∷ codes "de" ∷ []) ≡ Some (codes "serve", rows_of_serve file (given (codes "name") (codes "Bakery 1" ∷ []) ∷ given (codes "language") (codes "de" ∷ []) ∷ unset (codes "log") ∷ unset (codes "page") ∷ unset (codes "references") ∷ []))
unfolding clap_on_literals
serve_presented_rows name file h = rw (not_dashes file h, not_long file h, not_short file h) (refl {a = Some (codes "serve", rows_of_serve file (given (codes "name") (codes "Bakery 1" ∷ []) ∷ given (codes "language") (codes "de" ∷ []) ∷ unset (codes "log") ∷ unset (codes "page") ∷ unset (codes "references") ∷ []))})

serve_presented : (name file : Text) → begins_with_dash file ≡ false → Mean (name ∷ codes "serve" ∷ file ∷ codes "8080" ∷ codes "1000" ∷ codes "--name" ∷ codes "Bakery 1" ∷ codes "--language" ∷ codes "de" ∷ []) (file, work.Serve (record { port = 8080; count = 1000; is_logged = false; page = None; most_ahead = None; needs_references = false; operator_field = None; name = Some (codes "Bakery 1"); language = Some (codes "de") }))
unfolding work_in number_in
serve_presented name file h = by_rows (name ∷ codes "serve" ∷ file ∷ codes "8080" ∷ codes "1000" ∷ codes "--name" ∷ codes "Bakery 1" ∷ codes "--language" ∷ codes "de" ∷ []) (rows_of_serve file (given (codes "name") (codes "Bakery 1" ∷ []) ∷ given (codes "language") (codes "de" ∷ []) ∷ unset (codes "log") ∷ unset (codes "page") ∷ unset (codes "references") ∷ [])) (file, work.Serve (record { port = 8080; count = 1000; is_logged = false; page = None; most_ahead = None; needs_references = false; operator_field = None; name = Some (codes "Bakery 1"); language = Some (codes "de") })) (serve_presented_taken name file h) (serve_presented_rows name file h) refl

other_language_rows : (name file : Text) → begins_with_dash file ≡ false → subcommand_of the_program (name ∷ codes "serve" ∷ file ∷ codes "8080" ∷ codes "1000" ∷ codes "--language" ∷ codes "fr" ∷ []) ≡ Some (codes "serve", rows_of_serve file (given (codes "language") (codes "fr" ∷ []) ∷ unset (codes "log") ∷ unset (codes "page") ∷ unset (codes "references") ∷ []))
unfolding clap_on_literals
other_language_rows name file h = rw (not_dashes file h, not_long file h, not_short file h) (refl {a = Some (codes "serve", rows_of_serve file (given (codes "language") (codes "fr" ∷ []) ∷ unset (codes "log") ∷ unset (codes "page") ∷ unset (codes "references") ∷ []))})

other_language : (name file : Text) → begins_with_dash file ≡ false → Break (name ∷ codes "serve" ∷ file ∷ codes "8080" ∷ codes "1000" ∷ codes "--language" ∷ codes "fr" ∷ []) argument.Language
unfolding work_in number_in
other_language name file h = broken_by_rows (name ∷ codes "serve" ∷ file ∷ codes "8080" ∷ codes "1000" ∷ codes "--language" ∷ codes "fr" ∷ []) (rows_of_serve file (given (codes "language") (codes "fr" ∷ []) ∷ unset (codes "log") ∷ unset (codes "page") ∷ unset (codes "references") ∷ [])) argument.Language (other_language_rows name file h) refl

empty_name_rows : (name file : Text) → begins_with_dash file ≡ false → subcommand_of the_program (name ∷ codes "serve" ∷ file ∷ codes "8080" ∷ codes "1000" ∷ codes "--name" ∷ codes "" ∷ []) ≡ Some (codes "serve", rows_of_serve file (given (codes "name") (codes "" ∷ []) ∷ unset (codes "log") ∷ unset (codes "page") ∷ unset (codes "references") ∷ []))
unfolding clap_on_literals
empty_name_rows name file h = rw (not_dashes file h, not_long file h, not_short file h) (refl {a = Some (codes "serve", rows_of_serve file (given (codes "name") (codes "" ∷ []) ∷ unset (codes "log") ∷ unset (codes "page") ∷ unset (codes "references") ∷ []))})

empty_name : (name file : Text) → begins_with_dash file ≡ false → Break (name ∷ codes "serve" ∷ file ∷ codes "8080" ∷ codes "1000" ∷ codes "--name" ∷ codes "" ∷ []) argument.Name
unfolding work_in number_in
empty_name name file h = broken_by_rows (name ∷ codes "serve" ∷ file ∷ codes "8080" ∷ codes "1000" ∷ codes "--name" ∷ codes "" ∷ []) (rows_of_serve file (given (codes "name") (codes "" ∷ []) ∷ unset (codes "log") ∷ unset (codes "page") ∷ unset (codes "references") ∷ [])) argument.Name (empty_name_rows name file h) refl

field_wants : (name file : Text) → begins_with_dash file ≡ false → AreWrong (name ∷ codes "serve" ∷ file ∷ codes "8080" ∷ codes "1000" ∷ codes "--operator-field" ∷ [])
unfolding clap_on_literals
field_wants name file h = rw (not_dashes file h, not_long file h, not_short file h) (refl {a = true})

host_alone_rows : (name file : Text) → begins_with_dash file ≡ false → subcommand_of the_program (name ∷ codes "serve" ∷ file ∷ codes "8080" ∷ codes "1000" ∷ codes "--host" ∷ codes "a" ∷ []) ≡ Some (codes "serve", rows_of_serve file (given (codes "host") (codes "a" ∷ []) ∷ unset (codes "log") ∷ unset (codes "page") ∷ unset (codes "references") ∷ []))
unfolding clap_on_literals
host_alone_rows name file h = rw (not_dashes file h, not_long file h, not_short file h) (refl {a = Some (codes "serve", rows_of_serve file (given (codes "host") (codes "a" ∷ []) ∷ unset (codes "log") ∷ unset (codes "page") ∷ unset (codes "references") ∷ []))})

host_alone : (name file : Text) → begins_with_dash file ≡ false → Break (name ∷ codes "serve" ∷ file ∷ codes "8080" ∷ codes "1000" ∷ codes "--host" ∷ codes "a" ∷ []) argument.Host
unfolding work_in number_in
host_alone name file h = broken_by_rows (name ∷ codes "serve" ∷ file ∷ codes "8080" ∷ codes "1000" ∷ codes "--host" ∷ codes "a" ∷ []) (rows_of_serve file (given (codes "host") (codes "a" ∷ []) ∷ unset (codes "log") ∷ unset (codes "page") ∷ unset (codes "references") ∷ [])) argument.Host (host_alone_rows name file h) refl

host_with_port_rows : (name file : Text) → begins_with_dash file ≡ false → subcommand_of the_program (name ∷ codes "serve" ∷ file ∷ codes "8080" ∷ codes "1000" ∷ codes "--page" ∷ codes "--host" ∷ codes "a:80" ∷ []) ≡ Some (codes "serve", rows_of_serve file (given (codes "page") (codes "true" ∷ []) ∷ given (codes "host") (codes "a:80" ∷ []) ∷ unset (codes "log") ∷ unset (codes "references") ∷ []))
unfolding clap_on_literals
host_with_port_rows name file h = rw (not_dashes file h, not_long file h, not_short file h) (refl {a = Some (codes "serve", rows_of_serve file (given (codes "page") (codes "true" ∷ []) ∷ given (codes "host") (codes "a:80" ∷ []) ∷ unset (codes "log") ∷ unset (codes "references") ∷ []))})

host_with_port : (name file : Text) → begins_with_dash file ≡ false → Break (name ∷ codes "serve" ∷ file ∷ codes "8080" ∷ codes "1000" ∷ codes "--page" ∷ codes "--host" ∷ codes "a:80" ∷ []) argument.Host
unfolding work_in number_in
host_with_port name file h = broken_by_rows (name ∷ codes "serve" ∷ file ∷ codes "8080" ∷ codes "1000" ∷ codes "--page" ∷ codes "--host" ∷ codes "a:80" ∷ []) (rows_of_serve file (given (codes "page") (codes "true" ∷ []) ∷ given (codes "host") (codes "a:80" ∷ []) ∷ unset (codes "log") ∷ unset (codes "references") ∷ [])) argument.Host (host_with_port_rows name file h) refl

high_host_rows : (name file : Text) → begins_with_dash file ≡ false → subcommand_of the_program (name ∷ codes "serve" ∷ file ∷ codes "8080" ∷ codes "1000" ∷ codes "--page" ∷ codes "--host" ∷ codes "A" ∷ []) ≡ Some (codes "serve", rows_of_serve file (given (codes "page") (codes "true" ∷ []) ∷ given (codes "host") (codes "A" ∷ []) ∷ unset (codes "log") ∷ unset (codes "references") ∷ []))
unfolding clap_on_literals
high_host_rows name file h = rw (not_dashes file h, not_long file h, not_short file h) (refl {a = Some (codes "serve", rows_of_serve file (given (codes "page") (codes "true" ∷ []) ∷ given (codes "host") (codes "A" ∷ []) ∷ unset (codes "log") ∷ unset (codes "references") ∷ []))})

high_host : (name file : Text) → begins_with_dash file ≡ false → Break (name ∷ codes "serve" ∷ file ∷ codes "8080" ∷ codes "1000" ∷ codes "--page" ∷ codes "--host" ∷ codes "A" ∷ []) argument.Host
unfolding work_in number_in
high_host name file h = broken_by_rows (name ∷ codes "serve" ∷ file ∷ codes "8080" ∷ codes "1000" ∷ codes "--page" ∷ codes "--host" ∷ codes "A" ∷ []) (rows_of_serve file (given (codes "page") (codes "true" ∷ []) ∷ given (codes "host") (codes "A" ∷ []) ∷ unset (codes "log") ∷ unset (codes "references") ∷ [])) argument.Host (high_host_rows name file h) refl

host_wants : (name file : Text) → begins_with_dash file ≡ false → AreWrong (name ∷ codes "serve" ∷ file ∷ codes "8080" ∷ codes "1000" ∷ codes "--page" ∷ codes "--host" ∷ [])
unfolding clap_on_literals
host_wants name file h = rw (not_dashes file h, not_long file h, not_short file h) (refl {a = true})

no_port : (name file : Text) → begins_with_dash file ≡ false → AreWrong (name ∷ codes "serve" ∷ file ∷ codes "0" ∷ codes "1" ∷ [])
unfolding clap_on_literals
no_port name file h = rw (not_dashes file h, not_long file h, not_short file h) (refl {a = true})

high_port : (name file : Text) → begins_with_dash file ≡ false → AreWrong (name ∷ codes "serve" ∷ file ∷ codes "65536" ∷ codes "1" ∷ [])
unfolding clap_on_literals
high_port name file h = rw (not_dashes file h, not_long file h, not_short file h) (refl {a = true})

no_connection : (name file : Text) → begins_with_dash file ≡ false → AreWrong (name ∷ codes "serve" ∷ file ∷ codes "80" ∷ codes "0" ∷ [])
unfolding clap_on_literals
no_connection name file h = rw (not_dashes file h, not_long file h, not_short file h) (refl {a = true})

many_connections : (name file : Text) → begins_with_dash file ≡ false → AreWrong (name ∷ codes "serve" ∷ file ∷ codes "80" ∷ codes "1000001" ∷ [])
unfolding clap_on_literals
many_connections name file h = rw (not_dashes file h, not_long file h, not_short file h) (refl {a = true})

serve_words : ServeWords
serve_words = record {
  serve_port = serve_port;
  serve_logged = serve_logged;
  serve_page = serve_page;
  serve_ahead = serve_ahead;
  serve_any_ahead = serve_any_ahead;
  serve_references = serve_references;
  serve_operator_field = serve_operator_field;
  field_with_colon = field_with_colon;
  field_wants = field_wants;
  serve_presented = serve_presented;
  other_language = other_language;
  empty_name = empty_name;
  serve_hosts = serve_hosts;
  host_alone = host_alone;
  host_with_port = host_with_port;
  high_host = high_host;
  host_wants = host_wants;
  no_port = no_port;
  high_port = high_port;
  no_connection = no_connection;
  many_connections = many_connections;
}

pub plain_words : PlainWords
unfolding clap_on_literals
plain_words = record {
  files = file_words;
  reporting = report_words;
  importing = import_words;
  serving = serve_words;
  unknown = λ name word rest h k.
      let one = neither (bytes_eq (codes "init") word) _ k in
      let two = neither (bytes_eq (codes "run") word) _ one.1 in
      let three = neither (bytes_eq (codes "import") word) _ two.1 in
      let four = neither (bytes_eq (codes "trace") word) _ three.1 in
      let five = neither (bytes_eq (codes "record") word) _ four.1 in
      let six = neither (bytes_eq (codes "verify") word) _ five.1 in
      rw (one.0, two.0, three.0, four.0, five.0, six.0, six.1, not_dashes word h, not_long word h, not_short word h) refl;
}
