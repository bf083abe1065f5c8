use Rattle.std.proofs.Common.{◌≡◌, ◌∙◌, List, [], true, Ok, Err, map, subst, sym, ap, refl}
use Rattle.clap.specs.Kinds.{HasKind}
use Rattle.clap.specs.Words.{App, HasMatchesOf, Text, app_of, fault_of, is_simple_and_free, subcommand_of, subcommand_rows_of}
use Rattle.desk_cli.specs.{the_program, all_meant, meant_in, words_meant}
use Rattle.desk_cli.proofs.RefusalKinds.{broken, refusal_by, refused_by}
use Rattle.desk_cli.proofs.read.read_words.Goals as goal

pub returns-clause-refused : goal.returns-clause-refused
returns-clause-refused c =
    let words : List Text = map (λ s. s.now) c.args.words.now in
    let app : app_of c.in-Ok.command ≡ the_program = c.in-Ok.ensures in
    let Fails : App → Type 0 = λ a. is_simple_and_free a ≡ true → HasKind (fault_of a words) c.in-Err.error in
    refused_by words c.refusal_of.result (refusal_by (fault_of the_program words) c.refusal_of.result c.in-Err.error (subst Fails app c.in-Err.ensures.kinds refl) c.refusal_of.ensures)

pub returns-in-Ok-try_get_matches_from-clause-refused : goal.returns-in-Ok-try_get_matches_from-clause-refused
returns-in-Ok-try_get_matches_from-clause-refused c =
    let words : List Text = map (λ s. s.now) c.args.words.now in
    let app : app_of c.in-Ok.command ≡ the_program = c.in-Ok.ensures in
    let m = c.in-Ok-try_get_matches_from.matches in
    let Has : App → Type 0 = λ a. HasMatchesOf a words m in
    let same : subcommand_rows_of m ≡ subcommand_of the_program words
    = (subst Has app c.in-Ok-try_get_matches_from.ensures.matches refl).1 in
    let meant : Err c.in-Err-words_in.argument ≡ meant_in (subcommand_rows_of m) = ap all_meant (sym c.in-Err-words_in.is) ∙ c.words_in.ensures in
    broken words c.in-Err-words_in.argument c.broken.result (sym (meant ∙ ap meant_in same)) c.broken.ensures

pub returns-in-Ok-words_in-clause-meant : goal.returns-in-Ok-words_in-clause-meant
returns-in-Ok-words_in-clause-meant c =
    let words : List Text = map (λ s. s.now) c.args.words.now in
    let app : app_of c.in-Ok.command ≡ the_program = c.in-Ok.ensures in
    let m = c.in-Ok-try_get_matches_from.matches in
    let Has : App → Type 0 = λ a. HasMatchesOf a words m in
    let same : subcommand_rows_of m ≡ subcommand_of the_program words
    = (subst Has app c.in-Ok-try_get_matches_from.ensures.matches refl).1 in
    let meant : Ok (words_meant c.in-Ok-words_in.found) ≡ meant_in (subcommand_rows_of m)
    = ap all_meant (sym c.in-Ok-words_in.is) ∙ c.words_in.ensures in
    sym (meant ∙ ap meant_in same)

pub returns-in-Ok-words_in-clause-taken : goal.returns-in-Ok-words_in-clause-taken
returns-in-Ok-words_in-clause-taken c =
    let words : List Text = map (λ s. s.now) c.args.words.now in
    let app : app_of c.in-Ok.command ≡ the_program = c.in-Ok.ensures in
    let Fails : App → Type 0 = λ a. is_simple_and_free a ≡ true → fault_of a words ≡ [] in
    subst Fails app c.in-Ok-try_get_matches_from.ensures.kinds refl
