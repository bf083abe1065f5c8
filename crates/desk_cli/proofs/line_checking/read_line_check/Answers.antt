use Rattle.std.proofs.Common.{◌≡◌, ◌∙◌, List, [], true, map, subst, ap, refl, codes}
use Rattle.clap.specs.Kinds.{HasKind}
use Rattle.clap.specs.Words.{App, HasMatchesOf, Text, fault_of, first_of, found_of, is_simple_and_free, matches_of, rows_of}
use Rattle.desk_cli.specs.{line_check_app, is_set}
use Rattle.desk_cli.proofs.RefusalKinds.{refusal_by}
use Rattle.desk_cli.proofs.line_checking.read_line_check.Goals as goal

pub returns-in-Err-clause-refused : goal.returns-in-Err-clause-refused
returns-in-Err-clause-refused c =
    let words : List Text = map (λ s. s.now) c.args.words.now in
    let Fails : App → Type 0 = λ a. is_simple_and_free a ≡ true → HasKind (fault_of a words) c.in-Err.error in
    refusal_by (fault_of line_check_app words) c.refusal_of.result c.in-Err.error (subst Fails c.in-Ok.ensures c.in-Err.ensures.kinds refl) c.refusal_of.ensures

pub returns-in-Ok-try_get_matches_from-clause-named : goal.returns-in-Ok-try_get_matches_from-clause-named
returns-in-Ok-try_get_matches_from-clause-named c =
    let words : List Text = map (λ s. s.now) c.args.words.now in
    let m = c.in-Ok-try_get_matches_from.matches in
    let Has : App → Type 0 = λ a. HasMatchesOf a words m in
    let same : rows_of (found_of m) ≡ matches_of line_check_app words = (subst Has c.in-Ok.ensures c.in-Ok-try_get_matches_from.ensures.matches refl).0 in
    c.value_of.ensures ∙ ap (first_of (codes "file")) same

pub returns-in-Ok-try_get_matches_from-clause-schema : goal.returns-in-Ok-try_get_matches_from-clause-schema
returns-in-Ok-try_get_matches_from-clause-schema c =
    let words : List Text = map (λ s. s.now) c.args.words.now in
    let m = c.in-Ok-try_get_matches_from.matches in
    let Has : App → Type 0 = λ a. HasMatchesOf a words m in
    let same : rows_of (found_of m) ≡ matches_of line_check_app words = (subst Has c.in-Ok.ensures c.in-Ok-try_get_matches_from.ensures.matches refl).0 in
    c.is_set.ensures ∙ ap (λ rows. is_set (first_of (codes "schema") rows)) same

pub returns-in-Ok-try_get_matches_from-clause-taken : goal.returns-in-Ok-try_get_matches_from-clause-taken
returns-in-Ok-try_get_matches_from-clause-taken c =
    let words : List Text = map (λ s. s.now) c.args.words.now in
    let Fails : App → Type 0 = λ a. is_simple_and_free a ≡ true → fault_of a words ≡ [] in
    subst Fails c.in-Ok.ensures c.in-Ok-try_get_matches_from.ensures.kinds refl
