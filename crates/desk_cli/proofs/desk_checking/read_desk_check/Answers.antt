use Rattle.std.proofs.Common.{◌≡◌, ◌∙◌, List, [], true, map, subst, ap, sym, refl, codes, option_map}
use Rattle.clap.specs.Kinds.{HasKind}
use Rattle.clap.specs.Words.{App, HasMatchesOf, Text, fault_of, first_of, found_of, is_simple_and_free, matches_of, rows_of}
use Rattle.desk_cli.specs.{desk_check_app, is_set}
use Rattle.desk_cli.proofs.RefusalKinds.{refusal_by}
use Rattle.desk_cli.proofs.UncheckedRefusals.{lacking, refused_so}
use Rattle.desk_cli.proofs.desk_checking.read_desk_check.Goals as goal

pub returns-clause-refused : goal.returns-clause-refused
returns-clause-refused c =
    let words : List Text = map (λ s. s.now) c.args.words.now in
    let Fails : App → Type 0 = λ a. is_simple_and_free a ≡ true → HasKind (fault_of a words) c.in-Err.error in
    refused_so words c.refusal_of.result (refusal_by (fault_of desk_check_app words) c.refusal_of.result c.in-Err.error (subst Fails c.in-Ok.ensures c.in-Err.ensures.kinds refl) c.refusal_of.ensures)

pub returns-in-Ok-try_get_matches_from-clause-refused : goal.returns-in-Ok-try_get_matches_from-clause-refused
returns-in-Ok-try_get_matches_from-clause-refused c =
    let words : List Text = map (λ s. s.now) c.args.words.now in
    let m = c.in-Ok-try_get_matches_from.matches in
    let Has : App → Type 0 = λ a. HasMatchesOf a words m in
    let same : rows_of (found_of m) ≡ matches_of desk_check_app words = (subst Has c.in-Ok.ensures c.in-Ok-try_get_matches_from.ensures.matches refl).0 in
    lacking words c.broken.result (sym (ap (first_of (codes "file")) same) ∙ sym c.value_of.ensures ∙ ap (option_map (λ s. s.now)) c.in-None.is) c.broken.ensures

pub returns-in-Some-clause-file : goal.returns-in-Some-clause-file
returns-in-Some-clause-file c =
    let words : List Text = map (λ s. s.now) c.args.words.now in
    let m = c.in-Ok-try_get_matches_from.matches in
    let Has : App → Type 0 = λ a. HasMatchesOf a words m in
    let same : rows_of (found_of m) ≡ matches_of desk_check_app words = (subst Has c.in-Ok.ensures c.in-Ok-try_get_matches_from.ensures.matches refl).0 in
    sym (ap (first_of (codes "file")) same) ∙ sym c.value_of.ensures ∙ ap (option_map (λ s. s.now)) c.in-Some.is

pub returns-in-Some-clause-json : goal.returns-in-Some-clause-json
returns-in-Some-clause-json c =
    let words : List Text = map (λ s. s.now) c.args.words.now in
    let m = c.in-Ok-try_get_matches_from.matches in
    let Has : App → Type 0 = λ a. HasMatchesOf a words m in
    let same : rows_of (found_of m) ≡ matches_of desk_check_app words = (subst Has c.in-Ok.ensures c.in-Ok-try_get_matches_from.ensures.matches refl).0 in
    c.is_set.ensures ∙ ap (λ rows. is_set (first_of (codes "json") rows)) same

pub returns-in-Some-clause-taken : goal.returns-in-Some-clause-taken
returns-in-Some-clause-taken c =
    let words : List Text = map (λ s. s.now) c.args.words.now in
    let Fails : App → Type 0 = λ a. is_simple_and_free a ≡ true → fault_of a words ≡ [] in
    subst Fails c.in-Ok.ensures c.in-Ok-try_get_matches_from.ensures.kinds refl
