use Rattle.std.proofs.Common.{◌≡◌, ◌∙◌, List, [], true, map, subst, ap, refl, codes}
use Rattle.clap.specs.Kinds.{HasKind}
use Rattle.clap.specs.Words.{App, HasMatchesOf, Text, fault_of, first_of, found_of, is_simple, is_simple_and_free, matches_of, rows_of}
use Rattle.genealogy_picture.proofs.RefusalKinds.{refusal_by}
use Rattle.genealogy_picture.specs.{node_asked, picture_app, format_of}
use Rattle.genealogy_picture.proofs.words.read_words.Goals as goal

simple_and_free : is_simple_and_free picture_app ≡ true
simple_and_free = refl

simple : is_simple picture_app ≡ true
simple = refl

pub returns-in-Err-clause-refused : goal.returns-in-Err-clause-refused
returns-in-Err-clause-refused c =
    let words : List Text = map (λ s. s.now) c.args.words.now in
    let Fails : App → Type 0 = λ a. is_simple_and_free a ≡ true → HasKind (fault_of a words) c.in-Err.error in
    refusal_by (fault_of picture_app words) c.refusal_of.result c.in-Err.error (subst Fails c.in-Ok.ensures c.in-Err.ensures.kinds simple_and_free) c.refusal_of.ensures

pub returns-in-Ok-try_get_matches_from-clause-named : goal.returns-in-Ok-try_get_matches_from-clause-named
returns-in-Ok-try_get_matches_from-clause-named c =
    let words : List Text = map (λ s. s.now) c.args.words.now in
    let m = c.in-Ok-try_get_matches_from.matches in
    let Has : App → Type 0 = λ a. HasMatchesOf a words m in
    let same : rows_of (found_of m) ≡ matches_of picture_app words
    = (subst Has c.in-Ok.ensures c.in-Ok-try_get_matches_from.ensures.matches simple).0 in
    c.value_of.ensures ∙ ap (first_of (codes "file")) same

pub returns-in-Ok-try_get_matches_from-clause-format : goal.returns-in-Ok-try_get_matches_from-clause-format
returns-in-Ok-try_get_matches_from-clause-format c =
    let words : List Text = map (λ s. s.now) c.args.words.now in
    let m = c.in-Ok-try_get_matches_from.matches in
    let Has : App → Type 0 = λ a. HasMatchesOf a words m in
    let same : rows_of (found_of m) ≡ matches_of picture_app words
    = (subst Has c.in-Ok.ensures c.in-Ok-try_get_matches_from.ensures.matches simple).0 in
    c.format_of.ensures ∙ ap format_of same

pub returns-in-Ok-try_get_matches_from-clause-asked : goal.returns-in-Ok-try_get_matches_from-clause-asked
returns-in-Ok-try_get_matches_from-clause-asked c =
    let words : List Text = map (λ s. s.now) c.args.words.now in
    let m = c.in-Ok-try_get_matches_from.matches in
    let Has : App → Type 0 = λ a. HasMatchesOf a words m in
    let same : rows_of (found_of m) ≡ matches_of picture_app words
    = (subst Has c.in-Ok.ensures c.in-Ok-try_get_matches_from.ensures.matches simple).0 in
    c.node_asked.ensures ∙ ap node_asked same

pub returns-in-Ok-try_get_matches_from-clause-taken : goal.returns-in-Ok-try_get_matches_from-clause-taken
returns-in-Ok-try_get_matches_from-clause-taken c =
    let words : List Text = map (λ s. s.now) c.args.words.now in
    let Fails : App → Type 0 = λ a. is_simple_and_free a ≡ true → fault_of a words ≡ [] in
    subst Fails c.in-Ok.ensures c.in-Ok-try_get_matches_from.ensures.kinds simple_and_free
