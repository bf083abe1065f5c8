-- Rows break no rule exactly where they pass the test of each rule.
use Rattle.std.proofs.Common.{◌≡◌, Bool, true, false, cond, List, [], ◌∷◌, Option, Some, None, is_some, refl, ◌&&◌, not, find, if◌then◌else◌, Decides}
use Rattle.std.proofs.lemmas.Bool.{false≢true}
use Rattle.std.specs.List.{AllByRecursion, list_all}
use Rattle.plant_view.proofs.ListLemmas.{all_of}
use Rattle.plant_tables_columns.specs.{only_meta}
use Rattle.plant_tables.specs.{contents_loaded, Loaded, Rows, rows_from}
use Rattle.plant_check_rules.specs.{obeys, tested_rules, first_broken_of, broken_rows, first_broken, Rule}
use Rattle.plant_check_rules.specs.declared.rule.Rule.TheVariants as rule
use Rattle.plant_check_laws.proofs.ExactTests.{passing, in_words, all_exact}

-- they obey each rule
abbrev pub PassesAll : Rows → Type 0
PassesAll r = (t : Rule) → obeys t r ≡ true

-- and so each of a list
of_each : (r : Rows) → AllByRecursion (λ t. obeys t r ≡ true) tested_rules → PassesAll r
of_each r a rule.Tables = refl
of_each r a rule.Values = refl
of_each r a rule.Classes = a.0
of_each r a rule.Recipes = a.1.0
of_each r a rule.Orders = a.1.1.0
of_each r a rule.Batches = a.1.1.1.0
of_each r a rule.Stocks = a.1.1.1.1.0
of_each r a rule.Lots = a.1.1.1.1.1.0
of_each r a rule.Movements = a.1.1.1.1.1.1.0
of_each r a rule.Events = a.1.1.1.1.1.1.1.0
of_each r a rule.Numbers = a.1.1.1.1.1.1.1.1.0
of_each r a rule.Descent = a.1.1.1.1.1.1.1.1.1.0
of_each r a rule.Receipts = a.1.1.1.1.1.1.1.1.1.1.0
of_each r a rule.Recalls = a.1.1.1.1.1.1.1.1.1.1.1.0

all_passed : (r : Rows) → Decides (list_all (λ t. obeys t r) tested_rules) (PassesAll r)
all_passed r = in_words (all_exact (λ t. obeys t r) (λ t. obeys t r ≡ true) (λ t. passing (obeys t r)) tested_rules) (of_each r) (λ p. all_of (λ t. obeys t r ≡ true) p tested_rules)

-- ---- no rule is broken exactly where facts hold

abbrev NoneBroken : Option Rule → Type 0 → Type 0
NoneBroken o P = (o ≡ None → P) × (P → o ≡ None)

-- of the rules of a list
none_found : (obeyed : Rule → Bool) (rules : List Rule) → NoneBroken (find (λ t. not (obeyed t)) rules) (list_all obeyed rules ≡ true)
none_found obeyed [] = ((λ e. refl), (λ e. refl))
none_found obeyed (t ∷ rest) = at (obeyed t) (none_found obeyed rest)
  where
    at : (b : Bool) → NoneBroken (find (λ u. not (obeyed u)) rest) (list_all obeyed rest ≡ true)
        → NoneBroken (cond (not b) (Some t) (find (λ u. not (obeyed u)) rest)) ((b && list_all obeyed rest) ≡ true)
    at true more = more
    at false more = ((λ e. absurd (cc)), (λ e. absurd (false≢true e)))

pub rules_passed : (r : Rows) → NoneBroken (first_broken_of r) (PassesAll r)
unfolding first_broken_of
rules_passed r =
    let none = none_found (λ t. obeys t r) tested_rules in
    let all = all_passed r in
    ((λ e. all.0 (none.0 e)), (λ p. none.1 (all.1 p)))

-- of what was loaded: table meta has its row, and the rows break no rule
pub tables_passed : (x : Loaded) → NoneBroken (first_broken x) ((is_some (only_meta (contents_loaded x 0)) ≡ true) × (broken_rows (rows_from x) ≡ None))
unfolding first_broken
tables_passed x = at (is_some (only_meta (contents_loaded x 0)))
  where
    at : (b : Bool) → NoneBroken (if b then broken_rows (rows_from x) else Some rule.Tables) ((b ≡ true) × (broken_rows (rows_from x) ≡ None))
    at true = ((λ e. (refl, e)), (λ p. p.1))
    at false = ((λ e. absurd (cc)), (λ p. absurd (false≢true p.0)))
