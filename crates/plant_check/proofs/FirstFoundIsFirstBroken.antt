-- The first rule that is found is the first that is broken.
use Rattle.std.proofs.Common.{◌≡◌, ◌∙◌, Bool, true, false, cond, List, [], ◌∷◌, Some, refl, ap, sym, not, filter, find, if◌then◌else◌}
use Rattle.plant_tables.specs.{rows_from, rows_listed}
use Rattle.plant_check_rules.specs.{obeys, tested_rules, broken_rows, first_broken, first_broken_of, Rule}
use Rattle.plant_check_rules.specs.declared.rule.Rule.TheVariants as rule
use Rattle.plant_check.specs.{head, IsFirstFound}
use Rattle.plant_check.specs.declared.finding.Findings.TheVariants as findings

head_found : (passes : Rule → Bool) (rules : List Rule) → head (filter passes rules) ≡ find passes rules
head_found passes [] = refl
head_found passes (tested ∷ rest) = elim (passes tested) as (λ b. head (cond b (tested ∷ filter passes rest) (filter passes rest)) ≡ cond b (Some tested) (find passes rest)) [
  | true ↦ refl
  | false ↦ head_found passes rest
]

pub first_found : IsFirstFound
unfolding first_broken first_broken_of
first_found x findings.NoMeta none = λ i. if sym none i then broken_rows (rows_from x) else Some rule.Tables
first_found x (findings.Values reported) is = λ i. if sym is.0 i then broken_rows (sym is.1 i) else Some rule.Tables
first_found x (findings.Rows t) is =
    ap head is.2.rules ∙ head_found (λ r. not (obeys r (rows_listed t.rows))) tested_rules ∙ (λ i. if sym is.0 i then broken_rows (sym is.1 i) else Some rule.Tables)
