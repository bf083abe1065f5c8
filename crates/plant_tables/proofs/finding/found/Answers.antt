use Rattle.std.proofs.Common.{rules, ◌≡◌, refl, true, false, ap, subst, subst₂, All, w64}
use Rattle.std.proofs.lemmas.Int.{to_z-of_z}
use mir.Val.{SFits}
use Rattle.sqlite.specs.Does.{lacks_sequence}
use Rattle.sqlite.specs.Held.{state}
use Rattle.sql_tables.specs.{IsFree}
use Rattle.plant_tables.specs.{desk_table_defs}
use Rattle.plant_tables.specs.{IsVersion}
use Rattle.plant_tables.specs.declared.finding.FoundTables.TheVariants as answer
use Rattle.plant_tables.proofs.OneVersion.{are_free, each_free, not_free, one_version, free_reports_nothing}
use Rattle.plant_tables.proofs.finding.found.Goals as goal

pub returns-then-all_free-clause-nothing : goal.returns-then-all_free-clause-nothing
returns-then-all_free-clause-nothing g c =
    let reported : c.all_free.result ≡ true = search rules in
    let free : All (IsFree c.args.conn.now.schema) desk_table_defs = subst₂ (λ schema table_defs. All (IsFree schema) table_defs) c.schema.ensures.value c.desk_table_defs.ensures (c.all_free.ensures.0 reported) in
    let counted : lacks_sequence c.args.conn.now.schema ≡ false = search rules in
    (λ _. are_free c.args.conn.now.schema free counted, λ _. refl)

pub returns-then-all_free-clause-version : goal.returns-then-all_free-clause-version
returns-then-all_free-clause-version g c clean n =
    let reported : c.all_free.result ≡ true = search rules in
    let free : All (IsFree c.args.conn.now.schema) desk_table_defs = subst₂ (λ schema table_defs. All (IsFree schema) table_defs) c.schema.ensures.value c.desk_table_defs.ensures (c.all_free.ensures.0 reported) in
    (λ e. absurd cc, λ v. absurd (free_reports_nothing (state g.S.Store c.args.conn.now).now n free v))

pub returns-in-Some-clause-nothing : goal.returns-in-Some-clause-nothing
returns-in-Some-clause-nothing g c =
    (λ e. absurd cc, λ free. absurd (not_free _ _ _ _ c.schema.ensures.value c.desk_table_defs.ensures c.all_free.ensures (search rules) (each_free c.args.conn.now.schema free)))

pub returns-in-Some-clause-version : goal.returns-in-Some-clause-version
returns-in-Some-clause-version g c clean n =
    let fits : SFits w64 c.in-Some.version = search rules in
    let reported : IsVersion (state g.S.Store c.args.conn.now).now c.in-Some.version = rw c.in-Some.is at (c.in_ok-version.ensures.some clean) in
    rw (to_z-of_z w64 c.in-Some.version fits) (
      λ e. let same : c.in-Some.version ≡ n = cc in subst (IsVersion (state g.S.Store c.args.conn.now).now) same reported,
      λ v. ap (λ k. answer.Version k) (one_version (state g.S.Store c.args.conn.now).now c.in-Some.version n reported v),
    )

pub returns-in-None-clause-nothing : goal.returns-in-None-clause-nothing
returns-in-None-clause-nothing g c =
    (λ e. absurd cc, λ free. absurd (not_free _ _ _ _ c.schema.ensures.value c.desk_table_defs.ensures c.all_free.ensures (search rules) (each_free c.args.conn.now.schema free)))

pub returns-in-None-clause-version : goal.returns-in-None-clause-version
returns-in-None-clause-version g c clean n =
    (λ e. absurd cc, λ v. absurd (c.in_ok-version.ensures.none clean c.in-None.is n v))

pub returns-then-all_free-clause-taken : goal.returns-then-all_free-clause-taken
returns-then-all_free-clause-taken g c other = absurd (other refl)

pub returns-in-Some-clause-taken : goal.returns-in-Some-clause-taken
returns-in-Some-clause-taken g c other free = not_free _ _ _ _ c.schema.ensures.value c.desk_table_defs.ensures c.all_free.ensures (search rules) free

pub returns-in_err-version-clause-free : goal.returns-in_err-version-clause-free
returns-in_err-version-clause-free g c free = absurd (not_free _ _ _ _ c.schema.ensures.value c.desk_table_defs.ensures c.all_free.ensures (search rules) (each_free c.args.conn.now.schema free))

pub returns-in-None-clause-taken : goal.returns-in-None-clause-taken
returns-in-None-clause-taken g c other free = not_free _ _ _ _ c.schema.ensures.value c.desk_table_defs.ensures c.all_free.ensures (search rules) free
