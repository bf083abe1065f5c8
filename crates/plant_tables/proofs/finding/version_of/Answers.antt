use Rattle.std.proofs.Common.{rules, ◌≡◌, None, true, pos, w64}
use Rattle.std.proofs.lemmas.Int.{to_z-of_z}
use mir.Val.{SFits}
use Rattle.plant_tables.proofs.OneVersion.{reported_valid}
use Rattle.plant_tables.proofs.finding.version_of.Goals as goal

pub returns-in_err-meta-clause-none : goal.returns-in_err-meta-clause-none
returns-in_err-meta-clause-none c none valid =
    let unread : c.numbers_of.result ≡ None = search rules in
    c.numbers_of.ensures.none unread (record { k = pos 1; schema = valid.schema; seq = valid.seq; at = valid.at }) valid.is

pub returns-then-is_valid-clause-some : goal.returns-then-is_valid-clause-some
returns-then-is_valid-clause-some c =
    let reported : c.is_valid.result ≡ true = search rules in
    let fits : SFits w64 c.in_ok-meta.meta.schema = search rules in
    rw (to_z-of_z w64 c.in_ok-meta.meta.schema fits) (reported_valid c.args.row.now c.in_ok-meta.meta c.in_ok-meta.ensures.some (c.is_valid.ensures.0 reported))
