use Rattle.std.proofs.Common.{◌≡◌, ◌<◌, ◌+◌, ap, subst, arith, rules}
use Rattle.sqlite.specs.Held.{state}
use Rattle.sqlite.specs.State.{HasCleanDisk}
use Rattle.sqlite.proofs.StateLemmas.{survives_weaker}
use Rattle.sql_tables.proofs.TransactionEnds.{err_always}
use Rattle.plant_base.specs.{newest_schema}
use Rattle.plant_tables.specs.{IsAtOf}
use Rattle.plant_migrate.specs.{migrated_by}
use Rattle.plant_migrate.proofs.StepsCompose.{goes_on, cut_within, could_first, weaker, survives_step}
use Rattle.plant_migrate.proofs.steps.migrate_by.Goals as goal

pub returns-in_err-migrate_one-clause-after_failure : goal.returns-in_err-migrate_one-clause-after_failure
returns-in_err-migrate_one-clause-after_failure g c clean settled t can =
    let version = c.args.version in
    let position = c.args.position.now in
    let edges = c.args.edges.now in
    let done = c.loop-done.done in
    let old = state g.S.Store c.args.conn.now in
    let mid = state g.S.Store c.loop-done.conn in
    let new = state g.S.Store c.migrate_one.new.conn in
    let was = c.loop-done.invariant in
    let early : HasCleanDisk mid = omega (arith, clean, c.migrate_one.ensures.survives.clean) in
    let few : done < c.args.steps = search rules in
    let reached = was.reached early settled t can in
    err_always c.from_residual.result _
    (cut_within version position edges c.requires.known c.requires.edges done c.args.steps old mid new t few (λ none. ap (λ held. (state g.S.Store held).now) (was.first none)) reached.1
    (c.in_err-migrate_one.ensures.after_failure clean reached.0 (migrated_by done version position edges t) reached.1.migratable))

pub returns-in_err-migrate_one-clause-survives : goal.returns-in_err-migrate_one-clause-survives
returns-in_err-migrate_one-clause-survives g c =
    let version = c.args.version in
    let position = c.args.position.now in
    let edges = c.args.edges.now in
    let done = c.loop-done.done in
    let old = state g.S.Store c.args.conn.now in
    let mid = state g.S.Store c.loop-done.conn in
    let new = state g.S.Store c.migrate_one.new.conn in
    let was = c.loop-done.invariant in
    let few : done < c.args.steps = search rules in
    let below : version + done < newest_schema = omega (arith, few, c.requires.newest) in
    survives_weaker old new _ _ (λ clean trees made. weaker version position edges c.requires.known c.requires.edges (done + 1) c.args.steps old trees (omega (arith, few)) made)
    (survives_step version position edges c.requires.known c.requires.edges done old mid new below (λ none. ap (λ held. (state g.S.Store held).now) (was.first none)) was.free (λ early some settled t can. (was.reached early settled t can).1) was.survives c.migrate_one.ensures.survives)

pub loop-done-preserved : goal.loop-done-preserved
loop-done-preserved g c =
    let version = c.args.version in
    let position = c.args.position.now in
    let edges = c.args.edges.now in
    let done = c.loop-done.done in
    let old = state g.S.Store c.args.conn.now in
    let mid = state g.S.Store c.loop-done.conn in
    let new = state g.S.Store c.migrate_one.new.conn in
    let was = c.loop-done.invariant in
    let few : done < c.args.steps = search rules in
    let below : version + done < newest_schema = omega (arith, few, c.requires.newest) in
    record {
      mode = c.migrate_one.ensures.mode;
      first = λ none. absurd (omega (arith, none));
      free = λ some. could_first version position edges c.requires.known c.requires.edges done old mid (λ none. ap (λ held. (state g.S.Store held).now) (was.first none)) was.free c.in_ok-migrate_one.ensures.could;
      reached = λ clean settled t can.
          let early : HasCleanDisk mid = omega (arith, clean, c.migrate_one.ensures.survives.clean) in
          let reached = was.reached early settled t can in
          let at = c.in_ok-migrate_one.ensures.migrated clean reached.0 (migrated_by done version position edges t) reached.1.migratable in
          (at.0.settled, goes_on version position edges c.requires.known c.requires.edges done old.now mid.now new.now t reached.1 at.0.holds at.1);
      survives = survives_step version position edges c.requires.known c.requires.edges done old mid new below (λ none. ap (λ held. (state g.S.Store held).now) (was.first none)) was.free (λ early some settled t can. (was.reached early settled t can).1) was.survives c.migrate_one.ensures.survives;
    }

pub returns-clause-migrated : goal.returns-clause-migrated
returns-clause-migrated g c clean settled t can =
    let old = state g.S.Store c.args.conn.now in
    let new = state g.S.Store c.loop-done.conn in
    let all : c.loop-done.done ≡ c.args.steps = search rules in
    let reached = c.loop-done.invariant.reached clean settled t can in
    let at : IsAtOf (c.args.version + c.loop-done.done) new (migrated_by c.loop-done.done c.args.version c.args.position.now c.args.edges.now t) = record { settled = reached.0; holds = reached.1.migratable.holds } in
    (subst (λ k. IsAtOf (c.args.version + k) new (migrated_by k c.args.version c.args.position.now c.args.edges.now t)) all at, reached.1.others)
