use Rattle.std.proofs.Common.{◌≡◌, ◌≢◌, Err, sym, subst, rules, arith}
use Rattle.std.proofs.lemmas.Result.{IfErr-weaker}
use Rattle.sqlite.specs.Held.{state}
use Rattle.sqlite.specs.State.{HasCleanDisk, Survives}
use Rattle.plant_base.specs.{State}
use Rattle.sql_tables.proofs.TransactionEnds.{IsStore}
use Rattle.sql_tables.specs.declared.fault.StoreFault.TheVariants as fault
use Rattle.plant_questions.specs.declared.reply.DeskFault.TheVariants.{Shut}
use Rattle.plant_desk_store.specs.{HasStepped, IsDurablyAt}
use Rattle.plant_desk_store.proofs.ForeignTablesKept.{others_kept}
use Rattle.plant_desk_store.proofs.ReadingKeepsState.{still_open}
use Rattle.plant_desk_store.proofs.ExecutedCommand.{decided_repeat, undecided}
use Rattle.plant_desk_store.proofs.FaultsOfCalls.{unshut}
use Rattle.plant_desk_store.proofs.executing.execute_on.Goals as goal

pub returns-in_err-decided : goal.returns-in_err-decided
returns-in_err-decided g c =
    let end = c.decide_on.new.connection in
    let old = state g.S.Store c.args.connection.now in
    let new = state g.S.Store end in
    let laws : IsStore new = record { settled = g.met.S.Store.settled end.store; stays = g.met.S.Store.stays end.store; something = g.met.S.Store.survives end.store } in
    let is : c.from_residual.result ≡ Err c.in_err-decided.field-0.0 = search rules in
    subst (HasStepped c.args.envelope.now old new) (sym is) (undecided old new c.args.envelope.now c.in_err-decided.field-0.0 laws c.requires c.in_err-decided.ensures)

pub returns : goal.returns
returns g c =
    let held = c.decide_on.new.connection in
    let old = state g.S.Store c.args.connection.now in
    let mid = state g.S.Store held in
    let new = state g.S.Store c.execute_decided.new.connection in
    let reads = c.decide_on.ensures.reads in
    let decided = c.in_ok-decided.ensures in
    let did = c.execute_decided.ensures.written in
    let laws : IsStore mid = record { settled = g.met.S.Store.settled held.store; stays = g.met.S.Store.stays held.store; something = g.met.S.Store.survives held.store } in
    let represented : HasCleanDisk new → (s : State) → IsDurablyAt old s → IsDurablyAt mid s = λ clean s at. still_open old mid s at (did.clean clean) (reads.kept (did.clean clean)) reads.crash laws in
    record {
      rests = did.rests;
      clean = λ clean. omega (arith, reads.crash.clean, did.clean clean);
      executed = λ clean s at. did.executed clean s (represented clean s at) (decided.is_live (did.clean clean)) (decided.decided (did.clean clean) s at.represents);
      others = λ clean s at before others.
          did.others clean s (represented clean s at) (decided.is_live (did.clean clean)) (decided.decided (did.clean clean) s at.represents) before (others_kept before old mid others (did.clean clean) (reads.kept (did.clean clean)) reads.crash);
      unshut = IfErr-weaker c.execute_decided.result _ _ (λ f store. subst (λ x. x ≢ Shut) (sym store) (unshut fault.Store)) did.reported;
      no_crash_state_added = λ nothing. rw (c.execute_decided.ensures.untouched nothing) reads.crash;
      repeated = λ clean s represents again. decided_repeat (Survives old new (λ _. ⊥)) s c.args.envelope.now c.in_ok-decided.decided.decision again (decided.decided (did.clean clean) s represents).decides
          (λ n reported. rw (c.execute_decided.ensures.repeated n reported).1 reads.crash);
    }
