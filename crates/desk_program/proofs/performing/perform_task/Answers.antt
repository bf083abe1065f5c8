use Rattle.desk_program.proofs.performing.perform_task.Goals as goal

pub returns-in-Init-clause-gives : goal.returns-in-Init-clause-gives
returns-in-Init-clause-gives g c = rw c.in-Init.is (c.perform_init.ensures.printed, c.perform_init.ensures.gives)

pub returns-in-Run-clause-gives : goal.returns-in-Run-clause-gives
returns-in-Run-clause-gives g c = rw c.in-Run.is c.perform_run.ensures.gives

pub returns-in-Import-clause-gives : goal.returns-in-Import-clause-gives
returns-in-Import-clause-gives g c =
    let reported = c.perform_import.ensures.gives in
    let import_metadata = c.metadata_of_import-import_metadata.ensures in
    rw c.in-Import.is (rw import_metadata at reported)

pub returns-in-Trace-clause-gives : goal.returns-in-Trace-clause-gives
returns-in-Trace-clause-gives g c = rw c.in-Trace.is c.perform_question.ensures.gives

pub returns-in-Record-clause-gives : goal.returns-in-Record-clause-gives
returns-in-Record-clause-gives g c = rw c.in-Record.is c.perform_question-in-Record.ensures.gives

pub returns-in-Verify-clause-gives : goal.returns-in-Verify-clause-gives
returns-in-Verify-clause-gives g c = rw c.in-Verify.is (c.perform_verify.ensures.printed, c.perform_verify.ensures.gives)
