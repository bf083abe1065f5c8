use Rattle.desk_file.proofs.working.work_over.Goals as goal

pub returns-in-Ok-clause-done : goal.returns-in-Ok-clause-done
returns-in-Ok-clause-done g c =
    let worked = c.work_and_close.ensures in
    record {
      before = c.in-Ok.connection;
      after = worked.0;
      store = worked.1;
      opened = c.in-Ok.ensures.opens;
      just = c.in-Ok.ensures.just;
      given = worked.2;
      honest = worked.3;
      undone = worked.4;
      closed = worked.5;
    }
