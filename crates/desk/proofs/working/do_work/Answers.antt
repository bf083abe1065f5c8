use Rattle.desk.proofs.working.do_work.Goals as goal

pub returns-in-Task-clause-gives : goal.returns-in-Task-clause-gives
returns-in-Task-clause-gives g c = rw c.in-Task.is c.perform_task.ensures.gives

pub returns-in-Serve-clause-gives : goal.returns-in-Serve-clause-gives
returns-in-Serve-clause-gives g c = rw c.in-Serve.is c.serve_store.ensures.gives
