use Rattle.desk.proofs.working.serve_at.Goals as goal

pub returns-clause-serves : goal.returns-clause-serves
returns-clause-serves g c = (c.terms_of-terms.result, c.terms_of-terms.ensures, c.serve_listening.ensures.serves)
