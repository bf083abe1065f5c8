use Rattle.plant_questions.proofs.PrefetchedPage.{page_read}
use Rattle.plant_questions.proofs.prefetch.ReadAhead.put.Goals as goal

pub returns-clause-valid : goal.returns-clause-valid
returns-clause-valid g c all rise is = rw (c.end_of-self.ensures, c.as_slice.ensures) (page_read g.R.OfLot.lot_of all c.args.self.now.last c.args.page rise is)
