use Rattle.desk_program.proofs.ImportEnds.{given_of, known_bytes}
use Rattle.desk_program.proofs.importing_orders.take_file.Goals as goal

pub returns-clause-ends : goal.returns-clause-ends
returns-clause-ends g c = λ h s represents.
    let given = c.orders_from-given in
    let file = given_of (g.R.Read.remaining c.args.reader.now) given.result given.ensures.orders given.ensures.fault in
    (file.0, file.1, (given.result, file.2, c.take_orders.ensures.taken h s represents))

pub returns-clause-taken : goal.returns-clause-taken
returns-clause-taken g c = λ h s represents.
    let given = c.orders_from-given in
    let file = given_of (g.R.Read.remaining c.args.reader.now) given.result given.ensures.orders given.ensures.fault in
    known_bytes (g.R.Read.remaining c.args.reader.now) _ (file.0, file.1, (given.result, file.2, c.take_orders.ensures.taken h s represents))
