use Rattle.desk_cli.proofs.NumeralsAreRead.{number_read, number_unread}
use Rattle.desk_cli.proofs.values.number_in.Goals as goal

pub returns-then-number-greatest : goal.returns-then-number-greatest
returns-then-number-greatest c =
    let read = c.in-Ok.ensures.value in
    number_read c.args.least c.args.greatest c.in-Ok.number c.args.text.now read.0.0.0 read.0.1 c.if-least-number.true c.if-number-greatest.true

pub returns-in-Err : goal.returns-in-Err
returns-in-Err c = number_unread c.args.least c.args.greatest c.args.text.now c.ranges.greatest.fits c.in-Err.ensures.value.0
