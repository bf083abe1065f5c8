use Rattle.std.proofs.Common.{sym, ◌∙◌, ◌≡◌, Ok}
use Rattle.plant_orders.specs.{read_count}
use Rattle.plant_orders.proofs.PrefixesDecide.{of_unread, read_into_nothing, reported_of_prefix, was_read}
use Rattle.plant_orders.proofs.source.orders_from.Goals as goal

pub returns-in-Ok : goal.returns-in-Ok
returns-in-Ok g c =
    let was : read_count c.read_to_end.result ≡ Ok c.in-Ok._count = cc in
    let gave = was_read c.read_to_end.result c.in-Ok._count _ was c.read_to_end.ensures.bytes in
    let read = read_into_nothing _ _ _ c.deref.result.now c.new-bytes.ensures.items c.deref.ensures.value gave in
    let reported = reported_of_prefix c.take-prefix.result.limit c.take-prefix.ensures.limit c.orders_in.result (g.R.Read.remaining c.args.reader.now) c.deref.result.now
    c.orders_in.ensures.orders c.orders_in.ensures.fault (rw c.take-prefix.ensures.inner at read) in
    record { orders = reported.0; fault = reported.1 }

pub returns-clause-fault : goal.returns-clause-fault
returns-clause-fault g c = of_unread (g.R.Read.remaining c.args.reader.now) c.read_to_end.result c.in-Err.fault (sym c.read_count.ensures ∙ c.in-Err.is)
