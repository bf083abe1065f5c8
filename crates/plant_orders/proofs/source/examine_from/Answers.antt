use Rattle.std.proofs.Common.{sym, ◌∙◌, ◌≡◌, Ok}
use Rattle.plant_orders.specs.{read_count}
use Rattle.plant_orders.proofs.PrefixesDecide.{read_into_nothing, was_read}
use Rattle.plant_orders.proofs.RowsExamined.{examined_of_prefix, told_of_reading}
use Rattle.plant_orders.proofs.source.examine_from.Goals as goal

pub returns-in-Ok-clause-examined : goal.returns-in-Ok-clause-examined
returns-in-Ok-clause-examined g c =
    let was : read_count c.read_to_end.result ≡ Ok c.in-Ok._count = cc in
    let gave = was_read c.read_to_end.result c.in-Ok._count _ was c.read_to_end.ensures.bytes in
    let read = read_into_nothing _ _ _ c.deref.result.now c.new-bytes.ensures.items c.deref.ensures.value gave in
    examined_of_prefix c.take-prefix.result.limit c.take-prefix.ensures.limit c.examine_read.result (g.R.Read.remaining c.args.reader.now) c.deref.result.now
    c.examine_read.ensures.examined (rw c.take-prefix.ensures.inner at read)

pub returns-clause-fault : goal.returns-clause-fault
returns-clause-fault g c = told_of_reading c.read_to_end.result c.in-Err.fault (sym c.read_count.ensures ∙ c.in-Err.is)
