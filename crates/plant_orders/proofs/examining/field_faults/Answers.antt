use Rattle.std.proofs.Common.{◌∙◌, ap, take_all}
use Rattle.csv.specs.Records.{fields_of}
use Rattle.plant_orders.specs.{field_faults}
use Rattle.plant_orders.proofs.FaultsOfFields.{field_faults_added}
use Rattle.plant_orders.proofs.examining.field_faults.Goals as goal

pub loop-kind-preserved : goal.loop-kind-preserved
loop-kind-preserved c = field_faults_added c.args.number (fields_of c.args.row.now) c.args.kinds.now c.loop-kind.kind-index _ _ _ c.loop-kind-test.true c.loop-kind.invariant c.in_ok-add_field_fault.ensures

pub returns : goal.returns
returns c = c.loop-kind.invariant ∙ ap (field_faults c.args.number (fields_of c.args.row.now)) (take_all c.loop-kind.kind-index c.args.kinds.now c.loop-kind-test.false)
