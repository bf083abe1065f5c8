-- The fault of a view that a trace's is.
use Rattle.plant_trace.specs.{TraceFault}
use Rattle.plant_trace.specs.declared.fault.TraceFault.TheVariants as trace
use Rattle.plant_view.specs.declared.fault.ViewFault.{ViewFault}
use Rattle.plant_view.specs.declared.fault.ViewFault.TheVariants as view

-- the source of a trace over a view is the view
abbrev pub traced_fault : {F : Type 0} → TraceFault F → ViewFault F
traced_fault (trace.Edges f) = view.View f
traced_fault trace.Memory = view.Memory
