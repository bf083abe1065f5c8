-- Two facts of one call.
use Rattle.plant_trace.specs.HoldsIfHonest.{HoldsIfHonest}

pub both_hold : {S : Type 0} {honest : S → Type 0} {kept frame : S → S → Type 0} {s t : S} {P Q : Type 0} → HoldsIfHonest honest kept frame s t P → HoldsIfHonest honest kept frame s t Q → HoldsIfHonest honest kept frame s t (P × Q)
both_hold a b = record { always = a.always; before = a.before; same = a.same; holds = λ h. (a.holds h, b.holds h) }
