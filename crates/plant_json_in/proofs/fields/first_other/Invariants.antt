use Rattle.std.proofs.Common.{◌≡◌}
use Rattle.serde_json.specs.View.{members_view}
use Rattle.plant_json_in.specs.{first_other}
use Rattle.plant_json_in.proofs.fields.first_other.Given as goal

abbrev pub invariant-loop-name : goal.invariant-loop-name
invariant-loop-name l = first_other l.some l.more (members_view l.fn.map.entries) ≡ first_other l.some l.more (members_view l.name-iterator)
