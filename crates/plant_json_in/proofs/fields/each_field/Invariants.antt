use Rattle.std.proofs.Common.{◌≡◌, drop, length}
use Rattle.serde_json.specs.View.{view}
use Rattle.plant_json_in.specs.{fields_of}
use Rattle.plant_json_in.proofs.MembersByInduction.{so_far}
use Rattle.plant_json_in.proofs.fields.each_field.Given as goal

abbrev pub invariant-loop-member : goal.invariant-loop-member
invariant-loop-member l = record {
  length : length l.fields.items ≡ l.member-index;
  later : fields_of l.members (view l.value) ≡ so_far l.fields.items (fields_of (drop l.member-index l.members) (view l.value));
}
