use Rattle.plant_values.proofs.Ascii.{id_is_ascii}
use Rattle.plant_values.proofs.values.Id.as_str.Goals as goal

pub ascii_str-requires : goal.ascii_str-requires
ascii_str-requires c = rw c.as_bytes.ensures.value (id_is_ascii _ c.as_bytes.ensures.valid)
