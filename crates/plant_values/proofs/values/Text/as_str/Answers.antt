use Rattle.plant_values.proofs.Ascii.{text_is_ascii}
use Rattle.plant_values.proofs.values.Text.as_str.Goals as goal

pub ascii_str-requires : goal.ascii_str-requires
ascii_str-requires c = rw c.as_bytes.ensures.value (text_is_ascii _ c.as_bytes.ensures.valid)
