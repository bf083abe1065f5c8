use Rattle.plant_http.proofs.ShortTexts.{text_is_short}
use Rattle.plant_http.proofs.fixed_text.bytes_of_text.Goals as goal

pub returns-clause-short : goal.returns-clause-short
returns-clause-short c = rw c.as_bytes.ensures.value (text_is_short c.args.text.now c.as_bytes.ensures.valid)
