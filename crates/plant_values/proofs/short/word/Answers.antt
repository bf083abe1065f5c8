use Rattle.std.proofs.Common.{◌∙◌}
use Rattle.plant_values.proofs.BytesCompareAsNumbers.{eight_spell}
use Rattle.plant_values.proofs.short.word.Goals as goal

pub returns : goal.returns
returns c = c.from_be_bytes.ensures ∙ eight_spell c.args.bytes.now c.args.at c.requires
