use Rattle.desk_cli.proofs.PlainWordsMean.{plain_words}
use Rattle.desk_cli.proofs.laws.plain_words_law.Goals as goal

pub returns : goal.returns
returns c = plain_words
