use Rattle.std.proofs.Common.{rules}
use Rattle.plant_http_requests.specs.declared.reading.HeadEnd.TheVariants as end
use Rattle.plant_http_requests.proofs.HeadEnds.{known_whole}
use Rattle.plant_http_requests.proofs.reading.read_head.Goals as goal

pub returns-in-Some-clause-end : goal.returns-in-Some-clause-end
returns-in-Some-clause-end g c = known_whole _ _ c.loop-bytes.bytes.items (end.Found c.in-Some.n) c.loop-bytes.invariant.0 (search rules)

pub returns-then-len-eq0-clause-end : goal.returns-then-len-eq0-clause-end
returns-then-len-eq0-clause-end g c =
    known_whole _ (g.R.Read.remaining c.take_piece.new.reader) c.take_piece.new.bytes.items end.Nothing (search rules) (search rules)

pub returns-else-len-eq0-clause-end : goal.returns-else-len-eq0-clause-end
returns-else-len-eq0-clause-end g c =
    known_whole _ (g.R.Read.remaining c.take_piece.new.reader) c.take_piece.new.bytes.items end.Early (search rules) (search rules)

pub returns-in-Some-head_length-clause-end : goal.returns-in-Some-head_length-clause-end
returns-in-Some-head_length-clause-end g c = known_whole _ _ c.loop-bytes.bytes.items (end.Found c.in-Some-head_length.n) c.loop-bytes.invariant.0 (search rules)

pub returns-in-None-clause-end : goal.returns-in-None-clause-end
returns-in-None-clause-end g c = known_whole _ _ c.loop-bytes.bytes.items end.TooLong c.loop-bytes.invariant.0 (search rules)
