use Rattle.plant_text.proofs.KnownBytes.{wrote_more}
use Rattle.plant_text.proofs.writes.write_text.Goals as goal

pub loop-rest-preserved : goal.loop-rest-preserved
loop-rest-preserved g c =
    let inv = c.loop-rest.invariant in
    rw c.split_at.ensures.back (wrote_more _ _ _ c.args.text.now inv.0 c.loop-rest.rest.now c.in-Ok.n inv.1 inv.2 c.in-Ok.ensures.bytes)
