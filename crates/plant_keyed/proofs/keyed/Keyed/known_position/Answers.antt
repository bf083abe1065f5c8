use Rattle.std.proofs.Common.{◌≡◌}
use Rattle.sqlite.specs.Held.{state}
use Rattle.plant_view.specs.{position_of}
use Rattle.plant_keyed.specs.{frame_refl, stays_refl}
use Rattle.plant_keyed.proofs.LookupsKeep.{recalled_so}
use Rattle.plant_keyed.proofs.keyed.Keyed.known_position.Goals as goal

pub returns-in-Some-clause-traced : goal.returns-in-Some-clause-traced
returns-in-Some-clause-traced g c =
    let old = state g.S.Store c.args.self.now.conn.now in
    let failed = c.args.self.now.has_failed in
    let cache = c.args.self.now.cache.now in
    recalled_so old old failed failed cache cache (λ s. c.in-Some.position ≡ position_of s) (frame_refl old failed) (stays_refl old failed cache)
    (λ true_of. rw c.in-Some.is at true_of.position)

pub returns-in-None-clause-traced : goal.returns-in-None-clause-traced
returns-in-None-clause-traced g c =
    let reported = c.read_position.ensures.reported in
    record {
      reported = record { always = reported.always; before = reported.before; holds = λ honest true_of. reported.holds honest };
      stays = c.read_position.ensures.stays;
    }
