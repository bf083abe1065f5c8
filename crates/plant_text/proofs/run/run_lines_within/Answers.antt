use Rattle.plant_text.proofs.RunCrashStates.{run_crash_states}
use Rattle.plant_text.proofs.run.run_lines_within.Goals as goal

pub returns-clause-ends : goal.returns-clause-ends
returns-clause-ends g c =
    let ran = c.run_pieces.ensures.ends in
    let keeper = g.K.Keeper in
    let now = c.run_pieces.new.keeper in (
      ran.0,
      ran.1,
      λ h s represented. let ended = ran.2 h s represented in (
        ended,
        run_crash_states c.args.most (keeper.schema c.args.keeper.now) s ran.0 _ _ _ (keeper.represents now) (keeper.shut now) (keeper.crash_states now) c.run_pieces.result
            (λ is_open t represents. g.met.K.Keeper.open_crash_state now t h is_open represents) ended,
      ),
    )
