use Rattle.std.proofs.Common.{◌∙◌, ◌++◌, ◌∷◌, [], sym, subst, take, arith}
use Rattle.std.proofs.lemmas.Grind.{common_steps}
use Rattle.plant_keeper.specs.{fold}
use Rattle.plant_keeper.proofs.SameDesk.{same_after}
use Rattle.plant_keeper.proofs.RunExtends.{fold_more, replies_more}
use Rattle.plant_desk_store.proofs.running.run_over.Goals as goal

pub loop-envelope-preserved : goal.loop-envelope-preserved
loop-envelope-preserved g c =
    let i = c.loop-envelope.envelope-index in
    let list = c.args.list.now in
    let e = c.envelope-item.result in
    let within = c.loop-envelope-test.true in
    let is_live = c.loop-envelope.invariant.is_open in
    record {
      count = grind (arith, common_steps);
      room = grind (arith, common_steps);
      is_open = c.in-Ok.ensures.open is_live;
      same = same_after _ _ _ _ _ _ c.loop-envelope.invariant.same c.execute.ensures.same;
      reported = λ h s represented.
          let was = c.execute.ensures.same.honest h in
          let ran = c.in-Ok.ensures.executes h is_live (fold s (take i list)) (c.loop-envelope.invariant.represents was s represented) in
          c.push_reserved.ensures.items
          ∙ (λ k. c.loop-envelope.invariant.reported was s represented k ++ ran.0 k ∷ [])
          ∙ sym (replies_more s list i e within c.envelope-item.is);
      represents = λ h s represented.
          let was = c.execute.ensures.same.honest h in
          let ran = c.in-Ok.ensures.executes h is_live (fold s (take i list)) (c.loop-envelope.invariant.represents was s represented) in
          subst (g.K.Keeper.represents c.execute.new.self) (sym (fold_more s list i e within c.envelope-item.is)) ran.1;
    }
