use Rattle.std.proofs.Common.{rules}
use Rattle.std.proofs.KnownBytes.{Appends-trans}
use Rattle.std.proofs.Math.Seq.{take-add}
use Rattle.std.proofs.lemmas.List.{take_rest}
use Rattle.radpolicy.proofs.outputs.put_all.Goals as goal

pub loop-done-preserved : goal.loop-done-preserved
loop-done-preserved g c =
    let taken = rw take_rest at c.in_ok-done.ensures.takes in
    record {
      within = search rules;
      stays = search rules;
      takes = rw take-add (Appends-trans _ _ _ _ _ c.loop-done.invariant.takes taken);
    }
