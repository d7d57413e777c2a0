use Rattle.radpolicy_replay_records.proofs.Writing.{front_more}
use Rattle.radpolicy_replay_records.proofs.replays.write_text.Goals as goal

pub loop-preserved : goal.loop-preserved
loop-preserved g c =
    let so_far = c.loop.invariant in
    front_more (g.W.Write.contents c.args.out.now) (g.W.Write.contents c.loop.out) (g.W.Write.contents c.write_front.new.out) c.args.text.now so_far.0 c.loop.rest.now c.in_ok-count.count so_far.1 so_far.2 c.in_ok-count.ensures.written
