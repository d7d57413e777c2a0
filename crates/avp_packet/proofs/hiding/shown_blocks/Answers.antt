use Rattle.std.proofs.Common.{append_assoc, append-nil, arith, ◌/◌, ◌≤◌, length, take}
use Rattle.avp_packet.specs.Hiding.{shown_blocks}
use Rattle.avp_packet.proofs.Masks.{shown_blocks_more, shown_blocks_none}
use Rattle.avp_packet.proofs.hiding.shown_blocks.Goals as goal

pub loop-block-preserved : goal.loop-block-preserved
loop-block-preserved c =
    let cases = c.in-Some.ensures.cases in
    let rest = c.loop-block.rest.now in
    let long : 16 ≤ length rest = omega (arith, cases.2) in
    let after = c.in-Some.after.now in
    cc (
      cases.0,
      cases.1,
      shown_blocks_more c.args.secret.now c.loop-block.before rest long,
      append_assoc c.loop-block.octets.items c.masked.result (shown_blocks (length after / 16) c.args.secret.now (take 16 rest) after),
      c.in_ok-extend_from_slice.ensures.items,
      c.loop-block.invariant,
    )

pub returns : goal.returns
returns c =
    cc (shown_blocks_none c.args.secret.now c.loop-block.before c.loop-block.rest.now c.in_default.ensures.cases, append-nil c.loop-block.octets.items, c.loop-block.invariant)
