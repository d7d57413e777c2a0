use Rattle.std.proofs.Common.{append_assoc, append-nil, arith, ◌/◌, ◌≤◌, length}
use Rattle.avp_packet.specs.Hiding.{hidden_blocks}
use Rattle.avp_packet.proofs.Masks.{hidden_blocks_more, hidden_blocks_none}
use Rattle.avp_packet.proofs.hiding.hidden_blocks.Goals as goal

pub loop-block-preserved : goal.loop-block-preserved
loop-block-preserved c =
    let cases = c.in-Some.ensures.cases in
    let rest = c.loop-block.rest.now in
    let long : 16 ≤ length rest = omega (arith, cases.2) in
    let before = c.masked-before.result in
    let after = c.in-Some.after.now in
    cc (
      cases.0,
      cases.1,
      hidden_blocks_more c.args.secret.now c.loop-block.before rest long,
      append_assoc c.loop-block.octets.items before (hidden_blocks (length after / 16) c.args.secret.now before after),
      c.in_ok-extend_from_slice.ensures.items,
      c.loop-block.invariant,
    )

pub returns : goal.returns
returns c =
    cc (hidden_blocks_none c.args.secret.now c.loop-block.before c.loop-block.rest.now c.in_default.ensures.cases, append-nil c.loop-block.octets.items, c.loop-block.invariant)
