use Rattle.std.proofs.Common.{take}
use Rattle.avp_lists.specs.internal.Live.{AreLive, HaveRoom}
use Rattle.avp_lists.proofs.live.Live.fill.Given as goal

abbrev pub invariant-loop-place : goal.invariant-loop-place
invariant-loop-place l = record {
  filled : AreLive (take l.place l.slots) l.self;
  room : HaveRoom l.slots l.self;
}
