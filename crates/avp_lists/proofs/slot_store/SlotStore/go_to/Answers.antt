use Rattle.avp_lists.proofs.Moves.{steps_within}
use Rattle.avp_lists.proofs.slot_store.SlotStore.go_to.Goals as goal

pub move_to-requires-clause-within : goal.move_to-requires-clause-within
move_to-requires-clause-within c =
    let s = c.args.self.now in
    rw c.deref.ensures.value (steps_within _ _ s.steps.items s.counted s.counts)

pub move_to-requires-clause-below : goal.move_to-requires-clause-below
move_to-requires-clause-below c = rw c.deref.ensures.value c.args.self.now.below
