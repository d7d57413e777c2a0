use Rattle.std.proofs.Common.{◌≡◌, ◌<◌, ◌+◌, ◌-◌, ℕ, true, length, map}
use Rattle.avp_lists.specs.internal.Slots.{at_initial}
use Rattle.avp_lists.specs.internal.Steps.{slots_at, change_at, turns}
use Rattle.avp_lists.proofs.NextPlaces.{Leads}
use Rattle.avp_lists.proofs.steps.travel.Given as goal

abbrev pub invariant-loop-here : goal.invariant-loop-here
invariant-loop-here l = record {
  standing : l.slots.all.items ≡ slots_at l.fn.slots.all.items l.steps l.here;
  initials : map at_initial l.slots.all.items ≡ map at_initial l.fn.slots.all.items;
  here : (l.here < length l.steps) × (turns (change_at l.steps l.here) ≡ true);
  far : (l.far < length l.steps) × (turns (change_at l.steps l.far) ≡ true);
  leads : (n : ℕ) × Leads l.steps l.nexts n l.far l.to;
}

abbrev pub decreases-loop-here : goal.decreases-loop-here
decreases-loop-here l = l.here + l.far

abbrev pub invariant-loop-here-2 : goal.invariant-loop-here-2
invariant-loop-here-2 l = record {
  standing : l.slots.all.items ≡ slots_at l.fn.slots.all.items l.steps l.here;
  initials : map at_initial l.slots.all.items ≡ map at_initial l.fn.slots.all.items;
  here : l.here < length l.steps;
  leads : (n : ℕ) × Leads l.steps l.nexts n l.here l.to;
}

abbrev pub decreases-loop-here-2 : goal.decreases-loop-here-2
decreases-loop-here-2 l = l.to - l.here
