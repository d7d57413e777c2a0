use Rattle.std.proofs.Common.{◌≡◌, ℕ, ◌-◌, ◌<◌, ◌≤◌, suc, true, length, get_or, ◌∙◌, ap, sym, subst, arith, rules}
use Rattle.avp_lists.specs.internal.Steps.{slots_at, change_at, turns, origin, StepsWithin}
use Rattle.avp_lists.proofs.Turning.{same-length}
use Rattle.avp_lists.proofs.NextPlaces.{leads_before, leads_next, leads_up}
use Rattle.avp_lists.proofs.Replay.{origin_fits, slots_at-same}
use Rattle.avp_lists.proofs.steps.travel.Goals as goal

-- all slots are still there
pub go_back-requires-clause-within : goal.go_back-requires-clause-within
go_back-requires-clause-within c =
    let P : ℕ → Type 0 = λ n. StepsWithin n c.args.steps.now in
    subst P (sym (same-length c.loop-here.slots.all.items c.args.slots.now.all.items c.loop-here.invariant.initials)) c.requires.within

pub go_ahead-requires-clause-within : goal.go_ahead-requires-clause-within
go_ahead-requires-clause-within c =
    let P : ℕ → Type 0 = λ n. StepsWithin n c.args.steps.now in
    subst P (sym (same-length c.loop-here-2.slots.all.items c.args.slots.now.all.items c.loop-here-2.invariant.initials)) c.requires.within

pub loop-here-smaller-then-far-here : goal.loop-here-smaller-then-far-here
loop-here-smaller-then-far-here c =
    let h = c.loop-here.here in
    let steps = c.args.steps.now in
    let lt : h - 1 < length steps = omega (arith, c.loop-here.invariant.here.0) in
    let fits = origin_fits c.args.slots.now.all.items steps (h - 1) c.requires.below lt in
    let low : origin steps (h - 1) ≤ h - 1 = fits.0 in
    omega (arith, c.if-far-here.true, c.origin-here.ensures)

pub loop-here-preserved-then-far-here : goal.loop-here-preserved-then-far-here
loop-here-preserved-then-far-here c =
    let h = c.loop-here.here in
    let steps = c.args.steps.now in
    let first = c.args.slots.now.all.items in
    let inv = c.loop-here.invariant in
    let lt : h - 1 < length steps = omega (arith, inv.here.0) in
    let fits = origin_fits first steps (h - 1) c.requires.below lt in
    let low : origin steps (h - 1) ≤ h - 1 = fits.0 in
    let there : origin steps (h - 1) < length steps = omega arith in
    let P : ℕ → Type 0 = λ n. (n < length steps) × (turns (change_at steps n) ≡ true) in
    record {
      standing = c.go_back.ensures.moved ∙ slots_at-same c.loop-here.slots.all.items first steps (h - 1) inv.initials ∙ sym fits.2 ∙ ap (slots_at first steps) (sym c.origin-here.ensures);
      initials = c.go_back.ensures.initials ∙ inv.initials;
      here = subst P (sym c.origin-here.ensures) (there, fits.1);
      far = inv.far;
      leads = inv.leads;
    }

pub bounds-nexts-before : goal.bounds-nexts-before
bounds-nexts-before c =
    let f = c.loop-here.far in
    let steps = c.args.steps.now in
    let lt : f - 1 < length steps = omega (arith, c.loop-here.invariant.far.0) in
    let fits = origin_fits c.args.slots.now.all.items steps (f - 1) c.requires.below lt in
    let low : origin steps (f - 1) ≤ f - 1 = fits.0 in
    omega (arith, c.origin-before.ensures, c.loop-here.auto.nexts, c.requires.beside)

pub loop-here-smaller : goal.loop-here-smaller
loop-here-smaller c =
    let f = c.loop-here.far in
    let steps = c.args.steps.now in
    let lt : f - 1 < length steps = omega (arith, c.loop-here.invariant.far.0) in
    let fits = origin_fits c.args.slots.now.all.items steps (f - 1) c.requires.below lt in
    let low : origin steps (f - 1) ≤ f - 1 = fits.0 in
    omega (arith, c.if-far-here.false, c.loop-here-test.true, c.origin-before.ensures)

pub loop-here-preserved : goal.loop-here-preserved
loop-here-preserved c =
    let f = c.loop-here.far in
    let steps = c.args.steps.now in
    let first = c.args.slots.now.all.items in
    let inv = c.loop-here.invariant in
    let p = c.origin-before.result in
    let lt : f - 1 < length steps = omega (arith, inv.far.0) in
    let fits = origin_fits first steps (f - 1) c.requires.below lt in
    let low : origin steps (f - 1) ≤ f - 1 = fits.0 in
    let is : p ≡ origin steps (f - 1) = c.origin-before.ensures in
    let there : origin steps (f - 1) < length steps = omega arith in
    let P : ℕ → Type 0 = λ n. (n < length steps) × (turns (change_at steps n) ≡ true) in
    let below : p < f = omega (arith, c.if-far-here.false, c.loop-here-test.true) in
    let within : p < length c.loop-here.nexts = omega (arith, c.loop-here.auto.nexts, c.requires.beside) in
    record {
      standing = inv.standing;
      initials = inv.initials;
      here = inv.here;
      far = subst P (sym is) (there, fits.1);
      leads = (suc inv.leads.0, leads_before steps c.loop-here.nexts inv.leads.0 f c.args.to p within below inv.far.0 inv.far.1 (sym is) inv.leads.1);
    }

pub offset_bounds-nexts-before : goal.offset_bounds-nexts-before
offset_bounds-nexts-before c =
    let f = c.loop-here.far in
    let steps = c.args.steps.now in
    let lt : f - 1 < length steps = omega (arith, c.loop-here.invariant.far.0) in
    let fits = origin_fits c.args.slots.now.all.items steps (f - 1) c.requires.below lt in
    let low : origin steps (f - 1) ≤ f - 1 = fits.0 in
    let within : c.origin-before.result < length c.loop-here.nexts = omega (arith, c.origin-before.ensures, c.loop-here.auto.nexts, c.requires.beside) in
    search (rules, within)

pub go_ahead-requires-clause-standing : goal.go_ahead-requires-clause-standing
go_ahead-requires-clause-standing c =
    let steps = c.args.steps.now in
    let first = c.args.slots.now.all.items in
    let inv = c.loop-here-2.invariant in
    let h = c.loop-here-2.here in
    let n = get_or c.loop-here.nexts h 0 in
    let next = leads_next steps c.loop-here.nexts inv.leads.0 h c.args.to inv.leads.1 c.loop-here-2-test.true in
    let lt : n - 1 < length steps = omega (arith, next.1) in
    let fits = origin_fits first steps (n - 1) c.requires.below lt in
    inv.standing ∙ ap (slots_at first steps) (sym next.3) ∙ fits.2 ∙ slots_at-same first c.loop-here-2.slots.all.items steps (n - 1) (sym inv.initials)

pub loop-here-2-smaller : goal.loop-here-2-smaller
loop-here-2-smaller c =
    let steps = c.args.steps.now in
    let inv = c.loop-here-2.invariant in
    let next = leads_next steps c.loop-here.nexts inv.leads.0 c.loop-here-2.here c.args.to inv.leads.1 c.loop-here-2-test.true in
    let up = next.0 in
    omega (arith, up, leads_up steps c.loop-here.nexts next.4.0 _ c.args.to next.4.1)

pub loop-here-2-preserved : goal.loop-here-2-preserved
loop-here-2-preserved c =
    let steps = c.args.steps.now in
    let first = c.args.slots.now.all.items in
    let inv = c.loop-here-2.invariant in
    let h = c.loop-here-2.here in
    let n = get_or c.loop-here.nexts h 0 in
    let next = leads_next steps c.loop-here.nexts inv.leads.0 h c.args.to inv.leads.1 c.loop-here-2-test.true in
    record {
      standing = c.go_ahead.ensures.moved ∙ slots_at-same c.loop-here-2.slots.all.items first steps n inv.initials;
      initials = c.go_ahead.ensures.initials ∙ inv.initials;
      here = next.1;
      leads = next.4;
    }
