use Rattle.std.proofs.Common.{List, IsTrue, ap, arith, get_or, sym, ◌∙◌, subst}
use Rattle.std.proofs.lemmas.List.{get_or_default}
use Rattle.avp_patterns.specs.Patterns.{Written}
use Rattle.avp_unlang.specs.PolicyPatterns.{is_among, same_pattern}
use Rattle.avp_unlang.proofs.AmongPatterns.{next_among, none_left, same_pattern_is}
use Rattle.avp_unlang.proofs.meaning.matchers.Matchers.place_of.Goals as goal

pub loop-place-init : goal.loop-place-init
loop-place-init c =
    let w : Written = record { text = c.args.text.now; flags = c.args.flags } in
    subst (λ ps. IsTrue (is_among ps w)) (sym c.self.view_is) c.requires

pub returns-then-is_pattern-clause-same : goal.returns-then-is_pattern-clause-same
returns-then-is_pattern-clause-same c =
    let w : Written = record { text = c.args.text.now; flags = c.args.flags } in
    let ps : List Written = c.self.inside.patterns.now in
    let place = c.loop-place.place in
    ap (λ vs. get_or vs place w) (sym c.self.view_is) ∙ get_or_default ps place w _ c.loop-place-test.true
    ∙ same_pattern_is _ w (sym c.if-is_pattern.ensures)

pub loop-place-preserved : goal.loop-place-preserved
loop-place-preserved c =
    let w : Written = record { text = c.args.text.now; flags = c.args.flags } in
    let ps : List Written = c.self.inside.patterns.now in
    let place = c.loop-place.place in
    next_among w ps place c.loop-place-test.true c.loop-place.invariant
    (ap (λ v. same_pattern v w) (get_or_default ps place w _ c.loop-place-test.true) ∙ sym c.if-is_pattern.ensures)

pub unreachable-requires : goal.unreachable-requires
unreachable-requires c =
    let w : Written = record { text = c.args.text.now; flags = c.args.flags } in
    none_left w c.self.inside.patterns.now c.loop-place.place (omega (arith, c.loop-place-test.false)) c.loop-place.invariant
