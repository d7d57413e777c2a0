use Rattle.std.proofs.Common.{◌≡◌, false, IfErr, IsTrue, OnOk, ap, sym, ◌∙◌, subst}
use Rattle.std.specs.List.{list_all}
use Rattle.avp_unlang.specs.PolicyPatterns.{cond_patterns_pass, is_among, none_passes}
use Rattle.avp_unlang.proofs.KeptPatterns.{another_passes, cond_kept}
use Rattle.avp_unlang.proofs.PolicyPasses.{on_err}
use Rattle.avp_unlang.proofs.Truths.{passes_all, passes_any, passes_match, passes_match_group, passes_match_text, passes_not}
use Rattle.avp_unlang.proofs.text.compiling.+conds.Goals as goal

pub compile_cond-returns-in-Any-clause-pass : goal.compile_cond-returns-in-Any-clause-pass
compile_cond-returns-in-Any-clause-pass t c =
    let test = is_among c.compile_conds.new.compiled in
    subst (λ b. OnOk c.compile_conds.result (IsTrue b))
    (ap (list_all (cond_patterns_pass test)) c.as_slice.ensures ∙ sym (ap (cond_patterns_pass test) c.in-Any.is ∙ passes_any test c.in-Any.conds))
    c.compile_conds.ensures.pass

pub compile_cond-returns-in-All-clause-pass : goal.compile_cond-returns-in-All-clause-pass
compile_cond-returns-in-All-clause-pass t c =
    let test = is_among c.compile_conds-in-All.new.compiled in
    subst (λ b. OnOk c.compile_conds-in-All.result (IsTrue b))
    (ap (list_all (cond_patterns_pass test)) c.as_slice-in-All.ensures ∙ sym (ap (cond_patterns_pass test) c.in-All.is ∙ passes_all test c.in-All.conds))
    c.compile_conds-in-All.ensures.pass

pub compile_cond-returns-in-Not-clause-pass : goal.compile_cond-returns-in-Not-clause-pass
compile_cond-returns-in-Not-clause-pass t c =
    let test = is_among c.compile_cond.new.compiled in
    subst (λ b. OnOk c.compile_cond.result (IsTrue b))
    (ap (cond_patterns_pass test) c.get.ensures ∙ sym (ap (cond_patterns_pass test) c.in-Not.is ∙ passes_not test c.in-Not.cond))
    c.compile_cond.ensures.pass

pub compile_cond-returns-in-Match-clause-pass : goal.compile_cond-returns-in-Match-clause-pass
compile_cond-returns-in-Match-clause-pass t c =
    let test = is_among c.compile.new.compiled in
    subst (λ b. OnOk c.compile.result (IsTrue b)) (sym (ap (cond_patterns_pass test) c.in-Match.is ∙ passes_match test c.in-Match.matching))
    c.compile.ensures.pass

pub compile_cond-returns-in-MatchText-clause-pass : goal.compile_cond-returns-in-MatchText-clause-pass
compile_cond-returns-in-MatchText-clause-pass t c =
    let test = is_among c.compile-in-MatchText.new.compiled in
    subst (λ b. OnOk c.compile-in-MatchText.result (IsTrue b)) (sym (ap (cond_patterns_pass test) c.in-MatchText.is ∙ passes_match_text test c.in-MatchText.matching))
    c.compile-in-MatchText.ensures.pass

pub compile_cond-returns-in-MatchGroup-clause-pass : goal.compile_cond-returns-in-MatchGroup-clause-pass
compile_cond-returns-in-MatchGroup-clause-pass t c =
    let test = is_among c.compile_group.new.compiled in
    subst (λ b. OnOk c.compile_group.result (IsTrue b)) (sym (ap (cond_patterns_pass test) c.in-MatchGroup.is ∙ passes_match_group test c.in-MatchGroup.matching))
    c.compile_group.ensures.pass

pub compile_conds-loop-cond-preserved : goal.compile_conds-loop-cond-preserved
compile_conds-loop-cond-preserved t c =
    let before = is_among c.loop-cond.compiled in
    let after = is_among c.compile_cond.new.compiled in record {
      pass =
          another_passes (cond_patterns_pass before) (cond_patterns_pass after) (cond_kept before after c.compile_cond.ensures.kept)
          c.args.conds.now c.loop-cond.cond-index c.cond-item.result c.loop-cond-test.true c.loop-cond.invariant.pass
          (ap (cond_patterns_pass after) (sym c.cond-item.is) ∙ c.in_ok-compile_cond.ensures.pass);
      kept = λ w h. c.compile_cond.ensures.kept w (c.loop-cond.invariant.kept w h);
    }

-- ---- what is refused has a pattern

pub compile_cond-returns-in-Any-clause-refused : goal.compile_cond-returns-in-Any-clause-refused
compile_cond-returns-in-Any-clause-refused t c =
    subst (λ b. IfErr c.compile_conds.result (λ _. b ≡ false))
    (ap (list_all (cond_patterns_pass none_passes)) c.as_slice.ensures ∙ sym (ap (cond_patterns_pass none_passes) c.in-Any.is ∙ passes_any none_passes c.in-Any.conds))
    c.compile_conds.ensures.refused

pub compile_cond-returns-in-All-clause-refused : goal.compile_cond-returns-in-All-clause-refused
compile_cond-returns-in-All-clause-refused t c =
    subst (λ b. IfErr c.compile_conds-in-All.result (λ _. b ≡ false))
    (ap (list_all (cond_patterns_pass none_passes)) c.as_slice-in-All.ensures ∙ sym (ap (cond_patterns_pass none_passes) c.in-All.is ∙ passes_all none_passes c.in-All.conds))
    c.compile_conds-in-All.ensures.refused

pub compile_cond-returns-in-Not-clause-refused : goal.compile_cond-returns-in-Not-clause-refused
compile_cond-returns-in-Not-clause-refused t c =
    subst (λ b. IfErr c.compile_cond.result (λ _. b ≡ false))
    (ap (cond_patterns_pass none_passes) c.get.ensures ∙ sym (ap (cond_patterns_pass none_passes) c.in-Not.is ∙ passes_not none_passes c.in-Not.cond))
    c.compile_cond.ensures.refused

pub compile_cond-returns-in-Match-clause-refused : goal.compile_cond-returns-in-Match-clause-refused
compile_cond-returns-in-Match-clause-refused t c =
    on_err c.compile.result (cond_patterns_pass none_passes c.args.cond.now ≡ false)
    (ap (cond_patterns_pass none_passes) c.in-Match.is ∙ passes_match none_passes c.in-Match.matching)

pub compile_cond-returns-in-MatchText-clause-refused : goal.compile_cond-returns-in-MatchText-clause-refused
compile_cond-returns-in-MatchText-clause-refused t c =
    on_err c.compile-in-MatchText.result (cond_patterns_pass none_passes c.args.cond.now ≡ false)
    (ap (cond_patterns_pass none_passes) c.in-MatchText.is ∙ passes_match_text none_passes c.in-MatchText.matching)

pub compile_cond-returns-in-MatchGroup-clause-refused : goal.compile_cond-returns-in-MatchGroup-clause-refused
compile_cond-returns-in-MatchGroup-clause-refused t c =
    on_err c.compile_group.result (cond_patterns_pass none_passes c.args.cond.now ≡ false)
    (ap (cond_patterns_pass none_passes) c.in-MatchGroup.is ∙ passes_match_group none_passes c.in-MatchGroup.matching)
