use Rattle.std.proofs.Common.{ap, sym, ◌∙◌, map}
use Rattle.policy_warnings.specs.Mentions.{means_same, selected, whole}
use Rattle.policy_warnings.specs.Repeats.{all_same, same_cond}
use Rattle.policy_warnings.proofs.Sameness.{no_Any, no_All, no_Not, no_Last, no_Present, no_PresentSelected, no_Compare, no_CompareMeant, no_Match, no_other, lengths_differ, same_All, same_Any, same_Compare, same_CompareMeant, same_Last, same_Match, same_Not, same_Present, same_PresentSelected}
use Rattle.policy_warnings.proofs.repeats.+sameness.Goals as goal

pub same_cond-returns-in_default : goal.same_cond-returns-in_default
same_cond-returns-in_default t c = no_Any c.args.cond.now c.args.other.now c.in_default.field-0-0 c.in_default.is-0 c.in_default.not-Any-1

pub same_cond-returns-in_default-2 : goal.same_cond-returns-in_default-2
same_cond-returns-in_default-2 t c = no_All c.args.cond.now c.args.other.now c.in_default.field-0-0 c.in_default.is-0 c.in_default.not-All-1

pub same_cond-returns-in_default-3 : goal.same_cond-returns-in_default-3
same_cond-returns-in_default-3 t c = no_Not c.args.cond.now c.args.other.now c.in_default.field-0-0 c.in_default.is-0 c.in_default.not-Not-1

pub same_cond-returns-in_default-4 : goal.same_cond-returns-in_default-4
same_cond-returns-in_default-4 t c = no_Last c.args.cond.now c.args.other.now c.in_default.field-0-0 c.in_default.is-0 c.in_default.not-Last-1

pub same_cond-returns-in_default-5 : goal.same_cond-returns-in_default-5
same_cond-returns-in_default-5 t c = no_Present c.args.cond.now c.args.other.now c.in_default.field-0-0 c.in_default.field-1-0 c.in_default.is-0 c.in_default.not-Present-1

pub same_cond-returns-in_default-6 : goal.same_cond-returns-in_default-6
same_cond-returns-in_default-6 t c = no_PresentSelected c.args.cond.now c.args.other.now c.in_default.field-0-0 c.in_default.field-1-0 c.in_default.field-2-0 c.in_default.is-0 c.in_default.not-PresentSelected-1

pub same_cond-returns-in_default-7 : goal.same_cond-returns-in_default-7
same_cond-returns-in_default-7 t c = no_Compare c.args.cond.now c.args.other.now c.in_default.field-0-0 c.in_default.is-0 c.in_default.not-Compare-1

pub same_cond-returns-in_default-8 : goal.same_cond-returns-in_default-8
same_cond-returns-in_default-8 t c = no_CompareMeant c.args.cond.now c.args.other.now c.in_default.field-0-0 c.in_default.is-0 c.in_default.not-CompareMeant-1

pub same_cond-returns-in_default-9 : goal.same_cond-returns-in_default-9
same_cond-returns-in_default-9 t c = no_Match c.args.cond.now c.args.other.now c.in_default.field-0-0 c.in_default.is-0 c.in_default.not-Match-1

pub same_cond-returns-in_default-10 : goal.same_cond-returns-in_default-10
same_cond-returns-in_default-10 t c =
    no_other c.args.cond.now c.args.other.now c.in_default.not-Any-0 c.in_default.not-All-0 c.in_default.not-Not-0 c.in_default.not-Last-0 c.in_default.not-Present-0 c.in_default.not-PresentSelected-0
    c.in_default.not-Compare-0 c.in_default.not-CompareMeant-0 c.in_default.not-Match-0

pub same_cond-returns-in-Any-Any : goal.same_cond-returns-in-Any-Any
same_cond-returns-in-Any-Any t c =
    c.all_same.ensures ∙ ap (λ x. all_same (map same_cond x) c.as_slice-in-Any-Any.result.now) c.as_slice.ensures
    ∙ ap (all_same (map same_cond c.in-Any-Any.conds)) c.as_slice-in-Any-Any.ensures
    ∙ sym (same_Any c.args.cond.now c.args.other.now c.in-Any-Any.conds c.in-Any-Any.others c.in-Any-Any.is-0 c.in-Any-Any.is-1)

pub same_cond-returns-in-All-All : goal.same_cond-returns-in-All-All
same_cond-returns-in-All-All t c =
    c.all_same-in-All-All.ensures ∙ ap (λ x. all_same (map same_cond x) c.as_slice-in-All-All-2.result.now) c.as_slice-in-All-All.ensures
    ∙ ap (all_same (map same_cond c.in-All-All.conds)) c.as_slice-in-All-All-2.ensures
    ∙ sym (same_All c.args.cond.now c.args.other.now c.in-All-All.conds c.in-All-All.others c.in-All-All.is-0 c.in-All-All.is-1)

pub same_cond-returns-in-Not-Not : goal.same_cond-returns-in-Not-Not
same_cond-returns-in-Not-Not t c =
    c.same_cond.ensures ∙ ap (λ x. same_cond x c.get-in-Not-Not.result.now) c.get.ensures ∙ ap (same_cond c.in-Not-Not.cond) c.get-in-Not-Not.ensures
    ∙ sym (same_Not c.args.cond.now c.args.other.now c.in-Not-Not.cond c.in-Not-Not.other c.in-Not-Not.is-0 c.in-Not-Not.is-1)

pub same_cond-returns-in-Last-Last : goal.same_cond-returns-in-Last-Last
same_cond-returns-in-Last-Last t c =
    c.same_code.ensures ∙ sym (same_Last c.args.cond.now c.args.other.now c.in-Last-Last.code c.in-Last-Last.other c.in-Last-Last.is-0 c.in-Last-Last.is-1)

pub same_cond-returns-in-Present-Present : goal.same_cond-returns-in-Present-Present
same_cond-returns-in-Present-Present t c =
    c.means_same.ensures ∙ ap (λ x. means_same x c.whole-in-Present-Present.result) c.whole.ensures
    ∙ ap (means_same (whole c.in-Present-Present.list c.in-Present-Present.id)) c.whole-in-Present-Present.ensures
    ∙ sym (same_Present c.args.cond.now c.args.other.now c.in-Present-Present.list c.in-Present-Present.id c.in-Present-Present.other c.in-Present-Present.number
    c.in-Present-Present.is-0 c.in-Present-Present.is-1)

pub same_cond-returns-in-PresentSelected-PresentSelected : goal.same_cond-returns-in-PresentSelected-PresentSelected
same_cond-returns-in-PresentSelected-PresentSelected t c =
    let w = c.in-PresentSelected-PresentSelected in
    c.means_same-in-PresentSelected-PresentSelected.ensures
    ∙ ap (λ x. means_same x c.selected-in-PresentSelected-PresentSelected.result) c.selected.ensures
    ∙ ap (means_same (selected w.list w.id w.selection)) c.selected-in-PresentSelected-PresentSelected.ensures
    ∙ sym (same_PresentSelected c.args.cond.now c.args.other.now w.list w.id w.selection w.other w.number w.tags w.is-0 w.is-1)

pub same_cond-returns-in-Compare-Compare : goal.same_cond-returns-in-Compare-Compare
same_cond-returns-in-Compare-Compare t c =
    c.same_comparison.ensures ∙ sym (same_Compare c.args.cond.now c.args.other.now c.in-Compare-Compare.comparison c.in-Compare-Compare.other
    c.in-Compare-Compare.is-0 c.in-Compare-Compare.is-1)

pub same_cond-returns-in-CompareMeant-CompareMeant : goal.same_cond-returns-in-CompareMeant-CompareMeant
same_cond-returns-in-CompareMeant-CompareMeant t c =
    c.same_meant_comparison.ensures ∙ sym (same_CompareMeant c.args.cond.now c.args.other.now c.in-CompareMeant-CompareMeant.comparison
    c.in-CompareMeant-CompareMeant.other c.in-CompareMeant-CompareMeant.is-0 c.in-CompareMeant-CompareMeant.is-1)

pub same_cond-returns-in-Match-Match : goal.same_cond-returns-in-Match-Match
same_cond-returns-in-Match-Match t c =
    c.same_matching.ensures ∙ sym (same_Match c.args.cond.now c.args.other.now c.in-Match-Match.matching c.in-Match-Match.other
    c.in-Match-Match.is-0 c.in-Match-Match.is-1)

pub all_same-returns-then-conds-others : goal.all_same-returns-then-conds-others
all_same-returns-then-conds-others t c = lengths_differ c.args.conds.now c.args.others.now c.if-conds-others.true
