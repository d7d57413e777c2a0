use Rattle.std.proofs.Common.{◌≡◌, ◌++◌, IfSome, subst}
use Rattle.radpolicy_import_conditions.proofs.Opening.{nat_same, part_All, part_Any, part_in_and, part_in_or, told_All, told_Any, told_Captured, told_Compare, told_CompareTexts, told_Last, told_Match, told_MatchGroup, told_MatchText, told_Not, told_Present}
use Rattle.radpolicy_import_conditions.proofs.opened.+opening.Goals as goal

pub after_part-returns-in-All : goal.after_part-returns-in-All
after_part-returns-in-All t c =
    subst (λ z. IfSome c.after_parts.result (λ rest. c.args.conds.now ≡ z ++ rest.now))
    (part_All c.args.join c.args.cond.now c.in-All.inner c.as_slice.result.now c.in-And.is c.in-All.is c.as_slice.ensures) c.after_parts.ensures

pub after_part-returns-in_default : goal.after_part-returns-in_default
after_part-returns-in_default t c =
    subst (λ z. IfSome c.after_opened.result (λ rest. c.args.conds.now ≡ z ++ rest.now))
    (part_in_and c.args.join c.args.cond.now c.in-And.is c.in_default.not-All) c.after_opened.ensures

pub after_part-returns-in-Any : goal.after_part-returns-in-Any
after_part-returns-in-Any t c =
    subst (λ z. IfSome c.after_parts-in-Any.result (λ rest. c.args.conds.now ≡ z ++ rest.now))
    (part_Any c.args.join c.args.cond.now c.in-Any.inner c.as_slice-in-Any.result.now c.in-Or.is c.in-Any.is c.as_slice-in-Any.ensures) c.after_parts-in-Any.ensures

pub after_part-returns-in_default-cond : goal.after_part-returns-in_default-cond
after_part-returns-in_default-cond t c =
    subst (λ z. IfSome c.after_opened-in_default-cond.result (λ rest. c.args.conds.now ≡ z ++ rest.now))
    (part_in_or c.args.join c.args.cond.now c.in-Or.is c.in_default-cond.not-Any) c.after_opened-in_default-cond.ensures

pub is_opened-returns-in-Any-Any : goal.is_opened-returns-in-Any-Any
is_opened-returns-in-Any-Any t c = λ h.
    told_Any c.args.cond.now c.args.other.now c.in-Any-Any.parts c.in-Any-Any.conds c.as_slice.result.now c.as_slice-in-Any-Any.result.now
    c.in-Any-Any.is-0 c.in-Any-Any.is-1 c.as_slice.ensures c.as_slice-in-Any-Any.ensures (c.are_opened.ensures h)

pub is_opened-returns-in-All-All : goal.is_opened-returns-in-All-All
is_opened-returns-in-All-All t c = λ h.
    told_All c.args.cond.now c.args.other.now c.in-All-All.parts c.in-All-All.conds c.as_slice-in-All-All.result.now c.as_slice-in-All-All-2.result.now
    c.in-All-All.is-0 c.in-All-All.is-1 c.as_slice-in-All-All.ensures c.as_slice-in-All-All-2.ensures (c.are_opened-in-All-All.ensures h)

pub is_opened-returns-in-Not-Not : goal.is_opened-returns-in-Not-Not
is_opened-returns-in-Not-Not t c = λ h.
    told_Not c.args.cond.now c.args.other.now c.in-Not-Not.cond c.in-Not-Not.other c.get.result.now c.get-in-Not-Not.result.now
    c.in-Not-Not.is-0 c.in-Not-Not.is-1 c.get.ensures c.get-in-Not-Not.ensures (c.is_opened.ensures h)

pub is_opened-returns-in-Last-Last : goal.is_opened-returns-in-Last-Last
is_opened-returns-in-Last-Last t c = λ h.
    told_Last c.args.cond.now c.args.other.now c.in-Last-Last.code c.in-Last-Last.other c.in-Last-Last.is-0 c.in-Last-Last.is-1 (c.same_code.ensures h)

pub is_opened-returns-in-Present-Present : goal.is_opened-returns-in-Present-Present
is_opened-returns-in-Present-Present t c = λ h.
    let same = c.same_attribute.ensures h in
    told_Present c.args.cond.now c.args.other.now c.in-Present-Present.list c.in-Present-Present.other c.in-Present-Present.id c.in-Present-Present.number
    c.in-Present-Present.is-0 c.in-Present-Present.is-1 same.0 same.1

pub is_opened-returns-in-Compare-Compare : goal.is_opened-returns-in-Compare-Compare
is_opened-returns-in-Compare-Compare t c = λ h.
    told_Compare c.args.cond.now c.args.other.now c.in-Compare-Compare.comparison c.in-Compare-Compare.other c.in-Compare-Compare.is-0 c.in-Compare-Compare.is-1 (c.same_comparison.ensures h)

pub is_opened-returns-in-Match-Match : goal.is_opened-returns-in-Match-Match
is_opened-returns-in-Match-Match t c = λ h.
    told_Match c.args.cond.now c.args.other.now c.in-Match-Match.matching c.in-Match-Match.other c.in-Match-Match.is-0 c.in-Match-Match.is-1 (c.same_matching.ensures h)

pub is_opened-returns-in-CompareTexts-CompareTexts : goal.is_opened-returns-in-CompareTexts-CompareTexts
is_opened-returns-in-CompareTexts-CompareTexts t c = λ h.
    told_CompareTexts c.args.cond.now c.args.other.now c.in-CompareTexts-CompareTexts.texts c.in-CompareTexts-CompareTexts.other
    c.in-CompareTexts-CompareTexts.is-0 c.in-CompareTexts-CompareTexts.is-1 (c.same_texts.ensures h)

pub is_opened-returns-in-MatchText-MatchText : goal.is_opened-returns-in-MatchText-MatchText
is_opened-returns-in-MatchText-MatchText t c = λ h.
    told_MatchText c.args.cond.now c.args.other.now c.in-MatchText-MatchText.matching c.in-MatchText-MatchText.other
    c.in-MatchText-MatchText.is-0 c.in-MatchText-MatchText.is-1 (c.same_matching-in-MatchText-MatchText.ensures h)

pub is_opened-returns-in-MatchGroup-MatchGroup : goal.is_opened-returns-in-MatchGroup-MatchGroup
is_opened-returns-in-MatchGroup-MatchGroup t c = λ h.
    told_MatchGroup c.args.cond.now c.args.other.now c.in-MatchGroup-MatchGroup.matching c.in-MatchGroup-MatchGroup.other
    c.in-MatchGroup-MatchGroup.is-0 c.in-MatchGroup-MatchGroup.is-1 (c.same_group_matching.ensures h)

pub is_opened-returns-in-Captured-Captured : goal.is_opened-returns-in-Captured-Captured
is_opened-returns-in-Captured-Captured t c = λ h.
    told_Captured c.args.cond.now c.args.other.now c.in-Captured-Captured.group c.in-Captured-Captured.other c.in-Captured-Captured.is-0 c.in-Captured-Captured.is-1 (nat_same _ _ h)
