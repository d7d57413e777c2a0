use Rattle.std.proofs.Common.{◌∙◌, subst, sym}
use Rattle.avp_dict.specs.Dictionary.{names_other_value}
use Rattle.avp_dict.specs.internal.Agreeing.{AreAloneValues}
use Rattle.avp_dict.proofs.AgreeingLines.{none_passes, values_more}
use Rattle.avp_dict.proofs.contents.Contents.add_value.Goals as goal

pub returns-else-branch-clause-agreeing : goal.returns-else-branch-clause-agreeing
returns-else-branch-clause-agreeing c =
    let before = c.args.self.now.values in
    let v = c.in-Some.value in
    let pushed = c.in_ok-push_number-in-Some.ensures in
    subst AreAloneValues (sym pushed.line)
    (values_more before v c.requires.agreeing (none_passes (names_other_value v.id v.name v.number) before (sym pushed.other ∙ c.if-branch.false)))
