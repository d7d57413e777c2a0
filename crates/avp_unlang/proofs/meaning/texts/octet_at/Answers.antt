use Rattle.std.proofs.Common.{ap, slice_get, subst, sym, ◌∙◌}
use Rattle.avp_forms.specs.Expansions.{AreFew, expanded}
use Rattle.avp_unlang.proofs.meaning.texts.octet_at.Goals as goal

pub digit_at-requires : goal.digit_at-requires
digit_at-requires c = subst AreFew c.in-Digits.is c.requires

pub returns-in-Short-clause-octet : goal.returns-in-Short-clause-octet
returns-in-Short-clause-octet c =
    c.octet_of-in-Short.ensures.octet ∙ ap (λ os. slice_get os c.args.at) c.as_slice.ensures.value ∙ ap (λ x. slice_get (expanded x) c.args.at) (sym c.in-Short.is)
