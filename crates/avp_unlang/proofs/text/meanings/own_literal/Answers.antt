use Rattle.std.proofs.Common.{Some, sym, ap, ◌∙◌}
use Rattle.avp_forms.specs.declared.profiles.Profile.TheVariants.{Wider}
use Rattle.avp_unlang.specs.RefusedConditions.{own_refusal}
use Rattle.avp_unlang.specs.RefusedValues.{value_place}
use Rattle.avp_unlang.proofs.RefusedOnceParts.{not_refused}
use Rattle.avp_unlang.proofs.text.meanings.own_literal.Goals as goal

pub returns-clause-refused : goal.returns-clause-refused
returns-clause-refused c = λ some. (
  ap own_refusal (not_refused Wider c.args.dictionary.now c.args.target c.args.text.now c.in_ok-value.value c.in_ok-value.ensures.ok) ∙ ap Some (sym c.refused_at.ensures.kind),
  c.refused_at.ensures.place ∙ ap (value_place c.args.positions.name.left c.args.positions.value.left) (sym c.refused_at.ensures.kind),
)
