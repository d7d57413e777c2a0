use Rattle.std.proofs.Common.{◌∙◌, ap, sym}
use Rattle.std.specs.Option.{option_copied}
use Rattle.avp_dict.specs.Dictionary.{first_names}
use Rattle.radpolicy_import_policies.specs.KeptNames.{KeepsName}
use Rattle.radpolicy_import_policies.proofs.Prefixes.{all, one_more}
use Rattle.radpolicy_import_policies.proofs.kept.keeps_names.Goals as goal

pub returns-in_default : goal.returns-in_default
returns-in_default c = λ _. all (KeepsName c.args.old.now c.args.new.now) (first_names c.args.old.now.attributes) c.loop-at.at c.loop-at.invariant (sym c.attribute_name.ensures ∙ ap option_copied c.in_default.is)

pub loop-at-preserved : goal.loop-at-preserved
loop-at-preserved c = one_more (KeepsName c.args.old.now c.args.new.now) (first_names c.args.old.now.attributes) c.loop-at.at c.in-Some.name.now c.loop-at.invariant (sym c.attribute_name.ensures ∙ ap option_copied c.in-Some.is) (c.keeps_name.ensures cc)
