use Rattle.std.proofs.Common.{◌∙◌, ap, sym, take}
use Rattle.std.specs.Option.{option_copied}
use Rattle.avp_dict.specs.Dictionary.{first_names}
use Rattle.radpolicy_common.proofs.SecretIds.{next_name}
use Rattle.radpolicy_common.proofs.secret_attributes.SecretAttributes.new.Goals as goal

pub loop-at-preserved : goal.loop-at-preserved
loop-at-preserved c =
    let names = first_names c.args.dictionary.now.attributes in
    next_name c.args.dictionary.now names c.loop-at.at c.in-Some.name.now c.push_secret.new.ids.items (sym c.attribute_name.ensures ∙ ap option_copied c.in-Some.is)
    (c.in_ok-push_secret.ensures (take c.loop-at.at names) c.loop-at.invariant)
