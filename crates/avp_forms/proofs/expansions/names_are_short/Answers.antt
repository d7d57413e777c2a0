use Rattle.avp_forms.proofs.ShortNames.{short_names}
use Rattle.avp_forms.proofs.expansions.names_are_short.Goals as goal

pub returns : goal.returns
returns c = short_names c.args.dictionary.now c.names_are_short.ensures.values c.names_are_short.ensures.tagged
