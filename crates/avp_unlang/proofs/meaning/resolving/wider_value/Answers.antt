use Rattle.std.proofs.Common.{None, Some, rules}
use Rattle.avp_forms.specs.declared.profiles.Profile.TheVariants.{Wider}
use Rattle.avp_forms.proofs.WrittenValues.{pair_fits, written_clean}
use Rattle.avp_unlang.specs.Resolutions.{pair_of}
use Rattle.avp_unlang.proofs.meaning.resolving.wider_value.Goals as goal

pub returns-clause-fits : goal.returns-clause-fits
returns-clause-fits c =
    pair_fits c.args.dictionary.now c.is_sound.ensures.sound (Some (pair_of c.args.target.named.id c.in_ok-value.value))
    (written_clean c.args.dictionary.now c.is_sound.ensures.sound Wider c.args.target c.args.text.now None c.in_ok-value.value c.requires.known (search rules))
