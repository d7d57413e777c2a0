use Rattle.avp_forms.proofs.TextsBack.{prints_octets}
use Rattle.avp_forms.proofs.laws.octets_read_back.Goals as goal

pub returns : goal.returns
returns c = prints_octets c.args.dictionary.now c.is_sound.ensures.sound c.args.form c.args.octets.now c.args.id c.octets_in_range.ensures
