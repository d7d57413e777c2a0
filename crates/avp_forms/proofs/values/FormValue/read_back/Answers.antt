use Rattle.avp_forms.proofs.TextsBack.{reads_back}
use Rattle.avp_forms.proofs.values.FormValue.read_back.Goals as goal

pub returns : goal.returns
returns c = reads_back c.args.dictionary.now c.is_sound.ensures.sound c.args.self.now c.args.id c.value_in_range.ensures c.requires
