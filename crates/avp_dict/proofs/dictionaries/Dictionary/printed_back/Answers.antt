use Rattle.avp_dict.proofs.ReadingBack.{reads_back}
use Rattle.avp_dict.proofs.dictionaries.Dictionary.printed_back.Goals as goal

pub returns : goal.returns
returns c = reads_back c.args.self.now c.sound.ensures c.args.pair.now.id c.args.pair.now.value c.id_in_range.ensures c.value_in_range.ensures c.requires
