use Rattle.avp_forms.proofs.PlainPairs.{pair_reads_back}
use Rattle.avp_forms.proofs.laws.pair_read_back.Goals as goal

pub returns : goal.returns
returns c = pair_reads_back c.args.dictionary.now c.is_sound.ensures.sound c.args.pair.now c.requires c.bytes_in_range.ensures c.printed_back.ensures
