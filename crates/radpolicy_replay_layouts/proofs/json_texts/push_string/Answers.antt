use Rattle.radpolicy_replay_layouts.proofs.Strings.{string_said}
use Rattle.radpolicy_replay_layouts.proofs.json_texts.push_string.Goals as goal

pub returns : goal.returns
returns c = string_said c.push_json_string.result c.args.octets.now c.args.text.now.items c.push_json_string.new.text.items c.push_json_string.ensures.string c.push_json_string.ensures.octets
