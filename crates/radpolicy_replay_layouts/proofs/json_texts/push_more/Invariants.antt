use Rattle.std.proofs.Common.{◌≡◌, ◌++◌, codes, length}
use Rattle.std.specs.List.{flat_map}
use Rattle.avp_dict.specs.internal.Views.{views}
use Rattle.radpolicy_replay_layouts.specs.JsonTexts.{string}
use Rattle.radpolicy_replay_layouts.proofs.json_texts.push_more.Given as goal

abbrev pub invariant-loop-rest : goal.invariant-loop-rest
invariant-loop-rest l = l.text.items ++ flat_map (λ octets. codes "," ++ string octets) (views l.rest)
    ≡ l.fn.text.items ++ flat_map (λ octets. codes "," ++ string octets) (views l.later)

abbrev pub decreases-loop-rest : goal.decreases-loop-rest
decreases-loop-rest l = length l.rest
