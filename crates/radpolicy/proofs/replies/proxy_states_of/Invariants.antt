use Rattle.std.proofs.Common.{◌≡◌, take}
use Rattle.avp_dict.specs.AttributeNumbers.{proxy_state}
use Rattle.avp_lists.specs.Instances.{instances}
use Rattle.avp_lists.specs.declared.pairs.AttrId.TheVariants.{Plain}
use Rattle.radpolicy.proofs.replies.proxy_states_of.Given as goal

abbrev pub invariant-loop-pair : goal.invariant-loop-pair
invariant-loop-pair l = l.found.items ≡ instances (Plain proxy_state) (take l.pair-index l.pairs)
