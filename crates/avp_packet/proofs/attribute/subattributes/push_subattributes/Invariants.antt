use Rattle.std.proofs.Common.{◌≡◌, ◌++◌, length, map}
use Rattle.avp_packet.specs.Meanings.{are_subattributes_after, subattribute_pair, subattributes}
use Rattle.avp_packet.proofs.attribute.subattributes.push_subattributes.Given as goal

abbrev pub invariant-loop-subattribute : goal.invariant-loop-subattribute
invariant-loop-subattribute l = record {
  written : l.pairs.items ++ map (subattribute_pair l.keys.dictionary.now l.keys.secret.now l.keys.authenticator.now l.found.vendor) (subattributes l.found.format l.rest) ≡ l.fn.pairs.items ++ map (subattribute_pair l.keys.dictionary.now l.keys.secret.now l.keys.authenticator.now l.found.vendor) (subattributes l.found.format l.found.octets.now);
  whole : are_subattributes_after l.found.format 0 l.rest ≡ are_subattributes_after l.found.format 0 l.found.octets.now;
}

abbrev pub decreases-loop-subattribute : goal.decreases-loop-subattribute
decreases-loop-subattribute l = length l.rest
