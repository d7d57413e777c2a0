use Rattle.std.proofs.Common.{◌≡◌, ◌++◌, length}
use Rattle.avp_packet.specs.Meanings.{attribute_pairs}
use Rattle.avp_packet.specs.Splitting.{parts}
use Rattle.avp_packet.proofs.decoding.pairs.attribute_pairs.Given as goal

abbrev pub invariant-loop-front : goal.invariant-loop-front
invariant-loop-front l = record {
  read : l.pairs.items ++ attribute_pairs l.keys.dictionary.now l.keys.secret.now l.keys.authenticator.now (parts l.rest) ≡ attribute_pairs l.keys.dictionary.now l.keys.secret.now l.keys.authenticator.now (parts l.octets);
  dictionary : l.knowing.dictionary.now ≡ l.keys.dictionary.now;
  secret : l.knowing.secret.now ≡ l.keys.secret.now;
  authenticator : l.knowing.authenticator.now ≡ l.keys.authenticator.now;
}

abbrev pub decreases-loop-front : goal.decreases-loop-front
decreases-loop-front l = length l.rest
