use Rattle.std.proofs.Common.{◌≡◌, ◌++◌, ℕ, ◌<◌, ◌≤◌, drop, get_or, length}
use Rattle.avp_lists.specs.declared.pairs.Pair.{Pair}
use Rattle.avp_packet.specs.internal.Filling.{kept_pairs}
use Rattle.avp_packet.specs.internal.Ranges.{IsVendorInRange}
use Rattle.avp_packet.specs.declared.authenticators.TheConstants.{MAX_PACKET_OCTETS}
use Rattle.avp_packet.specs.AttributeOctets.{attribute_octets}
use Rattle.avp_packet.proofs.encoding.pairs.push_each.Given as goal

abbrev pub invariant-loop-pair : goal.invariant-loop-pair
invariant-loop-pair l = record {
  written : l.octets.items ++ attribute_octets l.keys.dictionary.now l.keys.secret.now l.keys.authenticator.now (kept_pairs l.all (drop l.pair-index l.list)) ≡ l.fn.octets.items ++ attribute_octets l.keys.dictionary.now l.keys.secret.now l.keys.authenticator.now (kept_pairs l.all l.list);
  ranged : (k : ℕ) (d : Pair) → k < l.pair-index → IsVendorInRange (get_or l.list k d).id;
  short : length l.octets.items ≤ MAX_PACKET_OCTETS;
  dictionary : l.knowing.dictionary.now ≡ l.keys.dictionary.now;
  secret : l.knowing.secret.now ≡ l.keys.secret.now;
  authenticator : l.knowing.authenticator.now ≡ l.keys.authenticator.now;
}
