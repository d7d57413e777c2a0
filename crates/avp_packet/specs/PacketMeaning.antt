-- What the attributes of a packet's octets mean.
use Rattle.std.specs.Prelude.{ℕ, List}
use Rattle.avp_lists.specs.declared.pairs.Pair.{Pair}
use Rattle.avp_dict.specs.Dictionary.{Dictionary}
use Rattle.avp_packet.specs.declared.packets.Packet.{Packet}
use Rattle.avp_packet.specs.Means.{Means}
use Rattle.avp_packet.specs.Packets.{attributes_of, authenticator_of, hiding_authenticator, pairs_meant}
use Rattle.avp_packet.specs.Sending.{Content}
use Rattle.avp_packet.specs.Splitting.{parts}

module _ (dictionary : Dictionary) (secret : List ℕ) where
  -- the attributes of these octets mean the pairs, where the packet's code and authenticator tell what hides passwords
  abbrev pub OctetsMean : ℕ → List ℕ → List ℕ → List Pair → Type 0
  OctetsMean code authenticator os pairs =
      Means dictionary secret (hiding_authenticator code authenticator)
      (parts (attributes_of os)) pairs

  -- they mean the pairs that a packet of this content sends
  abbrev pub OctetsMeanContent : ℕ → ℕ → List ℕ → Content → List ℕ → Type 0
  OctetsMeanContent code id authenticator content os =
      OctetsMean code authenticator os (pairs_meant dictionary secret code id authenticator content)

  -- the packet that octets are read as, where they are a packet of this content
  abbrev pub packet_meant : ℕ → ℕ → List ℕ → Content → List ℕ → Packet
  packet_meant code id authenticator content os = record {
    code = code;
    id = id;
    authenticator = authenticator_of os;
    list = pairs_meant dictionary secret code id authenticator content;
  }
