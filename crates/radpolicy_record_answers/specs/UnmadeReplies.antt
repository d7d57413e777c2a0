-- The reply of a policy as far as it is known where no packet is made of it, as no secret is known: its code, and its
-- pairs (RFC 2865, section 4; RFC 2866, section 4; RFC 3579, section 3.2).
use Rattle.std.specs.Prelude.{ℕ, List, Option, None, Some}
use Rattle.avp_lists.specs.declared.pairs.Pair.{Pair}
use Rattle.avp_dict.specs.Dictionary.{Dictionary}
use Rattle.avp_dict.specs.Sent.{sent}
use Rattle.avp_packet.specs.Packets.{code_of, id_of, zeros}
use Rattle.avp_packet.specs.Sending.{without_signatures}
use Rattle.avp_packet.specs.declared.packets.Packet.{Packet}
use Rattle.avp_unlang.specs.Meaning.{Outcome as End}
use Rattle.radpolicy.specs.Replies.{reply_code, reply_pairs}

-- a reply of this code to the request of these octets, if there is one: of its pairs those that are sent, of which no
-- Message-Authenticator is one
abbrev pub unmade_with : Dictionary → List ℕ → List Pair → Option ℕ → Option Packet
unmade_with dictionary request pairs None = None
unmade_with dictionary request pairs (Some code) = Some (record {
  code = code;
  id = id_of request;
  authenticator = zeros;
  list = sent (without_signatures pairs) dictionary;
})

-- what a policy sends whose run ended so, without the request's Proxy-States and the reply's own Message-Authenticator
abbrev pub unmade_reply : Dictionary → List ℕ → End → Option Packet
unmade_reply dictionary request end =
    unmade_with dictionary request (reply_pairs end.code end.state.reply)
    (reply_code (code_of request) end.code)
