-- Replies that are written are read.
use Rattle.std.proofs.Common.{◌≡◌, ℕ, Bool, true, false, ◌&&◌, nat_le, nat_lt, List, [], length, Ok, refl, arith, inl, inr}
use Rattle.std.specs.List.{list_any}
use Rattle.std.proofs.lemmas.Bool.{and_parts}
use Rattle.std.proofs.lemmas.Grind.{common_steps}
use Rattle.avp_lists.specs.declared.pairs.Pair.{Pair}
use Rattle.avp_dict.specs.Dictionary.{Dictionary}
use Rattle.avp_packet.specs.DecodedReply.{decoded_reply, is_taken_reply_code, is_wrongly_signed_reply}
use Rattle.avp_packet.specs.PacketMeaning.{OctetsMean}
use Rattle.avp_packet.specs.Packets.{IsReplyCode, accounting_response, attributes_of, authenticator_of, begins_packet, code_of, hiding_authenticator, id_of, is_packet_length, is_reply, length_of}
use Rattle.avp_packet.specs.Signed.{is_signature, is_signed}
use Rattle.avp_packet.specs.Splitting.{left, parts}
use Rattle.avp_packet.proofs.OneMeaning.{only_meaning}

taken_code : (code : ℕ) → IsReplyCode code → is_taken_reply_code code ≡ true
taken_code code (inl e) = rw e refl
taken_code code (inr (inl e)) = rw e refl
taken_code code (inr (inr e)) = rw e refl

-- it is signed where it has to be
pub rightly_signed : (os authenticator secret : List ℕ) → (signed : Bool) → (code_of os ≡ accounting_response → signed ≡ false)
    → (signed ≡ true → is_signed os authenticator secret ≡ true) → (signed ≡ false → list_any is_signature (parts (attributes_of os)) ≡ false)
    → is_wrongly_signed_reply os authenticator secret ≡ false
rightly_signed os authenticator secret true h is none = let e = is refl in grind (arith, common_steps)
rightly_signed os authenticator secret false h is none = let e = none refl in grind (arith, common_steps)

begun : (os authenticator secret : List ℕ) → is_reply os authenticator secret ≡ true → begins_packet os ≡ true
unfolding is_reply
begun os authenticator secret is = (and_parts (begins_packet os) _ is).0

module _ (dictionary : Dictionary) (secret authenticator os : List ℕ) where
  pub read_again : (pairs : List Pair) → is_reply os authenticator secret ≡ true → left (attributes_of os) ≡ [] → IsReplyCode (code_of os) → is_wrongly_signed_reply os authenticator secret ≡ false
      → OctetsMean dictionary secret (code_of os) authenticator os pairs
      → decoded_reply dictionary secret authenticator os ≡ Ok (record { code = code_of os; id = id_of os; authenticator = authenticator_of os; list = pairs })
  unfolding decoded_reply
  read_again pairs is whole code signed means =
      let begins : begins_packet os ≡ true = begun os authenticator secret is in
      let reached = and_parts (nat_le 20 (length os) && is_packet_length (length_of os)) (nat_le (length_of os) (length os)) begins in
      let ranged = and_parts (nat_le 20 (length os)) (is_packet_length (length_of os)) reached.0 in
      let a : nat_lt (length os) 20 ≡ false = grind (arith, common_steps) in
      let b : nat_lt (length os) (length_of os) ≡ false = grind (arith, common_steps) in
      let taken = taken_code (code_of os) code in
      let same = only_meaning dictionary secret (hiding_authenticator (code_of os) authenticator) (parts (attributes_of os)) pairs means in
      rw (a, ranged.1, b, whole, taken, is, signed, same) refl
