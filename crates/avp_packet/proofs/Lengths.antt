-- How many octets attributes have.
use Rattle.std.proofs.Common.{◌≡◌, ◌∙◌, ℕ, zero, suc, ◌+◌, ◌-◌, ◌*◌, ◌/◌, List, [], ◌∷◌, ◌++◌, length, take, drop, ap, arith, append-nil}
use Rattle.std.proofs.lemmas.List.{length-append, take-append-drop}
use Rattle.std.specs.List.{flat_map}
use Rattle.avp_lists.specs.declared.pairs.Pair.{Pair}
use Rattle.avp_dict.specs.Dictionary.{Dictionary}
use Rattle.avp_dict.specs.declared.entries.Format.{Format}
use Rattle.avp_packet.specs.declared.encoding.dividing.Division.{Division}
use Rattle.avp_packet.specs.AttributeOctets.{attribute_octets, fragments, part, vendor_part, vendor_value}
use Rattle.avp_packet.specs.ExtendedTypes.{more_flag, piece_octets}
use Rattle.avp_packet.specs.Hiding.{block_count, hidden, padded}
use Rattle.avp_packet.specs.Sending.{without_signatures}
use Rattle.avp_packet.specs.Splitting.{part_octets}
use Rattle.avp_packet.specs.internal.Filling.{divided_octets, signature_if}
use Rattle.avp_packet.proofs.Masks.{length-hidden_blocks}
use Rattle.avp_packet.proofs.Nuls.{length-padded}
use Rattle.avp_packet.proofs.Written.{length-vendor_value}

pub hidden_size : (secret authenticator password : List ℕ) → length (hidden secret authenticator password) ≡ 16 * block_count (length password)
unfolding hidden
hidden_size secret authenticator password =
    length-hidden_blocks (block_count (length password)) secret authenticator (padded password) (length-padded password)

pub one_part : (number : ℕ) (os : List ℕ) → length (flat_map part_octets (part number os ∷ [])) ≡ 2 + length os
one_part number os =
    let size : length (part_octets (part number os)) ≡ 2 + length os = omega arith in
    ap length (append-nil (part_octets (part number os))) ∙ size

pub vendor_size : (vendor number : ℕ) (os : List ℕ) (f : Format) → length (flat_map part_octets (vendor_part vendor number os f)) ≡ 6 + f.t + f.l + length os
vendor_size vendor number os f =
    let held = length-vendor_value vendor number os f in
    one_part 26 (vendor_value vendor number os f) ∙ omega (arith, held)

pieces_of : (k t number : ℕ) (os : List ℕ) → length (flat_map part_octets (fragments k t number os)) ≡ 4 * (1 + k) + length os
unfolding fragments
pieces_of zero t number os =
    let size : 2 + length (number ∷ 0 ∷ os) ≡ 4 * (1 + 0) + length os = omega arith in
    one_part t (number ∷ 0 ∷ os) ∙ size
pieces_of (suc k) t number os =
    let first : List ℕ = part_octets (part t (number ∷ more_flag ∷ take piece_octets os)) in
    let size : length first ≡ 4 + length (take piece_octets os) = omega arith in
    let both = length-append first (flat_map part_octets (fragments k t number (drop piece_octets os))) in
    let others = pieces_of k t number (drop piece_octets os) in
    let whole = ap length (take-append-drop piece_octets os) in
    let halves = length-append (take piece_octets os) (drop piece_octets os) in
    both ∙ omega (arith, size, others, whole, halves)

pub pieces_size : (t number : ℕ) (os : List ℕ) → length (flat_map part_octets (fragments ((length os - 1) / piece_octets) t number os)) ≡ 4 * (1 + (length os - 1) / piece_octets) + length os
pieces_size t number os = pieces_of ((length os - 1) / piece_octets) t number os

-- the attributes of a divided list, one after the other
module _ (dictionary : Dictionary) (secret hide_by : List ℕ) where
  abbrev size : List Pair → ℕ
  size pairs = length (attribute_octets dictionary secret hide_by pairs)

  pub divided_size : (division : Division) (proxy_states : List Pair) (signature : List ℕ)
      → length (divided_octets dictionary secret hide_by division proxy_states signature)
      ≡ size division.before.now + (length (signature_if division.signed signature) + (size (without_signatures division.after.now) + size proxy_states))
  divided_size division proxy_states signature =
      let octets : List Pair → List ℕ = attribute_octets dictionary secret hide_by in
      let before : List ℕ = octets division.before.now in
      let signed : List ℕ = signature_if division.signed signature in
      let after : List ℕ = octets (without_signatures division.after.now) in
      let whole : length (divided_octets dictionary secret hide_by division proxy_states signature) ≡ length (before ++ signed ++ after) + length (octets proxy_states) =
      length-append (before ++ signed ++ after) (octets proxy_states) in
      let three : length (before ++ signed ++ after) ≡ length (before ++ signed) + length after = length-append (before ++ signed) after in
      let two : length (before ++ signed) ≡ length before + length signed = length-append before signed in
      omega (arith, whole, three, two)
