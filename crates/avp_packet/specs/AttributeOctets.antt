-- The attributes that pairs are sent in, and their octets (RFC 2865, sections 5 and 5.26; RFC 6929, sections 2.1 and
-- 2.2).
use Rattle.std.specs.Prelude.{ℕ, zero, suc, ◌+◌, ◌-◌, ◌/◌, Bool, ◌&&◌, not, nat_le, if◌then◌else◌, List, [], ◌∷◌, ◌++◌, length, take, drop}
use Rattle.std.specs.Int.{bytes_high_first}
use Rattle.std.specs.List.{flat_map}
use Rattle.std.specs.Option.{option_map_or}
use Rattle.avp_lists.specs.declared.pairs.AttrId.{AttrId}
use Rattle.avp_lists.specs.declared.pairs.AttrId.TheVariants.{Plain, Vendor, Extended}
use Rattle.avp_lists.specs.declared.pairs.Pair.{Pair}
use Rattle.avp_dict.specs.declared.entries.Format.{Format}
use Rattle.avp_dict.specs.AttributeNumbers.{vendor_specific}
use Rattle.avp_dict.specs.Dictionary.{Dictionary}
use Rattle.avp_dict.specs.Octets.{is_hidden, octets}
use Rattle.avp_dict.specs.Sent.{is_raw, sent}
use Rattle.avp_packet.specs.ExtendedTypes.{long_extended_type_1, more_flag, piece_octets}
use Rattle.avp_packet.specs.Hiding.{hidden}
use Rattle.avp_packet.specs.Splitting.{Part, part_octets}
use Rattle.avp_packet.specs.VendorFormats.{known_format}

abbrev pub part : ℕ → List ℕ → Part
part number value = record { number = number; value = value }

-- Vendor-Id, then the vendor's type, length, which counts both of them, and value
abbrev pub vendor_value : ℕ → ℕ → List ℕ → Format → List ℕ
vendor_value vendor number os f =
    bytes_high_first 4 vendor ++ bytes_high_first f.t number
    ++ bytes_high_first f.l (f.t + f.l + length os) ++ os

abbrev pub vendor_part : ℕ → ℕ → List ℕ → Format → List Part
vendor_part vendor number os f = part vendor_specific (vendor_value vendor number os f) ∷ []

-- a long value in so many full pieces and a last one; the flag says that another piece follows
unfoldable pub fragments : ℕ → ℕ → ℕ → List ℕ → List Part
fragments zero t number os = part t (number ∷ 0 ∷ os) ∷ []
fragments (suc n) t number os =
    part t (number ∷ more_flag ∷ take piece_octets os)
    ∷ fragments n t number (drop piece_octets os)

-- of the types of extended attributes those from this one on hold long values
abbrev pub is_long : ℕ → Bool
is_long t = nat_le long_extended_type_1 t

module _ (dictionary : Dictionary) where
  -- the attributes of an id that hold these octets
  unfoldable pub parts_holding : AttrId → List ℕ → List Part
  parts_holding (Plain number) os = part number os ∷ []
  parts_holding (Vendor vendor number) os =
      option_map_or (vendor_part vendor number os) (known_format vendor dictionary) []
  parts_holding (Extended t number) os =
      if is_long t
      then fragments ((length os - 1) / piece_octets) t number os
      else (part t (number ∷ os) ∷ [])

  module _ (secret authenticator : List ℕ) where
    -- the octets of a pair's value: hidden where the attribute is, but for raw ones
    unfoldable pub sent_octets : Pair → List ℕ
    sent_octets pair =
        if is_hidden pair.id dictionary && not (is_raw pair.value)
        then hidden secret authenticator (octets pair.id pair.value dictionary)
        else octets pair.id pair.value dictionary

    -- the attributes that a pair is sent in
    abbrev pub parts_of_pair : Pair → List Part
    parts_of_pair pair = parts_holding pair.id (sent_octets pair)

    -- the attributes that a list is sent in
    unfoldable pub parts_of : List Pair → List Part
    parts_of pairs = flat_map parts_of_pair (sent pairs dictionary)

    -- the octets of a list
    abbrev pub attribute_octets : List Pair → List ℕ
    attribute_octets pairs = flat_map part_octets (parts_of pairs)
