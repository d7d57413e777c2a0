-- Which pairs are read back as they were written, and which pairs are sent.
use Rattle.std.specs.Prelude.{ℕ, ◌%◌, Bool, true, false, not, ◌&&◌, ◌||◌, ◌==◌, nat_le, nat_lt, if◌then◌else◌, List, length, filter}
use Rattle.std.specs.List.{list_all}
use Rattle.avp_lists.specs.declared.pairs.AttrId.{AttrId}
use Rattle.avp_lists.specs.declared.pairs.AttrId.TheVariants as ids
use Rattle.avp_lists.specs.declared.pairs.Value.{Value}
use Rattle.avp_lists.specs.declared.pairs.Value.TheVariants.{Raw}
use Rattle.avp_lists.specs.declared.pairs.Pair.{Pair}
use Rattle.avp_lists.specs.Pairs.{value_eq}
use Rattle.avp_dict.specs.AttributeNumbers.{is_extended_type, max_plain, vendor_specific}
use Rattle.avp_dict.specs.Dictionary.{Dictionary}
use Rattle.avp_dict.specs.Octets.{is_hidden, max_hidden_octets, octets, value_of_octets}
use Rattle.avp_dict.specs.Limits.{fits}

abbrev pub is_raw : Value → Bool
is_raw (Raw os) = true
is_raw _ = false

-- an attribute that only holds others (RFC 2865, section 5.26; RFC 6929, section 2)
abbrev pub is_container : AttrId → Bool
is_container (ids.Plain n) = (n == vendor_specific) || is_extended_type n
is_container _ = false

-- an attribute that is never sent
abbrev pub is_internal : AttrId → Bool
is_internal (ids.Plain n) = nat_lt max_plain n
is_internal _ = false

-- a length of hidden octets: 16, 32, .. up to the most (RFC 2865, section 5.2)
abbrev pub is_block_length : ℕ → Bool
is_block_length n = (n % 16 == 0) && nat_le 16 n && nat_le n max_hidden_octets

-- whether a value is itself again once it was written under a hidden attribute and read:
-- raw octets of a block length would be taken for hidden ones
abbrev pub survives_hiding : Value → Bool
survives_hiding (Raw os) = not (is_block_length (length os))
survives_hiding _ = true

-- a pair that its own octets stand for
unfoldable pub is_canonical : Pair → Dictionary → Bool
is_canonical pair dictionary = fits pair dictionary
    && (if is_hidden pair.id dictionary then survives_hiding pair.value
    else value_eq pair.value
    (value_of_octets pair.id (octets pair.id pair.value dictionary) dictionary))

abbrev pub is_clean_pair : Dictionary → Pair → Bool
is_clean_pair dictionary pair = is_canonical pair dictionary && not (is_container pair.id)

-- a list that is read back as it was written
unfoldable pub is_clean : List Pair → Dictionary → Bool
is_clean pairs dictionary = list_all (is_clean_pair dictionary) pairs

-- a pair that is not internal, and has octets or hides that it has none
abbrev pub is_sent : Dictionary → Pair → Bool
is_sent dictionary pair = not (is_internal pair.id)
    && (not (length (octets pair.id pair.value dictionary) == 0)
    || (is_hidden pair.id dictionary && not (is_raw pair.value)))

-- the pairs that are sent
unfoldable pub sent : List Pair → Dictionary → List Pair
sent pairs dictionary = filter (is_sent dictionary) pairs
