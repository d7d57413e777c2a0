-- What pairs a list of attributes means (RFC 2865, section 5.26; RFC 6929, sections 2.1 and 2.2).
use Rattle.std.specs.Prelude.{ℕ, zero, suc, ◌+◌, ◌-◌, Bool, true, not, ◌&&◌, ◌==◌, nat_le, if◌then◌else◌, List, [], ◌∷◌, ◌++◌, length, take, drop, map, slice_index, Option, Some, None}
use Rattle.std.specs.Int.Digits.{number_from_digits}
use Rattle.std.specs.Option.{option_and_then, option_map}
use Rattle.avp_lists.specs.declared.pairs.AttrId.{AttrId}
use Rattle.avp_lists.specs.declared.pairs.AttrId.TheVariants.{Plain, Vendor, Extended}
use Rattle.avp_lists.specs.declared.pairs.Pair.{Pair}
use Rattle.avp_lists.specs.declared.pairs.Value.{Value}
use Rattle.avp_lists.specs.declared.pairs.Value.TheVariants.{Raw}
use Rattle.avp_dict.specs.declared.entries.Format.{Format}
use Rattle.avp_dict.specs.AttributeNumbers.{vendor_specific}
use Rattle.avp_dict.specs.Dictionary.{Dictionary}
use Rattle.avp_dict.specs.Octets.{is_hidden, value_of_octets}
use Rattle.avp_packet.specs.ExtendedTypes.{holds_long, holds_one, more_flag, piece_octets}
use Rattle.avp_packet.specs.Hiding.{shown_by}
use Rattle.avp_packet.specs.Splitting.{Part}
use Rattle.avp_packet.specs.VendorFormats.{known_format}

-- ---- a vendor's own attributes (RFC 2865, section 5.26)

-- a subattribute (RFC 2865, section 5.26): one of a vendor's own attributes
pub record Subattribute : Type 0 where
  pub number : ℕ
  pub value : List ℕ

-- what the vendor's length counts: the octets themselves where the format has no octets of length
abbrev pub subattribute_length : Format → List ℕ → ℕ
subattribute_length f os =
    if f.l == 0 then length os else number_from_digits 256 (take f.l (drop f.t os))

-- a vendor's attribute comes first: its length counts type and length, and does not run past the end
abbrev pub begins_subattribute : Format → List ℕ → Bool
begins_subattribute f os =
    nat_le (f.t + f.l) (length os) && nat_le (f.t + f.l) (subattribute_length f os)
    && nat_le (subattribute_length f os) (length os)

abbrev pub first_subattribute : Format → List ℕ → Subattribute
first_subattribute f os = record {
  number = number_from_digits 256 (take f.t os);
  value = take (subattribute_length f os - (f.t + f.l)) (drop (f.t + f.l) os);
}

-- the vendor's attributes in the octets after the first so many
unfoldable pub subattributes_after : Format → ℕ → List ℕ → List Subattribute
subattributes_after f k [] = []
subattributes_after f (suc k) (o ∷ os) = subattributes_after f k os
subattributes_after f zero (o ∷ os) =
    if begins_subattribute f (o ∷ os)
    then (first_subattribute f (o ∷ os)
    ∷ subattributes_after f (subattribute_length f (o ∷ os) - 1) os)
    else []

-- the octets after the first so many are whole attributes of the vendor
unfoldable pub are_subattributes_after : Format → ℕ → List ℕ → Bool
are_subattributes_after f k [] = true
are_subattributes_after f (suc k) (o ∷ os) = are_subattributes_after f k os
are_subattributes_after f zero (o ∷ os) =
    begins_subattribute f (o ∷ os)
    && are_subattributes_after f (subattribute_length f (o ∷ os) - 1) os

abbrev pub subattributes : Format → List ℕ → List Subattribute
subattributes f os = subattributes_after f 0 os

-- one or more whole attributes of the vendor
abbrev pub are_subattributes : Format → List ℕ → Bool
are_subattributes f os = not (length os == 0) && are_subattributes_after f 0 os

abbrev pub vendor_of : List ℕ → ℕ
vendor_of os = number_from_digits 256 (take 4 os)

abbrev pub subattributes_by : List ℕ → Format → Option (List Subattribute)
subattributes_by os f =
    if are_subattributes f (drop 4 os) then Some (subattributes f (drop 4 os)) else None

-- ---- long values (RFC 6929, section 2.2)

-- a piece of a long value, and whether another one follows
pub record Piece : Type 0 where
  pub more : Bool
  pub os : List ℕ

abbrev pub piece_in : ℕ → List ℕ → Option Piece
piece_in number (n ∷ flags ∷ o ∷ os) =
    if n == number then Some (record { more = nat_le more_flag flags; os = o ∷ os }) else None
piece_in number _ = None

-- the piece in an attribute of this type and Extended-Type
abbrev pub piece_of : ℕ → ℕ → Part → Option Piece
piece_of t number part = if part.number == t then piece_in number part.value else None

-- pieces joined, and the attributes after them
pub record Run : Type 0 where
  pub os : List ℕ
  pub rest : List Part

abbrev pub joined : List ℕ → Run → Run
joined os run = record { os = os ++ run.os; rest = run.rest }

-- the last piece ends a run; any other one is full, and what follows it goes on
abbrev pub run_with : Piece → List Part → Option Run → Option Run
run_with piece parts following =
    if piece.more
    then (if length piece.os == piece_octets then option_map (joined piece.os) following else None)
    else Some (record { os = piece.os; rest = parts })

-- the run of a type and an Extended-Type that attributes begin with
unfoldable pub run : ℕ → ℕ → List Part → Option Run
run t number [] = None
run t number (part ∷ parts) =
    option_and_then (λ piece. run_with piece parts (run t number parts)) (piece_of t number part)

abbrev pub extended_type : Part → ℕ
extended_type part = slice_index part.value 0

-- the run that attributes begin with
abbrev pub first_run : Part → List Part → Option Run
first_run part parts = run part.number (extended_type part) (part ∷ parts)

-- how many of the attributes after the first its value goes on in
abbrev pub continued_in : List Part → Option Run → ℕ
continued_in parts (Some run) = length parts - length run.rest
continued_in parts None = 0

abbrev pub continued : Part → List Part → ℕ
continued part parts = if holds_long part.number then continued_in parts (first_run part parts) else 0

-- ---- pairs

-- an attribute whose octets are not looked into
abbrev pub raw_pair : Part → Pair
raw_pair part = record { id = Plain part.number; value = Raw part.value }

module _ (dictionary : Dictionary) where
  abbrev pub value_shown : AttrId → List ℕ → Option (List ℕ) → Value
  value_shown id os (Some password) = value_of_octets id password dictionary
  value_shown id os None = Raw os

  -- what is after the Vendor-Id, by the format of the vendor
  unfoldable pub vendor_subattributes : List ℕ → Option (List Subattribute)
  vendor_subattributes os =
      if nat_le 4 (length os)
      then option_and_then (subattributes_by os) (known_format (vendor_of os) dictionary)
      else None

  module _ (secret authenticator : List ℕ) where
    -- the value of an attribute's octets, shown first where they are hidden and there is a secret
    unfoldable pub value_meant : AttrId → List ℕ → Value
    value_meant id os =
        if is_hidden id dictionary
        then value_shown id os (shown_by secret authenticator os)
        else value_of_octets id os dictionary

    abbrev pub pair_meant : AttrId → List ℕ → Pair
    pair_meant id os = record { id = id; value = value_meant id os }

    abbrev pub subattribute_pair : ℕ → Subattribute → Pair
    subattribute_pair vendor subattribute =
        pair_meant (Vendor vendor subattribute.number) subattribute.value

    -- a pair for each of the vendor's attributes, else the attribute as it is
    abbrev pub vendor_pairs : Part → Option (List Subattribute) → List Pair
    vendor_pairs part (Some subattributes) =
        map (subattribute_pair (vendor_of part.value)) subattributes
    vendor_pairs part None = raw_pair part ∷ []

    -- an extended attribute (RFC 6929, section 2.1)
    abbrev pub extended_pair : Part → Pair
    extended_pair part = elim part.value [
      | n ∷ o ∷ os ↦ pair_meant (Extended part.number n) (o ∷ os)
      | _ ↦ raw_pair part
    ]

    abbrev pub long_pair : Part → Option Run → Pair
    long_pair part (Some run) = pair_meant (Extended part.number (extended_type part)) run.os
    long_pair part None = raw_pair part

    -- the pairs of the first attribute, with those that its value goes on in
    abbrev pub first_pairs : Part → List Part → List Pair
    first_pairs part parts =
        if part.number == vendor_specific
        then vendor_pairs part (vendor_subattributes part.value)
        else if holds_one part.number
        then extended_pair part ∷ []
        else if holds_long part.number
        then long_pair part (first_run part parts) ∷ []
        else (pair_meant (Plain part.number) part.value ∷ [])

    -- the pairs of the attributes after the first so many
    unfoldable pub meaning_after : ℕ → List Part → List Pair
    meaning_after k [] = []
    meaning_after (suc k) (part ∷ parts) = meaning_after k parts
    meaning_after zero (part ∷ parts) =
        first_pairs part parts ++ meaning_after (continued part parts) parts

    -- the pairs that attributes mean
    abbrev pub attribute_pairs : List Part → List Pair
    attribute_pairs attributes = meaning_after 0 attributes
