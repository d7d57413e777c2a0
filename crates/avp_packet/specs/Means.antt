-- Which pairs a list of attributes means, in six cases (RFC 2865, section 5.26; RFC 6929, sections 2.1 and 2.2).
use Rattle.std.specs.Prelude.{◌≡◌, ◌⊎◌, ℕ, ◌<◌, true, false, List, [], ◌∷◌, ◌++◌, length, map, Some, None}
use Rattle.avp_lists.specs.declared.pairs.AttrId.TheVariants.{Plain, Extended}
use Rattle.avp_lists.specs.declared.pairs.Pair.{Pair}
use Rattle.avp_dict.specs.AttributeNumbers.{vendor_specific}
use Rattle.avp_dict.specs.Dictionary.{Dictionary}
use Rattle.avp_dict.specs.Sent.{is_container}
use Rattle.avp_packet.specs.ExtendedTypes.{holds_long, holds_one}
use Rattle.avp_packet.specs.Meanings.{Run, Subattribute, extended_type, first_run, pair_meant, raw_pair, subattribute_pair, vendor_of, vendor_subattributes}
use Rattle.avp_packet.specs.Splitting.{Part}

module _ (dictionary : Dictionary) where
  -- the first attribute holds others, and none of them is there to be read
  abbrev pub IsUnread : Part → List Part → Type 0
  IsUnread part parts =
      ((part.number ≡ vendor_specific) × (vendor_subattributes dictionary part.value ≡ None))
      ⊎ (((holds_one part.number ≡ true) × (length part.value < 2))
      ⊎ ((holds_long part.number ≡ true) × (first_run part parts ≡ None)))

  module _ (secret authenticator : List ℕ) where
    pub data Means : List Part → List Pair → Type 0 where
      nothing : Means [] []
      of_vendor : (part : Part) (parts : List Part) (subattributes : List Subattribute)
          (pairs : List Pair)
          → part.number ≡ vendor_specific
          → vendor_subattributes dictionary part.value ≡ Some subattributes
          → Means parts pairs
          → Means (part ∷ parts)
          (map (subattribute_pair dictionary secret authenticator (vendor_of part.value))
          subattributes ++ pairs)
      of_extended : (t n o : ℕ) (os : List ℕ) (parts : List Part) (pairs : List Pair)
          → holds_one t ≡ true
          → Means parts pairs
          → Means (record { number = t; value = n ∷ o ∷ os } ∷ parts)
          (pair_meant dictionary secret authenticator (Extended t n) (o ∷ os) ∷ pairs)
      of_run : (part : Part) (parts : List Part) (run : Run) (pairs : List Pair)
          → holds_long part.number ≡ true → first_run part parts ≡ Some run
          → Means run.rest pairs
          → Means (part ∷ parts)
          (pair_meant dictionary secret authenticator (Extended part.number (extended_type part))
          run.os ∷ pairs)
      as_raw : (part : Part) (parts : List Part) (pairs : List Pair) → IsUnread part parts
          → Means parts pairs
          → Means (part ∷ parts) (raw_pair part ∷ pairs)
      as_plain : (part : Part) (parts : List Part) (pairs : List Pair)
          → is_container (Plain part.number) ≡ false
          → Means parts pairs
          → Means (part ∷ parts)
          (pair_meant dictionary secret authenticator (Plain part.number) part.value ∷ pairs)
