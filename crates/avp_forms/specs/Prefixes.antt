-- Prefixes of addresses: `ADDRESS/N`, where N is how many bits belong to the prefix.
use Rattle.std.specs.Prelude.{codes, ℕ, ◌-◌, ◌%◌, ◌^◌, Bool, ◌==◌, List, [], ◌∷◌, ◌++◌, decimal, Option, None}
use Rattle.std.specs.Option.{option_and_then, option_map}
use Rattle.std.specs.List.{slice_split}
use Rattle.std.specs.Net.Reader.{read_ipv4, whole_value}
use Rattle.std.specs.Net.Text.{ipv4_text}
use Rattle.avp_forms.specs.Ipv6Addresses.{ipv6_address_text, ipv6_spelled}
use Rattle.avp_forms.specs.Numerals.{number_within}

-- ---- bits

-- the first n bits of an octet, the others cleared
abbrev pub first_bits : ℕ → ℕ → ℕ
first_bits n octet = octet - octet % 2 ^ (8 - n)

-- the first n bits of octets, the others cleared
abbrev pub masked : ℕ → List ℕ → List ℕ
masked n [] = []
masked n (octet ∷ octets) = first_bits n octet ∷ masked (n - 8) octets

-- ---- texts

-- '/'
abbrev pub is_slash : ℕ → Bool
is_slash o = o == 47

-- an address and a length in decimal digits, zeros before them or not, with the bits past it cleared
abbrev pub prefix_of : (List ℕ → Option (List ℕ)) → ℕ → List (List ℕ) → Option (List ℕ × ℕ)
prefix_of address most (before ∷ after ∷ []) =
    option_and_then (λ octets. option_map (λ n. (masked n octets, n)) (number_within 10 most after))
    (address before)
prefix_of address most _ = None

-- four decimal octets without zeros before them, with dots between
unfoldable pub ipv4_spelled : List ℕ → Option (List ℕ)
ipv4_spelled text = whole_value (read_ipv4 text)

unfoldable pub ipv6_prefix_spelled : List ℕ → Option (List ℕ × ℕ)
ipv6_prefix_spelled text = prefix_of ipv6_spelled 128 (slice_split is_slash text)

unfoldable pub ipv4_prefix_spelled : List ℕ → Option (List ℕ × ℕ)
ipv4_prefix_spelled text = prefix_of ipv4_spelled 32 (slice_split is_slash text)

abbrev pub length_text : ℕ → List ℕ
length_text n = codes "/" ++ decimal n

unfoldable pub ipv6_prefix_text : List ℕ → ℕ → List ℕ
ipv6_prefix_text octets n = ipv6_address_text octets ++ length_text n

unfoldable pub ipv4_prefix_text : List ℕ → ℕ → List ℕ
ipv4_prefix_text octets n = ipv4_text octets ++ length_text n
