-- Addresses, and the addresses that begin as another does.
use Rattle.std.specs.Prelude.{ℕ, ◌+◌, ◌-◌, ◌*◌, ◌/◌, ◌^◌, Bool, true, false, ◌&&◌, ◌==◌, nat_le, if◌then◌else◌, List, [], ◌∷◌, length, take, drop, Option, None, Some}
use Rattle.std.specs.List.{position}
use Rattle.std.specs.Option.{option_and_then, option_map}
use Rattle.std.specs.Net.Addr.{ipv4_octets, ipv6_octets}
use Rattle.std.specs.Net.Reader.{read_ipv4, read_ipv6, whole_value}
use Rattle.std.specs.declared.net.ip_addr.IpAddr.{IpAddr}
use Rattle.std.specs.declared.net.ip_addr.IpAddr.TheVariants.{V4, V6}
use Rattle.std.specs.declared.net.ipv4_addr.Ipv4Addr.{Ipv4Addr}
use Rattle.std.specs.declared.net.ipv6_addr.Ipv6Addr.{Ipv6Addr}
use Rattle.avp_dict.specs.Letters.{is_decimal}
use Rattle.avp_forms.specs.Prefixes.{is_slash}

-- ---- texts

abbrev pub of_octets : List ℕ → IpAddr
of_octets octets = V4 (record { octets = octets })

abbrev pub of_segments : List ℕ → IpAddr
of_segments segments = V6 (record { segments = segments })

abbrev pub v4_of : List ℕ → Option IpAddr
v4_of text = option_map of_octets (whole_value (read_ipv4 text))

abbrev pub v6_of : List ℕ → Option IpAddr
v6_of text = option_map of_segments (whole_value (read_ipv6 text))

abbrev pub or_else : Option IpAddr → Option IpAddr → Option IpAddr
or_else (Some address) other = Some address
or_else None other = other

-- the address that a text writes: four decimal octets with dots between, or the text of RFC 4291, section 2.2
unfoldable pub address_of : List ℕ → Option IpAddr
address_of text = or_else (v4_of text) (v6_of text)

-- how many bits it has
abbrev pub bits_of : IpAddr → ℕ
bits_of (V4 a) = 32
bits_of (V6 a) = 128

-- ---- prefixes

-- a number of one to three decimal digits
abbrev pub small_number : List ℕ → Option ℕ
small_number (a ∷ []) = if is_decimal a then Some (a - 48) else None
small_number (a ∷ b ∷ []) =
    if is_decimal a && is_decimal b then Some ((a - 48) * 10 + (b - 48)) else None
small_number (a ∷ b ∷ c ∷ []) = if is_decimal a && is_decimal b && is_decimal c
    then Some ((a - 48) * 100 + (b - 48) * 10 + (c - 48)) else None
small_number _ = None

-- an address and how many of its first bits count
abbrev pub Prefix : Type 0
Prefix = IpAddr × ℕ

abbrev pub within : IpAddr → ℕ → Option Prefix
within address count = if nat_le count (bits_of address) then Some (address, count) else None

-- an address whose first bits count, as many as a text says
abbrev pub prefix_with : Option IpAddr → Option ℕ → Option Prefix
prefix_with (Some address) (Some count) = within address count
prefix_with _ _ = None

abbrev pub whole_prefix : Option IpAddr → Option Prefix
whole_prefix (Some address) = Some (address, bits_of address)
whole_prefix None = None

abbrev pub cut_prefix : List ℕ → Option ℕ → Option Prefix
cut_prefix text (Some at) =
    prefix_with (address_of (take at text)) (small_number (drop (at + 1) text))
cut_prefix text None = whole_prefix (address_of text)

-- the prefix that a text writes: an address, or `ADDRESS/BITS`
unfoldable pub prefix_of : List ℕ → Option Prefix
prefix_of text = cut_prefix text (position is_slash text)

-- ---- addresses that begin alike

-- the first bits of octets, so many, are the same
abbrev pub same_bits : ℕ → List ℕ → List ℕ → Bool
same_bits count [] [] = true
same_bits count (a ∷ xs) (b ∷ ys) = if nat_le 8 count then (a == b) && same_bits (count - 8) xs ys
    else (a / 2 ^ (8 - count)) == (b / 2 ^ (8 - count))
same_bits count _ _ = false

-- addresses of one version whose first bits, so many, are the same
abbrev pub begins_as : ℕ → IpAddr → IpAddr → Bool
begins_as count (V4 a) (V4 b) = same_bits count (ipv4_octets a) (ipv4_octets b)
begins_as count (V6 a) (V6 b) = same_bits count (ipv6_octets a) (ipv6_octets b)
begins_as count _ _ = false
