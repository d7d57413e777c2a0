-- How two values compare: addresses, interface ids, dates and the numbers beside tags as numbers, texts beside tags by
-- their octets, and tags not at all. A prefix is below another that holds it, and an address is a prefix of all its
-- bits.
use Rattle.std.specs.Prelude.{ℕ, Bool, ◌&&◌, nat_le, if◌then◌else◌, List, bytes_eq, Option, Some, None}
use Rattle.std.specs.Cmp.Lexicographic.{slice_cmp}
use Rattle.std.specs.Ordering.{nat_cmp}
use Rattle.std.specs.declared.cmp.Ordering.{Ordering}
use Rattle.std.specs.declared.cmp.Ordering.TheVariants.{Less, Equal, Greater}
use Rattle.avp_forms.specs.Prefixes.{masked}
use Rattle.avp_forms.specs.declared.values.FormValue.{FormValue}
use Rattle.avp_forms.specs.declared.values.FormValue.TheVariants.{Date, InterfaceId, Ipv4Prefix, Ipv6Address, Ipv6Prefix, TaggedNumber, TaggedText}

-- the order of octets, which for as many octets is that of the numbers
abbrev pub octet_order : List ℕ → List ℕ → Ordering
octet_order os ps = slice_cmp nat_cmp os ps

-- whether the prefix of n bits has the one of m bits in it
abbrev pub holds_prefix : List ℕ → ℕ → List ℕ → ℕ → Bool
holds_prefix os n ps m = nat_le n m && bytes_eq (masked n ps) os

-- the order of two prefixes: none where neither has the other in it
abbrev pub prefix_order : List ℕ → ℕ → List ℕ → ℕ → Option Ordering
prefix_order os n ps m =
    if holds_prefix ps m os n then Some (if holds_prefix os n ps m then Equal else Less)
    else if holds_prefix os n ps m then Some Greater else None

-- the order of two values; none where one is no value of the other's form
unfoldable pub compared : FormValue → FormValue → Option Ordering
compared (Ipv6Address os) (Ipv6Address ps) = Some (octet_order os ps)
compared (Ipv6Address os) (Ipv6Prefix ps m) = prefix_order os 128 ps m
compared (Ipv6Prefix os n) (Ipv6Address ps) = prefix_order os n ps 128
compared (Ipv6Prefix os n) (Ipv6Prefix ps m) = prefix_order os n ps m
compared (Ipv4Prefix os n) (Ipv4Prefix ps m) = prefix_order os n ps m
compared (InterfaceId os) (InterfaceId ps) = Some (octet_order os ps)
compared (Date n) (Date m) = Some (nat_cmp n m)
compared (TaggedNumber tag n) (TaggedNumber other m) = Some (nat_cmp n m)
compared (TaggedText tag os) (TaggedText other ps) = Some (octet_order os ps)
compared value other = None
