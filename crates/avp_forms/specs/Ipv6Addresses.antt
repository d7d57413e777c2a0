-- IPv6 addresses: which texts stand for one (RFC 4291, section 2.2), and how one is printed (RFC 5952).
use Rattle.std.specs.Prelude.{ℕ, List, Option}
use Rattle.std.specs.Option.{option_map}
use Rattle.std.specs.Net.Addr.{octets_of, segments_of}
use Rattle.std.specs.Net.Reader.{read_ipv6, whole_value}
use Rattle.std.specs.Net.Text.{ipv6_text}

-- the 16 octets of an address that is eight groups of one to four hexadecimal digits with colons between: `::` stands
-- for one group of zeros or more, and the last two groups may be four decimal octets with dots between
unfoldable pub ipv6_spelled : List ℕ → Option (List ℕ)
ipv6_spelled text = option_map octets_of (whole_value (read_ipv6 text))

-- groups in lower case without zeros before them, and `::` for the first of the longest runs of two groups of zeros or
-- more; the last four octets in decimal where `::ffff` is before them
unfoldable pub ipv6_address_text : List ℕ → List ℕ
ipv6_address_text octets = ipv6_text (segments_of octets)
