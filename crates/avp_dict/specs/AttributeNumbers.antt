-- Attributes that rules name by their numbers, and how great a number may be.
use Rattle.std.specs.Prelude.{ℕ, Bool, ◌&&◌, nat_le}

-- the greatest number that an attribute's one octet holds (RFC 2865, section 5)
abbrev pub max_plain : ℕ
max_plain = 255

-- the greatest number of an attribute and of a vendor: 32 bits
abbrev pub greatest_number : ℕ
greatest_number = 4294967295

-- the greatest number of a VALUE line: 64 bits
abbrev pub greatest_value : ℕ
greatest_value = 18446744073709551615

-- the greatest signed number: 32 bits
abbrev pub greatest_signed : ℕ
greatest_signed = 2147483647

-- Vendor-Specific (RFC 2865, section 5.26)
abbrev pub vendor_specific : ℕ
vendor_specific = 26

-- Proxy-State (RFC 2865, section 5.33)
abbrev pub proxy_state : ℕ
proxy_state = 33

-- Message-Authenticator (RFC 3579, section 3.2)
abbrev pub message_authenticator : ℕ
message_authenticator = 80

-- a type of extended attributes (RFC 6929, section 2)
abbrev pub is_extended_type : ℕ → Bool
is_extended_type t = nat_le 241 t && nat_le t 246
