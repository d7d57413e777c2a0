-- HMAC-MD5, the digest of a text under a key (RFC 2104, section 2).
use Rattle.std.specs.Prelude.{ℕ, ◌-◌, nat_le, if◌then◌else◌, List, ◌++◌, length, replicate}
use Rattle.md5.specs.Md5.{md5}
use Rattle.avp_packet.specs.Hiding.{masked}

-- a key of at most 64 octets, and the digest of a longer one
abbrev pub short_key : List ℕ → List ℕ
short_key key = if nat_le (length key) 64 then key else md5 key

-- with zeros up to 64 octets
abbrev pub key_block : List ℕ → List ℕ
key_block key = short_key key ++ replicate (64 - length (short_key key)) 0

abbrev pub inner_pad : List ℕ
inner_pad = replicate 64 0x36

abbrev pub outer_pad : List ℕ
outer_pad = replicate 64 0x5c

unfoldable pub hmac : List ℕ → List ℕ → List ℕ
hmac key text =
    md5 (masked outer_pad (key_block key) ++ md5 (masked inner_pad (key_block key) ++ text))
