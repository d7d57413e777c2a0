-- What a file is that is no text, by the octets that it begins with.
use Rattle.std.specs.Prelude.{ℕ, ◌==◌, Bool, ◌&&◌, ◌||◌, if◌then◌else◌, List, slice_index, Option, Some, None}
use Rattle.radpolicy_common.specs.declared.file_kinds.FileKind.{FileKind}
use Rattle.radpolicy_common.specs.declared.file_kinds.FileKind.TheVariants.{Capture, Compressed}

abbrev pub begins_with : List ℕ → ℕ → ℕ → ℕ → ℕ → Bool
begins_with octets a b c d = (slice_index octets 0 == a) && (slice_index octets 1 == b)
    && (slice_index octets 2 == c) && (slice_index octets 3 == d)

-- pcap, with microseconds or nanoseconds, in the order of octets of either kind of processor; and pcapng
abbrev pub is_capture : List ℕ → Bool
is_capture octets = begins_with octets 212 195 178 161 || begins_with octets 161 178 195 212
    || begins_with octets 77 60 178 161 || begins_with octets 161 178 60 77
    || begins_with octets 10 13 13 10

-- gzip
abbrev pub is_compressed : List ℕ → Bool
is_compressed octets = (slice_index octets 0 == 31) && (slice_index octets 1 == 139)

abbrev pub file_kind : List ℕ → Option FileKind
file_kind octets = if is_capture octets then Some Capture
    else if is_compressed octets then Some Compressed else None
