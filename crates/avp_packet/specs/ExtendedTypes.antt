-- The types of extended attributes, and the pieces of long values (RFC 6929, sections 2.1 and 2.2).
use Rattle.std.specs.Prelude.{ℕ, Bool, ◌&&◌, ◌||◌, ◌==◌, nat_le}

-- the first and the last of the types that hold one attribute
abbrev pub extended_type_1 : ℕ
extended_type_1 = 241

abbrev pub extended_type_4 : ℕ
extended_type_4 = 244

-- the types that hold long values
abbrev pub long_extended_type_1 : ℕ
long_extended_type_1 = 245

abbrev pub long_extended_type_2 : ℕ
long_extended_type_2 = 246

-- the octets of a piece that another one follows
abbrev pub piece_octets : ℕ
piece_octets = 251

-- the flag of such a piece
abbrev pub more_flag : ℕ
more_flag = 128

-- a type of attributes that hold one attribute each
abbrev pub holds_one : ℕ → Bool
holds_one t = nat_le extended_type_1 t && nat_le t extended_type_4

-- a type of attributes that hold pieces of long values
abbrev pub holds_long : ℕ → Bool
holds_long t = (t == long_extended_type_1) || (t == long_extended_type_2)
