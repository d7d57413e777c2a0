-- Faults: the number, the text and the place of each, the line that shows them, and the exit status.
use Rattle.std.specs.Prelude.{◌≡◌, ◌⊎◌, ℕ, ◌+◌, ◌/◌, ◌%◌, ◌<◌, ◌==◌, ◌++◌, if◌then◌else◌, Bool, List, [], ◌∷◌, Option, None, Some, length, codes, decimal, slice_get}
use Rattle.avp_dict.specs.declared.file.files.NamedFile.{NamedFile}
use Rattle.avp_dict.specs.declared.faults.DictKind.{DictKind}
use Rattle.avp_dict.specs.declared.faults.DictKind.TheVariants as dict
use Rattle.avp_dict.specs.declared.faults.DictFault.{DictFault}
use Rattle.avp_dict.specs.declared.request.faults.LineKind.{LineKind}
use Rattle.avp_dict.specs.declared.request.faults.LineKind.TheVariants as line
use Rattle.avp_dict.specs.declared.request.faults.LineFault.{LineFault}
use Rattle.avp_packet.specs.declared.faults.PacketFault.{PacketFault}
use Rattle.avp_packet.specs.declared.faults.PacketFault.TheVariants as packet
use Rattle.avp_packet.specs.declared.faults.EncodeFault.{EncodeFault}
use Rattle.avp_packet.specs.declared.faults.EncodeFault.TheVariants as encode
use Rattle.avp_unlang.specs.declared.faults.PolicyKind.{PolicyKind}
use Rattle.avp_patterns.specs.declared.faults.PatternFault.{PatternFault}
use Rattle.avp_patterns.specs.declared.faults.PatternFault.TheVariants as pattern
use Rattle.avp_unlang.specs.declared.faults.PolicyKind.TheVariants as policy
use Rattle.avp_unlang.specs.declared.faults.PolicyFault.{PolicyFault}
use Rattle.radpolicy.specs.declared.faults.Fault.{Fault}
use Rattle.radpolicy.specs.declared.faults.Fault.TheVariants as fault

-- what the line of a fault shows of its kind: a row of the table of faults
pub record FaultRow : Type 0 where
  pub number : ℕ
  pub text : List ℕ

abbrev pub numbered : ℕ → List ℕ → FaultRow
numbered number text = record { number = number; text = text }

-- want of memory, in whatever part of a job
abbrev pub out_of_memory : FaultRow
out_of_memory = numbered 9 (codes "out of memory")

-- the faults of dictionaries
abbrev pub dict_fault_row : DictKind → FaultRow
dict_fault_row dict.Unreadable = numbered 10 (codes "unreadable line")
dict_fault_row dict.OutOfRange = numbered 11 (codes "number out of range")
dict_fault_row dict.OtherNumber = numbered 12 (codes "name has another number")
dict_fault_row dict.UnknownVendor = numbered 13 (codes "unknown vendor")
dict_fault_row dict.Unmatched = numbered 14 (codes "BEGIN and END differ")
dict_fault_row dict.NoFile = numbered 15 (codes "file not handed in")
dict_fault_row dict.TooDeep = numbered 16 (codes "includes too deep")
dict_fault_row dict.TooLong = numbered 17 (codes "too many lines")
dict_fault_row dict.NoAttribute = numbered 18 (codes "VALUE of no ATTRIBUTE")
dict_fault_row dict.OtherValue = numbered 19 (codes "VALUE has another number")
dict_fault_row dict.Memory = out_of_memory

-- the faults of request lines
abbrev pub line_fault_row : LineKind → FaultRow
line_fault_row line.NotValue = numbered 30 (codes "not a value")
line_fault_row line.TooLong = numbered 31 (codes "too long")
line_fault_row line.Unknown = numbered 32 (codes "unknown attribute")
line_fault_row line.NotWritable = numbered 33 (codes "not writable")
line_fault_row line.SecondPacket = numbered 34 (codes "second packet")
line_fault_row line.TooMany = numbered 35 (codes "too many pairs")
line_fault_row line.Unreadable = numbered 36 (codes "unreadable line")
line_fault_row line.Memory = out_of_memory

-- the faults of packets
abbrev pub packet_fault_row : PacketFault → FaultRow
packet_fault_row packet.TooShort = numbered 40 (codes "fewer than 20 octets")
packet_fault_row packet.LengthOutOfRange = numbered 41 (codes "bad packet length")
packet_fault_row packet.CutShort = numbered 42 (codes "packet cut short")
packet_fault_row (packet.BadAttribute offset) = numbered 43 (codes "bad attribute length")
packet_fault_row packet.CodeNotTaken = numbered 44 (codes "code not taken")
packet_fault_row packet.WrongAuthenticator = numbered 45 (codes "wrong authenticator")
packet_fault_row packet.WrongMessageAuthenticator =
    numbered 47 (codes "wrong Message-Authenticator")
packet_fault_row packet.Memory = out_of_memory

-- the faults of patterns in them
abbrev pub pattern_fault_row : PatternFault → FaultRow
pattern_fault_row pattern.Empty = numbered 56 (codes "empty pattern")
pattern_fault_row (pattern.NotUtf8 offset) = numbered 57 (codes "pattern not UTF-8")
pattern_fault_row (pattern.Expansion offset) = numbered 58 (codes "expansion in a pattern")
pattern_fault_row (pattern.NotRead offset) = numbered 59 (codes "not a pattern")
pattern_fault_row pattern.TooLarge = numbered 60 (codes "pattern too large")
pattern_fault_row pattern.Memory = out_of_memory

-- the faults of policies
abbrev pub policy_fault_row : PolicyKind → FaultRow
policy_fault_row policy.NotValue = numbered 30 (codes "not a value")
policy_fault_row policy.TooLong = numbered 31 (codes "too long")
policy_fault_row policy.Unknown = numbered 32 (codes "unknown attribute")
policy_fault_row policy.NotWritable = numbered 33 (codes "not writable")
policy_fault_row policy.Unreadable = numbered 50 (codes "unreadable token")
policy_fault_row policy.Misplaced = numbered 51 (codes "token does not fit")
policy_fault_row policy.TooDeep = numbered 53 (codes "nested too deep")
policy_fault_row policy.TooLarge = numbered 54 (codes "policy too large")
policy_fault_row policy.OtherType = numbered 55 (codes "types differ")
policy_fault_row policy.NotExpansion = numbered 61 (codes "not one expansion")
policy_fault_row (policy.Pattern fault) = pattern_fault_row fault
policy_fault_row policy.Memory = out_of_memory

-- all faults
abbrev pub fault_row : Fault → FaultRow
fault_row fault.Help = numbered 0 (codes "help")
fault_row fault.Usage = numbered 1 (codes "usage")
fault_row fault.OptionValue = numbered 2 (codes "option value")
fault_row fault.EmptySecret = numbered 3 (codes "empty secret")
fault_row fault.FileNotReadable = numbered 4 (codes "file not readable")
fault_row fault.NotHex = numbered 5 (codes "not hex")
fault_row (fault.ScriptWord line) = numbered 6 (codes "unknown script word")
fault_row fault.Write = numbered 7 (codes "write fault")
fault_row fault.Memory = out_of_memory
fault_row (fault.Dictionary f) = dict_fault_row f.kind
fault_row (fault.Request f) = line_fault_row f.kind
fault_row (fault.Reply f) = line_fault_row f.kind
fault_row (fault.Control f) = line_fault_row f.kind
fault_row (fault.Packet f) = packet_fault_row f
fault_row fault.PacketTooLong = numbered 46 (codes "packet too long")
fault_row (fault.Policy f) = policy_fault_row f.kind

-- the number of a fault; that of the help is not shown
abbrev pub fault_number : Fault → ℕ
fault_number f = (fault_row f).number

abbrev pub fault_text : Fault → List ℕ
fault_text f = (fault_row f).text

-- whether a fault is want of memory
abbrev pub is_memory : Fault → Bool
is_memory f = fault_number f == out_of_memory.number

-- a file's name
abbrev pub name_at : List NamedFile → ℕ → List ℕ
name_at files i = name_of (slice_get files i)
  where
    name_of : Option NamedFile → List ℕ
    name_of (Some file) = file.name
    name_of None = []

-- where a fault is, after a space
abbrev pub place_of : List NamedFile → Fault → List ℕ
place_of files (fault.Dictionary f) =
    codes " " ++ name_at files f.file ++ codes ":" ++ decimal f.line
place_of files (fault.Request f) = codes " request:" ++ decimal f.line
place_of files (fault.Reply f) = codes " reply:" ++ decimal f.line
place_of files (fault.Control f) = codes " control:" ++ decimal f.line
place_of files (fault.Policy f) = codes " policy:" ++ decimal f.line
place_of files (fault.ScriptWord line) = codes " script:" ++ decimal line
place_of files (fault.Packet (packet.BadAttribute offset)) = codes " offset " ++ decimal offset
place_of files _ = []

-- want of memory is shown without a place
abbrev pub place_text : List NamedFile → Fault → List ℕ
place_text files f = if is_memory f then [] else place_of files f

-- the letter E and two digits
abbrev pub fault_code_text : ℕ → List ℕ
fault_code_text n = 69 ∷ (48 + n / 10) ∷ (48 + n % 10) ∷ []

-- what the line of a fault has after a program's name
unfoldable pub fault_told : List NamedFile → Fault → List ℕ
fault_told files f =
    codes ": " ++ fault_code_text (fault_number f) ++ place_text files f ++ codes ": "
    ++ fault_text f ++ codes "\n"

-- the line of a fault, under the name of a program
abbrev pub named_fault_line : List ℕ → List NamedFile → Fault → List ℕ
named_fault_line program files f = program ++ fault_told files f

-- under that of `radpolicy`
unfoldable pub fault_line : List NamedFile → Fault → List ℕ
fault_line files f = named_fault_line (codes "radpolicy") files f

-- the exit status for a fault
abbrev pub status_of : Fault → ℕ
status_of fault.Help = 0
status_of fault.FileNotReadable = 3
status_of fault.Write = 3
status_of f = if is_memory f then 4 else 2

-- the fault of a job whose dictionary was refused
abbrev pub fault_of_dict : DictFault → Fault
fault_of_dict f = of_kind f.kind
  where
    of_kind : DictKind → Fault
    of_kind dict.Memory = fault.Memory
    of_kind _ = fault.Dictionary f

-- the fault of a job whose request lines were refused
abbrev pub fault_of_line : LineFault → Fault
fault_of_line f = of_kind f.kind
  where
    of_kind : LineKind → Fault
    of_kind line.Memory = fault.Memory
    of_kind _ = fault.Request f

-- the fault of a run whose initial reply list was refused
abbrev pub fault_of_reply_line : LineFault → Fault
fault_of_reply_line f = of_kind f.kind
  where
    of_kind : LineKind → Fault
    of_kind line.Memory = fault.Memory
    of_kind _ = fault.Reply f

-- the fault of a run whose initial control list was refused
abbrev pub fault_of_control_line : LineFault → Fault
fault_of_control_line f = of_kind f.kind
  where
    of_kind : LineKind → Fault
    of_kind line.Memory = fault.Memory
    of_kind _ = fault.Control f

-- the fault of a job whose packet was refused
abbrev pub fault_of_packet : PacketFault → Fault
fault_of_packet packet.Memory = fault.Memory
fault_of_packet f = fault.Packet f

-- the fault of a job whose packet was not made
abbrev pub fault_of_encode : EncodeFault → Fault
fault_of_encode encode.TooLong = fault.PacketTooLong
fault_of_encode encode.Memory = fault.Memory

-- the fault of a job whose policy was refused
abbrev pub fault_of_policy : PolicyFault → Fault
fault_of_policy f = of_kind f.kind
  where
    of_kind : PolicyKind → Fault
    of_kind policy.Memory = fault.Memory
    of_kind _ = fault.Policy f

-- The fault is want of memory, or of this kind. A kind has many faults, where `Meets` has the one of a definition.
abbrev pub MemoryOr : (Fault → Type 0) → Fault → Type 0
MemoryOr IsFault f = (f ≡ fault.Memory) ⊎ IsFault f

-- the line of this fault is printed by `print_fault`: the program shows the help itself, and the name of a file that it
-- cannot read
abbrev pub IsPrinted : Fault → Type 0
IsPrinted fault.Help = ⊥
IsPrinted fault.FileNotReadable = ⊥
IsPrinted _ = Unit {0}

-- a file that the fault names is one of these
abbrev pub NamesFileOf : List NamedFile → Fault → Type 0
NamesFileOf files (fault.Dictionary f) = f.file < length files
NamesFileOf files _ = Unit {0}

-- the line of the fault can be printed with these files
abbrev pub IsPrintedWith : List NamedFile → Fault → Type 0
IsPrintedWith files f = IsPrinted f × NamesFileOf files f

-- the line of the fault can be printed with any files, as it names none
abbrev pub IsPrintedAnywhere : Fault → Type 0
IsPrintedAnywhere f = (files : List NamedFile) → IsPrintedWith files f

-- what the words of a command line are refused for
abbrev pub IsWordFault : Fault → Type 0
IsWordFault fault.Help = Unit {0}
IsWordFault fault.Usage = Unit {0}
IsWordFault fault.OptionValue = Unit {0}
IsWordFault fault.Memory = Unit {0}
IsWordFault _ = ⊥
