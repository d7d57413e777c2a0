-- Which texts are patterns. A server reads patterns by PCRE over octets, without Unicode; this grammar is that of the
-- crate `regex` of Rust under such options, which reads what the two have in common, and refuses look-around and back
-- references.
use Rattle.std.specs.Prelude.{◌≡◌, ◌≢◌, ◌≤◌, ℕ, ◌+◌, nat_eq, nat_le, Bool, ◌&&◌, ◌||◌, true, false, not, List, [], ◌∷◌, length, Option, Some, None, is_some, IsSome, codes, chars, if◌then◌else◌, IsUtf8}
use Rattle.std.specs.List.{starts_with}
use Rattle.std.specs.Option.{option_and_then, option_map}
use Rattle.std.specs.Str.Lossy.{utf8_valid_len}
use Rattle.regex.specs.Patterns.{Re, Config}
use Rattle.regex_syntax.specs.Brackets.{Nested}
use Rattle.regex_syntax.specs.Grammar.{Names, read}
use Rattle.avp_patterns.specs.declared.faults.PatternFault.{PatternFault}
use Rattle.avp_patterns.specs.declared.faults.PatternFault.TheVariants as fault
use Rattle.avp_patterns.specs.declared.flags.PatternFlags.{PatternFlags}

-- a pattern as it is written
pub record Written : Type 0 where
  pub text : List ℕ
  pub flags : PatternFlags

-- octets are matched: `.` is any but a line feed, and no octet over 127 is a letter, a digit or a space
abbrev pub options : PatternFlags → Config
options flags = record {
  flags = record {
    case_insensitive = flags.ignore_case;
    multi_line = flags.multi_line;
    dot_matches_new_line = false;
    swap_greed = false;
    unicode = false;
    crlf = false;
    ignore_whitespace = false;
  };
  octal = false;
  utf8 = false;
  nest_limit = 250;
}

-- a regular expression whose groups, repetitions and classes are nested so deep at most
abbrev pub within : ℕ → Nested Re × Names → Option Re
within deepest found = if nat_le found.0.depth deepest then Some found.0.value else None

-- a letter of ASCII or a `-`
abbrev pub is_flag : ℕ → Bool
is_flag c = nat_eq c 45 || (nat_le 65 c && nat_le c 90) || (nat_le 97 c && nat_le c 122)

-- whether the flags that some octets begin with have a `u` among them
abbrev pub has_flag_u : List ℕ → Bool
has_flag_u [] = false
has_flag_u (c ∷ cs) = if nat_eq c 117 then true else if is_flag c then has_flag_u cs else false

-- whether octets begin with a group that sets the flag `u`, which turns Unicode on or off; PCRE has no such flag
abbrev pub sets_unicode : List ℕ → Bool
sets_unicode [] = false
sets_unicode (c ∷ []) = false
sets_unicode (c ∷ d ∷ flags) = nat_eq c 40 && nat_eq d 63 && has_flag_u flags

-- whether an octet escapes the next one
abbrev pub escapes : Bool → ℕ → Bool
escapes escaped c = not escaped && nat_eq c 92

-- how many octets are before the first such group, where the first octet is escaped or is not; `\(` begins no group
abbrev pub unicode_at : Bool → List ℕ → Option ℕ
unicode_at escaped [] = None
unicode_at escaped (c ∷ cs) =
    if not escaped && sets_unicode (c ∷ cs) then Some 0
    else option_map (λ n. n + 1) (unicode_at (escapes escaped c) cs)

-- the regular expression that the grammar reads in a text, which is nested 250 deep at most
unfoldable pub expression_in : Written → Option Re
expression_in w = option_and_then (within 250) (read (options w.flags) (chars w.text))

-- the regular expression that a pattern stands for
unfoldable pub expression_of : Written → Option Re
expression_of w = if is_some (unicode_at false w.text) then None else expression_in w

-- how many octets are before the first `%{`, whether or not a `\` is before it
abbrev pub expansion_at : List ℕ → Option ℕ
expansion_at [] = None
expansion_at (c ∷ cs) =
    if starts_with nat_eq (c ∷ cs) (codes "%{") then Some 0
    else option_map (λ n. n + 1) (expansion_at cs)

-- what a policy may write as a pattern
pub record IsPattern (w : Written) : Type 0 where
  pub filled : w.text ≢ []
  pub utf8 : IsUtf8 w.text
  pub plain : expansion_at w.text ≡ None
  pub read : IsSome (expression_of w)

-- Why a text was refused, in the order of these lines; of a fault of the grammar no more is said than that its place is
-- in the text. A pattern may be too large when it is compiled; when it is, is left open.
abbrev pub IsRefused : Written → PatternFault → Type 0
IsRefused w fault.Empty = w.text ≡ []
IsRefused w (fault.NotUtf8 at) = ¬ (IsUtf8 w.text) × (at ≡ utf8_valid_len w.text)
IsRefused w (fault.Expansion at) = IsUtf8 w.text × (expansion_at w.text ≡ Some at)
IsRefused w (fault.NotRead at) =
    (w.text ≢ []) × IsUtf8 w.text × (expansion_at w.text ≡ None) × (expression_of w ≡ None)
    × (at ≤ length w.text)
IsRefused w fault.TooLarge = IsPattern w
IsRefused w fault.Memory = Unit {0}

-- a fault, but for the place of one of the grammar, which is left open
abbrev pub without_place : PatternFault → PatternFault
without_place (fault.NotRead at) = fault.NotRead 0
without_place fault = fault
