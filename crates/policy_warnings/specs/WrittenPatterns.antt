-- Patterns in a policy's text that a server takes otherwise.
use Rattle.std.specs.Prelude.{ℕ, ◌+◌, ◌-◌, Bool, true, false, not, ◌&&◌, ◌||◌, ◌==◌, nat_le, if◌then◌else◌, List, [], ◌∷◌}
use Rattle.std.specs.Char.{is_ascii_alphabetic}
use Rattle.avp_dict.specs.Ascii.{backslash, left_bracket, right_bracket}
use Rattle.avp_unlang.specs.declared.text.tokens.Matcher.{Matcher}
use Rattle.policy_warnings.specs.declared.patterns.Behind.{Behind}
use Rattle.policy_warnings.specs.declared.patterns.Behind.TheVariants.{Escape, ClassStart, ClassCaret, GroupStart, Flags, Other}
use Rattle.policy_warnings.specs.declared.patterns.Reading.{Reading}

-- ---- repetitions

-- `*`, `+`, `?` or the brace before counts
unfoldable pub is_repetition : ℕ → Bool
is_repetition c = (c == 42) || (c == 43) || (c == 63) || (c == 123)

-- an octet of a letter beyond ASCII, whose octets are all above 127
abbrev pub is_beyond_ascii : ℕ → Bool
is_beyond_ascii c = nat_le 128 c

-- A repetition directly behind such an octet: a server repeats that one alone. No class has such a letter in it.
abbrev pub repeats_octet_behind : Bool → List ℕ → Bool
repeats_octet_behind beyond [] = false
repeats_octet_behind beyond (c ∷ cs) =
    (beyond && is_repetition c) || repeats_octet_behind (is_beyond_ascii c) cs

abbrev pub repeats_octet : List ℕ → Bool
repeats_octet pattern = repeats_octet_behind false pattern

-- ---- the beginnings of lines

-- `(`, `?`, `^` and `m`
abbrev pub left_parenthesis : ℕ
left_parenthesis = 40

abbrev pub question_mark : ℕ
question_mark = 63

abbrev pub caret : ℕ
caret = 94

abbrev pub small_m : ℕ
small_m = 109

abbrev pub is_escape : Behind → Bool
is_escape Escape = true
is_escape _ = false

-- where a `]` is a member of the class
abbrev pub is_class_front : Behind → Bool
is_class_front ClassStart = true
is_class_front ClassCaret = true
is_class_front _ = false

-- where a `^` turns the class into all that it does not have
abbrev pub is_class_start : Behind → Bool
is_class_start ClassStart = true
is_class_start _ = false

abbrev pub is_group_start : Behind → Bool
is_group_start GroupStart = true
is_group_start _ = false

abbrev pub is_in_flags : Behind → Bool
is_in_flags Flags = true
is_in_flags _ = false

abbrev pub goes_on : Reading → ℕ → Behind → Reading
goes_on r classes behind = record {
  classes = classes;
  behind = behind;
  has_lines = r.has_lines;
  starts_line = r.starts_line;
}

-- in a class
unfoldable pub after_member : Reading → ℕ → Reading
after_member r c =
    if c == left_bracket then goes_on r (r.classes + 1) ClassStart
    else if (c == right_bracket) && not (is_class_front r.behind) then goes_on r (r.classes - 1) Other
    else if (c == caret) && is_class_start r.behind then goes_on r r.classes ClassCaret
    else goes_on r r.classes Other

-- a flag behind `(?`, of which `m` is for lines
abbrev pub with_flag : Reading → ℕ → Reading
with_flag r c = record {
  classes = r.classes;
  behind = Flags;
  has_lines = r.has_lines || (c == small_m);
  starts_line = r.starts_line;
}

-- a `^` outside of classes
abbrev pub with_caret : Reading → Reading
with_caret r = record {
  classes = r.classes;
  behind = Other;
  has_lines = r.has_lines;
  starts_line = r.starts_line || r.has_lines;
}

unfoldable pub after_part : Reading → ℕ → Reading
after_part r c =
    if c == left_bracket then goes_on r (r.classes + 1) ClassStart
    else if c == caret then with_caret r
    else if c == left_parenthesis then goes_on r r.classes GroupStart
    else if (c == question_mark) && is_group_start r.behind then goes_on r r.classes Flags
    else if is_ascii_alphabetic c && is_in_flags r.behind then with_flag r c
    else goes_on r r.classes Other

-- what is read by so many octets, and one more
unfoldable pub after_octet : Reading → ℕ → Reading
after_octet r c =
    if is_escape r.behind then goes_on r r.classes Other
    else if c == backslash then goes_on r r.classes Escape
    else if nat_le 1 r.classes then after_member r c
    else after_part r c

abbrev pub read_from : Reading → List ℕ → Reading
read_from r [] = r
read_from r (c ∷ cs) = read_from (after_octet r c) cs

-- at the front of a pattern, which has the flag `m` or not
abbrev pub at_front : Bool → Reading
at_front has_lines =
    record { classes = 0; behind = Other; has_lines = has_lines; starts_line = false }

-- A `^` with the flag `m`, or behind a group or a part that sets it: it matches behind each line feed, and on a server
-- not behind one that ends the value.
abbrev pub starts_line : Matcher → Bool
starts_line m = (read_from (at_front m.flags.multi_line) m.pattern).starts_line
