-- Texts between double quotes into which values are put: `%{name}` and `%{list:name}`, with `%%` for a plain `%`; in a
-- wider policy also `%{0}` to `%{9}`, for what a comparison with a pattern captured.
use Rattle.std.specs.Prelude.{◌≡◌, ◌-◌, ℕ, zero, Bool, true, false, ◌&&◌, ◌==◌, if◌then◌else◌, List, [], ◌∷◌, drop, take, Option, Some, None, is_some, option_map}
use Rattle.std.specs.Char.{is_ascii_digit}
use Rattle.std.specs.Option.{option_and_then}
use Rattle.avp_dict.specs.Dictionary.{Dictionary}
use Rattle.avp_forms.specs.declared.profiles.Profile.{Profile}
use Rattle.avp_forms.specs.declared.profiles.Profile.TheVariants.{Plain, Wider}
use Rattle.avp_dict.specs.Quotes.{double_escape}
use Rattle.avp_unlang.specs.declared.text.references.Reference.{Reference}
use Rattle.avp_unlang.specs.declared.tree.Part.{Part}
use Rattle.avp_unlang.specs.declared.tree.Part.TheVariants.{Capture, Text, Instance, Meant}
use Rattle.avp_unlang.specs.Forms.{Form, While}
use Rattle.avp_dict.specs.Ascii.{backslash, digit_zero, left_brace, percent, right_brace}
use Rattle.avp_unlang.specs.References.{readable}
use Rattle.avp_unlang.specs.Selecting.{selection_of}
use Rattle.avp_unlang.specs.Tokens.{word_length}

-- after a `%`: a second one
abbrev pub percent_at : List ℕ → Option (ℕ × List ℕ)
percent_at [] = None
percent_at (c ∷ cs) = if c == percent then Some (percent, cs) else None

-- The octet that a text begins with, and the text after it: `\` and what it escapes, `%%`, or any octet but `%`.
unfoldable pub octet_at : List ℕ → Option (ℕ × List ℕ)
octet_at [] = None
octet_at (c ∷ cs) =
    if c == backslash then Some ((double_escape cs).octet, drop (double_escape cs).taken cs)
    else if c == percent then percent_at cs
    else Some (c, cs)

abbrev pub begins_octet : List ℕ → Bool
begins_octet text = is_some (octet_at text)

abbrev pub OctetIs : Form (List ℕ) ℕ
OctetIs text octet rest = octet_at text ≡ Some (octet, rest)

-- `%{`
abbrev pub after_opening : List ℕ → Option (List ℕ)
after_opening (a ∷ b ∷ cs) = if a == percent && b == left_brace then Some cs else None
after_opening _ = None

-- a word of one octet or more, and the text after it and a `}`
abbrev pub closed_after : ℕ → List ℕ → List ℕ → Option (List ℕ × List ℕ)
closed_after zero text rest = None
closed_after n text [] = None
closed_after n text (c ∷ cs) = if c == right_brace then Some (take n text, cs) else None

abbrev pub braced : List ℕ → Option (List ℕ × List ℕ)
braced text = closed_after (word_length text) text (drop (word_length text) text)

-- a group of what was captured, by its digit; a plain policy has none
unfoldable pub group_named : Profile → List ℕ → Option ℕ
group_named Wider (c ∷ []) = if is_ascii_digit c then Some (c - digit_zero) else None
group_named _ _ = None

-- a value that is put in: in a wider policy as what it means
abbrev pub part_of : Profile → Dictionary → Reference → Part
part_of Plain dictionary found = Instance found.list found.target.named.id
part_of Wider dictionary found =
    Meant found.list found.target.named.id (selection_of dictionary found.target)

-- what a word stands for: a group, or a reference to values
abbrev pub part_named : Profile → Dictionary → List ℕ → Option Part
part_named profile dictionary word = elim (group_named profile word) [
  | None ↦ option_map (part_of profile dictionary) (readable profile dictionary word)
  | Some group ↦ Some (Capture group)
]

-- `%{`, a word that stands for what is put in, and `}`
abbrev pub ExpansionIs : Profile → Dictionary → Form (List ℕ) Part
ExpansionIs profile dictionary text part rest =
    (inner : List ℕ) × (after_opening text ≡ Some inner)
    × (word : List ℕ) × (braced inner ≡ Some (word, rest))
    × (part_named profile dictionary word ≡ Some part)

-- as many octets as follow one another, or what is put in
abbrev pub PartIs : Profile → Dictionary → Form (List ℕ) Part
PartIs profile dictionary text (Text octets) rest =
    (begins_octet text ≡ true) × While begins_octet OctetIs text octets rest
PartIs profile dictionary text part rest =
    (begins_octet text ≡ false) × ExpansionIs profile dictionary text part rest

abbrev pub is_left : List ℕ → Bool
is_left [] = false
is_left (c ∷ cs) = true

-- the parts of a whole text
abbrev pub PartsAre : Profile → Dictionary → List ℕ → List Part → Type 0
PartsAre profile dictionary text parts =
    (end : List ℕ) × While is_left (PartIs profile dictionary) text parts end

-- ---- groups by themselves

abbrev pub only_group : Profile → List ℕ × List ℕ → Option ℕ
only_group profile (word, []) = group_named profile word
only_group profile (word, _ ∷ _) = None

abbrev pub unless_group : List ℕ × List ℕ → Option (List ℕ)
unless_group (word, []) = if is_some (group_named Wider word) then None else Some word
unless_group (word, _ ∷ _) = None

-- the word that a whole text has between `%{` and `}`, which is no group
unfoldable pub only_word : List ℕ → Option (List ℕ)
only_word text = option_and_then unless_group (option_and_then braced (after_opening text))

-- the group that a whole text puts in: `%{`, its digit, and `}`
unfoldable pub group_in : Profile → List ℕ → Option ℕ
group_in profile text =
    option_and_then (only_group profile) (option_and_then braced (after_opening text))
