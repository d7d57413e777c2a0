-- Texts that are compared octet by octet: what is left of them.
use Rattle.std.specs.Prelude.{ℕ, ◌/◌, ◌%◌, ◌++◌, ◌==◌, Bool, IsTrue, List, [], ◌∷◌, drop, slice_index, Option, if◌then◌else◌}
use Rattle.std.specs.List.{list_all}
use Rattle.std.specs.Option.{option_map_or}
use Rattle.hex.specs.Hex.{lower_digits}
use Rattle.avp_lists.specs.declared.lists.State.{State}
use Rattle.avp_dict.specs.Dictionary.{Dictionary}
use Rattle.avp_forms.specs.Expansions.{AreFew, expanded}
use Rattle.avp_unlang.specs.Captures.{Captures, Kept, no_captures}
use Rattle.avp_unlang.specs.Texts.{filled_text}
use Rattle.avp_unlang.specs.Truth.{part_printable}
use Rattle.avp_unlang.specs.declared.meaning.texts.Unread.{Unread}
use Rattle.avp_unlang.specs.declared.tree.Part.{Part}

-- what texts are made of
pub record Around : Type 0 where
  pub dictionary : Dictionary
  pub state : State
  pub captures : Captures

-- what was captured; nothing where a run keeps none
abbrev pub captures_of : Option Kept → Captures
captures_of kept = option_map_or (λ k. k.captures) kept no_captures

abbrev pub text_around : Around → List Part → List ℕ
text_around around parts = filled_text around.dictionary around.state around.captures parts

-- what is left of the part at hand, and the texts of the parts after it
abbrev pub unread : Around → Unread → List ℕ
unread around text = drop text.at (expanded text.here) ++ text_around around text.parts.now

abbrev pub are_legible : Around → List Part → Bool
are_legible around parts = list_all (part_printable around.dictionary around.state) parts

-- what is at hand has few digits, and the parts after it can be put in
abbrev pub IsLegible : Around → Unread → Type 0
IsLegible around text = AreFew text.here × IsTrue (are_legible around text.parts.now)

-- the digit of an octet at a place: of its upper four bits, or at an odd place of the others
abbrev pub digit_of : ℕ → ℕ → ℕ
digit_of octet at =
    slice_index lower_digits (if at % 2 == 0 then octet / 16 else octet % 16)

abbrev pub zero_digit : ℕ
zero_digit = 48

-- the digits of a number from the first that is no `0`
unfoldable pub without_zeros : List ℕ → List ℕ
without_zeros [] = []
without_zeros (c ∷ cs) = if c == zero_digit then without_zeros cs else c ∷ cs
