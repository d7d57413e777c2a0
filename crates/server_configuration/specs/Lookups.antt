-- Items by their names.
use Rattle.std.specs.Prelude.{ℕ, ◌+◌, ◌==◌, ◌&&◌, Bool, true, false, List, [], ◌∷◌, Option, Some, None, if◌then◌else◌}
use Rattle.std.specs.Str.{bytes_eq}
use Rattle.server_configuration.specs.declared.items.Content.{Content}
use Rattle.server_configuration.specs.declared.items.Content.TheVariants.{Pair, Section, Word}
use Rattle.server_configuration.specs.declared.items.Item.{Item}
use Rattle.server_configuration.specs.declared.items.Text.{Text}

-- One section, or the top both times.
abbrev pub is_same_section : Option ℕ → Option ℕ → Bool
is_same_section None None = true
is_same_section None (Some other) = false
is_same_section (Some place) None = false
is_same_section (Some place) (Some other) = place == other

-- A word counts as a pair without a value.
abbrev pub is_pair_named : List ℕ → Content → Bool
is_pair_named name (Pair given operator value) = bytes_eq given.octets.items name
is_pair_named name (Word given arguments) = bytes_eq given.octets.items name
is_pair_named name _ = false

abbrev pub is_section_named : List ℕ → Content → Bool
is_section_named name (Section given arguments) = bytes_eq given.octets.items name
is_section_named name _ = false

abbrev pub is_first_of : List ℕ → List Text → Bool
is_first_of octets [] = false
is_first_of octets (text ∷ texts) = bytes_eq text.octets.items octets

-- A section whose first argument is its second name, as `client NAME {`.
abbrev pub is_section_with : List ℕ → List ℕ → Content → Bool
is_section_with name second (Section given arguments) =
    bytes_eq given.octets.items name && is_first_of second arguments.items
is_section_with name second _ = false

abbrev pub is_pair_in : Option ℕ → List ℕ → Item → Bool
is_pair_in section name item = is_same_section item.section section && is_pair_named name item.content

abbrev pub is_section_in : Option ℕ → List ℕ → Item → Bool
is_section_in section name item = is_same_section item.section section && is_section_named name item.content

abbrev pub is_section_with_in : Option ℕ → List ℕ → List ℕ → Item → Bool
is_section_with_in section name second item =
    is_same_section item.section section && is_section_with name second item.content

-- The place of the first item that is meant, where the first item's place is this.
abbrev pub first_place : (Item → Bool) → ℕ → List Item → Option ℕ
first_place is_meant place [] = None
first_place is_meant place (item ∷ items) =
    (if is_meant item then Some place else first_place is_meant (place + 1) items)

-- The places of the items that a section holds, where the first item's place is this.
abbrev pub places_in : Option ℕ → ℕ → List Item → List ℕ
places_in section place [] = []
places_in section place (item ∷ items) =
    (if is_same_section item.section section then place ∷ places_in section (place + 1) items
    else places_in section (place + 1) items)
