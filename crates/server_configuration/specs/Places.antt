-- Lines of files, and sections of items.
use Rattle.std.specs.Prelude.{ℕ, ◌+◌, ◌≤◌, ◌==◌, ◌++◌, List, [], ◌∷◌, cond, Option, Some, None, IsTrue, MatchOption, slice_get}
use Rattle.server_configuration.specs.Contents.{is_section}
use Rattle.server_configuration.specs.declared.items.Item.{Item}
use Rattle.server_configuration.specs.declared.sources.SourceFile.{SourceFile}

abbrev pub line_feeds : List ℕ → ℕ
line_feeds [] = 0
line_feeds (octet ∷ octets) = cond (octet == 10) 1 0 + line_feeds octets

-- Each item begins on one of a file's lines, which are numbered from 1 on.
abbrev pub BeginWithin : ℕ → List Item → Type 0
BeginWithin lines [] = Unit {0}
BeginWithin lines (item ∷ items) = (1 ≤ item.line) × (item.line ≤ lines) × BeginWithin lines items

-- The file at this place has a line of this number.
abbrev pub HasLine : List SourceFile → ℕ → ℕ → Type 0
HasLine files file line = MatchOption (slice_get files file) ⊥
    (λ found. (1 ≤ line) × (line ≤ 1 + line_feeds found.octets.items))

-- Each item's file is one of the files, and has its line.
abbrev pub AreOnLines : List SourceFile → List Item → Type 0
AreOnLines files [] = Unit {0}
AreOnLines files (item ∷ items) = HasLine files item.file item.line × AreOnLines files items

-- The item at this place is a section. No place is the top, which holds whatever no section holds.
abbrev pub IsSectionOf : List Item → Option ℕ → Type 0
IsSectionOf items None = Unit {0}
IsSectionOf items (Some place) = MatchOption (slice_get items place) ⊥ (λ item. IsTrue (is_section item.content))

-- The section that holds an item is one of the items before it, which begin with these.
abbrev pub AreNestedAfter : List Item → List Item → Type 0
AreNestedAfter earlier [] = Unit {0}
AreNestedAfter earlier (item ∷ items) =
    IsSectionOf earlier item.section × AreNestedAfter (earlier ++ item ∷ []) items

-- The section that holds an item comes before it.
abbrev pub AreNested : List Item → Type 0
AreNested items = AreNestedAfter [] items
