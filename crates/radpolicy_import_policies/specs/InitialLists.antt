-- Initial lists that are added to a configuration: its files and its items stay, and others follow them.
use Rattle.std.specs.Prelude.{◌≡◌, ℕ, ◌++◌, List, [], ◌∷◌, map, length, None}
use Rattle.server_configuration.specs.declared.items.Item.{Item}
use Rattle.server_configuration.specs.declared.sources.SourceFile.{SourceFile}

-- a file with this path and this text follows
pub record AddsFile (name text : List ℕ) (old new : List SourceFile) : Type 0 where
  pub file : SourceFile
  pub path : file.path.items ≡ name
  pub octets : file.octets.items ≡ text
  pub last : new ≡ old ++ file ∷ []

-- an item as one of the file at this place, in no section
abbrev pub item_of_file : ℕ → Item → Item
item_of_file file item = record { file = file; line = item.line; section = None; content = item.content }

-- so many items of the file at this place follow, in no section; which they are is open
pub record AddsItems (file count : ℕ) (old new : List Item) : Type 0 where
  pub read : List Item
  pub counted : length read ≡ count
  pub last : new ≡ old ++ map (item_of_file file) read
