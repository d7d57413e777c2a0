-- What holds while files are read.
use Rattle.std.specs.Prelude.{ℕ, ◌≤◌, List, [], ◌∷◌, length}
use Rattle.std.specs.List.{AllByRecursion}
use Rattle.server_configuration.specs.Files.{octets_in, AreWithinDepth}
use Rattle.server_configuration.specs.Places.{HasLine, AreOnLines, AreNested, IsSectionOf}
use Rattle.server_configuration.specs.declared.includes.TheConstants.{MAX_CONFIGURATION_OCTETS, MAX_DEPTH, MAX_FILES}
use Rattle.server_configuration.specs.declared.reader.TheConstants.{MAX_ITEMS}
use Rattle.server_configuration.specs.declared.includes.Include.{Include}
use Rattle.server_configuration.specs.declared.includes.OpenFile.{OpenFile}
use Rattle.server_configuration.specs.declared.includes.Reading.{Reading}
use Rattle.server_configuration.specs.declared.includes.Task.{Task}
use Rattle.server_configuration.specs.declared.includes.Task.TheVariants.{Open, Read}
use Rattle.server_configuration.specs.declared.items.Item.{Item}
use Rattle.server_configuration.specs.declared.sources.SourceFile.{SourceFile}
use Rattle.server_configuration.specs.declared.statements.Placed.{Placed}

-- Statements begin on lines of a file.
abbrev pub AreOn : List SourceFile → ℕ → List Placed → Type 0
AreOn files file [] = Unit {0}
AreOn files file (placed ∷ statements) = HasLine files file placed.line × AreOn files file statements

pub record IsIncludeIn (files : List SourceFile) (items : List Item) (include : Include) : Type 0 where
  pub line : HasLine files include.file include.line
  pub section : IsSectionOf items include.section
  pub depth : include.depth ≤ MAX_DEPTH

pub record IsOpenIn (files : List SourceFile) (items : List Item) (open_file : OpenFile) : Type 0 where
  pub file : HasLine files open_file.file 1
  pub statements : AreOn files open_file.file open_file.statements.items
  pub section : IsSectionOf items open_file.section
  pub outer : IsSectionOf items open_file.outer

abbrev pub IsTaskIn : List SourceFile → List Item → Task → Type 0
IsTaskIn files items (Open include) = IsIncludeIn files items include
IsTaskIn files items (Read opened) = IsOpenIn files items opened

-- What holds of the files, the items and the tasks.
pub record AreRead (read : List SourceFile) (added : List Item) (waiting : List Task) : Type 0 where
  pub files : length read ≤ MAX_FILES
  pub octets : octets_in read ≤ MAX_CONFIGURATION_OCTETS
  pub depth : AreWithinDepth MAX_DEPTH read
  pub lines : AreOnLines read added
  pub nested : AreNested added
  pub count : length added ≤ MAX_ITEMS
  pub tasks : AllByRecursion (IsTaskIn read added) waiting

abbrev pub IsReading : Reading → Type 0
IsReading reading = AreRead reading.files.items reading.items.items reading.tasks.items
