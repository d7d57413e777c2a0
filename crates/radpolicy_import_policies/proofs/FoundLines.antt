-- Lines of files that were read.
use Rattle.std.proofs.Common.{◌≡◌, ℕ, zero, suc, ◌++◌, List, [], ◌∷◌, Some, slice_get, option_map, sym, subst}
use Rattle.server_configuration.specs.Places.{AreOnLines, HasLine}
use Rattle.server_configuration.specs.declared.items.Item.{Item}
use Rattle.server_configuration.specs.declared.sources.SourceFile.{SourceFile}
use Rattle.radpolicy_import_policies.specs.Origins.{AreLines, line_origins, origin_in}
use Rattle.radpolicy_import_policies.specs.Imports.{part_origins, warning_origins}
use Rattle.radpolicy_import_policies.specs.declared.imports.LeftOut.{LeftOut}
use Rattle.radpolicy_import_policies.specs.declared.imports.Warning.{Warning}
use Rattle.radpolicy_import_policies.specs.declared.origins.LineOrigin.{LineOrigin}
use Rattle.radpolicy_import_policies.specs.declared.origins.Origin.{Origin}

lines_with_one : (files : List SourceFile) (lines : List LineOrigin) (line : LineOrigin)
    → HasLine files line.origin.file line.origin.line → AreLines files (line_origins lines)
    → AreLines files (line_origins (lines ++ line ∷ []))
lines_with_one files [] line here h = (here, tt)
lines_with_one files (other ∷ lines) line here h = (h.0, lines_with_one files lines line here h.1)

line_found : (files : List SourceFile) (item : Item) (origin : Origin) → HasLine files item.file item.line
    → origin_in item ≡ origin → HasLine files origin.file origin.line
line_found files item origin h e = subst (λ (o : Origin). HasLine files o.file o.line) e h

pub line_of_origin : (files : List SourceFile) (items : List Item) (place : ℕ) (origin : Origin) → AreOnLines files items
    → option_map origin_in (slice_get items place) ≡ Some origin → HasLine files origin.file origin.line
line_of_origin files [] place origin h e = cc
line_of_origin files (item ∷ items) zero origin h e =
    let same : origin_in item ≡ origin = cc in line_found files item origin h.0 same
line_of_origin files (item ∷ items) (suc place) origin h e = line_of_origin files items place origin h.1 e

pub lines_after : (files : List SourceFile) (line : LineOrigin) (old new : List LineOrigin) → new ≡ old ++ line ∷ []
    → HasLine files line.origin.file line.origin.line → AreLines files (line_origins old) → AreLines files (line_origins new)
lines_after files line old new e here h =
    subst (λ (made : List LineOrigin). AreLines files (line_origins made)) (sym e) (lines_with_one files old line here h)

parts_with_one : (files : List SourceFile) (parts : List LeftOut) (part : LeftOut)
    → HasLine files part.origin.file part.origin.line → AreLines files (part_origins parts)
    → AreLines files (part_origins (parts ++ part ∷ []))
parts_with_one files [] part line h = (line, tt)
parts_with_one files (other ∷ parts) part line h = (h.0, parts_with_one files parts part line h.1)

pub parts_after : (files : List SourceFile) (items : List Item) (place : ℕ) (part : LeftOut) (old new : List LeftOut)
    → new ≡ old ++ part ∷ [] → option_map origin_in (slice_get items place) ≡ Some part.origin → AreOnLines files items
    → AreLines files (part_origins old) → AreLines files (part_origins new)
parts_after files items place part old new e found read h =
    subst (λ (made : List LeftOut). AreLines files (part_origins made)) (sym e)
    (parts_with_one files old part (line_of_origin files items place part.origin read found) h)

warnings_with_one : (files : List SourceFile) (warnings : List Warning) (warning : Warning)
    → HasLine files warning.origin.file warning.origin.line → AreLines files (warning_origins warnings)
    → AreLines files (warning_origins (warnings ++ warning ∷ []))
warnings_with_one files [] warning line h = (line, tt)
warnings_with_one files (other ∷ warnings) warning line h = (h.0, warnings_with_one files warnings warning line h.1)

pub warnings_after : (files : List SourceFile) (items : List Item) (place : ℕ) (warning : Warning) (old new : List Warning)
    → new ≡ old ++ warning ∷ [] → option_map origin_in (slice_get items place) ≡ Some warning.origin → AreOnLines files items
    → AreLines files (warning_origins old) → AreLines files (warning_origins new)
warnings_after files items place warning old new e found read h =
    subst (λ (made : List Warning). AreLines files (warning_origins made)) (sym e)
    (warnings_with_one files old warning (line_of_origin files items place warning.origin read found) h)
