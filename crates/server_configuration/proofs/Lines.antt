-- Lines of files.
use Rattle.std.proofs.Common.{◌≡◌, ℕ, ◌≤◌, ◌++◌, List, [], ◌∷◌, Some, slice_get, zero, suc, subst, arith}
use Rattle.server_configuration.specs.declared.items.Item.{Item}
use Rattle.server_configuration.specs.declared.sources.SourceFile.{SourceFile}
use Rattle.server_configuration.specs.Places.{AreOnLines, BeginWithin, HasLine}
use Rattle.server_configuration.specs.declared.statements.Placed.{Placed}
use Rattle.server_configuration.specs.internal.Statements.{AreWithin}

pub begin_with_one : (lines : ℕ) (items : List Item) (item : Item) → 1 ≤ item.line → item.line ≤ lines
    → BeginWithin lines items → BeginWithin lines (items ++ item ∷ [])
begin_with_one lines [] item first last h = (first, last, tt)
begin_with_one lines (other ∷ items) item first last h =
    (h.0, h.1, begin_with_one lines items item first last h.2)

pub on_lines_with_one : (files : List SourceFile) (items : List Item) (item : Item)
    → HasLine files item.file item.line → AreOnLines files items → AreOnLines files (items ++ item ∷ [])
on_lines_with_one files [] item line h = (line, tt)
on_lines_with_one files (other ∷ items) item line h = (h.0, on_lines_with_one files items item line h.1)

pub earlier_line : (files : List SourceFile) (file line earlier : ℕ) → 1 ≤ earlier → earlier ≤ line
    → HasLine files file line → HasLine files file earlier
earlier_line [] file line earlier first last h = h
earlier_line (found ∷ files) zero line earlier first last h =
    let last_line = h.1 in (first, omega arith)
earlier_line (found ∷ files) (suc file) line earlier first last h =
    earlier_line files file line earlier first last h

pub within_with_one : (lines : ℕ) (statements : List Placed) (placed : Placed) → 1 ≤ placed.line
    → placed.line ≤ lines → AreWithin lines statements → AreWithin lines (statements ++ placed ∷ [])
within_with_one lines [] placed first last h = (first, last, tt)
within_with_one lines (other ∷ statements) placed first last h =
    (h.0, h.1, within_with_one lines statements placed first last h.2)

pub line_of_item : (lines : ℕ) (items : List Item) (place : ℕ) (item : Item) → BeginWithin lines items
    → slice_get items place ≡ Some item → item.line ≤ lines
line_of_item lines [] place item h e = cc
line_of_item lines (other ∷ items) zero item h e =
    let same : other ≡ item = cc in
    let Ends : Item → Type 0 = λ x. x.line ≤ lines in
    subst Ends same h.1
line_of_item lines (other ∷ items) (suc place) item h e = line_of_item lines items place item h.2 e
