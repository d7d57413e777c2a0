-- Items of a file that is added.
use Rattle.std.proofs.Common.{◌≡◌, ◌+◌, ◌++◌, ◌≤◌, ◌∙◌, ℕ, List, [], ◌∷◌, ap, length, map, subst, sym}
use Rattle.std.proofs.lemmas.List.{append_assoc}
use Rattle.server_configuration.proofs.Readings.{line_of_new_file, lines_stay}
use Rattle.server_configuration.specs.Places.{AreOnLines, BeginWithin, HasLine, line_feeds}
use Rattle.server_configuration.specs.declared.items.Item.{Item}
use Rattle.server_configuration.specs.declared.sources.SourceFile.{SourceFile}
use Rattle.radpolicy_import_policies.specs.InitialLists.{AddsFile, AddsItems, item_of_file}

pub line_of_added : (old new : List SourceFile) (file : SourceFile) (place : ℕ) (octets : List ℕ)
    → new ≡ old ++ file ∷ [] → place ≡ length old → file.octets.items ≡ octets → (line : ℕ) → 1 ≤ line
    → line ≤ 1 + line_feeds octets → HasLine new place line
line_of_added old new file place octets e at is line first last =
    subst (λ files. HasLine files place line) (sym e)
    (subst (λ n. HasLine (old ++ file ∷ []) n line) (sym at)
    (line_of_new_file old file line first (subst (λ os. line ≤ 1 + line_feeds os) (sym is) last)))

pub lines_after : (old new : List SourceFile) (file : SourceFile) → new ≡ old ++ file ∷ [] → (items : List Item)
    → AreOnLines old items → AreOnLines new items
lines_after old new file e items h = subst (λ files. AreOnLines files items) (sym e) (lines_stay old (file ∷ []) items h)

pub adds_file : (name text : List ℕ) (old new : List SourceFile) (file : SourceFile) → file.path.items ≡ name
    → file.octets.items ≡ text → new ≡ old ++ file ∷ [] → AddsFile name text old new
adds_file name text old new file path octets last =
    record { file = file; path = path; octets = octets; last = last }

pub adds_items : (file count : ℕ) (read old new : List Item) → count ≡ length read
    → new ≡ old ++ map (item_of_file file) read → AddsItems file count old new
adds_items file count read old new counted last = record { read = read; counted = sym counted; last = last }

lines_joined : (files : List SourceFile) (old added : List Item) → AreOnLines files old → AreOnLines files added
    → AreOnLines files (old ++ added)
lines_joined files [] added h k = k
lines_joined files (item ∷ old) added h k = (h.0, lines_joined files old added h.1 k)

lines_of_file : (files : List SourceFile) (file lines : ℕ) (read : List Item) → BeginWithin lines read
    → ((line : ℕ) → 1 ≤ line → line ≤ lines → HasLine files file line) → AreOnLines files (map (item_of_file file) read)
lines_of_file files file lines [] within has = tt
lines_of_file files file lines (item ∷ read) within has =
    (has item.line within.0 within.1, lines_of_file files file lines read within.2 has)

pub lines_of_added : (files : List SourceFile) (file lines : ℕ) (read old new : List Item) → BeginWithin lines read
    → ((line : ℕ) → 1 ≤ line → line ≤ lines → HasLine files file line) → new ≡ old ++ map (item_of_file file) read
    → AreOnLines files old → AreOnLines files new
lines_of_added files file lines read old new within has last h =
    subst (AreOnLines files) (sym last)
    (lines_joined files old (map (item_of_file file) read) h (lines_of_file files file lines read within has))

pub one_moved : (file : ℕ) (item : Item) (items new left rest : List Item) → left ≡ item ∷ rest
    → new ≡ items ++ item_of_file file item ∷ []
    → new ++ map (item_of_file file) rest ≡ items ++ map (item_of_file file) left
one_moved file item items new left rest next pushed =
    ap (λ (is : List Item). is ++ map (item_of_file file) rest) pushed
    ∙ append_assoc items (item_of_file file item ∷ []) (map (item_of_file file) rest)
    ∙ ap (λ (is : List Item). items ++ map (item_of_file file) is) (sym next)
