-- What holds while files are read, as files, items and tasks come and go.
use Rattle.std.proofs.Common.{◌≡◌, ℕ, ◌+◌, ◌≤◌, ◌<◌, ◌++◌, List, [], ◌∷◌, Option, Some, None, slice_get, zero, suc, length, subst, sym, arith, append-nil, refl, get_or, IfSome, ◌∙◌, option_to_list}
use Rattle.std.specs.List.{AllByRecursion}
use Rattle.std.proofs.lemmas.Option.{slice_get_read}
use Rattle.server_configuration.proofs.Nesting.{section_of_item, section_stays}
use Rattle.server_configuration.specs.Files.{octets_in, AreWithinDepth}
use Rattle.server_configuration.specs.Places.{AreNested, AreOnLines, HasLine, IsSectionOf, line_feeds}
use Rattle.server_configuration.specs.declared.includes.TheConstants.{MAX_CONFIGURATION_OCTETS, MAX_DEPTH, MAX_FILES}
use Rattle.server_configuration.specs.declared.reader.TheConstants.{MAX_ITEMS}
use Rattle.server_configuration.specs.declared.includes.OpenFile.{OpenFile}
use Rattle.server_configuration.specs.declared.includes.Task.{Task}
use Rattle.server_configuration.specs.declared.includes.Task.TheVariants.{Open, Read}
use Rattle.server_configuration.specs.declared.items.Item.{Item}
use Rattle.server_configuration.specs.declared.sources.SourceFile.{SourceFile}
use Rattle.server_configuration.specs.declared.statements.Placed.{Placed}
use Rattle.server_configuration.specs.internal.Readings.{AreOn, AreRead, IsTaskIn}
use Rattle.server_configuration.specs.internal.Statements.{AreWithin, Grows}

pub line_stays : (files more : List SourceFile) (file line : ℕ) → HasLine files file line
    → HasLine (files ++ more) file line
line_stays [] more file line h = absurd h
line_stays (found ∷ files) more zero line h = h
line_stays (found ∷ files) more (suc file) line h = line_stays files more file line h

pub lines_stay : (files more : List SourceFile) (items : List Item) → AreOnLines files items
    → AreOnLines (files ++ more) items
lines_stay files more [] h = tt
lines_stay files more (item ∷ items) h = (line_stays files more item.file item.line h.0, lines_stay files more items h.1)

pub line_of_item : (files : List SourceFile) (items : List Item) (place : ℕ) (item : Item) → AreOnLines files items
    → slice_get items place ≡ Some item → HasLine files item.file item.line
line_of_item files [] place item h e = cc
line_of_item files (other ∷ items) zero item h e =
    let same : other ≡ item = cc in
    let On : Item → Type 0 = λ x. HasLine files x.file x.line in
    subst On same h.0
line_of_item files (other ∷ items) (suc place) item h e = line_of_item files items place item h.1 e

pub line_of_new_file : (files : List SourceFile) (file : SourceFile) (line : ℕ) → 1 ≤ line
    → line ≤ 1 + line_feeds file.octets.items → HasLine (files ++ file ∷ []) (length files) line
line_of_new_file [] file line first last = (first, last)
line_of_new_file (other ∷ files) file line first last = line_of_new_file files file line first last

pub statements_of_new_file : (files : List SourceFile) (file : SourceFile) (statements : List Placed)
    → AreWithin (1 + line_feeds file.octets.items) statements
    → AreOn (files ++ file ∷ []) (length files) statements
statements_of_new_file files file [] h = tt
statements_of_new_file files file (placed ∷ statements) h =
    (line_of_new_file files file placed.line h.0 h.1, statements_of_new_file files file statements h.2)

statements_stay : (files more : List SourceFile) (file : ℕ) (statements : List Placed) → AreOn files file statements
    → AreOn (files ++ more) file statements
statements_stay files more file [] h = tt
statements_stay files more file (placed ∷ statements) h =
    (line_stays files more file placed.line h.0, statements_stay files more file statements h.1)

task_stays : (files more_files : List SourceFile) (items more : List Item) (task : Task) → IsTaskIn files items task
    → IsTaskIn (files ++ more_files) (items ++ more) task
task_stays files more_files items more (Open include) h = record {
  line = line_stays files more_files include.file include.line h.line;
  section = section_stays items more include.section h.section;
  depth = h.depth;
}
task_stays files more_files items more (Read opened) h = record {
  file = line_stays files more_files opened.file 1 h.file;
  statements = statements_stay files more_files opened.file opened.statements.items h.statements;
  section = section_stays items more opened.section h.section;
  outer = section_stays items more opened.outer h.outer;
}

tasks_stay : (files more_files : List SourceFile) (items more : List Item) (tasks : List Task)
    → AllByRecursion (IsTaskIn files items) tasks
    → AllByRecursion (IsTaskIn (files ++ more_files) (items ++ more)) tasks
tasks_stay files more_files items more [] h = tt
tasks_stay files more_files items more (task ∷ tasks) h =
    (task_stays files more_files items more task h.0, tasks_stay files more_files items more tasks h.1)

tasks_with_one : (files : List SourceFile) (items : List Item) (tasks : List Task) (task : Task)
    → AllByRecursion (IsTaskIn files items) tasks → IsTaskIn files items task
    → AllByRecursion (IsTaskIn files items) (tasks ++ task ∷ [])
tasks_with_one files items [] task h new = (new, tt)
tasks_with_one files items (other ∷ tasks) task h new = (h.0, tasks_with_one files items tasks task h.1 new)

tasks_without_last : (files : List SourceFile) (items : List Item) (tasks : List Task) (task : Task)
    → AllByRecursion (IsTaskIn files items) (tasks ++ task ∷ [])
    → AllByRecursion (IsTaskIn files items) tasks
tasks_without_last files items [] task h = tt
tasks_without_last files items (other ∷ tasks) task h = (h.0, tasks_without_last files items tasks task h.1)

last_of_tasks : (files : List SourceFile) (items : List Item) (tasks : List Task) (task : Task)
    → AllByRecursion (IsTaskIn files items) (tasks ++ task ∷ []) → IsTaskIn files items task
last_of_tasks files items [] task h = h.0
last_of_tasks files items (other ∷ tasks) task h = last_of_tasks files items tasks task h.1

octets_in-append : (files : List SourceFile) (file : SourceFile)
    → octets_in (files ++ file ∷ []) ≡ length file.octets.items + octets_in files
octets_in-append [] file = omega arith
octets_in-append (other ∷ files) file = let rest = octets_in-append files file in omega arith

depth_with_one : (depth : ℕ) (files : List SourceFile) (file : SourceFile) → AreWithinDepth depth files
    → file.depth ≤ depth → AreWithinDepth depth (files ++ file ∷ [])
depth_with_one depth [] file h new = (new, tt)
depth_with_one depth (other ∷ files) file h new = (h.0, depth_with_one depth files file h.1 new)

length_with_one : {A : Type 0} (xs : List A) (x : A) → length (xs ++ x ∷ []) ≡ length xs + 1
length_with_one [] x = refl
length_with_one (y ∷ xs) x = let rest = length_with_one xs x in omega arith

pub with_file : (files : List SourceFile) (items : List Item) (tasks : List Task) (file : SourceFile)
    → AreRead files items tasks → length files < MAX_FILES
    → length file.octets.items + octets_in files ≤ MAX_CONFIGURATION_OCTETS → file.depth ≤ MAX_DEPTH
    → AreRead (files ++ file ∷ []) items tasks
with_file files items tasks file h room size depth = record {
  files = let more = length_with_one files file in omega arith;
  octets = let more = octets_in-append files file in omega arith;
  depth = depth_with_one MAX_DEPTH files file h.depth depth;
  lines = lines_stay files (file ∷ []) items h.lines;
  nested = h.nested;
  count = h.count;
  tasks =
      let In : List Item → Type 0 = λ xs. AllByRecursion (IsTaskIn (files ++ file ∷ []) xs) tasks in
      subst In (append-nil items) (tasks_stay files (file ∷ []) items [] tasks h.tasks);
}

pub with_task : (files : List SourceFile) (items : List Item) (tasks : List Task) (task : Task)
    → AreRead files items tasks → IsTaskIn files items task → AreRead files items (tasks ++ task ∷ [])
with_task files items tasks task h new = record {
  files = h.files;
  octets = h.octets;
  depth = h.depth;
  lines = h.lines;
  nested = h.nested;
  count = h.count;
  tasks = tasks_with_one files items tasks task h.tasks new;
}

pub without_task : (files : List SourceFile) (items : List Item) (tasks : List Task) (task : Task)
    → AreRead files items (tasks ++ task ∷ []) → AreRead files items tasks
without_task files items tasks task h = record {
  files = h.files;
  octets = h.octets;
  depth = h.depth;
  lines = h.lines;
  nested = h.nested;
  count = h.count;
  tasks = tasks_without_last files items tasks task h.tasks;
}

pub last_task : (files : List SourceFile) (items : List Item) (tasks : List Task) (task : Task)
    → AreRead files items (tasks ++ task ∷ []) → IsTaskIn files items task
last_task files items tasks task h = last_of_tasks files items tasks task h.tasks

pub with_items : (files : List SourceFile) (items new : List Item) (tasks : List Task) → AreRead files items tasks
    → Grows items new → AreOnLines files new → AreNested new → length new ≤ MAX_ITEMS → AreRead files new tasks
with_items files items new tasks h grows lines nested count = record {
  files = h.files;
  octets = h.octets;
  depth = h.depth;
  lines = lines;
  nested = nested;
  count = count;
  tasks =
      let In : List Item → Type 0 = λ xs. AllByRecursion (IsTaskIn files xs) tasks in
      let InFiles : List SourceFile → Type 0 = λ fs. AllByRecursion (IsTaskIn fs (items ++ grows.0)) tasks in
      subst In (sym grows.1) (subst InFiles (append-nil files) (tasks_stay files [] items grows.0 tasks h.tasks));
}

pub section_grows : (items new : List Item) (section : Option ℕ) → Grows items new → IsSectionOf items section
    → IsSectionOf new section
section_grows items new section grows h =
    let In : List Item → Type 0 = λ xs. IsSectionOf xs section in
    subst In (sym grows.1) (section_stays items grows.0 section h)

-- The item that a slice of the items gave at a place.
item_read : (items slice : List Item) (place : ℕ) (item : Item) → slice ≡ items → place < length slice
    → item ≡ get_or slice place item → slice_get items place ≡ Some item
item_read items slice place item same within read =
    let At : List Item → Type 0 = λ xs. slice_get xs place ≡ Some item in
    subst At same (slice_get_read slice (length slice) place item refl within read)

pub line_of_read : (files : List SourceFile) (items slice : List Item) (place : ℕ) (item : Item) → slice ≡ items
    → place < length slice → item ≡ get_or slice place item → AreOnLines files items
    → HasLine files item.file item.line
line_of_read files items slice place item same within read h =
    line_of_item files items place item h (item_read items slice place item same within read)

pub section_of_read : (items slice : List Item) (place : ℕ) (item : Item) → slice ≡ items → place < length slice
    → item ≡ get_or slice place item → AreNested items → IsSectionOf items item.section
section_of_read items slice place item same within read h =
    section_of_item items place item h (item_read items slice place item same within read)

pub last_line_of_new : (files new : List SourceFile) (file : SourceFile) (octets : List ℕ) (place : ℕ)
    → new ≡ files ++ file ∷ [] → place ≡ length files → octets ≡ file.octets.items
    → HasLine new place (1 + line_feeds octets)
last_line_of_new files new file octets place added at same =
    let InFiles : List SourceFile → Type 0 = λ fs. HasLine fs place (1 + line_feeds octets) in
    let At : ℕ → Type 0 = λ n. HasLine (files ++ file ∷ []) n (1 + line_feeds octets) in
    let Ends : List ℕ → Type 0 = λ os. 1 + line_feeds octets ≤ 1 + line_feeds os in
    let last : 1 + line_feeds octets ≤ 1 + line_feeds file.octets.items = subst Ends same (omega arith) in
    subst InFiles (sym added) (subst At (sym at) (line_of_new_file files file (1 + line_feeds octets) (omega arith) last))

-- A file was added, and its statements are to be read next.
pub begun : (files new : List SourceFile) (items : List Item) (tasks new_tasks : List Task) (file : SourceFile)
    (octets : List ℕ) (opened : OpenFile) → AreRead files items tasks → length files < MAX_FILES
    → length file.octets.items + octets_in files ≤ MAX_CONFIGURATION_OCTETS → file.depth ≤ MAX_DEPTH
    → IsSectionOf items opened.section → IsSectionOf items opened.outer → opened.file ≡ length files
    → octets ≡ file.octets.items → AreWithin (1 + line_feeds octets) opened.statements.items
    → new ≡ files ++ file ∷ [] → new_tasks ≡ tasks ++ Read opened ∷ [] → AreRead new items new_tasks
begun files new items tasks new_tasks file octets opened h room size depth section outer at same within added pushed =
    let InFiles : List SourceFile → Type 0 = λ fs. AreRead fs items new_tasks in
    let InTasks : List Task → Type 0 = λ ts. AreRead (files ++ file ∷ []) items ts in
    let At : ℕ → Type 0 = λ n. HasLine (files ++ file ∷ []) n 1 in
    let On : ℕ → Type 0 = λ n. AreOn (files ++ file ∷ []) n opened.statements.items in
    let Within : List ℕ → Type 0 = λ os. AreWithin (1 + line_feeds os) opened.statements.items in
    subst InFiles (sym added) (subst InTasks (sym pushed)
    (with_task (files ++ file ∷ []) items tasks (Read opened) (with_file files items tasks file h room size depth)
    (record {
      file = subst At (sym at) (line_of_new_file files file 1 (omega arith) (omega arith));
      statements = subst On (sym at)
          (statements_of_new_file files file opened.statements.items (subst Within same within));
      section = section;
      outer = outer;
    })))

-- The last task was taken, if there was one.
pub taken : (files : List SourceFile) (items : List Item) (tasks rest : List Task) (task : Option Task)
    → AreRead files items tasks → tasks ≡ rest ++ option_to_list task
    → AreRead files items rest × IfSome task (IsTaskIn files items)
taken files items tasks rest None h e =
    let In : List Task → Type 0 = λ ts. AreRead files items ts in
    (subst In (e ∙ append-nil rest) h, tt)
taken files items tasks rest (Some task) h e =
    let In : List Task → Type 0 = λ ts. AreRead files items ts in
    let more : AreRead files items (rest ++ task ∷ []) = subst In e h in
    (without_task files items rest task more, last_task files items rest task more)
