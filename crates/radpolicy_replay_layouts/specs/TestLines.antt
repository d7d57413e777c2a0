-- Tests of the Test Anything Protocol (version 13).
use Rattle.std.specs.Prelude.{ℕ, ◌==◌, ◌||◌, Bool, true, false, if◌then◌else◌, List, [], ◌∷◌, ◌++◌, codes, decimal}
use Rattle.std.specs.List.{flat_map}
use Rattle.avp_dict.specs.Lines.{is_line_end}

-- an octet of a description: `#` would begin a directive, and `\` is before what begins none
abbrev pub octet_described : ℕ → List ℕ
octet_described o = if o == 35 || o == 92 then 92 ∷ o ∷ [] else o ∷ []

abbrev pub described : List ℕ → List ℕ
described name = flat_map octet_described name

-- whether it has passed, its number, and its description
abbrev pub test_line : Bool → ℕ → List ℕ → List ℕ
test_line passed number name = (if passed then [] else codes "not ") ++ codes "ok "
    ++ decimal number ++ codes " - " ++ described name ++ codes "\n"

-- a test that was not made, with the directive that says so
abbrev pub skipped_line : ℕ → List ℕ → List ℕ
skipped_line number name =
    codes "ok " ++ decimal number ++ codes " - " ++ described name ++ codes " # SKIP\n"

-- lines as comments, of a text that begins a line or not
abbrev pub comments : Bool → List ℕ → List ℕ
comments begins [] = []
comments true (o ∷ lines) = codes "# " ++ o ∷ comments (is_line_end o) lines
comments false (o ∷ lines) = o ∷ comments (is_line_end o) lines

-- a test, and below it these lines
abbrev pub test_text : Bool → ℕ → List ℕ → List ℕ → List ℕ
test_text passed number name lines = test_line passed number name ++ comments true lines
