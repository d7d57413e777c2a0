-- The line by which a program knows a file again that it wrote.
use Rattle.std.specs.Prelude.{ℕ, ◌≡◌, ◌==◌, List, ◌++◌, take, drop, length, codes, if◌then◌else◌}
use Rattle.std.specs.Str.{bytes_eq}
use Rattle.hex.specs.Hex.{encode_lower}
use Rattle.sha2.specs.Sha256.{sha256}
use Rattle.radpolicy_common.specs.declared.marks.Comments.{Comments}
use Rattle.radpolicy_common.specs.declared.marks.Comments.TheVariants.{Hash, Html}

-- ---- comments

abbrev pub opening_of : Comments → List ℕ
opening_of Hash = codes "# "
opening_of Html = codes "<!-- "

abbrev pub closing_of : Comments → List ℕ
closing_of Hash = codes "\n"
closing_of Html = codes " -->\n"

-- the line that stays the first
abbrev pub head_of : Comments → List ℕ
head_of Hash = codes "# profile: wider\n"
head_of Html = codes "<!doctype html>\n"

-- how much of a text comes before the program's line: its first line, where that stays the first
abbrev pub head_length : Comments → List ℕ → ℕ
head_length comments text =
    (if bytes_eq (take (length (head_of comments)) text) (head_of comments)
    then length (head_of comments) else 0)

-- ---- the program's line

-- it has the program's name and the digest of all the other lines
abbrev pub mark : Comments → List ℕ → List ℕ → List ℕ
mark comments program text =
    opening_of comments ++ codes "Written by " ++ program ++ codes "; SHA-256 of the other lines: "
    ++ encode_lower (sha256 text) ++ closing_of comments

-- its number
abbrev pub mark_line : Comments → List ℕ → ℕ
mark_line comments text = (if head_length comments text == 0 then 1 else 2)

-- a text with that line in it
abbrev pub marked : Comments → List ℕ → List ℕ → List ℕ
marked comments program text =
    take (head_length comments text) text ++ mark comments program text
    ++ drop (head_length comments text) text

-- what is left of a file without so many octets below the line that stays the first
abbrev pub without_mark : Comments → ℕ → List ℕ → List ℕ
without_mark comments count octets =
    take (head_length comments octets) octets
    ++ drop count (drop (head_length comments octets) octets)

-- a program wrote this, and nobody has changed it since
pub record IsMarked (comments : Comments) (program octets : List ℕ) : Type 0 where
  pub text : List ℕ
  pub whole : octets ≡ marked comments program text
