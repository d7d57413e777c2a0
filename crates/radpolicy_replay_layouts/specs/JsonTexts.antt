-- Values of JSON (RFC 8259).
use Rattle.std.specs.Prelude.{ℕ, Bool, if◌then◌else◌, List, [], ◌∷◌, ◌++◌, codes}
use Rattle.std.specs.List.{flat_map}
use Rattle.std.specs.Str.{is_utf8}
use Rattle.radpolicy_common.specs.JsonStrings.{json_octets, json_string}
use Rattle.radpolicy_common.specs.declared.json_strings.Escaping.TheVariants.{Plain}

-- a text as a string, and octets that are no UTF-8 as the object that has them
abbrev pub string : List ℕ → List ℕ
string text = if is_utf8 text then json_string Plain text else json_octets text

abbrev pub flag : Bool → List ℕ
flag holds = if holds then codes "true" else codes "false"

-- an array of strings
abbrev pub strings : List (List ℕ) → List ℕ
strings [] = codes "[]"
strings (text ∷ texts) =
    codes "[" ++ string text ++ flat_map (λ text. codes "," ++ string text) texts ++ codes "]"
