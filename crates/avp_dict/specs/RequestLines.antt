-- What request lines `Name = value` assign, before names and values are looked up.
use Rattle.std.specs.Prelude.{ℕ, Bool, true, false, ◌==◌, if◌then◌else◌, List, [], ◌∷◌, ◌++◌, filter, slice_index, Option, Some, None}
use Rattle.std.specs.List.{before_first, list_all}
use Rattle.std.specs.Option.{option_map}
use Rattle.avp_dict.specs.Ascii.{backslash, double_quote, equals, single_quote}
use Rattle.avp_dict.specs.declared.value.quotes.QuoteMark.{QuoteMark}
use Rattle.avp_dict.specs.declared.value.quotes.QuoteMark.TheVariants.{Double, Single}
use Rattle.avp_dict.specs.declared.request.tokens.Side.{Side}
use Rattle.avp_dict.specs.declared.request.tokens.Side.TheVariants.{Name, Value}
use Rattle.avp_dict.specs.Letters.{is_comma}
use Rattle.avp_dict.specs.Lines.{texts_of}
use Rattle.avp_dict.specs.Quotes.{octets_between}
use Rattle.avp_dict.specs.Words.{is_blank, is_hash}

-- ---- tokens

-- what is in a line outside its comment: blanks, commas, the `=` between a name and its value, runs of other octets,
-- texts between quotes, and a quote that nothing ends on its line
pub data Token : Type 0 where
  Blank : Token
  Comma : Token
  Sign : Token
  Run : List ℕ → Token
  Quoted : QuoteMark → List ℕ → Token
  Unended : Token

-- where an octet is: outside quotes, on the side of the name or of the value; between quotes; or there after a `\`
pub data Place : Type 0 where
  Outside : Side → Place
  Between : QuoteMark → Place
  Escaped : QuoteMark → Place

abbrev pub quote_octet : QuoteMark → ℕ
quote_octet Double = double_quote
quote_octet Single = single_quote

abbrev pub is_equals : ℕ → Bool
is_equals o = o == equals

-- the `=` of a pair is the first one after a line's start or a comma, with no quote before it
abbrev pub is_sign : Side → ℕ → Bool
is_sign Name o = is_equals o
is_sign Value o = false

-- between quotes a `\` keeps the next octet from ending the text
abbrev pub place_between : QuoteMark → ℕ → Place
place_between mark o = if o == backslash then Escaped mark else Between mark

-- one octet more at the front of a run
abbrev pub onto_run : ℕ → List Token → List Token
onto_run o (Run os ∷ tokens) = Run (o ∷ os) ∷ tokens
onto_run o tokens = Run (o ∷ []) ∷ tokens

-- one octet more at the front of a quoted text
abbrev pub onto_quoted : ℕ → List Token → List Token
onto_quoted o (Quoted mark os ∷ tokens) = Quoted mark (o ∷ os) ∷ tokens
onto_quoted o tokens = tokens

-- the tokens of the octets from a place on
unfoldable pub tokens_from : Place → List ℕ → List Token
tokens_from (Outside side) [] = []
tokens_from (Between mark) [] = Unended ∷ []
tokens_from (Escaped mark) [] = Unended ∷ []
tokens_from (Outside side) (o ∷ os) =
    if is_hash o then []
    else if is_blank o then Blank ∷ tokens_from (Outside side) os
    else if is_comma o then Comma ∷ tokens_from (Outside Name) os
    else if o == quote_octet Double then tokens_from (Between Double) os
    else if o == quote_octet Single then tokens_from (Between Single) os
    else if is_sign side o then Sign ∷ tokens_from (Outside Value) os
    else onto_run o (tokens_from (Outside side) os)
tokens_from (Between mark) (o ∷ os) =
    if o == quote_octet mark then Quoted mark [] ∷ tokens_from (Outside Value) os
    else onto_quoted o (tokens_from (place_between mark o) os)
tokens_from (Escaped mark) (o ∷ os) = onto_quoted o (tokens_from (Between mark) os)

abbrev pub is_filled : Token → Bool
is_filled Blank = false
is_filled token = true

-- the tokens from one side of the `=` on, but for blanks
unfoldable pub tokens_at : Side → List ℕ → List Token
tokens_at side octets = filter is_filled (tokens_from (Outside side) octets)

-- ---- pairs

-- a name, and the text that its value is read from
pub record Assignment : Type 0 where
  pub name : List ℕ
  pub text : List ℕ

-- the text of a value: of a run that does not begin with `=`, or what a quoted text stands for
abbrev pub value_text : Token → Option (List ℕ)
value_text (Run octets) = if is_equals (slice_index octets 0) then None else Some octets
value_text (Quoted mark text) = Some (octets_between mark text)
value_text _ = None

abbrev pub assigned : List ℕ → List ℕ → List Assignment
assigned name text = record { name = name; text = text } ∷ []

-- one list after another, where there are both
abbrev pub joined : {X : Type 0} → Option (List X) → Option (List X) → Option (List X)
joined None others = None
joined (Some xs) others = option_map (λ ys. xs ++ ys) others

-- pairs with commas between them; the last may have one too
unfoldable pub pairs_of : List Token → Option (List Assignment)
pairs_of [] = Some []
pairs_of (Run name ∷ Sign ∷ value ∷ []) = option_map (assigned name) (value_text value)
pairs_of (Run name ∷ Sign ∷ value ∷ Comma ∷ tokens) =
    joined (option_map (assigned name) (value_text value)) (pairs_of tokens)
pairs_of _ = None

abbrev pub line_assignments : List ℕ → Option (List Assignment)
line_assignments line = pairs_of (tokens_at Name line)

-- ---- lines

-- a line of blanks alone
abbrev pub is_blank_line : List ℕ → Bool
is_blank_line line = list_all is_blank line

-- a line of blanks alone before its comment, if it has one
abbrev pub is_idle_line : List ℕ → Bool
is_idle_line line = is_blank_line (before_first is_hash line)

-- what is left without the lines at the front that pass a test
abbrev pub without_front : (List ℕ → Bool) → List (List ℕ) → List (List ℕ)
without_front test [] = []
without_front test (line ∷ lines) = if test line then without_front test lines else line ∷ lines

-- the lines of a packet: the first line of blanks alone ends it, and no pair may come after that
unfoldable pub packet_assignments : List (List ℕ) → Option (List Assignment)
packet_assignments [] = Some []
packet_assignments (line ∷ lines) =
    if is_blank_line line then (if list_all is_idle_line lines then Some [] else None)
    else joined (line_assignments line) (packet_assignments lines)

-- what the lines of a text assign: the packet begins with the first line that holds more than blanks and a comment
unfoldable pub assignments_of : List ℕ → Option (List Assignment)
assignments_of text = packet_assignments (without_front is_idle_line (texts_of text))
