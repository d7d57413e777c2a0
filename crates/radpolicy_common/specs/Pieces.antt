-- A text cut into its tokens, as the reader of policies takes them, and what is between them.
use Rattle.std.specs.Prelude.{ℕ, zero, suc, ◌+◌, ◌-◌, Bool, true, false, ◌==◌, if◌then◌else◌, List, [], ◌∷◌, drop, length, take}
use Rattle.avp_dict.specs.Ascii.{line_feed}
use Rattle.avp_forms.specs.declared.profiles.Profile.{Profile}
use Rattle.avp_unlang.specs.Faults.{from_token}
use Rattle.avp_unlang.specs.Tokens.{token_in}
use Rattle.avp_unlang.specs.declared.text.tokens.Sign.{Sign}
use Rattle.avp_unlang.specs.declared.text.tokens.Sign.TheVariants as sign
use Rattle.avp_unlang.specs.declared.text.tokens.Token.{Token}
use Rattle.avp_unlang.specs.declared.text.tokens.Token.TheVariants.{End, Matching, Operator, Quoted, Unreadable, Word}

-- a token, its octets, and the blanks and comments after it
pub record Piece : Type 0 where
  pub token : Token
  pub octets : List ℕ
  pub after : List ℕ

-- the blanks and comments that a text begins with
abbrev pub gap : List ℕ → List ℕ
gap text = take (length text - length (from_token text)) text

-- the octets before the end of the line
abbrev pub line_length : List ℕ → ℕ
line_length [] = 0
line_length (c ∷ cs) = if c == line_feed then 0 else line_length cs + 1

-- where no token begins, the first octet and those to the end of its line
abbrev pub unreadable_length : List ℕ → ℕ
unreadable_length [] = 0
unreadable_length (c ∷ cs) = line_length cs + 1

-- how many octets the token has that a text begins with, by what is left after it
abbrev pub token_length : Token → List ℕ → List ℕ → ℕ
token_length Unreadable rest text = unreadable_length text
token_length token rest text = length text - length rest

abbrev pub piece : Token → ℕ → List ℕ → Piece
piece token n text =
    record { token = token; octets = take n text; after = gap (drop n text) }

abbrev pub is_end : Token → Bool
is_end End = true
is_end _ = false

-- the pieces of a text from a token on, which are at most so many
abbrev pub pieces_from : ℕ → Profile → List ℕ → List Piece
pieces_from zero profile text = []
pieces_from (suc n) profile text =
    let found = token_in profile text in
    let taken = token_length found.0 found.1 text in
    if is_end found.0 then []
    else piece found.0 taken text ∷ pieces_from n profile (from_token (drop taken text))

-- the pieces of a text after its first blanks and comments
unfoldable pub pieces_of : Profile → List ℕ → List Piece
pieces_of profile text = pieces_from (length text) profile (from_token text)

-- ---- kinds of tokens

-- a sign at which a comparison or an update line ends
abbrev pub is_border_sign : Sign → Bool
is_border_sign sign.BlockStart = true
is_border_sign sign.BlockEnd = true
is_border_sign sign.Open = true
is_border_sign sign.Close = true
is_border_sign sign.Or = true
is_border_sign sign.And = true
is_border_sign sign.Not = true
is_border_sign _ = false

abbrev pub is_border : Token → Bool
is_border (Operator s) = is_border_sign s
is_border _ = false

-- `&`
abbrev pub is_reference : Token → Bool
is_reference (Operator sign.Reference) = true
is_reference _ = false

-- a sign that updates or compares
abbrev pub is_relating_sign : Sign → Bool
is_relating_sign sign.Reference = false
is_relating_sign s = if is_border_sign s then false else true

abbrev pub is_relating : Token → Bool
is_relating (Operator s) = is_relating_sign s
is_relating _ = false

abbrev pub is_word : Token → Bool
is_word (Word word) = true
is_word _ = false

-- a quoted text, a pattern, or what is no token
abbrev pub is_literal : Token → Bool
is_literal (Quoted mark text) = true
is_literal (Matching matcher) = true
is_literal Unreadable = true
is_literal _ = false
