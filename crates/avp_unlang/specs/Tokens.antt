-- The tokens of a policy text: blanks and comments are skipped, and the longest token is taken, an operator
-- before a word.
use Rattle.std.specs.Prelude.{ℕ, zero, suc, ◌+◌, Bool, true, false, not, ◌&&◌, ◌||◌, ◌==◌, List, [], ◌∷◌, take, drop, Option, Some, None, bytes_eq, nat_eq, codes, if◌then◌else◌, option_map}
use Rattle.std.specs.Char.{is_ascii_alphanumeric}
use Rattle.std.specs.List.{list_any}
use Rattle.avp_dict.specs.Ascii.{backslash, carriage_return, colon, double_quote, equals, hyphen, line_feed, number_sign, single_quote, slash, space, tab}
use Rattle.avp_forms.specs.declared.profiles.Profile.{Profile}
use Rattle.avp_forms.specs.declared.profiles.Profile.TheVariants.{Plain, Wider}
use Rattle.avp_patterns.specs.declared.flags.PatternFlags.{PatternFlags}
use Rattle.avp_unlang.specs.Places.{Place}
use Rattle.avp_unlang.specs.declared.text.tokens.Token.{Token}
use Rattle.avp_unlang.specs.declared.text.tokens.Token.TheVariants.{Operator, Word, Quoted, Matching, Unreadable, End}
use Rattle.avp_unlang.specs.declared.text.tokens.Sign.{Sign}
use Rattle.avp_unlang.specs.declared.text.tokens.Sign.TheVariants as sign
use Rattle.avp_dict.specs.declared.value.quotes.QuoteMark.{QuoteMark}
use Rattle.avp_dict.specs.declared.value.quotes.QuoteMark.TheVariants as quote

-- Between tokens: spaces, tabs, CR and LF, and comments from `#` to the end of the line. After one such octet,
-- the line, and whether a comment goes on.
unfoldable pub passed : ℕ → Bool → ℕ → Option (ℕ × Bool)
passed line comment c =
    if c == line_feed then Some (line + 1, false)
    else if comment || c == number_sign then Some (line, true)
    else if c == space || c == tab || c == carriage_return then Some (line, false)
    else None

-- the line and the text where the next token begins
abbrev pub skipped : ℕ → Bool → List ℕ → ℕ × List ℕ
skipped line comment [] = (line, [])
skipped line comment (c ∷ cs) = elim (passed line comment c) [
  | None ↦ (line, c ∷ cs)
  | Some p ↦ skipped p.0 p.1 cs
]

-- letters, digits, `-`, `_`, `.`, `/`, `:` and `@`
unfoldable pub is_word_octet : ℕ → Bool
is_word_octet c = is_ascii_alphanumeric c || list_any (nat_eq c) (codes "-_./:@")

abbrev pub begins_equal : List ℕ → Bool
begins_equal [] = false
begins_equal (c ∷ cs) = c == equals

-- a `:` or `-` before `=` is not part of a word
unfoldable pub is_in_word : ℕ → List ℕ → Bool
is_in_word c after = is_word_octet c && not ((c == colon || c == hyphen) && begins_equal after)

abbrev pub word_length : List ℕ → ℕ
word_length [] = 0
word_length (c ∷ cs) = if is_in_word c cs then word_length cs + 1 else 0

-- The octets before the closing quote, which is on the same line and is not escaped by a `\`.
abbrev pub quoted_length : ℕ → Bool → List ℕ → Option ℕ
quoted_length closing escaped [] = None
quoted_length closing escaped (c ∷ cs) =
    if c == line_feed then None
    else if not escaped && c == closing then Some 0
    else option_map (λ n. n + 1) (quoted_length closing (not escaped && c == backslash) cs)

-- the operators and brackets: the sign that a text is
unfoldable pub sign_named : List ℕ → Option Sign
sign_named text =
    if bytes_eq text (codes "||") then Some sign.Or
    else if bytes_eq text (codes "&&") then Some sign.And
    else if bytes_eq text (codes "!*") then Some sign.RemoveAll
    else if bytes_eq text (codes ":=") then Some sign.Replace
    else if bytes_eq text (codes "+=") then Some sign.Append
    else if bytes_eq text (codes "^=") then Some sign.Prepend
    else if bytes_eq text (codes "-=") then Some sign.RemoveEqual
    else if bytes_eq text (codes "==") then Some sign.Equal
    else if bytes_eq text (codes "!=") then Some sign.Differs
    else if bytes_eq text (codes "<=") then Some sign.AtMost
    else if bytes_eq text (codes ">=") then Some sign.AtLeast
    else if bytes_eq text (codes "{") then Some sign.BlockStart
    else if bytes_eq text (codes "}") then Some sign.BlockEnd
    else if bytes_eq text (codes "(") then Some sign.Open
    else if bytes_eq text (codes ")") then Some sign.Close
    else if bytes_eq text (codes "!") then Some sign.Not
    else if bytes_eq text (codes "&") then Some sign.Reference
    else if bytes_eq text (codes "=") then Some sign.AddNew
    else if bytes_eq text (codes "<") then Some sign.Less
    else if bytes_eq text (codes ">") then Some sign.Greater
    else None

-- a sign of two octets, the first of them this one
abbrev pub double_at : ℕ → List ℕ → Option (Sign × List ℕ)
double_at a [] = None
double_at a (b ∷ cs) = option_map (λ s. (s, cs)) (sign_named (a ∷ b ∷ []))

-- the longest sign that a text begins with, and the text after it
unfoldable pub operator_at : List ℕ → Option (Sign × List ℕ)
operator_at [] = None
operator_at (c ∷ cs) = elim (double_at c cs) [
  | None ↦ option_map (λ s. (s, cs)) (sign_named (c ∷ []))
  | Some found ↦ Some found
]

-- Where no token begins, that is the token, and nothing is left after it.
abbrev pub word_at : List ℕ → ℕ → Token × List ℕ
word_at text zero = (Unreadable, [])
word_at text (suc n) = (Word (take (suc n) text), drop (suc n) text)

abbrev pub quoted_at : QuoteMark → List ℕ → Option ℕ → Token × List ℕ
quoted_at q text None = (Unreadable, [])
quoted_at q text (Some n) = (Quoted q (take n text), drop (n + 1) text)

unfoldable pub quote_of : ℕ → Option QuoteMark
quote_of c =
    if c == double_quote then Some quote.Double
    else if c == single_quote then Some quote.Single
    else None

unfoldable pub text_at : List ℕ → Token × List ℕ
text_at [] = (End, [])
text_at (c ∷ cs) = elim (quote_of c) [
  | None ↦ word_at (c ∷ cs) (word_length (c ∷ cs))
  | Some q ↦ quoted_at q cs (quoted_length c false cs)
]

-- the token that a text begins with, and the text after it
unfoldable pub token_at : List ℕ → Token × List ℕ
token_at text =
    elim (operator_at text) [ None ↦ text_at text | Some found ↦ (Operator found.0, found.1) ]

-- ---- comparisons with a pattern, of a wider policy

-- whether a sign is `!~`, by which a pattern may not match, or `=~`, by which it has to
unfoldable pub match_named : List ℕ → Option Bool
match_named text =
    if bytes_eq text (codes "=~") then Some false
    else if bytes_eq text (codes "!~") then Some true
    else None

-- such a sign that a text begins with, and the text after it
abbrev pub match_sign : List ℕ → Option (Bool × List ℕ)
match_sign [] = None
match_sign (a ∷ []) = None
match_sign (a ∷ b ∷ cs) = option_map (λ negated. (negated, cs)) (match_named (a ∷ b ∷ []))

-- a text without the spaces and tabs at its front
abbrev pub after_blanks : List ℕ → List ℕ
after_blanks [] = []
after_blanks (c ∷ cs) = if c == space || c == tab then after_blanks cs else c ∷ cs

abbrev pub with_flags : Bool → Bool → Option PatternFlags
with_flags ignore_case multi_line =
    Some (record { ignore_case = ignore_case; multi_line = multi_line })

-- the flags that letters after a pattern name, each once
unfoldable pub flags_named : List ℕ → Option PatternFlags
flags_named word =
    if bytes_eq word [] then with_flags false false
    else if bytes_eq word (codes "i") then with_flags true false
    else if bytes_eq word (codes "m") then with_flags false true
    else if bytes_eq word (codes "im") then with_flags true true
    else if bytes_eq word (codes "mi") then with_flags true true
    else None

-- a pattern, and the text after its last slash, which begins with its flags
abbrev pub flagged_at : Bool → List ℕ → List ℕ → Token × List ℕ
flagged_at negated pattern text = elim (flags_named (take (word_length text) text)) [
  | None ↦ (Unreadable, [])
  | Some flags ↦ (
    Matching (record { negated = negated; pattern = pattern; flags = flags }),
    drop (word_length text) text,
  )
]

abbrev pub slashed_at : Bool → List ℕ → Option ℕ → Token × List ℕ
slashed_at negated text None = (Unreadable, [])
slashed_at negated text (Some n) = flagged_at negated (take n text) (drop (n + 1) text)

-- a pattern between slashes, the last of them on the same line and not escaped by a `\`
abbrev pub pattern_at : Bool → List ℕ → Token × List ℕ
pattern_at negated [] = (Unreadable, [])
pattern_at negated (c ∷ cs) =
    if c == slash then slashed_at negated cs (quoted_length slash false cs) else (Unreadable, [])

-- In a wider policy a comparison with a pattern is one token, from its sign to its flags.
unfoldable pub token_in : Profile → List ℕ → Token × List ℕ
token_in Plain text = token_at text
token_in Wider text = elim (match_sign text) [
  | None ↦ token_at text
  | Some found ↦ pattern_at found.0 (after_blanks found.1)
]

-- The next token of a place, and the place after it, which is on the token's line.
unfoldable pub next_token : Place → Token × Place
next_token p =
    let start = skipped p.line false p.text in
    let found = token_in p.profile start.1 in
    (found.0, record { text = found.1; line = start.0; room = p.room; profile = p.profile })
