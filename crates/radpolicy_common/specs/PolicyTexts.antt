-- What is shown of a policy's text, and of a text that may be none: literals beside names of secret attributes are
-- hidden.
use Rattle.std.specs.Prelude.{ℕ, ◌+◌, Bool, true, false, not, ◌&&◌, ◌||◌, ◌==◌, nat_eq, if◌then◌else◌, List, [], ◌∷◌, ◌++◌, codes, drop, take}
use Rattle.std.specs.List.{filter, flat_map, list_any}
use Rattle.avp_dict.specs.Ascii.{line_feed}
use Rattle.avp_dict.specs.Quotes.{octets_between}
use Rattle.avp_dict.specs.declared.value.quotes.QuoteMark.TheVariants as quote
use Rattle.avp_forms.specs.Profiles.{profile_of}
use Rattle.avp_unlang.specs.declared.text.tokens.Token.{Token}
use Rattle.avp_unlang.specs.declared.text.tokens.Token.TheVariants.{Matching, Quoted, Unreadable, Word}
use Rattle.radpolicy_common.specs.DigitRuns.{spelled_octets}
use Rattle.radpolicy_common.specs.Pieces.{Piece, gap, is_border, is_literal, is_reference, is_relating, is_word, pieces_of}
use Rattle.radpolicy_common.specs.SecretAttributes.{is_secret_text}
use Rattle.radpolicy_common.specs.SecretWords.{mentions_secret, puts_in_secret}
use Rattle.radpolicy_common.specs.Secrets.{Redaction}
use Rattle.radpolicy_common.specs.declared.elements.Reading.{Reading}
use Rattle.radpolicy_common.specs.declared.elements.Reading.TheVariants as reading
use Rattle.radpolicy_common.specs.declared.redactions.SecretValues.TheVariants as values

-- ---- elements: runs of pieces in which each comparison and each update line lies whole

-- something has to follow: a sign that updates or compares, and `&`
abbrev pub is_open : Piece → Bool
is_open p = is_relating p.token || is_reference p.token

abbrev pub relates_next : List Piece → Bool
relates_next [] = false
relates_next (p ∷ ps) = is_relating p.token

abbrev pub named_next : List Piece → Bool
named_next [] = false
named_next (p ∷ ps) = is_word p.token && relates_next ps

-- an update line comes next: a name, with `&` or without, and an operator
abbrev pub line_next : List Piece → Bool
line_next [] = false
line_next (p ∷ ps) = named_next (p ∷ ps) || (is_reference p.token && named_next ps)

abbrev pub border_next : List Piece → Bool
border_next [] = false
border_next (p ∷ ps) = is_border p.token

-- in a policy an element ends at each bracket, `&&`, `||` and `!`, and before each update line
abbrev pub ends_read : Piece → List Piece → Bool
ends_read p ps =
    is_border p.token || border_next ps || (line_next ps && not (is_open p))

abbrev pub goes_on : List Piece → Bool
goes_on [] = false
goes_on (p ∷ ps) = is_relating p.token || is_literal p.token

-- in another text with each line, but where a comparison or an update goes on
abbrev pub ends_unread : Piece → List Piece → Bool
ends_unread p ps = list_any (nat_eq line_feed) p.after && not (is_open p || goes_on ps)

abbrev pub ends_by : Reading → Piece → List Piece → Bool
ends_by reading.Policy p ps = ends_read p ps
ends_by reading.Unread p ps = ends_unread p ps

abbrev pub is_last : List Piece → Bool
is_last [] = true
is_last (p ∷ ps) = false

-- an element ends after this piece, before those
abbrev pub ends_element : Reading → Piece → List Piece → Bool
ends_element r p ps = is_last ps || ends_by r p ps

abbrev pub begun_by : Piece → List (List Piece) → List (List Piece)
begun_by p [] = (p ∷ []) ∷ []
begun_by p (e ∷ es) = (p ∷ e) ∷ es

-- the elements of pieces
abbrev pub elements : Reading → List Piece → List (List Piece)
elements r [] = []
elements r (p ∷ ps) =
    if ends_element r p ps then (p ∷ []) ∷ elements r ps else begun_by p (elements r ps)

-- ---- which of them are secret

-- a text has a secret key, or the octets for which hexadecimal digits in it stand have one
abbrev pub has_secret_key : List ℕ → Bool
has_secret_key text = is_secret_text text || is_secret_text (spelled_octets text)

-- a text has one as it is, or with its escapes read
abbrev pub quotes_secret_text : List ℕ → Bool
quotes_secret_text text = has_secret_key text || has_secret_key (octets_between quote.Double text)

-- what a token refers to is secret, or it is a text, a pattern or a word with a secret key, or what can't be read and has
-- one
abbrev pub refers_to_secret : Redaction → Piece → Token → Bool
refers_to_secret redaction p (Word word) =
    mentions_secret redaction word || has_secret_key word
refers_to_secret redaction p (Quoted quote.Double text) =
    quotes_secret_text text || puts_in_secret redaction redaction.captured text
refers_to_secret redaction p (Quoted quote.Single text) = quotes_secret_text text
refers_to_secret redaction p (Matching matcher) = quotes_secret_text matcher.pattern
refers_to_secret redaction p Unreadable =
    mentions_secret redaction p.octets || quotes_secret_text p.octets
refers_to_secret redaction p _ = false

-- in a text that may be no policy each name between quotes counts, and each group that is put in
abbrev pub may_refer_to_secret : Redaction → Piece → Token → Bool
may_refer_to_secret redaction p (Quoted quote.Double text) =
    quotes_secret_text text || mentions_secret redaction text || puts_in_secret redaction true text
may_refer_to_secret redaction p (Quoted quote.Single text) =
    quotes_secret_text text || mentions_secret redaction text
may_refer_to_secret redaction p token = refers_to_secret redaction p token

abbrev pub is_secret_piece : Reading → Redaction → Piece → Bool
is_secret_piece reading.Policy redaction p = refers_to_secret redaction p p.token
is_secret_piece reading.Unread redaction p = may_refer_to_secret redaction p p.token

-- ---- what is shown

abbrev pub line_feeds : List ℕ → List ℕ
line_feeds octets = filter (nat_eq line_feed) octets

-- what is shown in place of octets; line feeds stay
abbrev pub hidden_octets : List ℕ → List ℕ
hidden_octets octets = codes "(hidden)" ++ line_feeds octets

abbrev pub piece_text : Piece → List ℕ
piece_text p = p.octets ++ p.after

-- the octets of a token in a secret element, after an operator or not: of a pattern the sign stays, and of the rest
-- each literal is hidden, as is each word after an operator that is no reference
abbrev pub octets_shown : Bool → Piece → Token → List ℕ
octets_shown related p (Word word) = if related then hidden_octets p.octets else p.octets
octets_shown related p (Matching matcher) =
    take 2 p.octets ++ codes " " ++ hidden_octets (drop 2 p.octets)
octets_shown related p token = if is_literal token then hidden_octets p.octets else p.octets

-- whether a word that comes next would be a value
abbrev pub is_related : Bool → Piece → Bool
is_related related p = is_relating p.token || (related && not (is_reference p.token))

abbrev pub literals_hidden : Bool → List Piece → List ℕ
literals_hidden related [] = []
literals_hidden related (p ∷ ps) =
    octets_shown related p p.token ++ p.after ++ literals_hidden (is_related related p) ps

-- blanks and comments from the end of the line on
abbrev pub from_line_feed : List ℕ → List ℕ
from_line_feed [] = []
from_line_feed (c ∷ cs) = if c == line_feed then c ∷ cs else from_line_feed cs

-- of a piece that is hidden with all that stands in its lines
abbrev pub piece_hidden : Piece → List ℕ
piece_hidden p = line_feeds p.octets ++ from_line_feed p.after

-- a text that is no policy is hidden from a literal on, or a word that follows a secret name or has a secret key
abbrev pub begins_secret_value : Bool → Piece → Bool
begins_secret_value named p =
    if is_word p.token then named || has_secret_key p.octets else is_literal p.token

-- a secret element of such a text, after a secret name or not: all is hidden behind an operator, and from a value on
abbrev pub rest_hidden : Redaction → Bool → List Piece → List ℕ
rest_hidden redaction named [] = []
rest_hidden redaction named (p ∷ ps) =
    if is_relating p.token then
    p.octets ++ codes " (hidden)" ++ from_line_feed p.after ++ flat_map piece_hidden ps
    else if begins_secret_value named p then
    hidden_octets p.octets ++ from_line_feed p.after ++ flat_map piece_hidden ps
    else piece_text p ++ rest_hidden redaction (is_secret_piece reading.Unread redaction p) ps

abbrev pub secret_shown : Reading → Redaction → List Piece → List ℕ
secret_shown reading.Policy redaction ps = literals_hidden false ps
secret_shown reading.Unread redaction ps = rest_hidden redaction false ps

abbrev pub element_shown : Reading → Redaction → List Piece → List ℕ
element_shown r redaction ps =
    if list_any (is_secret_piece r redaction) ps then secret_shown r redaction ps
    else flat_map piece_text ps

-- a text from its first token on
abbrev pub pieces_shown : Reading → Redaction → List Piece → List ℕ
pieces_shown r redaction ps = flat_map (element_shown r redaction) (elements r ps)

-- a text that is read so; as it is, where secret values are shown
abbrev pub shown_by : Reading → Redaction → List ℕ → List ℕ
shown_by r redaction text = elim redaction.secrets [
  | values.Shown ↦ text
  | values.Hidden ↦
      gap text ++ pieces_shown r redaction (pieces_of (profile_of text) text)
]

-- a policy's text
unfoldable pub policy_shown : Redaction → List ℕ → List ℕ
policy_shown redaction text = shown_by reading.Policy redaction text

-- a text that may be none
unfoldable pub unread_shown : Redaction → List ℕ → List ℕ
unread_shown redaction text = shown_by reading.Unread redaction text

-- Some piece of a text refers to a secret attribute, or is a text or a pattern with a secret key. So what a pattern
-- captures may be secret there, whether the text is a policy or not.
unfoldable pub has_secret_references : Redaction → List ℕ → Bool
has_secret_references redaction text =
    list_any (is_secret_piece reading.Policy redaction) (pieces_of (profile_of text) text)
