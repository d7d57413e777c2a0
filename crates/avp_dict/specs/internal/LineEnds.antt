-- What readers have read of lines, and what is left of them.
use Rattle.std.specs.Prelude.{◌≡◌, ◌⊎◌, ⊤, ℕ, Bool, ◌+◌, ◌<◌, ◌≤◌, true, false, List, [], ◌∷◌, ◌++◌, Option, Some, None, drop, length}
use Rattle.std.specs.List.{before_first, list_all}
use Rattle.std.specs.Option.{option_and_then}
use Rattle.avp_lists.specs.States.{max_pairs}
use Rattle.avp_lists.specs.declared.pairs.Pair.{Pair}
use Rattle.avp_dict.specs.Ascii.{comma}
use Rattle.avp_dict.specs.Lines.{is_line_end, texts_of}
use Rattle.avp_dict.specs.RefusedPlaces.{IsOutOfMemoryFor, IsRefusedAfter, IsRefusedFor, begins_with_comma, lines_before, of_pair, pairs_before}
use Rattle.avp_dict.specs.RequestLines.{Run, Sign, Token, is_idle_line, tokens_at, value_text, without_front}
use Rattle.avp_dict.specs.Requests.{each_pair, pair_assigned}
use Rattle.avp_dict.specs.Words.{is_blank}
use Rattle.avp_dict.specs.declared.request.faults.LineKind.{LineKind}
use Rattle.avp_dict.specs.declared.request.faults.LineKind.TheVariants as kinds
use Rattle.avp_dict.specs.declared.request.tokens.Side.{Side}
use Rattle.avp_dict.specs.declared.request.tokens.Side.TheVariants.{Name, Value}
use Rattle.avp_dict.specs.declared.value.faults.ValueFault.{ValueFault}
use Rattle.avp_dict.specs.declared.value.faults.ValueFault.TheVariants as faults
use Rattle.avp_dict.specs.internal.LineReading.{after_pairs}

-- octets end so, and what is before is blanks
abbrev pub IsBlanksBefore : List ℕ → List ℕ → Type 0
IsBlanksBefore rest octets =
    (blanks : List ℕ) × (octets ≡ blanks ++ rest) × (list_all is_blank blanks ≡ true)

-- nothing but blanks is between two places of a text
abbrev pub IsPastBlanks : List ℕ → ℕ → ℕ → Type 0
IsPastBlanks text from to =
    (blanks : List ℕ) × (drop from text ≡ blanks ++ drop to text) × (list_all is_blank blanks ≡ true)
    × (to ≡ from + length blanks)

-- ---- tokens

abbrev pub first_of : List ℕ → Option ℕ
first_of [] = None
first_of (o ∷ os) = Some o

-- octets begin as what is left does, or with a comma
abbrev pub IsLike : List ℕ → List ℕ → Type 0
IsLike rest more = (first_of more ≡ first_of rest) ⊎ (first_of more ≡ Some comma)

-- which tokens octets have before what is left of them, from one side to another, also where they go on otherwise
pub record IsLexed (from : Side) (octets : List ℕ) (tokens : List Token) (to : Side) (rest : List ℕ) : Type 0 where
  pub front : List ℕ
  pub split : octets ≡ front ++ rest
  pub lexed : (more : List ℕ) → IsLike rest more
      → tokens_at from (front ++ more) ≡ tokens ++ tokens_at to more

-- ---- lines

-- which lines a text has before what is left of it, if that is anything
pub record IsLinesRead (text : List ℕ) (lines : List (List ℕ)) (rest : List ℕ) : Type 0 where
  pub front : List ℕ
  pub split : text ≡ front ++ rest
  pub read : 0 < length rest → (more : List ℕ) → texts_of (front ++ more) ≡ lines ++ texts_of more

-- the same of lines that are none of a packet
abbrev pub IsIdleRead : List ℕ → List ℕ → Type 0
IsIdleRead text rest =
    (lines : List (List ℕ)) × IsLinesRead text lines rest × (list_all is_idle_line lines ≡ true)

-- ---- refusals, by how many octets are left at them

-- how many octets are left where a pair is refused, of those from its name and from its value on
abbrev pub refused_from : LineKind → ℕ → ℕ → ℕ
refused_from kinds.NotWritable name value = name
refused_from _ name value = value

-- what one pair more is refused for
abbrev pub IsCountKind : LineKind → Type 0
IsCountKind kinds.TooMany = ⊤
IsCountKind kinds.Memory = ⊤
IsCountKind _ = ⊥

-- after the end of a packet
pub record IsRefusedEnd (text : List ℕ) (kind : LineKind) (left : ℕ) : Type 0 where
  pub rest : List ℕ
  pub idle : IsIdleRead text rest
  pub some : 0 < length rest
  pub left_is : left ≡ length rest
  pub refused : IsRefusedAfter kind (tokens_at Name (before_first is_line_end rest))

-- the text of a known name's value
abbrev pub IsRefusedText : Option ValueFault → LineKind → Type 0
IsRefusedText refusal kinds.NotWritable = refusal ≡ Some faults.NotWritable
IsRefusedText refusal kinds.NotValue = refusal ≡ Some faults.NotValue
IsRefusedText refusal kinds.TooLong = refusal ≡ Some faults.TooLong
IsRefusedText refusal kinds.Memory = ⊤
IsRefusedText refusal _ = ⊥

-- the token of a known name's value
abbrev pub IsRefusedToken : Token → Option ValueFault → LineKind → Type 0
IsRefusedToken value refusal kinds.Unreadable = value_text value ≡ None
IsRefusedToken value refusal kind = IsRefusedText refusal kind

-- a token that is no comma comes first
abbrev pub IsNoComma : List Token → Type 0
IsNoComma tokens =
    (token : Token) × (others : List Token) × (tokens ≡ token ∷ others)
    × (begins_with_comma (token ∷ others) ≡ false)

module _ {T : Type 0} (target_of : List ℕ → Option T) (pair_of : T → List ℕ → Option Pair) where
  -- a line begins with a pair
  pub record IsPairRead (line : List ℕ) (pair : Pair) (rest : List ℕ) : Type 0 where
    pub name : List ℕ
    pub value : Token
    pub lexed : IsLexed Name line (Run name ∷ Sign ∷ value ∷ []) Value rest
    pub read : of_pair target_of pair_of name value ≡ Some pair

  -- pairs that were read, and those of whole pairs with their commas
  abbrev pub pairs_with : List Pair → List Token → Option (List Pair)
  pairs_with pairs before =
      after_pairs pairs
      (option_and_then (each_pair (pair_assigned target_of pair_of)) (pairs_before before))

  -- a line has whole pairs with their commas before what is left of it, and with them there are these
  pub record IsPairsRead (earlier : List Pair) (line : List ℕ) (pairs : List Pair) (rest : List ℕ) : Type 0 where
    pub before : List Token
    pub lexed : IsLexed Name line before Name rest
    pub read : pairs_with earlier before ≡ Some pairs

  -- the lines of a packet, and what is left of the text after them
  pub record IsPacketRead (text : List ℕ) (pairs : List Pair) (rest : List ℕ) : Type 0 where
    pub lines : List (List ℕ)
    pub packet : List (List ℕ)
    pub read : IsLinesRead text lines rest
    pub whole : without_front is_idle_line (texts_of text) ≡ packet ++ texts_of rest
    pub pairs_are : option_and_then (each_pair (pair_assigned target_of pair_of)) (lines_before packet)
        ≡ Some pairs

  -- by what there is at a place, after so many pairs
  module _ (what : ℕ → List Token → Side → List Token → Type 0) where
    -- the first pair of a line
    pub record IsStoppedPair (count : ℕ) (line : List ℕ) (left : ℕ) : Type 0 where
      pub inner : List Token
      pub side : Side
      pub rest : List ℕ
      pub lexed : IsLexed Name line inner side rest
      pub left_is : left ≡ length rest
      pub refused : what count inner side (tokens_at side rest)

    -- a line after these pairs
    pub record IsStoppedLine (earlier : List Pair) (line : List ℕ) (left : ℕ) : Type 0 where
      pub pairs : List Pair
      pub before : List Token
      pub inner : List Token
      pub side : Side
      pub rest : List ℕ
      pub lexed : IsLexed Name line (before ++ inner) side rest
      pub left_is : left ≡ length rest
      pub read : pairs_with earlier before ≡ Some pairs
      pub few : length pairs ≤ max_pairs
      pub refused : what (length pairs) inner side (tokens_at side rest)

  module _ (refusal_of : T → List ℕ → Option ValueFault) where
    abbrev pub IsRefusedPair : ℕ → List ℕ → LineKind → ℕ → Type 0
    IsRefusedPair count line kind left =
        IsStoppedPair (λ n. IsRefusedFor target_of pair_of refusal_of n kind) count line left

    abbrev pub IsRefusedLine : List Pair → List ℕ → LineKind → ℕ → Type 0
    IsRefusedLine earlier line kind left =
        IsStoppedLine (λ n. IsRefusedFor target_of pair_of refusal_of n kind) earlier line left

    module _ (takes_memory : T → List ℕ → Bool) where
      abbrev pub IsOutPair : ℕ → List ℕ → ℕ → Type 0
      IsOutPair count line left =
          IsStoppedPair (IsOutOfMemoryFor target_of pair_of refusal_of takes_memory) count line left

      abbrev pub IsOutLine : List Pair → List ℕ → ℕ → Type 0
      IsOutLine earlier line left =
          IsStoppedLine (IsOutOfMemoryFor target_of pair_of refusal_of takes_memory) earlier line
          left
