-- The first place at which a text is no request, in the order of reading, and what it is refused for.
use Rattle.std.specs.Prelude.{◌≡◌, ◌≢◌, ℕ, nat_lt, Bool, true, false, not, if◌then◌else◌, List, [], ◌∷◌, ◌++◌, Option, Some, None, drop, length, slice_get, take}
use Rattle.std.specs.List.{before_first, list_all}
use Rattle.std.specs.Option.{option_and_then, option_map, option_map_or}
use Rattle.avp_lists.specs.States.{max_pairs}
use Rattle.avp_lists.specs.declared.pairs.Pair.{Pair}
use Rattle.avp_dict.specs.Ascii.{comma}
use Rattle.avp_dict.specs.Lines.{is_line_end, texts_of}
use Rattle.avp_dict.specs.RequestLines.{Assignment, Comma, Quoted, Run, Sign, Token, assigned, is_blank_line, is_idle_line, joined, line_assignments, tokens_at, value_text, without_front}
use Rattle.avp_dict.specs.Requests.{each_pair, few_enough, pair_assigned}
use Rattle.avp_dict.specs.Words.{is_blank}
use Rattle.avp_dict.specs.declared.request.faults.LineKind.{LineKind}
use Rattle.avp_dict.specs.declared.request.faults.LineKind.TheVariants as kinds
use Rattle.avp_dict.specs.declared.request.tokens.Side.{Side}
use Rattle.avp_dict.specs.declared.request.tokens.Side.TheVariants.{Name, Value}
use Rattle.avp_dict.specs.declared.value.faults.ValueFault.{ValueFault}
use Rattle.avp_dict.specs.declared.value.faults.ValueFault.TheVariants as faults

-- ---- places

-- after so many octets the text goes on with one that is no blank, or ends
abbrev pub is_before_filled : ℕ → List ℕ → Bool
is_before_filled offset text = option_map_or (λ octet. not (is_blank octet)) (slice_get text offset) true

-- what is left of a text's line after so many octets of the text
abbrev pub line_from : List ℕ → ℕ → List ℕ
line_from text offset = before_first is_line_end (drop offset text)

-- Before a place of a text are so many octets: whole lines, and on the place's own line these tokens; it goes on there on
-- this side of a pair's `=`. A comma that is put there is a token of its own, whatever follows it: the place is in no
-- comment, and between no quotes.
pub record IsPlace (text : List ℕ) (offset : ℕ) (lines : List (List ℕ)) (before : List Token)
    (side : Side) : Type 0 where
  pub line : List ℕ
  pub others : List (List ℕ)
  pub front : List ℕ
  pub whole : texts_of text ≡ lines ++ line ∷ others
  pub cut : texts_of (take offset text ++ comma ∷ []) ≡ lines ++ (front ++ comma ∷ []) ∷ []
  pub tokens : tokens_at Name line ≡ before ++ tokens_at side (line_from text offset)
  pub apart : (more : List ℕ)
      → tokens_at Name (front ++ comma ∷ more) ≡ before ++ Comma ∷ tokens_at Name more

-- ---- what is before a place

-- whole pairs, each with its comma
unfoldable pub pairs_before : List Token → Option (List Assignment)
pairs_before [] = Some []
pairs_before (Run name ∷ Sign ∷ value ∷ Comma ∷ tokens) =
    joined (option_map (assigned name) (value_text value)) (pairs_before tokens)
pairs_before _ = None

-- the lines of a packet that no line of blanks has ended
unfoldable pub lines_before : List (List ℕ) → Option (List Assignment)
lines_before [] = Some []
lines_before (line ∷ lines) =
    if is_blank_line line then None else joined (line_assignments line) (lines_before lines)

-- the pairs of a packet's lines, and of whole pairs on the next line, by those of assignments
abbrev pub read_before : (Assignment → Option Pair) → List (List ℕ) → List Token
    → Option (List Pair)
read_before pair_of lines tokens =
    option_and_then few_enough
    (option_and_then (each_pair pair_of) (joined (lines_before lines) (pairs_before tokens)))

-- ---- what there is at a place

abbrev pub is_run : Token → Bool
is_run (Run octets) = true
is_run _ = false

abbrev pub begins_with_sign : List Token → Bool
begins_with_sign (Sign ∷ tokens) = true
begins_with_sign _ = false

abbrev pub begins_with_comma : List Token → Bool
begins_with_comma (Comma ∷ tokens) = true
begins_with_comma _ = false

-- the text of the value that tokens begin with
abbrev pub first_text : List Token → Option (List ℕ)
first_text [] = None
first_text (token ∷ tokens) = value_text token

-- Whether memory is taken for the token of a value, by the texts for which it is: what is between quotes is written
-- into memory to be read.
abbrev pub takes_for_token : (List ℕ → Bool) → Token → Bool
takes_for_token takes_memory (Run octets) = takes_memory octets
takes_for_token takes_memory (Quoted mark octets) = true
takes_for_token takes_memory _ = false

-- what is refused after the end of a packet, where a line begins with these tokens
pub data IsRefusedAfter : LineKind → List Token → Type 0 where
  second_packet : (name : List ℕ) (tokens : List Token)
      → IsRefusedAfter kinds.SecondPacket (Run name ∷ tokens)
  no_name : (token : Token) (tokens : List Token)
      → is_run token ≡ false
      → IsRefusedAfter kinds.Unreadable (token ∷ tokens)

-- what a name and the token of its value have, by what there is of what names stand for with a text
abbrev pub of_pair : {T X : Type 0} → (List ℕ → Option T) → (T → List ℕ → Option X) → List ℕ
    → Token → Option X
of_pair target_of of name value =
    option_and_then (λ target. option_and_then (of target) (value_text value)) (target_of name)

-- what names stand for, the pairs of texts under that, and what texts without a pair are refused for
module _ {T : Type 0} (target_of : List ℕ → Option T) (pair_of : T → List ℕ → Option Pair)
    (refusal_of : T → List ℕ → Option ValueFault) where
  -- What tokens are refused for, after so many pairs and these tokens of the next one, on this side of its `=`. What is
  -- before them could go on as a request; a name waits for its value before it is not writable, and a pair is read
  -- before it is one too many.
  pub data IsRefusedFor (count : ℕ) : LineKind → List Token → Side → List Token → Type 0 where
    unknown : (name : List ℕ) (tokens : List Token)
        → target_of name ≡ None
        → IsRefusedFor count kinds.Unknown [] Name (Run name ∷ tokens)
    not_writable : (name : List ℕ) (value : Token) (tokens : List Token)
        → of_pair target_of pair_of name value ≡ None
        → of_pair target_of refusal_of name value ≡ Some faults.NotWritable
        → IsRefusedFor count kinds.NotWritable [] Name (Run name ∷ Sign ∷ value ∷ tokens)
    not_value : (name : List ℕ) (value : Token) (tokens : List Token)
        → of_pair target_of pair_of name value ≡ None
        → of_pair target_of refusal_of name value ≡ Some faults.NotValue
        → IsRefusedFor count kinds.NotValue (Run name ∷ Sign ∷ []) Value (value ∷ tokens)
    too_long : (name : List ℕ) (value : Token) (tokens : List Token)
        → of_pair target_of pair_of name value ≡ None
        → of_pair target_of refusal_of name value ≡ Some faults.TooLong
        → IsRefusedFor count kinds.TooLong (Run name ∷ Sign ∷ []) Value (value ∷ tokens)
    too_many : (name : List ℕ) (value : Token) (pair : Pair) (tokens : List Token)
        → of_pair target_of pair_of name value ≡ Some pair → count ≡ max_pairs
        → IsRefusedFor count kinds.TooMany [] Name (Run name ∷ Sign ∷ value ∷ tokens)
    no_name : (token : Token) (tokens : List Token)
        → is_run token ≡ false
        → IsRefusedFor count kinds.Unreadable [] Name (token ∷ tokens)
    no_sign : (name : List ℕ) (target : T) (tokens : List Token)
        → target_of name ≡ Some target → begins_with_sign tokens ≡ false
        → IsRefusedFor count kinds.Unreadable (Run name ∷ []) Name tokens
    no_value : (name : List ℕ) (target : T) (tokens : List Token)
        → target_of name ≡ Some target → first_text tokens ≡ None
        → IsRefusedFor count kinds.Unreadable (Run name ∷ Sign ∷ []) Value tokens
    no_comma : (name : List ℕ) (value : Token) (pair : Pair) (token : Token)
        (tokens : List Token)
        → of_pair target_of pair_of name value ≡ Some pair → nat_lt count max_pairs ≡ true
        → begins_with_comma (token ∷ tokens) ≡ false
        → IsRefusedFor count kinds.Unreadable (Run name ∷ Sign ∷ value ∷ []) Value (token ∷ tokens)

  -- ---- the first refused place

  -- a text is refused for this after so many octets: on a line of its packet, or after the line of blanks that ends it;
  -- of want of memory nothing is said
  pub data IsRefusedAt (text : List ℕ) : LineKind → ℕ → Type 0 where
    in_packet : (kind : LineKind) (offset : ℕ) (side : Side) (lines : List (List ℕ))
        (before inner : List Token) (pairs : List Pair)
        → IsPlace text offset lines (before ++ inner) side
        → read_before (pair_assigned target_of pair_of) (without_front is_idle_line lines) before
        ≡ Some pairs
        → IsRefusedFor (length pairs) kind inner side (tokens_at side (line_from text offset))
        → IsRefusedAt text kind offset
    after_packet : (kind : LineKind) (offset : ℕ) (lines packet idle : List (List ℕ))
        (blank : List ℕ) (pairs : List Pair)
        → IsPlace text offset lines [] Name
        → without_front is_idle_line lines ≡ packet ++ blank ∷ idle
        → read_before (pair_assigned target_of pair_of) packet [] ≡ Some pairs
        → is_blank_line blank ≡ true → list_all is_idle_line idle ≡ true
        → IsRefusedAfter kind (tokens_at Name (line_from text offset))
        → IsRefusedAt text kind offset
    out_of_memory : (offset : ℕ) → IsRefusedAt text kinds.Memory offset

  -- ---- the place where memory runs out, by the texts for which it is taken under what a name stands for

  module _ (takes_memory : T → List ℕ → Bool) where
    -- What memory runs out for, after so many pairs and these tokens of the next one, on this side of its `=`: a value
    -- under a name that is writable, if memory is taken for it, or a pair that was read and is none too many.
    pub data IsOutOfMemoryFor (count : ℕ) : List Token → Side → List Token → Type 0 where
      for_value : (name : List ℕ) (target : T) (value : Token) (tokens : List Token)
          → target_of name ≡ Some target → value_text value ≢ None
          → of_pair target_of refusal_of name value ≢ Some faults.NotWritable
          → takes_for_token (takes_memory target) value ≡ true
          → IsOutOfMemoryFor count (Run name ∷ Sign ∷ []) Value (value ∷ tokens)
      for_pair : (name : List ℕ) (value : Token) (pair : Pair) (tokens : List Token)
          → of_pair target_of pair_of name value ≡ Some pair → nat_lt count max_pairs ≡ true
          → IsOutOfMemoryFor count [] Name (Run name ∷ Sign ∷ value ∷ tokens)

    -- Memory ran out after so many octets of a text, on a line of its packet. So it hides no other refusal than that
    -- the value there is none or is too long, or that its pair is one too many: before it are lines and pairs that are
    -- read.
    pub data IsOutOfMemoryAt (text : List ℕ) : ℕ → Type 0 where
      in_line : (offset : ℕ) (side : Side) (lines : List (List ℕ)) (before inner : List Token)
          (pairs : List Pair)
          → IsPlace text offset lines (before ++ inner) side
          → read_before (pair_assigned target_of pair_of) (without_front is_idle_line lines) before
          ≡ Some pairs
          → IsOutOfMemoryFor (length pairs) inner side (tokens_at side (line_from text offset))
          → IsOutOfMemoryAt text offset
