-- What a line, and then a text, is refused for, at the first refused place.
use Rattle.std.proofs.Common.{◌≡◌, ◌≢◌, ◌∙◌, ℕ, ◌+◌, ◌-◌, ◌<◌, ◌≤◌, nat_lt, Bool, true, false, List, [], ◌∷◌, ◌++◌, Option, Some, None, length, refl, sym, ap, subst, arith, append_assoc, length-append, option_and_then, append-nil}
use Rattle.std.specs.List.{after_first, before_first}
use Rattle.std.proofs.lemmas.Grind.{common_steps}
use Rattle.avp_lists.specs.Meets.{Unless}
use Rattle.avp_lists.specs.States.{max_pairs}
use Rattle.avp_lists.specs.declared.pairs.Pair.{Pair}
use Rattle.avp_dict.specs.Lines.{is_line_end, texts_of}
use Rattle.avp_dict.specs.Outcomes.{is_memory_line, is_memory_value}
use Rattle.avp_dict.specs.RefusedPlaces.{IsOutOfMemoryAt, IsOutOfMemoryFor, IsPlace, IsRefusedAfter, IsRefusedAt, IsRefusedFor, after_packet, for_pair, for_value, in_line, in_packet, line_from, lines_before, no_comma, no_value, not_value, not_writable, out_of_memory, pairs_before, read_before, takes_for_token, too_long, too_many}
use Rattle.avp_dict.specs.RefusedPlaces.IsRefusedAfter.{no_name, second_packet}
use Rattle.avp_dict.specs.RequestLines.{Assignment, Token, Sign, Run, is_blank_line, is_idle_line, joined, tokens_at, value_text, without_front}
use Rattle.avp_dict.specs.Requests.{each_pair, few_enough, pair_assigned}
use Rattle.avp_dict.specs.declared.request.faults.LineKind.{LineKind}
use Rattle.avp_dict.specs.declared.request.faults.LineKind.TheVariants as kinds
use Rattle.avp_dict.specs.declared.request.tokens.Token.{Token as CodeToken}
use Rattle.avp_dict.specs.declared.request.tokens.Token.TheVariants as code
use Rattle.avp_dict.specs.declared.request.tokens.Side.{Side}
use Rattle.avp_dict.specs.declared.request.tokens.Side.TheVariants.{Name, Value}
use Rattle.avp_dict.specs.declared.value.faults.ValueFault.{ValueFault}
use Rattle.avp_dict.specs.declared.value.faults.ValueFault.TheVariants as faults
use Rattle.avp_dict.specs.internal.LineEnds.{IsCountKind, IsLexed, IsNoComma, IsOutLine, IsOutPair, IsPacketRead, IsPairRead, IsPairsRead, IsPastBlanks, IsRefusedEnd, IsRefusedLine, IsRefusedPair, IsRefusedText, IsRefusedToken, IsStoppedLine, IsStoppedPair, refused_from}
use Rattle.avp_dict.specs.internal.LineReading.{after_pairs, line_kind}
use Rattle.avp_dict.specs.internal.RequestTokens.{is_ended, side_after, token_view}
use Rattle.avp_dict.proofs.Gathering.{first_text as first_line}
use Rattle.avp_dict.proofs.LexedLines.{lexed_none, lexed_then, lexed_whole}
use Rattle.avp_dict.proofs.PairSteps.{few_enough-short, spelled_joined}
use Rattle.avp_dict.proofs.ReadPairs.{front_kept}
use Rattle.avp_dict.proofs.RefusedLines.{before_short, lines_one, lines_then, placed, tokens_there}

pub unless_map : (memory : Bool) {P Q : Type 0} → (P → Q) → Unless memory P → Unless memory Q
unless_map true f p = tt
unless_map false f p = f p

unless_all : (memory : Bool) (P : ℕ → Type 0) → ((n : ℕ) → Unless memory (P n)) → Unless memory ((n : ℕ) → P n)
unless_all true P all = tt
unless_all false P all = all

-- want of memory is no refusal after the end of a packet
pub after_no_memory : (kind : LineKind) (tokens : List Token) → IsRefusedAfter kind tokens → kind ≢ kinds.Memory
after_no_memory kind tokens (second_packet name others) = λ h. cc
after_no_memory kind tokens (no_name token others other) = λ h. cc

-- ---- values

pub text_refused : (fault : ValueFault) (refusal : Option ValueFault) → Unless (is_memory_value fault) (refusal ≡ Some fault) → IsRefusedText refusal (line_kind fault)
text_refused faults.NotWritable refusal h = h
text_refused faults.NotValue refusal h = h
text_refused faults.TooLong refusal h = h
text_refused faults.Memory refusal h = tt

pub token_refused : (value : Token) (refusal : Option ValueFault) (kind : LineKind) → IsRefusedText refusal kind → IsRefusedToken value refusal kind
token_refused value refusal kinds.NotWritable h = h
token_refused value refusal kinds.NotValue h = h
token_refused value refusal kinds.TooLong h = h
token_refused value refusal kinds.Memory h = tt
token_refused value refusal kinds.Unknown h = absurd h
token_refused value refusal kinds.SecondPacket h = absurd h
token_refused value refusal kinds.TooMany h = absurd h
token_refused value refusal kinds.Unreadable h = absurd h

-- after the token of a value that was found
pub value_lexed : {X : Type 0} (f : List ℕ → Option X) (value : CodeToken) (found : X) (octets rest : List ℕ) → option_and_then f (value_text (token_view value)) ≡ Some found → (is_ended (token_view value) ≡ true → IsLexed Value octets (token_view value ∷ []) (side_after Value value) rest) → IsLexed Value octets (token_view value ∷ []) Value rest
value_lexed f code.Comma found octets rest h lexed = absurd (cc)
value_lexed f code.Sign found octets rest h lexed = absurd (cc)
value_lexed f (code.Run text) found octets rest h lexed = lexed refl
value_lexed f (code.Quoted mark text) found octets rest h lexed = lexed refl
value_lexed f code.Unended found octets rest h lexed = absurd (cc)

module _ {T : Type 0} (target_of : List ℕ → Option T) (pair_of : T → List ℕ → Option Pair) (refusal_of : T → List ℕ → Option ValueFault) where
  abbrev IsFor : ℕ → LineKind → List Token → Side → List Token → Type 0
  IsFor = IsRefusedFor target_of pair_of refusal_of

  -- what is refused at the front of a line
  pub refused_first : (count : ℕ) (line : List ℕ) (kind : LineKind) (left : ℕ) (tokens : List Token) → left ≡ length line → tokens_at Name line ≡ tokens → IsFor count kind [] Name tokens → IsRefusedPair target_of pair_of refusal_of count line kind left
  refused_first count line kind left tokens is there refused = record {
    inner = [];
    side = Name;
    rest = line;
    lexed = lexed_none Name line;
    left_is = is;
    refused = subst (λ ts. IsFor count kind [] Name ts) (sym there) refused;
  }

  -- what is refused after the first tokens of a line
  pub refused_later : (count : ℕ) (line rest : List ℕ) (kind : LineKind) (left : ℕ) (inner : List Token) (side : Side) (tokens : List Token) → left ≡ length rest → IsLexed Name line inner side rest → tokens_at side rest ≡ tokens → IsFor count kind inner side tokens → IsRefusedPair target_of pair_of refusal_of count line kind left
  refused_later count line rest kind left inner side tokens is lexed there refused = record {
    inner = inner;
    side = side;
    rest = rest;
    lexed = lexed;
    left_is = is;
    refused = subst (λ ts. IsFor count kind inner side ts) (sym there) refused;
  }

  pub value_refused : (count : ℕ) (line text : List ℕ) (kind : LineKind) (left : ℕ) (name : List ℕ) (target : T) (value : Token) (tokens : List Token)
      → Unless (is_memory_line kind) (option_and_then (pair_of target) (value_text value) ≡ None)
      → IsRefusedToken value (option_and_then (refusal_of target) (value_text value)) kind
      → target_of name ≡ Some target
      → tokens_at Value text ≡ value ∷ tokens
      → IsLexed Name line (Run name ∷ Sign ∷ []) Value text
      → left ≡ refused_from kind (length line) (length text)
      → Unless (is_memory_line kind) (IsRefusedPair target_of pair_of refusal_of count line kind left)
  value_refused count line text kinds.NotWritable left name target value tokens none refused known there lexed is =
      let named = lexed_whole Name line (Run name ∷ Sign ∷ []) Value text lexed ∙ ap (λ ts. Run name ∷ Sign ∷ ts) there in
      refused_first count line kinds.NotWritable left (Run name ∷ Sign ∷ value ∷ tokens) is named (not_writable name value tokens (rw known none) (rw known refused))
  value_refused count line text kinds.NotValue left name target value tokens none refused known there lexed is =
      refused_later count line text kinds.NotValue left (Run name ∷ Sign ∷ []) Value (value ∷ tokens) is lexed there (not_value name value tokens (rw known none) (rw known refused))
  value_refused count line text kinds.TooLong left name target value tokens none refused known there lexed is =
      refused_later count line text kinds.TooLong left (Run name ∷ Sign ∷ []) Value (value ∷ tokens) is lexed there (too_long name value tokens (rw known none) (rw known refused))
  value_refused count line text kinds.Unreadable left name target value tokens none refused known there lexed is =
      refused_later count line text kinds.Unreadable left (Run name ∷ Sign ∷ []) Value (value ∷ tokens) is lexed there (no_value name target (value ∷ tokens) known refused)
  value_refused count line text kinds.Memory left name target value tokens none refused known there lexed is = tt
  value_refused count line text kinds.Unknown left name target value tokens none refused known there lexed is = absurd refused
  value_refused count line text kinds.SecondPacket left name target value tokens none refused known there lexed is = absurd refused
  value_refused count line text kinds.TooMany left name target value tokens none refused known there lexed is = absurd refused

  -- the same, whatever the number of pairs before
  pub values_refused : (line text : List ℕ) (kind : LineKind) (left : ℕ) (name : List ℕ) (target : T) (value : Token) (tokens : List Token)
      → Unless (is_memory_line kind) (option_and_then (pair_of target) (value_text value) ≡ None)
      → IsRefusedToken value (option_and_then (refusal_of target) (value_text value)) kind
      → target_of name ≡ Some target
      → tokens_at Value text ≡ value ∷ tokens
      → IsLexed Name line (Run name ∷ Sign ∷ []) Value text
      → left ≡ refused_from kind (length line) (length text)
      → Unless (is_memory_line kind) ((count : ℕ) → IsRefusedPair target_of pair_of refusal_of count line kind left)
  values_refused line text kind left name target value tokens none refused known there lexed is =
      unless_all (is_memory_line kind) (λ count. IsRefusedPair target_of pair_of refusal_of count line kind left)
      (λ count. value_refused count line text kind left name target value tokens none refused known there lexed is)

  -- where memory runs out for a value
  pub value_out : (takes_memory : T → List ℕ → Bool) (line text : List ℕ) (left : ℕ) (name : List ℕ) (target : T) (value : Token) (tokens : List Token)
      → value_text value ≢ None
      → option_and_then (refusal_of target) (value_text value) ≢ Some faults.NotWritable
      → takes_for_token (takes_memory target) value ≡ true
      → target_of name ≡ Some target
      → tokens_at Value text ≡ value ∷ tokens
      → IsLexed Name line (Run name ∷ Sign ∷ []) Value text
      → left ≡ length text
      → (count : ℕ) → IsOutPair target_of pair_of refusal_of takes_memory count line left
  value_out takes_memory line text left name target value tokens some writable taken known there lexed is count = record {
    inner = Run name ∷ Sign ∷ [];
    side = Value;
    rest = text;
    lexed = lexed;
    left_is = is;
    refused = subst (λ ts. IsOutOfMemoryFor target_of pair_of refusal_of takes_memory count (Run name ∷ Sign ∷ []) Value ts) (sym there)
        (for_value name target value tokens known some (rw known writable) taken);
  }

  -- where it does for a pair
  pub pair_out : (takes_memory : T → List ℕ → Bool) (pairs : List Pair) (line rest : List ℕ) (pair : Pair) (left : ℕ) → length pairs < max_pairs → IsPairRead target_of pair_of line pair rest → left ≡ length line → IsOutPair target_of pair_of refusal_of takes_memory (length pairs) line left
  pair_out takes_memory pairs line rest pair left few first is =
      let room : nat_lt (length pairs) max_pairs ≡ true = grind (arith, common_steps) in
      let there = lexed_whole Name line (Run first.name ∷ Sign ∷ first.value ∷ []) Value rest first.lexed in
      record {
        inner = [];
        side = Name;
        rest = line;
        lexed = lexed_none Name line;
        left_is = is;
        refused = subst (λ ts. IsOutOfMemoryFor target_of pair_of refusal_of takes_memory (length pairs) [] Name ts) (sym there)
            (for_pair first.name first.value pair (tokens_at Value rest) first.read room);
      }

  -- ---- lines

  pub pair_stopped_in : (what : ℕ → List Token → Side → List Token → Type 0) (earlier pairs : List Pair) (line rest : List ℕ) (left : ℕ) → IsPairsRead target_of pair_of earlier line pairs rest → length pairs ≤ max_pairs → IsStoppedPair target_of pair_of what (length pairs) rest left → IsStoppedLine target_of pair_of what earlier line left
  pair_stopped_in what earlier pairs line rest left read few here = record {
    pairs = pairs;
    before = read.before;
    inner = here.inner;
    side = here.side;
    rest = here.rest;
    lexed = lexed_then Name Name here.side line rest here.rest read.before here.inner read.lexed here.lexed;
    left_is = here.left_is;
    read = read.read;
    few = few;
    refused = here.refused;
  }

  pub pair_refused_in : (earlier pairs : List Pair) (line rest : List ℕ) (kind : LineKind) (left : ℕ) → IsPairsRead target_of pair_of earlier line pairs rest → length pairs ≤ max_pairs → IsRefusedPair target_of pair_of refusal_of (length pairs) rest kind left → IsRefusedLine target_of pair_of refusal_of earlier line kind left
  pair_refused_in earlier pairs line rest kind left read few here = pair_stopped_in (λ n. IsFor n kind) earlier pairs line rest left read few here

  pub count_refused : (kind : LineKind) (pairs : List Pair) (line rest : List ℕ) (pair : Pair) (left : ℕ) → IsCountKind kind → (kind ≢ kinds.Memory → length pairs ≡ max_pairs) → IsPairRead target_of pair_of line pair rest → left ≡ length line → Unless (is_memory_line kind) (IsRefusedPair target_of pair_of refusal_of (length pairs) line kind left)
  count_refused kinds.TooMany pairs line rest pair left of_count full first is =
      refused_first (length pairs) line kinds.TooMany left (Run first.name ∷ Sign ∷ first.value ∷ tokens_at Value rest) is
      (lexed_whole Name line (Run first.name ∷ Sign ∷ first.value ∷ []) Value rest first.lexed)
      (too_many first.name first.value pair (tokens_at Value rest) first.read (full (λ same. cc)))
  count_refused kinds.Memory pairs line rest pair left of_count full first is = tt
  count_refused kinds.Unknown pairs line rest pair left of_count full first is = absurd of_count
  count_refused kinds.NotWritable pairs line rest pair left of_count full first is = absurd of_count
  count_refused kinds.NotValue pairs line rest pair left of_count full first is = absurd of_count
  count_refused kinds.TooLong pairs line rest pair left of_count full first is = absurd of_count
  count_refused kinds.SecondPacket pairs line rest pair left of_count full first is = absurd of_count
  count_refused kinds.Unreadable pairs line rest pair left of_count full first is = absurd of_count

  pub comma_refused : (pairs new : List Pair) (line rest : List ℕ) (pair : Pair) (left : ℕ) → IsPairRead target_of pair_of line pair rest → new ≡ pairs ++ pair ∷ [] → length new ≤ max_pairs → IsNoComma (tokens_at Value rest) → left ≡ length rest → IsRefusedPair target_of pair_of refusal_of (length pairs) line kinds.Unreadable left
  comma_refused pairs new line rest pair left first is few (token, others, there, none) left_is =
      let more : length pairs < max_pairs = omega (arith, few, ap length is, length-append pairs (pair ∷ [])) in
      let room : nat_lt (length pairs) max_pairs ≡ true = grind (arith, common_steps) in
      refused_later (length pairs) line rest kinds.Unreadable left (Run first.name ∷ Sign ∷ first.value ∷ []) Value (token ∷ others) left_is first.lexed there
      (no_comma first.name first.value pair token others first.read room none)

  -- ---- texts

  abbrev one : Assignment → Option Pair
  one = pair_assigned target_of pair_of

  abbrev IsAt : List ℕ → LineKind → ℕ → Type 0
  IsAt = IsRefusedAt target_of pair_of refusal_of

  -- the pairs before a place of a packet's line
  before_read : (packet : List (List ℕ)) (earlier pairs : List Pair) (before : List Token) → option_and_then (each_pair one) (lines_before packet) ≡ Some earlier → after_pairs earlier (option_and_then (each_pair one) (pairs_before before)) ≡ Some pairs → length pairs ≤ max_pairs → read_before one packet before ≡ Some pairs
  unfolding after_pairs
  before_read packet earlier pairs before lines here few =
      ap (option_and_then few_enough)
      (spelled_joined one (lines_before packet) (pairs_before before)
      ∙ ap (λ x. joined x (option_and_then (each_pair one) (pairs_before before))) lines ∙ here)
      ∙ few_enough-short pairs few

  -- the first line that is left of a text
  opened : (text rest : List ℕ) (pairs : List Pair) (read : IsPacketRead target_of pair_of text pairs rest) → 0 < length rest → without_front is_idle_line read.lines ≡ read.packet
  opened text rest pairs read some =
      let first = first_line rest some in
      let whole = ap texts_of read.read.split ∙ read.read.read some rest in
      front_kept is_idle_line read.lines read.packet (before_first is_line_end rest) (texts_of (after_first is_line_end rest))
      (ap (without_front is_idle_line) (sym (whole ∙ ap (λ ls. read.lines ++ ls) first)) ∙ read.whole ∙ ap (λ ls. read.packet ++ ls) first)

  -- a place on a line, what is before it and what there is
  line_stopped : (what : ℕ → List Token → Side → List Token → Type 0) (text rest line : List ℕ) (pairs : List Pair) (left place : ℕ) (here : IsStoppedLine target_of pair_of what pairs line left) (read : IsPacketRead target_of pair_of text pairs rest) → 0 < length rest → line ≡ before_first is_line_end rest → IsPastBlanks text (length text - (left + (length rest - length line))) place
      → IsPlace text place read.lines (here.before ++ here.inner) here.side
      × (read_before one (without_front is_idle_line read.lines) here.before ≡ Some here.pairs)
      × what (length here.pairs) here.inner here.side (tokens_at here.side (line_from text place))
  line_stopped what text rest line pairs left place here read some is past =
      let from : left + (length rest - length line) ≡ length here.rest + (length rest - length line) = ap (λ n. n + (length rest - length line)) here.left_is in (
        placed text read.read.front rest line read.lines (here.before ++ here.inner) here.side (left + (length rest - length line)) place read.read.split (read.read.read some) some is here.rest here.lexed from past,
        ap (λ ls. read_before one ls here.before) (opened text rest pairs read some) ∙ before_read read.packet pairs here.pairs here.before read.pairs_are here.read here.few,
        subst (λ ts. what (length here.pairs) here.inner here.side ts)
            (tokens_there text read.read.front rest line read.lines (here.before ++ here.inner) here.side (left + (length rest - length line)) place read.read.split (read.read.read some) some is here.rest here.lexed from past) here.refused,
      )

  line_refused : (kind : LineKind) (text rest line : List ℕ) (pairs : List Pair) (left place : ℕ) → IsRefusedLine target_of pair_of refusal_of pairs line kind left → IsPacketRead target_of pair_of text pairs rest → 0 < length rest → line ≡ before_first is_line_end rest → IsPastBlanks text (length text - (left + (length rest - length line))) place → IsAt text kind place
  line_refused kind text rest line pairs left place here read some is past =
      let parts = line_stopped (λ n. IsFor n kind) text rest line pairs left place here read some is past in
      in_packet kind place here.side read.lines here.before here.inner here.pairs parts.0 parts.1 parts.2

  pub line_out_at : (takes_memory : T → List ℕ → Bool) (text rest line : List ℕ) (pairs : List Pair) (left place : ℕ) → IsOutLine target_of pair_of refusal_of takes_memory pairs line left → IsPacketRead target_of pair_of text pairs rest → 0 < length rest → line ≡ before_first is_line_end rest → IsPastBlanks text (length text - (left + (length rest - length line))) place → IsOutOfMemoryAt target_of pair_of refusal_of takes_memory text place
  line_out_at takes_memory text rest line pairs left place here read some is past =
      let parts = line_stopped (IsOutOfMemoryFor target_of pair_of refusal_of takes_memory) text rest line pairs left place here read some is past in
      in_line place here.side read.lines here.before here.inner here.pairs parts.0 parts.1 parts.2

  pub line_refused_at : (kind : LineKind) (text rest line : List ℕ) (pairs : List Pair) (left place : ℕ) → Unless (is_memory_line kind) (IsRefusedLine target_of pair_of refusal_of pairs line kind left) → IsPacketRead target_of pair_of text pairs rest → 0 < length rest → line ≡ before_first is_line_end rest → IsPastBlanks text (length text - (left + (length rest - length line))) place → IsAt text kind place
  line_refused_at kinds.Memory text rest line pairs left place here read some is past = out_of_memory place
  line_refused_at kind text rest line pairs left place here read some is past = line_refused kind text rest line pairs left place here read some is past

  -- a text is refused after the line of blanks that ends its packet
  pub end_refused_at : (kind : LineKind) (text rest blank after : List ℕ) (pairs : List Pair) (left place : ℕ) → IsRefusedEnd after kind left → IsPacketRead target_of pair_of text pairs rest → length pairs ≤ max_pairs → 0 < length rest → blank ≡ before_first is_line_end rest → after ≡ after_first is_line_end rest → is_blank_line blank ≡ true → IsPastBlanks text (length text - left) place → IsAt text kind place
  unfolding pairs_before each_pair after_pairs
  end_refused_at kind text rest blank after pairs left place here read few some is_line is_after ends past =
      let idle : List (List ℕ) = here.idle.0 in
      let lines : List (List ℕ) = read.lines ++ blank ∷ idle in
      let line : List ℕ = before_first is_line_end here.rest in
      let others : List (List ℕ) = texts_of (after_first is_line_end here.rest) in
      let parted = lines_then text read.lines rest (blank ∷ idle) here.rest read.read
      (lines_then rest (blank ∷ []) after idle here.rest (rw (is_line, is_after) (lines_one rest)) here.idle.1) in
      let first = first_line here.rest here.some in
      let whole = ap texts_of parted.split ∙ parted.read here.some here.rest ∙ ap (λ ls. lines ++ ls) first in
      let after_is = ap texts_of here.idle.1.split ∙ here.idle.1.read here.some here.rest ∙ ap (λ ls. idle ++ ls) first in
      let rest_is = first_line rest some ∙ ap (λ l. l ∷ texts_of (after_first is_line_end rest)) (sym is_line) ∙ ap (λ os. blank ∷ texts_of os) (sym is_after) ∙ ap (λ ls. blank ∷ ls) after_is in
      let packet = front_kept is_idle_line lines (read.packet ++ blank ∷ idle) line others
      (ap (without_front is_idle_line) (sym whole) ∙ read.whole ∙ ap (λ ls. read.packet ++ ls) rest_is
      ∙ sym (append_assoc read.packet (blank ∷ idle) (line ∷ others))) in
      let from : left ≡ length line + (length here.rest - length line) = omega (arith, here.left_is, before_short here.rest) in
      after_packet kind place lines read.packet idle blank pairs
      (placed text parted.front here.rest line lines [] Name left place parted.split (parted.read here.some) here.some refl line (lexed_none Name line) from past)
      packet
      (before_read read.packet pairs pairs [] read.pairs_are (ap Some (append-nil pairs)) few)
      ends here.idle.2
      (subst (λ ts. IsRefusedAfter kind ts)
      (tokens_there text parted.front here.rest line lines [] Name left place parted.split (parted.read here.some) here.some refl line (lexed_none Name line) from past) here.refused)
