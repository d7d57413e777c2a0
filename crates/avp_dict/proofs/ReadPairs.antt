-- Pairs and lines that were read, before a place.
use Rattle.std.proofs.Common.{◌≡◌, ◌∙◌, ℕ, ◌≤◌, Bool, true, false, cond, List, [], ◌∷◌, ◌++◌, Option, Some, None, length, refl, sym, ap, arith, append_assoc, length-append, option_and_then, option_map}
use Rattle.std.proofs.lemmas.List.{append_cancel_right}
use Rattle.avp_lists.specs.declared.pairs.Pair.{Pair}
use Rattle.avp_dict.specs.Lines.{texts_of}
use Rattle.avp_dict.specs.RefusedPlaces.{lines_before, of_pair, pairs_before}
use Rattle.avp_dict.specs.RequestLines.{Assignment, Token, Comma, Sign, Run, assigned, is_blank_line, is_idle_line, joined, line_assignments, tokens_at, value_text, without_front}
use Rattle.avp_dict.specs.Requests.{each_pair, pair_assigned}
use Rattle.avp_dict.specs.declared.request.tokens.Side.TheVariants.{Name, Value}
use Rattle.avp_dict.specs.internal.LineEnds.{IsLexed, IsLinesRead, IsPacketRead, IsPairRead, IsPairsRead, pairs_with}
use Rattle.avp_dict.specs.internal.LineReading.{after_pairs, pairs_at}
use Rattle.avp_dict.proofs.LexedLines.{lexed_then}
use Rattle.avp_dict.proofs.PairSteps.{joined_assoc, joined_nil, joined_none, one_spelled, spelled_joined}
use Rattle.avp_dict.proofs.RefusedLines.{lines_then}

joined_last : {X : Type 0} (x : Option (List X)) → joined x (Some []) ≡ x
joined_last None = refl
joined_last (Some xs) = ap Some (nil_last xs)
  where
    nil_last : {X : Type 0} (xs : List X) → xs ++ [] ≡ xs
    nil_last [] = refl
    nil_last (x ∷ xs) = ap (λ ys. x ∷ ys) (nil_last xs)

-- ---- pairs with their commas

pairs_before_joined : (tokens others : List Token) (found : List Assignment) → pairs_before tokens ≡ Some found → pairs_before (tokens ++ others) ≡ joined (pairs_before tokens) (pairs_before others)
unfolding pairs_before
pairs_before_joined [] others found h = sym (joined_nil (pairs_before others))
pairs_before_joined (Run name ∷ Sign ∷ value ∷ Comma ∷ tokens) others found h = go (pairs_before tokens) refl h (pairs_before_joined tokens others)
  where
    go : (rest : Option (List Assignment)) → pairs_before tokens ≡ rest → joined (option_map (assigned name) (value_text value)) (pairs_before tokens) ≡ Some found
        → ((found : List Assignment) → pairs_before tokens ≡ Some found → pairs_before (tokens ++ others) ≡ joined (pairs_before tokens) (pairs_before others))
        → joined (option_map (assigned name) (value_text value)) (pairs_before (tokens ++ others)) ≡ joined (joined (option_map (assigned name) (value_text value)) (pairs_before tokens)) (pairs_before others)
    go None e whole later = absurd (let none = sym (ap (joined (option_map (assigned name) (value_text value))) e ∙ joined_none (option_map (assigned name) (value_text value))) ∙ whole in cc)
    go (Some rest) e whole later =
        ap (joined (option_map (assigned name) (value_text value))) (later rest e)
        ∙ sym (joined_assoc (option_map (assigned name) (value_text value)) (pairs_before tokens) (pairs_before others))
pairs_before_joined _ others found h = absurd (cc)

module _ {T : Type 0} (target_of : List ℕ → Option T) (pair_of : T → List ℕ → Option Pair) where
  abbrev one : Assignment → Option Pair
  one = pair_assigned target_of pair_of

  -- the pair of a name and a value, as it is assigned
  value_spelled : (name : List ℕ) (value : Token) (pair : Pair) (text : Option (List ℕ)) (name_is : Option T) → target_of name ≡ name_is → value_text value ≡ text → of_pair target_of pair_of name value ≡ Some pair → option_and_then (each_pair one) (option_map (assigned name) (value_text value)) ≡ Some (pair ∷ [])
  value_spelled name value pair text None known is found = absurd (let none = sym found ∙ ap (option_and_then (λ target. option_and_then (pair_of target) (value_text value))) known in cc)
  value_spelled name value pair None (Some target) known is found = absurd (let none = sym found ∙ ap (option_and_then (λ target. option_and_then (pair_of target) (value_text value))) known ∙ ap (option_and_then (pair_of target)) is in cc)
  value_spelled name value pair (Some text) (Some target) known is found =
      let it : pair_of target text ≡ Some pair = sym (ap (option_and_then (λ target. option_and_then (pair_of target) (value_text value))) known ∙ ap (option_and_then (pair_of target)) is) ∙ found in
      one_spelled target_of pair_of name (value_text value) (Some target) known
      ∙ ap (λ t. option_map (λ p. p ∷ []) (option_and_then (λ os. pair_of target os) t)) is
      ∙ ap (option_map (λ p. p ∷ [])) it

  -- the assignments before, and one more
  pairs_joined : (earlier pairs : List Pair) (before : List Token) (name : List ℕ) (value : Token) (pair : Pair) → pairs_with target_of pair_of earlier before ≡ Some pairs → of_pair target_of pair_of name value ≡ Some pair → pairs_with target_of pair_of earlier (before ++ Run name ∷ Sign ∷ value ∷ Comma ∷ []) ≡ Some (pairs ++ pair ∷ [])
  unfolding after_pairs pairs_before
  pairs_joined earlier pairs before name value pair read found = go (pairs_before before) refl
    where
      last : List Token
      last = Run name ∷ Sign ∷ value ∷ Comma ∷ []

      go : (here : Option (List Assignment)) → pairs_before before ≡ here → joined (Some earlier) (option_and_then (each_pair one) (pairs_before (before ++ Run name ∷ Sign ∷ value ∷ Comma ∷ []))) ≡ Some (pairs ++ pair ∷ [])
      go None e = absurd (let none = sym read ∙ ap (λ x. joined (Some earlier) (option_and_then (each_pair one) x)) e in cc)
      go (Some found_before) e =
          ap (λ x. joined (Some earlier) (option_and_then (each_pair one) x)) (pairs_before_joined before (Run name ∷ Sign ∷ value ∷ Comma ∷ []) found_before e)
          ∙ ap (joined (Some earlier)) (spelled_joined one (pairs_before before) (joined (option_map (assigned name) (value_text value)) (Some [])))
          ∙ sym (joined_assoc (Some earlier) (option_and_then (each_pair one) (pairs_before before)) (option_and_then (each_pair one) (joined (option_map (assigned name) (value_text value)) (Some []))))
          ∙ ap (λ x. joined x (option_and_then (each_pair one) (joined (option_map (assigned name) (value_text value)) (Some [])))) read
          ∙ ap (λ x. joined (Some pairs) (option_and_then (each_pair one) x)) (joined_last (option_map (assigned name) (value_text value)))
          ∙ ap (joined (Some pairs)) (value_spelled name value pair (value_text value) (target_of name) refl refl found)

  pub pairs_none : (earlier : List Pair) (line : List ℕ) → IsLexed Name line [] Name line → IsPairsRead target_of pair_of earlier line earlier line
  unfolding after_pairs pairs_before each_pair
  pairs_none earlier line lexed = record { before = []; lexed = lexed; read = joined_last (Some earlier) }

  -- one pair more, and its comma
  pub pairs_more : (earlier pairs new : List Pair) (line rest after next : List ℕ) (pair : Pair) → IsPairsRead target_of pair_of earlier line pairs rest → IsPairRead target_of pair_of rest pair after → new ≡ pairs ++ pair ∷ [] → IsLexed Value after (Comma ∷ []) Name next → IsPairsRead target_of pair_of earlier line new next
  pairs_more earlier pairs new line rest after next pair read first is comma = record {
    before = read.before ++ Run first.name ∷ Sign ∷ first.value ∷ Comma ∷ [];
    lexed = lexed_then Name Name Name line rest next read.before (Run first.name ∷ Sign ∷ first.value ∷ Comma ∷ []) read.lexed
        (lexed_then Name Value Name rest after next (Run first.name ∷ Sign ∷ first.value ∷ []) (Comma ∷ []) first.lexed comma);
    read = pairs_joined earlier pairs read.before first.name first.value pair read.read first.read ∙ ap Some (sym is);
  }

-- ---- lines

lines_before_joined : (lines others : List (List ℕ)) → lines_before (lines ++ others) ≡ joined (lines_before lines) (lines_before others)
unfolding lines_before
lines_before_joined [] others = sym (joined_nil (lines_before others))
lines_before_joined (line ∷ lines) others = go (is_blank_line line) (lines_before_joined lines others)
  where
    go : (blank : Bool) → lines_before (lines ++ others) ≡ joined (lines_before lines) (lines_before others) → cond blank None (joined (line_assignments line) (lines_before (lines ++ others))) ≡ joined (cond blank None (joined (line_assignments line) (lines_before lines))) (lines_before others)
    go true later = refl
    go false later = ap (joined (line_assignments line)) later ∙ sym (joined_assoc (line_assignments line) (lines_before lines) (lines_before others))

line_before : (line : List ℕ) → is_blank_line line ≡ false → lines_before (line ∷ []) ≡ line_assignments line
unfolding lines_before
line_before line filled = rw filled (joined_last (line_assignments line))

fewer : (test : List ℕ → Bool) (lines : List (List ℕ)) → length (without_front test lines) ≤ length lines
fewer test [] = omega arith
fewer test (line ∷ lines) = go (test line) (fewer test lines)
  where
    go : (b : Bool) → length (without_front test lines) ≤ length lines → length (cond b (without_front test lines) (line ∷ lines)) ≤ length (line ∷ lines)
    go true less = omega (arith, less)
    go false less = omega arith

-- what is left of lines with others is that of the lines, and then the others
pub front_kept : (test : List ℕ → Bool) (lines packet : List (List ℕ)) (line : List ℕ) (others : List (List ℕ)) → without_front test (lines ++ line ∷ others) ≡ packet ++ line ∷ others → without_front test lines ≡ packet
front_kept test [] [] line others h = refl
front_kept test [] (one ∷ packet) line others h =
    absurd (omega (arith, fewer test (line ∷ others), ap length h, length-append (one ∷ packet) (line ∷ others)))
front_kept test (first ∷ lines) packet line others h = go (test first) h (front_kept test lines packet line others)
  where
    go : (b : Bool) → cond b (without_front test (lines ++ line ∷ others)) (first ∷ lines ++ line ∷ others) ≡ packet ++ line ∷ others → (without_front test (lines ++ line ∷ others) ≡ packet ++ line ∷ others → without_front test lines ≡ packet) → cond b (without_front test lines) (first ∷ lines) ≡ packet
    go true e later = later e
    go false e later = append_cancel_right (first ∷ lines) packet (line ∷ others) e

module _ {T : Type 0} (target_of : List ℕ → Option T) (pair_of : T → List ℕ → Option Pair) where
  -- no line of the packet
  pub packet_begins : (text rest : List ℕ) (lines : List (List ℕ)) (pairs : List Pair) → IsLinesRead text lines rest → texts_of rest ≡ without_front is_idle_line (texts_of text) → pairs ≡ [] → IsPacketRead target_of pair_of text pairs rest
  unfolding lines_before each_pair
  packet_begins text rest lines pairs read left none = record {
    lines = lines;
    packet = [];
    read = read;
    whole = sym left;
    pairs_are = ap Some (sym none);
  }

  -- one line more of the packet
  pub packet_more : (text rest after : List ℕ) (line : List ℕ) (pairs new : List Pair) → IsPacketRead target_of pair_of text pairs rest → IsLinesRead rest (line ∷ []) after → texts_of rest ≡ line ∷ texts_of after → is_blank_line line ≡ false → after_pairs pairs (pairs_at (pair_assigned target_of pair_of) (tokens_at Name line)) ≡ Some new → IsPacketRead target_of pair_of text new after
  unfolding after_pairs pairs_at
  packet_more text rest after line pairs new read one_line cut filled found =
      let one : Assignment → Option Pair = pair_assigned target_of pair_of in
      record {
        lines = read.lines ++ line ∷ [];
        packet = read.packet ++ line ∷ [];
        read = lines_then text read.lines rest (line ∷ []) after read.read one_line;
        whole = read.whole ∙ ap (λ ls. read.packet ++ ls) cut ∙ sym (append_assoc read.packet (line ∷ []) (texts_of after));
        pairs_are = ap (option_and_then (each_pair one)) (lines_before_joined read.packet (line ∷ []) ∙ ap (joined (lines_before read.packet)) (line_before line filled))
            ∙ spelled_joined one (lines_before read.packet) (line_assignments line)
            ∙ ap (λ x. joined x (option_and_then (each_pair one) (line_assignments line))) read.pairs_are
            ∙ found;
      }
