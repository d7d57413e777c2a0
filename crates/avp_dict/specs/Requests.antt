-- The request that a text of lines spells, by a dictionary.
use Rattle.std.specs.Prelude.{ℕ, nat_le, if◌then◌else◌, List, [], ◌∷◌, length, Option, Some, None}
use Rattle.std.specs.Option.{option_and_then, option_map}
use Rattle.std.specs.Result.{result_err, result_ok}
use Rattle.avp_lists.specs.declared.pairs.Pair.{Pair}
use Rattle.avp_lists.specs.declared.pairs.Value.{Value}
use Rattle.avp_lists.specs.States.{max_pairs}
use Rattle.avp_dict.specs.declared.entries.Named.{Named}
use Rattle.avp_dict.specs.declared.value.faults.ValueFault.{ValueFault}
use Rattle.avp_dict.specs.Dictionary.{Dictionary}
use Rattle.avp_dict.specs.Names.{named}
use Rattle.avp_dict.specs.RequestLines.{Assignment, assignments_of, joined}
use Rattle.avp_dict.specs.Spellings.{value_spelled}

abbrev pub pair_with : Named → Value → Pair
pair_with name value = record { id = name.id; value = value }

-- the pair of a text under a known name
abbrev pub pair_named : Dictionary → List ℕ → Named → Option Pair
pair_named dictionary text name =
    option_map (pair_with name) (result_ok (value_spelled name text dictionary))

-- what a text is refused for under a known name
abbrev pub refusal_named : Dictionary → List ℕ → Named → Option ValueFault
refusal_named dictionary text name = result_err (value_spelled name text dictionary)

-- the pair of an assignment, by what names stand for, and by what texts stand for under them
abbrev pub pair_assigned : {T : Type 0} → (List ℕ → Option T) → (T → List ℕ → Option Pair)
    → Assignment → Option Pair
pair_assigned target_of pair_of a =
    option_and_then (λ target. pair_of target a.text) (target_of a.name)

-- the pair that an assignment spells
unfoldable pub pair_spelled : Dictionary → Assignment → Option Pair
pair_spelled dictionary a = option_and_then (pair_named dictionary a.text) (named a.name dictionary)

-- the pairs of all, where each has one
unfoldable pub each_pair : (Assignment → Option Pair) → List Assignment → Option (List Pair)
each_pair pair_of [] = Some []
each_pair pair_of (a ∷ as_) =
    joined (option_map (λ pair. pair ∷ []) (pair_of a)) (each_pair pair_of as_)

-- no more pairs than a list may have
abbrev pub few_enough : List Pair → Option (List Pair)
few_enough pairs = if nat_le (length pairs) max_pairs then Some pairs else None

-- the pairs that the lines of a text assign
unfoldable pub request_by : (Assignment → Option Pair) → List ℕ → Option (List Pair)
request_by pair_of text =
    option_and_then few_enough (option_and_then (each_pair pair_of) (assignments_of text))

-- the request of a text: the pairs that its lines assign
unfoldable pub request_spelled : List ℕ → Dictionary → Option (List Pair)
request_spelled text dictionary = request_by (pair_spelled dictionary) text
