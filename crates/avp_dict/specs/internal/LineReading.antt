-- What the readers of request lines are to find.
use Rattle.std.specs.Prelude.{◌≡◌, ℕ, List, [], ◌∷◌, Option, Some, None}
use Rattle.std.specs.Option.{option_and_then}
use Rattle.avp_lists.specs.declared.pairs.Pair.{Pair}
use Rattle.avp_dict.specs.declared.request.faults.LineKind.{LineKind}
use Rattle.avp_dict.specs.declared.request.faults.LineKind.TheVariants as kinds
use Rattle.avp_dict.specs.declared.value.faults.ValueFault.{ValueFault}
use Rattle.avp_dict.specs.declared.value.faults.ValueFault.TheVariants as faults
use Rattle.avp_dict.specs.RequestLines.{Assignment, Token, Comma, joined, packet_assignments, pairs_of, value_text}
use Rattle.avp_dict.specs.Requests.{each_pair, few_enough}

-- the fault of a line whose value has this one
abbrev pub line_kind : ValueFault → LineKind
line_kind faults.NotWritable = kinds.NotWritable
line_kind faults.NotValue = kinds.NotValue
line_kind faults.TooLong = kinds.TooLong
line_kind faults.Memory = kinds.Memory

-- the pair of what a name stands for and the token of its value
abbrev pub pair_of_token : {T : Type 0} → (T → List ℕ → Option Pair) → T → Token → Option Pair
pair_of_token pair_of target token = option_and_then (pair_of target) (value_text token)

-- what is assigned after a pair
abbrev pub assigned_after : List Token → Option (List Assignment)
assigned_after [] = Some []
assigned_after (Comma ∷ tokens) = pairs_of tokens
assigned_after _ = None

-- the pairs that tokens spell, and those that tokens after a pair do
unfoldable pub pairs_at : (Assignment → Option Pair) → List Token → Option (List Pair)
pairs_at pair_of tokens = option_and_then (each_pair pair_of) (pairs_of tokens)

unfoldable pub pairs_after : (Assignment → Option Pair) → List Token → Option (List Pair)
pairs_after pair_of tokens = option_and_then (each_pair pair_of) (assigned_after tokens)

-- the pairs that the lines of a packet spell
unfoldable pub packet_pairs : (Assignment → Option Pair) → List (List ℕ) → Option (List Pair)
packet_pairs pair_of texts = option_and_then (each_pair pair_of) (packet_assignments texts)

-- pairs that were read, before others
unfoldable pub after_pairs : List Pair → Option (List Pair) → Option (List Pair)
after_pairs front others = joined (Some front) others

-- these pairs and those here are no request, whatever follows
unfoldable pub IsNoRequest : List Pair → Option (List Pair) → Type 0
IsNoRequest pairs here =
    (more : Option (List Pair))
    → option_and_then few_enough (joined (after_pairs pairs here) more) ≡ None
