-- What is told of pairs: a record of each, and the octets to which the records point.
use Rattle.std.specs.Prelude.{ℕ, ◌+◌, ◌++◌, List, [], ◌∷◌, codes, length}
use Rattle.std.specs.List.{flat_map}
use Rattle.avp_dict.specs.Dictionary.{Dictionary}
use Rattle.avp_dict.specs.Octets.{octets}
use Rattle.avp_forms.specs.Printing.{printed_pair_name, printed_pair_text}
use Rattle.avp_forms.specs.declared.profiles.Profile.{Profile}
use Rattle.avp_lists.specs.declared.lists.State.{State}
use Rattle.avp_lists.specs.declared.pairs.Pair.{Pair}
use Rattle.radpolicy.specs.RunOutcomes.{RunOutcome}
use Rattle.radpolicy_c.specs.Attributes.{kind_number, own_number, within_number}
use Rattle.radpolicy_c.specs.declared.pairs.RadpolicyPair.{RadpolicyPair}
use Rattle.radpolicy_c.specs.declared.pairs.ToldLists.{ToldLists}

-- ---- the octets of pairs

abbrev pub name_octets : Profile → Dictionary → Pair → List ℕ
name_octets profile dictionary pair = printed_pair_name profile pair.id pair.value dictionary

-- a pair's line, as a report has it between the blanks and the line's end
abbrev pub line_octets : Profile → Dictionary → Pair → List ℕ
line_octets profile dictionary pair =
    name_octets profile dictionary pair ++ codes " = "
    ++ printed_pair_text profile pair.id pair.value dictionary

abbrev pub value_octets : Dictionary → Pair → List ℕ
value_octets dictionary pair = octets pair.id pair.value dictionary

-- those of its value, and then its line
abbrev pub pair_octets : Profile → Dictionary → Pair → List ℕ
pair_octets profile dictionary pair =
    value_octets dictionary pair ++ line_octets profile dictionary pair

-- those of each pair, one after another
abbrev pub octets_told : Profile → Dictionary → List Pair → List ℕ
octets_told profile dictionary pairs = flat_map (pair_octets profile dictionary) pairs

-- ---- the records of pairs

-- the record of a pair whose octets begin at this place
abbrev pub pair_told : ℕ → Profile → Dictionary → Pair → RadpolicyPair
pair_told at profile dictionary pair = record {
  value = at;
  value_length = length (value_octets dictionary pair);
  line = at + length (value_octets dictionary pair);
  line_length = length (line_octets profile dictionary pair);
  name_length = length (name_octets profile dictionary pair);
  within = within_number pair.id;
  number = own_number pair.id;
  kind = kind_number pair.id;
}

-- the records of pairs whose octets begin at this place
abbrev pub pairs_told : ℕ → Profile → Dictionary → List Pair → List RadpolicyPair
pairs_told at profile dictionary [] = []
pairs_told at profile dictionary (pair ∷ pairs) =
    pair_told at profile dictionary pair
    ∷ pairs_told (at + length (pair_octets profile dictionary pair)) profile dictionary pairs

-- ---- the lists of an outcome

-- the pairs of the request list, of the reply list and of the control list
abbrev pub all_pairs : State → List Pair
all_pairs state = state.request ++ state.reply ++ state.control

abbrev pub outcome_octets : RunOutcome → List ℕ
outcome_octets outcome =
    octets_told outcome.profile outcome.dictionary (all_pairs outcome.end.state)

-- the records of all pairs, and how many of them are of each list
abbrev pub outcome_lists : RunOutcome → ToldLists
outcome_lists outcome = record {
  pairs = pairs_told 0 outcome.profile outcome.dictionary (all_pairs outcome.end.state);
  request_count = length outcome.end.state.request;
  reply_count = length outcome.end.state.reply;
  control_count = length outcome.end.state.control;
}

-- no list is told
abbrev pub no_lists : ToldLists
no_lists = record { pairs = []; request_count = 0; reply_count = 0; control_count = 0 }
