-- The request that a text of lines spells in a profile.
use Rattle.std.specs.Prelude.{◌≡◌, ◌≢◌, ℕ, ◌≤◌, ℤ, true, List, length, Option}
use Rattle.std.specs.Option.{option_map}
use Rattle.std.specs.Result.{result_err, result_ok}
use Rattle.avp_lists.specs.declared.pairs.Pair.{Pair}
use Rattle.avp_dict.specs.Dictionary.{Dictionary}
use Rattle.avp_dict.specs.Names.{named}
use Rattle.avp_dict.specs.RefusedPlaces.{IsOutOfMemoryAt, IsRefusedAt, is_before_filled}
use Rattle.avp_dict.specs.Requests.{pair_assigned, pair_named, pair_with, refusal_named, request_by, request_spelled}
use Rattle.avp_dict.specs.Spellings as typed
use Rattle.avp_dict.specs.declared.request.faults.LineKind.{LineKind}
use Rattle.avp_dict.specs.declared.request.faults.LineKind.TheVariants.{Memory}
use Rattle.avp_dict.specs.declared.value.faults.ValueFault.{ValueFault}
use Rattle.avp_forms.specs.Targets.{target_of}
use Rattle.avp_forms.specs.Written.{takes_memory, value_written}
use Rattle.avp_forms.specs.declared.profiles.Profile.{Profile}
use Rattle.avp_forms.specs.declared.profiles.Profile.TheVariants.{Plain, Wider}
use Rattle.avp_forms.specs.declared.targets.Target.{Target}

-- the pair of a text under a target
abbrev pub pair_written : Option ℤ → Dictionary → Target → List ℕ → Option Pair
pair_written offset dictionary target text =
    option_map (pair_with target.named)
    (result_ok (value_written Wider target text offset dictionary))

-- what a text is refused for under a target
abbrev pub refusal_written : Option ℤ → Dictionary → Target → List ℕ → Option ValueFault
refusal_written offset dictionary target text =
    result_err (value_written Wider target text offset dictionary)

-- the request of a text: in the wider profile its names and texts are read as those of that profile; offset is as for
-- `value_written`
unfoldable pub request_written : Profile → Option ℤ → List ℕ → Dictionary → Option (List Pair)
request_written Plain offset text dictionary = request_spelled text dictionary
request_written Wider offset text dictionary =
    request_by (pair_assigned (target_of Wider dictionary) (pair_written offset dictionary)) text

-- a text is refused for this at this place, the first in the order of reading: names and values as the profile reads
-- them, with the time zone's offset as for `value_written`
abbrev pub IsRefusedIn : Profile → Option ℤ → Dictionary → List ℕ → LineKind → ℕ → Type 0
IsRefusedIn Plain time_zone dictionary text kind place =
    IsRefusedAt (λ name. named name dictionary)
    (λ target value. pair_named dictionary value target)
    (λ target value. refusal_named dictionary value target) text kind place
IsRefusedIn Wider time_zone dictionary text kind place =
    IsRefusedAt (target_of Wider dictionary) (pair_written time_zone dictionary)
    (refusal_written time_zone dictionary) text kind place

-- The first such place in the order of reading: the text ends there, or goes on with an octet that is no blank.
pub record IsFirstRefused (profile : Profile) (time_zone : Option ℤ) (dictionary : Dictionary)
    (text : List ℕ) (kind : LineKind) (place : ℕ) : Type 0 where
  pub within : place ≤ length text
  pub filled : is_before_filled place text ≡ true
  pub refused : IsRefusedIn profile time_zone dictionary text kind place

-- want of memory aside, there is one such place at most, and one thing that the text is refused for there
abbrev pub IsRefusedOnce : Profile → Option ℤ → Dictionary → List ℕ → Type 0
IsRefusedOnce profile time_zone dictionary text =
    (kind other : LineKind) (place also : ℕ) → kind ≢ Memory → other ≢ Memory
    → IsFirstRefused profile time_zone dictionary text kind place
    → IsFirstRefused profile time_zone dictionary text other also
    → (place ≡ also) × (kind ≡ other)

-- memory ran out at this place of a text, at a pair before which all could go on as a request, and whose value takes
-- memory where it is not read yet
abbrev pub IsOutOfMemoryIn : Profile → Option ℤ → Dictionary → List ℕ → ℕ → Type 0
IsOutOfMemoryIn Plain time_zone dictionary text place =
    IsOutOfMemoryAt (λ name. named name dictionary)
    (λ target value. pair_named dictionary value target)
    (λ target value. refusal_named dictionary value target)
    (λ target value. typed.takes_memory target value dictionary) text place
IsOutOfMemoryIn Wider time_zone dictionary text place =
    IsOutOfMemoryAt (target_of Wider dictionary) (pair_written time_zone dictionary)
    (refusal_written time_zone dictionary)
    (λ target value. takes_memory Wider target value time_zone dictionary) text place
