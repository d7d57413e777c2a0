-- Names under which every value that texts spell fits.
use Rattle.std.specs.Prelude.{◌≡◌, ℕ, List, None, Ok, IsTrue}
use Rattle.avp_lists.specs.declared.pairs.Value.{Value}
use Rattle.avp_dict.specs.Dictionary.{Dictionary}
use Rattle.avp_dict.specs.Limits.{fits}
use Rattle.avp_dict.specs.Requests.{pair_with}
use Rattle.avp_forms.specs.Written.{value_written}
use Rattle.avp_forms.specs.declared.profiles.Profile.{Profile}
use Rattle.avp_forms.specs.declared.targets.Target.{Target}

abbrev pub AlwaysFits : Profile → Target → Type 0
AlwaysFits profile target =
    (dictionary : Dictionary) (text : List ℕ) (value : Value)
    → value_written profile target text None dictionary ≡ Ok value
    → IsTrue (fits (pair_with target.named value) dictionary)
