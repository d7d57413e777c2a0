-- A text is refused at one place in a profile, for one thing.
use Rattle.std.proofs.Common.{ℕ, ℤ, List, Option}
use Rattle.avp_dict.specs.Dictionary.{Dictionary}
use Rattle.avp_dict.specs.Names.{named}
use Rattle.avp_dict.specs.Requests.{pair_named, refusal_named}
use Rattle.avp_dict.proofs.OneReading.{refused_once}
use Rattle.avp_forms.specs.Requests.{IsRefusedOnce, pair_written, refusal_written}
use Rattle.avp_forms.specs.Targets.{target_of}
use Rattle.avp_forms.specs.declared.profiles.Profile.{Profile}
use Rattle.avp_forms.specs.declared.profiles.Profile.TheVariants.{Plain, Wider}

pub refused_once_in : (profile : Profile) (time_zone : Option ℤ) (d : Dictionary) (text : List ℕ) → IsRefusedOnce profile time_zone d text
refused_once_in Plain time_zone d text =
    λ kind other place also some some' first second.
    refused_once (λ name. named name d) (λ target value. pair_named d value target) (λ target value. refusal_named d value target)
    text place also first.within second.within first.filled second.filled kind other some some' first.refused second.refused
refused_once_in Wider time_zone d text =
    λ kind other place also some some' first second.
    refused_once (target_of Wider d) (pair_written time_zone d) (refusal_written time_zone d)
    text place also first.within second.within first.filled second.filled kind other some some' first.refused second.refused
