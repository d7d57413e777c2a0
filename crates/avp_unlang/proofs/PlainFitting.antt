-- Values of plain policies fit.
use Rattle.std.proofs.Common.{◌≡◌, ℕ, None, Ok, ap, subst}
use Rattle.avp_lists.specs.declared.pairs.AttrId.TheVariants as ids
use Rattle.avp_dict.specs.Limits.{is_known}
use Rattle.avp_forms.specs.Written.{value_written}
use Rattle.avp_forms.specs.declared.profiles.Profile.{Profile}
use Rattle.avp_forms.specs.declared.profiles.Profile.TheVariants.{Plain}
use Rattle.avp_forms.specs.declared.targets.Target.{Target}
use Rattle.avp_unlang.specs.internal.Fitting.{AlwaysFits}
use Rattle.avp_unlang.proofs.TypedValues.{spelled_fits}

-- an attribute of no vendor and of no extended type is known
pub plain_fits : (profile : Profile) (target : Target) (n : ℕ) → profile ≡ Plain → target.named.id ≡ ids.Plain n → AlwaysFits profile target
unfolding is_known value_written
plain_fits profile target n plain is dictionary text value e =
    spelled_fits dictionary target.named text value (ap (λ id. is_known id dictionary) is)
    (subst (λ p. value_written p target text None dictionary ≡ Ok value) plain e)
