use Rattle.std.proofs.Common.{◌≡◌, ◌∙◌, ℤ, pos, ap, sym, arith, FitsSigned, to_z-of_z, w16, w32, w64}
use Rattle.jiff_core.proofs.SignedLemmas.{signed_casts}
use Rattle.avp_forms.specs.Dates.{in_32_bits}
use Rattle.avp_forms.proofs.Calendar.{moment_of_date}
use Rattle.avp_forms.proofs.dates.date_of_moment.Goals as goal

pub returns-in-Ok : goal.returns-in-Ok
returns-in-Ok c =
    let date = c.in-Ok.date in
    let ey : date.year ≡ pos c.args.year = omega (arith, signed_casts, c.in-Ok.ensures.value) in
    let em : date.month ≡ c.args.month = omega (arith, signed_casts, c.in-Ok.ensures.value) in
    let ed : date.day ≡ c.args.day = omega (arith, signed_casts, c.in-Ok.ensures.value) in
    let fits : FitsSigned w64 c.moment_of.result = omega (arith, signed_casts, c.moment_of.ensures, c.to_unix_epoch_day.ensures.bound, c.ranges.offset) in
    let day : FitsSigned w32 c.to_unix_epoch_day.result = omega (arith, signed_casts, c.to_unix_epoch_day.ensures.bound) in
    let offset : FitsSigned w16 c.args.offset = c.ranges.offset in
    c.in_32_bits.ensures
    ∙ rw (to_z-of_z fits) (ap (λ (z : ℤ). in_32_bits z) c.moment_of.ensures
    ∙ rw (to_z-of_z day, to_z-of_z offset, c.to_unix_epoch_day.ensures.value)
    (sym (moment_of_date date c.args.year c.args.month c.args.day c.args.seconds c.args.offset ey em ed)))
