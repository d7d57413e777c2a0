use Rattle.std.proofs.Common.{◌≡◌, ◌∙◌, ℕ, ◌/◌, ◌%◌, ℤ, unsigned_abs, ap, subst, arith, FitsSigned, to_z-of_z, w16}
use Rattle.jiff_core.proofs.SignedLemmas.{signed_casts}
use Rattle.avp_forms.specs.Dates.{Day, date_text, day_numbered, moment_text}
use Rattle.avp_forms.proofs.Calendar.{same_date}
use Rattle.avp_forms.proofs.dates.date_text.Goals as goal

same_day : (d : Day) (y m k : ℕ) → y ≡ d.year → m ≡ d.month → k ≡ d.day → ◌≡◌ {A = Day} (record { year = y; month = m; day = k }) d
same_day d y m k ey em ek = λ i. record { year = ey i; month = em i; day = ek i }

pub returns : goal.returns
unfolding date_text
returns c =
    let n = c.args.seconds / 86400 in
    let date = c.from_days_since_min-date.result in
    let same = same_date n date (omega arith) c.from_days_since_min-date.ensures in
    let fits : FitsSigned w16 date.year = omega (arith, signed_casts, date.year_in) in
    let year = c.from-year.ensures ∙ c.unsigned_abs.ensures.value ∙ ap (λ (z : ℤ). unsigned_abs z) (to_z-of_z fits ∙ same.0) in
    subst (λ (d : Day). c.moment_text.result.items ≡ moment_text d (c.args.seconds % 86400))
    (same_day (day_numbered n) _ date.month date.day year same.1 same.2)
    c.moment_text.ensures
