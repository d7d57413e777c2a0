use Rattle.std.proofs.Common.{◌≡◌, ℤ, pos, neg_ℤ, ◌+ℤ◌, ◌-ℤ◌, ◌*ℤ◌, ◌≤ℤ◌, arith, FitsSigned, of_z, to_z, to_z-of_z, w16, w32, w64}
use Rattle.jiff_core.proofs.SignedLemmas.{signed_arith, signed_casts}
use Rattle.avp_forms.proofs.dates.moment_of.Goals as goal

abbrev kept : ℤ → ℤ
kept z = to_z w64 (of_z w64 z)

plain : (a s o : ℤ) → neg_ℤ (pos 5000000) ≤ℤ a → a ≤ℤ pos 5000000 → pos 0 ≤ℤ s → s ≤ℤ pos 4294967296 → neg_ℤ (pos 32768) ≤ℤ o → o ≤ℤ pos 32768 → kept (kept (kept (kept a *ℤ pos 86400) +ℤ kept s) -ℤ kept (kept o *ℤ pos 60)) ≡ a *ℤ pos 86400 +ℤ s -ℤ o *ℤ pos 60
plain a s o a₁ a₂ s₁ s₂ o₁ o₂ =
    let fa : FitsSigned w64 a = omega (arith, signed_arith) in
    let fp : FitsSigned w64 (a *ℤ pos 86400) = omega (arith, signed_arith) in
    let fs : FitsSigned w64 s = omega (arith, signed_arith) in
    let ft : FitsSigned w64 (a *ℤ pos 86400 +ℤ s) = omega (arith, signed_arith) in
    let fo : FitsSigned w64 o = omega (arith, signed_arith) in
    let fq : FitsSigned w64 (o *ℤ pos 60) = omega (arith, signed_arith) in
    let fr : FitsSigned w64 (a *ℤ pos 86400 +ℤ s -ℤ o *ℤ pos 60) = omega (arith, signed_arith) in
    rw (to_z-of_z fa, to_z-of_z fp, to_z-of_z fs, to_z-of_z ft, to_z-of_z fo, to_z-of_z fq, to_z-of_z fr)

pub returns : goal.returns
returns c =
    let low : neg_ℤ (pos 32768) ≤ℤ c.args.offset = omega (arith, signed_casts, c.ranges.offset) in
    let high : c.args.offset ≤ℤ pos 32768 = omega (arith, signed_casts, c.ranges.offset) in
    let day : FitsSigned w32 c.args.day = c.ranges.day in
    let offset : FitsSigned w16 c.args.offset = c.ranges.offset in
    rw (c.from.ensures, c.from-2.ensures, c.from-3.ensures, to_z-of_z day, to_z-of_z offset)
    (plain c.args.day (pos c.args.seconds) c.args.offset c.requires.low c.requires.high (omega (arith, signed_casts)) (omega (arith, signed_casts)) low high)
