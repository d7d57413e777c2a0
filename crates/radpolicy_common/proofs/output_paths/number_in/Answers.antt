use Rattle.std.proofs.Common.{◌≡◌, ◌++◌, ◌∙◌, ap, sym, arith, decimal, drop, length, Bool, true, Ok, Result, ℕ, List}
use Rattle.std.proofs.Math.Seq.{drop-append_seam}
use Rattle.std.proofs.lemmas.Fmt.{parse-decimal}
use Rattle.std.proofs.lemmas.Slice.Eq.{bytes_eq-Decides}
use Rattle.radpolicy_common.proofs.output_paths.number_in.Goals as goal

pub returns-in_default-parse-clause-none : goal.returns-in_default-parse-clause-none
returns-in_default-parse-clause-none c = λ e number small same.
    let x = c.in-Some.ensures.cases in
    let digits : c.in-Some.digits.now ≡ decimal number = x.2 ∙ ap (λ k. drop k c.args.path.now) x.1.0 ∙ ap (drop (length c.args.folder.now)) same ∙ drop-append_seam c.args.folder.now (decimal number) in
    c.in_default-parse.not-Ok number (parse-decimal 16 number c.in-Some.digits.now c.parse.result small (omega (arith, small)) digits c.parse.ensures.value.0)

pub returns-then-eq-clause-found : goal.returns-then-eq-clause-found
returns-then-eq-clause-found c =
    let x = c.in-Some.ensures.cases in
    let digits : c.in-Some.digits.now ≡ decimal c.in-Ok.number = sym ((bytes_eq-Decides c.as_str.result.now c.in-Some.digits.now).0 (sym c.if-eq.ensures)) ∙ c.as_str.ensures.value ∙ c.in_ok-format.ensures.ok in
    x.1.1 ∙ ap (λ d. c.args.folder.now ++ d) (sym x.2 ∙ digits)

pub returns-else-eq-clause-none : goal.returns-else-eq-clause-none
returns-else-eq-clause-none c = λ e number small same.
    let x = c.in-Some.ensures.cases in
    let digits : c.in-Some.digits.now ≡ decimal number = x.2 ∙ ap (λ k. drop k c.args.path.now) x.1.0 ∙ ap (drop (length c.args.folder.now)) same ∙ drop-append_seam c.args.folder.now (decimal number) in
    let read : c.parse.result ≡ Ok number = parse-decimal 16 number c.in-Some.digits.now c.parse.result small (omega (arith, small)) digits c.parse.ensures.value.0 in
    let same_number : c.in-Ok.number ≡ number = grind (arith, c.in-Ok.is, read) in
    let equal : c.as_str.result.now ≡ c.in-Some.digits.now = c.as_str.ensures.value ∙ c.in_ok-format.ensures.ok ∙ ap decimal same_number ∙ sym digits in
    grind (arith, c.if-eq.ensures, (bytes_eq-Decides c.as_str.result.now c.in-Some.digits.now).1 equal)
