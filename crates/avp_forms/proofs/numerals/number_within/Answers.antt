use Rattle.std.proofs.Common.{◌≡◌, ◌∙◌, ◌+◌, ◌*◌, ◌<◌, refl, sym, ap, drop, get_or, arith, ltb, true}
use Rattle.std.proofs.lemmas.Grind.{common_steps}
use Rattle.std.proofs.lemmas.List.{drop_more}
use Rattle.std.specs.Char.{digit_value}
use Rattle.avp_dict.specs.Spellings.{up_to}
use Rattle.avp_dict.specs.Words.{number_after}
use Rattle.avp_forms.specs.Numerals.{number_within}
use Rattle.avp_forms.proofs.GreatNumbers.{too_great}
use Rattle.avp_forms.proofs.numerals.number_within.Goals as goal

pub returns-then-number-most-clause-value : goal.returns-then-number-most-clause-value
unfolding number_within
returns-then-number-most-clause-value c =
    let base = c.args.base in
    let most = c.args.most in
    let text = c.args.text.now in
    let i = c.loop-octet.octet-index in
    let n = c.loop-octet.number in
    let d = digit_value (get_or text i 0) in
    let cut = drop_more text i 0 c.loop-octet-test.true in
    let below : ltb d base ≡ true = grind (arith, common_steps) in
    let step : number_after base n (drop i text) ≡ number_after base (n * base + d) (drop (i + 1) text) = ap (number_after base n) cut ∙ rw below refl in
    let great : most < n * base + d = grind (arith, common_steps) in
    sym (ap (up_to most) (sym c.loop-octet.invariant.1 ∙ step) ∙ too_great base most (n * base + d) (drop (i + 1) text) great)
