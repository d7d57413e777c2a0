use Rattle.std.proofs.Common.{◌≡◌, ◌∙◌, ◌==◌, ◌-◌, ℕ, List, leb, true, length, length-drop, drop, slice_index, take_all, ap, sym, arith}
use Rattle.std.proofs.lemmas.Grind.{common_steps}
use Rattle.avp_forms.specs.Dates.{after_month, server_date_spelled}
use Rattle.avp_forms.proofs.dates.server_date_spelled.Goals as goal

pub returns : goal.returns
unfolding server_date_spelled
returns c =
    let text = c.args.text.now in
    let long : leb 4 (length text) ≡ true = grind (arith, common_steps) in
    let blank : (slice_index text 3 == 32) ≡ true = grind (arith, common_steps) in
    let rest = take_all (length text - 4) (drop 4 text) (omega (arith, length-drop 4 text)) in
    rw (long, blank, sym c.in_ok-month.ensures.value)
    (c.after_month.ensures ∙ ap (λ (t : List ℕ). after_month c.args.zone c.in_ok-month.month t) rest)
