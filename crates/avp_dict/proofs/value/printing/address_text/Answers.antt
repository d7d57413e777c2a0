use Rattle.std.proofs.Common.{ℕ, ◌-◌, ◌∷◌, ◌++◌, length, take, drop, decimal, ap, ◌∙◌}
use Rattle.avp_dict.specs.Printing.{address_text}
use Rattle.avp_dict.proofs.Appending.{appended}
use Rattle.avp_dict.proofs.value.printing.address_text.Goals as goal

pub loop-octet-preserved : goal.loop-octet-preserved
loop-octet-preserved c =
    let rest = take (length c.args.address.now - 1) (drop 1 c.args.address.now) in
    let text = c.loop-octet.text.items in
    let more = c.in_ok-push_dotted.ensures ∙ ap (λ (n : ℕ). text ++ (46 ∷ decimal n)) c.from-in-loop-octet.ensures in
    appended (λ o. 46 ∷ decimal o) rest c.loop-octet.octet-index _ text c.push_dotted.new.text.items (address_text c.args.address.now) c.loop-octet-test.true more c.loop-octet.invariant
