use Rattle.std.proofs.Common.{◌-◌, ◌∷◌, length, take, drop}
use Rattle.avp_dict.specs.Printing.{digit_pair_text, ether_text}
use Rattle.avp_dict.proofs.Appending.{appended}
use Rattle.avp_dict.proofs.value.printing.ether_text.Goals as goal

pub loop-octet-preserved : goal.loop-octet-preserved
loop-octet-preserved c =
    let rest = take (length c.args.address.now - 1) (drop 1 c.args.address.now) in
    appended (λ o. 58 ∷ digit_pair_text o) rest c.loop-octet.octet-index _ c.loop-octet.text.items c.push_after_colon.new.text.items (ether_text c.args.address.now) c.loop-octet-test.true c.in_ok-push_after_colon.ensures c.loop-octet.invariant
