use Rattle.std.proofs.Common.{◌≡◌, rules, append_assoc}
use Rattle.std.proofs.KnownBytes.{Appends-trans}
use Rattle.radpolicy.specs.Faults.{fault_text, fault_told}
use Rattle.radpolicy.proofs.fault_lines.put_told.Goals as goal

pub returns-clause-takes : goal.returns-clause-takes
unfolding fault_told
returns-clause-takes g c =
    let front = Appends-trans _ _ _ _ _ c.in_ok-put_parts.ensures.takes c.in_ok-put_place.ensures.takes in
    let whole = Appends-trans _ _ _ _ _ front c.in_ok-put_parts-2.ensures.takes in
    let text : c.as_bytes.result.now ≡ fault_text c.args.fault = search rules in
    let numbered = rw (← c.number-number.ensures) at whole in
    simp append_assoc (rw (← c.number-number.ensures, ← text) numbered)
