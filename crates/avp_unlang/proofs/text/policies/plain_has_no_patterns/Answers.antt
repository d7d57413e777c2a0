use Rattle.std.proofs.Common.{◌≡◌, true, false, sym, ◌∙◌}
use Rattle.avp_unlang.proofs.PlainPatterns.{plain_passes}
use Rattle.avp_unlang.proofs.text.policies.plain_has_no_patterns.Goals as goal

pub returns : goal.returns
returns c = λ dictionary text policy plain spelled has.
    let conflict : true ≡ false = sym (plain_passes dictionary text policy plain spelled) ∙ has in cc
