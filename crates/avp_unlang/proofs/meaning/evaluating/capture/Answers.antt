use Rattle.std.proofs.Common.{Some, None, ap, ◌∙◌}
use Rattle.avp_patterns.specs.Matching.{matches}
use Rattle.avp_unlang.proofs.MatchedGroups.{matched_by}
use Rattle.avp_unlang.proofs.meaning.evaluating.capture.Goals as goal

pub returns-in-Some-clause-found : goal.returns-in-Some-clause-found
returns-in-Some-clause-found c =
    matched_by _ c.args.octets.now (Some c.in-Some.groups) c.in-Some.ensures.found
    ∙ ap (λ text. matches (record { text = text; flags = c.args.matching.now.flags }) c.args.octets.now) c.as_slice.ensures

pub returns-in-None-clause-found : goal.returns-in-None-clause-found
returns-in-None-clause-found c =
    matched_by _ c.args.octets.now None c.in-None.ensures.found
    ∙ ap (λ text. matches (record { text = text; flags = c.args.matching.now.flags }) c.args.octets.now) c.as_slice.ensures
