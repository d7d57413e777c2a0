use Rattle.std.proofs.Common.{Some, None, ap₂, subst, ◌∙◌}
use Rattle.std.specs.List.{All}
use Rattle.avp_patterns.specs.Matching.{IsWithin, matches}
use Rattle.avp_unlang.proofs.MatchedGroups.{matched_by}
use Rattle.avp_unlang.proofs.meaning.evaluating.capture_group.Goals as goal

pub returns-in-Some-clause-found : goal.returns-in-Some-clause-found
returns-in-Some-clause-found c =
    matched_by _ c.group-text.result.now (Some c.in-Some.groups) c.in-Some.ensures.found
    ∙ ap₂ (λ text os. matches (record { text = text; flags = c.args.matching.now.flags }) os) c.as_slice.ensures c.group-text.ensures

pub returns-in-None-clause-found : goal.returns-in-None-clause-found
returns-in-None-clause-found c =
    matched_by _ c.group-text.result.now None c.in-None.ensures.found
    ∙ ap₂ (λ text os. matches (record { text = text; flags = c.args.matching.now.flags }) os) c.as_slice.ensures c.group-text.ensures

pub keep_within-requires : goal.keep_within-requires
keep_within-requires c = subst (λ os. All (IsWithin os) c.in-Some.groups) c.group-text.ensures c.in-Some.ensures.within
