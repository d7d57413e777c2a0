use Rattle.std.proofs.Common.{ap, ◌∙◌}
use Rattle.avp_patterns.specs.Matching.{matches}
use Rattle.avp_patterns.proofs.Searches.{matched}
use Rattle.avp_patterns.proofs.matchers.PatternMatcher.is_match.Goals as goal

pub returns-clause-found : goal.returns-clause-found
returns-clause-found c =
    c.is_match.ensures.found ∙ matched _ c.type_inv.octets _ _ c.self.invariant ∙ ap (λ w. matches w c.args.octets.now) c.self.view_is
