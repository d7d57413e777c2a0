use Rattle.std.proofs.Common.{sym, subst}
use Rattle.regex.specs.Bytes.{matcher_pattern, regex_source}
use Rattle.avp_patterns.specs.internal.Searching.{SearchesFor}
use Rattle.avp_patterns.proofs.Searches.{searches_for}
use Rattle.avp_patterns.proofs.patterns.Pattern.matcher.Goals as goal

pub of-requires : goal.of-requires
of-requires c =
    subst (λ w. SearchesFor w (matcher_pattern c.in_ok-matcher.matcher)) c.self.view_is
    (subst (SearchesFor (record { text = regex_source c.self.inside.regex; flags = c.self.inside.flags }))
    (sym c.in_ok-matcher.ensures.pattern)
    (searches_for c.self.inside.regex c.self.inside.flags c.self.invariant.0 c.self.invariant.1 c.self.invariant.2.read))
