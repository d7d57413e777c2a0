use Rattle.avp_patterns.proofs.Languages.{by_language}
use Rattle.avp_patterns.proofs.laws.matches_by_language.Goals as goal

pub returns : goal.returns
returns c = by_language
