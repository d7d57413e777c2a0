use Rattle.std.proofs.Common.{◌≡◌, ◌∙◌, ◌++◌, ◌∷◌, [], arith, rules}
use Rattle.text_comparison.proofs.OneMore.{kept_full, kept_more}
use Rattle.text_comparison.proofs.lines.keep.Goals as goal

pub returns-in_ok-push : goal.returns-in_ok-push
returns-in_ok-push c = λ whole is.
    let pushed : c.push.new.self.items ≡ c.args.line.now.items ++ c.args.octet ∷ [] = search rules in
    pushed ∙ kept_more c.args.line.now.items whole c.args.octet (omega arith) is

pub returns-else-len-lt-MAX_LINE_OCTETS : goal.returns-else-len-lt-MAX_LINE_OCTETS
returns-else-len-lt-MAX_LINE_OCTETS c = λ whole is. kept_full c.args.line.now.items whole c.args.octet (omega arith) is
