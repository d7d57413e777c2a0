use Rattle.std.proofs.Common.{◌≡◌, ◌+◌, length, false, option_map}
use Rattle.avp_unlang.specs.Tokens.{quoted_length}
use Rattle.avp_unlang.proofs.text.tokens.quoted_length.Given as goal

abbrev pub invariant-loop-octet : goal.invariant-loop-octet
invariant-loop-octet l = (option_map (λ n. l.count + n) (quoted_length l.closing l.escaped l.rest) ≡ quoted_length l.closing false l.text) × (l.count + length l.rest ≡ length l.text)

abbrev pub decreases-loop-octet : goal.decreases-loop-octet
decreases-loop-octet l = length l.rest
