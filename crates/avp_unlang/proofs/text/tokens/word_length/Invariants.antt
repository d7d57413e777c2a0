use Rattle.std.proofs.Common.{◌≡◌, ◌+◌, length}
use Rattle.avp_unlang.specs.Tokens.{word_length}
use Rattle.avp_unlang.proofs.text.tokens.word_length.Given as goal

abbrev pub invariant-loop-octet : goal.invariant-loop-octet
invariant-loop-octet l = (l.count + word_length l.rest ≡ word_length l.text) × (l.count + length l.rest ≡ length l.text)

abbrev pub decreases-loop-octet : goal.decreases-loop-octet
decreases-loop-octet l = length l.rest
