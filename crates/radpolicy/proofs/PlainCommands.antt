-- What is plain has no global arguments.
use Rattle.std.proofs.Common.{◌≡◌, Bool, true, false, not, ◌&&◌, rules}

-- what a conjunction says of its third part
pub has_no_globals : (a b c d : Bool) → (a && (not b && (not c && d))) ≡ true → c ≡ false
has_no_globals a b c d is = grind rules
