use Rattle.std.proofs.Common.{rules, arith}
use Rattle.avp_unlang.proofs.TypedValues.{read_none, read_some, read_typed}
use Rattle.avp_unlang.proofs.meaning.resolving.read_value.Goals as goal

pub returns-in-Raw-clause-read : goal.returns-in-Raw-clause-read
returns-in-Raw-clause-read c = read_none c.args.dictionary.now c.args.id c.args.octets.now c.in_ok-value.value (search rules) (search rules)

pub returns-in_default-clause-read : goal.returns-in_default-clause-read
returns-in_default-clause-read c = read_some c.args.dictionary.now c.args.id c.args.octets.now c.in_ok-value.value (search rules) (search rules)

pub returns-in_default-clause-typed : goal.returns-in_default-clause-typed
returns-in_default-clause-typed c =
    read_typed c.args.dictionary.now c.args.id c.args.octets.now c.in_ok-value.value (λ i. omega (arith, c.type_inv.octets i))
    (read_some c.args.dictionary.now c.args.id c.args.octets.now c.in_ok-value.value (search rules) (search rules))
