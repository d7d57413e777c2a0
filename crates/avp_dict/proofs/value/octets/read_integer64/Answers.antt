use Rattle.std.proofs.Common.{arith, ap, ◌∙◌, ℕ, Some}
use Rattle.avp_lists.specs.declared.pairs.Value.TheVariants.{Int}
use Rattle.avp_dict.specs.Octets.{number_value}
use Rattle.avp_dict.proofs.NumberOctets.{eight_octets, of_length-items}
use Rattle.avp_dict.proofs.value.octets.read_integer64.Goals as goal

pub returns-in-len8 : goal.returns-in-len8
returns-in-len8 c =
    ap (λ (n : ℕ). Some (Int n)) (c.from_be_bytes.ensures ∙ eight_octets _ _ _ _ _ _ _ _)
    ∙ of_length-items 8 number_value c.args.octets.now (omega arith)
