use Rattle.avp_dict.specs.Names.{named}
use Rattle.avp_dict.specs.Requests.{pair_named, refusal_named}
use Rattle.avp_dict.proofs.OneReading.{refused_once}
use Rattle.avp_dict.proofs.dictionaries.Dictionary.refused_once.Goals as goal

pub returns : goal.returns
returns c =
    let d = c.args.self.now in
    λ kind other place also some some' first second.
    refused_once (λ name. named name d) (λ target value. pair_named d value target) (λ target value. refusal_named d value target)
    c.args.text.now place also first.within second.within first.filled second.filled kind other some some' first.refused second.refused
