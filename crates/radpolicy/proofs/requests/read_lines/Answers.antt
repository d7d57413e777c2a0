use Rattle.std.proofs.Common.{◌∙◌, ap}
use Rattle.std.proofs.lemmas.Result.{err_from_is_err_and}
use Rattle.avp_dict.specs.AttributeNumbers.{proxy_state}
use Rattle.avp_dict.specs.Sent.{is_clean}
use Rattle.avp_lists.specs.Instances.{instances}
use Rattle.avp_lists.specs.declared.pairs.AttrId.TheVariants.{Plain}
use Rattle.radpolicy.proofs.Replying.{instances_clean}
use Rattle.radpolicy.proofs.requests.read_lines.Goals as goal

pub returns-clause-proxies : goal.returns-clause-proxies
returns-clause-proxies c =
    ap (λ pairs. is_clean (instances (Plain proxy_state) pairs) c.args.dictionary.now) c.from_vec.ensures
    ∙ instances_clean c.args.dictionary.now (Plain proxy_state) c.in_ok-read_request.field-0.items c.in_ok-read_request.ensures.clean

pub returns-in_err-read_request-clause-refused : goal.returns-in_err-read_request-clause-refused
returns-in_err-read_request-clause-refused c =
    let p = err_from_is_err_and c.from_residual.result c.from_residual.ensures.1 in
    let refused = c.in_err-read_request.ensures in
    rw (p.1, p.2) (λ some. record {
      none = refused.refused some;
      first = record { within = refused.within; filled = refused.filled; refused = refused.place };
      line = refused.line;
      some = some;
    })
