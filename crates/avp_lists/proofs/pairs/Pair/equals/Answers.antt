use Rattle.std.proofs.Common.{◌≡◌, ap, sym, ◌∙◌, rules}
use Rattle.avp_lists.specs.declared.pairs.Pair.{Pair}
use Rattle.avp_lists.specs.Pairs.{pair_eq}
use Rattle.avp_lists.proofs.Equality.{same_pair, pair_eq-same}
use Rattle.avp_lists.proofs.pairs.Pair.equals.Goals as goal

-- the derived test is `pair_eq`, which decides equality
pub returns-clause-equal : goal.returns-clause-equal
returns-clause-equal c =
    let p = c.args.self.now in
    let q = c.args.other.now in
    let test : c.eq.result ≡ pair_eq p q = search rules in
    (λ h. same_pair p q (sym test ∙ h), λ e. test ∙ ap (λ (r : Pair). pair_eq p r) (sym e) ∙ pair_eq-same p)
