use Rattle.std.proofs.Common.{◌∙◌, arith, sym}
use Rattle.radpolicy.proofs.FittingLists.{all_fit}
use Rattle.radpolicy.proofs.starts.pairs_refusal.Goals as goal

pub returns-in-None-2-clause-none : goal.returns-in-None-2-clause-none
returns-in-None-2-clause-none c = record {
  fit = all_fit c.args.dictionary.now c.args.pairs.now (sym c.first_misfit.ensures ∙ c.in-None.is);
  few = omega (arith, c.if-pairs-gt-MAX_PAIRS.false);
}
