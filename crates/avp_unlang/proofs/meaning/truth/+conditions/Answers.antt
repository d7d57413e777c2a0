use Rattle.std.proofs.Common.{rules, arith}
use Rattle.avp_unlang.specs.declared.tree.Cond.TheViews.{the_lemmas}
use Rattle.avp_unlang.proofs.Truths.{comparable_any, comparable_all, comparable_not}
use Rattle.avp_unlang.proofs.meaning.truth.+conditions.Goals as goal

pub holds-any_holds-requires : goal.holds-any_holds-requires
holds-any_holds-requires g t c κs within = (search (rules, the_lemmas), (search rules, grind (arith, comparable_any)))

pub holds-all_hold-requires : goal.holds-all_hold-requires
holds-all_hold-requires g t c κs within = (search (rules, the_lemmas), (search rules, grind (arith, comparable_all)))

pub holds-holds-requires : goal.holds-holds-requires
holds-holds-requires g t c κs within = (search (rules, the_lemmas), (search rules, grind (arith, comparable_not)))
