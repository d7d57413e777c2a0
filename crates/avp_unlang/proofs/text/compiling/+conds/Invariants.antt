use Rattle.std.proofs.Common.{IsTrue, take}
use Rattle.std.specs.List.{list_all}
use Rattle.avp_unlang.specs.PolicyPatterns.{AreKept, cond_patterns_pass, is_among}
use Rattle.avp_unlang.proofs.text.compiling.+conds.Given as goal

abbrev pub invariant-compile_conds-loop-cond : goal.invariant-compile_conds-loop-cond
invariant-compile_conds-loop-cond l = record {
  pass : IsTrue (list_all (cond_patterns_pass (is_among l.compiled)) (take l.cond-index l.conds));
  kept : AreKept l.fn.compiled l.compiled;
}
