use Rattle.std.proofs.Common.{IsTrue, take}
use Rattle.std.specs.List.{list_all}
use Rattle.avp_unlang.specs.PolicyPatterns.{AreKept, branch_patterns_pass, is_among, statement_patterns_pass}
use Rattle.avp_unlang.proofs.text.compiling.+blocks.Given as goal

abbrev pub invariant-compile_branches-loop-branch : goal.invariant-compile_branches-loop-branch
invariant-compile_branches-loop-branch l = record {
  pass : IsTrue (list_all (branch_patterns_pass (is_among l.compiled)) (take l.branch-index l.branches));
  kept : AreKept l.fn.compiled l.compiled;
}

abbrev pub invariant-compile_block-loop-statement : goal.invariant-compile_block-loop-statement
invariant-compile_block-loop-statement l = record {
  pass : IsTrue (list_all (statement_patterns_pass (is_among l.compiled)) (take l.statement-index l.statements));
  kept : AreKept l.fn.compiled l.compiled;
}
