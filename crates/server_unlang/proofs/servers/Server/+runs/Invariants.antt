use Rattle.std.proofs.Common.{◌≡◌, drop, map}
use Rattle.server_unlang.specs.Running.{any_case, case_choice, choice, first_case, first_true, in_order, run}
use Rattle.server_unlang.proofs.servers.Server.+runs.Given as goal

abbrev pub invariant-run_first_true-loop-branch : goal.invariant-run_first_true-loop-branch
invariant-run_first_true-loop-branch l =
    first_true l.self (map (choice l.self) (drop l.branch-index l.branches)) l.frame
    ≡ first_true l.self (map (choice l.self) l.branches) l.fn.frame

abbrev pub invariant-run_any_case-loop-case : goal.invariant-run_any_case-loop-case
invariant-run_any_case-loop-case l =
    any_case (map (case_choice l.self) (drop l.case-index l.cases)) l.frame
    ≡ any_case (map (case_choice l.self) l.cases) l.fn.frame

abbrev pub invariant-run_first_case-loop-case : goal.invariant-run_first_case-loop-case
invariant-run_first_case-loop-case l =
    first_case l.value (map (case_choice l.self) (drop l.case-index l.cases)) (any_case (map (case_choice l.self) l.cases)) l.frame
    ≡ first_case l.value (map (case_choice l.self) l.cases) (any_case (map (case_choice l.self) l.cases)) l.fn.frame

abbrev pub invariant-run_in_order-loop-statement : goal.invariant-run_in_order-loop-statement
invariant-run_in_order-loop-statement l =
    in_order (map (run l.self) (drop l.statement-index l.statements)) l.frame
    ≡ in_order (map (run l.self) l.statements) l.fn.frame
