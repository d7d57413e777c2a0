use Rattle.std.proofs.Common.{◌≡◌, suc, sym, ◌-◌, ◌∙◌, [], refl, inl, inr, subst, arith}
use Rattle.avp_unlang.specs.declared.text.statements.Keyword.TheVariants as keyword
use Rattle.avp_unlang.specs.Conditions.{Closed, Within}
use Rattle.avp_unlang.specs.Forms.{Chain, Gives, While, Refuses}
use Rattle.avp_unlang.specs.Statements.{BlockIs, BranchIs, Nested, Otherwise, StatementFrom, begins_word, branch_of}
use Rattle.avp_unlang.specs.Between.{Counts, Follows}
use Rattle.avp_unlang.specs.declared.tree.Statement.TheVariants.{Transaction}
use Rattle.avp_unlang.specs.RefusedConditions.{ClosedFails, WithinFails}
use Rattle.avp_unlang.specs.RefusedForms.{OthersFails, Tells, WhileFails, left_at}
use Rattle.avp_unlang.specs.RefusedStatements.{BlockFails, BranchFails, BranchesFail, IfFails, InsideFails, NestedFails}
use Rattle.avp_unlang.proofs.RefusedReads.{deep_inside, tells}
use Rattle.avp_unlang.proofs.RefusedTokens.{statement_tells}
use Rattle.avp_unlang.proofs.Chains.{chain_stops, front_one, front_more, front_done, front_stops}
use Rattle.avp_unlang.proofs.Determined.{exits, then_stops, then_on, after_stops, after_on}
use Rattle.avp_unlang.proofs.LinesOne.{counts_sure, follows_sure}
use Rattle.avp_unlang.proofs.ValueRuns.{run_more, run_done, run_stops}
use Rattle.avp_unlang.proofs.StatementsOne.{open_sign, elsif_word, Blocked, Asked, Opened, Ending, Enclosed, condition_one, branch_one, chained_one, nested_one, unopened, inside_refused, unended, block_reads, otherwise_refused, statement_reads}
use Rattle.avp_unlang.proofs.text.statements.+statements.Goals as goal

pub block-returns-in_err-start-clause-read : goal.block-returns-in_err-start-clause-read
block-returns-in_err-start-clause-read t c =
    exits (BlockIs c.args.depth begins_word (Nested c.args.profile c.args.dictionary.now c.args.depth) c.args.at) _ _ c.from_residual.ensures.1
    (unopened c.args.depth begins_word (Nested c.args.profile c.args.dictionary.now c.args.depth) c.args.at c.in_err-start.field-0.0 c.in_err-start.ensures.taken)

pub block-returns-in_err-found-clause-read : goal.block-returns-in_err-found-clause-read
block-returns-in_err-found-clause-read t c =
    let same : suc (c.args.depth - 1) ≡ c.args.depth = omega (arith, c.if-depth-eq0.false) in
    exits (BlockIs c.args.depth begins_word (Nested c.args.profile c.args.dictionary.now c.args.depth) c.args.at) _ _ c.from_residual-in_err-found.ensures.1
    (inside_refused c.args.depth begins_word (Nested c.args.profile c.args.dictionary.now c.args.depth) c.args.at c.in_ok-start.start c.in_err-found.field-0.0 c.in_ok-start.ensures.taken
    (subst (λ k. Refuses (While begins_word (Nested c.args.profile c.args.dictionary.now k) c.in_ok-start.start) c.in_err-found.field-0.0) same c.in_err-found.ensures.read))

pub block-returns-in_err-rest-clause-read : goal.block-returns-in_err-rest-clause-read
block-returns-in_err-rest-clause-read t c =
    let same : suc (c.args.depth - 1) ≡ c.args.depth = omega (arith, c.if-depth-eq0.false) in
    exits (BlockIs c.args.depth begins_word (Nested c.args.profile c.args.dictionary.now c.args.depth) c.args.at) _ _ c.from_residual-in_err-rest.ensures.1
    (unended c.args.depth begins_word (Nested c.args.profile c.args.dictionary.now c.args.depth) (nested_one c.args.profile c.args.dictionary.now c.args.depth) c.args.at c.in_ok-start.start c.in_ok-found.found c.in_ok-found.end c.in_err-rest.field-0.0 c.in_ok-start.ensures.taken
    (subst (λ k. While begins_word (Nested c.args.profile c.args.dictionary.now k) c.in_ok-start.start c.in_ok-found.found c.in_ok-found.end) same c.in_ok-found.ensures.read) c.in_err-rest.ensures.taken)

pub block-returns-clause-read : goal.block-returns-clause-read
block-returns-clause-read t c =
    let same : suc (c.args.depth - 1) ≡ c.args.depth = omega (arith, c.if-depth-eq0.false) in
    block_reads c.args.depth begins_word (Nested c.args.profile c.args.dictionary.now c.args.depth) c.args.at c.in_ok-start.start c.in_ok-found.found c.in_ok-found.end c.in_ok-rest.rest (omega (arith, c.if-depth-eq0.false)) c.in_ok-start.ensures.taken
    (subst (λ k. While begins_word (Nested c.args.profile c.args.dictionary.now k) c.in_ok-start.start c.in_ok-found.found c.in_ok-found.end) same c.in_ok-found.ensures.read) c.in_ok-rest.ensures.taken

pub branch-returns-in_err-opened-clause-read : goal.branch-returns-in_err-opened-clause-read
branch-returns-in_err-opened-clause-read t c =
    exits (BranchIs c.args.profile c.args.dictionary.now c.args.depth (Nested c.args.profile c.args.dictionary.now c.args.depth) c.args.at) _ _ c.from_residual-in_err-opened.ensures.1
    (after_on (Counts 1) (Opened c.args.profile c.args.dictionary.now c.args.depth (Nested c.args.profile c.args.dictionary.now c.args.depth) (nested_one c.args.profile c.args.dictionary.now c.args.depth) c.args.at.line) (counts_sure 1) c.args.at c.in_ok-start.start c.in_ok-start.ensures.taken c.in_err-opened.field-0.0
    (after_stops (Follows open_sign) (Asked c.args.profile c.args.dictionary.now c.args.depth (Nested c.args.profile c.args.dictionary.now c.args.depth) (nested_one c.args.profile c.args.dictionary.now c.args.depth) c.args.at.line) c.in_ok-start.start c.in_err-opened.field-0.0 c.in_err-opened.ensures.taken))

pub branch-returns-in_err-cond-clause-read : goal.branch-returns-in_err-cond-clause-read
branch-returns-in_err-cond-clause-read t c =
    exits (BranchIs c.args.profile c.args.dictionary.now c.args.depth (Nested c.args.profile c.args.dictionary.now c.args.depth) c.args.at) _ _ c.from_residual-in_err-cond.ensures.1
    (after_on (Counts 1) (Opened c.args.profile c.args.dictionary.now c.args.depth (Nested c.args.profile c.args.dictionary.now c.args.depth) (nested_one c.args.profile c.args.dictionary.now c.args.depth) c.args.at.line) (counts_sure 1) c.args.at c.in_ok-start.start c.in_ok-start.ensures.taken c.in_err-cond.field-0.0
    (after_on (Follows open_sign) (Asked c.args.profile c.args.dictionary.now c.args.depth (Nested c.args.profile c.args.dictionary.now c.args.depth) (nested_one c.args.profile c.args.dictionary.now c.args.depth) c.args.at.line) (follows_sure open_sign) c.in_ok-start.start c.in_ok-opened.opened c.in_ok-opened.ensures.taken c.in_err-cond.field-0.0
    (then_stops (Closed (Within c.args.profile c.args.dictionary.now c.args.depth)) (Blocked c.args.profile c.args.dictionary.now c.args.depth (Nested c.args.profile c.args.dictionary.now c.args.depth) (nested_one c.args.profile c.args.dictionary.now c.args.depth) c.args.at.line) c.in_ok-opened.opened c.in_err-cond.field-0.0 c.in_err-cond.ensures.read)))

pub branch-returns-in_err-block-clause-read : goal.branch-returns-in_err-block-clause-read
branch-returns-in_err-block-clause-read t c =
    exits (BranchIs c.args.profile c.args.dictionary.now c.args.depth (Nested c.args.profile c.args.dictionary.now c.args.depth) c.args.at) _ _ c.from_residual-in_err-block.ensures.1
    (after_on (Counts 1) (Opened c.args.profile c.args.dictionary.now c.args.depth (Nested c.args.profile c.args.dictionary.now c.args.depth) (nested_one c.args.profile c.args.dictionary.now c.args.depth) c.args.at.line) (counts_sure 1) c.args.at c.in_ok-start.start c.in_ok-start.ensures.taken c.in_err-block.field-0.0
    (after_on (Follows open_sign) (Asked c.args.profile c.args.dictionary.now c.args.depth (Nested c.args.profile c.args.dictionary.now c.args.depth) (nested_one c.args.profile c.args.dictionary.now c.args.depth) c.args.at.line) (follows_sure open_sign) c.in_ok-start.start c.in_ok-opened.opened c.in_ok-opened.ensures.taken c.in_err-block.field-0.0
    (then_on (Closed (Within c.args.profile c.args.dictionary.now c.args.depth)) (Blocked c.args.profile c.args.dictionary.now c.args.depth (Nested c.args.profile c.args.dictionary.now c.args.depth) (nested_one c.args.profile c.args.dictionary.now c.args.depth) c.args.at.line) (condition_one c.args.profile c.args.dictionary.now c.args.depth (Nested c.args.profile c.args.dictionary.now c.args.depth) (nested_one c.args.profile c.args.dictionary.now c.args.depth)) c.in_ok-opened.opened c.in_ok-cond.cond c.in_ok-cond.next c.in_ok-cond.ensures.read c.in_err-block.field-0.0
    (then_stops (BlockIs c.args.depth begins_word (Nested c.args.profile c.args.dictionary.now c.args.depth)) (λ block. Gives (branch_of c.args.at.line c.in_ok-cond.cond block)) c.in_ok-cond.next c.in_err-block.field-0.0 c.in_err-block.ensures.read))))

pub branches-returns-in_err-first-clause-read : goal.branches-returns-in_err-first-clause-read
branches-returns-in_err-first-clause-read t c =
    exits (Chain (Follows elsif_word) (BranchIs c.args.profile c.args.dictionary.now c.args.depth (Nested c.args.profile c.args.dictionary.now c.args.depth)) c.args.at) _ _ c.from_residual.ensures.1
    (chain_stops (Follows elsif_word) (BranchIs c.args.profile c.args.dictionary.now c.args.depth (Nested c.args.profile c.args.dictionary.now c.args.depth)) c.args.at c.in_err-first.field-0.0 c.in_err-first.ensures.read)

pub branches-loop-next-init : goal.branches-loop-next-init
branches-loop-next-init t c =
    record {
      front =
          front_one (Follows elsif_word) (BranchIs c.args.profile c.args.dictionary.now c.args.depth (Nested c.args.profile c.args.dictionary.now c.args.depth)) (branch_one c.args.profile c.args.dictionary.now c.args.depth (Nested c.args.profile c.args.dictionary.now c.args.depth) (nested_one c.args.profile c.args.dictionary.now c.args.depth)) c.args.at c.in_ok-first.first c.in_ok-first.rest
          c.in_ok-first.ensures.read [] c.in_ok-branches.branches.items refl c.in_ok-branches.ensures.items;
      within = c.in_ok-first.ensures.shorter;
      refused = λ left kind h. inr (c.in_ok-first.first, c.in_ok-first.rest, c.in_ok-first.ensures.read, h);
    }

pub branches-returns-in_err-branch-clause-read : goal.branches-returns-in_err-branch-clause-read
branches-returns-in_err-branch-clause-read t c =
    exits (Chain (Follows elsif_word) (BranchIs c.args.profile c.args.dictionary.now c.args.depth (Nested c.args.profile c.args.dictionary.now c.args.depth)) c.args.at) _ _ c.from_residual-in_err-branch.ensures.1
    (front_stops (Follows elsif_word) (BranchIs c.args.profile c.args.dictionary.now c.args.depth (Nested c.args.profile c.args.dictionary.now c.args.depth)) (follows_sure elsif_word) c.args.at c.loop-next.branches.items c.loop-next.rest c.in-Some.next
    c.loop-next.invariant.front c.in-Some.ensures.found c.in_err-branch.field-0.0 c.in_err-branch.ensures.read)

pub branches-loop-next-preserved : goal.branches-loop-next-preserved
branches-loop-next-preserved t c =
    record {
      front =
          front_more (Follows elsif_word) (BranchIs c.args.profile c.args.dictionary.now c.args.depth (Nested c.args.profile c.args.dictionary.now c.args.depth)) (follows_sure elsif_word) (branch_one c.args.profile c.args.dictionary.now c.args.depth (Nested c.args.profile c.args.dictionary.now c.args.depth) (nested_one c.args.profile c.args.dictionary.now c.args.depth)) c.args.at c.loop-next.branches.items c.loop-next.rest
          c.in-Some.next c.in_ok-branch.branch c.in_ok-branch.end c.loop-next.invariant.front c.in-Some.ensures.found c.in_ok-branch.ensures.read c.push.new.self.items c.in_ok-push.ensures.items;
      within = omega (arith, c.in-Some.ensures.shorter, c.in_ok-branch.ensures.shorter, c.loop-next.invariant.within);
      refused = λ left kind h. c.loop-next.invariant.refused left kind (OthersFails.later c.in-Some.next c.in_ok-branch.branch c.in_ok-branch.end c.in-Some.ensures.found c.in_ok-branch.ensures.read h);
    }

pub branches-returns-clause-read : goal.branches-returns-clause-read
branches-returns-clause-read t c =
    subst (λ found. Chain (Follows elsif_word) (BranchIs c.args.profile c.args.dictionary.now c.args.depth (Nested c.args.profile c.args.dictionary.now c.args.depth)) c.args.at found c.loop-next.rest) (sym c.from_vec.ensures)
    (front_done (Follows elsif_word) (BranchIs c.args.profile c.args.dictionary.now c.args.depth (Nested c.args.profile c.args.dictionary.now c.args.depth)) c.args.at c.loop-next.branches.items c.loop-next.rest c.loop-next.invariant.front c.in_default.ensures.none)

pub conditional-returns-in_err-branches-clause-read : goal.conditional-returns-in_err-branches-clause-read
conditional-returns-in_err-branches-clause-read t c =
    exits (StatementFrom c.args.profile c.args.dictionary.now c.args.depth (Nested c.args.profile c.args.dictionary.now c.args.depth) keyword.If c.args.at) _ _ c.from_residual.ensures.1
    (then_stops (Chain (Follows elsif_word) (BranchIs c.args.profile c.args.dictionary.now c.args.depth (Nested c.args.profile c.args.dictionary.now c.args.depth))) (Ending c.args.profile c.args.dictionary.now c.args.depth (Nested c.args.profile c.args.dictionary.now c.args.depth) (nested_one c.args.profile c.args.dictionary.now c.args.depth)) c.args.at c.in_err-branches.field-0.0 c.in_err-branches.ensures.read)

pub conditional-returns-in_err-otherwise-clause-read : goal.conditional-returns-in_err-otherwise-clause-read
conditional-returns-in_err-otherwise-clause-read t c =
    exits (StatementFrom c.args.profile c.args.dictionary.now c.args.depth (Nested c.args.profile c.args.dictionary.now c.args.depth) keyword.If c.args.at) _ _ c.from_residual-in_err-otherwise.ensures.1
    (then_on (Chain (Follows elsif_word) (BranchIs c.args.profile c.args.dictionary.now c.args.depth (Nested c.args.profile c.args.dictionary.now c.args.depth))) (Ending c.args.profile c.args.dictionary.now c.args.depth (Nested c.args.profile c.args.dictionary.now c.args.depth) (nested_one c.args.profile c.args.dictionary.now c.args.depth)) (chained_one c.args.profile c.args.dictionary.now c.args.depth (Nested c.args.profile c.args.dictionary.now c.args.depth) (nested_one c.args.profile c.args.dictionary.now c.args.depth)) c.args.at c.in_ok-branches.branches c.in_ok-branches.mid c.in_ok-branches.ensures.read c.in_err-otherwise.field-0.0
    (λ some s rest h. c.in_err-otherwise.ensures.read some h.0 h.1 h.2))

pub otherwise-returns-in_err-found-in-Some-clause-read : goal.otherwise-returns-in_err-found-in-Some-clause-read
otherwise-returns-in_err-found-in-Some-clause-read t c =
    exits (Otherwise c.args.depth (Nested c.args.profile c.args.dictionary.now c.args.depth) c.args.at) _ _ c.from_residual.ensures.1
    (otherwise_refused c.args.profile c.args.dictionary.now c.args.depth (Nested c.args.profile c.args.dictionary.now c.args.depth) (nested_one c.args.profile c.args.dictionary.now c.args.depth) c.args.at c.in-Some.next c.in_err-found-in-Some.field-0.0 c.in-Some.ensures.found c.in_err-found-in-Some.ensures.read)

pub transaction-returns-in_err-found-clause-read : goal.transaction-returns-in_err-found-clause-read
transaction-returns-in_err-found-clause-read t c =
    exits (StatementFrom c.args.profile c.args.dictionary.now c.args.depth (Nested c.args.profile c.args.dictionary.now c.args.depth) keyword.Transaction c.args.at) _ _ c.from_residual-in_err-found.ensures.1
    (after_on (Counts 2) (Enclosed c.args.profile c.args.dictionary.now c.args.depth (Nested c.args.profile c.args.dictionary.now c.args.depth) (nested_one c.args.profile c.args.dictionary.now c.args.depth) c.args.at.line) (counts_sure 2) c.args.at c.in_ok-start.start c.in_ok-start.ensures.taken c.in_err-found.field-0.0
    (then_stops (BlockIs c.args.depth begins_word (Nested c.args.profile c.args.dictionary.now c.args.depth)) (λ block. Gives (Transaction c.args.at.line block)) c.in_ok-start.start c.in_err-found.field-0.0 c.in_err-found.ensures.read))

pub statement-returns-in-If-clause-read : goal.statement-returns-in-If-clause-read
statement-returns-in-If-clause-read t c =
    statement_reads c.args.profile c.args.dictionary.now c.args.depth (Nested c.args.profile c.args.dictionary.now c.args.depth) c.args.at c.next-token.result keyword.If c.conditional.result c.next-token.ensures.same (sym c.keyword_in.ensures ∙ c.in-If.is) c.conditional.ensures.read

pub statement-returns-in-Transaction-clause-read : goal.statement-returns-in-Transaction-clause-read
statement-returns-in-Transaction-clause-read t c =
    statement_reads c.args.profile c.args.dictionary.now c.args.depth (Nested c.args.profile c.args.dictionary.now c.args.depth) c.args.at c.next-token.result keyword.Transaction c.transaction.result c.next-token.ensures.same (sym c.keyword_in.ensures ∙ c.in-Transaction.is) c.transaction.ensures.read

pub statement-returns-in-Update-clause-read : goal.statement-returns-in-Update-clause-read
statement-returns-in-Update-clause-read t c =
    statement_reads c.args.profile c.args.dictionary.now c.args.depth (Nested c.args.profile c.args.dictionary.now c.args.depth) c.args.at c.next-token.result keyword.Update c.update.result c.next-token.ensures.same (sym c.keyword_in.ensures ∙ c.in-Update.is) c.update.ensures.read

pub statement-returns-in-Code-clause-read : goal.statement-returns-in-Code-clause-read
statement-returns-in-Code-clause-read t c =
    statement_reads c.args.profile c.args.dictionary.now c.args.depth (Nested c.args.profile c.args.dictionary.now c.args.depth) c.args.at c.next-token.result (keyword.Code c.in-Code.code) c.word.result c.next-token.ensures.same (sym c.keyword_in.ensures ∙ c.in-Code.is) c.word.ensures.read

pub statements-returns-in_err-found-clause-read : goal.statements-returns-in_err-found-clause-read
statements-returns-in_err-found-clause-read t c =
    exits (While begins_word (Nested c.args.profile c.args.dictionary.now (suc c.args.depth)) c.args.at) _ _ c.from_residual.ensures.1
    (run_stops begins_word (Nested c.args.profile c.args.dictionary.now (suc c.args.depth)) c.args.at c.loop-alloc.statements.items c.loop-alloc.rest c.loop-alloc.invariant.run (sym c.loop-alloc-test.ensures) c.in_err-found.field-0.0 c.in_err-found.ensures.read)

pub statements-loop-alloc-preserved : goal.statements-loop-alloc-preserved
statements-loop-alloc-preserved t c =
    record {
      run =
          run_more begins_word (Nested c.args.profile c.args.dictionary.now (suc c.args.depth)) (nested_one c.args.profile c.args.dictionary.now (suc c.args.depth)) c.args.at c.loop-alloc.statements.items c.loop-alloc.rest c.in_ok-found.found c.in_ok-found.end
          c.loop-alloc.invariant.run (sym c.loop-alloc-test.ensures) c.in_ok-found.ensures.read c.push.new.self.items c.in_ok-push.ensures.items;
      within = omega (arith, c.in_ok-found.ensures.shorter, c.loop-alloc.invariant.within);
      refused = λ left kind h. c.loop-alloc.invariant.refused left kind (WhileFails.later c.in_ok-found.found c.in_ok-found.end (sym c.loop-alloc-test.ensures) c.in_ok-found.ensures.read h);
    }

pub statements-returns-clause-read : goal.statements-returns-clause-read
statements-returns-clause-read t c =
    subst (λ found. While begins_word (Nested c.args.profile c.args.dictionary.now (suc c.args.depth)) c.args.at found c.loop-alloc.rest) (sym c.from_vec.ensures)
    (run_done begins_word (Nested c.args.profile c.args.dictionary.now (suc c.args.depth)) c.args.at c.loop-alloc.statements.items c.loop-alloc.rest c.loop-alloc.invariant.run (sym c.loop-alloc-test.ensures))

pub block-returns-in_err-found-clause-refused : goal.block-returns-in_err-found-clause-refused
block-returns-in_err-found-clause-refused t c =
    tells (Tells (BlockFails c.args.depth begins_word (Nested c.args.profile c.args.dictionary.now c.args.depth) (NestedFails c.args.profile c.args.dictionary.now c.args.depth) c.args.at)) _ _ c.from_residual-in_err-found.ensures.1 (λ some. inr (c.in_ok-start.start, c.in_ok-start.ensures.taken, deep_inside (λ k. InsideFails begins_word (Nested c.args.profile c.args.dictionary.now k) (NestedFails c.args.profile c.args.dictionary.now k)) (c.args.depth - 1) c.args.depth (left_at c.args.at) (omega (arith, c.if-depth-eq0.false)) c.in_ok-start.start c.in_err-found.field-0.0.left c.in_err-found.field-0.0.kind (inl (c.in_err-found.ensures.refused some))))

pub block-returns-in_err-rest-clause-refused : goal.block-returns-in_err-rest-clause-refused
block-returns-in_err-rest-clause-refused t c =
    tells (Tells (BlockFails c.args.depth begins_word (Nested c.args.profile c.args.dictionary.now c.args.depth) (NestedFails c.args.profile c.args.dictionary.now c.args.depth) c.args.at)) _ _ c.from_residual-in_err-rest.ensures.1 (λ some. inr (c.in_ok-start.start, c.in_ok-start.ensures.taken, deep_inside (λ k. InsideFails begins_word (Nested c.args.profile c.args.dictionary.now k) (NestedFails c.args.profile c.args.dictionary.now k)) (c.args.depth - 1) c.args.depth (left_at c.args.at) (omega (arith, c.if-depth-eq0.false)) c.in_ok-start.start c.in_err-rest.field-0.0.left c.in_err-rest.field-0.0.kind (inr (c.in_ok-found.found, c.in_ok-found.end, c.in_ok-found.ensures.read, c.in_err-rest.ensures.refused some))))

pub branch-returns-in_err-cond-clause-refused : goal.branch-returns-in_err-cond-clause-refused
branch-returns-in_err-cond-clause-refused t c =
    tells (Tells (BranchFails c.args.profile c.args.dictionary.now c.args.depth (Nested c.args.profile c.args.dictionary.now c.args.depth) (NestedFails c.args.profile c.args.dictionary.now c.args.depth) c.args.begin.left c.args.at)) _ _ c.from_residual-in_err-cond.ensures.1 (λ some. inr (c.in_ok-start.start, c.in_ok-start.ensures.taken, inr (c.in_ok-opened.opened, c.in_ok-opened.ensures.taken, inl (subst (λ k. ClosedFails c.args.depth k (Within c.args.profile c.args.dictionary.now c.args.depth) (WithinFails c.args.profile c.args.dictionary.now c.args.depth) c.in_ok-opened.opened c.in_err-cond.field-0.0.left c.in_err-cond.field-0.0.kind) c.position-sign.ensures.place (c.in_err-cond.ensures.refused some)))))

pub branch-returns-in_err-block-clause-refused : goal.branch-returns-in_err-block-clause-refused
branch-returns-in_err-block-clause-refused t c =
    tells (Tells (BranchFails c.args.profile c.args.dictionary.now c.args.depth (Nested c.args.profile c.args.dictionary.now c.args.depth) (NestedFails c.args.profile c.args.dictionary.now c.args.depth) c.args.begin.left c.args.at)) _ _ c.from_residual-in_err-block.ensures.1 (λ some. inr (c.in_ok-start.start, c.in_ok-start.ensures.taken, inr (c.in_ok-opened.opened, c.in_ok-opened.ensures.taken, inr (c.in_ok-cond.cond, c.in_ok-cond.next, c.in_ok-cond.ensures.read, c.in_err-block.ensures.refused some))))

pub branches-returns-in_err-first-clause-refused : goal.branches-returns-in_err-first-clause-refused
branches-returns-in_err-first-clause-refused t c =
    tells (Tells (BranchesFail c.args.profile c.args.dictionary.now c.args.depth (Nested c.args.profile c.args.dictionary.now c.args.depth) (NestedFails c.args.profile c.args.dictionary.now c.args.depth) c.args.begin.left c.args.at)) _ _ c.from_residual.ensures.1 (λ some. inl (c.in_err-first.ensures.refused some))

pub branches-returns-in_err-branch-clause-refused : goal.branches-returns-in_err-branch-clause-refused
branches-returns-in_err-branch-clause-refused t c =
    tells (Tells (BranchesFail c.args.profile c.args.dictionary.now c.args.depth (Nested c.args.profile c.args.dictionary.now c.args.depth) (NestedFails c.args.profile c.args.dictionary.now c.args.depth) c.args.begin.left c.args.at)) _ _ c.from_residual-in_err-branch.ensures.1 (λ some. c.loop-next.invariant.refused c.in_err-branch.field-0.0.left c.in_err-branch.field-0.0.kind (OthersFails.here c.in-Some.next c.in-Some.ensures.found (subst (λ k. BranchFails c.args.profile c.args.dictionary.now c.args.depth (Nested c.args.profile c.args.dictionary.now c.args.depth) (NestedFails c.args.profile c.args.dictionary.now c.args.depth) k c.in-Some.next c.in_err-branch.field-0.0.left c.in_err-branch.field-0.0.kind) c.position.ensures.place (c.in_err-branch.ensures.refused some))))

pub conditional-returns-in_err-branches-clause-refused : goal.conditional-returns-in_err-branches-clause-refused
conditional-returns-in_err-branches-clause-refused t c =
    tells (Tells (IfFails c.args.profile c.args.dictionary.now c.args.depth (Nested c.args.profile c.args.dictionary.now c.args.depth) (NestedFails c.args.profile c.args.dictionary.now c.args.depth) c.args.begin.left c.args.at)) _ _ c.from_residual.ensures.1 (λ some. inl (c.in_err-branches.ensures.refused some))

pub conditional-returns-in_err-otherwise-clause-refused : goal.conditional-returns-in_err-otherwise-clause-refused
conditional-returns-in_err-otherwise-clause-refused t c =
    tells (Tells (IfFails c.args.profile c.args.dictionary.now c.args.depth (Nested c.args.profile c.args.dictionary.now c.args.depth) (NestedFails c.args.profile c.args.dictionary.now c.args.depth) c.args.begin.left c.args.at)) _ _ c.from_residual-in_err-otherwise.ensures.1 (λ some. inr (c.in_ok-branches.branches, c.in_ok-branches.mid, c.in_ok-branches.ensures.read, c.in_err-otherwise.ensures.refused some))

pub statements-returns-in_err-found-clause-refused : goal.statements-returns-in_err-found-clause-refused
statements-returns-in_err-found-clause-refused t c =
    tells (Tells (WhileFails begins_word (Nested c.args.profile c.args.dictionary.now (suc c.args.depth)) (NestedFails c.args.profile c.args.dictionary.now (suc c.args.depth)) c.args.at)) _ _ c.from_residual.ensures.1 (λ some. c.loop-alloc.invariant.refused c.in_err-found.field-0.0.left c.in_err-found.field-0.0.kind (WhileFails.here (sym c.loop-alloc-test.ensures) (c.in_err-found.ensures.refused some)))

pub statement-returns-in-Update-clause-refused : goal.statement-returns-in-Update-clause-refused
statement-returns-in-Update-clause-refused t c =
    statement_tells c.args.profile c.args.dictionary.now c.update.result c.args.depth (Nested c.args.profile c.args.dictionary.now c.args.depth) (NestedFails c.args.profile c.args.dictionary.now c.args.depth) c.args.at c.next-token.result
    c.position-begin.result.left keyword.Update c.next-token.ensures.same (sym c.keyword_in.ensures ∙ c.in-Update.is) c.position-begin.ensures.place c.update.ensures.refused

pub statement-returns-in-If-clause-refused : goal.statement-returns-in-If-clause-refused
statement-returns-in-If-clause-refused t c =
    statement_tells c.args.profile c.args.dictionary.now c.conditional.result c.args.depth (Nested c.args.profile c.args.dictionary.now c.args.depth) (NestedFails c.args.profile c.args.dictionary.now c.args.depth) c.args.at c.next-token.result
    c.position-begin.result.left keyword.If c.next-token.ensures.same (sym c.keyword_in.ensures ∙ c.in-If.is) c.position-begin.ensures.place c.conditional.ensures.refused
