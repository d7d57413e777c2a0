use Rattle.std.proofs.Common.{◌≡◌, ap, map, sym, ◌∙◌}
use Rattle.server_unlang.specs.Running.{after_case, after_inner, in_order, run}
use Rattle.server_unlang.proofs.Runs.{block_none, block_some, case_none, case_some}
use Rattle.server_unlang.proofs.servers.Server.+runs.Goals as goal

pub run_block-returns-then-is_empty : goal.run_block-returns-then-is_empty
run_block-returns-then-is_empty t c =
    sym (block_none c.args.self.now c.args.actions.now c.args.block.now c.args.frame (sym c.is_empty.ensures ∙ c.if-is_empty.true))

pub run_block-returns : goal.run_block-returns
run_block-returns t c =
    let w = c.args.self.now in
    c.after_inner.ensures
    ∙ ap (after_inner w c.args.actions.now c.args.frame.place) (c.in_ok-inner.ensures ∙ ap (in_order (map (run w) c.args.block.now)) c.entered.ensures)
    ∙ sym (block_some w c.args.actions.now c.args.block.now c.args.frame (sym c.is_empty.ensures ∙ c.if-is_empty.false))

pub run_case-returns-then-is_empty : goal.run_case-returns-then-is_empty
run_case-returns-then-is_empty t c =
    c.empty_case.ensures ∙ sym (case_none c.args.self.now c.args.block.now c.args.frame (sym c.is_empty.ensures ∙ c.if-is_empty.true))

pub run_case-returns : goal.run_case-returns
run_case-returns t c =
    let w = c.args.self.now in
    c.after_case.ensures
    ∙ ap (after_case c.args.frame.place) (c.in_ok-inner.ensures ∙ ap (in_order (map (run w) c.args.block.now)) c.entered.ensures)
    ∙ sym (case_some w c.args.block.now c.args.frame (sym c.is_empty.ensures ∙ c.if-is_empty.false))
