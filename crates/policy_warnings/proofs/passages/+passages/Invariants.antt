use Rattle.std.proofs.Common.{◌≡◌, ◌++◌, drop, map}
use Rattle.policy_warnings.specs.Counts.{either_way}
use Rattle.policy_warnings.specs.Passages.{Passage, block_passage, chain, choice}
use Rattle.policy_warnings.proofs.passages.+passages.Given as goal

abbrev pub invariant-pass_block-loop-statement : goal.invariant-pass_block-loop-statement
invariant-pass_block-loop-statement l =
    ((block_passage l.mention (drop l.statement-index l.block)).after l.after ≡ (block_passage l.mention l.block).after l.fn.known)
    × (l.warnings.items ++ (block_passage l.mention (drop l.statement-index l.block)).warned l.after
    ≡ l.fn.warnings.items ++ (block_passage l.mention l.block).warned l.fn.known)

abbrev pub invariant-pass_branches-loop-branch : goal.invariant-pass_branches-loop-branch
invariant-pass_branches-loop-branch l =
    ((otherwise : Passage) → either_way l.after ((chain l.mention (map (choice l.mention) (drop l.branch-index l.branches)) otherwise).after l.rest)
    ≡ (chain l.mention (map (choice l.mention) l.branches) otherwise).after l.fn.known)
    × ((otherwise : Passage) → l.warnings.items ++ (chain l.mention (map (choice l.mention) (drop l.branch-index l.branches)) otherwise).warned l.rest
    ≡ l.fn.warnings.items ++ (chain l.mention (map (choice l.mention) l.branches) otherwise).warned l.fn.known)
