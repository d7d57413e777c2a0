-- The steps of a run by what they did, and the positions that are looked for among them.
use Rattle.std.specs.Prelude.{ℕ, ◌+◌, ◌-◌, min, Bool, true, false, not, ◌==◌, List, drop, take, length, Option, None, Some}
use Rattle.std.specs.List.{list_any, position_or_len, suffix_len}
use Rattle.std.specs.Option.{option_map_or}
use Rattle.avp_step.specs.Trace.{Entry}
use Rattle.avp_step.specs.declared.labels.Label.{Label}
use Rattle.avp_step.specs.declared.labels.Label.TheVariants as label
use Rattle.avp_unlang.specs.declared.codes.Code.{Code}
use Rattle.avp_unlang.specs.declared.codes.Code.TheVariants as code
use Rattle.radpolicy_walk_commands.specs.declared.steps.Step.{Step}

-- what an entry of the trace did, and the last code after it
abbrev pub step_of : Entry → Step
step_of entry = record { label = entry.label; code = entry.outcome.code }

-- ---- lines

-- the line of the policy's text that a step is on; the start is on none
abbrev pub line_of : Label → Option ℕ
line_of label.Start = None
line_of (label.Line n) = Some n
line_of (label.Failed n reason) = Some n
line_of (label.If n truth) = Some n
line_of (label.Word n) = Some n
line_of (label.Enter n) = Some n
line_of (label.Commit n) = Some n
line_of (label.Rollback n) = Some n

abbrev pub is_one_of : List ℕ → ℕ → Bool
is_one_of lines n = list_any (λ own. own == n) lines

-- a step on one of these lines
abbrev pub is_on_one_of : List ℕ → Step → Bool
is_on_one_of lines step = option_map_or (is_one_of lines) (line_of step.label) false

abbrev pub is_on : ℕ → Step → Bool
is_on line step = option_map_or (λ n. n == line) (line_of step.label) false

-- a step of the run is on the line
abbrev pub has_step_on : ℕ → List Step → Bool
has_step_on line steps = list_any (is_on line) steps

-- ---- failures

-- a word that refuses
abbrev pub is_refusal : Code → Bool
is_refusal code.Fail = true
is_refusal code.Reject = true
is_refusal _ = false

abbrev pub is_failure_of : Label → Code → Bool
is_failure_of (label.Failed n reason) last = true
is_failure_of (label.Rollback n) last = true
is_failure_of (label.Word n) last = is_refusal last
is_failure_of _ last = false

-- an update line that failed, a transaction that was taken back, or the word `fail` or `reject`
abbrev pub is_failure : Step → Bool
is_failure step = is_failure_of step.label step.code

-- ---- positions

-- the next position after k whose step passes, else the last one
abbrev pub next_where : (Step → Bool) → List Step → ℕ → ℕ
next_where passes steps k =
    min (k + 1 + position_or_len passes (drop (k + 1) steps)) (length steps - 1)

-- the nearest position before k whose step passes, else the start
abbrev pub previous_where : (Step → Bool) → List Step → ℕ → ℕ
previous_where passes steps k = k - 1 - suffix_len (λ step. not (passes step)) (take k steps)
