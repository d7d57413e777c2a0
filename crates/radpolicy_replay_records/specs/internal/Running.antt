-- Which policies the runners of a replay run.
use Rattle.std.specs.Prelude.{◌≡◌, Option, None, Some}
use Rattle.radpolicy.specs.Starts.{Prepared}
use Rattle.radpolicy_record_answers.specs.declared.comparisons.Against.{Against}
use Rattle.radpolicy_record_answers.specs.declared.comparisons.Against.TheVariants.{Captured, Policy}
use Rattle.radpolicy_record_answers.specs.declared.comparisons.Comparison.{Comparison}
use Rattle.radpolicy_replay_records.specs.declared.replays.Replay.{Replay}
use Rattle.radpolicy_replay_records.specs.declared.runners.Runners.{Runners}

-- the policy with whose answers those of this one are compared; where there is none, this one
abbrev pub policy_against : Prepared → Against → Prepared
policy_against own (Policy policy) = policy.now
policy_against own Captured = own

abbrev pub policy_beside : Prepared → Option Comparison → Prepared
policy_beside own None = own
policy_beside own (Some comparison) = policy_against own comparison.against

-- one runs the policy of a replay, and the other the one with which it is compared so
pub record AreFor (replay : Replay) (comparison : Option Comparison) (runners : Runners) : Type 0 where
  pub own : runners.own ≡ replay.policy.now
  pub beside : runners.beside ≡ policy_beside replay.policy.now comparison

-- the runners of a replay
abbrev pub AreOf : Replay → Runners → Type 0
AreOf replay runners = AreFor replay replay.comparison runners
