-- How far a replay of records of lines has come.
use Rattle.std.specs.Prelude.{◌≡◌, ℕ, ℤ, List, ◌++◌, Option, None, Some, ⊤}
use Rattle.radpolicy_replay_records.specs.TextReplays.{IsReplayed}
use Rattle.radpolicy_replay_records.specs.declared.replays.Replay.{Replay}
use Rattle.radpolicy_replay_records.specs.declared.summaries.Summary.{Summary}
use Rattle.radpolicy_traffic.specs.declared.records.Record.{Record}

-- Where the records are known: some were given and some are left, and what is to be written for those that were given
-- was written.
abbrev pub HasTold : Replay → Option ℤ → Option (List Record) → Option (List Record) → Summary
    → Option (List ℕ) → Option (List ℕ) → Type 0
HasTold replay offset None left summary old new = ⊤
HasTold replay offset (Some all) left summary old new = (told rest : List Record)
    × (all ≡ told ++ rest) × (left ≡ Some rest) × IsReplayed replay offset told summary old new
