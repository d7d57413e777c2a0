-- The steps that are still to come, as a list of frames, the innermost first.
use Rattle.std.specs.Prelude.{◌≤◌, ◌<◌, ℕ, ◌+◌, max, Bool, true, ◌&&◌, IsTrue, List, [], ◌∷◌, length, map, Option, Some, None}
use Rattle.std.specs.List.{list_all}
use Rattle.avp_lists.specs.declared.lists.State.{State}
use Rattle.avp_dict.specs.Dictionary.{Dictionary}
use Rattle.avp_patterns.specs.Patterns.{Written}
use Rattle.avp_unlang.specs.PolicyPatterns.{branches_pass, else_passes, is_among, policy_patterns_pass}
use Rattle.avp_unlang.specs.Suiting.{branches_suit, else_suits, policy_suits}
use Rattle.avp_unlang.specs.Resolutions.{line_suits}
use Rattle.avp_unlang.specs.declared.tree.Statement.{Statement}
use Rattle.avp_unlang.specs.internal.Depth.{depth_of, depth_of_branches, else_depth}
use Rattle.avp_step.specs.Trace.{Evaluating, Steps, block_steps, branch_steps, closed, guarded, line_steps, then_steps, unless_stopped}
use Rattle.avp_step.specs.internal.Skips.{skips_of}
use Rattle.avp_step.specs.declared.frames.Frame.{Frame}
use Rattle.avp_step.specs.declared.frames.Frame.TheVariants.{Statements, Lines, Branches, End}
use Rattle.avp_step.specs.declared.frames.TheConstants.{MAX_FRAMES}

-- the state at each position
abbrev pub States : Type 0
States = ℕ → State

-- ---- the last block of an `if`

abbrev pub else_steps : Dictionary → Evaluating → Option (List Statement) → Steps
else_steps dictionary evaluating None p = []
else_steps dictionary evaluating (Some block) p = block_steps dictionary evaluating block p

abbrev pub else_skips : Option (List Statement) → ℕ
else_skips None = 0
else_skips (Some block) = 1 + skips_of block

-- ---- frames

abbrev pub frame_steps : Dictionary → Evaluating → States → Frame → Steps
frame_steps dictionary evaluating at (Statements ss) p =
    unless_stopped (block_steps dictionary evaluating ss.now) p
frame_steps dictionary evaluating at (Lines ls entry) p =
    unless_stopped (line_steps dictionary (at entry) ls.now) p
frame_steps dictionary evaluating at (Branches bs otherwise) p =
    unless_stopped
    (branch_steps evaluating (map (guarded dictionary evaluating) bs.now)
    (else_steps dictionary evaluating otherwise.now))
    p
frame_steps dictionary evaluating at (End n entry) p = closed n (at entry) p ∷ []

-- the steps of all frames
abbrev pub rest : Dictionary → Evaluating → States → List Frame → Steps
rest dictionary evaluating at [] p = []
rest dictionary evaluating at (f ∷ fs) p =
    then_steps (frame_steps dictionary evaluating at f) (rest dictionary evaluating at fs) p

-- how many frames a frame may need above it
abbrev pub frame_depth : Frame → ℕ
frame_depth (Statements ss) = depth_of ss.now
frame_depth (Lines ls entry) = 0
frame_depth (Branches bs otherwise) = max (depth_of_branches bs.now) (else_depth otherwise.now)
frame_depth (End n entry) = 0

-- the position that a frame names
abbrev pub frame_entry : Frame → ℕ
frame_entry (Statements ss) = 0
frame_entry (Lines ls entry) = entry
frame_entry (Branches bs otherwise) = 0
frame_entry (End n entry) = entry

-- what is still to come of it fits the dictionary
abbrev pub frame_suits : Dictionary → Frame → Bool
frame_suits dictionary (Statements ss) = policy_suits dictionary ss.now
frame_suits dictionary (Lines ls entry) = list_all (line_suits dictionary) ls.now
frame_suits dictionary (Branches bs otherwise) =
    branches_suit dictionary bs.now && else_suits dictionary otherwise.now
frame_suits dictionary (End n entry) = true

-- what is still to come of it compares with no pattern but these
abbrev pub frame_passes : List Written → Frame → Bool
frame_passes patterns (Statements ss) = policy_patterns_pass (is_among patterns) ss.now
frame_passes patterns (Lines ls entry) = true
frame_passes patterns (Branches bs otherwise) =
    branches_pass (is_among patterns) bs.now && else_passes (is_among patterns) otherwise.now
frame_passes patterns (End n entry) = true

-- above these frames it has the room that it may need; it names a position before the end; it fits the dictionary; and
-- it compares with these patterns
pub record Fits (dictionary : Dictionary) (patterns : List Written) (end : ℕ) (fs : List Frame)
    (f : Frame) : Type 0 where
  pub room : length fs + 1 + frame_depth f ≤ MAX_FRAMES
  pub entry : frame_entry f < end
  pub suits : IsTrue (frame_suits dictionary f)
  pub passes : IsTrue (frame_passes patterns f)

-- each frame fits above the others
abbrev pub AllFit : Dictionary → List Written → ℕ → List Frame → Type 0
AllFit dictionary patterns end [] = Unit {0}
AllFit dictionary patterns end (f ∷ fs) =
    Fits dictionary patterns end fs f × AllFit dictionary patterns end fs

-- ---- what a search for the next step may pass

abbrev pub frame_skips : Frame → ℕ
frame_skips (Statements ss) = 1 + skips_of ss.now
frame_skips (Lines ls entry) = 1
frame_skips (Branches bs otherwise) = 1 + else_skips otherwise.now
frame_skips (End n entry) = 1

abbrev pub all_skips : List Frame → ℕ
all_skips [] = 0
all_skips (f ∷ fs) = frame_skips f + all_skips fs
