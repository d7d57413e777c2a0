-- How conditions group that have `&&` and `||` between them: here `&&` binds closer, and on a server neither does, and
-- they group to the right.
use Rattle.std.specs.Prelude.{◌≡◌, Bool, true, false, ◌&&◌, ◌||◌, List, [], ◌∷◌, map}
use Rattle.std.specs.List.{list_any}
use Rattle.avp_lists.specs.declared.lists.State.{State}
use Rattle.avp_unlang.specs.Conditions.{all_of, any_of}
use Rattle.avp_unlang.specs.Truth.{truth}
use Rattle.avp_unlang.specs.declared.codes.Code.{Code}
use Rattle.avp_unlang.specs.declared.tree.Cond.{Cond}
use Rattle.policy_warnings.specs.declared.groupings.Joint.{Joint}
use Rattle.policy_warnings.specs.declared.groupings.Joint.TheVariants.{And, Or}

-- what the next condition comes to, after the `&&` or `||` before it
pub data Next : Type 0 where
  and_next : Bool → Next
  or_next : Bool → Next

abbrev pub joint_of : Next → Joint
joint_of (and_next b) = And
joint_of (or_next b) = Or

-- `a && b || c` is `(a && b) || c`, and `a || b && c` is `a || (b && c)`
abbrev pub grouped : Bool → List Next → Bool
grouped first [] = first
grouped first (and_next b ∷ others) = grouped (first && b) others
grouped first (or_next b ∷ others) = first || grouped b others

-- `a && b || c` is `a && (b || c)`, and `a || b && c` is `a || (b && c)`
abbrev pub server_grouped : Bool → List Next → Bool
server_grouped first [] = first
server_grouped first (and_next b ∷ others) = first && server_grouped b others
server_grouped first (or_next b ∷ others) = first || server_grouped b others

abbrev pub is_or : Joint → Bool
is_or And = false
is_or Or = true

-- a `||` comes after an `&&`
abbrev pub regroups : List Joint → Bool
regroups [] = false
regroups (And ∷ others) = list_any is_or others
regroups (Or ∷ others) = regroups others

-- whatever the conditions come to, both groupings come to the same
abbrev pub GroupsAlike : List Joint → Type 0
GroupsAlike joints =
    (first : Bool) (others : List Next) → map joint_of others ≡ joints
    → grouped first others ≡ server_grouped first others

-- there is what the conditions come to where the groupings differ
pub record GroupsOtherwise (joints : List Joint) : Type 0 where
  pub first : Bool
  pub others : List Next
  pub has_joints : map joint_of others ≡ joints
  pub is_true : grouped first others ≡ true
  pub is_false_there : server_grouped first others ≡ false

-- ---- conditions of a policy

-- the next condition, after the `&&` or `||` before it
pub data NextCondition : Type 0 where
  and_condition : Cond → NextCondition
  or_condition : Cond → NextCondition

abbrev pub joint_before : NextCondition → Joint
joint_before (and_condition c) = And
joint_before (or_condition c) = Or

-- what it comes to in a state, after a code
abbrev pub next_truth : State → Code → NextCondition → Next
next_truth s code (and_condition c) = and_next (truth c s code)
next_truth s code (or_condition c) = or_next (truth c s code)

abbrev pub with_first : Cond → List (List Cond) → List (List Cond)
with_first first [] = (first ∷ []) ∷ []
with_first first (conds ∷ others) = (first ∷ conds) ∷ others

-- conditions cut at each `||`, in groups that have `&&` between them
abbrev pub operands : Cond → List NextCondition → List (List Cond)
operands first [] = (first ∷ []) ∷ []
operands first (and_condition c ∷ others) = with_first first (operands c others)
operands first (or_condition c ∷ others) = (first ∷ []) ∷ operands c others

-- the tree that these conditions spell
abbrev pub tree_of : Cond → List NextCondition → Cond
tree_of first others = any_of (map all_of (operands first others))

-- whether they are true in a state, after a code, as a server groups them
abbrev pub truth_on_server : Cond → List NextCondition → State → Code → Bool
truth_on_server first others s code =
    server_grouped (truth first s code) (map (next_truth s code) others)

-- whatever the conditions are, their tree is true exactly where they are as a server groups them
abbrev pub TreesGroupAlike : List Joint → Type 0
TreesGroupAlike joints =
    (first : Cond) (others : List NextCondition) (s : State) (code : Code)
    → map joint_before others ≡ joints
    → truth (tree_of first others) s code ≡ truth_on_server first others s code

-- there are conditions whose tree is true after a code, in every state, and which are then false as a server groups
-- them
pub record TreesGroupOtherwise (joints : List Joint) : Type 0 where
  pub first : Cond
  pub others : List NextCondition
  pub code : Code
  pub has_joints : map joint_before others ≡ joints
  pub is_true : (s : State) → truth (tree_of first others) s code ≡ true
  pub is_false_there : (s : State) → truth_on_server first others s code ≡ false
