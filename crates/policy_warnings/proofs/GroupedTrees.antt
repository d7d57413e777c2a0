-- How conditions of a policy group: what their tree comes to.
use Rattle.std.proofs.Common.{◌≡◌, Bool, true, false, ◌&&◌, ◌||◌, List, [], ◌∷◌, refl, ap, sym, ◌∙◌, map}
use Rattle.std.specs.List.{list_all, list_any}
use Rattle.avp_lists.specs.declared.lists.State.{State}
use Rattle.avp_unlang.specs.Conditions.{all_of, any_of}
use Rattle.avp_unlang.specs.Truth.{truth}
use Rattle.avp_unlang.specs.declared.codes.Code.{Code}
use Rattle.avp_unlang.specs.declared.codes.Code.TheVariants.{Ok, Fail}
use Rattle.avp_unlang.specs.declared.tree.Cond.{Cond}
use Rattle.avp_unlang.specs.declared.tree.Cond.TheVariants.{Last}
use Rattle.avp_unlang.proofs.Truths.{truth_all, truth_any, truth_last}
use Rattle.policy_warnings.specs.Groupings.{GroupsOtherwise, Next, NextCondition, TreesGroupAlike, TreesGroupOtherwise, and_condition, and_next, grouped, joint_of, next_truth, operands, or_condition, or_next, regroups, joint_before, tree_of, with_first}
use Rattle.policy_warnings.specs.declared.groupings.Joint.{Joint}
use Rattle.policy_warnings.proofs.Grouping.{alike, otherwise}

or_false : (a : Bool) → (a || false) ≡ a
or_false true = refl
or_false false = refl

and_true : (a : Bool) → (a && true) ≡ a
and_true true = refl
and_true false = refl

and_assoc : (a b c : Bool) → (a && (b && c)) ≡ ((a && b) && c)
and_assoc true b c = refl
and_assoc false b c = refl

module _ (s : State) (code : Code) where
  abbrev holds : Cond → Bool
  holds c = truth c s code

  abbrev all_hold : List Cond → Bool
  all_hold cs = list_all holds cs

  abbrev some_hold : List (List Cond) → Bool
  some_hold groups = list_any all_hold groups

  any_holds : (cs : List Cond) → holds (any_of cs) ≡ list_any holds cs
  any_holds [] = truth_any [] s code
  any_holds (c ∷ []) = sym (or_false (holds c))
  any_holds (c ∷ d ∷ cs) = truth_any (c ∷ d ∷ cs) s code

  all_holds : (cs : List Cond) → holds (all_of cs) ≡ all_hold cs
  all_holds [] = truth_all [] s code
  all_holds (c ∷ []) = sym (and_true (holds c))
  all_holds (c ∷ d ∷ cs) = truth_all (c ∷ d ∷ cs) s code

  groups_hold : (groups : List (List Cond)) → list_any holds (map all_of groups) ≡ some_hold groups
  groups_hold [] = refl
  groups_hold (cs ∷ groups) = rw (all_holds cs, groups_hold groups) refl

  -- the first of the groups has something before it
  abbrev some_hold_after : Bool → List (List Cond) → Bool
  some_hold_after b [] = b
  some_hold_after b (cs ∷ groups) = (b && all_hold cs) || some_hold groups

  first_before : (b : Bool) (c : Cond) (groups : List (List Cond)) → some_hold_after b (with_first c groups) ≡ some_hold_after (b && holds c) groups
  first_before b c [] = or_false (b && (holds c && true)) ∙ ap (λ x. b && x) (and_true (holds c))
  first_before b c (cs ∷ groups) = ap (λ x. x || some_hold groups) (and_assoc b (holds c) (all_hold cs))

  after_nothing : (c : Cond) (others : List NextCondition) → some_hold (operands c others) ≡ some_hold_after true (operands c others)
  after_nothing c [] = refl
  after_nothing c (or_condition d ∷ others) = refl
  after_nothing c (and_condition d ∷ others) = begun c (operands d others)
    where
      begun : (c : Cond) (groups : List (List Cond)) → some_hold (with_first c groups) ≡ some_hold_after true (with_first c groups)
      begun c [] = refl
      begun c (cs ∷ groups) = refl

  operands_hold : (b : Bool) (c : Cond) (others : List NextCondition) → some_hold_after b (operands c others) ≡ grouped (b && holds c) (map (next_truth s code) others)
  operands_hold b c [] = or_false (b && (holds c && true)) ∙ ap (λ x. b && x) (and_true (holds c))
  operands_hold b c (and_condition d ∷ others) = first_before b c (operands d others) ∙ operands_hold (b && holds c) d others
  operands_hold b c (or_condition d ∷ others) =
      ap (λ x. (b && x) || some_hold (operands d others)) (and_true (holds c))
      ∙ ap (λ x. (b && holds c) || x) (after_nothing d others ∙ operands_hold true d others)

  -- a tree comes to what its conditions come to, grouped
  pub tree_holds : (first : Cond) (others : List NextCondition) → truth (tree_of first others) s code ≡ grouped (truth first s code) (map (next_truth s code) others)
  tree_holds first others =
      any_holds (map all_of (operands first others)) ∙ groups_hold (operands first others)
      ∙ after_nothing first others ∙ operands_hold true first others

  signs_kept : (others : List NextCondition) → map joint_of (map (next_truth s code) others) ≡ map joint_before others
  signs_kept [] = refl
  signs_kept (and_condition c ∷ others) = ap (λ js. joint_before (and_condition c) ∷ js) (signs_kept others)
  signs_kept (or_condition c ∷ others) = ap (λ js. joint_before (or_condition c) ∷ js) (signs_kept others)

pub trees_alike : (joints : List Joint) → regroups joints ≡ false → TreesGroupAlike joints
trees_alike joints none = λ first others s code e.
    tree_holds s code first others ∙ alike joints none (truth first s code) (map (next_truth s code) others) (signs_kept s code others ∙ e)

-- ---- a condition that is true, or false, after `ok`

abbrev condition_of : Bool → Cond
condition_of true = Last Ok
condition_of false = Last Fail

abbrev next_of : Next → NextCondition
next_of (and_next b) = and_condition (condition_of b)
next_of (or_next b) = or_condition (condition_of b)

condition_holds : (b : Bool) (s : State) → truth (condition_of b) s Ok ≡ b
condition_holds true s = truth_last Ok s Ok
condition_holds false s = truth_last Fail s Ok

signs_of : (others : List Next) → map joint_before (map next_of others) ≡ map joint_of others
signs_of [] = refl
signs_of (and_next b ∷ others) = ap (λ js. joint_of (and_next b) ∷ js) (signs_of others)
signs_of (or_next b ∷ others) = ap (λ js. joint_of (or_next b) ∷ js) (signs_of others)

truths_of : (others : List Next) (s : State) → map (next_truth s Ok) (map next_of others) ≡ others
truths_of [] s = refl
truths_of (and_next b ∷ others) s = rw (condition_holds b s, truths_of others s) refl
truths_of (or_next b ∷ others) s = rw (condition_holds b s, truths_of others s) refl

pub trees_otherwise : (joints : List Joint) → regroups joints ≡ true → TreesGroupOtherwise joints
trees_otherwise joints some =
    let there : GroupsOtherwise joints = otherwise joints some in
    record {
      first = condition_of there.first;
      others = map next_of there.others;
      code = Ok;
      has_joints = signs_of there.others ∙ there.has_joints;
      is_true = λ s. tree_holds s Ok (condition_of there.first) (map next_of there.others)
          ∙ rw (condition_holds there.first s, truths_of there.others s) there.is_true;
      is_false_there = λ s. rw (condition_holds there.first s, truths_of there.others s) there.is_false_there;
    }
