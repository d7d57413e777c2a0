-- How conditions group.
use Rattle.std.proofs.Common.{◌≡◌, Bool, true, false, ◌&&◌, ◌||◌, List, [], ◌∷◌, refl, ap, ◌∙◌, map}
use Rattle.std.proofs.lemmas.Bool.{false≢true, true≢false}
use Rattle.std.specs.List.{list_any}
use Rattle.policy_warnings.specs.Groupings.{GroupsAlike, GroupsOtherwise, Next, and_next, grouped, is_or, joint_of, or_next, regroups, server_grouped}
use Rattle.policy_warnings.specs.declared.groupings.Joint.{Joint}
use Rattle.policy_warnings.specs.declared.groupings.Joint.TheVariants.{And, Or}

-- ---- alike

and_assoc : (a b c : Bool) → ((a && b) && c) ≡ (a && (b && c))
and_assoc true b c = refl
and_assoc false b c = refl

only_and : (a b : Bool) (others : List Next) → list_any is_or (map joint_of others) ≡ false → grouped (a && b) others ≡ (a && server_grouped b others)
only_and a b [] none = refl
only_and a b (and_next c ∷ others) none = only_and (a && b) c others none ∙ and_assoc a b (server_grouped c others)
only_and a b (or_next c ∷ others) none = absurd (true≢false none)

same : (first : Bool) (others : List Next) → regroups (map joint_of others) ≡ false → grouped first others ≡ server_grouped first others
same first [] none = refl
same first (and_next b ∷ others) none = only_and first b others none
same first (or_next b ∷ others) none = ap (λ x. first || x) (same b others none)

pub alike : (joints : List Joint) → regroups joints ≡ false → GroupsAlike joints
alike joints none first others e = same first others (ap regroups e ∙ none)

-- ---- otherwise: the conditions up to the first `&&` are false, and those after it true

abbrev next_true : Joint → Next
next_true And = and_next true
next_true Or = or_next true

abbrev shown : List Joint → List Next
shown [] = []
shown (And ∷ others) = and_next true ∷ map next_true others
shown (Or ∷ others) = or_next false ∷ shown others

joints_true : (joints : List Joint) → map joint_of (map next_true joints) ≡ joints
joints_true [] = refl
joints_true (And ∷ others) = ap (λ js. And ∷ js) (joints_true others)
joints_true (Or ∷ others) = ap (λ js. Or ∷ js) (joints_true others)

joints_shown : (joints : List Joint) → map joint_of (shown joints) ≡ joints
joints_shown [] = refl
joints_shown (And ∷ others) = ap (λ js. And ∷ js) (joints_true others)
joints_shown (Or ∷ others) = ap (λ js. Or ∷ js) (joints_shown others)

after_true : (joints : List Joint) → grouped true (map next_true joints) ≡ true
after_true [] = refl
after_true (And ∷ others) = after_true others
after_true (Or ∷ others) = refl

after_false : (joints : List Joint) → list_any is_or joints ≡ true → grouped false (map next_true joints) ≡ true
after_false [] some = absurd (false≢true some)
after_false (And ∷ others) some = after_false others some
after_false (Or ∷ others) some = after_true others

true_here : (joints : List Joint) → regroups joints ≡ true → grouped false (shown joints) ≡ true
true_here [] some = absurd (false≢true some)
true_here (And ∷ others) some = after_false others some
true_here (Or ∷ others) some = true_here others some

false_there : (joints : List Joint) → server_grouped false (shown joints) ≡ false
false_there [] = refl
false_there (And ∷ others) = refl
false_there (Or ∷ others) = false_there others

pub otherwise : (joints : List Joint) → regroups joints ≡ true → GroupsOtherwise joints
otherwise joints some = record {
  first = false;
  others = shown joints;
  has_joints = joints_shown joints;
  is_true = true_here joints some;
  is_false_there = false_there joints;
}
