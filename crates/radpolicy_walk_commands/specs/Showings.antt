-- What is shown of a session.
use Rattle.std.specs.Prelude.{◌≡◌, ℕ, true, List, [], ◌∷◌, ◌++◌, codes, decimal, Option, None, Some}
use Rattle.std.specs.List.{flat_map, list_all}
use Rattle.avp_lists.specs.States.{list_of}
use Rattle.avp_lists.specs.declared.lists.List.{List as WhichList}
use Rattle.avp_lists.specs.declared.lists.List.TheVariants as which
use Rattle.avp_lists.specs.declared.lists.State.{State}
use Rattle.avp_lists.specs.declared.pairs.Pair.{Pair}
use Rattle.radpolicy.specs.Reports.{code_text}
use Rattle.radpolicy.specs.Scripts.{label_text}
use Rattle.radpolicy_common.specs.ChangeTexts.{change_text, pair_line}
use Rattle.radpolicy_common.specs.Changes.{AreEndsKept, IsChange, is_kept, is_needed, is_removed_first}
use Rattle.radpolicy_common.specs.Secrets.{Redaction}
use Rattle.radpolicy_common.specs.declared.change_lists.Change.{Change}
use Rattle.radpolicy_walk_commands.specs.declared.steps.Step.{Step}

-- ---- places

-- a position of so many: what was done there, and the last code
abbrev pub step_text : ℕ → ℕ → Step → List ℕ
step_text position last step = codes "[" ++ decimal position ++ codes " of " ++ decimal last
    ++ codes "] " ++ label_text step.label ++ codes " " ++ code_text step.code

-- ---- lists

abbrev pub list_line : Redaction → Pair → List ℕ
list_line redaction pair = codes "  " ++ pair_line redaction pair

-- a list under its name
abbrev pub list_text : Redaction → List ℕ → List Pair → List ℕ
list_text redaction name pairs =
    name ++ codes "\n" ++ flat_map (list_line redaction) pairs

abbrev pub list_name : WhichList → List ℕ
list_name which.Request = codes "request"
list_name which.Reply = codes "reply"
list_name which.Control = codes "control"

-- one of the lists, or all three
abbrev pub lists_text : Redaction → Option WhichList → State → List ℕ
lists_text redaction (Some list) s =
    list_text redaction (list_name list) (list_of list s)
lists_text redaction None s =
    list_text redaction (codes "request") s.request
    ++ list_text redaction (codes "reply") s.reply
    ++ list_text redaction (codes "control") s.control

-- ---- changes

-- lines under a name; nothing where there are none
abbrev pub named_lines : List ℕ → List ℕ → List ℕ
named_lines name [] = []
named_lines name (octet ∷ octets) = name ++ codes "\n" ++ octet ∷ octets

-- The lines of what changed from one list to another, under its name. Where nothing changed all is kept; so is what both
-- have in common at their ends; and in between what is removed comes before what is added, and no pair is both.
pub record IsListChange (redaction : Redaction) (name : List ℕ)
    (before after : List Pair) (text : List ℕ) : Type 0 where
  pub changes : List Change
  pub change : IsChange before after changes
  pub same : before ≡ after → list_all is_kept changes ≡ true
  pub ends : AreEndsKept before after changes
  pub order : is_removed_first changes ≡ true
  pub needed : is_needed changes ≡ true
  pub lines : text ≡ named_lines name (change_text redaction changes)

-- the lines of what changed in the three lists
pub record AreChanges (redaction : Redaction) (before after : State)
    (text : List ℕ) : Type 0 where
  pub request : List ℕ
  pub reply : List ℕ
  pub control : List ℕ
  pub of_request : IsListChange redaction (codes "request") before.request after.request request
  pub of_reply : IsListChange redaction (codes "reply") before.reply after.reply reply
  pub of_control : IsListChange redaction (codes "control") before.control after.control control
  pub parts : text ≡ request ++ reply ++ control
