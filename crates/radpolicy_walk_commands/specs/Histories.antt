-- What the steps of a run changed in the instances of an attribute.
use Rattle.std.specs.Prelude.{◌≡◌, ℕ, zero, suc, ◌-◌, List, [], ◌∷◌, ◌++◌, codes, length, slice_index_or}
use Rattle.avp_lists.specs.Instances.{instances}
use Rattle.avp_lists.specs.States.{empty_state}
use Rattle.avp_lists.specs.declared.lists.State.{State}
use Rattle.avp_lists.specs.declared.pairs.AttrId.{AttrId}
use Rattle.avp_step.specs.Trace.{Entry, start}
use Rattle.radpolicy_common.specs.Secrets.{Redaction}
use Rattle.radpolicy_walk_commands.specs.Showings.{AreChanges, step_text}
use Rattle.radpolicy_walk_commands.specs.Steps.{step_of}
use Rattle.radpolicy_walk_commands.specs.declared.steps.Step.{Step}

-- the lists with nothing but the instances of an attribute
abbrev pub instances_of : AttrId → State → State
instances_of id lists = record {
  request = instances id lists.request;
  reply = instances id lists.reply;
  control = instances id lists.control;
}

-- the entry of a trace at a position; past its end one with empty lists
abbrev pub entry_at : List Entry → ℕ → Entry
entry_at trace k = slice_index_or trace k (start empty_state)

-- the instances at a position
abbrev pub instances_at : AttrId → List Entry → ℕ → State
instances_at id trace k = instances_of id (entry_at trace k).outcome.state

-- the lines of what a step changed, below its position; nothing where it changed nothing
abbrev pub step_told : ℕ → ℕ → Step → List ℕ → List ℕ
step_told position last step [] = []
step_told position last step (octet ∷ octets) =
    step_text position last step ++ codes "\n" ++ octet ∷ octets

-- what is told of the step to a position: the changes from the instances before it to those after it
pub record IsStepTold (redaction : Redaction) (id : AttrId)
    (trace : List Entry) (k : ℕ) (text : List ℕ) : Type 0 where
  pub lines : List ℕ
  pub changes : AreChanges redaction (instances_at id trace (k - 1))
      (instances_at id trace k) lines
  pub told : text ≡ step_told k (length trace - 1) (step_of (entry_at trace k)) lines

-- what is told of each step from the start to a position, in order
abbrev pub IsHistory : Redaction → AttrId → List Entry → ℕ → List ℕ → Type 0
IsHistory redaction id trace zero text = text ≡ []
IsHistory redaction id trace (suc k) text = (earlier : List ℕ) × (own : List ℕ)
    × IsHistory redaction id trace k earlier
    × IsStepTold redaction id trace (suc k) own × (text ≡ earlier ++ own)

-- a history as it is shown: where it is empty, words that say so, after the attribute's name
abbrev pub IsShownHistory : List ℕ → List ℕ → Type 0
IsShownHistory [] text = (name : List ℕ) × (text ≡ name ++ codes " does not change up to here\n")
IsShownHistory (octet ∷ octets) text = text ≡ octet ∷ octets

-- what is shown of the history up to a position
abbrev pub IsHistoryText : Redaction → AttrId → List Entry → ℕ → List ℕ → Type 0
IsHistoryText redaction id trace k text = (own : List ℕ)
    × IsHistory redaction id trace k own × IsShownHistory own text

-- a text with more octets at its end
abbrev pub IsContinued : List ℕ → List ℕ → Type 0
IsContinued text longer = (more : List ℕ) × (longer ≡ text ++ more)
