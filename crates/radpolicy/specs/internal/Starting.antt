-- What holds of every start, and of the policy that is held.
use Rattle.std.specs.Prelude.{◌≤◌, ℕ, List, Option, length}
use Rattle.avp_lists.specs.States.{max_pairs}
use Rattle.avp_lists.specs.declared.pairs.Pair.{Pair}
use Rattle.avp_dict.specs.Dictionary.{Dictionary}
use Rattle.avp_forms.specs.declared.profiles.Profile.{Profile}
use Rattle.avp_packet.specs.Packets.{IsRequestCode}
use Rattle.avp_packet.specs.declared.packets.Packet.{Packet}
use Rattle.avp_unlang.specs.Suiting.{IsSpelled}
use Rattle.avp_unlang.specs.declared.tree.Statement.{Statement}
use Rattle.radpolicy.specs.Starts.{Start}
use Rattle.radpolicy.specs.declared.jobs.Form.{Form}
use Rattle.radpolicy.specs.declared.prepared.HeldPolicy.{HeldPolicy}
use Rattle.radpolicy.specs.declared.prepared.HeldPolicy.TheVariants as held
use Rattle.radpolicy.specs.internal.Fitting.{AllFit}

-- the statements of a policy, held or lent
abbrev pub statements_held : HeldPolicy → List Statement
statements_held (held.Own policy) = policy
statements_held (held.Lent policy) = policy.now

-- a start, by its parts
abbrev pub start_shown : Dictionary → Profile → List Statement → Option (List ℕ) → Form → Packet
    → List Pair → List Pair → Start
start_shown dictionary profile statements secret form request reply control = record {
  prepared = record { dictionary = dictionary; profile = profile; statements = statements };
  secret = secret;
  form = form;
  request = request;
  reply = reply;
  control = control;
}

-- pairs that fit, and not too many for a list
pub record IsFittingList (dictionary : Dictionary) (pairs : List Pair) : Type 0 where
  pub fit : AllFit dictionary pairs
  pub few : length pairs ≤ max_pairs

-- its policy is spelled by its dictionary, and its lists can be those of a run
pub record IsReady (start : Start) : Type 0 where
  pub policy : IsSpelled start.prepared.dictionary start.prepared.statements
  pub code : IsRequestCode start.request.code
  pub request : IsFittingList start.prepared.dictionary start.request.list
  pub reply : IsFittingList start.prepared.dictionary start.reply
  pub control : IsFittingList start.prepared.dictionary start.control
