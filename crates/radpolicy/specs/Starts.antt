-- What a run begins with: a request, and the reply and control lists, over a dictionary and a policy that were read
-- before.
use Rattle.std.specs.Prelude.{ℕ, ◌+◌, not, nat_lt, if◌then◌else◌, List, [], length, Option, Some, None}
use Rattle.std.specs.List.{position}
use Rattle.std.specs.Option.{unwrap_or}
use Rattle.avp_lists.specs.States.{max_pairs}
use Rattle.avp_lists.specs.declared.pairs.Pair.{Pair}
use Rattle.avp_lists.specs.declared.lists.State.{State}
use Rattle.avp_dict.specs.Dictionary.{Dictionary}
use Rattle.avp_dict.specs.Limits.{fits}
use Rattle.avp_dict.specs.declared.request.faults.LineFault.{LineFault}
use Rattle.avp_dict.specs.declared.request.faults.LineKind.TheVariants.{NotValue, TooMany}
use Rattle.avp_forms.specs.declared.profiles.Profile.{Profile}
use Rattle.avp_packet.specs.Packets.{access_request, accounting_request, zeros}
use Rattle.avp_packet.specs.declared.packets.Packet.{Packet}
use Rattle.avp_unlang.specs.declared.tree.Statement.{Statement}
use Rattle.radpolicy.specs.declared.heads.RequestHead.{RequestHead}
use Rattle.radpolicy.specs.declared.heads.RequestKind.{RequestKind}
use Rattle.radpolicy.specs.declared.heads.RequestKind.TheVariants as kind
use Rattle.radpolicy.specs.declared.jobs.Form.{Form}
use Rattle.radpolicy.specs.declared.jobs.Form.TheVariants as form

-- a dictionary, and the profile and the statements of a policy that was read by it
pub record Prepared : Type 0 where
  pub dictionary : Dictionary
  pub profile : Profile
  pub statements : List Statement

-- what a run begins with: a prepared policy, the secret if there is one, the request and how it was given, and the
-- reply and control lists
pub record Start : Type 0 where
  pub prepared : Prepared
  pub secret : Option (List ℕ)
  pub form : Form
  pub request : Packet
  pub reply : List Pair
  pub control : List Pair

-- the lists with which the run begins
abbrev pub entry_of : Start → State
entry_of start =
    record { request = start.request.list; reply = start.reply; control = start.control }

-- a run over a request, with empty reply and control lists
abbrev pub start_of : Prepared → Option (List ℕ) → Form → Packet → Start
start_of prepared secret form request = record {
  prepared = prepared;
  secret = secret;
  form = form;
  request = request;
  reply = [];
  control = [];
}

-- ---- requests by their head and their list

abbrev pub code_of : RequestKind → ℕ
code_of kind.Access = access_request
code_of kind.Accounting = accounting_request

abbrev pub packet_of : RequestHead → List Pair → Packet
packet_of head pairs = record {
  code = code_of head.kind;
  id = head.id;
  authenticator = unwrap_or head.authenticator zeros;
  list = pairs;
}

-- the authenticator of an Accounting-Request that came without one is made of its list, as it is for lines; every
-- other is the request's own
abbrev pub form_by : RequestKind → Option (List ℕ) → Form
form_by kind.Access own = form.Access
form_by kind.Accounting (Some own) = form.Hex
form_by kind.Accounting None = form.Accounting

abbrev pub form_of : RequestHead → Form
form_of head = form_by head.kind head.authenticator

-- a run over a request with this head and list
abbrev pub start_with : Prepared → Option (List ℕ) → RequestHead → List Pair → Start
start_with prepared secret head pairs =
    start_of prepared secret (form_of head) (packet_of head pairs)

-- ---- lists of pairs

-- too many pairs for a list are refused with the number of the first that is too many, as no text was read at offset 0
abbrev pub count_refusal : List Pair → Option LineFault
count_refusal pairs =
    if nat_lt max_pairs (length pairs)
    then Some (record { line = max_pairs + 1; offset = 0; kind = TooMany }) else None

-- the place of the first pair that does not fit the dictionary
abbrev pub first_misfit : Dictionary → List Pair → Option ℕ
first_misfit dictionary pairs = position (λ pair. not (fits pair dictionary)) pairs

-- why pairs are refused: the first that does not fit the dictionary, by its number from 1, or that they are too many
abbrev pub pairs_refusal : Dictionary → List Pair → Option LineFault
pairs_refusal dictionary pairs =
    elim (first_misfit dictionary pairs) [
      | Some at ↦ Some (record { line = at + 1; offset = 0; kind = NotValue })
      | None ↦ count_refusal pairs
    ]
