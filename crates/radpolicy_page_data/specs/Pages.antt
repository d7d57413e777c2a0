-- What a page shows of a run.
use Rattle.std.specs.Prelude.{◌≡◌, ◌<◌, ◌⊎◌, ℕ, ◌+◌, ◌-◌, List, ◌++◌, codes, length}
use Rattle.std.specs.List.{flat_map}
use Rattle.avp_lists.specs.declared.lists.State.{State}
use Rattle.avp_lists.specs.declared.pairs.Pair.{Pair}
use Rattle.avp_step.specs.Trace.{Entry, trace_of}
use Rattle.radpolicy.specs.Starts.{Start, entry_of}
use Rattle.radpolicy.specs.declared.run_outcomes.Reply.{Reply}
use Rattle.radpolicy_common.specs.declared.redactions.Hiding.{Hiding}
use Rattle.radpolicy_common.specs.declared.redactions.SecretValues.{SecretValues}
use Rattle.radpolicy_common.specs.declared.redactions.SecretValues.TheVariants.{Hidden, Shown}
use Rattle.radpolicy_page_data.specs.Differences.{lists_at}
use Rattle.radpolicy_page_data.specs.Embedding.{embedded, markup_text, string_text}
use Rattle.radpolicy_page_data.specs.Packets.{reply_text}
use Rattle.radpolicy_common.specs.PolicyTexts.{policy_shown}
use Rattle.radpolicy_page_data.specs.Positions.{ArePositions, IsTooLarge}
use Rattle.radpolicy_common.specs.Secrets.{IsRedactionOf as IsRedactionOfRuns, Redaction, pair_text}
use Rattle.radpolicy_page_data.specs.declared.pages.Page.{Page}
use Rattle.radpolicy_page_data.specs.declared.pages.TheConstants.{MAX_PAGE_OCTETS}

-- the trace of the run from a start
abbrev pub trace_from : Start → List Entry
trace_from start = trace_of start.prepared.dictionary start.prepared.statements (entry_of start)

-- the lists at the end of a trace
abbrev pub last_lists : List Entry → State
last_lists trace = lists_at trace (length trace - 1)

-- what is hidden of the run
abbrev pub IsRedactionOf : Start → Hiding → Redaction → Type 0
IsRedactionOf start hiding redaction =
    IsRedactionOfRuns start.prepared.dictionary start.prepared.statements hiding redaction

-- ---- the lists at the end, as a text

abbrev pub pair_line : Redaction → Pair → List ℕ
pair_line redaction pair = codes "  " ++ pair_text redaction pair ++ codes "\n"

abbrev pub list_lines : Redaction → List ℕ → List Pair → List ℕ
list_lines redaction name pairs = name ++ codes "\n" ++ flat_map (pair_line redaction) pairs

unfoldable pub lists_text : Redaction → State → List ℕ
lists_text redaction lists = list_lines redaction (codes "request") lists.request
    ++ list_lines redaction (codes "reply") lists.reply
    ++ list_lines redaction (codes "control") lists.control

-- ---- the data, as JSON

abbrev pub hidden_text : SecretValues → List ℕ
hidden_text Hidden = codes "true"
hidden_text Shown = codes "false"

-- whether values are hidden, the policy's text, the positions, and what is sent
unfoldable pub data_text : Redaction → List ℕ → List ℕ → List ℕ → List ℕ
data_text redaction policy positions sent =
    codes "{\"hidden\":" ++ hidden_text redaction.secrets
    ++ codes ",\"policy\":" ++ string_text (policy_shown redaction policy)
    ++ codes ",\"positions\":[" ++ positions ++ codes "],\"reply\":" ++ sent ++ codes "}"

-- the page of a run with this policy's text, which sends this
pub record IsPage (start : Start) (hiding : Hiding) (policy : List ℕ) (reply : Reply) (page : Page) : Type 0 where
  pub redaction : Redaction
  pub positions : List ℕ
  pub redacts : IsRedactionOf start hiding redaction
  pub are : ArePositions redaction (trace_from start) (length (trace_from start)) positions
  pub run : page.run.items ≡ embedded (data_text redaction policy positions
      (reply_text redaction (last_lists (trace_from start)).reply reply))
  pub lists : page.lists.items ≡ markup_text (lists_text redaction (last_lists (trace_from start)))

-- the octets of the parts of a page that are of a run
abbrev pub octets_of : Page → ℕ
octets_of page = length page.run.items + length page.lists.items

-- some first positions of the run are too large for a page
abbrev pub ArePositionsTooLarge : Start → Hiding → Type 0
ArePositionsTooLarge start hiding = (redaction : Redaction)
    × IsRedactionOf start hiding redaction × IsTooLarge redaction (trace_from start)

-- they are, or its page is too large
abbrev pub IsTooLargeFor : Start → Hiding → List ℕ → Reply → Type 0
IsTooLargeFor start hiding policy reply = ArePositionsTooLarge start hiding
    ⊎ ((page : Page) × IsPage start hiding policy reply page × (MAX_PAGE_OCTETS < octets_of page))
