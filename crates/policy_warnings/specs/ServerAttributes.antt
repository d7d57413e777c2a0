-- Attributes that a server or one of its modules answers, whatever the lists hold, and where a policy looks at them.
use Rattle.std.specs.Prelude.{ℕ, Bool, true, false, not, ◌&&◌, ◌||◌, ◌-◌, List, [], ◌∷◌, ◌++◌, drop, length, map, Option, Some, None}
use Rattle.std.specs.List.{flat_map, list_any}
use Rattle.std.specs.Option.{option_map_or}
use Rattle.avp_lists.specs.Pairs.{id_eq}
use Rattle.avp_lists.specs.declared.lists.List.{List as Name}
use Rattle.avp_lists.specs.declared.lists.List.TheVariants.{Request, Reply, Control}
use Rattle.avp_lists.specs.declared.pairs.AttrId.{AttrId}
use Rattle.avp_dict.specs.Dictionary.{Dictionary}
use Rattle.avp_dict.specs.Names.{Described, described, named}
use Rattle.avp_dict.specs.Words.{same_name}
use Rattle.avp_dict.specs.declared.entries.Named.{Named}
use Rattle.avp_unlang.specs.declared.tree.Branch.{Branch}
use Rattle.avp_unlang.specs.declared.tree.Comparison.{Comparison}
use Rattle.avp_unlang.specs.declared.tree.Cond.{Cond}
use Rattle.avp_unlang.specs.declared.tree.Cond.TheFolds.{fold-Cond}
use Rattle.avp_unlang.specs.declared.tree.Cond.TheOpen.{Cond-F, Any, All, Not, Last, Present, PresentSelected, Compare, CompareMeant, CompareTexts, Match, MatchText, MatchGroup, Captured}
use Rattle.avp_unlang.specs.declared.tree.Line.{Line}
use Rattle.avp_unlang.specs.declared.tree.MeantComparison.{MeantComparison}
use Rattle.avp_unlang.specs.declared.tree.Part.{Part}
use Rattle.avp_unlang.specs.declared.tree.Part.TheVariants as part
use Rattle.avp_unlang.specs.declared.tree.Source.{Source}
use Rattle.avp_unlang.specs.declared.tree.Source.TheVariants as source
use Rattle.avp_unlang.specs.declared.tree.Statement.{Statement}
use Rattle.avp_unlang.specs.declared.tree.Statement.TheFolds.{fold-Statement, fold-Branch}
use Rattle.avp_unlang.specs.declared.tree.Statement.TheOpen.{Statement-F, Branch-F, Update, If, Transaction, Word}
use Rattle.avp_unlang.specs.declared.tree.TextComparison.{TextComparison}
use Rattle.avp_unlang.specs.declared.tree.TextSide.{TextSide}
use Rattle.avp_unlang.specs.declared.tree.TextSide.TheVariants as side
use Rattle.policy_warnings.specs.Mentions.{comparand_mentions, meant_comparand_mentions, matching_mentions, selected, whole}
use Rattle.policy_warnings.specs.Warnings.{joined, joined_if_given, warning_if}
use Rattle.policy_warnings.specs.declared.server_attributes.Look.{Look}
use Rattle.policy_warnings.specs.declared.server_attributes.TheConstants.{MODULE_ATTRIBUTES, MODULE_ENDINGS, PACKET_ATTRIBUTES, SERVER_ATTRIBUTES}
use Rattle.policy_warnings.specs.declared.mentions.Mention.{Mention}
use Rattle.policy_warnings.specs.declared.warnings.Reason.TheVariants.{ModuleComparison, VirtualAttribute}
use Rattle.policy_warnings.specs.declared.warnings.Warning.{Warning}

-- ---- what a policy looks at

abbrev pub look : Bool → Mention → Look
look is_compared m = record { mention = m; is_compared = is_compared }

-- looked at, and not on the left of a comparison
abbrev pub aside : Mention → Look
aside m = look false m

-- what is put into a text
abbrev pub put_in : Part → List Mention
put_in (part.Text octets) = []
put_in (part.Instance list id) = whole list id ∷ []
put_in (part.Meant list id selection) = selected list id selection ∷ []
put_in (part.Capture group) = []

abbrev pub puts_value : Part → Bool
puts_value (part.Text octets) = false
puts_value _ = true

-- A server takes a text of one expansion alone as its attribute, beside a text in which nothing is put.
abbrev pub is_left_attribute : TextSide → List Part → Bool
is_left_attribute (side.Instance list id selection) right = true
is_left_attribute (side.Text (p ∷ [])) right = not (list_any puts_value right)
is_left_attribute (side.Text parts) right = false

abbrev pub looked_at_left : TextSide → List Mention
looked_at_left (side.Instance list id selection) = selected list id selection ∷ []
looked_at_left (side.Text parts) = flat_map put_in parts

abbrev pub comparison_looks : Comparison → List Look
comparison_looks k = look true (whole k.list k.id) ∷ map aside (comparand_mentions k.comparand)

abbrev pub meant_comparison_looks : MeantComparison → List Look
meant_comparison_looks k =
    look true (selected k.list k.id k.selection) ∷ map aside (meant_comparand_mentions k.comparand)

abbrev pub text_looks : TextComparison → List Look
text_looks k =
    map (look (is_left_attribute k.left k.right)) (looked_at_left k.left)
    ++ map aside (flat_map put_in k.right)

abbrev pub all_looks : List (List Look) → List Look
all_looks = flat_map (λ (looks : List Look). looks)

abbrev pub cond_looks : Cond-F (List Look) → List Look
cond_looks (Any parts) = all_looks parts
cond_looks (All parts) = all_looks parts
cond_looks (Not part) = part
cond_looks (Last word) = []
cond_looks (Present list id) = aside (whole list id) ∷ []
cond_looks (PresentSelected list id selection) = aside (selected list id selection) ∷ []
cond_looks (Compare k) = comparison_looks k
cond_looks (CompareMeant k) = meant_comparison_looks k
cond_looks (Match k) = map (look true) (matching_mentions k)
cond_looks (CompareTexts k) = text_looks k
cond_looks (MatchText k) = map aside (matching_mentions k)
cond_looks (MatchGroup k) = []
cond_looks (Captured group) = []

-- what a condition looks at
unfoldable pub looks : Cond → List Look
looks = fold-Cond (List Look) cond_looks

-- what a line of an update looks at
abbrev pub source_looks : Source → List Look
source_looks (source.Literal value) = []
source_looks (source.Text raw parts) = map aside (flat_map put_in parts)
source_looks (source.WiderText raw tag parts) = map aside (flat_map put_in parts)
source_looks (source.Instance list id) = aside (whole list id) ∷ []
source_looks (source.Tagged list id selection form tag) = aside (selected list id selection) ∷ []
source_looks source.Any = []

-- ---- what is answered

-- the attribute has one of these names
abbrev pub has_name : Dictionary → AttrId → List ℕ → Bool
has_name dictionary id name =
    option_map_or (λ (found : Named). id_eq id found.id) (named name dictionary) false

abbrev pub has_one_of : List (List ℕ) → Dictionary → AttrId → Bool
has_one_of names dictionary id = list_any (has_name dictionary id) names

-- a name ends so, letters in either case
abbrev pub ends_in : List ℕ → List ℕ → Bool
ends_in name ending = same_name (drop (length name - length ending) name) ending

abbrev pub ends_in_one_of : List (List ℕ) → List ℕ → Bool
ends_in_one_of endings name = list_any (ends_in name) endings

unfoldable pub server_attributes : List (List ℕ)
server_attributes = map (λ name. name.now) SERVER_ATTRIBUTES

unfoldable pub packet_attributes : List (List ℕ)
packet_attributes = map (λ name. name.now) PACKET_ATTRIBUTES

unfoldable pub module_attributes : List (List ℕ)
module_attributes = map (λ name. name.now) MODULE_ATTRIBUTES

unfoldable pub module_endings : List (List ℕ)
module_endings = map (λ ending. ending.now) MODULE_ENDINGS

-- the lists of which a server has a packet
abbrev pub has_packet : Name → Bool
has_packet Request = true
has_packet Reply = true
has_packet Control = false

-- a server makes the attribute itself
unfoldable pub is_virtual : Dictionary → Look → Bool
is_virtual dictionary k =
    has_one_of server_attributes dictionary k.mention.id
    || (has_packet k.mention.list && has_one_of packet_attributes dictionary k.mention.id)

abbrev pub is_request : Name → Bool
is_request Request = true
is_request _ = false

-- it asks a module instead of comparing
unfoldable pub asks_module : Dictionary → Look → Bool
asks_module dictionary k =
    k.is_compared && is_request k.mention.list
    && (has_one_of module_attributes dictionary k.mention.id
    || option_map_or (λ (found : Described). ends_in_one_of module_endings found.name)
    (described k.mention.id dictionary) false)

-- ---- policies

abbrev pub line_warned : Dictionary → Line → List Warning
line_warned dictionary line =
    warning_if (list_any (is_virtual dictionary) (source_looks line.source)) line.line
    VirtualAttribute

abbrev pub cond_warned : Dictionary → ℕ → Cond → List Warning
cond_warned dictionary line cond =
    warning_if (list_any (is_virtual dictionary) (looks cond)) line VirtualAttribute
    ++ warning_if (list_any (asks_module dictionary) (looks cond)) line ModuleComparison

abbrev pub statement_warned : Dictionary → Statement-F (List Warning) (List Warning)
    → List Warning
statement_warned dictionary (Update n lines) = flat_map (line_warned dictionary) lines
statement_warned dictionary (If branches otherwise) = joined branches ++ joined_if_given otherwise
statement_warned dictionary (Transaction n block) = joined block
statement_warned dictionary (Word n word) = []

abbrev pub branch_warned : Dictionary → Branch-F (List Warning) (List Warning) → List Warning
branch_warned dictionary b = cond_warned dictionary b.line b.cond ++ joined b.block

unfoldable pub answered_in : Dictionary → Statement → List Warning
answered_in dictionary =
    fold-Statement (List Warning) (List Warning) (statement_warned dictionary)
    (branch_warned dictionary)

unfoldable pub answered_in_branch : Dictionary → Branch → List Warning
answered_in_branch dictionary =
    fold-Branch (List Warning) (List Warning) (statement_warned dictionary)
    (branch_warned dictionary)

-- of a policy, in the order of its text
abbrev pub answered_warnings : Dictionary → List Statement → List Warning
answered_warnings dictionary statements = flat_map (answered_in dictionary) statements

abbrev pub answered_if_given : Dictionary → Option (List Statement) → List Warning
answered_if_given dictionary None = []
answered_if_given dictionary (Some block) = answered_warnings dictionary block
