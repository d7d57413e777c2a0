-- Which attributes are secret in a policy, and what is shown of them.
use Rattle.std.specs.Prelude.{◌≡◌, ℕ, Bool, true, false, ◌||◌, if◌then◌else◌, List, [], ◌∷◌, ◌++◌, codes, Option, None, Some}
use Rattle.std.specs.Borrow.{Bor}
use Rattle.std.specs.List.{flat_map, list_any}
use Rattle.avp_lists.specs.Pairs.{id_eq}
use Rattle.avp_lists.specs.declared.pairs.AttrId.{AttrId}
use Rattle.avp_lists.specs.declared.pairs.AttrId.TheVariants as ids
use Rattle.avp_lists.specs.declared.pairs.Pair.{Pair}
use Rattle.avp_lists.specs.declared.pairs.Value.{Value}
use Rattle.avp_dict.specs.Dictionary.{Dictionary}
use Rattle.avp_forms.specs.Printing.{printed_pair_name, printed_pair_text}
use Rattle.avp_forms.specs.declared.profiles.Profile.TheVariants.{Wider}
use Rattle.avp_unlang.specs.declared.tree.Branch.{Branch}
use Rattle.avp_unlang.specs.declared.tree.Cond.{Cond}
use Rattle.avp_unlang.specs.declared.tree.Cond.TheFolds.{fold-Cond}
use Rattle.avp_unlang.specs.declared.tree.Cond.TheOpen as cond
use Rattle.avp_unlang.specs.declared.tree.Cond.TheOpen.{Cond-F}
use Rattle.avp_unlang.specs.declared.tree.Line.{Line}
use Rattle.avp_unlang.specs.declared.tree.Part.{Part}
use Rattle.avp_unlang.specs.declared.tree.Part.TheVariants as part
use Rattle.avp_unlang.specs.declared.tree.Source.{Source}
use Rattle.avp_unlang.specs.declared.tree.Source.TheVariants as source
use Rattle.avp_unlang.specs.declared.tree.Statement.{Statement}
use Rattle.avp_unlang.specs.declared.tree.Statement.TheFolds.{fold-Statement, fold-Branch}
use Rattle.avp_unlang.specs.declared.tree.Statement.TheOpen.{Statement-F, Branch-F, Update, If, Transaction, Word}
use Rattle.radpolicy_common.specs.SecretAttributes.{is_secret, is_secret_attribute, is_secret_text}
use Rattle.radpolicy_common.specs.declared.redactions.Hiding.{Hiding}
use Rattle.radpolicy_common.specs.declared.redactions.SecretValues.{SecretValues}
use Rattle.radpolicy_common.specs.declared.redactions.SecretValues.TheVariants.{Hidden, Shown}

abbrev pub joined : {A : Type 0} → List (List A) → List A
joined lists = flat_map (λ list. list) lists

abbrev pub joined_if_given : {A : Type 0} → Option (List (List A)) → List A
joined_if_given None = []
joined_if_given (Some lists) = joined lists

-- ---- the update lines of a policy, in the order of its text

abbrev pub statement_lines : Statement-F (List Line) (List Line) → List Line
statement_lines (Update n lines) = lines
statement_lines (If branches otherwise) = joined branches ++ joined_if_given otherwise
statement_lines (Transaction n block) = joined block
statement_lines (Word n word) = []

abbrev pub branch_lines : Branch-F (List Line) (List Line) → List Line
branch_lines b = joined b.block

unfoldable pub lines_in : Statement → List Line
lines_in = fold-Statement (List Line) (List Line) statement_lines branch_lines

unfoldable pub lines_in_branch : Branch → List Line
lines_in_branch = fold-Branch (List Line) (List Line) statement_lines branch_lines

abbrev pub lines_of : List Statement → List Line
lines_of statements = flat_map lines_in statements

-- ---- the attributes that a policy compares with patterns, in the order of its text

-- what a pattern with a secret key captures is as secret as a User-Password
abbrev pub matched_by_key : List ℕ → List AttrId
matched_by_key pattern = if is_secret_text pattern then ids.Plain 2 ∷ [] else []

abbrev pub cond_matched : Cond-F (List AttrId) → List AttrId
cond_matched (cond.Any parts) = joined parts
cond_matched (cond.All parts) = joined parts
cond_matched (cond.Not part) = part
cond_matched (cond.Match matching) = matching.id ∷ matched_by_key matching.pattern
cond_matched (cond.MatchText matching) = matching.id ∷ matched_by_key matching.pattern
cond_matched (cond.MatchGroup matching) = matched_by_key matching.pattern
cond_matched _ = []

unfoldable pub matched_in_cond : Cond → List AttrId
matched_in_cond = fold-Cond (List AttrId) cond_matched

abbrev pub statement_matched : Statement-F (List AttrId) (List AttrId) → List AttrId
statement_matched (Update n lines) = []
statement_matched (If branches otherwise) = joined branches ++ joined_if_given otherwise
statement_matched (Transaction n block) = joined block
statement_matched (Word n word) = []

abbrev pub branch_matched : Branch-F (List AttrId) (List AttrId) → List AttrId
branch_matched b = matched_in_cond b.cond ++ joined b.block

unfoldable pub matched_in : Statement → List AttrId
matched_in = fold-Statement (List AttrId) (List AttrId) statement_matched branch_matched

unfoldable pub matched_in_branch : Branch → List AttrId
matched_in_branch = fold-Branch (List AttrId) (List AttrId) statement_matched branch_matched

abbrev pub matched_of : List Statement → List AttrId
matched_of statements = flat_map matched_in statements

-- ---- the attributes from which a source takes

-- in an expansion; whether what was captured is of one that passes is given
abbrev pub part_takes : (AttrId → Bool) → Bool → Part → Bool
part_takes passes captured (part.Text octets) = false
part_takes passes captured (part.Instance list id) = passes id
part_takes passes captured (part.Meant list id selection) = passes id
part_takes passes captured (part.Capture group) = captured

-- by `&`, or in an expansion
abbrev pub source_takes : (AttrId → Bool) → Bool → Source → Bool
source_takes passes captured (source.Literal value) = false
source_takes passes captured (source.Text raw parts) = list_any (part_takes passes captured) parts
source_takes passes captured (source.WiderText raw tag parts) =
    list_any (part_takes passes captured) parts
source_takes passes captured (source.Instance list id) = passes id
source_takes passes captured (source.Tagged list id selection form tag) = passes id
source_takes passes captured source.Any = false

-- ---- secret attributes

-- secret whatever a policy does, or one of these
abbrev pub is_among : Dictionary → List AttrId → AttrId → Bool
is_among dictionary ids id = is_secret_attribute id dictionary || list_any (id_eq id) ids

-- A line's source takes from one of them. Which comparison captured is known in a run alone, so what was captured may be
-- of each attribute that is compared with a pattern.
abbrev pub takes_secret : Dictionary → List AttrId → List AttrId → Line → Bool
takes_secret dictionary matched ids line =
    source_takes (is_among dictionary ids) (list_any (is_among dictionary ids) matched) line.source

-- each attribute to which an update line gives a value of one of them is one of them
abbrev pub IsClosed : Dictionary → List AttrId → List Line → List AttrId → Type 0
IsClosed dictionary matched [] ids = Unit {0}
IsClosed dictionary matched (line ∷ lines) ids =
    (takes_secret dictionary matched ids line ≡ true → is_among dictionary ids line.id ≡ true)
    × IsClosed dictionary matched lines ids

-- the same of all update lines of a policy
abbrev pub IsClosedIn : Dictionary → List Statement → List AttrId → Type 0
IsClosedIn dictionary statements ids =
    IsClosed dictionary (matched_of statements) (lines_of statements) ids

-- each of these is one of the others
abbrev pub AreAmong : Dictionary → List AttrId → List AttrId → Type 0
AreAmong dictionary others [] = Unit {0}
AreAmong dictionary others (id ∷ ids) =
    (is_among dictionary others id ≡ true) × AreAmong dictionary others ids

-- the statements of policies, one after another
abbrev pub statements_of : List (Bor (List Statement)) → List Statement
statements_of policies = flat_map (λ policy. policy.now) policies

-- The least such that has those that are given: together with those that are secret whatever a policy does, these are the
-- secret attributes of the statements.
pub record AreSecret (dictionary : Dictionary) (given : List AttrId) (statements : List Statement) (ids : List AttrId) : Type 0 where
  pub asked : AreAmong dictionary ids given
  pub closed : IsClosedIn dictionary statements ids
  pub least : (others : List AttrId) → AreAmong dictionary others given
      → IsClosedIn dictionary statements others → AreAmong dictionary others ids

-- an attribute that the statements compare with a pattern is secret
abbrev pub captures_secret : Dictionary → List AttrId → List Statement → Bool
captures_secret dictionary ids statements =
    list_any (is_among dictionary ids) (matched_of statements)

-- ---- what is shown

-- what is hidden, by the secret attributes of a policy, and whether what is captured is
pub record Redaction : Type 0 where
  pub dictionary : Dictionary
  pub secrets : SecretValues
  pub ids : List AttrId
  pub captured : Bool

-- what is hidden of the runs of these statements
pub record IsRedactionOf (own : Dictionary) (statements : List Statement) (hiding : Hiding) (redaction : Redaction) : Type 0 where
  pub dictionary : redaction.dictionary ≡ own
  pub secrets : redaction.secrets ≡ hiding.secrets
  pub ids : AreSecret own hiding.given.now statements redaction.ids
  pub captured : redaction.captured ≡ captures_secret own redaction.ids statements

-- the value of such an attribute is hidden, unless secret values are shown
abbrev pub hides : Redaction → AttrId → Value → Bool
hides redaction id value = elim redaction.secrets [
  | Shown ↦ false
  | Hidden ↦ is_secret id value redaction.dictionary || list_any (id_eq id) redaction.ids
]

-- the text of a value, or (hidden)
abbrev pub shown_text : Redaction → Pair → List ℕ
shown_text redaction pair =
    if hides redaction pair.id pair.value then codes "(hidden)"
    else printed_pair_text Wider pair.id pair.value redaction.dictionary

-- the text of a pair, in the forms of the wider profile
abbrev pub pair_text : Redaction → Pair → List ℕ
pair_text redaction pair = printed_pair_name Wider pair.id pair.value redaction.dictionary
    ++ codes " = " ++ shown_text redaction pair
