-- Which lines a policy is warned of by how many instances of an attribute there are.
use Rattle.std.specs.Prelude.{Bool, false, not, ◌&&◌, if◌then◌else◌, List, [], ◌∷◌, ◌++◌, map, Option, Some, None}
use Rattle.std.specs.List.{flat_map, list_any}
use Rattle.std.specs.Option.{option_map, option_map_or, option_to_list}
use Rattle.avp_unlang.specs.Meaning.{stops}
use Rattle.avp_unlang.specs.declared.codes.Code.{Code}
use Rattle.avp_unlang.specs.declared.tree.Branch.{Branch}
use Rattle.avp_unlang.specs.declared.tree.Cond.{Cond}
use Rattle.avp_unlang.specs.declared.tree.Line.{Line}
use Rattle.avp_unlang.specs.declared.tree.Source.{Source}
use Rattle.avp_unlang.specs.declared.tree.Source.TheVariants.{Instance, Tagged}
use Rattle.avp_unlang.specs.declared.tree.Statement.{Statement}
use Rattle.avp_unlang.specs.declared.tree.Statement.TheFolds.{fold-Statement, fold-Branch}
use Rattle.avp_unlang.specs.declared.tree.Statement.TheOpen.{Statement-F, Branch-F, Update, If, Transaction, Word}
use Rattle.policy_warnings.specs.Counts.{Known, after_line, at_start, either_way, is_several, where_false, where_true}
use Rattle.policy_warnings.specs.Mentions.{means_same, selected, whole}
use Rattle.policy_warnings.specs.Warnings.{is_replacement, warning_if}
use Rattle.policy_warnings.specs.declared.counts.Counts.{Counts}
use Rattle.policy_warnings.specs.declared.mentions.Mention.{Mention}
use Rattle.policy_warnings.specs.declared.warnings.Reason.TheVariants.{SeveralInstances, AbsentSource}
use Rattle.policy_warnings.specs.declared.warnings.Warning.{Warning}

-- ---- what lines ask for

-- the instances that a line edits
abbrev pub edited_by : Line → Mention
edited_by line = selected line.list line.id line.selection

-- those of which `&` takes the first
abbrev pub copied_from : Source → Option Mention
copied_from (Instance list id) = Some (whole list id)
copied_from (Tagged list id selection form tag) = Some (selected list id selection)
copied_from _ = None

-- `:=` asks whether there are several, and `&` whether there is one
abbrev pub asked_by : Line → List Mention
asked_by line =
    (if is_replacement line.op then edited_by line ∷ [] else [])
    ++ option_to_list (copied_from line.source)

-- ---- the lines of an update

abbrev pub has_several : Mention → Line → Counts → Bool
has_several m line c =
    is_replacement line.op && means_same m (edited_by line) && is_several c.most

abbrev pub may_lack : Mention → Line → Counts → Bool
may_lack m line c = option_map_or (means_same m) (copied_from line.source) false && not c.is_certain

abbrev pub counted_at : Mention → Line → Counts → List Warning
counted_at m line c =
    warning_if (has_several m line c) line.line SeveralInstances
    ++ warning_if (may_lack m line c) line.line AbsentSource

abbrev pub after_lines : Mention → List Line → Counts → Counts
after_lines m [] c = c
after_lines m (line ∷ others) c = after_lines m others (after_line m line c)

abbrev pub counted_in_lines : Mention → List Line → Counts → List Warning
counted_in_lines m [] c = []
counted_in_lines m (line ∷ others) c =
    counted_at m line c ++ counted_in_lines m others (after_line m line c)

-- ---- statements

-- what statements make of what is known of the mentioned instances, and what they are warned of by it
pub record Passage : Type 0 where
  pub after : Known → Known
  pub warned : Known → List Warning

abbrev pub passing : Passage
passing = record { after = λ k. k; warned = λ k. [] }

-- first one, then the other
abbrev pub and_then : Passage → Passage → Passage
and_then p q = record {
  after = λ k. q.after (p.after k);
  warned = λ k. p.warned k ++ q.warned (p.after k);
}

abbrev pub in_order : List Passage → Passage
in_order [] = passing
in_order (p ∷ ps) = and_then p (in_order ps)

-- nothing is warned of where no run gets to
abbrev pub counted_if_known : Mention → List Line → Known → List Warning
counted_if_known m lines None = []
counted_if_known m lines (Some c) = counted_in_lines m lines c

abbrev pub update_passage : Mention → List Line → Passage
update_passage m lines = record {
  after = option_map (after_lines m lines);
  warned = counted_if_known m lines;
}

-- one where the condition is true, else the other
abbrev pub one_of : Mention → Cond → Passage → Passage → Passage
one_of m cond p q = record {
  after = λ k. either_way (p.after (where_true m cond k)) (q.after (where_false m cond k));
  warned = λ k. p.warned (where_true m cond k) ++ q.warned (where_false m cond k);
}

-- a condition, and what its block makes of what is known
pub record Choice : Type 0 where
  pub cond : Cond
  pub block : Passage

abbrev pub chain : Mention → List Choice → Passage → Passage
chain m [] otherwise = otherwise
chain m (b ∷ bs) otherwise = one_of m b.cond b.block (chain m bs otherwise)

abbrev pub if_given : Option (List Passage) → Passage
if_given None = passing
if_given (Some block) = in_order block

-- kept, or taken back; in a `transaction` nothing is warned of, since a server refuses it whole, and a failing line is
-- what it is for
abbrev pub kept_or_not : Passage → Passage
kept_or_not p = record { after = λ k. either_way k (p.after k); warned = λ k. [] }

-- some words stop the run
abbrev pub word_passage : Code → Passage
word_passage word = record passing { after = λ k. if stops word then None else k }

abbrev pub statement_passage : Mention → Statement-F Passage Choice → Passage
statement_passage m (Update n lines) = update_passage m lines
statement_passage m (If branches otherwise) = chain m branches (if_given otherwise)
statement_passage m (Transaction n block) = kept_or_not (in_order block)
statement_passage m (Word n word) = word_passage word

abbrev pub branch_choice : Branch-F Passage Choice → Choice
branch_choice b = record { cond = b.cond; block = in_order b.block }

unfoldable pub passage : Mention → Statement → Passage
passage m = fold-Statement Passage Choice (statement_passage m) branch_choice

unfoldable pub choice : Mention → Branch → Choice
choice m = fold-Branch Passage Choice (statement_passage m) branch_choice

abbrev pub block_passage : Mention → List Statement → Passage
block_passage m statements = in_order (map (passage m) statements)

abbrev pub given_passage : Mention → Option (List Statement) → Passage
given_passage m otherwise = if_given (option_map (map (passage m)) otherwise)

-- ---- policies

abbrev pub all_asked : List (List Mention) → List Mention
all_asked = flat_map (λ (ms : List Mention). ms)

abbrev pub asked_if_given : Option (List (List Mention)) → List Mention
asked_if_given None = []
asked_if_given (Some block) = all_asked block

abbrev pub statement_asked : Statement-F (List Mention) (List Mention) → List Mention
statement_asked (Update n lines) = flat_map asked_by lines
statement_asked (If branches otherwise) = all_asked branches ++ asked_if_given otherwise
statement_asked (Transaction n block) = all_asked block
statement_asked (Word n word) = []

abbrev pub branch_asked : Branch-F (List Mention) (List Mention) → List Mention
branch_asked b = all_asked b.block

-- what the lines of a statement ask for
unfoldable pub asked_in : Statement → List Mention
asked_in = fold-Statement (List Mention) (List Mention) statement_asked branch_asked

unfoldable pub asked_in_branch : Branch → List Mention
asked_in_branch = fold-Branch (List Mention) (List Mention) statement_asked branch_asked

-- one more, unless it is among them
abbrev pub with_mention : List Mention → Mention → List Mention
with_mention ms m = if list_any (means_same m) ms then ms else (ms ++ m ∷ [])

-- each one once
abbrev pub with_mentions : List Mention → List Mention → List Mention
with_mentions ms [] = ms
with_mentions ms (m ∷ others) = with_mentions (with_mention ms m) others

abbrev pub counted_of : List Statement → Mention → List Warning
counted_of statements m = (block_passage m statements).warned (Some (at_start m))

-- of a policy: for each of the mentioned instances, in the order of the text
abbrev pub count_warnings : List Statement → List Warning
count_warnings statements =
    flat_map (counted_of statements) (with_mentions [] (flat_map asked_in statements))
