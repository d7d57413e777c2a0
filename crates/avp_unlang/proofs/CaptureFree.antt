-- A policy that looks at no captures means what it means by the truth of its conditions alone.
use Rattle.std.proofs.Common.{◌≡◌, ℕ, Bool, true, false, cond, not, ◌&&◌, ◌||◌, List, [], ◌∷◌, map, Some, None, refl, sym, ap, ap₂, ◌∙◌, subst, true≢false}
use Rattle.std.specs.List.{list_all, list_any}
use Rattle.std.specs.Option.{option_map_or}
use Rattle.avp_lists.specs.declared.lists.State.{State}
use Rattle.avp_dict.specs.Dictionary.{Dictionary}
use Rattle.avp_unlang.specs.Captures.{Captures, filled, filled_part, filled_source, no_captures}
use Rattle.avp_unlang.specs.CaptureUse.{branch_layer_captures, branch_uses_captures, line_uses_captures, source_uses_captures, statement_layer_captures, statement_uses_captures, uses_captures}
use Rattle.avp_unlang.specs.Evaluations.{Evaluated, Evaluation, all_evaluated, any_evaluated, cond_evaluated, cond_layer_captures, cond_uses_captures, evaluated, is_capture, itself, side_has_captures}
use Rattle.avp_unlang.specs.Meaning.{Choice, Edited, Failed, LineResult, Meaning, Point, after_body, after_line, all_lines, branch_meaning, first_true, going_on, in_order, line_result, meaning, meaning_of, statement_meaning, unless_stop}
use Rattle.avp_unlang.specs.MeaningByTruth as truth
use Rattle.avp_unlang.specs.MeaningByTruth.{meaning_by_truth}
use Rattle.avp_unlang.specs.Relations.{meets}
use Rattle.avp_unlang.specs.Resolutions.{parts_text}
use Rattle.avp_unlang.specs.Texts.{filled_text, is_met_by_texts, order_beside, text_order}
use Rattle.avp_unlang.specs.Truth.{Test, cond_truth_with, printed_by, truth_by}
use Rattle.avp_unlang.specs.declared.codes.Code.{Code}
use Rattle.avp_unlang.specs.declared.tree.Branch.{Branch}
use Rattle.avp_unlang.specs.declared.tree.Cond.{Cond}
use Rattle.avp_unlang.specs.declared.tree.Cond.TheFolds.{fold-roll-Cond, ind-Cond, map-Cond}
use Rattle.avp_unlang.specs.declared.tree.Cond.TheOpen.{Cond-F, Any, All, Not, Last, Present, PresentSelected, Compare, CompareMeant, CompareTexts, Match, MatchText, MatchGroup, Captured}
use Rattle.avp_unlang.specs.declared.tree.Cond.TheViews.{roll-Cond}
use Rattle.avp_unlang.specs.declared.tree.Line.{Line}
use Rattle.avp_unlang.specs.declared.tree.Part.{Part}
use Rattle.avp_unlang.specs.declared.tree.Part.TheVariants.{Capture, Instance, Meant, Text}
use Rattle.avp_unlang.specs.declared.tree.Source.{Source}
use Rattle.avp_unlang.specs.declared.tree.Source.TheVariants as source
use Rattle.avp_unlang.specs.declared.tree.Statement.{Statement}
use Rattle.avp_unlang.specs.declared.tree.TextComparison.{TextComparison}
use Rattle.avp_unlang.specs.declared.tree.TextSide.{TextSide}
use Rattle.avp_unlang.specs.declared.tree.TextSide.TheVariants as side
use Rattle.avp_unlang.specs.declared.tree.Statement.TheFolds.{fold-roll-Statement, fold-roll-Branch, fold-Branch, map-Statement, map-Branch, ind-Statement}
use Rattle.avp_unlang.specs.declared.tree.Statement.TheOpen.{Statement-F, Branch-F, Update, If, Transaction, Word}
use Rattle.avp_unlang.specs.declared.tree.Statement.TheViews.{roll-Statement, roll-Branch}

pub or_left : (a b : Bool) → (a || b) ≡ false → a ≡ false
or_left true b h = h
or_left false b h = refl

pub or_right : (a b : Bool) → (a || b) ≡ false → b ≡ false
or_right true b h = absurd (true≢false h)
or_right false b h = h

-- ---- texts

part_same : (captures : Captures) (part : Part) → is_capture part ≡ false → filled_part captures part ≡ part
part_same captures (Text octets) h = refl
part_same captures (Instance list id) h = refl
part_same captures (Meant list id selection) h = refl
part_same captures (Capture group) h = absurd (true≢false h)

parts_same : (captures : Captures) (parts : List Part) → list_any is_capture parts ≡ false → map (filled_part captures) parts ≡ parts
parts_same captures [] h = refl
parts_same captures (part ∷ parts) h =
    ap₂ (λ p ps. p ∷ ps) (part_same captures part (or_left (is_capture part) (list_any is_capture parts) h)) (parts_same captures parts (or_right (is_capture part) (list_any is_capture parts) h))

module _ (dictionary : Dictionary) (s : State) (captures : Captures) where
  text_same : (parts : List Part) → list_any is_capture parts ≡ false → filled_text dictionary s captures parts ≡ filled_text dictionary s no_captures parts
  text_same parts h = ap (parts_text dictionary s) (parts_same captures parts h ∙ sym (parts_same no_captures parts h))

  order_same : (left : TextSide) (text : List ℕ) → side_has_captures left ≡ false → order_beside dictionary s captures left text ≡ order_beside dictionary s no_captures left text
  order_same (side.Text parts) text h = ap (λ os. Some (text_order os text)) (text_same parts h)
  order_same (side.Instance list id selection) text h = refl

  met_same : (k : TextComparison) → (side_has_captures k.left || list_any is_capture k.right) ≡ false → is_met_by_texts dictionary k s captures ≡ is_met_by_texts dictionary k s no_captures
  met_same k h =
      ap (λ text. option_map_or (meets k.relation) (order_beside dictionary s captures k.left text) false) (text_same k.right (or_right (side_has_captures k.left) (list_any is_capture k.right) h))
      ∙ ap (λ o. option_map_or (meets k.relation) o false) (order_same k.left (filled_text dictionary s no_captures k.right) (or_left (side_has_captures k.left) (list_any is_capture k.right) h))

-- ---- conditions

module _ (dictionary : Dictionary) (s : State) (code : Code) where
  abbrev IsSame : Cond → Type 0
  IsSame c = cond_uses_captures c ≡ false → (captures : Captures) → (evaluated dictionary c s code captures).truth ≡ truth_by dictionary c s code

  abbrev Such : Type 0
  Such = (c : Cond) × IsSame c

  abbrev the_conds : List Such → List Cond
  the_conds es = map (λ e. e.0) es

  abbrev cond_layer : Cond-F Such → Cond-F Cond
  cond_layer = map-Cond Such Cond (λ e. e.0)

  abbrev here : Test → Bool
  here test = test s code

  -- the first of two conditions, by what it comes to
  any_by : (e : Evaluated) (others : Captures → Evaluated) (rest b : Bool) → ((captures : Captures) → (others captures).truth ≡ rest) → e.truth ≡ b → (cond b e (others e.captures)).truth ≡ (b || rest)
  any_by e others rest true h is = is
  any_by e others rest false h is = h e.captures

  all_by : (e : Evaluated) (others : Captures → Evaluated) (rest b : Bool) → ((captures : Captures) → (others captures).truth ≡ rest) → e.truth ≡ b → (cond b (others e.captures) e).truth ≡ (b && rest)
  all_by e others rest true h is = h e.captures
  all_by e others rest false h is = is

  any_same : (es : List Such) → list_any itself (map cond_uses_captures (the_conds es)) ≡ false → (captures : Captures) → (any_evaluated (map (evaluated dictionary) (the_conds es)) s code captures).truth ≡ list_any here (map (truth_by dictionary) (the_conds es))
  any_same [] h captures = refl
  any_same (e ∷ es) h captures =
      let used = list_any itself (map cond_uses_captures (the_conds es)) in
      let rest = list_any here (map (truth_by dictionary) (the_conds es)) in
      let first = evaluated dictionary e.0 s code captures in
      any_by first (any_evaluated (map (evaluated dictionary) (the_conds es)) s code) rest first.truth (any_same es (or_right (cond_uses_captures e.0) used h)) refl
      ∙ ap (λ b. b || rest) (e.1 (or_left (cond_uses_captures e.0) used h) captures)

  all_same : (es : List Such) → list_any itself (map cond_uses_captures (the_conds es)) ≡ false → (captures : Captures) → (all_evaluated (map (evaluated dictionary) (the_conds es)) s code captures).truth ≡ list_all here (map (truth_by dictionary) (the_conds es))
  all_same [] h captures = refl
  all_same (e ∷ es) h captures =
      let used = list_any itself (map cond_uses_captures (the_conds es)) in
      let rest = list_all here (map (truth_by dictionary) (the_conds es)) in
      let first = evaluated dictionary e.0 s code captures in
      all_by first (all_evaluated (map (evaluated dictionary) (the_conds es)) s code) rest first.truth (all_same es (or_right (cond_uses_captures e.0) used h)) refl
      ∙ ap (λ b. b && rest) (e.1 (or_left (cond_uses_captures e.0) used h) captures)

  layer_same : (y : Cond-F Such) → cond_layer_captures (map-Cond Cond Bool cond_uses_captures (cond_layer y)) ≡ false
      → (captures : Captures) → (cond_evaluated dictionary (map-Cond Cond Evaluation (evaluated dictionary) (cond_layer y)) s code captures).truth ≡ cond_truth_with (printed_by dictionary) (map-Cond Cond Test (truth_by dictionary) (cond_layer y)) s code
  layer_same (Any parts) h captures = any_same parts h captures
  layer_same (All parts) h captures = all_same parts h captures
  layer_same (Not part) h captures = ap not (part.1 h captures)
  layer_same (Last word) h captures = refl
  layer_same (Present list id) h captures = refl
  layer_same (PresentSelected list id selection) h captures = refl
  layer_same (Compare c) h captures = refl
  layer_same (CompareMeant c) h captures = refl
  layer_same (CompareTexts k) h captures = met_same dictionary s captures k h
  layer_same (Match m) h captures = refl
  layer_same (MatchText m) h captures = refl
  layer_same (MatchGroup m) h captures = absurd (true≢false h)
  layer_same (Captured group) h captures = absurd (true≢false h)

  cond_rolled : (x : Cond-F Cond)
      → (cond_layer_captures (map-Cond Cond Bool cond_uses_captures x) ≡ false
      → (captures : Captures) → (cond_evaluated dictionary (map-Cond Cond Evaluation (evaluated dictionary) x) s code captures).truth ≡ cond_truth_with (printed_by dictionary) (map-Cond Cond Test (truth_by dictionary) x) s code)
      → IsSame (roll-Cond x)
  unfolding cond_uses_captures evaluated truth_by
  cond_rolled x h free captures =
      ap (λ (e : Evaluation). (e s code captures).truth) (fold-roll-Cond Evaluation (cond_evaluated dictionary) x)
      ∙ h (sym (fold-roll-Cond Bool cond_layer_captures x) ∙ free) captures
      ∙ ap here (sym (fold-roll-Cond Test (cond_truth_with (printed_by dictionary)) x))

  pub evaluated_truth : (c : Cond) → cond_uses_captures c ≡ false → (captures : Captures) → (evaluated dictionary c s code captures).truth ≡ truth_by dictionary c s code
  evaluated_truth = ind-Cond IsSame (λ x y is. subst (λ z. IsSame (roll-Cond z)) is (cond_rolled (cond_layer y) (layer_same y)))

-- ---- update lines

source_same : (captures : Captures) (from : Source) → source_uses_captures from ≡ false → filled_source captures from ≡ from
source_same captures (source.Text raw parts) h = ap (source.Text raw) (parts_same captures parts h)
source_same captures (source.WiderText raw tag parts) h = ap (source.WiderText raw tag) (parts_same captures parts h)
source_same captures from h = refl

pub line_same : (captures : Captures) (line : Line) → line_uses_captures line ≡ false → filled captures line ≡ line
line_same captures line h = ap (λ from. record line { source = from }) (source_same captures line.source h)

-- ---- statements

module _ (d : Dictionary) where
  abbrev choice : Branch → Choice
  choice = fold-Branch Meaning Choice (statement_meaning d) branch_meaning

  abbrev truth_choice : Branch → truth.Choice
  truth_choice = fold-Branch truth.Meaning truth.Choice (truth.statement_meaning d) truth.branch_meaning

  -- the same outcome, whatever was captured
  abbrev Same : Meaning → truth.Meaning → Type 0
  Same m t = (s : State) (c : Code) (captures : Captures) → (m s c captures).outcome ≡ t s c

  abbrev StatementSame : Statement → Type 0
  StatementSame s = statement_uses_captures s ≡ false → Same (meaning d s) (truth.meaning d s)

  abbrev BranchSame : Branch → Type 0
  BranchSame b = branch_uses_captures b ≡ false
      → ((choice b).cond ≡ (truth_choice b).cond) × (cond_uses_captures (choice b).cond ≡ false) × Same (choice b).block (truth_choice b).block

  abbrev SuchStatement : Type 0
  SuchStatement = (s : Statement) × StatementSame s

  abbrev SuchBranch : Type 0
  SuchBranch = (b : Branch) × BranchSame b

  abbrev the_statements : List SuchStatement → List Statement
  the_statements es = map (λ e. e.0) es

  abbrev the_branches : List SuchBranch → List Branch
  the_branches es = map (λ e. e.0) es

  next_same : (p : Point) (m : Meaning) (t : truth.Meaning) → Same m t → (unless_stop p m).outcome ≡ truth.unless_stop p.outcome t
  next_same p m t h =
      elim p.outcome.stopped as (λ b. (cond b p (m p.outcome.state p.outcome.code p.captures)).outcome ≡ cond b p.outcome (t p.outcome.state p.outcome.code)) [
        | true ↦ refl
        | false ↦ h p.outcome.state p.outcome.code p.captures
      ]

  one_more : (x : Statement) (xs : List Statement) → Same (meaning d x) (truth.meaning d x) → Same (in_order (map (meaning d) xs)) (truth.in_order (map (truth.meaning d) xs))
      → Same (in_order (map (meaning d) (x ∷ xs))) (truth.in_order (map (truth.meaning d) (x ∷ xs)))
  one_more x xs own others s c captures =
      next_same (meaning d x s c captures) (in_order (map (meaning d) xs)) (truth.in_order (map (truth.meaning d) xs)) others
      ∙ ap (λ o. truth.unless_stop o (truth.in_order (map (truth.meaning d) xs))) (own s c captures)

  block_same : (es : List SuchStatement) → list_any itself (map statement_uses_captures (the_statements es)) ≡ false
      → Same (in_order (map (meaning d) (the_statements es))) (truth.in_order (map (truth.meaning d) (the_statements es)))
  block_same [] h s c captures = refl
  block_same (e ∷ es) h s c captures =
      let used = list_any itself (map statement_uses_captures (the_statements es)) in
      one_more e.0 (the_statements es) (e.1 (or_left (statement_uses_captures e.0) used h)) (block_same es (or_right (statement_uses_captures e.0) used h)) s c captures

  lines_same : (entry : State) (ls : List Line) → list_any line_uses_captures ls ≡ false → Same (all_lines d entry ls) (truth.all_lines d entry ls)
  lines_same entry [] h s c captures = refl
  lines_same entry (l ∷ ls) h s c captures =
      let used = list_any line_uses_captures ls in
      let others = lines_same entry ls (or_right (line_uses_captures l) used h) in
      let by : (r : LineResult) → (after_line entry r c captures (all_lines d entry ls)).outcome ≡ truth.after_line entry r c (truth.all_lines d entry ls) =
      λ r. elim r as (λ r. (after_line entry r c captures (all_lines d entry ls)).outcome ≡ truth.after_line entry r c (truth.all_lines d entry ls)) [ Edited t ↦ others t c captures | Failed why ↦ refl ] in
      ap (λ line. (after_line entry (line_result d line s) c captures (all_lines d entry ls)).outcome) (line_same captures l (or_left (line_uses_captures l) used h))
      ∙ by (line_result d l s)

  branches_same : (es : List SuchBranch) → list_any itself (map branch_uses_captures (the_branches es)) ≡ false → (m : Meaning) (t : truth.Meaning) → Same m t
      → Same (first_true d (map choice (the_branches es)) m) (truth.first_true d (map truth_choice (the_branches es)) t)
  branches_same [] free m t h s c captures = h s c captures
  branches_same (b ∷ es) free m t h s c captures =
      let used = list_any itself (map branch_uses_captures (the_branches es)) in
      let own = b.1 (or_left (branch_uses_captures b.0) used free) in
      let others = branches_same es (or_right (branch_uses_captures b.0) used free) m t h in
      let rest = first_true d (map choice (the_branches es)) m in
      let truth_rest = truth.first_true d (map truth_choice (the_branches es)) t in
      let e = evaluated d (choice b.0).cond s c captures in
      let by : (x : Bool) → (cond x ((choice b.0).block s c e.captures) (rest s c e.captures)).outcome ≡ cond x ((truth_choice b.0).block s c) (truth_rest s c) =
      λ x. elim x as (λ x. (cond x ((choice b.0).block s c e.captures) (rest s c e.captures)).outcome ≡ cond x ((truth_choice b.0).block s c) (truth_rest s c)) [ true ↦ own.2 s c e.captures | false ↦ others s c e.captures ] in
      by e.truth
      ∙ ap (λ x. cond x ((truth_choice b.0).block s c) (truth_rest s c)) (evaluated_truth d s c (choice b.0).cond own.1 captures ∙ ap (λ k. truth_by d k s c) own.0)

  body_same : (s : State) (p : Point) → (after_body s p).outcome ≡ truth.after_body s p.outcome
  body_same s p = elim p.outcome.stopped as (λ b. (cond b (going_on s p.outcome.code p.captures) p).outcome ≡ cond b (going_on s p.outcome.code p.captures).outcome p.outcome) [ true ↦ refl | false ↦ refl ]

  abbrev layer : Statement-F SuchStatement SuchBranch → Statement-F Statement Branch
  layer = map-Statement SuchStatement SuchBranch Statement Branch (λ e. e.0) (λ e. e.0)

  abbrev branch_layer : Branch-F SuchStatement SuchBranch → Branch-F Statement Branch
  branch_layer = map-Branch SuchStatement SuchBranch Statement Branch (λ e. e.0) (λ e. e.0)

  rolled : (x : Statement-F Statement Branch)
      → (statement_layer_captures (map-Statement Statement Branch Bool Bool statement_uses_captures branch_uses_captures x) ≡ false
      → Same (statement_meaning d (map-Statement Statement Branch Meaning Choice (meaning d) choice x)) (truth.statement_meaning d (map-Statement Statement Branch truth.Meaning truth.Choice (truth.meaning d) truth_choice x)))
      → StatementSame (roll-Statement x)
  rolled x h free s c captures =
      ap (λ (m : Meaning). (m s c captures).outcome) (fold-roll-Statement Meaning Choice (statement_meaning d) branch_meaning x)
      ∙ h (sym (fold-roll-Statement Bool Bool statement_layer_captures branch_layer_captures x) ∙ free) s c captures
      ∙ ap (λ (t : truth.Meaning). t s c) (sym (fold-roll-Statement truth.Meaning truth.Choice (truth.statement_meaning d) truth.branch_meaning x))

  statement_step : (y : Statement-F SuchStatement SuchBranch) → statement_layer_captures (map-Statement Statement Branch Bool Bool statement_uses_captures branch_uses_captures (layer y)) ≡ false
      → Same (statement_meaning d (map-Statement Statement Branch Meaning Choice (meaning d) choice (layer y))) (truth.statement_meaning d (map-Statement Statement Branch truth.Meaning truth.Choice (truth.meaning d) truth_choice (layer y)))
  statement_step (Update n lines) h s c captures = lines_same s lines h s c captures
  statement_step (If bs None) h s c captures =
      branches_same bs (or_left (list_any itself (map branch_uses_captures (the_branches bs))) false h) going_on (truth.if_given None) (λ s c captures. refl) s c captures
  statement_step (If bs (Some block)) h s c captures =
      let used = list_any itself (map branch_uses_captures (the_branches bs)) in
      let last = list_any itself (map statement_uses_captures (the_statements block)) in
      branches_same bs (or_left used last h) (in_order (map (meaning d) (the_statements block))) (truth.in_order (map (truth.meaning d) (the_statements block))) (block_same block (or_right used last h)) s c captures
  statement_step (Transaction n block) h s c captures =
      body_same s (in_order (map (meaning d) (the_statements block)) s c captures)
      ∙ ap (truth.after_body s) (block_same block h s c captures)
  statement_step (Word n word) h s c captures = refl

  branch_step : (y : Branch-F SuchStatement SuchBranch) → BranchSame (roll-Branch (branch_layer y))
  branch_step y free =
      let uses = fold-roll-Branch Bool Bool statement_layer_captures branch_layer_captures (branch_layer y) in
      let used = list_any itself (map statement_uses_captures (the_statements y.block)) in
      let at_meaning = fold-roll-Branch Meaning Choice (statement_meaning d) branch_meaning (branch_layer y) in
      let at_truth = fold-roll-Branch truth.Meaning truth.Choice (truth.statement_meaning d) truth.branch_meaning (branch_layer y) in
      let none : (cond_uses_captures y.cond || used) ≡ false = sym uses ∙ free in (
        ap (λ (k : Choice). k.cond) at_meaning ∙ ap (λ (k : truth.Choice). k.cond) (sym at_truth),
        ap (λ (k : Choice). cond_uses_captures k.cond) at_meaning ∙ or_left (cond_uses_captures y.cond) used none,
        λ s c captures. ap (λ (k : Choice). (k.block s c captures).outcome) at_meaning
            ∙ block_same y.block (or_right (cond_uses_captures y.cond) used none) s c captures
            ∙ ap (λ (k : truth.Choice). k.block s c) (sym at_truth),
      )

  statement_same : (s : Statement) → StatementSame s
  statement_same =
      ind-Statement StatementSame BranchSame
      (λ x y is. subst (λ z. StatementSame (roll-Statement z)) is (rolled (layer y) (statement_step y)))
      (λ x y is. subst (λ z. BranchSame (roll-Branch z)) is (branch_step y))

  statements_same : (ss : List Statement) → uses_captures ss ≡ false → Same (in_order (map (meaning d) ss)) (truth.in_order (map (truth.meaning d) ss))
  statements_same [] h s c captures = refl
  statements_same (x ∷ xs) h s c captures =
      one_more x xs (statement_same x (or_left (statement_uses_captures x) (uses_captures xs) h)) (statements_same xs (or_right (statement_uses_captures x) (uses_captures xs) h)) s c captures

  -- what a policy means that looks at no captures
  pub capture_free_meaning : (ss : List Statement) → uses_captures ss ≡ false → (s : State) (c : Code) → meaning_of d ss s c ≡ meaning_by_truth d ss s c
  capture_free_meaning ss h s c = statements_same ss h s c _
