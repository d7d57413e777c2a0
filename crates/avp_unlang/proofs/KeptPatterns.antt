-- What compares with patterns among some compares with patterns among more.
use Rattle.std.proofs.Common.{◌≡◌, ◌<◌, ◌+◌, ℕ, Bool, true, false, ◌&&◌, ◌||◌, List, [], ◌∷◌, ◌++◌, get_or, length, map, take, None, Some, refl, sym, ap, ◌∙◌, subst}
use Rattle.std.proofs.Math.Bool.{or-true}
use Rattle.std.proofs.lemmas.List.Folds.{list_all_more, list_any-append}
use Rattle.std.proofs.lemmas.Slice.Eq.{bytes_eq-Decides}
use Rattle.std.specs.List.{list_all}
use Rattle.avp_patterns.specs.Patterns.{Written}
use Rattle.avp_unlang.specs.PatternTruth.{pattern_in}
use Rattle.avp_unlang.specs.PolicyPatterns.{branch_layer_passes, branch_patterns_pass, cond_layer_passes, cond_patterns_pass, is_among, passes, same_bool, same_pattern, statement_layer_passes, statement_patterns_pass}
use Rattle.avp_unlang.specs.Texts.{group_pattern}
use Rattle.avp_unlang.specs.declared.tree.Branch.{Branch}
use Rattle.avp_unlang.specs.declared.tree.Cond.{Cond}
use Rattle.avp_unlang.specs.declared.tree.Cond.TheFolds.{fold-roll-Cond, ind-Cond, map-Cond}
use Rattle.avp_unlang.specs.declared.tree.Cond.TheOpen.{Cond-F, Any, All, Not, Last, Present, PresentSelected, Compare, CompareMeant, CompareTexts, Match, MatchText, MatchGroup, Captured}
use Rattle.avp_unlang.specs.declared.tree.Cond.TheViews.{roll-Cond}
use Rattle.avp_unlang.specs.declared.tree.Statement.{Statement}
use Rattle.avp_unlang.specs.declared.tree.Statement.TheFolds.{fold-roll-Branch, fold-roll-Statement, ind-Branch, ind-Statement, map-Branch, map-Statement}
use Rattle.avp_unlang.specs.declared.tree.Statement.TheOpen.{Statement-F, Branch-F, Update, If, Transaction, Word}
use Rattle.avp_unlang.specs.declared.tree.Statement.TheViews.{roll-Branch, roll-Statement}
use Rattle.avp_unlang.proofs.Comparing.{and_left, and_right}

pub both_true : (a b : Bool) → a ≡ true → b ≡ true → (a && b) ≡ true
both_true a b e f = rw e f

pub all_kept : {A : Type 0} (f g : A → Bool) → ((x : A) → f x ≡ true → g x ≡ true) → (xs : List A) → list_all f xs ≡ true → list_all g xs ≡ true
all_kept f g more [] h = refl
all_kept f g more (x ∷ xs) h =
    both_true (g x) (list_all g xs) (more x (and_left (f x) (list_all f xs) h)) (all_kept f g more xs (and_right (f x) (list_all f xs) h))

module _ (f g : Written → Bool) (more : (w : Written) → f w ≡ true → g w ≡ true) where
  -- ---- conditions

  abbrev IsKept : Cond → Type 0
  IsKept c = cond_patterns_pass f c ≡ true → cond_patterns_pass g c ≡ true

  abbrev Such : Type 0
  Such = (c : Cond) × IsKept c

  abbrev the_conds : List Such → List Cond
  the_conds es = map (λ e. e.0) es

  abbrev layer : Cond-F Such → Cond-F Cond
  layer = map-Cond Such Cond (λ e. e.0)

  conds_kept : (es : List Such) → list_all passes (map (cond_patterns_pass f) (the_conds es)) ≡ true → list_all passes (map (cond_patterns_pass g) (the_conds es)) ≡ true
  conds_kept [] h = refl
  conds_kept (e ∷ es) h =
      let rest = list_all passes (map (cond_patterns_pass f) (the_conds es)) in
      both_true (cond_patterns_pass g e.0) (list_all passes (map (cond_patterns_pass g) (the_conds es)))
      (e.1 (and_left (cond_patterns_pass f e.0) rest h)) (conds_kept es (and_right (cond_patterns_pass f e.0) rest h))

  layer_kept : (y : Cond-F Such) → cond_layer_passes f (map-Cond Cond Bool (cond_patterns_pass f) (layer y)) ≡ true → cond_layer_passes g (map-Cond Cond Bool (cond_patterns_pass g) (layer y)) ≡ true
  layer_kept (Any parts) h = conds_kept parts h
  layer_kept (All parts) h = conds_kept parts h
  layer_kept (Not part) h = part.1 h
  layer_kept (Last word) h = refl
  layer_kept (Present list id) h = refl
  layer_kept (PresentSelected list id selection) h = refl
  layer_kept (Compare c) h = refl
  layer_kept (CompareMeant c) h = refl
  layer_kept (CompareTexts c) h = refl
  layer_kept (Match m) h = more (pattern_in m) h
  layer_kept (MatchText m) h = more (pattern_in m) h
  layer_kept (MatchGroup m) h = more (group_pattern m) h
  layer_kept (Captured group) h = refl

  rolled : (x : Cond-F Cond) → (cond_layer_passes f (map-Cond Cond Bool (cond_patterns_pass f) x) ≡ true → cond_layer_passes g (map-Cond Cond Bool (cond_patterns_pass g) x) ≡ true) → IsKept (roll-Cond x)
  unfolding cond_patterns_pass
  rolled x h passing =
      fold-roll-Cond Bool (cond_layer_passes g) x ∙ h (sym (fold-roll-Cond Bool (cond_layer_passes f) x) ∙ passing)

  pub cond_kept : (c : Cond) → cond_patterns_pass f c ≡ true → cond_patterns_pass g c ≡ true
  cond_kept = ind-Cond IsKept (λ x y is. subst (λ z. IsKept (roll-Cond z)) is (rolled (layer y) (layer_kept y)))

  -- ---- statements

  abbrev StatementKept : Statement → Type 0
  StatementKept s = statement_patterns_pass f s ≡ true → statement_patterns_pass g s ≡ true

  abbrev BranchKept : Branch → Type 0
  BranchKept b = branch_patterns_pass f b ≡ true → branch_patterns_pass g b ≡ true

  abbrev SuchStatement : Type 0
  SuchStatement = (s : Statement) × StatementKept s

  abbrev SuchBranch : Type 0
  SuchBranch = (b : Branch) × BranchKept b

  such_kept : {A : Type 0} (p q : A → Bool) (es : List ((x : A) × (p x ≡ true → q x ≡ true))) → list_all passes (map p (map (λ e. e.0) es)) ≡ true → list_all passes (map q (map (λ e. e.0) es)) ≡ true
  such_kept p q [] h = refl
  such_kept p q (e ∷ es) h =
      let rest = list_all passes (map p (map (λ z. z.0) es)) in
      both_true (q e.0) (list_all passes (map q (map (λ z. z.0) es)))
      (e.1 (and_left (p e.0) rest h)) (such_kept p q es (and_right (p e.0) rest h))

  abbrev statement_layer : Statement-F SuchStatement SuchBranch → Statement-F Statement Branch
  statement_layer = map-Statement SuchStatement SuchBranch Statement Branch (λ e. e.0) (λ e. e.0)

  abbrev branch_layer : Branch-F SuchStatement SuchBranch → Branch-F Statement Branch
  branch_layer = map-Branch SuchStatement SuchBranch Statement Branch (λ e. e.0) (λ e. e.0)

  statement_layer_kept : (y : Statement-F SuchStatement SuchBranch) → statement_layer_passes (map-Statement Statement Branch Bool Bool (statement_patterns_pass f) (branch_patterns_pass f) (statement_layer y)) ≡ true → statement_layer_passes (map-Statement Statement Branch Bool Bool (statement_patterns_pass g) (branch_patterns_pass g) (statement_layer y)) ≡ true
  statement_layer_kept (Update n lines) h = refl
  statement_layer_kept (If bs None) h =
      both_true _ true (such_kept (branch_patterns_pass f) (branch_patterns_pass g) bs (and_left _ true h)) refl
  statement_layer_kept (If bs (Some block)) h =
      both_true _ _ (such_kept (branch_patterns_pass f) (branch_patterns_pass g) bs (and_left _ _ h))
      (such_kept (statement_patterns_pass f) (statement_patterns_pass g) block (and_right (list_all passes (map (branch_patterns_pass f) (map (λ e. e.0) bs))) _ h))
  statement_layer_kept (Transaction n block) h = such_kept (statement_patterns_pass f) (statement_patterns_pass g) block h
  statement_layer_kept (Word n word) h = refl

  rolled_statement : (x : Statement-F Statement Branch) → (statement_layer_passes (map-Statement Statement Branch Bool Bool (statement_patterns_pass f) (branch_patterns_pass f) x) ≡ true → statement_layer_passes (map-Statement Statement Branch Bool Bool (statement_patterns_pass g) (branch_patterns_pass g) x) ≡ true) → StatementKept (roll-Statement x)
  rolled_statement x h passing =
      fold-roll-Statement Bool Bool statement_layer_passes (branch_layer_passes g) x ∙ h (sym (fold-roll-Statement Bool Bool statement_layer_passes (branch_layer_passes f) x) ∙ passing)

  branch_layer_kept : (y : Branch-F SuchStatement SuchBranch) → BranchKept (roll-Branch (branch_layer y))
  branch_layer_kept y passing =
      let was = sym (fold-roll-Branch Bool Bool statement_layer_passes (branch_layer_passes f) (branch_layer y)) ∙ passing in
      fold-roll-Branch Bool Bool statement_layer_passes (branch_layer_passes g) (branch_layer y)
      ∙ both_true _ _ (cond_kept y.cond (and_left (cond_patterns_pass f y.cond) _ was))
      (such_kept (statement_patterns_pass f) (statement_patterns_pass g) y.block (and_right (cond_patterns_pass f y.cond) _ was))

  pub statement_kept : (s : Statement) → statement_patterns_pass f s ≡ true → statement_patterns_pass g s ≡ true
  statement_kept =
      ind-Statement StatementKept BranchKept
      (λ x y is. subst (λ z. StatementKept (roll-Statement z)) is (rolled_statement (statement_layer y) (statement_layer_kept y)))
      (λ x y is. subst (λ z. BranchKept (roll-Branch z)) is (branch_layer_kept y))

  pub branch_kept : (b : Branch) → branch_patterns_pass f b ≡ true → branch_patterns_pass g b ≡ true
  branch_kept =
      ind-Branch StatementKept BranchKept
      (λ x y is. subst (λ z. StatementKept (roll-Statement z)) is (rolled_statement (statement_layer y) (statement_layer_kept y)))
      (λ x y is. subst (λ z. BranchKept (roll-Branch z)) is (branch_layer_kept y))

-- ---- one more

pub another_passes : {A : Type 0} (f g : A → Bool) → ((x : A) → f x ≡ true → g x ≡ true) → (xs : List A) (i : ℕ) (d : A) → i < length xs → list_all f (take i xs) ≡ true → g (get_or xs i d) ≡ true → list_all g (take (i + 1) xs) ≡ true
another_passes f g more xs i d within h e =
    list_all_more g xs i d within ∙ both_true (list_all g (take i xs)) (g (get_or xs i d)) (all_kept f g more (take i xs) h) e

same_bool_self : (b : Bool) → same_bool b b ≡ true
same_bool_self true = refl
same_bool_self false = refl

same_pattern_self : (w : Written) → same_pattern w w ≡ true
unfolding same_pattern
same_pattern_self w =
    both_true _ _ ((bytes_eq-Decides w.text w.text).1 refl) (both_true _ _ (same_bool_self w.flags.ignore_case) (same_bool_self w.flags.multi_line))

pub added_among : (ps : List Written) (w : Written) → is_among (ps ++ w ∷ []) w ≡ true
added_among ps w =
    list_any-append (λ v. same_pattern v w) ps (w ∷ []) ∙ ap (λ b. is_among ps w || (b || false)) (same_pattern_self w) ∙ or-true (is_among ps w)

pub added_keeps : (ps : List Written) (v w : Written) → is_among ps w ≡ true → is_among (ps ++ v ∷ []) w ≡ true
added_keeps ps v w h = list_any-append (λ u. same_pattern u w) ps (v ∷ []) ∙ ap (λ b. b || is_among (v ∷ []) w) h
