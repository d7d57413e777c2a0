-- Conditions of one form, and the branches of a statement that repeat one.
use Rattle.std.proofs.Common.{◌≡◌, ◌<◌, ◌+◌, ℕ, Bool, ◌||◌, List, [], ◌∷◌, ◌++◌, Option, Some, None, refl, sym, ap, ◌∙◌, drop, length, map, slice_index_or, take, append_assoc, append-nil}
use Rattle.std.specs.List.{flat_map, list_any}
use Rattle.std.proofs.lemmas.List.{drop_more, map-append, take_more}
use Rattle.avp_unlang.specs.declared.codes.Code.{Code}
use Rattle.avp_unlang.specs.declared.tree.Branch.{Branch}
use Rattle.avp_unlang.specs.declared.tree.Cond.{Cond}
use Rattle.avp_unlang.specs.declared.tree.Line.{Line}
use Rattle.avp_unlang.specs.declared.tree.Statement.{Statement}
use Rattle.avp_unlang.specs.declared.tree.Statement.TheFolds.{fold-roll-Statement, fold_out-Branch}
use Rattle.avp_unlang.specs.declared.tree.Statement.TheOpen as layer
use Rattle.avp_unlang.specs.declared.tree.Statement.TheVariants.{Update, If, Transaction, Word, rolls-Update, rolls-If, rolls-Transaction, rolls-Word}
use Rattle.avp_unlang.specs.declared.tree.Statement.TheViews.{out-Branch}
use Rattle.policy_warnings.specs.Repeats.{Link, branch_link, cond_of, link, repeated_conditions, repeats_after, repeats_in, same_cond, statement_repeats}
use Rattle.policy_warnings.specs.Warnings.{warning_if}
use Rattle.policy_warnings.specs.declared.warnings.Reason.TheVariants.{RepeatedCondition}
use Rattle.policy_warnings.specs.declared.warnings.Warning.{Warning}

flat_mapped : {X : Type 0} (f : X → List Warning) (xs : List X) → flat_map (λ (ws : List Warning). ws) (map f xs) ≡ flat_map f xs
flat_mapped f [] = refl
flat_mapped f (x ∷ xs) = ap (λ rest. f x ++ rest) (flat_mapped f xs)

abbrev pub given_repeats : Option (List Statement) → List Warning
given_repeats None = []
given_repeats (Some block) = repeated_conditions block

pub repeats_update : (n : ℕ) (lines : List Line) → repeats_in (Update n lines) ≡ []
unfolding repeats_in
repeats_update n lines =
    ap repeats_in (sym (rolls-Update n lines)) ∙ fold-roll-Statement (List Warning) Link statement_repeats branch_link (layer.Update n lines)

pub repeats_if : (branches : List Branch) (otherwise : Option (List Statement))
    → repeats_in (If branches otherwise) ≡ repeats_after [] (map link branches) ++ given_repeats otherwise
unfolding repeats_in link
repeats_if branches None =
    ap repeats_in (sym (rolls-If branches None)) ∙ fold-roll-Statement (List Warning) Link statement_repeats branch_link (layer.If branches None)
repeats_if branches (Some block) =
    ap repeats_in (sym (rolls-If branches (Some block)))
    ∙ fold-roll-Statement (List Warning) Link statement_repeats branch_link (layer.If branches (Some block))
    ∙ ap (λ ws. repeats_after [] (map link branches) ++ ws) (flat_mapped repeats_in block)

pub repeats_transaction : (n : ℕ) (block : List Statement) → repeats_in (Transaction n block) ≡ repeated_conditions block
unfolding repeats_in
repeats_transaction n block =
    ap repeats_in (sym (rolls-Transaction n block))
    ∙ fold-roll-Statement (List Warning) Link statement_repeats branch_link (layer.Transaction n block)
    ∙ flat_mapped repeats_in block

pub repeats_word : (n : ℕ) (word : Code) → repeats_in (Word n word) ≡ []
unfolding repeats_in
repeats_word n word =
    ap repeats_in (sym (rolls-Word n word)) ∙ fold-roll-Statement (List Warning) Link statement_repeats branch_link (layer.Word n word)

link_of : ℕ → Cond → List Warning → Link
link_of n cond ws = record { line = n; cond = cond; warned = ws }

pub link_out : (b : Branch) → link b ≡ record { line = (out-Branch b).line; cond = (out-Branch b).cond; warned = repeated_conditions (out-Branch b).block }
unfolding repeats_in link link_of
link_out b =
    fold_out-Branch (List Warning) Link statement_repeats branch_link b
    ∙ ap (link_of (out-Branch b).line (out-Branch b).cond) (flat_mapped repeats_in (out-Branch b).block)

pub any_link : (k : Cond) (bs : List Branch) → list_any (λ (b : Branch). same_cond k (out-Branch b).cond) bs ≡ list_any (same_cond k) (map cond_of (map link bs))
any_link k [] = refl
any_link k (b ∷ bs) =
    ap (λ x. same_cond k (out-Branch b).cond || x) (any_link k bs)
    ∙ ap (λ (d : Link). same_cond k d.cond || list_any (same_cond k) (map cond_of (map link bs))) (sym (link_out b))

-- ---- as the code gathers them

conds_of : List Branch → List Cond
conds_of bs = map cond_of (map link bs)

module _ (xs : List Branch) (i : ℕ) (b : Branch) (h : i < length xs) (e : b ≡ slice_index_or xs i b) where
  left : drop i xs ≡ b ∷ drop (i + 1) xs
  left = drop_more xs i b h ∙ ap (λ x. x ∷ drop (i + 1) xs) (sym e)

  gone : take (i + 1) xs ≡ take i xs ++ b ∷ []
  gone = take_more xs i b h ∙ ap (λ x. take i xs ++ x ∷ []) (sym e)

  conds_gone : conds_of (take (i + 1) xs) ≡ conds_of (take i xs) ++ (link b).cond ∷ []
  unfolding conds_of
  conds_gone =
      ap (λ x. map cond_of (map link x)) gone ∙ ap (map cond_of) (map-append link (take i xs) (b ∷ []))
      ∙ map-append cond_of (map link (take i xs)) (link b ∷ [])

  warned_first : List Cond → Link → List Warning
  warned_first earlier d = warning_if (list_any (same_cond d.cond) earlier) d.line RepeatedCondition ++ d.warned

  pub branch_repeats_pushed : (earlier : List Branch) (block : List Statement) (repeated : Bool) (old one new target : List Warning)
      → earlier ≡ take i xs → repeated ≡ list_any (same_cond (out-Branch b).cond) (map cond_of (map link earlier))
      → one ≡ old ++ warning_if repeated (out-Branch b).line RepeatedCondition
      → block ≡ (out-Branch b).block → new ≡ one ++ repeated_conditions block
      → old ++ repeats_after (map cond_of (map link (take i xs))) (map link (drop i xs)) ≡ target
      → new ++ repeats_after (map cond_of (map link (take (i + 1) xs))) (map link (drop (i + 1) xs)) ≡ target
  unfolding conds_of warned_first
  branch_repeats_pushed earlier block repeated old one new target s r o k n p =
      let E = conds_of (take i xs) in
      let rest = repeats_after (E ++ (link b).cond ∷ []) (map link (drop (i + 1) xs)) in
      let said : new ≡ old ++ warned_first E (link b) =
      n ∙ ap (λ x. one ++ repeated_conditions x) k ∙ ap (λ x. x ++ repeated_conditions (out-Branch b).block) o
      ∙ append_assoc old (warning_if repeated (out-Branch b).line RepeatedCondition) (repeated_conditions (out-Branch b).block)
      ∙ ap (λ x. old ++ (warning_if x (out-Branch b).line RepeatedCondition ++ repeated_conditions (out-Branch b).block))
      (r ∙ ap (λ x. list_any (same_cond (out-Branch b).cond) (map cond_of (map link x))) s)
      ∙ ap (λ (d : Link). old ++ warned_first E d) (sym (link_out b)) in
      ap (λ x. x ++ repeats_after (conds_of (take (i + 1) xs)) (map link (drop (i + 1) xs))) said
      ∙ ap (λ x. (old ++ warned_first E (link b)) ++ repeats_after x (map link (drop (i + 1) xs))) conds_gone
      ∙ append_assoc old (warned_first E (link b)) rest
      ∙ ap (λ x. old ++ repeats_after E (map link x)) (sym left)
      ∙ p

module _ (s : Statement) (branches bs : List Branch) (otherwise : Option (List Statement)) (old one : List Warning) where
  pub if_repeats_pushed : s ≡ If branches otherwise → otherwise ≡ None → bs ≡ branches → one ≡ old ++ repeats_after [] (map link bs) → one ≡ old ++ repeats_in s
  if_repeats_pushed e n f g =
      g ∙ ap (λ x. old ++ repeats_after [] (map link x)) f ∙ ap (λ x. old ++ x) (sym (append-nil (repeats_after [] (map link branches))))
      ∙ ap (λ x. old ++ x) (sym (ap repeats_in (e ∙ ap (If branches) n) ∙ repeats_if branches None))

  pub else_repeats_pushed : (block xs : List Statement) (new : List Warning) → s ≡ If branches otherwise → otherwise ≡ Some block → bs ≡ branches
      → one ≡ old ++ repeats_after [] (map link bs) → xs ≡ block → new ≡ one ++ repeated_conditions xs → new ≡ old ++ repeats_in s
  else_repeats_pushed block xs new e n f g k l =
      l ∙ ap (λ x. one ++ repeated_conditions x) k ∙ ap (λ x. x ++ repeated_conditions block) (g ∙ ap (λ x. old ++ repeats_after [] (map link x)) f)
      ∙ append_assoc old (repeats_after [] (map link branches)) (repeated_conditions block)
      ∙ ap (λ x. old ++ x) (sym (ap repeats_in (e ∙ ap (If branches) n) ∙ repeats_if branches (Some block)))

pub transaction_repeats_pushed : (s : Statement) (n : ℕ) (block xs : List Statement) (old new : List Warning) → s ≡ Transaction n block
    → xs ≡ block → new ≡ old ++ repeated_conditions xs → new ≡ old ++ repeats_in s
transaction_repeats_pushed s n block xs old new e f g =
    g ∙ ap (λ x. old ++ repeated_conditions x) f ∙ ap (λ x. old ++ x) (sym (ap repeats_in e ∙ repeats_transaction n block))

pub no_repeats : (s : Statement) (old : List Warning) → repeats_in s ≡ [] → old ≡ old ++ repeats_in s
no_repeats s old e = sym (append-nil old) ∙ ap (λ x. old ++ x) (sym e)

pub update_repeats : (s : Statement) (n : ℕ) (lines : List Line) (old : List Warning) → s ≡ Update n lines → old ≡ old ++ repeats_in s
update_repeats s n lines old e = no_repeats s old (ap repeats_in e ∙ repeats_update n lines)

pub word_repeats : (s : Statement) (n : ℕ) (word : Code) (old : List Warning) → s ≡ Word n word → old ≡ old ++ repeats_in s
word_repeats s n word old e = no_repeats s old (ap repeats_in e ∙ repeats_word n word)
