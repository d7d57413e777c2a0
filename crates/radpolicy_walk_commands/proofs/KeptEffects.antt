-- What is kept of the numbers of lines, line by line.
use Rattle.std.proofs.Common.{◌≡◌, ◌≢◌, ◌<◌, ℕ, Bool, true, false, ◌==◌, ◌+◌, not, get_or, if◌then◌else◌, take, List, [], ◌∷◌, ◌++◌, Option, None, Some, length, refl, sym, ap, ◌∙◌, subst, arith}
use Rattle.std.specs.Borrow.{Bor}
use Rattle.std.specs.Prelude.{IfSome, is_some}
use Rattle.std.proofs.lemmas.List.{map-append, take_more}
use Rattle.std.specs.List.{slice_index_or}
use Rattle.avp_lists.specs.States.{empty_state}
use Rattle.avp_lists.specs.declared.lists.List.{List as Name}
use Rattle.avp_lists.specs.declared.lists.State.{State}
use Rattle.avp_lists.specs.declared.pairs.AttrId.{AttrId}
use Rattle.avp_dict.specs.Dictionary.{Dictionary}
use Rattle.avp_unlang.specs.declared.tree.Line.{Line}
use Rattle.avp_unlang.specs.declared.tree.Statement.{Statement}
use Rattle.avp_step.specs.Trace.{Entry, start, trace_of}
use Rattle.avp_step.specs.declared.labels.Label.{Label}
use Rattle.avp_step.specs.declared.labels.Label.TheVariants as label
use Rattle.radpolicy_walk_commands.specs.declared.edited_lines.EditedLines.{EditedLines}
use Rattle.radpolicy_walk_commands.specs.declared.edited_lines.Effect.{Effect}
use Rattle.radpolicy_walk_commands.specs.internal.EditedLines.{Agree, AreEffects, AreMade, AreOf, IsEffectOf, IsNew, LeaveOthers, lines_behind, has_any, kept_of, line_numbers, lines_of, may_change, may_change_by, told, told_effect}
use Rattle.radpolicy_walk_commands.proofs.MadeInstances.{instances_made}
use Rattle.radpolicy_walk_commands.proofs.UntouchedLists.{others_left}

same_number : (a b : ℕ) → (a == b) ≡ true → a ≡ b
same_number a b e = grind (arith, e)

other_number : (a b : ℕ) → (a == b) ≡ false → a ≢ b
other_number a b e = λ same. absurd (grind (arith, e, same))

module _ (list : Name) (id : AttrId) where
  new_agree : (n : ℕ) (effect : Effect) (lines : List Line) → IsNew n lines → Agree list id n effect lines
  new_agree n effect [] h = tt
  new_agree n effect (l ∷ ls) h = ((λ same. absurd (h.0 same)), new_agree n effect ls h.1)

  agree_pushed : (n : ℕ) (effect : Effect) (lines : List Line) (line : Line) → Agree list id n effect lines → (line.line ≡ n → IsEffectOf list id effect line) → Agree list id n effect (lines ++ line ∷ [])
  agree_pushed n effect [] line h k = (k, tt)
  agree_pushed n effect (l ∷ ls) line h k = (h.0, agree_pushed n effect ls line h.1 k)

  new_pushed : (n : ℕ) (lines : List Line) (line : Line) → IsNew n lines → line.line ≢ n → IsNew n (lines ++ line ∷ [])
  new_pushed n [] line h k = (k, tt)
  new_pushed n (l ∷ ls) line h k = (h.0, new_pushed n ls line h.1 k)

  kept_by : Bool → Option Effect → Option (Option Effect) → Option (Option Effect) → Option (Option Effect)
  kept_by b effect before own = if b then Some (if is_some before then None else effect) else own

  module _ (front : List Line) (line : Line) (old : ℕ → Option (Option Effect)) (h : AreEffects list id front old) where
    sole_first : (n : ℕ) (e : Effect) (before : Option (Option Effect)) (effect : Option Effect) → line.line ≡ n → old n ≡ before → IfSome effect (λ own. IsEffectOf list id own line)
        → Some (if is_some before then None else effect) ≡ Some (Some e) → Agree list id n e (front ++ line ∷ [])
    sole_first n e None None same was told f = absurd (cc f)
    sole_first n e None (Some own) same was told f =
        let is : own ≡ e = cc f in
        agree_pushed n e front line (new_agree n e front (h.fresh n was)) (λ s. subst (λ (x : Effect). IsEffectOf list id x line) is told)
    sole_first n e (Some x) effect same was told f = absurd (cc f)

    sole_by : (n : ℕ) (e : Effect) (effect : Option Effect) (b : Bool) → (line.line == n) ≡ b → IfSome effect (λ own. IsEffectOf list id own line)
        → kept_by b effect (old line.line) (old n) ≡ Some (Some e) → Agree list id n e (front ++ line ∷ [])
    unfolding kept_by
    sole_by n e effect true d told f =
        let same = same_number line.line n d in
        sole_first n e (old line.line) effect same (ap old (sym same)) told f
    sole_by n e effect false d told f = agree_pushed n e front line (h.sole n e f) (λ same. absurd (other_number line.line n d same))

    fresh_by : (n : ℕ) (effect : Option Effect) (b : Bool) → (line.line == n) ≡ b → kept_by b effect (old line.line) (old n) ≡ None → IsNew n (front ++ line ∷ [])
    unfolding kept_by
    fresh_by n effect true d f = absurd (cc f)
    fresh_by n effect false d f = new_pushed n front line (h.fresh n f) (other_number line.line n d)

    pub one_more_effect : (effect : Option Effect) (new : ℕ → Option (Option Effect)) → IfSome effect (λ own. IsEffectOf list id own line)
        → ((n : ℕ) → new n ≡ kept_of line.line effect (old line.line) (old n) n) → AreEffects list id (front ++ line ∷ []) new
    unfolding kept_by
    one_more_effect effect new told is = record {
      sole = λ n e f. sole_by n e effect (line.line == n) refl told (sym (is n) ∙ f);
      fresh = λ n f. fresh_by n effect (line.line == n) refl (sym (is n) ∙ f);
    }

pub next_effect : (list : Name) (id : AttrId) (refs : List (Bor Line)) (i : ℕ) (ref : Bor Line) (old : ℕ → Option (Option Effect)) (effect : Option Effect) (new : ℕ → Option (Option Effect)) → i < length refs
    → get_or refs i ref ≡ ref → AreEffects list id (lines_behind (take i refs)) old → IfSome effect (λ own. IsEffectOf list id own ref.now)
    → ((n : ℕ) → new n ≡ kept_of ref.now.line effect (old ref.now.line) (old n) n) → AreEffects list id (lines_behind (take (i + 1) refs)) new
next_effect list id refs i ref old effect new within is h told kept =
    let more : lines_behind (take (i + 1) refs) ≡ lines_behind (take i refs) ++ ref.now ∷ [] =
    ap lines_behind (take_more refs i ref within ∙ ap (λ (x : Bor Line). take i refs ++ x ∷ []) is) ∙ map-append (λ (x : Bor Line). x.now) (take i refs) (ref ∷ []) in
    subst (λ (lines : List Line). AreEffects list id lines new) (sym more) (one_more_effect list id (lines_behind (take i refs)) ref.now old h effect new told kept)

pub no_effects : (list : Name) (id : AttrId) (effects : ℕ → Option (Option Effect)) → ((n : ℕ) → effects n ≡ None) → AreEffects list id [] effects
no_effects list id effects none = record { sole = λ n e f. absurd (cc (none n, f)); fresh = λ n f. tt }

pub any_number : (numbers : List ℕ) → not (length numbers == 0) ≡ has_any numbers
any_number [] = refl
any_number (n ∷ ns) = grind arith

-- ---- of a run

line_told : (effects : ℕ → Option (Option Effect)) (step : Label) (e : Effect) → told_effect effects step ≡ Some e → (n : ℕ) × (step ≡ label.Line n) × (effects n ≡ Some (Some e))
line_told effects label.Start e f = absurd (cc f)
line_told effects (label.Line n) e f = (n, refl, of_told (effects n) f) where
  of_told : (kept : Option (Option Effect)) → told kept ≡ Some e → kept ≡ Some (Some e)
  of_told None g = absurd (cc g)
  of_told (Some effect) g = ap (λ (x : Option Effect). Some x) g
line_told effects (label.Failed n reason) e f = absurd (cc f)
line_told effects (label.If n b) e f = absurd (cc f)
line_told effects (label.Word n) e f = absurd (cc f)
line_told effects (label.Enter n) e f = absurd (cc f)
line_told effects (label.Commit n) e f = absurd (cc f)
line_told effects (label.Rollback n) e f = absurd (cc f)

pub effects_made : (d : Dictionary) (list : Name) (id : AttrId) (ss : List Statement) (s : State) (trace : List Entry) (effects : ℕ → Option (Option Effect)) → trace ≡ trace_of d ss s
    → AreEffects list id (lines_of ss) effects → AreMade list id effects trace
effects_made d list id ss s trace effects e h =
    subst (AreMade list id effects) (sym e)
    (λ k effect above within f.
    let at = line_told effects (slice_index_or (trace_of d ss s) k (start empty_state)).label effect f in
    instances_made d list id at.0 effect ss s (h.sole at.0 effect at.2) k above within at.1)

by_numbers : (numbers : List ℕ) (edited : EditedLines) → AreOf numbers edited → (step : Label) → may_change_by edited step ≡ may_change numbers step
by_numbers numbers edited h label.Start = refl
by_numbers numbers edited h (label.Line n) = h.each n
by_numbers numbers edited h (label.Failed n reason) = h.any
by_numbers numbers edited h (label.If n b) = refl
by_numbers numbers edited h (label.Word n) = refl
by_numbers numbers edited h (label.Enter n) = refl
by_numbers numbers edited h (label.Commit n) = refl
by_numbers numbers edited h (label.Rollback n) = h.any

pub others_leave : (d : Dictionary) (list : Name) (id : AttrId) (ss : List Statement) (s : State) (trace : List Entry) (edited : EditedLines) → trace ≡ trace_of d ss s
    → AreOf (line_numbers list id (lines_of ss)) edited → LeaveOthers list id edited trace
others_leave d list id ss s trace edited e h =
    subst (LeaveOthers list id edited) (sym e)
    (λ k above within none. others_left d list id ss s k above within (sym (by_numbers (line_numbers list id (lines_of ss)) edited h (slice_index_or (trace_of d ss s) k (start empty_state)).label) ∙ none))
