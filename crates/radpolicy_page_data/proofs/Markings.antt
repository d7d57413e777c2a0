-- Marks of transactions, as a run goes on.
use Rattle.std.proofs.Common.{◌≡◌, ◌∙◌, ◌<◌, ℕ, ◌+◌, List, [], ◌∷◌, ◌++◌, Option, None, Some, length, take, drop, sym, ap, ap₂, subst, arith, append-nil}
use Rattle.std.proofs.lemmas.List.{take-append-drop}
use Rattle.std.specs.Option.{option_to_list}
use Rattle.avp_lists.specs.declared.lists.State.{State}
use Rattle.avp_lists.specs.declared.pairs.Pair.{Pair}
use Rattle.avp_step.specs.Trace.{Entry}
use Rattle.radpolicy_page_data.specs.Differences.{AreSplices, Makes, lists_at, lists_before}
use Rattle.radpolicy_page_data.specs.declared.differences.Difference.{Difference}
use Rattle.radpolicy_page_data.specs.declared.differences.Difference.TheVariants.{Again, Spliced}
use Rattle.radpolicy_page_data.specs.declared.differences.Mark.{Mark}
use Rattle.radpolicy_page_data.specs.internal.Marks.{AreMarks, IsDifference, IsMarkIfGiven}

pub later : (trace : List Entry) (k : ℕ) (marks : List Mark) → AreMarks trace k marks → AreMarks trace (k + 1) marks
later trace k [] all = tt
later trace k (mark ∷ marks) all = ((omega (arith, all.0.0), all.0.1), later trace k marks all.1)

pub with_one : (trace : List Entry) (k : ℕ) (marks : List Mark) (mark : Mark) → AreMarks trace k marks → mark.position ≡ k → mark.lists ≡ lists_at trace k → AreMarks trace (k + 1) (marks ++ mark ∷ [])
with_one trace k [] mark all at lists = ((omega (arith, at), lists ∙ ap (lists_at trace) (sym at)), tt)
with_one trace k (own ∷ marks) mark all at lists = ((omega (arith, all.0.0), all.0.1), with_one trace k marks mark all.1 at lists)

front_with : (trace : List Entry) (k : ℕ) (front back : List Mark) → AreMarks trace k (front ++ back) → AreMarks trace k front
front_with trace k [] back all = tt
front_with trace k (mark ∷ front) back all = (all.0, front_with trace k front back all.1)

back_with : (trace : List Entry) (k : ℕ) (front back : List Mark) → AreMarks trace k (front ++ back) → AreMarks trace k back
back_with trace k [] back all = all
back_with trace k (mark ∷ front) back all = back_with trace k front back all.1

last_of : (trace : List Entry) (k : ℕ) (last : Option Mark) → AreMarks trace k (option_to_list last) → IsMarkIfGiven trace k last
last_of trace k None all = tt
last_of trace k (Some mark) all = all.0

-- where the last is taken away
pub left : (trace : List Entry) (k : ℕ) (old front : List Mark) (last : Option Mark) → old ≡ front ++ option_to_list last → AreMarks trace k old → AreMarks trace k front
left trace k old front last is all = front_with trace k front (option_to_list last) (subst (AreMarks trace k) is all)

pub taken : (trace : List Entry) (k : ℕ) (old front : List Mark) (last : Option Mark) → old ≡ front ++ option_to_list last → AreMarks trace k old → IsMarkIfGiven trace k last
taken trace k old front last is all = last_of trace k last (back_with trace k front (option_to_list last) (subst (AreMarks trace k) is all))

-- ---- differences

pub is_made : (trace : List Entry) (k : ℕ) (mark : Option Mark) (before lists : State) (difference : Difference) → IsMarkIfGiven trace k mark → before ≡ lists_before trace k → lists ≡ lists_at trace k
    → IsDifference mark before lists difference → Makes trace k difference
is_made trace k None before lists (Again earlier) marked is_before is_lists made = absurd made
is_made trace k (Some mark) before lists (Again earlier) marked is_before is_lists made =
    (subst (λ (n : ℕ). n < k) made.0 marked.0, sym is_lists ∙ sym made.1 ∙ marked.1 ∙ ap (lists_at trace) made.0)
is_made trace k mark before lists (Spliced request reply control) marked is_before is_lists made =
    subst (λ (s : State). AreSplices request reply control s (lists_at trace k)) is_before (subst (AreSplices request reply control before) is_lists made)

-- ---- no change

pub nothing_changed : (before after : List Pair) (n : ℕ) (gone : ℕ) (came : List Pair) → gone ≡ 0 → length came ≡ 0 → take n before ++ came ++ drop (n + gone) before ≡ after → before ≡ after
nothing_changed before after n gone [] none empty made =
    let place : n + gone ≡ n = omega arith in
    sym (take-append-drop n before) ∙ ap₂ (λ (xs : List Pair) (k : ℕ). xs ++ drop k before) (sym (append-nil (take n before))) (sym place) ∙ made
nothing_changed before after n gone (pair ∷ came) none empty made = absurd (omega (arith, empty))
