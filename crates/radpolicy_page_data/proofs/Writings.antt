-- The positions of a run as they are written one after another, and that what came fits the dictionary.
use Rattle.std.proofs.Common.{◌≡◌, ◌∙◌, ℕ, suc, ◌+◌, List, ◌++◌, Option, length, take, drop, refl, sym, ap, subst, arith, append_assoc}
use Rattle.std.proofs.lemmas.List.{drop_at, take_at}
use Rattle.std.proofs.lemmas.List.Elements.{All-drop, All-take}
use Rattle.avp_lists.specs.declared.lists.List.TheVariants.{Control, Reply, Request}
use Rattle.avp_lists.specs.declared.lists.State.{State}
use Rattle.avp_lists.specs.declared.pairs.Pair.{Pair}
use Rattle.avp_dict.specs.Dictionary.{Dictionary}
use Rattle.avp_step.specs.Trace.{Entry}
use Rattle.avp_unlang.specs.Resolutions.{StateFits}
use Rattle.radpolicy_common.specs.ChangeTexts.{AllFit, Fits}
use Rattle.radpolicy_page_data.specs.Differences.{Makes, entry_at, lists_at, lists_before}
use Rattle.radpolicy_page_data.specs.Positions.{ArePositions, position_text}
use Rattle.radpolicy_common.specs.Secrets.{Redaction}
use Rattle.radpolicy_page_data.specs.Splices.{applied}
use Rattle.radpolicy_page_data.specs.declared.differences.Difference.{Difference}
use Rattle.radpolicy_page_data.specs.declared.differences.Difference.TheVariants.{Again, Spliced}
use Rattle.radpolicy_page_data.specs.declared.differences.Mark.{Mark}
use Rattle.radpolicy_page_data.specs.declared.splices.Splice.{Splice}
use Rattle.radpolicy_page_data.specs.internal.Marks.{IsDifference}
use Rattle.radpolicy_page_data.specs.internal.Writing.{DifferenceFits}

-- ---- what came

middle_fits : (d : Dictionary) (a came b whole : List Pair) → a ++ came ++ b ≡ whole → AllFit d whole → AllFit d came
middle_fits d a came b whole is fit =
    let behind : drop (length a) whole ≡ came ++ b = ap (drop (length a)) (sym is ∙ append_assoc a came b) ∙ drop_at a (came ++ b) (length a) refl in
    let there : take (length came) (drop (length a) whole) ≡ came = ap (take (length came)) behind ∙ take_at came b (length came) refl in
    subst (AllFit d) there (All-take (Fits d) (length came) (drop (length a) whole) (All-drop (Fits d) (length a) whole fit))

came_fits : (d : Dictionary) (splice : Splice) (before after : List Pair) → applied splice before ≡ after → AllFit d after → AllFit d splice.came.now
came_fits d splice before after is fit = middle_fits d (take splice.at before) splice.came.now (drop (splice.at + splice.gone) before) after is fit

pub what_came_fits : (d : Dictionary) (mark : Option Mark) (before lists : State) (difference : Difference) → IsDifference mark before lists difference → StateFits d lists → DifferenceFits d difference
what_came_fits d mark before lists (Again earlier) made fits = tt
what_came_fits d mark before lists (Spliced request reply control) made fits = (
  came_fits d request before.request lists.request made.request.makes (fits Request),
  came_fits d reply before.reply lists.reply made.reply.makes (fits Reply),
  came_fits d control before.control lists.control made.control.makes (fits Control),
)

-- ---- one position more

pub written_more : (redaction : Redaction) (trace : List Entry) (k : ℕ) (front text : List ℕ) (difference : Difference) → ArePositions redaction trace k front → Makes trace k difference
    → text ≡ front ++ position_text redaction k (entry_at trace k) difference → ArePositions redaction trace (k + 1) text
written_more redaction trace k front text difference are makes is =
    let e : suc k ≡ k + 1 = omega arith in
    subst (λ (n : ℕ). ArePositions redaction trace n text) e (front, difference, are, makes, is)

pub lists_then : (trace : List Entry) (k : ℕ) (lists : State) → lists ≡ lists_at trace k → lists ≡ lists_before trace (k + 1)
lists_then trace k lists is =
    let e : suc k ≡ k + 1 = omega arith in
    subst (λ (n : ℕ). lists ≡ lists_before trace n) e is
