-- Instances that a step leaves are those after it, and there is nothing to tell of them.
use Rattle.std.proofs.Common.{◌≡◌, ◌<◌, ℕ, ◌+◌, ◌-◌, false, true, List, [], ◌∷◌, ◌++◌, length, map, min, take, drop, zero, suc, refl, sym, ap, ◌∙◌, subst, arith}
use Rattle.std.specs.List.{list_all}
use Rattle.std.specs.Prelude.{codes}
use Rattle.avp_lists.specs.Instances.{instances}
use Rattle.avp_lists.specs.States.{list_of}
use Rattle.avp_lists.specs.declared.lists.List.{List as Name}
use Rattle.avp_lists.specs.declared.pairs.AttrId.{AttrId}
use Rattle.avp_lists.specs.declared.pairs.Pair.{Pair}
use Rattle.avp_dict.specs.Dictionary.{Dictionary}
use Rattle.avp_step.specs.Trace.{Entry}
use Rattle.radpolicy_common.specs.Changes.{after_of, before_of, is_kept, is_needed, is_removed_first}
use Rattle.radpolicy_common.specs.ChangeTexts.{change_text}
use Rattle.radpolicy_common.specs.declared.change_lists.Change.{Change}
use Rattle.radpolicy_common.specs.declared.change_lists.Change.TheVariants.{Kept}
use Rattle.radpolicy_common.specs.Secrets.{Redaction}
use Rattle.radpolicy_walk_commands.specs.Histories.{IsContinued, IsHistory, IsHistoryText, IsStepTold, entry_at, instances_at, step_told}
use Rattle.radpolicy_walk_commands.specs.Sessions.{Session, after, entry_of, last_position}
use Rattle.radpolicy_walk_commands.specs.Showings.{AreChanges, IsListChange, named_lines}
use Rattle.radpolicy_walk_commands.specs.Steps.{step_of}
use Rattle.radpolicy_walk_commands.specs.declared.commands.Command.TheVariants.{Forward}
use Rattle.radpolicy_walk_commands.specs.declared.histories.Follower.{Follower}
use Rattle.radpolicy_walk_commands.specs.declared.histories.Followers.{Followers}
use Rattle.radpolicy_walk_commands.specs.internal.EditedLines.{may_change_by}
use Rattle.radpolicy_walk_commands.specs.internal.Following.{AreFollowing, IsFollowing}

kept : Pair → Change
kept pair = Kept (record { ref_ptr = (0, 0); now = pair })

kept_before : (pairs : List Pair) → before_of (map kept pairs) ≡ pairs
unfolding kept
kept_before [] = refl
kept_before (p ∷ ps) = ap (λ qs. p ∷ qs) (kept_before ps)

kept_after : (pairs : List Pair) → after_of (map kept pairs) ≡ pairs
unfolding kept
kept_after [] = refl
kept_after (p ∷ ps) = ap (λ qs. p ∷ qs) (kept_after ps)

all_kept : (pairs : List Pair) → list_all is_kept (map kept pairs) ≡ true
unfolding kept
all_kept [] = refl
all_kept (p ∷ ps) = all_kept ps

front_kept : (n : ℕ) (pairs : List Pair) → list_all is_kept (take n (map kept pairs)) ≡ true
unfolding kept
front_kept zero [] = refl
front_kept zero (p ∷ ps) = refl
front_kept (suc n) [] = refl
front_kept (suc n) (p ∷ ps) = front_kept n ps

back_kept : (n : ℕ) (pairs : List Pair) → list_all is_kept (drop n (map kept pairs)) ≡ true
unfolding kept
back_kept zero pairs = all_kept pairs
back_kept (suc n) [] = refl
back_kept (suc n) (p ∷ ps) = back_kept n ps

kept_in_order : (pairs : List Pair) → is_removed_first (map kept pairs) ≡ true
unfolding kept
kept_in_order [] = refl
kept_in_order (p ∷ ps) = kept_in_order ps

kept_needed : (pairs : List Pair) → is_needed (map kept pairs) ≡ true
unfolding kept
kept_needed [] = refl
kept_needed (p ∷ ps) = kept_needed ps

module _ (r : Redaction) where
  no_lines : (pairs : List Pair) → change_text r (map kept pairs) ≡ []
  unfolding kept
  no_lines [] = refl
  no_lines (p ∷ ps) = no_lines ps

  pub nothing_told : (name : List ℕ) (before after : List Pair) (text : List ℕ) → before ≡ after → text ≡ [] → IsListChange r name before after text
  nothing_told name before after text e f = record {
    changes = map kept before;
    change = (kept_before before, kept_after before ∙ e);
    same = λ same. all_kept before;
    ends = (front_kept _ before, back_kept _ before);
    order = kept_in_order before;
    needed = kept_needed before;
    lines = f ∙ sym (ap (named_lines name) (no_lines before));
  }

  -- one more step
  pub one_more_told : (id : AttrId) (trace : List Entry) (k : ℕ) (earlier own text : List ℕ) → IsHistory r id trace k earlier → IsStepTold r id trace (k + 1) own → text ≡ earlier ++ own
      → IsHistory r id trace (k + 1) text
  one_more_told id trace k earlier own text h s e =
      let next : suc k ≡ k + 1 = omega arith in
      subst (λ (n : ℕ). IsHistory r id trace n text) next (earlier, own, h, subst (λ (n : ℕ). IsStepTold r id trace n own) (sym next) s, e)

module _ (d : Dictionary) (list : Name) (id : AttrId) (trace : List Entry) (k : ℕ) (f : Follower) where
  pub left_there : IsFollowing d list id trace (k - 1) f → 0 < k → k < length trace → may_change_by f.edited (entry_at trace k).label ≡ false
      → instances id (list_of list (entry_at trace (k - 1)).outcome.state) ≡ instances id (list_of list (entry_at trace k).outcome.state)
  left_there h above within none = h.others k above within none

  pub still_following : IsFollowing d list id trace (k - 1) f → 0 < k → k < length trace → may_change_by f.edited (entry_at trace k).label ≡ false → IsFollowing d list id trace k f
  still_following h above within none = record { others = h.others; made = h.made; here = h.here ∙ left_there h above within none; fit = h.fit }

-- ---- a step on

module _ (s m : Session) (trace : List Entry) (place : ℕ) (on : m ≡ after (Forward 1) s) (is_trace : s.trace ≡ trace) (early : s.position < place) (within : place < length trace) where
  pub position_on : m.position ≡ s.position + 1
  position_on =
      let same : length s.trace ≡ length trace = ap length is_trace in
      let moved : m.position ≡ min (s.position + 1) (length s.trace - 1) = ap (λ (x : Session). x.position) on in
      omega (arith, same, moved, early, within)

  pub trace_on : m.trace ≡ trace
  trace_on = ap (λ (x : Session). x.trace) on ∙ is_trace

  module _ (r : Redaction) (is_redaction : s.redaction ≡ r) (id : AttrId) where
    pub redaction_on : m.redaction ≡ r
    redaction_on = ap (λ (x : Session). x.redaction) on ∙ is_redaction

    -- what is known is known of the place before
    pub following_before : (f : Followers) → AreFollowing r.dictionary id trace s.position f → AreFollowing m.redaction.dictionary id m.trace (m.position - 1) f
    following_before f h =
        let before : s.position ≡ m.position - 1 = omega (arith, position_on) in
        subst (λ (k : ℕ). AreFollowing m.redaction.dictionary id m.trace k f) before
        (subst (λ (es : List Entry). AreFollowing m.redaction.dictionary id es s.position f) (sym trace_on) (subst (λ (x : Redaction). AreFollowing x.dictionary id trace s.position f) (sym redaction_on) h))

    pub following_after : (f : Followers) → AreFollowing m.redaction.dictionary id m.trace m.position f → AreFollowing r.dictionary id trace m.position f
    following_after f h =
        subst (λ (es : List Entry). AreFollowing r.dictionary id es m.position f) trace_on (subst (λ (x : Redaction). AreFollowing x.dictionary id m.trace m.position f) redaction_on h)

    pub told_on : (earlier lines text : List ℕ) → IsHistory r id trace s.position earlier
        → AreChanges m.redaction (instances_at id m.trace (m.position - 1)) (instances_at id m.trace m.position) lines
        → text ≡ earlier ++ step_told m.position (last_position m) (step_of (entry_of m)) lines
        → IsHistory r id trace m.position text
    told_on earlier lines text h changes e =
        let own = step_told m.position (last_position m) (step_of (entry_of m)) lines in
        let here : IsStepTold m.redaction id m.trace m.position own = record { lines = lines; changes = changes; told = refl } in
        let there : IsStepTold r id trace m.position own =
        subst (λ (es : List Entry). IsStepTold r id es m.position own) trace_on (subst (λ (x : Redaction). IsStepTold x id m.trace m.position own) redaction_on here) in
        subst (λ (k : ℕ). IsHistory r id trace k text) (sym position_on)
        (one_more_told r id trace s.position earlier own text h (subst (λ (k : ℕ). IsStepTold r id trace k own) position_on there) e)

-- ---- where nothing changed

pub none_there : (octets : List ℕ) → length octets < 1 → octets ≡ []
none_there [] h = refl
none_there (octet ∷ octets) h = absurd (omega (arith, h))

pub words_shown : (r : Redaction) (id : AttrId) (trace : List Entry) (k : ℕ) (text named longer : List ℕ) → IsHistory r id trace k text → text ≡ [] → IsContinued text named
    → longer ≡ named ++ codes " does not change up to here\n" → IsHistoryText r id trace k longer
words_shown r id trace k text named longer h e more is =
    ([], subst (IsHistory r id trace k) e h, (more.0, is ∙ ap (λ front. front ++ codes " does not change up to here\n") (more.1 ∙ ap (λ start. start ++ more.0) e)))
