-- What each kind of condition mentions, says and is answered.
use Rattle.std.proofs.Common.{◌≡◌, ℕ, List, [], ◌∷◌, ◌++◌, refl, sym, ap, ◌∙◌, map}
use Rattle.std.specs.List.{flat_map}
use Rattle.avp_lists.specs.declared.tags.Selection.{Selection}
use Rattle.avp_lists.specs.declared.pairs.AttrId.{AttrId}
use Rattle.avp_lists.specs.declared.lists.List.{List as Name}
use Rattle.avp_unlang.specs.declared.codes.Code.{Code}
use Rattle.avp_unlang.specs.declared.tree.Comparison.{Comparison}
use Rattle.avp_unlang.specs.declared.tree.Cond.{Cond}
use Rattle.avp_unlang.specs.declared.tree.GroupMatching.{GroupMatching}
use Rattle.avp_unlang.specs.declared.tree.Matching.{Matching}
use Rattle.avp_unlang.specs.declared.tree.MeantComparison.{MeantComparison}
use Rattle.avp_unlang.specs.declared.tree.TextComparison.{TextComparison}
use Rattle.avp_unlang.specs.declared.tree.Cond.TheFolds.{fold-roll-Cond}
use Rattle.avp_unlang.specs.declared.tree.Cond.TheOpen as layer
use Rattle.avp_unlang.specs.declared.tree.Cond.TheVariants.{Any, All, Not, Last, Present, PresentSelected, Compare, CompareMeant, CompareTexts, Match, MatchText, MatchGroup, Captured, rolls-Any, rolls-All, rolls-Not, rolls-Last, rolls-Present, rolls-PresentSelected, rolls-Compare, rolls-CompareMeant, rolls-CompareTexts, rolls-Match, rolls-MatchText, rolls-MatchGroup, rolls-Captured}
use Rattle.policy_warnings.specs.Absences.{said_of, all_of, always, any_implies, any_of, asked, compared, cond_absence, negated, silent}
use Rattle.policy_warnings.specs.Mentions.{comparison_mentions, cond_mentions, implies, matching_mentions, meant_comparison_mentions, mentions, selected, side_mentions, whole}
use Rattle.policy_warnings.specs.declared.absences.Absence.{Absence}
use Rattle.policy_warnings.specs.declared.mentions.Mention.{Mention}

flat_mapped : (cs : List Cond) → flat_map (λ (ms : List Mention). ms) (map mentions cs) ≡ flat_map mentions cs
flat_mapped [] = refl
flat_mapped (c ∷ cs) = ap (λ rest. mentions c ++ rest) (flat_mapped cs)

pub mentions_any : (cs : List Cond) → mentions (Any cs) ≡ flat_map mentions cs
unfolding mentions
mentions_any cs = ap mentions (sym (rolls-Any cs)) ∙ fold-roll-Cond (List Mention) cond_mentions (layer.Any cs) ∙ flat_mapped cs

pub mentions_all : (cs : List Cond) → mentions (All cs) ≡ flat_map mentions cs
unfolding mentions
mentions_all cs = ap mentions (sym (rolls-All cs)) ∙ fold-roll-Cond (List Mention) cond_mentions (layer.All cs) ∙ flat_mapped cs

pub mentions_not : (d : Cond) → mentions (Not d) ≡ mentions d
unfolding mentions
mentions_not d = ap mentions (sym (rolls-Not d)) ∙ fold-roll-Cond (List Mention) cond_mentions (layer.Not d)

pub mentions_last : (word : Code) → mentions (Last word) ≡ []
unfolding mentions
mentions_last word = ap mentions (sym (rolls-Last word)) ∙ fold-roll-Cond (List Mention) cond_mentions (layer.Last word)

pub mentions_present : (list : Name) (id : AttrId) → mentions (Present list id) ≡ []
unfolding mentions
mentions_present list id = ap mentions (sym (rolls-Present list id)) ∙ fold-roll-Cond (List Mention) cond_mentions (layer.Present list id)

pub mentions_present_selected : (list : Name) (id : AttrId) (selection : Selection) → mentions (PresentSelected list id selection) ≡ []
unfolding mentions
mentions_present_selected list id selection =
    ap mentions (sym (rolls-PresentSelected list id selection)) ∙ fold-roll-Cond (List Mention) cond_mentions (layer.PresentSelected list id selection)

pub mentions_compare : (k : Comparison) → mentions (Compare k) ≡ comparison_mentions k
unfolding mentions
mentions_compare k = ap mentions (sym (rolls-Compare k)) ∙ fold-roll-Cond (List Mention) cond_mentions (layer.Compare k)

pub mentions_compare_meant : (k : MeantComparison) → mentions (CompareMeant k) ≡ meant_comparison_mentions k
unfolding mentions
mentions_compare_meant k = ap mentions (sym (rolls-CompareMeant k)) ∙ fold-roll-Cond (List Mention) cond_mentions (layer.CompareMeant k)

pub mentions_match : (k : Matching) → mentions (Match k) ≡ matching_mentions k
unfolding mentions
mentions_match k = ap mentions (sym (rolls-Match k)) ∙ fold-roll-Cond (List Mention) cond_mentions (layer.Match k)

pub mentions_compare_texts : (k : TextComparison) → mentions (CompareTexts k) ≡ side_mentions k.left
unfolding mentions
mentions_compare_texts k = ap mentions (sym (rolls-CompareTexts k)) ∙ fold-roll-Cond (List Mention) cond_mentions (layer.CompareTexts k)

pub mentions_match_text : (k : Matching) → mentions (MatchText k) ≡ []
unfolding mentions
mentions_match_text k = ap mentions (sym (rolls-MatchText k)) ∙ fold-roll-Cond (List Mention) cond_mentions (layer.MatchText k)

pub mentions_match_group : (k : GroupMatching) → mentions (MatchGroup k) ≡ []
unfolding mentions
mentions_match_group k = ap mentions (sym (rolls-MatchGroup k)) ∙ fold-roll-Cond (List Mention) cond_mentions (layer.MatchGroup k)

pub mentions_captured : (group : ℕ) → mentions (Captured group) ≡ []
unfolding mentions
mentions_captured group = ap mentions (sym (rolls-Captured group)) ∙ fold-roll-Cond (List Mention) cond_mentions (layer.Captured group)

module _ (m : Mention) where
  pub absence_any : (cs : List Cond) → said_of m (Any cs) ≡ any_of (negated always) (map (said_of m) cs)
  unfolding said_of
  absence_any cs = ap (said_of m) (sym (rolls-Any cs)) ∙ fold-roll-Cond Absence (cond_absence m) (layer.Any cs)

  pub absence_all : (cs : List Cond) → said_of m (All cs) ≡ all_of always (map (said_of m) cs)
  unfolding said_of
  absence_all cs = ap (said_of m) (sym (rolls-All cs)) ∙ fold-roll-Cond Absence (cond_absence m) (layer.All cs)

  pub absence_not : (d : Cond) → said_of m (Not d) ≡ negated (said_of m d)
  unfolding said_of
  absence_not d = ap (said_of m) (sym (rolls-Not d)) ∙ fold-roll-Cond Absence (cond_absence m) (layer.Not d)

  pub absence_last : (word : Code) → said_of m (Last word) ≡ silent
  unfolding said_of
  absence_last word = ap (said_of m) (sym (rolls-Last word)) ∙ fold-roll-Cond Absence (cond_absence m) (layer.Last word)

  pub absence_present : (list : Name) (id : AttrId) → said_of m (Present list id) ≡ asked (implies (whole list id) m)
  unfolding said_of
  absence_present list id = ap (said_of m) (sym (rolls-Present list id)) ∙ fold-roll-Cond Absence (cond_absence m) (layer.Present list id)

  pub absence_present_selected : (list : Name) (id : AttrId) (selection : Selection) → said_of m (PresentSelected list id selection) ≡ asked (implies (selected list id selection) m)
  unfolding said_of
  absence_present_selected list id selection =
      ap (said_of m) (sym (rolls-PresentSelected list id selection)) ∙ fold-roll-Cond Absence (cond_absence m) (layer.PresentSelected list id selection)

  pub absence_compare : (k : Comparison) → said_of m (Compare k) ≡ compared (any_implies (comparison_mentions k) m)
  unfolding said_of
  absence_compare k = ap (said_of m) (sym (rolls-Compare k)) ∙ fold-roll-Cond Absence (cond_absence m) (layer.Compare k)

  pub absence_compare_meant : (k : MeantComparison) → said_of m (CompareMeant k) ≡ compared (any_implies (meant_comparison_mentions k) m)
  unfolding said_of
  absence_compare_meant k = ap (said_of m) (sym (rolls-CompareMeant k)) ∙ fold-roll-Cond Absence (cond_absence m) (layer.CompareMeant k)

  pub absence_match : (k : Matching) → said_of m (Match k) ≡ compared (any_implies (matching_mentions k) m)
  unfolding said_of
  absence_match k = ap (said_of m) (sym (rolls-Match k)) ∙ fold-roll-Cond Absence (cond_absence m) (layer.Match k)

  pub absence_compare_texts : (k : TextComparison) → said_of m (CompareTexts k) ≡ compared (any_implies (side_mentions k.left) m)
  unfolding said_of
  absence_compare_texts k = ap (said_of m) (sym (rolls-CompareTexts k)) ∙ fold-roll-Cond Absence (cond_absence m) (layer.CompareTexts k)

  pub absence_match_text : (k : Matching) → said_of m (MatchText k) ≡ silent
  unfolding said_of
  absence_match_text k = ap (said_of m) (sym (rolls-MatchText k)) ∙ fold-roll-Cond Absence (cond_absence m) (layer.MatchText k)

  pub absence_match_group : (k : GroupMatching) → said_of m (MatchGroup k) ≡ silent
  unfolding said_of
  absence_match_group k = ap (said_of m) (sym (rolls-MatchGroup k)) ∙ fold-roll-Cond Absence (cond_absence m) (layer.MatchGroup k)

  pub absence_captured : (group : ℕ) → said_of m (Captured group) ≡ silent
  unfolding said_of
  absence_captured group = ap (said_of m) (sym (rolls-Captured group)) ∙ fold-roll-Cond Absence (cond_absence m) (layer.Captured group)
