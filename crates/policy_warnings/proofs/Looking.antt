-- What each kind of condition looks at.
use Rattle.std.proofs.Common.{◌≡◌, ℕ, true, List, [], ◌∷◌, ◌++◌, refl, sym, ap, ◌∙◌, map, append-nil}
use Rattle.std.specs.List.{flat_map}
use Rattle.avp_lists.specs.declared.tags.Selection.{Selection}
use Rattle.avp_lists.specs.declared.pairs.AttrId.{AttrId}
use Rattle.avp_lists.specs.declared.lists.List.{List as Name}
use Rattle.avp_unlang.specs.declared.codes.Code.{Code}
use Rattle.avp_unlang.specs.declared.tree.Comparison.{Comparison}
use Rattle.avp_unlang.specs.declared.tree.Cond.{Cond}
use Rattle.avp_unlang.specs.declared.tree.GroupMatching.{GroupMatching}
use Rattle.avp_unlang.specs.declared.tree.Matching.{Matching}
use Rattle.avp_unlang.specs.declared.tree.MeantComparison.{MeantComparison}
use Rattle.avp_unlang.specs.declared.tree.TextComparison.{TextComparison}
use Rattle.avp_unlang.specs.declared.tree.Cond.TheFolds.{fold-roll-Cond}
use Rattle.avp_unlang.specs.declared.tree.Cond.TheOpen as layer
use Rattle.avp_unlang.specs.declared.tree.Cond.TheVariants.{Any, All, Not, Last, Present, PresentSelected, Compare, CompareMeant, CompareTexts, Match, MatchText, MatchGroup, Captured, rolls-Any, rolls-All, rolls-Not, rolls-Last, rolls-Present, rolls-PresentSelected, rolls-Compare, rolls-CompareMeant, rolls-CompareTexts, rolls-Match, rolls-MatchText, rolls-MatchGroup, rolls-Captured}
use Rattle.policy_warnings.specs.ServerAttributes.{aside, comparison_looks, cond_looks, look, looks, meant_comparison_looks, text_looks}
use Rattle.policy_warnings.specs.Mentions.{selected, whole}
use Rattle.policy_warnings.specs.declared.server_attributes.Look.{Look}

flat_mapped : (cs : List Cond) → flat_map (λ (ls : List Look). ls) (map looks cs) ≡ flat_map looks cs
flat_mapped [] = refl
flat_mapped (c ∷ cs) = ap (λ rest. looks c ++ rest) (flat_mapped cs)

pub looks_any : (cs : List Cond) → looks (Any cs) ≡ flat_map looks cs
unfolding looks
looks_any cs = ap looks (sym (rolls-Any cs)) ∙ fold-roll-Cond (List Look) cond_looks (layer.Any cs) ∙ flat_mapped cs

pub looks_all : (cs : List Cond) → looks (All cs) ≡ flat_map looks cs
unfolding looks
looks_all cs = ap looks (sym (rolls-All cs)) ∙ fold-roll-Cond (List Look) cond_looks (layer.All cs) ∙ flat_mapped cs

pub looks_not : (d : Cond) → looks (Not d) ≡ looks d
unfolding looks
looks_not d = ap looks (sym (rolls-Not d)) ∙ fold-roll-Cond (List Look) cond_looks (layer.Not d)

pub looks_last : (word : Code) → looks (Last word) ≡ []
unfolding looks
looks_last word = ap looks (sym (rolls-Last word)) ∙ fold-roll-Cond (List Look) cond_looks (layer.Last word)

pub looks_present : (list : Name) (id : AttrId) → looks (Present list id) ≡ aside (whole list id) ∷ []
unfolding looks
looks_present list id = ap looks (sym (rolls-Present list id)) ∙ fold-roll-Cond (List Look) cond_looks (layer.Present list id)

pub looks_present_selected : (list : Name) (id : AttrId) (selection : Selection) → looks (PresentSelected list id selection) ≡ aside (selected list id selection) ∷ []
unfolding looks
looks_present_selected list id selection =
    ap looks (sym (rolls-PresentSelected list id selection)) ∙ fold-roll-Cond (List Look) cond_looks (layer.PresentSelected list id selection)

pub looks_compare : (k : Comparison) → looks (Compare k) ≡ comparison_looks k
unfolding looks
looks_compare k = ap looks (sym (rolls-Compare k)) ∙ fold-roll-Cond (List Look) cond_looks (layer.Compare k)

pub looks_compare_meant : (k : MeantComparison) → looks (CompareMeant k) ≡ meant_comparison_looks k
unfolding looks
looks_compare_meant k = ap looks (sym (rolls-CompareMeant k)) ∙ fold-roll-Cond (List Look) cond_looks (layer.CompareMeant k)

pub looks_match : (k : Matching) → looks (Match k) ≡ look true (selected k.list k.id k.selection) ∷ []
unfolding looks
looks_match k = ap looks (sym (rolls-Match k)) ∙ fold-roll-Cond (List Look) cond_looks (layer.Match k)

pub looks_compare_texts : (k : TextComparison) → looks (CompareTexts k) ≡ text_looks k
unfolding looks
looks_compare_texts k = ap looks (sym (rolls-CompareTexts k)) ∙ fold-roll-Cond (List Look) cond_looks (layer.CompareTexts k)

pub looks_match_text : (k : Matching) → looks (MatchText k) ≡ aside (selected k.list k.id k.selection) ∷ []
unfolding looks
looks_match_text k = ap looks (sym (rolls-MatchText k)) ∙ fold-roll-Cond (List Look) cond_looks (layer.MatchText k)

pub looks_match_group : (k : GroupMatching) → looks (MatchGroup k) ≡ []
unfolding looks
looks_match_group k = ap looks (sym (rolls-MatchGroup k)) ∙ fold-roll-Cond (List Look) cond_looks (layer.MatchGroup k)

pub looks_captured : (group : ℕ) → looks (Captured group) ≡ []
unfolding looks
looks_captured group = ap looks (sym (rolls-Captured group)) ∙ fold-roll-Cond (List Look) cond_looks (layer.Captured group)

pub nothing_pushed : (c : Cond) (old : List Look) → looks c ≡ [] → old ≡ old ++ looks c
nothing_pushed c old e = sym (append-nil old) ∙ ap (λ (ls : List Look). old ++ ls) (sym e)
