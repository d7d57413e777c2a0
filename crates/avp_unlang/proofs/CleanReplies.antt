-- A policy that was read keeps reply lists clean.
use Rattle.std.proofs.Common.{◌≡◌, true, IsTrue, List, [], ◌∷◌, ◌&&◌, refl, ap₂}
use Rattle.std.specs.List.{All, list_all}
use Rattle.std.proofs.lemmas.Bool.{and_parts}
use Rattle.std.proofs.lemmas.List.Elements.{All-cons, All-head, All-nil, All-tail}
use Rattle.avp_lists.specs.declared.pairs.Pair.{Pair}
use Rattle.avp_dict.specs.Limits.{fits}
use Rattle.avp_dict.specs.Sent.{is_clean, is_clean_pair}
use Rattle.avp_dict.specs.Laws.{SpelledValuesClean}
use Rattle.avp_dict.specs.Soundness.{IsSound}
use Rattle.avp_dict.specs.Dictionary.{Dictionary}
use Rattle.avp_unlang.specs.Cleanness.{KeepsReplyClean}
use Rattle.avp_unlang.specs.Meaning.{meaning_of}
use Rattle.avp_unlang.specs.Suiting.{IsSpelled}
use Rattle.avp_unlang.specs.declared.tree.Statement.{Statement}
use Rattle.avp_unlang.proofs.CleanValues.{CleanWhereFits, lines_clean}
use Rattle.avp_unlang.proofs.KeptReplies.{policy_keeps}

module _ (dictionary : Dictionary) where
  all_clean : (pairs : List Pair) → list_all (is_clean_pair dictionary) pairs ≡ true → All (CleanWhereFits dictionary) pairs
  all_clean [] h = All-nil (CleanWhereFits dictionary)
  all_clean (p ∷ pairs) h =
      let both = and_parts (is_clean_pair dictionary p) (list_all (is_clean_pair dictionary) pairs) h in
      All-cons (CleanWhereFits dictionary) p pairs (λ _. both.0) (all_clean pairs both.1)

  clean_all : (pairs : List Pair) → All (CleanWhereFits dictionary) pairs → All (λ p. IsTrue (fits p dictionary)) pairs → list_all (is_clean_pair dictionary) pairs ≡ true
  clean_all [] kept fit = refl
  clean_all (p ∷ pairs) kept fit =
      let P : Pair → Type 0 = λ q. IsTrue (fits q dictionary) in
      let first : is_clean_pair dictionary p ≡ true = All-head (CleanWhereFits dictionary) p pairs kept (All-head P p pairs fit) in
      let others = clean_all pairs (All-tail (CleanWhereFits dictionary) p pairs kept) (All-tail P p pairs fit) in
      ap₂ (λ x y. x && y) first others

  pub keeps_reply_clean : (statements : List Statement) → IsSpelled dictionary statements → IsSound dictionary → SpelledValuesClean dictionary → KeepsReplyClean dictionary statements
  unfolding is_clean
  keeps_reply_clean statements spelled sound clean s code before fit =
      let kept = policy_keeps dictionary (CleanWhereFits dictionary) (lines_clean dictionary sound clean) spelled.0 statements spelled.1 s code (all_clean s.reply before) in
      clean_all (meaning_of dictionary statements s code).state.reply kept fit
