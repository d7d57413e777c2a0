-- The pairs of lists that are compared fit the dictionary that those of the lists fit.
use Rattle.std.proofs.Common.{◌≡◌, ◌∙◌, ◌≤◌, ◌-◌, ℕ, List, ◌∷◌, [], ◌++◌, ap, append_assoc, arith, drop, get_or, length, subst, sym, take}
use Rattle.std.specs.Borrow.{Bor}
use Rattle.std.specs.List.{flat_map}
use Rattle.std.proofs.lemmas.List.{take_all}
use Rattle.std.proofs.lemmas.List.Elements.{All-filter, All-nil, All-tail}
use Rattle.avp_lists.specs.Instances.{has_id, instances, is_other}
use Rattle.avp_lists.specs.States.{list_of}
use Rattle.avp_lists.specs.declared.lists.List.{List as Name}
use Rattle.avp_lists.specs.declared.lists.List.TheVariants.{Reply}
use Rattle.avp_lists.specs.declared.lists.State.{State}
use Rattle.avp_lists.specs.declared.pairs.AttrId.{AttrId}
use Rattle.avp_lists.specs.declared.pairs.Pair.{Pair}
use Rattle.avp_dict.specs.Dictionary.{Dictionary}
use Rattle.avp_dict.specs.Sent.{is_sent, sent}
use Rattle.avp_packet.specs.Sending.{message_authenticator_id, without_signatures}
use Rattle.avp_unlang.specs.Resolutions.{StateFits}
use Rattle.avp_unlang.specs.declared.codes.Code.{Code}
use Rattle.avp_unlang.specs.declared.codes.Code.TheVariants as code
use Rattle.radpolicy.specs.Replies.{reply_pairs}
use Rattle.radpolicy_common.specs.ChangeTexts.{AllFit, Fits}
use Rattle.radpolicy_record_answers.specs.Captured.{compared_pairs, left_out}
use Rattle.radpolicy_record_answers.specs.declared.comparisons.Comparison.{Comparison}
use Rattle.radpolicy_record_answers.specs.Comparisons.{compared, is_compared, pairs_of}

pub instances_fit : (dictionary : Dictionary) (id : AttrId) (pairs found : List Pair) → found ≡ instances id pairs → AllFit dictionary pairs → AllFit dictionary found
instances_fit dictionary id pairs found same fit =
    subst (AllFit dictionary) (sym same) (All-filter (has_id id) (Fits dictionary) pairs fit)

pub compared_fit : (dictionary own : Dictionary) (ignored : List AttrId) (list : Name) (shown state : State) (pairs found : List Pair) → found ≡ compared ignored pairs → pairs ≡ list_of list shown → shown ≡ state → own ≡ dictionary → StateFits own state → AllFit dictionary found
compared_fit dictionary own ignored list shown state pairs found kept copied is same fit =
    let whole : AllFit dictionary pairs = subst (AllFit dictionary) (sym (copied ∙ ap (list_of list) is)) (subst (λ (d : Dictionary). AllFit d (list_of list state)) same (fit list)) in
    subst (AllFit dictionary) (sym kept) (All-filter (is_compared ignored) (Fits dictionary) pairs whole)

pub compared_pairs_fit : (dictionary : Dictionary) (comparison : Comparison) (pairs found : List Pair) → found ≡ compared_pairs comparison pairs → AllFit dictionary pairs → AllFit dictionary found
compared_pairs_fit dictionary comparison pairs found same fit =
    subst (AllFit dictionary) (sym same) (All-filter (is_compared (left_out comparison.order ++ comparison.ignored.now)) (Fits dictionary) pairs fit)

-- ---- pairs of a reply that is not made

pub reply_fits : (dictionary own : Dictionary) (last : Code) (shown state : State) (pairs found : List Pair) → found ≡ reply_pairs last pairs → pairs ≡ list_of Reply shown → shown ≡ state → own ≡ dictionary → StateFits own state → AllFit dictionary found
reply_fits dictionary own last shown state pairs found kept copied is same fit =
    let whole : AllFit dictionary pairs = subst (AllFit dictionary) (sym (copied ∙ ap (list_of Reply) is)) (subst (λ (d : Dictionary). AllFit d (list_of Reply state)) same (fit Reply)) in
    subst (AllFit dictionary) (sym kept) (pairs_fit last whole)
  where
    pairs_fit : (last : Code) → AllFit dictionary pairs → AllFit dictionary (reply_pairs last pairs)
    pairs_fit code.Fail whole = All-nil (Fits dictionary)
    pairs_fit _ whole = whole

pub plain_fit : (dictionary : Dictionary) (pairs found : List Pair) → found ≡ without_signatures pairs → AllFit dictionary pairs → AllFit dictionary found
plain_fit dictionary pairs found same fit =
    subst (AllFit dictionary) (sym same) (All-filter (is_other message_authenticator_id) (Fits dictionary) pairs fit)

pub sent_fit : (dictionary : Dictionary) (pairs found : List Pair) → found ≡ sent pairs dictionary → AllFit dictionary pairs → AllFit dictionary found
unfolding sent
sent_fit dictionary pairs found same fit =
    subst (AllFit dictionary) (sym same) (All-filter (is_sent dictionary) (Fits dictionary) pairs fit)

-- ---- pairs that are gone over, from the first on

pub later_fit : (dictionary : Dictionary) (rest : List (Bor Pair)) → 1 ≤ length rest → AllFit dictionary (pairs_of rest) → AllFit dictionary (pairs_of (take (length rest - 1) (drop 1 rest)))
later_fit dictionary [] some fit = absurd (omega (arith, some))
later_fit dictionary (pair ∷ pairs) some fit =
    subst (λ (l : List (Bor Pair)). AllFit dictionary (pairs_of l)) (sym (take_all (length (pair ∷ pairs) - 1) pairs (omega arith))) (All-tail (Fits dictionary) pair.now (pairs_of pairs) fit)

pub later_text : (line : Pair → List ℕ) (rest : List (Bor Pair)) (first : Bor Pair) (before after whole : List ℕ) → 1 ≤ length rest → first ≡ get_or rest 0 first → after ≡ before ++ line first.now → before ++ flat_map line (pairs_of rest) ≡ whole → after ++ flat_map line (pairs_of (take (length rest - 1) (drop 1 rest))) ≡ whole
later_text line [] first before after whole some is pushed so_far = absurd (omega (arith, some))
later_text line (pair ∷ pairs) first before after whole some is pushed so_far =
    ap (λ (l : List (Bor Pair)). after ++ flat_map line (pairs_of l)) (take_all (length (pair ∷ pairs) - 1) pairs (omega arith))
    ∙ ap (λ l. l ++ flat_map line (pairs_of pairs)) (pushed ∙ ap (λ (p : Bor Pair). before ++ line p.now) is)
    ∙ append_assoc before (line pair.now) (flat_map line (pairs_of pairs)) ∙ so_far
