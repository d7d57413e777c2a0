-- Each form goes on at a token of the text, and each refusal is at one.
use Rattle.std.proofs.Common.{inl, inr, ℕ, zero, suc, Bool, true, false, List, Option, Some, None, refl, sym, subst, ◌∙◌}
use Rattle.std.specs.Option.{option_and_then, option_map}
use Rattle.avp_lists.specs.declared.pairs.AttrId.{AttrId}
use Rattle.avp_dict.specs.Dictionary.{Dictionary}
use Rattle.avp_dict.specs.Quotes.{single_quoted_octets}
use Rattle.avp_dict.specs.declared.value.quotes.QuoteMark.{QuoteMark}
use Rattle.avp_dict.specs.declared.value.quotes.QuoteMark.TheVariants.{Double, Single}
use Rattle.avp_forms.specs.declared.profiles.Profile.{Profile}
use Rattle.avp_forms.specs.declared.profiles.Profile.TheVariants.{Plain, Wider}
use Rattle.avp_forms.specs.declared.targets.Target.{Target}
use Rattle.avp_unlang.specs.Between.{Follows}
use Rattle.avp_unlang.specs.Conditions.{Both, Closed, ComparandIs, ComparedFrom, ComparedIs, Either, MatchedOr, MeantFrom, MeantIs, OperandFrom, ReferredIs, RelatedAs, RelatedBy, RightFrom, RightIs, TextBeside, TextComparedFrom, TextOperand, TextRelated, TextRelatedFrom, TextsBy, Within, WordFrom, all_of, any_of, comparison_of, is_by_meaning, is_text_beside, matcher_in, matching_of, meant_comparison, meant_literal, pattern_of, plain_octets, plain_parts, present_of, puts_in, reference_alone, relation_of, side_of, text_comparison, text_match}
use Rattle.avp_unlang.specs.Forms.{Form, Step, After, Chain, Gives}
use Rattle.avp_unlang.specs.Parts.{PartIs, group_in, is_left}
use Rattle.avp_unlang.specs.Places.{Place}
use Rattle.avp_unlang.specs.References.{AlikeIs, ReadableIs, type_of}
use Rattle.avp_unlang.specs.RefusedConditions.{BothFails, ClosedFails, ComparandFails, ComparedFails, ComparedFailsFrom, EitherFails, MatchedFails, MatchedFailsOr, MeantFailsFrom, OperandFailsFrom, QuotedPartsFail, ReferredFails, RelatedFailsAs, RelatedFailsBy, RelatedToTextFails, RightFails, RightFailsFrom, TextBesideFails, TextBesideOctetsFails, TextComparedFails, TextMatchedFails, TextOperandFails, TextRelatedFails, TextRelatedFailsFrom, WithinFails, WordFailsFrom, comparand_refusal, meant_refusal}
use Rattle.avp_unlang.specs.RefusedForms.{DeepFails, Failing, Misses, OthersFails, ThenFails, WhileFails, left_at, unfit}
use Rattle.avp_unlang.specs.RefusedLines.{PartFails, expansion_refusal}
use Rattle.avp_unlang.specs.RefusedValues.{AlikeFails, IsValueRefused, ReadableFails, UnlikeFails, WrittenFails, WrittenFailsFrom, literal_refusal, plain_refusal, reference_refusal, value_place, word_refusal}
use Rattle.avp_unlang.specs.Tokens.{next_token}
use Rattle.avp_unlang.specs.Values.{WrittenFrom, WrittenIs, literal}
use Rattle.avp_unlang.specs.Words.{code_named}
use Rattle.avp_unlang.specs.declared.codes.Code.{Code}
use Rattle.avp_unlang.specs.declared.faults.PolicyKind.{PolicyKind}
use Rattle.avp_unlang.specs.declared.faults.PolicyKind.TheVariants as kinds
use Rattle.avp_unlang.specs.declared.text.references.Reference.{Reference}
use Rattle.avp_unlang.specs.declared.text.tokens.Matcher.{Matcher}
use Rattle.avp_unlang.specs.declared.text.tokens.Sign.TheVariants as sign
use Rattle.avp_unlang.specs.declared.text.tokens.Token.{Token}
use Rattle.avp_unlang.specs.declared.text.tokens.Token.TheVariants.{Operator, Quoted, Word}
use Rattle.avp_unlang.specs.declared.text.values.Written.TheVariants as written
use Rattle.avp_unlang.specs.declared.tree.Cond.{Cond}
use Rattle.avp_unlang.specs.declared.tree.Cond.TheVariants.{Captured, Compare, CompareMeant, CompareTexts, Last, Match, Not}
use Rattle.avp_unlang.specs.declared.tree.Part.{Part}
use Rattle.avp_unlang.specs.declared.tree.Relation.{Relation}
use Rattle.avp_unlang.specs.declared.tree.TextSide.{TextSide}
use Rattle.avp_unlang.specs.declared.tree.TextSide.TheVariants as side
use Rattle.avp_unlang.specs.internal.LeftTokens.{LeavesToken}
use Rattle.avp_unlang.proofs.ReachedTokens.{IsKept, IsPlaced, IsReached, IsStepKept, after_kept, at_token, becomes_kept, chain_kept, IsTold, follows_reached, gives_kept, misses_placed, others_placed, then_kept, then_placed, told_at, told_if}
use Rattle.avp_unlang.proofs.SmallKinds.{AreSmall, comparand_small, expansion_small, fault_small, literal_small, meant_small, misplaced_small, not_expansion_small, not_writable_small, other_type_small, plain_small, reference_small, too_deep_small, unfit_small, word_small}

module _ (profile : Profile) (text : List ℕ) where
  -- the place after a token
  pub next_reached : (p : Place) → IsReached profile text p → IsReached profile text (next_token p).1
  next_reached p reached = follows_reached profile text (next_token p).0 p (next_token p).1 refl reached

  -- a name or a value
  pub value_placed : (why : Option PolicyKind) → AreSmall why → (name value left : ℕ) (kind : PolicyKind) → IsValueRefused why name value left kind → LeavesToken profile name text → LeavesToken profile value text → IsTold profile text left kind
  value_placed why small name value left kind h of_name of_value = told_if profile text (value_place name value kind) why left kind small (at_place kind) (h.1, h.0) where
    at_place : (k : PolicyKind) → LeavesToken profile (value_place name value k) text
    at_place kinds.NotWritable = of_name
    at_place _ = of_value

  module _ (own : Profile) (dictionary : Dictionary) where
    -- ---- references

    pub readable_kept : IsKept profile text (ReadableIs own dictionary)
    readable_kept p found rest h reached = follows_reached profile text (Word h.0) p rest h.1 reached

    pub readable_placed : (p : Place) → IsReached profile text p → IsPlaced profile text (ReadableFails own dictionary) p
    readable_placed p reached left kind h =
        told_if profile text (left_at p) (word_refusal (reference_refusal own dictionary) (next_token p).0) left kind (word_small (reference_refusal own dictionary) (reference_small own dictionary) (next_token p).0) (at_token profile text p reached) h

    pub alike_kept : (id : AttrId) → IsKept profile text (AlikeIs own dictionary id)
    alike_kept id p found rest h reached = readable_kept p found rest h.0 reached

    pub alike_placed : (id : AttrId) (p : Place) → IsReached profile text p → IsPlaced profile text (AlikeFails own dictionary id) p
    alike_placed id p reached =
        then_placed profile text (ReadableIs own dictionary) (ReadableFails own dictionary) (UnlikeFails dictionary id (left_at p)) p readable_kept reached (readable_placed p reached)
        (λ found mid next left kind h. told_at profile text (left_at p) kinds.OtherType left kind other_type_small (at_token profile text p reached) h.1)

    -- ---- written values

    written_from_kept : (target : Target) (token : Token) → IsKept profile text (WrittenFrom own dictionary target token)
    written_from_kept target (Word octets) p x rest h reached = becomes_kept profile text (option_map written.Literal (literal own dictionary target octets)) p x rest h reached
    written_from_kept target (Quoted Single octets) p x rest h reached = becomes_kept profile text (option_map written.Literal (literal own dictionary target (single_quoted_octets octets))) p x rest h reached
    written_from_kept target (Quoted Double octets) p x rest h reached = gives_kept profile text (written.Double octets) p x rest h reached
    written_from_kept target (Operator sign.Reference) p x rest h reached = alike_kept target.named.id p h.0 rest h.1 reached
    written_from_kept target _ p x rest h reached = absurd h

    pub written_kept : (target : Target) → IsKept profile text (WrittenIs own dictionary target)
    written_kept target p x rest h reached = written_from_kept target (next_token p).0 (next_token p).1 x rest h (next_reached p reached)

    written_from_placed : (target : Target) (name value : ℕ) (token : Token) (p : Place) → IsReached profile text p → LeavesToken profile name text → LeavesToken profile value text
        → IsPlaced profile text (WrittenFailsFrom own dictionary target name value token) p
    written_from_placed target name value (Word octets) p reached of_name of_value left kind h = value_placed (literal_refusal own dictionary target octets) (literal_small own dictionary target octets) name value left kind h of_name of_value
    written_from_placed target name value (Quoted Single octets) p reached of_name of_value left kind h =
        value_placed (literal_refusal own dictionary target (single_quoted_octets octets)) (literal_small own dictionary target (single_quoted_octets octets)) name value left kind h of_name of_value
    written_from_placed target name value (Quoted Double octets) p reached of_name of_value left kind h = absurd h
    written_from_placed target name value (Operator sign.Reference) p reached of_name of_value left kind h = alike_placed target.named.id p reached left kind h
    written_from_placed target name value t p reached of_name of_value left kind h = told_at profile text value (unfit t) left kind (unfit_small t) of_value h

    pub written_placed : (target : Target) (name : ℕ) (p : Place) → IsReached profile text p → LeavesToken profile name text → IsPlaced profile text (WrittenFails own dictionary target name) p
    written_placed target name p reached of_name =
        written_from_placed target name (left_at p) (next_token p).0 (next_token p).1 (next_reached p reached) of_name (at_token profile text p reached)

    -- ---- comparisons

    comparand_kept : (target : Target) → IsKept profile text (ComparandIs own dictionary target)
    comparand_kept target p x rest h reached = written_kept target p h.0 rest h.1 reached

    comparand_placed : (target : Target) (name : ℕ) (p : Place) → IsReached profile text p → LeavesToken profile name text → IsPlaced profile text (ComparandFails own dictionary target name) p
    comparand_placed target name p reached of_name =
        then_placed profile text (WrittenIs own dictionary target) (WrittenFails own dictionary target name) (λ w after. IsValueRefused (comparand_refusal own dictionary target w) name (left_at p)) p
        (written_kept target) reached (written_placed target name p reached of_name)
        (λ w mid next left kind h. value_placed (comparand_refusal own dictionary target w) (comparand_small own dictionary target w) name (left_at p) left kind h of_name (at_token profile text p reached))

module _ (profile : Profile) (text : List ℕ) (own : Profile) (dictionary : Dictionary) where
  -- ---- comparisons by meaning

  meant_from_kept : (target : Target) (token : Token) → IsKept profile text (MeantFrom dictionary target token)
  meant_from_kept target (Word octets) p x rest h reached = becomes_kept profile text (meant_literal dictionary target octets) p x rest h reached
  meant_from_kept target (Quoted Single octets) p x rest h reached = becomes_kept profile text (meant_literal dictionary target (single_quoted_octets octets)) p x rest h reached
  meant_from_kept target (Quoted Double octets) p x rest h reached = becomes_kept profile text (option_and_then (meant_literal dictionary target) (plain_octets octets)) p x rest h reached
  meant_from_kept target (Operator sign.Reference) p x rest h reached = alike_kept profile text Wider dictionary target.named.id p h.0 rest h.1 reached
  meant_from_kept target _ p x rest h reached = absurd h

  meant_kept : (target : Target) → IsKept profile text (MeantIs dictionary target)
  meant_kept target p x rest h reached = meant_from_kept target (next_token p).0 (next_token p).1 x rest h (next_reached profile text p reached)

  meant_from_placed : (target : Target) (name value : ℕ) (token : Token) (p : Place) → IsReached profile text p → LeavesToken profile name text → LeavesToken profile value text
      → IsPlaced profile text (MeantFailsFrom dictionary target name value token) p
  meant_from_placed target name value (Word octets) p reached of_name of_value left kind h = value_placed profile text (meant_refusal dictionary target octets) (meant_small dictionary target octets) name value left kind h of_name of_value
  meant_from_placed target name value (Quoted Single octets) p reached of_name of_value left kind h =
      value_placed profile text (meant_refusal dictionary target (single_quoted_octets octets)) (meant_small dictionary target (single_quoted_octets octets)) name value left kind h of_name of_value
  meant_from_placed target name value (Quoted Double octets) p reached of_name of_value left kind h =
      value_placed profile text (plain_refusal (meant_refusal dictionary target) dictionary target octets) (plain_small own dictionary (meant_refusal dictionary target) (meant_small dictionary target) target octets) name value left kind h of_name of_value
  meant_from_placed target name value (Operator sign.Reference) p reached of_name of_value left kind h = alike_placed profile text Wider dictionary target.named.id p reached left kind h
  meant_from_placed target name value t p reached of_name of_value left kind h = told_at profile text value (unfit t) left kind (unfit_small t) of_value h

  related_kept : (b : Bool) (found : Reference) (relation : Relation) → IsKept profile text (RelatedBy b own dictionary found relation)
  related_kept true found relation =
      then_kept profile text (MeantIs dictionary found.target) (λ x. Gives (CompareMeant (meant_comparison dictionary found relation x))) (meant_kept found.target) (λ x. gives_kept profile text (CompareMeant (meant_comparison dictionary found relation x)))
  related_kept false found relation =
      then_kept profile text (ComparandIs own dictionary found.target) (λ x. Gives (Compare (comparison_of dictionary found relation x))) (comparand_kept profile text own dictionary found.target) (λ x. gives_kept profile text (Compare (comparison_of dictionary found relation x)))

  related_placed : (b : Bool) (target : Target) (name : ℕ) (p : Place) → IsReached profile text p → LeavesToken profile name text → IsPlaced profile text (RelatedFailsBy b own dictionary target name) p
  related_placed true target name p reached of_name =
      meant_from_placed target name (left_at p) (next_token p).0 (next_token p).1 (next_reached profile text p reached) of_name (at_token profile text p reached)
  related_placed false target name p reached of_name = comparand_placed profile text own dictionary target name p reached of_name

  -- ---- the parts of texts

  pub parts_placed : (value : ℕ) (octets : List ℕ) (left : ℕ) (kind : PolicyKind) → LeavesToken profile value text → WhileFails is_left (PartIs own dictionary) (PartFails own dictionary value) octets left kind → IsTold profile text left kind
  parts_placed value octets left kind of_value (WhileFails.here starts h) = told_if profile text value (expansion_refusal own dictionary octets) left kind (expansion_small own dictionary octets) of_value h.1
  parts_placed value octets left kind of_value (WhileFails.later part rest starts read h) = parts_placed value rest left kind of_value h

module _ (profile : Profile) (text : List ℕ) (dictionary : Dictionary) where
  -- ---- texts

  quoted_placed : (mark : QuoteMark) (octets : List ℕ) (begin left : ℕ) (kind : PolicyKind) → LeavesToken profile begin text → QuotedPartsFail dictionary begin mark octets left kind → IsTold profile text left kind
  quoted_placed Double octets begin left kind of_begin h = parts_placed profile text Wider dictionary begin octets left kind of_begin h
  quoted_placed Single octets begin left kind of_begin h = absurd h

  right_from_kept : (token : Token) → IsKept profile text (RightFrom dictionary token)
  right_from_kept (Word word) p x rest h reached = gives_kept profile text (plain_parts word) p x rest h reached
  right_from_kept (Quoted mark octets) p x rest h reached = subst (IsReached profile text) (sym h.1) reached
  right_from_kept _ p x rest h reached = absurd h

  right_kept : IsKept profile text (RightIs dictionary)
  right_kept p x rest h reached = right_from_kept (next_token p).0 (next_token p).1 x rest h (next_reached profile text p reached)

  right_from_placed : (begin : ℕ) (token : Token) (left : ℕ) (kind : PolicyKind) → LeavesToken profile begin text → RightFailsFrom dictionary begin token left kind → IsTold profile text left kind
  right_from_placed begin (Word word) left kind of_begin h = absurd h
  right_from_placed begin (Quoted mark octets) left kind of_begin h = quoted_placed mark octets begin left kind of_begin h
  right_from_placed begin t left kind of_begin h = told_at profile text begin (unfit t) left kind (unfit_small t) of_begin h

  right_placed : (p : Place) → IsReached profile text p → IsPlaced profile text (RightFails dictionary) p
  right_placed p reached left kind h = right_from_placed (left_at p) (next_token p).0 left kind (at_token profile text p reached) h

  texts_kept : (left : TextSide) (relation : Relation) → IsKept profile text (TextsBy dictionary left relation)
  texts_kept left relation =
      then_kept profile text (RightIs dictionary) (λ right. Gives (CompareTexts (text_comparison left relation right))) right_kept (λ right. gives_kept profile text (CompareTexts (text_comparison left relation right)))

  beside_kept : (found : Reference) (relation : Relation) (o : Option Reference) → IsKept profile text (TextBeside dictionary found relation o)
  beside_kept found relation None p c rest h reached = texts_kept (side_of dictionary found) relation p c rest h.1 reached
  beside_kept found relation (Some other) p c rest (inl h) reached = subst (IsReached profile text) (sym h.2) (next_reached profile text p reached)
  beside_kept found relation (Some other) p c rest (inr h) reached = texts_kept (side_of dictionary found) relation p c rest h.1.1 reached

  octets_placed : (found : Reference) (p : Place) → IsReached profile text p → IsPlaced profile text (TextBesideOctetsFails dictionary found) p
  octets_placed found p reached left kind (inl h) = right_placed p reached left kind h.1
  octets_placed found p reached left kind (inr h) = told_at profile text (left_at p) kinds.OtherType left kind other_type_small (at_token profile text p reached) h.1

  beside_placed : (found : Reference) (o : Option Reference) (p : Place) → IsReached profile text p → IsPlaced profile text (TextBesideFails dictionary found o) p
  beside_placed found None p reached left kind h = octets_placed found p reached left kind h
  beside_placed found (Some other) p reached left kind h = octets_placed found p reached left kind h.1

  to_text_placed : (found : Reference) (name : ℕ) (p : Place) → IsReached profile text p → LeavesToken profile name text → IsPlaced profile text (RelatedToTextFails dictionary found name) p
  to_text_placed found name p reached of_name left kind (inl h) = told_at profile text name kinds.NotWritable left kind not_writable_small of_name h.1
  to_text_placed found name p reached of_name left kind (inr h) = beside_placed found (reference_alone dictionary (next_token p).0) p reached left kind h.1

module _ (profile : Profile) (text : List ℕ) (own : Profile) (dictionary : Dictionary) where
  -- ---- references

  related_as_kept : (b : Bool) (found : Reference) (relation : Relation) → IsKept profile text (RelatedAs b own dictionary found relation)
  related_as_kept true found relation p c rest h reached = beside_kept profile text dictionary found relation (reference_alone dictionary (next_token p).0) p c rest h.1 reached
  related_as_kept false found relation p c rest h reached = related_kept profile text own dictionary (is_by_meaning own (type_of dictionary found.target.named.id)) found relation p c rest h reached

  related_as_placed : (b : Bool) (found : Reference) (name : ℕ) (p : Place) → IsReached profile text p → LeavesToken profile name text → IsPlaced profile text (RelatedFailsAs b own dictionary found name) p
  related_as_placed true found name p reached of_name left kind h = to_text_placed profile text dictionary found name p reached of_name left kind h
  related_as_placed false found name p reached of_name left kind h = related_placed profile text own dictionary (is_by_meaning own (type_of dictionary found.target.named.id)) found.target name p reached of_name left kind h

  compared_from_kept : (found : Reference) (o : Option Relation) (p after : Place) (c : Cond) (rest : Place) → ComparedFrom own dictionary found o p after c rest → IsReached profile text p → IsReached profile text after → IsReached profile text rest
  compared_from_kept found None p after c rest h reached next = gives_kept profile text (present_of dictionary found found.target.tag) p c rest h reached
  compared_from_kept found (Some relation) p after c rest h reached next = related_as_kept (is_text_beside own (next_token after).0) found relation after c rest h next

  matched_or_kept : (found : Reference) (o : Option Matcher) (p : Place) (next : Token × Place) (c : Cond) (rest : Place) → MatchedOr own dictionary found o p next c rest → IsReached profile text p → IsReached profile text next.1 → IsReached profile text rest
  matched_or_kept found None p next c rest h reached after = compared_from_kept found (relation_of next.0) p next.1 c rest h reached after
  matched_or_kept found (Some m) p next c rest h reached after = gives_kept profile text (Match (matching_of dictionary found m)) next.1 c rest h.1 after

  compared_kept : (found : Reference) → IsKept profile text (ComparedIs own dictionary found)
  compared_kept found p c rest h reached = matched_or_kept found (matcher_in own (next_token p).0) p (next_token p) c rest h reached (next_reached profile text p reached)

  compared_from_placed : (found : Reference) (name : ℕ) (o : Option Relation) (p : Place) → IsReached profile text p → LeavesToken profile name text → IsPlaced profile text (ComparedFailsFrom own dictionary found name o) p
  compared_from_placed found name None p reached of_name left kind h = absurd h
  compared_from_placed found name (Some relation) p reached of_name left kind h =
      related_as_placed (is_text_beside own (next_token p).0) found name p reached of_name left kind h

  matched_placed : (m : Matcher) (at : ℕ) (p : Place) → LeavesToken profile at text → IsPlaced profile text (MatchedFails m at) p
  matched_placed m at p of_at left kind h = ((of_at.0, h.0 ∙ of_at.1), fault_small (pattern_of m) kind h.1)

  matched_or_placed : (found : Reference) (name at : ℕ) (o : Option Matcher) (token : Token) (p : Place) → IsReached profile text p → LeavesToken profile name text → LeavesToken profile at text
      → IsPlaced profile text (MatchedFailsOr own dictionary found name at o token) p
  matched_or_placed found name at None token p reached of_name of_at left kind h = compared_from_placed found name (relation_of token) p reached of_name left kind h
  matched_or_placed found name at (Some m) token p reached of_name of_at left kind h = matched_placed m at p of_at left kind h

  compared_placed : (found : Reference) (name : ℕ) (p : Place) → IsReached profile text p → LeavesToken profile name text → IsPlaced profile text (ComparedFails own dictionary found name) p
  compared_placed found name p reached of_name =
      matched_or_placed found name (left_at p) (matcher_in own (next_token p).0) (next_token p).0 (next_token p).1 (next_reached profile text p reached) of_name (at_token profile text p reached)

  referred_kept : IsKept profile text (ReferredIs own dictionary)
  referred_kept = then_kept profile text (ReadableIs own dictionary) (ComparedIs own dictionary) (readable_kept profile text own dictionary) compared_kept

  referred_placed : (p : Place) → IsReached profile text p → IsPlaced profile text (ReferredFails own dictionary) p
  referred_placed p reached =
      then_placed profile text (ReadableIs own dictionary) (ReadableFails own dictionary) (λ found. ComparedFails own dictionary found (left_at p)) p (readable_kept profile text own dictionary) reached
      (readable_placed profile text own dictionary p reached) (λ found mid next. compared_placed found (left_at p) mid next (at_token profile text p reached))

  word_kept : (o : Option Code) (word : List ℕ) → IsKept profile text (WordFrom own dictionary o word)
  word_kept (Some code) word p c rest h reached = gives_kept profile text (Last code) p c rest h reached
  word_kept None word p c rest h reached = compared_kept h.0 p c rest h.2 reached

  word_placed : (o : Option Code) (word : List ℕ) (name : ℕ) (p : Place) → IsReached profile text p → LeavesToken profile name text → IsPlaced profile text (WordFailsFrom own dictionary o word name) p
  word_placed (Some code) word name p reached of_name left kind h = absurd h
  word_placed None word name p reached of_name left kind (inl h) = told_if profile text name (reference_refusal own dictionary word) left kind (reference_small own dictionary word) of_name h
  word_placed None word name p reached of_name left kind (inr h) = compared_placed h.0 name p reached of_name left kind h.2

  -- ---- texts on the left

  text_related_from_kept : (alone : Option Reference) (b : Bool) (parts : List Part) (relation : Relation) → IsKept profile text (TextRelatedFrom dictionary alone b parts relation)
  text_related_from_kept None b parts relation p c rest h reached = texts_kept profile text dictionary (side.Text parts) relation p c rest h reached
  text_related_from_kept (Some found) true parts relation p c rest h reached = texts_kept profile text dictionary (side.Text parts) relation p c rest h reached
  text_related_from_kept (Some found) false parts relation p c rest h reached = related_kept profile text Wider dictionary (is_by_meaning Wider (type_of dictionary found.target.named.id)) found relation p c rest h reached

  text_related_from_placed : (alone : Option Reference) (b : Bool) (begin : ℕ) (p : Place) → IsReached profile text p → LeavesToken profile begin text → IsPlaced profile text (TextRelatedFailsFrom dictionary alone b begin) p
  text_related_from_placed None b begin p reached of_begin left kind h = right_placed profile text dictionary p reached left kind h
  text_related_from_placed (Some found) true begin p reached of_begin left kind h = right_placed profile text dictionary p reached left kind h
  text_related_from_placed (Some found) false begin p reached of_begin left kind h = related_placed profile text Wider dictionary (is_by_meaning Wider (type_of dictionary found.target.named.id)) found.target begin p reached of_begin left kind h

  text_related_kept : (alone : Option Reference) (parts : List Part) (relation : Relation) → IsKept profile text (TextRelated dictionary alone parts relation)
  text_related_kept alone parts relation p c rest h reached = text_related_from_kept alone (puts_in (next_token p).0) parts relation p c rest h.1 reached

  text_related_placed : (alone : Option Reference) (begin : ℕ) (p : Place) → IsReached profile text p → LeavesToken profile begin text → IsPlaced profile text (TextRelatedFails dictionary alone begin) p
  text_related_placed alone begin p reached of_begin left kind (inl h) = told_at profile text (left_at p) (unfit (next_token p).0) left kind (unfit_small (next_token p).0) (at_token profile text p reached) h.1
  text_related_placed alone begin p reached of_begin left kind (inr h) = text_related_from_placed alone (puts_in (next_token p).0) begin p reached of_begin left kind h.1

  text_matched_placed : (m : Matcher) (at : ℕ) (parts : List Part) (p : Place) → LeavesToken profile at text → IsPlaced profile text (TextMatchedFails m at parts) p
  text_matched_placed m at parts p of_at left kind (inl h) = told_at profile text at kinds.NotExpansion left kind not_expansion_small of_at h.1
  text_matched_placed m at parts p of_at left kind (inr h) = ((of_at.0, h.1 ∙ of_at.1), fault_small (pattern_of m) kind h.2)

  text_from_kept : (mark : QuoteMark) (octets : List ℕ) (o : Option Matcher) (r : Option Relation) (p after : Place) (c : Cond) (rest : Place) → TextComparedFrom dictionary mark octets o r p after c rest → IsReached profile text p → IsReached profile text after → IsReached profile text rest
  text_from_kept mark octets (Some m) r p after c rest h reached next = becomes_kept profile text (text_match m h.0) after c rest h.2.1 next
  text_from_kept mark octets None (Some relation) p after c rest h reached next = text_related_kept (reference_alone dictionary (Quoted mark octets)) h.0 relation after c rest h.2 next
  text_from_kept Double octets None None p after c rest h reached next = becomes_kept profile text (option_map Captured (group_in Wider octets)) p c rest h reached
  text_from_kept Single octets None None p after c rest h reached next = absurd h

  text_from_placed : (mark : QuoteMark) (octets : List ℕ) (begin at : ℕ) (o : Option Matcher) (r : Option Relation) (token : Token) (p : Place) → IsReached profile text p → LeavesToken profile begin text → LeavesToken profile at text
      → IsPlaced profile text (TextComparedFails dictionary mark octets begin at o r token) p
  text_from_placed mark octets begin at (Some m) r token p reached of_begin of_at left kind (inl h) = quoted_placed profile text dictionary mark octets begin left kind of_begin h
  text_from_placed mark octets begin at (Some m) r token p reached of_begin of_at left kind (inr h) = text_matched_placed m at h.0 p of_at left kind h.2
  text_from_placed mark octets begin at None (Some relation) token p reached of_begin of_at left kind (inl h) = quoted_placed profile text dictionary mark octets begin left kind of_begin h
  text_from_placed mark octets begin at None (Some relation) token p reached of_begin of_at left kind (inr h) = text_related_placed (reference_alone dictionary (Quoted mark octets)) begin p reached of_begin left kind h.2
  text_from_placed mark octets begin at None None token p reached of_begin of_at left kind (none, inl h) = quoted_placed profile text dictionary mark octets begin left kind of_begin h
  text_from_placed mark octets begin at None None token p reached of_begin of_at left kind (none, inr h) = told_at profile text at (unfit token) left kind (unfit_small token) of_at h.2

  text_operand_kept : (q : Profile) (mark : QuoteMark) (octets : List ℕ) → IsKept profile text (TextOperand q dictionary mark octets)
  text_operand_kept Plain mark octets p c rest h reached = absurd h
  text_operand_kept Wider mark octets p c rest h reached =
      text_from_kept mark octets (matcher_in Wider (next_token p).0) (relation_of (next_token p).0) p (next_token p).1 c rest h reached (next_reached profile text p reached)

  text_operand_placed : (q : Profile) (mark : QuoteMark) (octets : List ℕ) (begin : ℕ) (p : Place) → IsReached profile text p → LeavesToken profile begin text → IsPlaced profile text (TextOperandFails q dictionary mark octets begin) p
  text_operand_placed Plain mark octets begin p reached of_begin left kind h = told_at profile text begin kinds.Misplaced left kind misplaced_small of_begin h
  text_operand_placed Wider mark octets begin p reached of_begin left kind h =
      text_from_placed mark octets begin (left_at p) (matcher_in Wider (next_token p).0) (relation_of (next_token p).0) (next_token p).0 (next_token p).1 (next_reached profile text p reached) of_begin (at_token profile text p reached) left kind h

  -- ---- operands

  both_kept : (form : Form Place Cond) → IsKept profile text form → IsKept profile text (Both form)
  both_kept form kept =
      then_kept profile text (Chain (Follows (Operator sign.And)) form) (λ cs. Gives (all_of cs)) (chain_kept profile text (Follows (Operator sign.And)) form (follows_reached profile text (Operator sign.And)) kept) (λ cs. gives_kept profile text (all_of cs))

  either_kept : (form : Form Place Cond) → IsKept profile text form → IsKept profile text (Either form)
  either_kept form kept =
      then_kept profile text (Chain (Follows (Operator sign.Or)) (Both form)) (λ cs. Gives (any_of cs)) (chain_kept profile text (Follows (Operator sign.Or)) (Both form) (follows_reached profile text (Operator sign.Or)) (both_kept form kept)) (λ cs. gives_kept profile text (any_of cs))

  pub closed_kept : (form : Form Place Cond) → IsKept profile text form → IsKept profile text (Closed form)
  closed_kept form kept =
      then_kept profile text (Either form) (λ cond. After (Follows (Operator sign.Close)) (Gives cond)) (either_kept form kept)
      (λ cond. after_kept profile text (Follows (Operator sign.Close)) (Gives cond) (follows_reached profile text (Operator sign.Close)) (gives_kept profile text cond))

  operand_kept : (inner : Form Place Cond) → IsKept profile text inner → (token : Token) → IsKept profile text (OperandFrom own dictionary inner token)
  operand_kept inner kept (Operator sign.Not) p c rest h reached = then_kept profile text inner (λ x. Gives (Not x)) kept (λ x. gives_kept profile text (Not x)) p c rest h reached
  operand_kept inner kept (Operator sign.Open) p c rest h reached = closed_kept inner kept p c rest h reached
  operand_kept inner kept (Operator sign.Reference) p c rest h reached = referred_kept p c rest h reached
  operand_kept inner kept (Word word) p c rest h reached = word_kept (code_named word) word p c rest h reached
  operand_kept inner kept (Quoted mark octets) p c rest h reached = text_operand_kept own mark octets p c rest h reached
  operand_kept inner kept _ p c rest h reached = absurd h

  pub within_kept : (n : ℕ) → IsKept profile text (Within own dictionary n)
  within_kept zero p c rest h reached = absurd h
  within_kept (suc n) p c rest h reached = operand_kept (Within own dictionary n) (within_kept n) (next_token p).0 (next_token p).1 c rest h (next_reached profile text p reached)

  chain_placed : {A : Type 0} (step : Step Place) (form : Form Place A) (first_fails : Failing Place) (fails : Place → Failing Place) → IsStepKept profile text step → IsKept profile text form → (p : Place) → IsReached profile text p
      → IsPlaced profile text first_fails p → ((before next : Place) → IsReached profile text before → IsReached profile text next → IsPlaced profile text (fails before) next)
      → IsPlaced profile text (ThenFails form first_fails (λ x. OthersFails step form fails)) p
  chain_placed step form first_fails fails goes kept p reached first each =
      then_placed profile text form first_fails (λ x. OthersFails step form fails) p kept reached first (λ x mid next. others_placed profile text step form fails goes kept each mid next)

  module _ (form : Form Place Cond) (fails : Failing Place) (kept : IsKept profile text form) (each : (p : Place) → IsReached profile text p → IsPlaced profile text fails p) where
    both_placed : (p : Place) → IsReached profile text p → IsPlaced profile text (BothFails form fails) p
    both_placed p reached =
        chain_placed (Follows (Operator sign.And)) form fails (λ before. fails) (follows_reached profile text (Operator sign.And)) kept p reached (each p reached) (λ before next came at. each next at)

    either_placed : (p : Place) → IsReached profile text p → IsPlaced profile text (EitherFails form fails) p
    either_placed p reached =
        chain_placed (Follows (Operator sign.Or)) (Both form) (BothFails form fails) (λ before. BothFails form fails) (follows_reached profile text (Operator sign.Or)) (both_kept form kept) p reached (both_placed p reached) (λ before next came at. both_placed next at)

    brackets_placed : (p : Place) → IsReached profile text p → IsPlaced profile text (ThenFails (Either form) (EitherFails form fails) (λ cond. Misses (Operator sign.Close))) p
    brackets_placed p reached =
        then_placed profile text (Either form) (EitherFails form fails) (λ cond. Misses (Operator sign.Close)) p (either_kept form kept) reached (either_placed p reached) (λ cond mid next. misses_placed profile text (Operator sign.Close) mid next)

  pub deep_placed : (fails : Failing Place) (n begin : ℕ) (p : Place) → LeavesToken profile begin text → IsPlaced profile text fails p → IsPlaced profile text (DeepFails n begin fails) p
  deep_placed fails zero begin p of_begin inside left kind h = told_at profile text begin kinds.TooDeep left kind too_deep_small of_begin h
  deep_placed fails (suc n) begin p of_begin inside left kind h = inside left kind h

  pub closed_placed : (form : Form Place Cond) (fails : Failing Place) → IsKept profile text form → ((p : Place) → IsReached profile text p → IsPlaced profile text fails p) → (n begin : ℕ) (p : Place) → IsReached profile text p → LeavesToken profile begin text
      → IsPlaced profile text (ClosedFails n begin form fails) p
  closed_placed form fails kept each n begin p reached of_begin =
      deep_placed (ThenFails (Either form) (EitherFails form fails) (λ cond. Misses (Operator sign.Close))) n begin p of_begin (brackets_placed form fails kept each p reached)

  operand_placed : (n : ℕ) (inner : Form Place Cond) (fails : Failing Place) → IsKept profile text inner → ((p : Place) → IsReached profile text p → IsPlaced profile text fails p) → (at : ℕ) (token : Token) (p : Place) → IsReached profile text p
      → LeavesToken profile at text → IsPlaced profile text (OperandFailsFrom own dictionary n inner fails at token) p
  operand_placed n inner fails kept each at (Operator sign.Not) p reached of_at left kind h = deep_placed fails n at p of_at (each p reached) left kind h
  operand_placed n inner fails kept each at (Operator sign.Open) p reached of_at left kind h = closed_placed inner fails kept each n at p reached of_at left kind h
  operand_placed n inner fails kept each at (Operator sign.Reference) p reached of_at left kind h = referred_placed p reached left kind h
  operand_placed n inner fails kept each at (Word word) p reached of_at left kind h = word_placed (code_named word) word at p reached of_at left kind h
  operand_placed n inner fails kept each at (Quoted mark octets) p reached of_at left kind h = text_operand_placed own mark octets at p reached of_at left kind h
  operand_placed n inner fails kept each at t p reached of_at left kind h = told_at profile text at (unfit t) left kind (unfit_small t) of_at h

  pub within_placed : (n : ℕ) (p : Place) → IsReached profile text p → IsPlaced profile text (WithinFails own dictionary n) p
  within_placed zero p reached left kind h = absurd h
  within_placed (suc n) p reached left kind h =
      operand_placed n (Within own dictionary n) (WithinFails own dictionary n) (within_kept n) (within_placed n) (left_at p) (next_token p).0 (next_token p).1 (next_reached profile text p reached) (at_token profile text p reached) left kind h
