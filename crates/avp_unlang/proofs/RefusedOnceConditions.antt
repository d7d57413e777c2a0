-- Conditions are refused at most once, and not where they are read.
use Rattle.std.proofs.Common.{◌≡◌, inl, inr, ℕ, zero, suc, Bool, true, false, List, [], ◌∷◌, Option, Some, None, refl, sym, ap, subst, ◌∙◌}
use Rattle.std.specs.Option.{option_map}
use Rattle.avp_dict.specs.Dictionary.{Dictionary}
use Rattle.avp_dict.specs.Quotes.{double_quoted_octets, single_quoted_octets}
use Rattle.avp_dict.specs.Spellings.{is_barred}
use Rattle.avp_dict.specs.declared.value.quotes.QuoteMark.{QuoteMark}
use Rattle.avp_dict.specs.declared.value.quotes.QuoteMark.TheVariants.{Double, Single}
use Rattle.avp_forms.specs.declared.profiles.Profile.{Profile}
use Rattle.avp_forms.specs.declared.profiles.Profile.TheVariants.{Plain, Wider}
use Rattle.avp_forms.specs.declared.targets.Target.{Target}
use Rattle.avp_patterns.proofs.Refusals.{pattern_refused_once, refused_is_no_pattern}
use Rattle.avp_patterns.specs.Patterns.{IsPattern, Written as Pattern}
use Rattle.avp_unlang.specs.Between.{Follows}
use Rattle.avp_unlang.specs.Conditions.{Both, Closed, ComparandIs, ComparandOf, ComparedFrom, ComparedIs, Either, MatchedBy, MatchedOr, MeantFrom, MeantIs, Negated, OperandFrom, ReferredIs, RelatedAs, RelatedBy, RelatedToText, RightFrom, RightIs, TextBeside, TextBesideOctets, TextComparedFrom, TextMatched, TextOperand, TextRelated, TextRelatedFrom, TextsBy, Within, WordFrom, all_of, any_of, comparison_of, has_expansion, is_beside_texts, is_by_meaning, is_text, is_text_beside, matcher_in, meant_comparison, meant_literal, pattern_of, plain_literal, puts_in, reference_alone, relation_of, side_of, text_comparison, text_match}
use Rattle.avp_unlang.specs.Forms.{Form, Step, After, Chain, Gives, Then}
use Rattle.avp_unlang.specs.Parts.{group_in}
use Rattle.avp_unlang.specs.Places.{Place}
use Rattle.avp_unlang.specs.References.{ReadableIs, type_of}
use Rattle.avp_unlang.specs.RefusedConditions.{BothFails, ClosedFails, ComparandFails, ComparedFails, ComparedFailsFrom, EitherFails, IsPatternFault, MatchedFails, MatchedFailsOr, MeantFails, MeantFailsFrom, OperandFailsFrom, ReferredFails, RelatedFailsAs, RelatedFailsBy, RelatedToTextFails, RightFails, RightFailsFrom, TextBesideFails, TextComparedFails, TextMatchedFails, TextOperandFails, TextRelatedFails, TextRelatedFailsFrom, WithinFails, WordFailsFrom, comparand_refusal, meant_refusal, group_alone, unfit_meaning}
use Rattle.avp_unlang.specs.RefusedForms.{DeepFails, Failing, Misses, ThenFails, left_at, unfit}
use Rattle.avp_unlang.specs.RefusedPolicies.{without_place}
use Rattle.avp_unlang.specs.RefusedValues.{IsValueRefused, ReadableFails, expansion_kind, literal_refusal, plain_refusal, reference_refusal}
use Rattle.avp_unlang.specs.Tokens.{next_token}
use Rattle.avp_unlang.specs.Values.{literal}
use Rattle.avp_unlang.specs.Words.{code_named}
use Rattle.avp_unlang.specs.declared.codes.Code.{Code}
use Rattle.avp_unlang.specs.declared.faults.PolicyKind.{PolicyKind}
use Rattle.avp_unlang.specs.declared.faults.PolicyKind.TheVariants as kinds
use Rattle.avp_unlang.specs.declared.text.references.Reference.{Reference}
use Rattle.avp_unlang.specs.declared.text.tokens.Matcher.{Matcher}
use Rattle.avp_unlang.specs.declared.text.tokens.Sign.TheVariants as sign
use Rattle.avp_unlang.specs.declared.text.tokens.Token.{Token}
use Rattle.avp_unlang.specs.declared.text.tokens.Token.TheVariants.{Operator, Quoted, Word}
use Rattle.avp_unlang.specs.declared.text.values.Written.{Written}
use Rattle.avp_unlang.specs.declared.text.values.Written.TheVariants as written
use Rattle.avp_unlang.specs.declared.tree.Comparand.{Comparand}
use Rattle.avp_unlang.specs.declared.tree.Comparand.TheVariants.{Literal}
use Rattle.avp_unlang.specs.declared.tree.Cond.{Cond}
use Rattle.avp_unlang.specs.declared.tree.Cond.TheVariants.{Captured, Compare, CompareMeant, CompareTexts, Not}
use Rattle.avp_unlang.specs.declared.tree.MeantComparand.{MeantComparand}
use Rattle.avp_unlang.specs.declared.tree.Part.{Part}
use Rattle.avp_unlang.specs.declared.tree.Relation.{Relation}
use Rattle.avp_unlang.specs.declared.tree.TextSide.{TextSide}
use Rattle.avp_unlang.specs.declared.tree.TextSide.TheVariants as side
use Rattle.avp_unlang.proofs.ConditionsOne.{Closing, both_one, either_one, quoted_one, within_one}
use Rattle.avp_unlang.proofs.Determined.{IsOne, some_is}
use Rattle.avp_unlang.proofs.LinesOne.{follows_sure, readable_one}
use Rattle.avp_unlang.proofs.RefusedOnce.{AreSame, SettlesAt, StepsAt, chain_settles, then_settles}
use Rattle.avp_unlang.proofs.RefusedOnceParts.{alike_settles, at_once, follows_settles, if_once, literal_apart, made_settles, mapped, plain_apart, readable_apart, readable_settles, some_none, value_once}
use Rattle.avp_unlang.proofs.RefusedOnceTexts.{both_ways, quoted_apart, quoted_once}

-- what is given needs nothing more
pub gives_settles : {S A B : Type 0} (form : Form S A) (fails : Failing S) (of : A → B) (p : S) → SettlesAt form fails p → SettlesAt (Then form (λ x. Gives (of x))) fails p
gives_settles form fails of p at = record {
  apart = λ y rest left kind h f. at.apart h.0 h.1 left kind h.2 f;
  once = at.once;
}

-- a step after which a value is given
pub step_settles : {S A : Type 0} (step : Step S) (fails : Failing S) (x : A) (p : S) → StepsAt step fails p → SettlesAt (After step (Gives x)) fails p
step_settles step fails x p at = record {
  apart = λ y rest left kind h f. at.apart h.0 left kind h.1 f;
  once = at.once;
}

closing_settles : (cond : Cond) (p : Place) → SettlesAt (Closing cond) (Misses (Operator sign.Close)) p
closing_settles cond p = step_settles (Follows (Operator sign.Close)) (Misses (Operator sign.Close)) cond p (follows_settles (Operator sign.Close) p)

-- a sign of which no more may be nested
pub deep_settles : {A : Type 0} (form : Form Place A) (fails : Failing Place) (n begin : ℕ) (p : Place) → (n ≡ 0 → (x : A) (rest : Place) → form p x rest → ⊥) → SettlesAt form fails p
    → SettlesAt form (DeepFails n begin fails) p
deep_settles form fails zero begin p none at = record {
  apart = λ x rest left kind h f. none refl x rest h;
  once = at_once begin kinds.TooDeep;
}
deep_settles form fails (suc m) begin p none at = record { apart = at.apart; once = at.once }

pub both_settles : (form : Form Place Cond) (fails : Failing Place) → IsOne form → ((p : Place) → SettlesAt form fails p) → (p : Place) → SettlesAt (Both form) (BothFails form fails) p
both_settles form fails one each p =
    gives_settles (Chain (Follows (Operator sign.And)) form) (BothFails form fails) all_of p
    (chain_settles (Follows (Operator sign.And)) form fails (λ before. fails) (follows_sure (Operator sign.And)) one p (each p) (λ before next. each next))

pub either_settles : (form : Form Place Cond) (fails : Failing Place) → IsOne form → ((p : Place) → SettlesAt form fails p) → (p : Place) → SettlesAt (Either form) (EitherFails form fails) p
either_settles form fails one each p =
    gives_settles (Chain (Follows (Operator sign.Or)) (Both form)) (EitherFails form fails) any_of p
    (chain_settles (Follows (Operator sign.Or)) (Both form) (BothFails form fails) (λ before. BothFails form fails) (follows_sure (Operator sign.Or)) (both_one form one) p (both_settles form fails one each p)
    (λ before next. both_settles form fails one each next))

-- ---- signs inside others

no_chain : {S A : Type 0} (step : _) (form : Form S A) → ((p : S) (x : A) (r : S) → form p x r → ⊥) → (p : S) (xs : List A) (r : S) → Chain step form p xs r → ⊥
no_chain step form never p [] r h = h
no_chain step form never p (x ∷ xs) r h = never p x h.0 h.1

no_either : (form : Form Place Cond) → ((p : Place) (x : Cond) (r : Place) → form p x r → ⊥) → (p : Place) (x : Cond) (r : Place) → Either form p x r → ⊥
no_either form never p x r h =
    no_chain (Follows (Operator sign.Or)) (Both form) (λ q y s g. no_chain (Follows (Operator sign.And)) form never q g.0 g.1 g.2) p h.0 h.1 h.2

module _ (profile : Profile) (dictionary : Dictionary) where
  abbrev BracketsFail : ℕ → Failing Place
  BracketsFail n = ThenFails (Either (Within profile dictionary n)) (EitherFails (Within profile dictionary n) (WithinFails profile dictionary n)) (λ cond. Misses (Operator sign.Close))

  brackets_settle : (n : ℕ) → ((p : Place) → SettlesAt (Within profile dictionary n) (WithinFails profile dictionary n) p) → (p : Place) → SettlesAt (Closed (Within profile dictionary n)) (BracketsFail n) p
  brackets_settle n each p =
      let one = within_one profile dictionary n in
      then_settles (Either (Within profile dictionary n)) (EitherFails (Within profile dictionary n) (WithinFails profile dictionary n)) Closing (λ cond. Misses (Operator sign.Close)) p
      (either_one (Within profile dictionary n) one) (either_settles (Within profile dictionary n) (WithinFails profile dictionary n) one each p) (λ cond mid. closing_settles cond mid)

  no_within : (n : ℕ) → n ≡ 0 → (p : Place) (c : Cond) (rest : Place) → Within profile dictionary n p c rest → ⊥
  no_within n none p c rest h = subst (λ k. Within profile dictionary k p c rest) none h

  pub closed_settles : (n begin : ℕ) → ((p : Place) → SettlesAt (Within profile dictionary n) (WithinFails profile dictionary n) p) → (p : Place)
      → SettlesAt (Closed (Within profile dictionary n)) (ClosedFails n begin (Within profile dictionary n) (WithinFails profile dictionary n)) p
  closed_settles n begin each p =
      deep_settles (Closed (Within profile dictionary n)) (BracketsFail n) n begin p (λ none x rest h. no_either (Within profile dictionary n) (no_within n none) p h.0 h.1 h.2) (brackets_settle n each p)

  -- ---- comparisons

  comparand_apart : (target : Target) (w : Written) (x : Comparand) (name value left : ℕ) (kind : PolicyKind) → ComparandOf profile dictionary target w x
      → IsValueRefused (comparand_refusal profile dictionary target w) name value left kind → ⊥
  comparand_apart target (written.Literal v) x name value left kind h f = cc f.0
  comparand_apart target (written.Instance found) x name value left kind h f = cc f.0
  comparand_apart target (written.Double text) x name value left kind h f =
      let v = mapped profile dictionary Literal (plain_literal profile dictionary target text) x h in
      plain_apart profile dictionary (literal profile dictionary target) (literal_refusal profile dictionary target) (literal_apart profile dictionary target)
      (has_expansion false text) (expansion_kind dictionary target) (double_quoted_octets text) v.0 kind v.1 f.0

  comparand_settles : (target : Target) (name : ℕ) (p : Place) → SettlesAt (ComparandIs profile dictionary target) (ComparandFails profile dictionary target name) p
  comparand_settles target name p =
      let at = made_settles profile dictionary (ComparandOf profile dictionary target) (λ w. IsValueRefused (comparand_refusal profile dictionary target w) name (left_at p)) target name p
      (λ w x left kind h f. comparand_apart target w x name (left_at p) left kind h f) (λ w. value_once (comparand_refusal profile dictionary target w) name (left_at p)) in
      record { apart = at.apart; once = at.once }

  meant_apart : (target : Target) (text : List ℕ) (x : MeantComparand) (kind : PolicyKind) → meant_literal dictionary target text ≡ Some x → meant_refusal dictionary target text ≡ Some kind → ⊥
  unfolding meant_refusal
  meant_apart target text x kind h f = some_none kind None (subst (λ (o : Option MeantComparand). unfit_meaning (literal_refusal Wider dictionary target text) o ≡ Some kind) h f) refl

  meant_from_settles : (target : Target) (name value : ℕ) (token : Token) (p : Place) → SettlesAt (MeantFrom dictionary target token) (MeantFailsFrom dictionary target name value token) p
  meant_from_settles target name value (Word text) p = record {
    apart = λ x rest left kind h f. meant_apart target text x kind h.0 f.0;
    once = value_once (meant_refusal dictionary target text) name value;
  }
  meant_from_settles target name value (Quoted Single text) p = record {
    apart = λ x rest left kind h f. meant_apart target (single_quoted_octets text) x kind h.0 f.0;
    once = value_once (meant_refusal dictionary target (single_quoted_octets text)) name value;
  }
  meant_from_settles target name value (Quoted Double text) p = record {
    apart = λ x rest left kind h f.
        plain_apart profile dictionary (meant_literal dictionary target) (meant_refusal dictionary target) (meant_apart target) (has_expansion false text) (expansion_kind dictionary target) (double_quoted_octets text) x kind h.0 f.0;
    once = value_once (plain_refusal (meant_refusal dictionary target) dictionary target text) name value;
  }
  meant_from_settles target name value (Operator sign.Reference) p = record {
    apart = λ x rest left kind h f. (alike_settles Wider dictionary target.named.id p).apart h.0 rest left kind h.1 f;
    once = (alike_settles Wider dictionary target.named.id p).once;
  }
  meant_from_settles target name value token p = record {
    apart = λ x rest left kind h f. h;
    once = at_once value (unfit token);
  }

  meant_settles : (target : Target) (name : ℕ) (p : Place) → SettlesAt (MeantIs dictionary target) (MeantFails dictionary target name) p
  meant_settles target name p =
      let at = meant_from_settles target name (left_at p) (next_token p).0 (next_token p).1 in record { apart = at.apart; once = at.once }

  related_by_settles : (b : Bool) (found : Reference) (relation : Relation) (name : ℕ) (p : Place) → SettlesAt (RelatedBy b profile dictionary found relation) (RelatedFailsBy b profile dictionary found.target name) p
  related_by_settles true found relation name p =
      gives_settles (MeantIs dictionary found.target) (MeantFails dictionary found.target name) (λ x. CompareMeant (meant_comparison dictionary found relation x)) p (meant_settles found.target name p)
  related_by_settles false found relation name p =
      gives_settles (ComparandIs profile dictionary found.target) (ComparandFails profile dictionary found.target name) (λ x. Compare (comparison_of dictionary found relation x)) p (comparand_settles found.target name p)

  -- ---- comparisons with a pattern

  fault_apart : (w : Pattern) (kind : PolicyKind) → IsPattern w → IsPatternFault w kind → ⊥
  fault_apart w (kinds.Pattern fault) is f = refused_is_no_pattern w fault f.2 f.1 f.0 is
  fault_apart w _ is f = f

  fault_once : (w : Pattern) (kind more : PolicyKind) → IsPatternFault w kind → IsPatternFault w more → without_place kind ≡ without_place more
  fault_once w (kinds.Pattern fault) (kinds.Pattern other) f g = ap kinds.Pattern (pattern_refused_once w fault other f.2 f.1 f.0 g.2 g.1 g.0)
  fault_once w (kinds.Pattern fault) _ f g = absurd g
  fault_once w _ more f g = absurd f

  matched_settles : (found : Reference) (m : Matcher) (at : ℕ) (p : Place) → SettlesAt (MatchedBy dictionary found m) (MatchedFails m at) p
  matched_settles found m at p = record { apart = apart; once = once } where
    apart : (c : Cond) (rest : Place) (left : ℕ) (kind : PolicyKind) → MatchedBy dictionary found m p c rest → MatchedFails m at p left kind → ⊥
    apart c rest left kind h f = fault_apart (pattern_of m) kind h.0 f.1

    once : (left other : ℕ) (kind more : PolicyKind) → MatchedFails m at p left kind → MatchedFails m at p other more → AreSame left kind other more
    once left other kind more f g = (f.0 ∙ sym g.0, fault_once (pattern_of m) kind more f.1 g.1)

  -- ---- texts

  right_from_settles : (begin : ℕ) (token : Token) (p : Place) → SettlesAt (RightFrom dictionary token) (λ q. RightFailsFrom dictionary begin token) p
  right_from_settles begin (Word word) p = record { apart = λ x rest left kind h f. f; once = λ left other kind more f g. absurd f }
  right_from_settles begin (Quoted mark octets) p = record {
    apart = λ x rest left kind h f. quoted_apart dictionary mark octets x begin left kind h.0 f;
    once = quoted_once dictionary mark octets begin;
  }
  right_from_settles begin token p = record {
    apart = λ x rest left kind h f. h;
    once = at_once begin (unfit token);
  }

  right_settles : (p : Place) → SettlesAt (RightIs dictionary) (RightFails dictionary) p
  right_settles p = let at = right_from_settles (left_at p) (next_token p).0 (next_token p).1 in record { apart = at.apart; once = at.once }

  texts_settle : (left : TextSide) (relation : Relation) (p : Place) → SettlesAt (TextsBy dictionary left relation) (RightFails dictionary) p
  texts_settle left relation p = gives_settles (RightIs dictionary) (RightFails dictionary) (λ right. CompareTexts (text_comparison left relation right)) p (right_settles p)

  octets_settle : (found : Reference) (relation : Relation) (p : Place) → SettlesAt (TextBesideOctets dictionary found relation) (TextBesideFails dictionary found None) p
  octets_settle found relation p = record { apart = apart; once = once } where
    texts : SettlesAt (TextsBy dictionary (side_of dictionary found) relation) (RightFails dictionary) p
    texts = texts_settle (side_of dictionary found) relation p

    apart : (c : Cond) (rest : Place) (left : ℕ) (kind : PolicyKind) → TextBesideOctets dictionary found relation p c rest → TextBesideFails dictionary found None p left kind → ⊥
    apart c rest left kind h (inl f) = texts.apart c rest left kind h.1 f.1
    apart c rest left kind h (inr f) = both_ways (is_beside_texts dictionary found.target.named.id) h.0 f.0

    once : (left other : ℕ) (kind more : PolicyKind) → TextBesideFails dictionary found None p left kind → TextBesideFails dictionary found None p other more → AreSame left kind other more
    once left other kind more (inl f) (inl g) = texts.once left other kind more f.1 g.1
    once left other kind more (inl f) (inr g) = absurd (both_ways (is_beside_texts dictionary found.target.named.id) f.0 g.0)
    once left other kind more (inr f) (inl g) = absurd (both_ways (is_beside_texts dictionary found.target.named.id) g.0 f.0)
    once left other kind more (inr f) (inr g) = at_once (left_at p) kinds.OtherType left other kind more f.1 g.1

  beside_settles : (found : Reference) (relation : Relation) (o : Option Reference) (p : Place) → SettlesAt (TextBeside dictionary found relation o) (TextBesideFails dictionary found o) p
  beside_settles found relation None p = let at = octets_settle found relation p in record { apart = at.apart; once = at.once }
  beside_settles found relation (Some other) p = record { apart = apart; once = λ left also kind more f g. (octets_settle found relation p).once left also kind more f.1 g.1 } where
    apart : (c : Cond) (rest : Place) (left : ℕ) (kind : PolicyKind) → TextBeside dictionary found relation (Some other) p c rest → TextBesideFails dictionary found (Some other) p left kind → ⊥
    apart c rest left kind (inl h) f = f.0 h.0
    apart c rest left kind (inr h) f = (octets_settle found relation p).apart c rest left kind h.1 f.1

  to_text_settles : (found : Reference) (relation : Relation) (name : ℕ) (p : Place) → SettlesAt (RelatedToText dictionary found relation) (RelatedToTextFails dictionary found name) p
  to_text_settles found relation name p = record { apart = apart; once = once } where
    beside : SettlesAt (TextBeside dictionary found relation (reference_alone dictionary (next_token p).0)) (TextBesideFails dictionary found (reference_alone dictionary (next_token p).0)) p
    beside = beside_settles found relation (reference_alone dictionary (next_token p).0) p

    apart : (c : Cond) (rest : Place) (left : ℕ) (kind : PolicyKind) → RelatedToText dictionary found relation p c rest → RelatedToTextFails dictionary found name p left kind → ⊥
    apart c rest left kind h (inl f) = both_ways (is_barred found.target.named dictionary) f.0 h.0
    apart c rest left kind h (inr f) = beside.apart c rest left kind h.1 f.1

    once : (left other : ℕ) (kind more : PolicyKind) → RelatedToTextFails dictionary found name p left kind → RelatedToTextFails dictionary found name p other more → AreSame left kind other more
    once left other kind more (inl f) (inl g) = at_once name kinds.NotWritable left other kind more f.1 g.1
    once left other kind more (inl f) (inr g) = absurd (both_ways (is_barred found.target.named dictionary) f.0 g.0)
    once left other kind more (inr f) (inl g) = absurd (both_ways (is_barred found.target.named dictionary) g.0 f.0)
    once left other kind more (inr f) (inr g) = beside.once left other kind more f.1 g.1

  related_as_settles : (b : Bool) (found : Reference) (relation : Relation) (name : ℕ) (p : Place) → SettlesAt (RelatedAs b profile dictionary found relation) (RelatedFailsAs b profile dictionary found name) p
  related_as_settles true found relation name p = let at = to_text_settles found relation name p in record { apart = at.apart; once = at.once }
  related_as_settles false found relation name p =
      let at = related_by_settles (is_by_meaning profile (type_of dictionary found.target.named.id)) found relation name p in record { apart = at.apart; once = at.once }

no_group : {A B : Type 0} (f : A → B) (o : Option A) (y : B) → o ≡ None → option_map f o ≡ Some y → ⊥
no_group f o y none e = cc

module _ (profile : Profile) (dictionary : Dictionary) where
  -- ---- texts on the left

  text_related_from_settles : (alone : Option Reference) (b : Bool) (parts : List Part) (relation : Relation) (begin : ℕ) (p : Place)
      → SettlesAt (TextRelatedFrom dictionary alone b parts relation) (TextRelatedFailsFrom dictionary alone b begin) p
  text_related_from_settles None b parts relation begin p = let at = texts_settle profile dictionary (side.Text parts) relation p in record { apart = at.apart; once = at.once }
  text_related_from_settles (Some found) true parts relation begin p = let at = texts_settle profile dictionary (side.Text parts) relation p in record { apart = at.apart; once = at.once }
  text_related_from_settles (Some found) false parts relation begin p =
      let at = related_by_settles Wider dictionary (is_by_meaning Wider (type_of dictionary found.target.named.id)) found relation begin p in record { apart = at.apart; once = at.once }

  text_related_settles : (alone : Option Reference) (parts : List Part) (relation : Relation) (begin : ℕ) (p : Place) → SettlesAt (TextRelated dictionary alone parts relation) (TextRelatedFails dictionary alone begin) p
  text_related_settles alone parts relation begin p = record { apart = apart; once = once } where
    inside : SettlesAt (TextRelatedFrom dictionary alone (puts_in (next_token p).0) parts relation) (TextRelatedFailsFrom dictionary alone (puts_in (next_token p).0) begin) p
    inside = text_related_from_settles alone (puts_in (next_token p).0) parts relation begin p

    apart : (c : Cond) (rest : Place) (left : ℕ) (kind : PolicyKind) → TextRelated dictionary alone parts relation p c rest → TextRelatedFails dictionary alone begin p left kind → ⊥
    apart c rest left kind h (inl f) = both_ways (is_text (next_token p).0) h.0 f.0
    apart c rest left kind h (inr f) = inside.apart c rest left kind h.1 f.1

    once : (left other : ℕ) (kind more : PolicyKind) → TextRelatedFails dictionary alone begin p left kind → TextRelatedFails dictionary alone begin p other more → AreSame left kind other more
    once left other kind more (inl f) (inl g) = at_once (left_at p) (unfit (next_token p).0) left other kind more f.1 g.1
    once left other kind more (inl f) (inr g) = absurd (both_ways (is_text (next_token p).0) g.0 f.0)
    once left other kind more (inr f) (inl g) = absurd (both_ways (is_text (next_token p).0) f.0 g.0)
    once left other kind more (inr f) (inr g) = inside.once left other kind more f.1 g.1

  text_matched_settles : (m : Matcher) (at : ℕ) (parts : List Part) (p : Place) → SettlesAt (TextMatched m parts) (TextMatchedFails m at parts) p
  text_matched_settles m at parts p = record { apart = apart; once = once } where
    apart : (c : Cond) (rest : Place) (left : ℕ) (kind : PolicyKind) → TextMatched m parts p c rest → TextMatchedFails m at parts p left kind → ⊥
    apart c rest left kind h (inl f) = some_none c (text_match m parts) h.1.0 f.0
    apart c rest left kind h (inr f) = fault_apart profile dictionary (pattern_of m) kind h.0 f.2

    once : (left other : ℕ) (kind more : PolicyKind) → TextMatchedFails m at parts p left kind → TextMatchedFails m at parts p other more → AreSame left kind other more
    once left other kind more (inl f) (inl g) = at_once at kinds.NotExpansion left other kind more f.1 g.1
    once left other kind more (inl f) (inr g) = absurd (g.0 f.0)
    once left other kind more (inr f) (inl g) = absurd (f.0 g.0)
    once left other kind more (inr f) (inr g) = (f.1 ∙ sym g.1, fault_once profile dictionary (pattern_of m) kind more f.2 g.2)

  text_before_pattern : (mark : QuoteMark) (octets : List ℕ) (begin at : ℕ) (m : Matcher) (r : Option Relation) (token : Token) (before p : Place)
      → SettlesAt (TextComparedFrom dictionary mark octets (Some m) r before) (TextComparedFails dictionary mark octets begin at (Some m) r token) p
  text_before_pattern mark octets begin at m r token before p = record { apart = apart; once = once } where
    apart : (c : Cond) (rest : Place) (left : ℕ) (kind : PolicyKind) → TextComparedFrom dictionary mark octets (Some m) r before p c rest → TextComparedFails dictionary mark octets begin at (Some m) r token p left kind → ⊥
    apart c rest left kind h (inl f) = quoted_apart dictionary mark octets h.0 begin left kind h.1 f
    apart c rest left kind h (inr f) =
        (text_matched_settles m at f.0 p).apart c rest left kind (subst (λ parts. TextMatched m parts p c rest) (quoted_one profile dictionary mark octets h.0 f.0 h.1 f.1) h.2) f.2

    once : (left other : ℕ) (kind more : PolicyKind) → TextComparedFails dictionary mark octets begin at (Some m) r token p left kind → TextComparedFails dictionary mark octets begin at (Some m) r token p other more → AreSame left kind other more
    once left other kind more (inl f) (inl g) = quoted_once dictionary mark octets begin left other kind more f g
    once left other kind more (inl f) (inr g) = absurd (quoted_apart dictionary mark octets g.0 begin left kind g.1 f)
    once left other kind more (inr f) (inl g) = absurd (quoted_apart dictionary mark octets f.0 begin other more f.1 g)
    once left other kind more (inr f) (inr g) =
        (text_matched_settles m at g.0 p).once left other kind more (subst (λ parts. TextMatchedFails m at parts p left kind) (quoted_one profile dictionary mark octets f.0 g.0 f.1 g.1) f.2) g.2

  text_before_relation : (mark : QuoteMark) (octets : List ℕ) (begin at : ℕ) (relation : Relation) (token : Token) (before p : Place)
      → SettlesAt (TextComparedFrom dictionary mark octets None (Some relation) before) (TextComparedFails dictionary mark octets begin at None (Some relation) token) p
  text_before_relation mark octets begin at relation token before p = record { apart = apart; once = once } where
    apart : (c : Cond) (rest : Place) (left : ℕ) (kind : PolicyKind) → TextComparedFrom dictionary mark octets None (Some relation) before p c rest → TextComparedFails dictionary mark octets begin at None (Some relation) token p left kind → ⊥
    apart c rest left kind h (inl f) = quoted_apart dictionary mark octets h.0 begin left kind h.1 f
    apart c rest left kind h (inr f) = (text_related_settles (reference_alone dictionary (Quoted mark octets)) h.0 relation begin p).apart c rest left kind h.2 f.2

    once : (left other : ℕ) (kind more : PolicyKind) → TextComparedFails dictionary mark octets begin at None (Some relation) token p left kind → TextComparedFails dictionary mark octets begin at None (Some relation) token p other more → AreSame left kind other more
    once left other kind more (inl f) (inl g) = quoted_once dictionary mark octets begin left other kind more f g
    once left other kind more (inl f) (inr g) = absurd (quoted_apart dictionary mark octets g.0 begin left kind g.1 f)
    once left other kind more (inr f) (inl g) = absurd (quoted_apart dictionary mark octets f.0 begin other more f.1 g)
    once left other kind more (inr f) (inr g) = (text_related_settles (reference_alone dictionary (Quoted mark octets)) f.0 relation begin p).once left other kind more f.2 g.2

  group_apart : (mark : QuoteMark) (octets : List ℕ) (before p : Place) (c : Cond) (rest : Place) → TextComparedFrom dictionary mark octets None None before p c rest → group_alone mark octets ≡ None → ⊥
  group_apart Double octets before p c rest h none = no_group Captured (group_in Wider octets) c none h.0
  group_apart Single octets before p c rest h none = h

  text_by_itself : (mark : QuoteMark) (octets : List ℕ) (begin at : ℕ) (token : Token) (before p : Place)
      → SettlesAt (TextComparedFrom dictionary mark octets None None before) (TextComparedFails dictionary mark octets begin at None None token) p
  text_by_itself mark octets begin at token before p = record { apart = λ c rest left kind h f. group_apart mark octets before p c rest h f.0; once = once } where
    once : (left other : ℕ) (kind more : PolicyKind) → TextComparedFails dictionary mark octets begin at None None token p left kind → TextComparedFails dictionary mark octets begin at None None token p other more → AreSame left kind other more
    once left other kind more (none, inl f) (also, inl g) = quoted_once dictionary mark octets begin left other kind more f g
    once left other kind more (none, inl f) (also, inr g) = absurd (quoted_apart dictionary mark octets g.0 begin left kind g.1 f)
    once left other kind more (none, inr f) (also, inl g) = absurd (quoted_apart dictionary mark octets f.0 begin other more f.1 g)
    once left other kind more (none, inr f) (also, inr g) = at_once at (unfit token) left other kind more f.2 g.2

  text_from_settles : (mark : QuoteMark) (octets : List ℕ) (begin at : ℕ) (o : Option Matcher) (r : Option Relation) (token : Token) (before p : Place)
      → SettlesAt (TextComparedFrom dictionary mark octets o r before) (TextComparedFails dictionary mark octets begin at o r token) p
  text_from_settles mark octets begin at (Some m) r token before p = text_before_pattern mark octets begin at m r token before p
  text_from_settles mark octets begin at None (Some relation) token before p = text_before_relation mark octets begin at relation token before p
  text_from_settles mark octets begin at None None token before p = text_by_itself mark octets begin at token before p

  text_operand_settles : (q : Profile) (mark : QuoteMark) (octets : List ℕ) (begin : ℕ) (p : Place) → SettlesAt (TextOperand q dictionary mark octets) (TextOperandFails q dictionary mark octets begin) p
  text_operand_settles Plain mark octets begin p = record { apart = λ c rest left kind h f. h; once = at_once begin kinds.Misplaced }
  text_operand_settles Wider mark octets begin p =
      let all = text_from_settles mark octets begin (left_at p) (matcher_in Wider (next_token p).0) (relation_of (next_token p).0) (next_token p).0 p (next_token p).1 in
      record { apart = all.apart; once = all.once }

  -- ---- references

  compared_from_settles : (found : Reference) (name : ℕ) (o : Option Relation) (before p : Place) → SettlesAt (ComparedFrom profile dictionary found o before) (ComparedFailsFrom profile dictionary found name o) p
  compared_from_settles found name None before p = record { apart = λ c rest left kind h f. f; once = λ left other kind more f g. absurd f }
  compared_from_settles found name (Some relation) before p =
      let at = related_as_settles profile dictionary (is_text_beside profile (next_token p).0) found relation name p in record { apart = at.apart; once = at.once }

  matched_or_settles : (found : Reference) (name at : ℕ) (o : Option Matcher) (before : Place) (token : Token) (p : Place)
      → SettlesAt (λ q. MatchedOr profile dictionary found o before (token, q)) (MatchedFailsOr profile dictionary found name at o token) p
  matched_or_settles found name at None before token p = let all = compared_from_settles found name (relation_of token) before p in record { apart = all.apart; once = all.once }
  matched_or_settles found name at (Some m) before token p = let all = matched_settles profile dictionary found m at p in record { apart = all.apart; once = all.once }

  compared_settles : (found : Reference) (name : ℕ) (p : Place) → SettlesAt (ComparedIs profile dictionary found) (ComparedFails profile dictionary found name) p
  compared_settles found name p =
      let at = matched_or_settles found name (left_at p) (matcher_in profile (next_token p).0) p (next_token p).0 (next_token p).1 in record { apart = at.apart; once = at.once }

  referred_settles : (p : Place) → SettlesAt (ReferredIs profile dictionary) (ReferredFails profile dictionary) p
  referred_settles p =
      let at = then_settles (ReadableIs profile dictionary) (ReadableFails profile dictionary) (ComparedIs profile dictionary) (λ found. ComparedFails profile dictionary found (left_at p)) p
      (readable_one profile dictionary) (readable_settles profile dictionary p) (λ found mid. compared_settles found (left_at p) mid) in
      record { apart = at.apart; once = at.once }

  word_settles : (o : Option Code) (word : List ℕ) (name : ℕ) (p : Place) → SettlesAt (WordFrom profile dictionary o word) (WordFailsFrom profile dictionary o word name) p
  word_settles (Some code) word name p = record { apart = λ c rest left kind h f. f; once = λ left other kind more f g. absurd f }
  word_settles None word name p = record { apart = apart; once = once } where
    apart : (c : Cond) (rest : Place) (left : ℕ) (kind : PolicyKind) → WordFrom profile dictionary None word p c rest → WordFailsFrom profile dictionary None word name p left kind → ⊥
    apart c rest left kind h (inl f) = readable_apart profile dictionary word h.0 kind h.1 f.1
    apart c rest left kind h (inr f) = (compared_settles f.0 name p).apart c rest left kind (subst (λ (n : Reference). ComparedIs profile dictionary n p c rest) (some_is h.0 f.0 (sym h.1 ∙ f.1)) h.2) f.2

    once : (left other : ℕ) (kind more : PolicyKind) → WordFailsFrom profile dictionary None word name p left kind → WordFailsFrom profile dictionary None word name p other more → AreSame left kind other more
    once left other kind more (inl f) (inl g) = if_once name (reference_refusal profile dictionary word) left other kind more f g
    once left other kind more (inl f) (inr g) = absurd (readable_apart profile dictionary word g.0 kind g.1 f.1)
    once left other kind more (inr f) (inl g) = absurd (readable_apart profile dictionary word f.0 more f.1 g.1)
    once left other kind more (inr f) (inr g) =
        (compared_settles g.0 name p).once left other kind more (subst (λ (n : Reference). ComparedFails profile dictionary n name p left kind) (some_is f.0 g.0 (sym f.1 ∙ g.1)) f.2) g.2

  -- ---- operands

  module _ (n : ℕ) (each : (p : Place) → SettlesAt (Within profile dictionary n) (WithinFails profile dictionary n) p) where
    negated_settles : (begin : ℕ) (p : Place) → SettlesAt (Negated (Within profile dictionary n)) (DeepFails n begin (WithinFails profile dictionary n)) p
    negated_settles begin p =
        gives_settles (Within profile dictionary n) (DeepFails n begin (WithinFails profile dictionary n)) Not p
        (deep_settles (Within profile dictionary n) (WithinFails profile dictionary n) n begin p (λ none x rest h. no_within profile dictionary n none p x rest h) (each p))

    from_settles : (at : ℕ) (token : Token) (p : Place) → SettlesAt (OperandFrom profile dictionary (Within profile dictionary n) token) (OperandFailsFrom profile dictionary n (Within profile dictionary n) (WithinFails profile dictionary n) at token) p
    from_settles at (Operator sign.Not) p = let all = negated_settles at p in record { apart = all.apart; once = all.once }
    from_settles at (Operator sign.Open) p = let all = closed_settles profile dictionary n at each p in record { apart = all.apart; once = all.once }
    from_settles at (Operator sign.Reference) p = let all = referred_settles p in record { apart = all.apart; once = all.once }
    from_settles at (Word word) p = let all = word_settles (code_named word) word at p in record { apart = all.apart; once = all.once }
    from_settles at (Quoted mark text) p = let all = text_operand_settles profile mark text at p in record { apart = all.apart; once = all.once }
    from_settles at token p = record {
      apart = λ c rest left kind h f. h;
      once = at_once at (unfit token);
    }

  pub within_settles : (n : ℕ) (p : Place) → SettlesAt (Within profile dictionary n) (WithinFails profile dictionary n) p
  within_settles zero p = record { apart = λ c rest left kind h f. h; once = λ left other kind more f g. absurd f }
  within_settles (suc n) p = let all = from_settles n (within_settles n) (left_at p) (next_token p).0 (next_token p).1 in record { apart = all.apart; once = all.once }
