-- A place spells at most one condition, and how refusals inside one are refusals of it.
use Rattle.std.proofs.Common.{◌≡◌, inl, inr, ℕ, zero, suc, Bool, true, false, List, ap, Option, Some, None, Result, refl, sym, subst, ◌∙◌}
use Rattle.std.specs.Option.{option_and_then, option_map}
use Rattle.avp_dict.specs.Dictionary.{Dictionary}
use Rattle.avp_dict.specs.declared.value.quotes.QuoteMark.{QuoteMark}
use Rattle.avp_dict.specs.declared.value.quotes.QuoteMark.TheVariants.{Double, Single}
use Rattle.avp_dict.specs.Quotes.{single_quoted_octets}
use Rattle.avp_forms.specs.declared.profiles.Profile.TheVariants.{Plain, Wider}
use Rattle.avp_forms.specs.declared.targets.Target.{Target}
use Rattle.avp_forms.specs.declared.profiles.Profile.{Profile}
use Rattle.avp_unlang.specs.declared.codes.Code.{Code}
use Rattle.avp_unlang.specs.declared.faults.Refusal.{Refusal}
use Rattle.avp_unlang.specs.declared.text.references.Reference.{Reference}
use Rattle.avp_unlang.specs.declared.text.tokens.Matcher.{Matcher}
use Rattle.avp_unlang.specs.declared.text.tokens.Sign.TheVariants as sign
use Rattle.avp_unlang.specs.declared.text.tokens.Token.{Token}
use Rattle.avp_unlang.specs.declared.text.tokens.Token.TheVariants.{Operator, Quoted, Word}
use Rattle.avp_unlang.specs.declared.text.values.Written.{Written}
use Rattle.avp_unlang.specs.declared.text.values.Written.TheVariants as written
use Rattle.avp_unlang.specs.declared.tree.Comparand.{Comparand}
use Rattle.avp_unlang.specs.declared.tree.Comparand.TheVariants.{Literal}
use Rattle.avp_unlang.specs.declared.tree.Cond.{Cond}
use Rattle.avp_unlang.specs.declared.tree.Cond.TheVariants.{Not, Last, Compare, CompareMeant, CompareTexts, Match, Captured}
use Rattle.avp_unlang.specs.declared.tree.MeantComparand.{MeantComparand}
use Rattle.avp_unlang.specs.declared.tree.Part.{Part}
use Rattle.avp_unlang.specs.declared.tree.Relation.{Relation}
use Rattle.avp_unlang.specs.declared.tree.TextSide.{TextSide}
use Rattle.avp_unlang.specs.declared.tree.TextSide.TheVariants as side
use Rattle.avp_unlang.specs.Conditions.{relation_of, plain_literal, plain_octets, plain_parts, puts_in, reference_alone, side_of, text_comparison, text_match, is_text_beside, QuotedParts, RelatedAs, RightFrom, RightIs, TextBeside, TextComparedFrom, TextOperand, TextRelated, TextRelatedFrom, TextsBy, ValueRelated, ComparandOf, ComparandIs, comparison_of, ComparedBy, ComparedFrom, ComparedIs, MatchedBy, MatchedOr, MeantBy, MeantFrom, MeantIs, RelatedBy, RelatedIs, WordFrom, instance_compared, is_by_meaning, matcher_in, matching_of, meant_comparison, meant_literal, present_of, any_of, all_of, Both, Either, Negated, Closed, OperandFrom, OperandIs, Within}
use Rattle.avp_unlang.specs.Forms.{Form, After, Becomes, Chain, Gives, Refuses, Reads}
use Rattle.avp_unlang.specs.Parts.{group_in}
use Rattle.avp_unlang.specs.Places.{Place}
use Rattle.avp_unlang.specs.References.{AlikeIs, ReadableIs, type_of}
use Rattle.avp_unlang.specs.Between.{Follows}
use Rattle.avp_unlang.specs.Tokens.{next_token}
use Rattle.avp_unlang.specs.Words.{code_named}
use Rattle.avp_unlang.proofs.Chains.{chain_one}
use Rattle.avp_unlang.proofs.Determined.{IsOne, some_is, becomes_one, gives_one, after_one, then_one, then_stops, then_on, after_stops}
use Rattle.avp_unlang.proofs.LinesOne.{alike_one, follows_sure, made_one, readable_one}
use Rattle.avp_unlang.proofs.PartsOne.{parts_one}

-- ---- operands with a sign between them

pub both_one : (form : Form Place Cond) → IsOne form → IsOne (Both form)
both_one form one =
    then_one (Chain (Follows (Operator sign.And)) form) (λ cs. Gives (all_of cs)) (chain_one (Follows (Operator sign.And)) form (follows_sure (Operator sign.And)) one) (λ cs. gives_one (all_of cs))

pub either_one : (form : Form Place Cond) → IsOne form → IsOne (Either form)
either_one form one =
    then_one (Chain (Follows (Operator sign.Or)) (Both form)) (λ cs. Gives (any_of cs)) (chain_one (Follows (Operator sign.Or)) (Both form) (follows_sure (Operator sign.Or)) (both_one form one)) (λ cs. gives_one (any_of cs))

pub negated_one : (form : Form Place Cond) → IsOne form → IsOne (Negated form)
negated_one form one = then_one form (λ c. Gives (Not c)) one (λ c. gives_one (Not c))

abbrev pub Closing : Cond → Form Place Cond
Closing c = After (Follows (Operator sign.Close)) (Gives c)

pub closing_one : (c : Cond) → IsOne (Closing c)
closing_one c = after_one (Follows (Operator sign.Close)) (Gives c) (follows_sure (Operator sign.Close)) (gives_one c)

pub closed_one : (form : Form Place Cond) → IsOne form → IsOne (Closed form)
closed_one form one = then_one (Either form) Closing (either_one form one) closing_one

module _ (profile : Profile) (dictionary : Dictionary) where
  -- ---- comparisons

  comparand_of_one : (name : Target) (w : Written) (x y : Comparand) → ComparandOf profile dictionary name w x → ComparandOf profile dictionary name w y → x ≡ y
  comparand_of_one name (written.Literal value) x y h g = h ∙ sym g
  comparand_of_one name (written.Double text) x y h g = some_is x y (sym h ∙ g)
  comparand_of_one name (written.Instance found) x y h g = h ∙ sym g

  comparand_one : (name : Target) → IsOne (ComparandIs profile dictionary name)
  comparand_one name = made_one profile dictionary name (ComparandOf profile dictionary name) (comparand_of_one name)

  none_mapped : {A B : Type 0} (f : A → B) (o : Option A) (y : B) → o ≡ None → option_map f o ≡ Some y → ⊥
  none_mapped f o y none e = cc

  -- a refusal of a text between double quotes
  pub plain_refused : (name : Target) (w : Written) (text : List ℕ) → w ≡ written.Double text → plain_literal profile dictionary name text ≡ None → (x : Comparand) → ComparandOf profile dictionary name w x → ⊥
  plain_refused name w text is none x h = none_mapped Literal (plain_literal profile dictionary name text) x none (subst (λ (k : Written). ComparandOf profile dictionary name k x) is h)

  abbrev pub Compared : Reference → Relation → Comparand → Form Place Cond
  Compared found relation c = Gives (Compare (comparison_of dictionary found relation c))

  compared_by_one : (found : Reference) (relation : Relation) → IsOne (ComparedBy profile dictionary found relation)
  compared_by_one found relation =
      then_one (ComparandIs profile dictionary found.target) (Compared found relation) (comparand_one found.target) (λ c. gives_one (Compare (comparison_of dictionary found relation c)))

  -- ---- comparisons by meaning

  meant_from_one : (name : Target) (token : Token) → IsOne (MeantFrom dictionary name token)
  meant_from_one name (Word text) p x y r s h g = becomes_one (meant_literal dictionary name text) p x y r s h g
  meant_from_one name (Quoted Single text) p x y r s h g = becomes_one (meant_literal dictionary name (single_quoted_octets text)) p x y r s h g
  meant_from_one name (Quoted Double text) p x y r s h g = becomes_one (option_and_then (meant_literal dictionary name) (plain_octets text)) p x y r s h g
  meant_from_one name (Operator sign.Reference) p x y r s h g =
      let at = alike_one Wider dictionary name.named.id p h.0 g.0 r s h.1 g.1 in
      (h.2 ∙ ap (λ (n : Reference). instance_compared dictionary n) at.0 ∙ sym g.2, at.1)
  meant_from_one name _ p x y r s h g = absurd h

  meant_one : (name : Target) → IsOne (MeantIs dictionary name)
  meant_one name p x y r s h g = meant_from_one name (next_token p).0 (next_token p).1 x y r s h g

  -- a refusal of the reference after an `&`
  pub meant_refused : (name : Target) (p : Place) (q : Token × Place) (e : Refusal) → q ≡ next_token p → q.0 ≡ Operator sign.Reference
      → Refuses (AlikeIs Wider dictionary name.named.id q.1) e → Refuses (MeantIs dictionary name p) e
  meant_refused name p q e is first refused =
      let at : Refuses (MeantFrom dictionary name (Operator sign.Reference) q.1) e = λ some x rest h. refused some h.0 rest h.1 in
      subst (λ (k : Token × Place). Refuses (MeantFrom dictionary name k.0 k.1) e) is (subst (λ k. Refuses (MeantFrom dictionary name k q.1) e) (sym first) at)

  abbrev pub Meant : Reference → Relation → MeantComparand → Form Place Cond
  Meant found relation c = Gives (CompareMeant (meant_comparison dictionary found relation c))

  meant_by_one : (found : Reference) (relation : Relation) → IsOne (MeantBy dictionary found relation)
  meant_by_one found relation =
      then_one (MeantIs dictionary found.target) (Meant found relation) (meant_one found.target) (λ c. gives_one (CompareMeant (meant_comparison dictionary found relation c)))

  related_one : (b : Bool) (found : Reference) (relation : Relation) → IsOne (RelatedBy b profile dictionary found relation)
  related_one true found relation p x y r s h g = meant_by_one found relation p x y r s h g
  related_one false found relation p x y r s h g = compared_by_one found relation p x y r s h g

  -- a comparison with a value, of the one kind or the other
  pub related_reads : (found : Reference) (relation : Relation) (p : Place) (b : Bool) → b ≡ is_by_meaning profile (type_of dictionary found.target.named.id) → (r : Result (Cond × Place) Refusal)
      → Reads (RelatedBy b profile dictionary found relation p) r → Reads (ValueRelated profile dictionary found relation p) r
  related_reads found relation p b by r reads = subst (λ k. Reads (RelatedBy k profile dictionary found relation p) r) by reads

  -- ---- texts

  pub quoted_one : (mark : QuoteMark) (octets : List ℕ) (xs ys : List Part) → QuotedParts dictionary mark octets xs → QuotedParts dictionary mark octets ys → xs ≡ ys
  quoted_one Double octets xs ys h g = parts_one Wider dictionary octets xs ys h g
  quoted_one Single octets xs ys h g = h ∙ sym g

  right_from_one : (token : Token) → IsOne (RightFrom dictionary token)
  right_from_one (Word word) p x y r s h g = gives_one (plain_parts word) p x y r s h g
  right_from_one (Quoted mark octets) p x y r s h g = (quoted_one mark octets x y h.0 g.0, h.1 ∙ sym g.1)
  right_from_one _ p x y r s h g = absurd h

  right_one : IsOne (RightIs dictionary)
  right_one p x y r s h g = right_from_one (next_token p).0 (next_token p).1 x y r s h g

  texts_one : (left : TextSide) (relation : Relation) → IsOne (TextsBy dictionary left relation)
  texts_one left relation =
      then_one (RightIs dictionary) (λ right. Gives (CompareTexts (text_comparison left relation right))) right_one (λ right. gives_one (CompareTexts (text_comparison left relation right)))

  beside_one : (found : Reference) (relation : Relation) (o : Option Reference) → IsOne (TextBeside dictionary found relation o)
  beside_one found relation None p x y r s h g = texts_one (side_of dictionary found) relation p x y r s h.1 g.1
  beside_one found relation (Some other) p x y r s (inl h) (inl g) = (h.1 ∙ sym g.1, h.2 ∙ sym g.2)
  beside_one found relation (Some other) p x y r s (inl h) (inr g) = absurd (g.0 h.0)
  beside_one found relation (Some other) p x y r s (inr h) (inl g) = absurd (h.0 g.0)
  beside_one found relation (Some other) p x y r s (inr h) (inr g) = texts_one (side_of dictionary found) relation p x y r s h.1.1 g.1.1

  related_as_one : (b : Bool) (found : Reference) (relation : Relation) → IsOne (RelatedAs b profile dictionary found relation)
  related_as_one true found relation p x y r s h g = beside_one found relation (reference_alone dictionary (next_token p).0) p x y r s h.1 g.1
  related_as_one false found relation p x y r s h g = related_one (is_by_meaning profile (type_of dictionary found.target.named.id)) found relation p x y r s h g

  -- a text that puts something in, or a value
  pub related_as_reads : (found : Reference) (relation : Relation) (p : Place) (b : Bool) → b ≡ is_text_beside profile (next_token p).0 → (r : Result (Cond × Place) Refusal)
      → Reads (RelatedAs b profile dictionary found relation p) r → Reads (RelatedIs profile dictionary found relation p) r
  related_as_reads found relation p b by r reads = subst (λ k. Reads (RelatedAs k profile dictionary found relation p) r) by reads

module _ (profile : Profile) (dictionary : Dictionary) where
  -- ---- references

  compared_from_one : (found : Reference) (o : Option Relation) (p : Place) → IsOne (ComparedFrom profile dictionary found o p)
  compared_from_one found None p after x y r s h g = gives_one (present_of dictionary found found.target.tag) p x y r s h g
  compared_from_one found (Some relation) p after x y r s h g =
      related_as_one profile dictionary (is_text_beside profile (next_token after).0) found relation after x y r s h g

  matched_or_one : (found : Reference) (o : Option Matcher) (p : Place) (next : Token × Place) (x y : Cond) (r s : Place)
      → MatchedOr profile dictionary found o p next x r → MatchedOr profile dictionary found o p next y s → (x ≡ y) × (r ≡ s)
  matched_or_one found None p next x y r s h g = compared_from_one found (relation_of next.0) p next.1 x y r s h g
  matched_or_one found (Some m) p next x y r s h g = gives_one (Match (matching_of dictionary found m)) next.1 x y r s h.1 g.1

  pub compared_one : (found : Reference) → IsOne (ComparedIs profile dictionary found)
  compared_one found p x y r s h g = matched_or_one found (matcher_in profile (next_token p).0) p (next_token p) x y r s h g

  -- a comparison with a pattern
  pub matched_reads : (found : Reference) (m : Matcher) (p : Place) (token : Token) (mid : Place) → Follows token p mid → matcher_in profile token ≡ Some m → (r : Result (Cond × Place) Refusal)
      → Reads (MatchedBy dictionary found m mid) r → Reads (ComparedIs profile dictionary found p) r
  matched_reads found m p token mid follows is r reads =
      subst (λ (k : Token × Place). Reads (MatchedOr profile dictionary found (matcher_in profile k.0) p k) r) (sym follows) (subst (λ o. Reads (MatchedOr profile dictionary found o p (token, mid)) r) (sym is) reads)

  -- what follows an operator that compares
  pub compared_reads : (found : Reference) (relation : Relation) (p : Place) (token : Token) (mid : Place) → Follows token p mid → matcher_in profile token ≡ None → relation_of token ≡ Some relation → (r : Result (Cond × Place) Refusal)
      → Reads (RelatedIs profile dictionary found relation mid) r → Reads (ComparedIs profile dictionary found p) r
  compared_reads found relation p token mid follows none related r reads =
      subst (λ (k : Token × Place). Reads (MatchedOr profile dictionary found (matcher_in profile k.0) p k) r) (sym follows)
      (subst (λ o. Reads (MatchedOr profile dictionary found o p (token, mid)) r) (sym none) (subst (λ o. Reads (ComparedFrom profile dictionary found o p mid) r) (sym related) reads))

  word_one : (o : Option Code) (word : List ℕ) → IsOne (WordFrom profile dictionary o word)
  word_one (Some code) word p x y r s h g = gives_one (Last code) p x y r s h g
  word_one None word p x y r s h g =
      compared_one g.0 p x y r s (subst (λ (n : Reference). ComparedIs profile dictionary n p x r) (some_is h.0 g.0 (sym h.1 ∙ g.1)) h.2) g.2

  -- ---- texts on the left

  text_related_from_one : (alone : Option Reference) (b : Bool) (parts : List Part) (relation : Relation) → IsOne (TextRelatedFrom dictionary alone b parts relation)
  text_related_from_one None b parts relation p x y r s h g = texts_one profile dictionary (side.Text parts) relation p x y r s h g
  text_related_from_one (Some found) true parts relation p x y r s h g = texts_one profile dictionary (side.Text parts) relation p x y r s h g
  text_related_from_one (Some found) false parts relation p x y r s h g = related_one Wider dictionary (is_by_meaning Wider (type_of dictionary found.target.named.id)) found relation p x y r s h g

  text_related_one : (alone : Option Reference) (parts : List Part) (relation : Relation) → IsOne (TextRelated dictionary alone parts relation)
  text_related_one alone parts relation p x y r s h g = text_related_from_one alone (puts_in (next_token p).0) parts relation p x y r s h.1 g.1

  text_from_one : (mark : QuoteMark) (octets : List ℕ) (o : Option Matcher) (relation : Option Relation) (p : Place) → IsOne (TextComparedFrom dictionary mark octets o relation p)
  text_from_one mark octets (Some m) relation p after x y r s h g =
      let same = quoted_one profile dictionary mark octets h.0 g.0 h.1 g.1 in
      becomes_one (text_match m g.0) after x y r s (subst (λ parts. Becomes (text_match m parts) after x r) same h.2.1) g.2.1
  text_from_one mark octets None (Some relation) p after x y r s h g =
      let same = quoted_one profile dictionary mark octets h.0 g.0 h.1 g.1 in
      let alone = reference_alone dictionary (Quoted mark octets) in
      text_related_one alone g.0 relation after x y r s (subst (λ parts. TextRelated dictionary alone parts relation after x r) same h.2) g.2
  text_from_one Double octets None None p after x y r s h g = becomes_one (option_map Captured (group_in Wider octets)) p x y r s h g
  text_from_one Single octets None None p after x y r s h g = absurd h

  text_operand_one : (q : Profile) (mark : QuoteMark) (octets : List ℕ) → IsOne (TextOperand q dictionary mark octets)
  text_operand_one Plain mark octets p x y r s h g = absurd h
  text_operand_one Wider mark octets p x y r s h g = text_from_one mark octets (matcher_in Wider (next_token p).0) (relation_of (next_token p).0) p (next_token p).1 x y r s h g

  -- ---- operands

  from_one : (inner : Form Place Cond) → IsOne inner → (token : Token) → IsOne (OperandFrom profile dictionary inner token)
  from_one inner one (Operator sign.Not) p x y r s h g = negated_one inner one p x y r s h g
  from_one inner one (Operator sign.Open) p x y r s h g = closed_one inner one p x y r s h g
  from_one inner one (Operator sign.Reference) p x y r s h g =
      then_one (ReadableIs profile dictionary) (ComparedIs profile dictionary) (readable_one profile dictionary) compared_one p x y r s h g
  from_one inner one (Word word) p x y r s h g = word_one (code_named word) word p x y r s h g
  from_one inner one (Quoted mark text) p x y r s h g = text_operand_one profile mark text p x y r s h g
  from_one inner one _ p x y r s h g = absurd h

  pub within_one : (n : ℕ) → IsOne (Within profile dictionary n)
  within_one zero p x y r s h g = absurd h
  within_one (suc n) p x y r s h g = from_one (Within profile dictionary n) (within_one n) (next_token p).0 (next_token p).1 x y r s h g

  -- an operand is read by what stands behind its first token
  pub operand_reads : (inner : Form Place Cond) (p : Place) (q : Token × Place) (token : Token) (r : Result (Cond × Place) Refusal) → q ≡ next_token p → q.0 ≡ token
      → Reads (OperandFrom profile dictionary inner token q.1) r → Reads (OperandIs profile dictionary inner p) r
  operand_reads inner p q token r is first reads =
      subst (λ (k : Token × Place). Reads (OperandFrom profile dictionary inner k.0 k.1) r) is (subst (λ k. Reads (OperandFrom profile dictionary inner k q.1) r) (sym first) reads)

  -- ---- refusals inside brackets and after `!`, where one sign fewer may be nested

  pub negated_refused : (n m : ℕ) (p : Place) (e : Refusal) → m ≡ n → Refuses (Within profile dictionary m p) e → Refuses (Negated (Within profile dictionary n) p) e
  negated_refused n m p e same refused =
      then_stops (Within profile dictionary n) (λ c. Gives (Not c)) p e (subst (λ k. Refuses (Within profile dictionary k p) e) same refused)

  pub closed_refused : (n m : ℕ) (p : Place) (e : Refusal) → m ≡ n → Refuses (Either (Within profile dictionary m) p) e → Refuses (Closed (Within profile dictionary n) p) e
  closed_refused n m p e same refused =
      then_stops (Either (Within profile dictionary n)) Closing p e (subst (λ k. Refuses (Either (Within profile dictionary k) p) e) same refused)

  pub unclosed_refused : (n m : ℕ) (p : Place) (c : Cond) (end : Place) (e : Refusal) → m ≡ n → Either (Within profile dictionary m) p c end
      → ((rest : Place) → Follows (Operator sign.Close) end rest → ⊥) → Refuses (Closed (Within profile dictionary n) p) e
  unclosed_refused n m p c end e same read open_end =
      then_on (Either (Within profile dictionary n)) Closing (either_one (Within profile dictionary n) (within_one n)) p c end (subst (λ k. Either (Within profile dictionary k) p c end) same read) e
      (after_stops (Follows (Operator sign.Close)) (Gives c) end e open_end)

  pub closed_reads : (n m : ℕ) (p : Place) (c : Cond) (end rest : Place) → m ≡ n → Either (Within profile dictionary m) p c end → Follows (Operator sign.Close) end rest → Closed (Within profile dictionary n) p c rest
  closed_reads n m p c end rest same read close = (c, end, subst (λ k. Either (Within profile dictionary k) p c end) same read, (rest, close, (refl, refl)))
