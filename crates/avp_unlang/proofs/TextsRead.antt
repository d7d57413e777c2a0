-- How the answers of readers of texts in conditions are those of the whole.
use Rattle.std.proofs.Common.{◌≡◌, inl, inr, ℕ, Bool, true, false, List, Option, Some, None, Result, Ok, Err, refl, sym, ap, subst}
use Rattle.std.specs.Option.{option_map}
use Rattle.std.specs.Prelude.{◌≢◌, IfErr}
use Rattle.avp_dict.specs.Dictionary.{Dictionary}
use Rattle.avp_dict.specs.Spellings.{is_barred}
use Rattle.avp_dict.specs.declared.value.quotes.QuoteMark.{QuoteMark}
use Rattle.avp_dict.specs.declared.value.quotes.QuoteMark.TheVariants as quote
use Rattle.avp_forms.specs.declared.profiles.Profile.TheVariants.{Wider}
use Rattle.avp_unlang.specs.Between.{Follows}
use Rattle.avp_unlang.specs.Conditions.{QuotedParts, RelatedToText, RightFrom, RightIs, TextBeside, TextComparedFrom, TextMatched, TextOperand, TextRelated, TextRelatedFrom, TextsBy, ValueRelated, instance_related, is_beside_texts, is_by_meaning, is_text, matcher_in, puts_in, reference_alone, relation_of, side_of, typing_of}
use Rattle.avp_unlang.specs.Forms.{Reads, Refuses}
use Rattle.avp_unlang.specs.Parts.{group_in}
use Rattle.avp_unlang.specs.Places.{Place}
use Rattle.avp_unlang.specs.References.{type_of}
use Rattle.avp_unlang.specs.RefusedConditions.{RelatedToTextFails, RightFails, RightFailsFrom, TextBesideFails, TextComparedFails, TextMatchedFails, TextOperandFails, TextRelatedFails, TextRelatedFailsFrom, ValueRelatedFails, group_alone}
use Rattle.avp_unlang.specs.RefusedForms.{Tells, left_at}
use Rattle.avp_unlang.specs.Tokens.{next_token}
use Rattle.avp_unlang.specs.declared.faults.PolicyKind.{PolicyKind}
use Rattle.avp_unlang.specs.declared.faults.PolicyKind.TheVariants as faults
use Rattle.avp_unlang.specs.declared.faults.Refusal.{Refusal}
use Rattle.avp_unlang.specs.declared.text.references.Reference.{Reference}
use Rattle.avp_unlang.specs.declared.text.tokens.Matcher.{Matcher}
use Rattle.avp_unlang.specs.declared.text.tokens.Token.{Token}
use Rattle.avp_unlang.specs.declared.text.tokens.Token.TheVariants.{Quoted}
use Rattle.avp_unlang.specs.declared.tree.Cond.{Cond}
use Rattle.avp_unlang.specs.declared.tree.Cond.TheVariants.{Captured}
use Rattle.avp_unlang.specs.declared.tree.Part.{Part}
use Rattle.avp_unlang.specs.declared.tree.Relation.{Relation}
use Rattle.avp_unlang.specs.declared.tree.TextSide.TheVariants as side
use Rattle.avp_unlang.proofs.ConditionsOne.{quoted_one}
use Rattle.avp_unlang.proofs.RefusedOnceTexts.{both_ways}
use Rattle.avp_unlang.proofs.RefusedReads.{tells_on}

-- what spells the same, is read the same
pub on_reads : {S A : Type 0} (P Q : A → S → Type 0) → ((x : A) (rest : S) → P x rest → Q x rest) → ((x : A) (rest : S) → Q x rest → P x rest) → (r : Result (A × S) Refusal) → Reads P r → Reads Q r
on_reads P Q to from (Ok x) h = to x.0 x.1 h
on_reads P Q to from (Err e) h = λ some x rest w. h some x rest (from x rest w)

-- ---- on the right

module _ (dictionary : Dictionary) (p : Place) (q : Token × Place) (token : Token) where
  -- by its token
  pub right_reads : q ≡ next_token p → q.0 ≡ token → (r : Result (List Part × Place) Refusal) → Reads (RightFrom dictionary token q.1) r → Reads (RightIs dictionary p) r
  right_reads is first r h =
      subst (λ (k : Token × Place). Reads (RightFrom dictionary k.0 k.1) r) is (subst (λ k. Reads (RightFrom dictionary k q.1) r) (sym first) h)

  pub right_tells : (begin : ℕ) → q ≡ next_token p → q.0 ≡ token → begin ≡ left_at p → (r : Result (List Part × Place) Refusal) → IfErr r (Tells (RightFailsFrom dictionary begin token)) → IfErr r (Tells (RightFails dictionary p))
  right_tells begin is first place r h =
      subst (λ (k : Token × Place). IfErr r (Tells (RightFailsFrom dictionary (left_at p) k.0))) is
      (subst (λ k. IfErr r (Tells (RightFailsFrom dictionary (left_at p) k))) (sym first) (subst (λ l. IfErr r (Tells (RightFailsFrom dictionary l token))) place h))

-- ---- beside a reference

module _ (dictionary : Dictionary) (found : Reference) (relation : Relation) (p : Place) where
  module _ (unlike : (other : Reference) → reference_alone dictionary (next_token p).0 ≡ Some other → typing_of dictionary found ≢ typing_of dictionary other)
      (octets : is_beside_texts dictionary found.target.named.id ≡ true) where
    text_beside : (o : Option Reference) → ((other : Reference) → o ≡ Some other → typing_of dictionary found ≢ typing_of dictionary other) → (r : Result (Cond × Place) Refusal)
        → Reads (TextsBy dictionary (side_of dictionary found) relation p) r → Reads (TextBeside dictionary found relation o p) r
    text_beside None differs r h = on_reads (TextsBy dictionary (side_of dictionary found) relation p) (TextBeside dictionary found relation None p) (λ x rest w. (octets, w)) (λ x rest w. w.1) r h
    text_beside (Some other) differs r h =
        on_reads (TextsBy dictionary (side_of dictionary found) relation p) (TextBeside dictionary found relation (Some other) p) (λ x rest w. inr (differs other refl, (octets, w))) (λ x rest w. elim w [
          | inl a ↦ absurd (differs other refl a.0)
          | inr b ↦ b.1.1
        ]) r h

    -- any text beside octets whose name may be written
    pub octets_read : is_barred found.target.named dictionary ≡ false → (r : Result (Cond × Place) Refusal) → Reads (TextsBy dictionary (side_of dictionary found) relation p) r → Reads (RelatedToText dictionary found relation p) r
    octets_read writable r h =
        let o = reference_alone dictionary (next_token p).0 in
        on_reads (TextBeside dictionary found relation o p) (RelatedToText dictionary found relation p) (λ x rest w. (writable, w)) (λ x rest w. w.1) r (text_beside o unlike r h)

    fails_beside : (o : Option Reference) → ((other : Reference) → o ≡ Some other → typing_of dictionary found ≢ typing_of dictionary other) → (left : ℕ) (kind : PolicyKind)
        → RightFails dictionary p left kind → TextBesideFails dictionary found o p left kind
    fails_beside None differs left kind h = inl (octets, h)
    fails_beside (Some other) differs left kind h = (differs other refl, inl (octets, h))

    pub octets_tell : (name : ℕ) → is_barred found.target.named dictionary ≡ false → (r : Result (Cond × Place) Refusal) → IfErr r (Tells (RightFails dictionary p)) → IfErr r (Tells (RelatedToTextFails dictionary found name p))
    octets_tell name writable r h =
        tells_on (RightFails dictionary p) (RelatedToTextFails dictionary found name p) r (λ left kind w. inr (writable, fails_beside (reference_alone dictionary (next_token p).0) unlike left kind w)) h

  module _ (unlike : (other : Reference) → reference_alone dictionary (next_token p).0 ≡ Some other → typing_of dictionary found ≢ typing_of dictionary other)
      (other_type : is_beside_texts dictionary found.target.named.id ≡ false) where
    nothing_beside : (o : Option Reference) → ((other : Reference) → o ≡ Some other → typing_of dictionary found ≢ typing_of dictionary other) → (x : Cond) (rest : Place)
        → TextBeside dictionary found relation o p x rest → ⊥
    nothing_beside None differs x rest w = both_ways (is_beside_texts dictionary found.target.named.id) w.0 other_type
    nothing_beside (Some other) differs x rest (inl w) = differs other refl w.0
    nothing_beside (Some other) differs x rest (inr w) = both_ways (is_beside_texts dictionary found.target.named.id) w.1.0 other_type

    -- no text beside values of another type
    pub other_type_reads : (x : Cond) (rest : Place) → RelatedToText dictionary found relation p x rest → ⊥
    other_type_reads x rest w = nothing_beside (reference_alone dictionary (next_token p).0) unlike x rest w.1

    refused_beside : (o : Option Reference) → ((other : Reference) → o ≡ Some other → typing_of dictionary found ≢ typing_of dictionary other) → TextBesideFails dictionary found o p (left_at p) faults.OtherType
    refused_beside None differs = inr (other_type, (refl, refl))
    refused_beside (Some other) differs = (differs other refl, inr (other_type, (refl, refl)))

    pub other_type_tells : (name : ℕ) → is_barred found.target.named dictionary ≡ false → (left : ℕ) (kind : PolicyKind) → left ≡ left_at p → kind ≡ faults.OtherType → RelatedToTextFails dictionary found name p left kind
    other_type_tells name writable left kind place why =
        let here : RelatedToTextFails dictionary found name p (left_at p) faults.OtherType = inr (writable, refused_beside (reference_alone dictionary (next_token p).0) unlike) in
        subst (λ k. RelatedToTextFails dictionary found name p left k) (sym why) (subst (λ l. RelatedToTextFails dictionary found name p l faults.OtherType) (sym place) here)

module _ (dictionary : Dictionary) (found : Reference) (relation : Relation) (p : Place) (other : Reference) (is : reference_alone dictionary (next_token p).0 ≡ Some other)
    (alike : typing_of dictionary found ≡ typing_of dictionary other) where
  -- one reference alone, to values of the same type and form
  pub instance_reads : is_barred found.target.named dictionary ≡ false → (c : Cond) (rest : Place) → c ≡ instance_related (is_by_meaning Wider (type_of dictionary found.target.named.id)) dictionary found relation other → rest ≡ (next_token p).1
      → RelatedToText dictionary found relation p c rest
  instance_reads writable c rest made end = (writable, subst (λ o. TextBeside dictionary found relation o p c rest) (sym is) (inl (alike, made, end)))

-- ---- on the left

module _ (dictionary : Dictionary) (alone : Option Reference) (parts : List Part) (relation : Relation) (p : Place) (fits : is_text (next_token p).0 ≡ true) where
  -- one reference alone, beside what puts nothing in
  module _ (found : Reference) (is : alone ≡ Some found) (plain : puts_in (next_token p).0 ≡ false) where
    pub alone_reads : (r : Result (Cond × Place) Refusal) → Reads (ValueRelated Wider dictionary found relation p) r → Reads (TextRelated dictionary alone parts relation p) r
    alone_reads r h =
        on_reads (TextRelatedFrom dictionary alone (puts_in (next_token p).0) parts relation p) (TextRelated dictionary alone parts relation p) (λ x rest w. (fits, w)) (λ x rest w. w.1) r
        (subst (λ b. Reads (TextRelatedFrom dictionary alone b parts relation p) r) (sym plain) (subst (λ o. Reads (TextRelatedFrom dictionary o false parts relation p) r) (sym is) h))

    pub alone_tells : (begin : ℕ) (r : Result (Cond × Place) Refusal) → IfErr r (Tells (ValueRelatedFails Wider dictionary found.target begin p)) → IfErr r (Tells (TextRelatedFails dictionary alone begin p))
    alone_tells begin r h =
        tells_on (TextRelatedFailsFrom dictionary alone (puts_in (next_token p).0) begin p) (TextRelatedFails dictionary alone begin p) r (λ left kind w. inr (fits, w))
        (subst (λ b. IfErr r (Tells (TextRelatedFailsFrom dictionary alone b begin p))) (sym plain) (subst (λ o. IfErr r (Tells (TextRelatedFailsFrom dictionary o false begin p))) (sym is) h))

  -- any other text
  module _ (none : (found : Reference) → alone ≡ Some found → puts_in (next_token p).0 ≡ true) where
    texts_from : (o : Option Reference) (b : Bool) → ((found : Reference) → o ≡ Some found → b ≡ true) → (r : Result (Cond × Place) Refusal) → Reads (TextsBy dictionary (side.Text parts) relation p) r
        → Reads (TextRelatedFrom dictionary o b parts relation p) r
    texts_from None b puts r h = h
    texts_from (Some found) true puts r h = h
    texts_from (Some found) false puts r h = absurd (never (puts found refl)) where
      never : false ≡ true → ⊥
      never e = cc

    pub texts_reads : (r : Result (Cond × Place) Refusal) → Reads (TextsBy dictionary (side.Text parts) relation p) r → Reads (TextRelated dictionary alone parts relation p) r
    texts_reads r h =
        on_reads (TextRelatedFrom dictionary alone (puts_in (next_token p).0) parts relation p) (TextRelated dictionary alone parts relation p) (λ x rest w. (fits, w)) (λ x rest w. w.1) r
        (texts_from alone (puts_in (next_token p).0) none r h)

    texts_fail : (begin : ℕ) (o : Option Reference) (b : Bool) → ((found : Reference) → o ≡ Some found → b ≡ true) → (r : Result (Cond × Place) Refusal) → IfErr r (Tells (RightFails dictionary p))
        → IfErr r (Tells (TextRelatedFailsFrom dictionary o b begin p))
    texts_fail begin None b puts r h = h
    texts_fail begin (Some found) true puts r h = h
    texts_fail begin (Some found) false puts r h = absurd (never (puts found refl)) where
      never : false ≡ true → ⊥
      never e = cc

    pub texts_tells : (begin : ℕ) (r : Result (Cond × Place) Refusal) → IfErr r (Tells (RightFails dictionary p)) → IfErr r (Tells (TextRelatedFails dictionary alone begin p))
    texts_tells begin r h =
        tells_on (TextRelatedFailsFrom dictionary alone (puts_in (next_token p).0) begin p) (TextRelatedFails dictionary alone begin p) r (λ left kind w. inr (fits, w))
        (texts_fail begin alone (puts_in (next_token p).0) none r h)

-- ---- operands

module _ (dictionary : Dictionary) (mark : QuoteMark) (octets : List ℕ) (p : Place) (token : Token) (mid : Place) (follows : Follows token p mid) where
  module _ (o : Option Matcher) (q : Option Relation) (is : matcher_in Wider token ≡ o) (related : relation_of token ≡ q) {X : Type 0} where
    -- by what the token after the text is
    pub operand_fails : (begin at : ℕ) → at ≡ left_at p → (r : Result X Refusal) → IfErr r (Tells (TextComparedFails dictionary mark octets begin at o q token mid)) → IfErr r (Tells (TextOperandFails Wider dictionary mark octets begin p))
    operand_fails begin at place r h =
        subst (λ (k : Token × Place). IfErr r (Tells (TextComparedFails dictionary mark octets begin (left_at p) (matcher_in Wider k.0) (relation_of k.0) k.0 k.1))) (sym follows)
        (subst (λ m. IfErr r (Tells (TextComparedFails dictionary mark octets begin (left_at p) m (relation_of token) token mid))) (sym is)
        (subst (λ m. IfErr r (Tells (TextComparedFails dictionary mark octets begin (left_at p) o m token mid))) (sym related)
        (subst (λ l. IfErr r (Tells (TextComparedFails dictionary mark octets begin l o q token mid))) place h)))

  module _ (o : Option Matcher) (q : Option Relation) (is : matcher_in Wider token ≡ o) (related : relation_of token ≡ q) where
    pub text_operand_reads : (r : Result (Cond × Place) Refusal) → Reads (TextComparedFrom dictionary mark octets o q p mid) r → Reads (TextOperand Wider dictionary mark octets p) r
    text_operand_reads r h =
        subst (λ (k : Token × Place). Reads (TextComparedFrom dictionary mark octets (matcher_in Wider k.0) (relation_of k.0) p k.1) r) (sym follows)
        (subst (λ m. Reads (TextComparedFrom dictionary mark octets m (relation_of token) p mid) r) (sym is)
        (subst (λ m. Reads (TextComparedFrom dictionary mark octets o m p mid) r) (sym related) h))

  -- before a pattern
  module _ (m : Matcher) (q : Option Relation) where
    pub pattern_stops : (e : Refusal) → (e.kind ≢ faults.Memory → (parts : List Part) → QuotedParts dictionary mark octets parts → ⊥) → Refuses (TextComparedFrom dictionary mark octets (Some m) q p mid) e
    pattern_stops e h = λ some x rest w. h some w.0 w.1

    pub pattern_reads : (parts : List Part) → QuotedParts dictionary mark octets parts → (r : Result (Cond × Place) Refusal) → Reads (TextMatched m parts mid) r → Reads (TextComparedFrom dictionary mark octets (Some m) q p mid) r
    pattern_reads parts read r h =
        on_reads (TextMatched m parts mid) (TextComparedFrom dictionary mark octets (Some m) q p mid) (λ x rest w. (parts, read, w))
        (λ x rest w. subst (λ (k : List Part). TextMatched m k mid x rest) (quoted_one Wider dictionary mark octets w.0 parts w.1 read) w.2) r h

    pub pattern_fails : (begin at : ℕ) (parts : List Part) → QuotedParts dictionary mark octets parts → (r : Result (Cond × Place) Refusal) → IfErr r (Tells (TextMatchedFails m at parts mid))
        → IfErr r (Tells (TextComparedFails dictionary mark octets begin at (Some m) q token mid))
    pattern_fails begin at parts read r h = tells_on (TextMatchedFails m at parts mid) (TextComparedFails dictionary mark octets begin at (Some m) q token mid) r (λ left kind w. inr (parts, read, w)) h

  -- before an operator that compares
  module _ (relation : Relation) where
    pub operator_stops : (e : Refusal) → (e.kind ≢ faults.Memory → (parts : List Part) → QuotedParts dictionary mark octets parts → ⊥) → Refuses (TextComparedFrom dictionary mark octets None (Some relation) p mid) e
    operator_stops e h = λ some x rest w. h some w.0 w.1

    module _ (alone : Option Reference) (same : alone ≡ reference_alone dictionary (Quoted mark octets)) where
      pub operator_reads : (parts : List Part) → QuotedParts dictionary mark octets parts → (r : Result (Cond × Place) Refusal) → Reads (TextRelated dictionary alone parts relation mid) r
          → Reads (TextComparedFrom dictionary mark octets None (Some relation) p mid) r
      operator_reads parts read r h =
          on_reads (TextRelated dictionary alone parts relation mid) (TextComparedFrom dictionary mark octets None (Some relation) p mid)
          (λ x rest w. (parts, read, subst (λ k. TextRelated dictionary k parts relation mid x rest) same w))
          (λ x rest w.
          subst (λ k. TextRelated dictionary k parts relation mid x rest) (sym same)
          (subst (λ (k : List Part). TextRelated dictionary (reference_alone dictionary (Quoted mark octets)) k relation mid x rest) (quoted_one Wider dictionary mark octets w.0 parts w.1 read) w.2)) r h

      pub operator_fails : (begin at : ℕ) (parts : List Part) → QuotedParts dictionary mark octets parts → (r : Result (Cond × Place) Refusal) → IfErr r (Tells (TextRelatedFails dictionary alone begin mid))
          → IfErr r (Tells (TextComparedFails dictionary mark octets begin at None (Some relation) token mid))
      operator_fails begin at parts read r h =
          tells_on (TextRelatedFails dictionary alone begin mid) (TextComparedFails dictionary mark octets begin at None (Some relation) token mid) r
          (λ left kind w. inr (parts, read, subst (λ k. TextRelatedFails dictionary k begin mid left kind) same w)) h

-- a group by itself
module _ (dictionary : Dictionary) (octets : List ℕ) (p mid : Place) where
  pub group_reads : (mark : QuoteMark) (group : ℕ) → group_alone mark octets ≡ Some group → TextComparedFrom dictionary mark octets None None p mid (Captured group) p
  group_reads quote.Double group e = (ap (option_map Captured) e, refl)
  group_reads quote.Single group e = absurd cc

  never_captured : (o : Option ℕ) (x : Cond) → o ≡ None → option_map Captured o ≡ Some x → ⊥
  never_captured o x none e = cc

  pub no_group : (mark : QuoteMark) → group_alone mark octets ≡ None → (x : Cond) (rest : Place) → TextComparedFrom dictionary mark octets None None p mid x rest → ⊥
  no_group quote.Double none x rest w = never_captured (group_in Wider octets) x none w.0
  no_group quote.Single none x rest w = w
