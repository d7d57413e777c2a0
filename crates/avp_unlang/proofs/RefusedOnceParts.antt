-- References, written values, conditions and update lines are refused at most once, and not where they are read.
use Rattle.std.proofs.Common.{◌≡◌, inl, inr, ℕ, Bool, true, false, List, Option, Some, None, Result, Ok, Err, refl, sym, ap, subst, ◌∙◌}
use Rattle.std.specs.Prelude.{cond}
use Rattle.std.specs.Option.{option_and_then, option_map}
use Rattle.std.specs.Result.{result_ok}
use Rattle.avp_lists.specs.declared.lists.List.TheVariants as lists
use Rattle.avp_lists.specs.declared.pairs.AttrId.{AttrId}
use Rattle.avp_lists.specs.declared.pairs.Value.{Value}
use Rattle.avp_dict.specs.Dictionary.{Dictionary}
use Rattle.avp_dict.specs.Limits.{fits}
use Rattle.avp_dict.specs.Quotes.{single_quoted_octets}
use Rattle.avp_dict.specs.Requests.{pair_with}
use Rattle.avp_dict.specs.Sent.{is_container}
use Rattle.avp_dict.specs.declared.value.faults.ValueFault.{ValueFault}
use Rattle.avp_dict.specs.declared.value.quotes.QuoteMark.TheVariants.{Double, Single}
use Rattle.avp_forms.specs.Written.{value_written}
use Rattle.avp_forms.specs.declared.profiles.Profile.{Profile}
use Rattle.avp_forms.specs.declared.targets.Target.{Target}
use Rattle.avp_unlang.specs.Between.{Counts, Follows}
use Rattle.avp_unlang.specs.Forms.{Form, Then}
use Rattle.avp_unlang.specs.Places.{Place, counted}
use Rattle.avp_unlang.specs.References.{AlikeIs, ReadableIs, readable, reference_in, type_of, unless_container}
use Rattle.avp_unlang.specs.RefusedForms.{Lacks, Misses, ThenFails, left_at, unfit}
use Rattle.avp_unlang.specs.RefusedPolicies.{without_place}
use Rattle.avp_unlang.specs.RefusedValues.{AlikeFails, IsValueRefused, ReadableFails, WrittenFails, WrittenFailsFrom, literal_refusal, reference_refusal, unfit_value, unreadable_target, value_place, word_refusal}
use Rattle.avp_unlang.specs.Tokens.{next_token}
use Rattle.avp_unlang.specs.Values.{WrittenAs, WrittenFrom, WrittenIs, fitting, literal}
use Rattle.avp_unlang.specs.declared.faults.PolicyKind.{PolicyKind}
use Rattle.avp_unlang.specs.declared.faults.PolicyKind.TheVariants as kinds
use Rattle.avp_unlang.specs.declared.text.references.Reference.{Reference}
use Rattle.avp_unlang.specs.declared.text.tokens.Sign.TheVariants as sign
use Rattle.avp_unlang.specs.declared.text.tokens.Token.{Token}
use Rattle.avp_unlang.specs.declared.text.tokens.Token.TheVariants.{Operator, Quoted, Word}
use Rattle.avp_unlang.specs.declared.text.values.Written.{Written}
use Rattle.avp_unlang.specs.declared.text.values.Written.TheVariants as written
use Rattle.avp_unlang.proofs.Determined.{some_is}
use Rattle.avp_unlang.proofs.LinesOne.{readable_one, written_one}
use Rattle.avp_unlang.proofs.RefusedOnce.{AreSame, SettlesAt, StepsAt, then_settles}

pub some_none : {A : Type 0} (x : A) (o : Option A) → o ≡ Some x → o ≡ None → ⊥
some_none x o e f = cc

-- ---- places and kinds

pub at_once : (at : ℕ) (why : PolicyKind) (left other : ℕ) (kind more : PolicyKind) → (left ≡ at) × (kind ≡ why) → (other ≡ at) × (more ≡ why) → AreSame left kind other more
at_once at why left other kind more h g = (h.0 ∙ sym g.0, ap without_place (h.1 ∙ sym g.1))

pub if_once : (at : ℕ) (why : Option PolicyKind) (left other : ℕ) (kind more : PolicyKind) → (left ≡ at) × (why ≡ Some kind) → (other ≡ at) × (why ≡ Some more) → AreSame left kind other more
if_once at why left other kind more h g = (h.0 ∙ sym g.0, ap without_place (some_is kind more (sym h.1 ∙ g.1)))

pub value_once : (why : Option PolicyKind) (name value left other : ℕ) (kind more : PolicyKind) → IsValueRefused why name value left kind → IsValueRefused why name value other more → AreSame left kind other more
value_once why name value left other kind more h g =
    let same = some_is kind more (sym h.0 ∙ g.0) in
    (h.1 ∙ ap (value_place name value) same ∙ sym g.1, ap without_place same)

-- ---- steps

pub follows_settles : (token : Token) (p : Place) → StepsAt (Follows token) (Misses token) p
follows_settles token p = record {
  apart = λ rest left kind h f. f.0 rest h;
  once = λ left other kind more f g. at_once (left_at p) (unfit (next_token p).0) left other kind more f.1 g.1;
}

pub counts_settles : (n at : ℕ) (p : Place) → StepsAt (Counts n) (Lacks n at) p
counts_settles n at p = record {
  apart = λ rest left kind h f. some_none rest (counted n p) h f.0;
  once = λ left other kind more f g. at_once at kinds.TooLarge left other kind more f.1 g.1;
}

-- ---- references

module _ (profile : Profile) (dictionary : Dictionary) where
  unless_apart : (o : Option Reference) (found : Reference) (kind : PolicyKind) → option_and_then unless_container o ≡ Some found → unreadable_target o ≡ Some kind → ⊥
  unless_apart None found kind h g = cc
  unless_apart (Some other) found kind h g =
      elim (is_container other.target.named.id) as (λ b. cond b None (Some other) ≡ Some found → cond b (Some kinds.NotWritable) None ≡ Some kind → ⊥) [
        | true ↦ λ h g. cc
        | false ↦ λ h g. cc
      ] h g

  pub readable_apart : (word : List ℕ) (found : Reference) (kind : PolicyKind) → readable profile dictionary word ≡ Some found → reference_refusal profile dictionary word ≡ Some kind → ⊥
  unfolding readable reference_refusal
  readable_apart word found kind h g = unless_apart (reference_in profile dictionary lists.Request word) found kind h g

  pub readable_settles : (p : Place) → SettlesAt (ReadableIs profile dictionary) (ReadableFails profile dictionary) p
  readable_settles p = record {
    apart = λ found rest left kind h f.
        readable_apart h.0 found kind h.2 (subst (λ (t : Token × Place). word_refusal (reference_refusal profile dictionary) t.0 ≡ Some kind) h.1 f.1);
    once = λ left other kind more f g. if_once (left_at p) (word_refusal (reference_refusal profile dictionary) (next_token p).0) left other kind more f g;
  }

  pub alike_settles : (id : AttrId) (p : Place) → SettlesAt (AlikeIs profile dictionary id) (AlikeFails profile dictionary id) p
  alike_settles id p = record { apart = apart; once = once } where
    apart : (found : Reference) (rest : Place) (left : ℕ) (kind : PolicyKind) → AlikeIs profile dictionary id p found rest → AlikeFails profile dictionary id p left kind → ⊥
    apart found rest left kind h (inl f) = (readable_settles p).apart found rest left kind h.0 f
    apart found rest left kind h (inr f) =
        f.3.0 (h.1 ∙ ap (λ (r : Reference). type_of dictionary r.target.named.id) (readable_one profile dictionary p found f.0 rest f.1 h.0 f.2).0)

    once : (left other : ℕ) (kind more : PolicyKind) → AlikeFails profile dictionary id p left kind → AlikeFails profile dictionary id p other more → AreSame left kind other more
    once left other kind more (inl f) (inl g) = (readable_settles p).once left other kind more f g
    once left other kind more (inl f) (inr g) = absurd ((readable_settles p).apart g.0 g.1 left kind g.2 f)
    once left other kind more (inr f) (inl g) = absurd ((readable_settles p).apart f.0 f.1 other more f.2 g)
    once left other kind more (inr f) (inr g) = at_once (left_at p) kinds.OtherType left other kind more f.3.1 g.3.1

  -- ---- written values

  fit_apart : (target : Target) (r : Result Value ValueFault) (v : Value) (kind : PolicyKind) → option_and_then (fitting dictionary target.named) (result_ok r) ≡ Some v
      → unfit_value dictionary target r ≡ Some kind → ⊥
  fit_apart target (Ok value) v kind h g =
      elim (fits (pair_with target.named value) dictionary) as (λ b. cond b (Some value) None ≡ Some v → cond b None (Some kinds.NotValue) ≡ Some kind → ⊥) [
        | true ↦ λ h g. cc
        | false ↦ λ h g. cc
      ] h g
  fit_apart target (Err fault) v kind h g = cc

  pub literal_apart : (target : Target) (text : List ℕ) (v : Value) (kind : PolicyKind) → literal profile dictionary target text ≡ Some v → literal_refusal profile dictionary target text ≡ Some kind → ⊥
  unfolding literal literal_refusal
  literal_apart target text v kind h g = fit_apart target (value_written profile target text None dictionary) v kind h g

  -- what is read as a value is not refused
  pub not_refused : (target : Target) (text : List ℕ) (v : Value) → literal profile dictionary target text ≡ Some v → literal_refusal profile dictionary target text ≡ None
  not_refused target text v h = of (literal_refusal profile dictionary target text) (λ kind f. literal_apart target text v kind h f) where
    of : (o : Option PolicyKind) → ((kind : PolicyKind) → o ≡ Some kind → ⊥) → o ≡ None
    of None none = refl
    of (Some kind) none = absurd (none kind refl)

  pub mapped : {A B : Type 0} (f : A → B) (o : Option A) (y : B) → option_map f o ≡ Some y → (x : A) × (o ≡ Some x)
  mapped f None y h = absurd cc
  mapped f (Some x) y h = (x, refl)

  text_apart : (target : Target) (text : List ℕ) (w : Written) (name value left : ℕ) (kind : PolicyKind) → option_map written.Literal (literal profile dictionary target text) ≡ Some w
      → IsValueRefused (literal_refusal profile dictionary target text) name value left kind → ⊥
  text_apart target text w name value left kind h f =
      let v = mapped written.Literal (literal profile dictionary target text) w h in literal_apart target text v.0 kind v.1 f.0

  written_from_settles : (target : Target) (name value : ℕ) (token : Token) (p : Place) → SettlesAt (WrittenFrom profile dictionary target token) (WrittenFailsFrom profile dictionary target name value token) p
  written_from_settles target name value (Word text) p = record {
    apart = λ w rest left kind h f. text_apart target text w name value left kind h.0 f;
    once = value_once (literal_refusal profile dictionary target text) name value;
  }
  written_from_settles target name value (Quoted Single text) p = record {
    apart = λ w rest left kind h f. text_apart target (single_quoted_octets text) w name value left kind h.0 f;
    once = value_once (literal_refusal profile dictionary target (single_quoted_octets text)) name value;
  }
  written_from_settles target name value (Quoted Double text) p = record {
    apart = λ w rest left kind h f. f;
    once = λ left other kind more f g. absurd f;
  }
  written_from_settles target name value (Operator sign.Reference) p = record {
    apart = λ w rest left kind h f. (alike_settles target.named.id p).apart h.0 rest left kind h.1 f;
    once = (alike_settles target.named.id p).once;
  }
  written_from_settles target name value token p = record {
    apart = λ w rest left kind h f. h;
    once = at_once value (unfit token);
  }

  pub written_settles : (target : Target) (name : ℕ) (p : Place) → SettlesAt (WrittenIs profile dictionary target) (WrittenFails profile dictionary target name) p
  written_settles target name p =
      let at = written_from_settles target name (left_at p) (next_token p).0 (next_token p).1 in
      record { apart = at.apart; once = at.once }

  -- ---- what is made of a written value

  module _ {A : Type 0} (makes : Written → A → Type 0) (made_fails : Written → ℕ → PolicyKind → Type 0) where
    abbrev Made : Written → Form Place A
    Made w q x rest = makes w x × (rest ≡ q)

    pub made_settles : (target : Target) (name : ℕ) (p : Place) → ((w : Written) (x : A) (left : ℕ) (kind : PolicyKind) → makes w x → made_fails w left kind → ⊥)
        → ((w : Written) (left other : ℕ) (kind more : PolicyKind) → made_fails w left kind → made_fails w other more → AreSame left kind other more)
        → SettlesAt (WrittenAs profile dictionary target makes) (ThenFails (WrittenIs profile dictionary target) (WrittenFails profile dictionary target name) (λ w after. made_fails w)) p
    made_settles target name p apart once = record { apart = λ x rest left kind h f. whole.apart x rest left kind (h.0, rest, h.1, (h.2, refl)) f; once = whole.once } where
      each : (w : Written) (mid : Place) → SettlesAt (Made w) (λ after. made_fails w) mid
      each w mid = record { apart = λ x rest left kind h f. apart w x left kind h.0 f; once = once w }

      whole : SettlesAt (Then (WrittenIs profile dictionary target) Made) (ThenFails (WrittenIs profile dictionary target) (WrittenFails profile dictionary target name) (λ w after. made_fails w)) p
      whole = then_settles (WrittenIs profile dictionary target) (WrittenFails profile dictionary target name) Made (λ w after. made_fails w) p (written_one profile dictionary target) (written_settles target name p) each

  -- ---- texts between double quotes in conditions

  pub plain_apart : {V : Type 0} (of : List ℕ → Option V) (refusal : List ℕ → Option PolicyKind) → ((text : List ℕ) (v : V) (kind : PolicyKind) → of text ≡ Some v → refusal text ≡ Some kind → ⊥)
      → (b : Bool) (why : Option PolicyKind) (octets : List ℕ) (v : V) (kind : PolicyKind) → option_and_then of (cond b None (Some octets)) ≡ Some v → cond b why (refusal octets) ≡ Some kind → ⊥
  plain_apart of refusal apart true why octets v kind h f = cc
  plain_apart of refusal apart false why octets v kind h f = apart octets v kind h f
