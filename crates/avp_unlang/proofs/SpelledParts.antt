-- What holds of each part that is spelled holds of the whole.
use Rattle.std.proofs.Common.{◌≡◌, ℕ, Bool, true, false, cond, List, [], ◌∷◌, Option, Some, None, Result, Ok, Err, refl, sym, ap, subst}
use Rattle.std.specs.Option.{option_and_then, option_map}
use Rattle.std.specs.Result.{result_ok}
use Rattle.avp_lists.specs.declared.pairs.Value.{Value}
use Rattle.avp_dict.specs.Limits.{fits}
use Rattle.avp_dict.specs.Quotes.{single_quoted_octets}
use Rattle.avp_dict.specs.Requests.{pair_with}
use Rattle.avp_forms.specs.Written.{value_written}
use Rattle.avp_dict.specs.declared.value.quotes.QuoteMark.TheVariants.{Double, Single}
use Rattle.avp_dict.specs.Dictionary.{Dictionary}
use Rattle.avp_dict.specs.declared.value.faults.ValueFault.{ValueFault}
use Rattle.avp_forms.specs.declared.targets.Target.{Target}
use Rattle.avp_forms.specs.declared.profiles.Profile.{Profile}
use Rattle.avp_unlang.specs.Forms.{Form, Step, Chain, Others, While}
use Rattle.avp_unlang.specs.Places.{Place}
use Rattle.avp_unlang.specs.References.{type_of}
use Rattle.avp_unlang.specs.Sources.{SourceOf, ValueIs, filled_source, instance_source, text_source, whole_text}
use Rattle.avp_unlang.specs.Statements.{BlockIs}
use Rattle.avp_unlang.specs.Tokens.{next_token}
use Rattle.avp_unlang.specs.Values.{WrittenFrom, WrittenIs, fitting, literal}
use Rattle.avp_unlang.specs.declared.text.references.Reference.{Reference}
use Rattle.avp_unlang.specs.declared.text.tokens.Sign.TheVariants as sign
use Rattle.avp_unlang.specs.declared.text.tokens.Token.{Token}
use Rattle.avp_unlang.specs.declared.text.tokens.Token.TheVariants as token
use Rattle.avp_unlang.specs.declared.text.values.Written.{Written}
use Rattle.avp_unlang.specs.declared.text.values.Written.TheVariants as written
use Rattle.avp_unlang.specs.declared.tree.Part.{Part}
use Rattle.avp_unlang.specs.declared.tree.Source.{Source}
use Rattle.avp_unlang.specs.declared.tree.Source.TheVariants as source
use Rattle.avp_unlang.proofs.Determined.{some_is}

-- each value that the form spells has this
abbrev pub Holds : {A : Type 0} → (A → Type 0) → Form Place A → Type 0
Holds {A = A} P form = (p : Place) (x : A) (rest : Place) → form p x rest → P x

-- ---- lists

module _ {A : Type 0} (P : A → Type 0) (Q : List A → Type 0) (none : Q []) (more : (x : A) (xs : List A) → P x → Q xs → Q (x ∷ xs)) (form : Form Place A) (each : Holds P form) where
  pub while_holds : (begins : Place → Bool) → Holds Q (While begins form)
  while_holds begins p [] rest h = none
  while_holds begins p (x ∷ xs) rest h = more x xs (each p x h.1 h.2) (while_holds begins h.1 xs rest h.3)

  others_hold : (step : Step Place) → Holds Q (Others step form)
  others_hold step p [] rest h = none
  others_hold step p (x ∷ xs) rest h = more x xs (each h.0 x h.2 h.3) (others_hold step h.2 xs rest h.4)

  pub chain_holds : (step : Step Place) → Holds Q (Chain step form)
  chain_holds step p [] rest h = absurd h
  chain_holds step p (x ∷ xs) rest h = more x xs (each p x h.0 h.1) (others_hold step h.0 xs rest h.2)

  pub block_holds : (n : ℕ) (begins : Place → Bool) → Holds Q (BlockIs n begins form)
  block_holds n begins p xs rest h = subst Q (sym h.1.2.3.2.0) (while_holds begins h.1.0 h.1.2.0 h.1.2.1 h.1.2.2)

-- ---- literals

pub mapped : {A B : Type 0} (f : A → B) (o : Option A) (z : B) → option_map f o ≡ Some z → (n : A) × (o ≡ Some n) × (f n ≡ z)
mapped f None z e = absurd cc
mapped f (Some n) z e = (n, refl, some_is (f n) z e)

module _ (profile : Profile) (dictionary : Dictionary) (name : Target) where
  kept : (b : Bool) (w v : Value) → cond b (Some w) None ≡ Some v → (b ≡ true) × (w ≡ v)
  kept true w v e = (refl, some_is w v e)
  kept false w v e = absurd cc

  fitting_is : (r : Result Value ValueFault) (v : Value) → option_and_then (fitting dictionary name.named) (result_ok r) ≡ Some v → (r ≡ Ok v) × (fits (pair_with name.named v) dictionary ≡ true)
  fitting_is (Ok w) v e =
      let k = kept (fits (pair_with name.named w) dictionary) w v e in
      (ap Ok k.1, subst (λ (x : Value). fits (pair_with name.named x) dictionary ≡ true) k.1 k.0)
  fitting_is (Err fault) v e = absurd cc

  -- a literal is spelled by its text, and fits
  pub literal_is : (text : List ℕ) (v : Value) → literal profile dictionary name text ≡ Some v → (value_written profile name text None dictionary ≡ Ok v) × (fits (pair_with name.named v) dictionary ≡ true)
  unfolding literal
  literal_is text v e = fitting_is (value_written profile name text None dictionary) v e

  -- ---- written values

  -- what is known of one
  abbrev pub IsWritten : Written → Type 0
  IsWritten (written.Literal value) = (text : List ℕ) × (literal profile dictionary name text ≡ Some value)
  IsWritten (written.Double text) = Unit {0}
  IsWritten (written.Instance found) = type_of dictionary name.named.id ≡ type_of dictionary found.target.named.id

  literal_written : (text : List ℕ) (x : Written) → option_map written.Literal (literal profile dictionary name text) ≡ Some x → IsWritten x
  literal_written text x e = let m = mapped written.Literal (literal profile dictionary name text) x e in subst IsWritten m.2 (text, m.1)

  written_from_holds : (t : Token) → Holds IsWritten (WrittenFrom profile dictionary name t)
  written_from_holds (token.Word text) p x rest h = literal_written text x h.0
  written_from_holds (token.Quoted Single text) p x rest h = literal_written (single_quoted_octets text) x h.0
  written_from_holds (token.Quoted Double text) p x rest h = subst IsWritten (sym h.0) tt
  written_from_holds (token.Operator sign.Reference) p x rest h = subst IsWritten (sym h.2) h.1.1
  written_from_holds _ p x rest h = absurd h

  pub written_holds : Holds IsWritten (WrittenIs profile dictionary name)
  written_holds p x rest h = written_from_holds (next_token p).0 (next_token p).1 x rest h

  -- ---- sources

  module _ (P : Source → Type 0) (of_literal : (text : List ℕ) (v : Value) → literal profile dictionary name text ≡ Some v → P (source.Literal v)) (of_text : (parts : List Part) → P (text_source profile name parts)) (of_instance : (found : Reference) → P (instance_source profile dictionary name found)) where
    literal_holds : (text : List ℕ) (s : Source) → option_map source.Literal (literal profile dictionary name text) ≡ Some s → P s
    literal_holds text s e = let m = mapped source.Literal (literal profile dictionary name text) s e in subst P m.2 (of_literal text m.0 m.1)

    filled_by_holds : (parts : List Part) (o : Option (List ℕ)) (s : Source)
        → elim o [ Some text ↦ option_map source.Literal (literal profile dictionary name text) | None ↦ Some (text_source profile name parts) ] ≡ Some s → P s
    filled_by_holds parts (Some text) s e = literal_holds text s e
    filled_by_holds parts None s e = subst P (some_is (text_source profile name parts) s e) (of_text parts)

    filled_holds : (parts : List Part) (s : Source) → filled_source profile dictionary name parts ≡ Some s → P s
    unfolding filled_source
    filled_holds parts s e = filled_by_holds parts (whole_text parts) s e

    source_of_holds : (w : Written) → IsWritten w → (s : Source) → SourceOf profile dictionary name w s → P s
    source_of_holds (written.Literal value) is s h = subst P (sym h) (of_literal is.0 value is.1)
    source_of_holds (written.Double text) is s h = filled_holds h.1 s h.3
    source_of_holds (written.Instance found) is s h = subst P (sym h) (of_instance found)

    pub value_holds : Holds P (ValueIs profile dictionary name)
    value_holds p s rest h = source_of_holds h.0 (written_holds p h.0 rest h.1) s h.2
