-- A name under which no value may be written is refused for that whatever the text, and no other name is.
use Rattle.std.proofs.Common.{◌≡◌, ◌↔◌, ℕ, Bool, true, false, cond, List, Option, Some, None, Result, Ok, Err, refl, ap, IsTrue}
use Rattle.std.specs.Option.{option_map}
use Rattle.std.specs.Result.{result_err, result_ok}
use Rattle.avp_lists.specs.declared.pairs.AttrId.{AttrId}
use Rattle.avp_lists.specs.declared.pairs.Value.{Value}
use Rattle.avp_dict.specs.declared.entries.Named.{Named}
use Rattle.avp_dict.specs.declared.value.faults.ValueFault.{ValueFault}
use Rattle.avp_dict.specs.declared.value.faults.ValueFault.TheVariants.{NotWritable, TooLong}
use Rattle.avp_dict.specs.Dictionary.{Dictionary}
use Rattle.avp_dict.specs.Limits.{is_within}
use Rattle.avp_dict.specs.Requests.{pair_named, pair_with, refusal_named}
use Rattle.avp_dict.specs.Spellings.{is_barred, spelled, unless_long, value_spelled}

-- the length of a value bars no name
pub length_bars_none : (id : AttrId) (d : Dictionary) (value : Option Value) → result_err (unless_long id d value) ≡ Some NotWritable → ⊥
length_bars_none id d None h = absurd (cc)
length_bars_none id d (Some v) h = by (is_within id v d) h
  where
    by : (b : Bool) → result_err (cond b (Ok v) (Err TooLong)) ≡ Some NotWritable → ⊥
    by true h = absurd (cc)
    by false h = absurd (cc)

pub barred_name : (name : Named) (text : List ℕ) (d : Dictionary) → IsTrue (is_barred name d) ↔ (refusal_named d text name ≡ Some NotWritable)
unfolding value_spelled
barred_name name text d = by (is_barred name d)
  where
    by : (b : Bool) → IsTrue b ↔ (result_err (cond b (Err NotWritable) (unless_long name.id d (spelled name text d))) ≡ Some NotWritable)
    by true = (λ h. refl, λ h. refl)
    by false = (λ h. absurd (cc), λ h. absurd (length_bars_none name.id d (spelled name text d) h))

pub barred_pair : (name : Named) (text : List ℕ) (d : Dictionary) → IsTrue (is_barred name d) → pair_named d text name ≡ None
unfolding value_spelled
barred_pair name text d h =
    ap (λ b. option_map (pair_with name) (result_ok (cond b (Err NotWritable) (unless_long name.id d (spelled name text d))))) h
