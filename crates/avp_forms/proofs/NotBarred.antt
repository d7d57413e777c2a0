-- A name under which a text stands for a value may be written.
use Rattle.std.proofs.Common.{◌≡◌, false, true, cond, List, ℕ, Ok, Err, refl}
use Rattle.avp_lists.specs.declared.pairs.Value.{Value}
use Rattle.avp_dict.specs.Dictionary.{Dictionary}
use Rattle.avp_dict.specs.Spellings.{is_barred, spelled, unless_long, value_spelled}
use Rattle.avp_dict.specs.declared.entries.Named.{Named}
use Rattle.avp_dict.specs.declared.value.faults.ValueFault.TheVariants.{NotWritable}

pub not_barred : (d : Dictionary) (name : Named) (text : List ℕ) (value : Value) → value_spelled name text d ≡ Ok value → is_barred name d ≡ false
unfolding value_spelled
not_barred d name text value e =
    elim (is_barred name d) as (λ b. cond b (Err NotWritable) (unless_long name.id d (spelled name text d)) ≡ Ok value → b ≡ false) [ true ↦ λ h. absurd (cc) | false ↦ λ h. refl ] e
