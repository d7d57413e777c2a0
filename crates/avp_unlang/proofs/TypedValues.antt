-- Values that are spelled and read are of the types that the dictionary gives.
use Rattle.std.proofs.Common.{◌≡◌, ℕ, true, false, ◌&&◌, List, [], Option, None, Some, Ok, refl, ap, sym, arith}
use Rattle.std.specs.Option.{unwrap_or}
use Rattle.std.specs.Result.{result_ok}
use Rattle.std.proofs.lemmas.Grind.{common_steps}
use Rattle.hex.specs.Hex.{IsBytes}
use Rattle.avp_lists.specs.declared.pairs.AttrId.{AttrId}
use Rattle.avp_lists.specs.declared.pairs.Value.{Value}
use Rattle.avp_lists.specs.declared.pairs.Value.TheVariants as values
use Rattle.avp_dict.specs.declared.entries.Named.{Named}
use Rattle.avp_dict.specs.Dictionary.{Dictionary}
use Rattle.avp_dict.specs.Limits.{fits, is_known, is_typed, is_within}
use Rattle.avp_dict.specs.Names.{described}
use Rattle.avp_dict.specs.Octets.{read_value, value_of_octets}
use Rattle.avp_dict.specs.Requests.{pair_with}
use Rattle.avp_dict.specs.Sent.{is_raw}
use Rattle.avp_dict.specs.Spellings.{value_spelled}
use Rattle.avp_dict.proofs.Fitting.{fits_by, of_found, read_by_typed, value_holds}
use Rattle.avp_dict.proofs.OwnValues.{read_value_sized}

module _ (dictionary : Dictionary) where
  -- what a text spells under the name of a known id fits
  pub spelled_fits : (n : Named) (text : List ℕ) (v : Value) → is_known n.id dictionary ≡ true → value_spelled n text dictionary ≡ Ok v → fits (pair_with n v) dictionary ≡ true
  spelled_fits n text v known e =
      let P : Value → Type 0 = λ x. (is_typed n.id x dictionary && is_within n.id x dictionary) ≡ true in
      fits_by dictionary n v known (of_found dictionary P (result_ok (value_spelled n text dictionary)) v (ap result_ok e) (value_holds dictionary n text))

  -- no octets fit a known id
  pub nothing_fits : (id : AttrId) (os : List ℕ) → os ≡ [] → is_known id dictionary ≡ true → fits (record { id = id; value = values.Raw os }) dictionary ≡ true
  unfolding fits
  nothing_fits id os none known = rw (none, known) (grind (arith, common_steps))

  -- octets that stay raw are those that the type does not read
  pub read_none : (id : AttrId) (os : List ℕ) (v : Value) → v ≡ value_of_octets id os dictionary → is_raw v ≡ true → None ≡ read_value id os dictionary
  unfolding value_of_octets
  read_none id os v e raw = go (read_value id os dictionary) refl e
    where
      go : (o : Option Value) → read_value id os dictionary ≡ o → v ≡ unwrap_or o (values.Raw os) → None ≡ o
      go None read same = refl
      go (Some w) read same = let typed = (read_value_sized dictionary id os w read).0 in cc (ap is_raw same, raw, typed)

  pub read_some : (id : AttrId) (os : List ℕ) (v : Value) → v ≡ value_of_octets id os dictionary → is_raw v ≡ false → Some v ≡ read_value id os dictionary
  unfolding value_of_octets
  read_some id os v e typed = go (read_value id os dictionary) e
    where
      go : (o : Option Value) → v ≡ unwrap_or o (values.Raw os) → Some v ≡ o
      go None same = cc (ap is_raw same, typed)
      go (Some w) same = ap Some same

  -- octets that a type reads are of the type
  pub read_typed : (id : AttrId) (os : List ℕ) (v : Value) → IsBytes os → Some v ≡ read_value id os dictionary → is_typed id v dictionary ≡ true
  unfolding read_value
  read_typed id os v bytes e = of_found dictionary (λ w. is_typed id w dictionary ≡ true) (read_value id os dictionary) v (sym e) (read_by_typed dictionary id os bytes (described id dictionary) refl)
