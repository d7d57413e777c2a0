-- Which texts spell octets by pairs of hexadecimal digits.
use Rattle.std.proofs.Common.{◌≡◌, ◌%◌, ℕ, true, false, List, length, Option, Some, None, is_some, Result, Ok, Err, refl}
use Rattle.std.specs.List.{list_all}
use Rattle.std.specs.Option.{option_map, option_map_or}
use Rattle.std.specs.Result.{result_ok}
use Rattle.std.proofs.lemmas.List.Sums.{AllPass-from_list_all, list_all-from_AllPass}
use Rattle.hex.specs.Hex.{decode_of, is_hex_digit}
use Rattle.hex.specs.declared.error.FromHexError.{FromHexError}
use Rattle.hex.proofs.HexLemmas.{decode_of-digits, decode_of-ok}
use Rattle.avp_lists.specs.declared.pairs.Value.TheVariants.{Bytes}
use Rattle.avp_dict.specs.Octets.{keeps_octets}

pub pairs_spell : (text : List ℕ) → length text % 2 ≡ 0 → list_all is_hex_digit text ≡ true → is_some (result_ok (decode_of text)) ≡ true
pairs_spell text even all =
    let ok = decode_of-digits text even (AllPass-from_list_all is_hex_digit text all) in
    rw ok.1 refl

pub others_spell_none : (text : List ℕ) → list_all is_hex_digit text ≡ false → result_ok (decode_of text) ≡ None
others_spell_none text h = go (decode_of text) refl
  where
    go : (r : Result (List ℕ) FromHexError) → decode_of text ≡ r → result_ok r ≡ None
    go (Err e) at = refl
    go (Ok os) at =
        let ok = decode_of-ok text os at in
        let all = list_all-from_AllPass is_hex_digit text ok.1 in
        absurd (cc)

-- octets that are spelled are kept
pub bytes_kept : (o : Option (List ℕ)) → is_some o ≡ true → option_map_or keeps_octets (option_map Bytes o) false ≡ true
bytes_kept (Some os) some = refl
bytes_kept None some = absurd (cc)
