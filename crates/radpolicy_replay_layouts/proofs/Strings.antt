-- A text as a JSON string, whether it is UTF-8 or not.
use Rattle.std.proofs.Common.{◌≡◌, ℕ, Bool, true, false, if◌then◌else◌, List, ◌++◌, Result, OnOk, IsUtf8, refl}
use Rattle.std.specs.Str.{is_utf8}
use Rattle.std.specs.declared.alloc.AllocError.{AllocError}
use Rattle.std.proofs.lemmas.Str.{IsUtf8-from_is_utf8, is_utf8-from_IsUtf8}
use Rattle.radpolicy_common.specs.JsonStrings.{json_octets, json_string}
use Rattle.radpolicy_common.specs.declared.json_strings.Escaping.TheVariants.{Plain}
use Rattle.radpolicy_replay_layouts.specs.JsonTexts.{string}

said_by : (test : Bool) (result : Result (Unit {0}) AllocError) (octets old new : List ℕ) → is_utf8 octets ≡ test → (IsUtf8 octets → OnOk result (new ≡ old ++ json_string Plain octets)) → (¬ (IsUtf8 octets) → OnOk result (new ≡ old ++ json_octets octets)) → OnOk result (new ≡ old ++ (if test then json_string Plain octets else json_octets octets))
said_by true result octets old new is text other = text (IsUtf8-from_is_utf8 octets is)
said_by false result octets old new is text other = other (λ utf8. cc (is, is_utf8-from_IsUtf8 octets utf8))

pub string_said : (result : Result (Unit {0}) AllocError) (octets old new : List ℕ) → (IsUtf8 octets → OnOk result (new ≡ old ++ json_string Plain octets)) → (¬ (IsUtf8 octets) → OnOk result (new ≡ old ++ json_octets octets)) → OnOk result (new ≡ old ++ string octets)
string_said result octets old new text other = said_by (is_utf8 octets) result octets old new refl text other
