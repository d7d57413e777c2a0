-- Values as they are written: literals, texts between double quotes, and references.
use Rattle.std.specs.Prelude.{◌≡◌, ℕ, List, Option, Some, None, if◌then◌else◌}
use Rattle.std.specs.Option.{option_and_then, option_map}
use Rattle.std.specs.Result.{result_ok}
use Rattle.avp_lists.specs.declared.pairs.Value.{Value}
use Rattle.avp_dict.specs.declared.entries.Named.{Named}
use Rattle.avp_dict.specs.declared.value.quotes.QuoteMark.TheVariants as quote
use Rattle.avp_dict.specs.Dictionary.{Dictionary}
use Rattle.avp_forms.specs.declared.profiles.Profile.{Profile}
use Rattle.avp_forms.specs.Written.{value_written}
use Rattle.avp_forms.specs.declared.targets.Target.{Target}
use Rattle.avp_dict.specs.Limits.{fits}
use Rattle.avp_dict.specs.Quotes.{single_quoted_octets}
use Rattle.avp_dict.specs.Requests.{pair_with}
use Rattle.avp_unlang.specs.declared.text.references.Reference.{Reference}
use Rattle.avp_unlang.specs.declared.text.tokens.Sign.TheVariants as sign
use Rattle.avp_unlang.specs.declared.text.tokens.Token.{Token}
use Rattle.avp_unlang.specs.declared.text.tokens.Token.TheVariants.{Operator, Word, Quoted}
use Rattle.avp_unlang.specs.declared.text.values.Written.{Written}
use Rattle.avp_unlang.specs.declared.text.values.Written.TheVariants.{Literal, Double, Instance}
use Rattle.avp_unlang.specs.Forms.{Form, Becomes, Gives}
use Rattle.avp_unlang.specs.Places.{Place}
use Rattle.avp_unlang.specs.References.{AlikeIs}
use Rattle.avp_unlang.specs.Tokens.{next_token}

abbrev pub fitting : Dictionary → Named → Value → Option Value
fitting dictionary name value = if fits (pair_with name value) dictionary then Some value else None

-- the value that a text stands for under a name; it fits the name's attribute
unfoldable pub literal : Profile → Dictionary → Target → List ℕ → Option Value
literal profile dictionary target text =
    option_and_then (fitting dictionary target.named)
    (result_ok (value_written profile target text None dictionary))

-- by its first token: a literal, a text between double quotes as it is, or after `&` a reference to values of the
-- name's type
abbrev pub WrittenFrom : Profile → Dictionary → Target → Token → Form Place Written
WrittenFrom profile dictionary target (Word text) after written rest =
    Becomes (option_map Literal (literal profile dictionary target text)) after written rest
WrittenFrom profile dictionary target (Quoted quote.Single text) after written rest =
    Becomes (option_map Literal (literal profile dictionary target (single_quoted_octets text)))
    after written rest
WrittenFrom profile dictionary target (Quoted quote.Double text) after written rest =
    Gives (Double text) after written rest
WrittenFrom profile dictionary target (Operator sign.Reference) after written rest =
    (found : Reference) × AlikeIs profile dictionary target.named.id after found rest
    × (written ≡ Instance found)
WrittenFrom profile dictionary target _ after written rest = ⊥

abbrev pub WrittenIs : Profile → Dictionary → Target → Form Place Written
WrittenIs profile dictionary target p written rest =
    WrittenFrom profile dictionary target (next_token p).0 (next_token p).1 written rest

-- a written value, and what is made of it
abbrev pub WrittenAs : {A : Type 0} → Profile → Dictionary → Target
    → (Written → A → Type 0) → Form Place A
WrittenAs profile dictionary target makes p x rest =
    (written : Written) × WrittenIs profile dictionary target p written rest × makes written x
