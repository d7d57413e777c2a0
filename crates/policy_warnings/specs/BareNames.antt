-- Words without `&` and without quotes that stand for an attribute on a server, and for a value here.
use Rattle.std.specs.Prelude.{ℕ, zero, suc, Bool, true, false, ◌&&◌, if◌then◌else◌, List, [], ◌∷◌, ◌++◌, drop, length, map, take, Option, Some, None, is_some}
use Rattle.avp_dict.specs.Dictionary.{Dictionary}
use Rattle.avp_dict.specs.Words.{same_name}
use Rattle.avp_forms.specs.Targets.{target_of}
use Rattle.avp_forms.specs.declared.profiles.Profile.TheVariants.{Wider}
use Rattle.avp_unlang.specs.Places.{Place, start_of}
use Rattle.avp_unlang.specs.Tokens.{next_token}
use Rattle.avp_unlang.specs.declared.text.tokens.Sign.{Sign}
use Rattle.avp_unlang.specs.declared.text.tokens.Sign.TheVariants as sign
use Rattle.avp_unlang.specs.declared.text.tokens.Token.{Token}
use Rattle.avp_unlang.specs.declared.text.tokens.Token.TheVariants.{End, Operator, Word}
use Rattle.policy_warnings.specs.Warnings.{warning_if}
use Rattle.policy_warnings.specs.declared.bare_words.TheConstants.{LIST_FRONTS, REQUEST_FRONTS}
use Rattle.policy_warnings.specs.declared.warnings.Reason.TheVariants.{BareName}
use Rattle.policy_warnings.specs.declared.warnings.Warning.{Warning}

-- ---- names on a server

-- what a word has after this front, letters in either case
abbrev pub after_folded : List ℕ → List ℕ → Option (List ℕ)
after_folded front word =
    if same_name (take (length front) word) front then Some (drop (length front) word) else None

-- the word after the first of the fronts that it begins with, if there is one
abbrev pub after_one_of : List (List ℕ) → List ℕ → List ℕ
after_one_of [] word = word
after_one_of (front ∷ fronts) word = elim (after_folded front word) [
  | None ↦ after_one_of fronts word
  | Some rest ↦ rest
]

-- `outer.` and those of the other requests that a server knows
unfoldable pub request_fronts : List (List ℕ)
request_fronts = map (λ front. front.now) REQUEST_FRONTS

-- `reply:` and those of the other lists that it knows
unfoldable pub list_fronts : List (List ℕ)
list_fronts = map (λ front. front.now) LIST_FRONTS

-- a word that a server takes for an attribute: its name or number, with a request, a list and a tag or without
unfoldable pub names_attribute : Dictionary → List ℕ → Bool
names_attribute dictionary word =
    is_some (target_of Wider dictionary (after_one_of list_fronts (after_one_of request_fronts word)))

-- ---- where words are values

-- the operators of comparisons and update lines; `!*` has no value
abbrev pub takes_value : Sign → Bool
takes_value sign.AddNew = true
takes_value sign.Replace = true
takes_value sign.Append = true
takes_value sign.Prepend = true
takes_value sign.RemoveEqual = true
takes_value sign.Equal = true
takes_value sign.Differs = true
takes_value sign.Less = true
takes_value sign.AtMost = true
takes_value sign.Greater = true
takes_value sign.AtLeast = true
takes_value _ = false

-- one token after another: such an operator, and a word that a server takes for an attribute
abbrev pub is_bare_name : Dictionary → Token → Token → Bool
is_bare_name dictionary (Operator s) (Word word) = takes_value s && names_attribute dictionary word
is_bare_name dictionary _ _ = false

-- among so many tokens from a place on, after the token before it: each with the line that it is on
abbrev pub bare_names_from : ℕ → Dictionary → Token → Place → List Warning
bare_names_from zero dictionary before p = []
bare_names_from (suc n) dictionary before p =
    let found = next_token p in
    warning_if (is_bare_name dictionary before found.0) found.1.line BareName
    ++ bare_names_from n dictionary found.0 found.1

-- of a policy's text, which has no more tokens than octets
abbrev pub bare_names : Dictionary → List ℕ → List Warning
bare_names dictionary text = bare_names_from (length text) dictionary End (start_of text)
