-- The line of a text's first token, by the line ends before it, and the names and values among tokens, one token after another.
use Rattle.std.proofs.Common.{◌≡◌, ◌≤◌, ◌∙◌, ℕ, suc, ◌+◌, ◌-◌, Bool, true, false, List, [], ◌∷◌, ◌++◌, length, take, Option, Some, None, refl, sym, ap, append_assoc, arith}
use Rattle.std.specs.Prelude.{cond, count_by, ◌||◌, ◌==◌}
use Rattle.std.proofs.lemmas.List.{length-take}
use Rattle.std.proofs.lemmas.List.Sums.{count_by-le-length, sum_by-cons}
use Rattle.avp_dict.specs.Ascii.{carriage_return, line_feed, number_sign, space, tab}
use Rattle.avp_dict.specs.Dictionary.{Dictionary}
use Rattle.avp_dict.specs.Lines.{is_line_end}
use Rattle.avp_forms.specs.declared.profiles.Profile.{Profile}
use Rattle.avp_unlang.specs.Faults.{from_token}
use Rattle.avp_unlang.specs.Places.{Place, max_size}
use Rattle.avp_unlang.specs.Tokens.{next_token, passed, skipped, token_in}
use Rattle.avp_unlang.specs.declared.text.tokens.Token.{Token}
use Rattle.avp_unlang.proofs.ReachedTokens.{skipped_same}
use Rattle.policy_warnings.specs.BareNames.{bare_names_from, is_bare_name}
use Rattle.policy_warnings.specs.Warnings.{warning_if}
use Rattle.policy_warnings.specs.WrittenValues.{token_warnings, written_reason, written_values_from}
use Rattle.policy_warnings.specs.declared.warnings.Reason.TheVariants.{BareName}
use Rattle.policy_warnings.specs.declared.warnings.Warning.{Warning}

abbrev skipped_by : Option (ℕ × Bool) → ℕ → ℕ → List ℕ → ℕ × List ℕ
skipped_by o line c cs = elim o as (λ _. ℕ × List ℕ) [ None ↦ (line, c ∷ cs) | Some p ↦ skipped p.0 p.1 cs ]

-- the line ends before what is left
abbrev ends_before : List ℕ → List ℕ → ℕ
ends_before text rest = count_by is_line_end (take (length text - length rest) text)

record IsCounted (line : ℕ) (text : List ℕ) (found : ℕ × List ℕ) : Type 0 where
  shorter : length found.1 ≤ length text
  line_is : found.0 ≡ line + ends_before text found.1

one_more : (n line k m d : ℕ) → n ≡ line + 1 + k → m ≡ d + k → d ≡ 1 → n ≡ line + m
one_more n line k m d e f g = omega (arith, e, f, g)

no_more : (n line k m d : ℕ) → n ≡ line + k → m ≡ d + k → d ≡ 0 → n ≡ line + m
no_more n line k m d e f g = omega (arith, e, f, g)

front_of : (c : ℕ) (cs rest : List ℕ) → length rest ≤ length cs → ends_before (c ∷ cs) rest ≡ cond (is_line_end c) 1 0 + ends_before cs rest
front_of c cs rest within =
    let more : suc (length cs) - length rest ≡ suc (length cs - length rest) = omega (arith, within) in
    ap (λ n. count_by is_line_end (take n (c ∷ cs))) more ∙ sum_by-cons (λ x. cond (is_line_end x) 1 0) c (take (length cs - length rest) cs)

nothing_before : (text : List ℕ) → ends_before text text ≡ 0
nothing_before text =
    let none : length text - length text ≡ 0 = omega arith in ap (λ n. count_by is_line_end (take n text)) none

from_here : (line : ℕ) (text : List ℕ) → IsCounted line text (line, text)
from_here line text = record { shorter = omega arith; line_is = no_more line line 0 (ends_before text text) 0 (omega arith) (nothing_before text) refl }

counted : (text : List ℕ) (line : ℕ) (comment : Bool) → IsCounted line text (skipped line comment text)
unfolding passed
counted [] line comment = from_here line []
counted (c ∷ cs) line comment = by_tests (λ n goes_on. counted cs n goes_on) (c == line_feed) (comment || c == number_sign) (c == space || c == tab || c == carriage_return) refl where
  by_tests : ((n : ℕ) (goes_on : Bool) → IsCounted n cs (skipped n goes_on cs)) → (feed mark blank : Bool) → is_line_end c ≡ feed
      → IsCounted line (c ∷ cs) (skipped_by (cond feed (Some (line + 1, false)) (cond mark (Some (line, true)) (cond blank (Some (line, false)) None))) line c cs)
  by_tests more true mark blank is =
      let h = more (line + 1) false in
      let rest : List ℕ = (skipped (line + 1) false cs).1 in
      record {
        shorter = omega (arith, h.shorter);
        line_is = one_more (skipped (line + 1) false cs).0 line (ends_before cs rest) (ends_before (c ∷ cs) rest) (cond (is_line_end c) 1 0)
            h.line_is (front_of c cs rest h.shorter) (ap (λ b. cond b 1 0) is);
      }
  by_tests more false true blank is =
      let h = more line true in
      let rest : List ℕ = (skipped line true cs).1 in
      record {
        shorter = omega (arith, h.shorter);
        line_is = no_more (skipped line true cs).0 line (ends_before cs rest) (ends_before (c ∷ cs) rest) (cond (is_line_end c) 1 0)
            h.line_is (front_of c cs rest h.shorter) (ap (λ b. cond b 1 0) is);
      }
  by_tests more false false true is =
      let h = more line false in
      let rest : List ℕ = (skipped line false cs).1 in
      record {
        shorter = omega (arith, h.shorter);
        line_is = no_more (skipped line false cs).0 line (ends_before cs rest) (ends_before (c ∷ cs) rest) (cond (is_line_end c) 1 0)
            h.line_is (front_of c cs rest h.shorter) (ap (λ b. cond b 1 0) is);
      }
  by_tests more false false false is = from_here line (c ∷ cs)

pub line_of_token : (line : ℕ) (text : List ℕ) → (skipped line false text).0 ≡ line + count_by is_line_end (take (length text - length (from_token text)) text)
line_of_token line text =
    (counted text line false).line_is ∙ ap (λ rest. line + ends_before text rest) (skipped_same text line 1 false)

within_by : (n line k r t : ℕ) → n ≡ line + k → k ≤ t - r → r ≤ t → n + r ≤ line + t
within_by n line k r t e f g = omega (arith, e, f, g)

pub line_within : (line : ℕ) (text : List ℕ) → (skipped line false text).0 + length (from_token text) ≤ line + length text
line_within line text =
    let rest : List ℕ = from_token text in
    let short : length rest ≤ length text = (counted text 1 false).shorter in
    let front : List ℕ = take (length text - length rest) text in
    let length_is = length-take (length text - length rest) text in
    let few : count_by is_line_end front ≤ length text - length rest = omega (arith, count_by-le-length is_line_end front, length_is, short) in
    within_by (skipped line false text).0 line (count_by is_line_end front) (length rest) (length text) (line_of_token line text) few short

-- ---- a word that is found

abbrev pub place : Profile → List ℕ → ℕ → Place
place profile text line = record { text = text; line = line; room = max_size; profile = profile }

module _ (profile : Profile) (line : ℕ) (rest start behind : List ℕ) (token : Token) (at : ℕ) (start_is : start ≡ from_token rest) (token_is : (token, behind) ≡ token_in profile start)
    (line_is : at ≡ (skipped line false rest).0) where
  abbrev placed : Token × List ℕ → ℕ → Token × Place
  placed found n = (found.0, place profile found.1 n)

  next_is : next_token (place profile rest line) ≡ (token, place profile behind at)
  unfolding next_token
  next_is =
      ap (λ text. placed (token_in profile text) (skipped line false rest).0) (skipped_same rest line 1 false ∙ sym start_is)
      ∙ ap (λ found. placed found (skipped line false rest).0) (sym token_is) ∙ ap (placed (token, behind)) (sym line_is)

  pub name_pushed : (d : Dictionary) (n : ℕ) (before : Token) (old pushed : List Warning) → pushed ≡ old ++ warning_if (is_bare_name d before token) at BareName
      → pushed ++ bare_names_from n d token (place profile behind at) ≡ old ++ bare_names_from (suc n) d before (place profile rest line)
  name_pushed d n before old pushed is =
      let more : List Warning = bare_names_from n d token (place profile behind at) in
      ap (λ (ws : List Warning). ws ++ more) is ∙ append_assoc old (warning_if (is_bare_name d before token) at BareName) more
      ∙ ap (λ (found : Token × Place). old ++ (warning_if (is_bare_name d before found.0) found.1.line BareName ++ bare_names_from n d found.0 found.1)) (sym next_is)

  pub value_pushed : (d : Dictionary) (n : ℕ) (name before : Token) (old pushed : List Warning)
      → pushed ≡ old ++ token_warnings at (written_reason profile d name before token) token
      → pushed ++ written_values_from n d before token (place profile behind at) ≡ old ++ written_values_from (suc n) d name before (place profile rest line)
  value_pushed d n name before old pushed is =
      let more : List Warning = written_values_from n d before token (place profile behind at) in
      ap (λ (ws : List Warning). ws ++ more) is ∙ append_assoc old (token_warnings at (written_reason profile d name before token) token) more
      ∙ ap (λ (found : Token × Place). old ++ (token_warnings found.1.line (written_reason profile d name before found.0) found.0 ++ written_values_from n d before found.0 found.1)) (sym next_is)
