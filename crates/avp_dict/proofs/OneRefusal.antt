-- Tokens of a line are refused at one place, for one thing.
use Rattle.std.proofs.Common.{◌≡◌, ◌∙◌, ℕ, suc, ◌+◌, ◌<◌, ◌≤◌, nat_lt, true, false, cond, List, [], ◌∷◌, ◌++◌, Option, Some, None, Result, Ok, Err, length, refl, sym, ap, subst, arith, option_and_then, option_map}
use Rattle.std.specs.Option.{unwrap_or}
use Rattle.std.specs.Result.{result_err, result_ok}
use Rattle.std.proofs.lemmas.Grind.{common_steps}
use Rattle.avp_lists.specs.States.{max_pairs}
use Rattle.avp_lists.specs.declared.pairs.Pair.{Pair}
use Rattle.avp_dict.specs.RefusedPlaces.{IsRefusedFor, begins_with_comma, begins_with_sign, first_text, is_run, of_pair, pairs_before}
use Rattle.avp_dict.specs.RefusedPlaces.IsRefusedFor.{no_comma, no_name, no_sign, no_value, not_value, not_writable, too_long, too_many, unknown}
use Rattle.avp_dict.specs.RequestLines.{Assignment, Comma, Run, Sign, Token, assigned, joined, pairs_of, value_text}
use Rattle.avp_dict.specs.Requests.{each_pair, pair_assigned}
use Rattle.avp_dict.specs.declared.request.faults.LineKind.{LineKind}
use Rattle.avp_dict.specs.declared.request.faults.LineKind.TheVariants as kinds
use Rattle.avp_dict.specs.declared.request.tokens.Side.{Side}
use Rattle.avp_dict.specs.declared.value.faults.ValueFault.{ValueFault}
use Rattle.avp_dict.specs.declared.value.faults.ValueFault.TheVariants as faults
use Rattle.avp_dict.proofs.PairSteps.{one_spelled, spelled_joined}

-- ---- parts of options

pub some_is : {X : Type 0} (x y : X) → Some x ≡ Some y → x ≡ y
some_is x y h = ap (λ o. unwrap_or o x) h

err_is : {A E : Type 0} (r : Result A E) (x y : E) → r ≡ Err x → r ≡ Err y → x ≡ y
err_is r x y h h' = some_is x y (sym (ap result_err h) ∙ ap result_err h')

ok_is : {A E : Type 0} (r : Result A E) (x y : A) → r ≡ Ok x → r ≡ Ok y → x ≡ y
ok_is r x y h h' = some_is x y (sym (ap result_ok h) ∙ ap result_ok h')

pub joined_parts : {X : Type 0} (x y : Option (List X)) (whole : List X) → joined x y ≡ Some whole → (xs : List X) × (ys : List X) × (x ≡ Some xs) × (y ≡ Some ys) × (whole ≡ xs ++ ys)
joined_parts None y whole h = absurd (cc)
joined_parts (Some xs) None whole h = absurd (cc)
joined_parts (Some xs) (Some ys) whole h = (xs, ys, refl, refl, sym (some_is (xs ++ ys) whole h))

-- ---- the first pair of tokens

-- how many tokens are before the one that is refused, and what for; or what follows the pair and its comma
abbrev Step : Type 0
Step = Result (List Token) (ℕ × LineKind)

abbrev value_kind : Option ValueFault → ℕ × LineKind
value_kind (Some faults.NotWritable) = (0, kinds.NotWritable)
value_kind (Some faults.NotValue) = (2, kinds.NotValue)
value_kind (Some faults.TooLong) = (2, kinds.TooLong)
value_kind _ = (0, kinds.Memory)

abbrev after_value : List Token → Step
after_value [] = Ok []
after_value (Comma ∷ tokens) = Ok tokens
after_value _ = Err (3, kinds.Unreadable)

abbrev with_pair : ℕ → Option ValueFault → List Token → Option Pair → Step
with_pair count refusal tokens None = Err (value_kind refusal)
with_pair count refusal tokens (Some pair) = cond (nat_lt count max_pairs) (after_value tokens) (Err (0, kinds.TooMany))

module _ {T : Type 0} (target_of : List ℕ → Option T) (pair_of : T → List ℕ → Option Pair) (refusal_of : T → List ℕ → Option ValueFault) where
  abbrev with_text : ℕ → T → List Token → Option (List ℕ) → Step
  with_text count target tokens None = Err (2, kinds.Unreadable)
  with_text count target tokens (Some text) = with_pair count (refusal_of target text) tokens (pair_of target text)

  abbrev after_sign : ℕ → T → List Token → Step
  after_sign count target [] = Err (2, kinds.Unreadable)
  after_sign count target (value ∷ tokens) = with_text count target tokens (value_text value)

  abbrev after_target : ℕ → T → List Token → Step
  after_target count target (Sign ∷ tokens) = after_sign count target tokens
  after_target count target _ = Err (1, kinds.Unreadable)

  abbrev after_name : ℕ → Option T → List Token → Step
  after_name count None tokens = Err (0, kinds.Unknown)
  after_name count (Some target) tokens = after_target count target tokens

  abbrev pub first_step : ℕ → List Token → Step
  first_step count [] = Ok []
  first_step count (Run name ∷ tokens) = after_name count (target_of name) tokens
  first_step count _ = Err (0, kinds.Unreadable)

  value_step : (count : ℕ) (name : List ℕ) (value : Token) (tokens : List Token) (target : T) (text : List ℕ) → target_of name ≡ Some target → value_text value ≡ Some text → first_step count (Run name ∷ Sign ∷ value ∷ tokens) ≡ with_pair count (refusal_of target text) tokens (pair_of target text)
  value_step count name value tokens target text known is =
      ap (λ t. after_name count t (Sign ∷ value ∷ tokens)) known ∙ ap (with_text count target tokens) is

  -- what a pair has is of its target and its text
  pair_parts : {X : Type 0} (of : T → List ℕ → Option X) (name : List ℕ) (value : Token) (found : X) (name_is : Option T) (text_is : Option (List ℕ)) → target_of name ≡ name_is → value_text value ≡ text_is → of_pair target_of of name value ≡ Some found → (target : T) × (text : List ℕ) × (target_of name ≡ Some target) × (value_text value ≡ Some text) × (of target text ≡ Some found)
  pair_parts of name value found None text_is known is h = absurd (let none = sym h ∙ ap (option_and_then (λ target. option_and_then (of target) (value_text value))) known in cc)
  pair_parts of name value found (Some target) None known is h = absurd (let none = sym h ∙ ap (option_and_then (λ target. option_and_then (of target) (value_text value))) known ∙ ap (option_and_then (of target)) is in cc)
  pair_parts of name value found (Some target) (Some text) known is h =
      (target, text, known, is, sym (ap (option_and_then (λ target. option_and_then (of target) (value_text value))) known ∙ ap (option_and_then (of target)) is) ∙ h)

  pair_step : (count : ℕ) (name : List ℕ) (value : Token) (tokens : List Token) (pair : Pair) → of_pair target_of pair_of name value ≡ Some pair → first_step count (Run name ∷ Sign ∷ value ∷ tokens) ≡ cond (nat_lt count max_pairs) (after_value tokens) (Err (0, kinds.TooMany))
  pair_step count name value tokens pair h =
      let parts = pair_parts pair_of name value pair (target_of name) (value_text value) refl refl h in
      value_step count name value tokens parts.0 parts.1 parts.2 parts.3 ∙ ap (with_pair count (refusal_of parts.0 parts.1) tokens) parts.4

  -- a pair and its comma are read where there is room
  pub comma_step : (count : ℕ) (name : List ℕ) (value : Token) (tokens : List Token) (pair : Pair) → of_pair target_of pair_of name value ≡ Some pair → count < max_pairs → first_step count (Run name ∷ Sign ∷ value ∷ Comma ∷ tokens) ≡ Ok tokens
  comma_step count name value tokens pair h room =
      let fits : nat_lt count max_pairs ≡ true = grind (arith, common_steps) in
      pair_step count name value (Comma ∷ tokens) pair h ∙ ap (λ b. cond b (after_value (Comma ∷ tokens)) (Err (0, kinds.TooMany))) fits

  last_step : (count : ℕ) (name : List ℕ) (value : Token) (pair : Pair) → of_pair target_of pair_of name value ≡ Some pair → count < max_pairs → first_step count (Run name ∷ Sign ∷ value ∷ []) ≡ Ok []
  last_step count name value pair h room =
      let fits : nat_lt count max_pairs ≡ true = grind (arith, common_steps) in
      pair_step count name value [] pair h ∙ ap (λ b. cond b (after_value []) (Err (0, kinds.TooMany))) fits

  other_step : (count : ℕ) (token : Token) (tokens : List Token) → is_run token ≡ false → first_step count (token ∷ tokens) ≡ Err (0, kinds.Unreadable)
  other_step count (Run name) tokens h = absurd (cc)
  other_step count _ tokens h = refl

  sign_step : (count : ℕ) (target : T) (tokens : List Token) → begins_with_sign tokens ≡ false → after_target count target tokens ≡ Err (1, kinds.Unreadable)
  sign_step count target (Sign ∷ tokens) h = absurd (cc)
  sign_step count target _ h = refl

  no_value_step : (count : ℕ) (target : T) (tokens : List Token) → first_text tokens ≡ None → after_sign count target tokens ≡ Err (2, kinds.Unreadable)
  no_value_step count target [] h = refl
  no_value_step count target (value ∷ tokens) h = ap (with_text count target tokens) h

  no_comma_step : (token : Token) (tokens : List Token) → begins_with_comma (token ∷ tokens) ≡ false → after_value (token ∷ tokens) ≡ Err (3, kinds.Unreadable)
  no_comma_step Comma tokens h = absurd (cc)
  no_comma_step _ tokens h = refl

  no_pair : (name : List ℕ) (value : Token) (target : T) (text : List ℕ) → target_of name ≡ Some target → value_text value ≡ Some text → of_pair target_of pair_of name value ≡ None → pair_of target text ≡ None
  no_pair name value target text known is h =
      sym (ap (option_and_then (λ target. option_and_then (pair_of target) (value_text value))) known ∙ ap (option_and_then (pair_of target)) is) ∙ h

  refused_step : (count : ℕ) (name : List ℕ) (value : Token) (tokens : List Token) (fault : ValueFault) → of_pair target_of pair_of name value ≡ None → of_pair target_of refusal_of name value ≡ Some fault → first_step count (Run name ∷ Sign ∷ value ∷ tokens) ≡ Err (value_kind (Some fault))
  refused_step count name value tokens fault none h =
      let parts = pair_parts refusal_of name value fault (target_of name) (value_text value) refl refl h in
      value_step count name value tokens parts.0 parts.1 parts.2 parts.3
      ∙ ap (with_pair count (refusal_of parts.0 parts.1) tokens) (no_pair name value parts.0 parts.1 parts.2 parts.3 none)
      ∙ ap (λ f. Err (value_kind f)) parts.4

  -- what tokens are refused for, and after how many
  pub step_refused : (count : ℕ) (kind : LineKind) (inner : List Token) (side : Side) (tokens : List Token) → IsRefusedFor target_of pair_of refusal_of count kind inner side tokens → first_step count (inner ++ tokens) ≡ Err (length inner, kind)
  step_refused count kind inner side tokens (unknown name others none) = ap (λ t. after_name count t others) none
  step_refused count kind inner side tokens (not_writable name value others none refused) = refused_step count name value others faults.NotWritable none refused
  step_refused count kind inner side tokens (not_value name value others none refused) = refused_step count name value others faults.NotValue none refused
  step_refused count kind inner side tokens (too_long name value others none refused) = refused_step count name value others faults.TooLong none refused
  step_refused count kind inner side tokens (too_many name value pair others read full) =
      pair_step count name value others pair read ∙ ap (λ n. cond (nat_lt n max_pairs) (after_value others) (Err (0, kinds.TooMany))) full
  step_refused count kind inner side tokens (no_name token others other) = other_step count token others other
  step_refused count kind inner side tokens (no_sign name target others known none) = ap (λ t. after_name count t others) known ∙ sign_step count target others none
  step_refused count kind inner side tokens (no_value name target others known none) = ap (λ t. after_name count t (Sign ∷ others)) known ∙ no_value_step count target others none
  step_refused count kind inner side tokens (no_comma name value pair token others read room none) =
      pair_step count name value (token ∷ others) pair read ∙ ap (λ b. cond b (after_value (token ∷ others)) (Err (0, kinds.TooMany))) room ∙ no_comma_step token others none

  -- ---- pairs that are read

  -- whole pairs with their commas
  pub data IsGroups : List Pair → List Token → Type 0 where
    none : IsGroups [] []
    group : (name : List ℕ) (value : Token) (pair : Pair) (pairs : List Pair) (tokens : List Token) → of_pair target_of pair_of name value ≡ Some pair → IsGroups pairs tokens → IsGroups (pair ∷ pairs) (Run name ∷ Sign ∷ value ∷ Comma ∷ tokens)

  -- the tokens of a line that is read
  pub data IsWhole : List Pair → List Token → Type 0 where
    end : IsWhole [] []
    last : (name : List ℕ) (value : Token) (pair : Pair) → of_pair target_of pair_of name value ≡ Some pair → IsWhole (pair ∷ []) (Run name ∷ Sign ∷ value ∷ [])
    more : (name : List ℕ) (value : Token) (pair : Pair) (pairs : List Pair) (tokens : List Token) → of_pair target_of pair_of name value ≡ Some pair → IsWhole pairs tokens → IsWhole (pair ∷ pairs) (Run name ∷ Sign ∷ value ∷ Comma ∷ tokens)

  abbrev one : Assignment → Option Pair
  one = pair_assigned target_of pair_of

  -- an assignment has a pair
  assigned_pair : (name : List ℕ) (value : Token) (pairs : List Pair) (text : Option (List ℕ)) (name_is : Option T) → value_text value ≡ text → target_of name ≡ name_is → option_and_then (each_pair one) (option_map (assigned name) text) ≡ Some pairs → (pair : Pair) × (of_pair target_of pair_of name value ≡ Some pair) × (pairs ≡ pair ∷ [])
  assigned_pair name value pairs None name_is is known h = absurd (cc)
  assigned_pair name value pairs (Some text) None is known h = absurd (let none = sym h ∙ one_spelled target_of pair_of name (Some text) None known in cc)
  assigned_pair name value pairs (Some text) (Some target) is known h = go (pair_of target text) refl
    where
      go : (found : Option Pair) → pair_of target text ≡ found → (pair : Pair) × (of_pair target_of pair_of name value ≡ Some pair) × (pairs ≡ pair ∷ [])
      go None e = absurd (let none = sym h ∙ one_spelled target_of pair_of name (Some text) (Some target) known ∙ ap (option_map (λ p. p ∷ [])) e in cc)
      go (Some pair) e = (
        pair,
        ap (option_and_then (λ target. option_and_then (pair_of target) (value_text value))) known ∙ ap (option_and_then (pair_of target)) is ∙ e,
        some_is pairs (pair ∷ []) (sym h ∙ one_spelled target_of pair_of name (Some text) (Some target) known ∙ ap (option_map (λ p. p ∷ [])) e),
      )

  pub groups_of : (tokens : List Token) (pairs : List Pair) → option_and_then (each_pair one) (pairs_before tokens) ≡ Some pairs → IsGroups pairs tokens
  unfolding pairs_before each_pair
  groups_of [] pairs h = subst (λ ps. IsGroups ps []) (some_is [] pairs h) none
  groups_of (Run name ∷ Sign ∷ value ∷ Comma ∷ tokens) pairs h =
      let parts = joined_parts (option_and_then (each_pair one) (option_map (assigned name) (value_text value))) (option_and_then (each_pair one) (pairs_before tokens)) pairs
      (sym (spelled_joined one (option_map (assigned name) (value_text value)) (pairs_before tokens)) ∙ h) in
      let first = assigned_pair name value parts.0 (value_text value) (target_of name) refl refl parts.2 in
      subst (λ ps. IsGroups ps (Run name ∷ Sign ∷ value ∷ Comma ∷ tokens)) (sym (parts.4 ∙ ap (λ ps. ps ++ parts.1) first.2))
      (group name value first.0 parts.1 tokens first.1 (groups_of tokens parts.1 parts.3))
  groups_of _ pairs h = absurd (cc)

  pub whole_of : (tokens : List Token) (pairs : List Pair) → option_and_then (each_pair one) (pairs_of tokens) ≡ Some pairs → IsWhole pairs tokens
  unfolding pairs_of each_pair
  whole_of [] pairs h = subst (λ ps. IsWhole ps []) (some_is [] pairs h) end
  whole_of (Run name ∷ Sign ∷ value ∷ []) pairs h =
      let first = assigned_pair name value pairs (value_text value) (target_of name) refl refl h in
      subst (λ ps. IsWhole ps (Run name ∷ Sign ∷ value ∷ [])) (sym first.2) (last name value first.0 first.1)
  whole_of (Run name ∷ Sign ∷ value ∷ Comma ∷ tokens) pairs h =
      let parts = joined_parts (option_and_then (each_pair one) (option_map (assigned name) (value_text value))) (option_and_then (each_pair one) (pairs_of tokens)) pairs
      (sym (spelled_joined one (option_map (assigned name) (value_text value)) (pairs_of tokens)) ∙ h) in
      let first = assigned_pair name value parts.0 (value_text value) (target_of name) refl refl parts.2 in
      subst (λ ps. IsWhole ps (Run name ∷ Sign ∷ value ∷ Comma ∷ tokens)) (sym (parts.4 ∙ ap (λ ps. ps ++ parts.1) first.2))
      (more name value first.0 parts.1 tokens first.1 (whole_of tokens parts.1 parts.3))
  whole_of _ pairs h = absurd (cc)

  pub whole_count : (pairs others : List Pair) (tokens : List Token) → IsWhole pairs tokens → IsWhole others tokens → length pairs ≡ length others
  whole_count pairs others tokens end end = refl
  whole_count pairs others tokens (last name value pair h) (last name' value' pair' h') = refl
  whole_count pairs others tokens (more name value pair ps rest h later) (more name' value' pair' ps' rest' h' later') = omega (arith, whole_count ps ps' rest later later')

  -- ---- two refusals of a line

  abbrev IsRefusedAfter : ℕ → List Token → ℕ × LineKind → Type 0
  IsRefusedAfter count tokens e = first_step count tokens ≡ Err e

  more_count : (count : ℕ) (pair : Pair) (pairs : List Pair) (tokens : List Token) (e : ℕ × LineKind) → IsRefusedAfter (count + length (pair ∷ pairs)) tokens e → IsRefusedAfter (suc count + length pairs) tokens e
  more_count count pair pairs tokens e h =
      let same : suc count + length pairs ≡ count + length (pair ∷ pairs) = omega arith in
      ap (λ n. first_step n tokens) same ∙ h

  none_count : (count : ℕ) (tokens : List Token) (e : ℕ × LineKind) → IsRefusedAfter (count + length {A = Pair} []) tokens e → IsRefusedAfter count tokens e
  none_count count tokens e h =
      let same : count ≡ count + length {A = Pair} [] = omega arith in
      ap (λ n. first_step n tokens) same ∙ h

  -- a line that is refused is not read
  pub line_not_read : (count : ℕ) (pairs others : List Pair) (before rest : List Token) (e : ℕ × LineKind) → IsGroups pairs before → IsWhole others (before ++ rest) → count + length others ≤ max_pairs → IsRefusedAfter (count + length pairs) rest e → ⊥
  line_not_read count pairs others before rest e none end few h = absurd (let it = none_count count [] e h in cc)
  line_not_read count pairs others before rest e none (last name value pair found) few h =
      absurd (let it = sym (none_count count (Run name ∷ Sign ∷ value ∷ []) e h) ∙ last_step count name value pair found (omega (arith, few)) in cc)
  line_not_read count pairs others before rest e none (more name value pair ps tokens found later) few h =
      absurd (let it = sym (none_count count (Run name ∷ Sign ∷ value ∷ Comma ∷ tokens) e h) ∙ comma_step count name value tokens pair found (omega (arith, few)) in cc)
  line_not_read count pairs others before rest e (group name value pair ps tokens found later) (more name' value' pair' ps' tokens' found' later') few h =
      line_not_read (suc count) ps ps' tokens rest e later later' (omega (arith, few)) (more_count count pair ps rest e h)

  -- nothing is refused of no token
  pub none_refused : (count : ℕ) (pairs : List Pair) (before rest : List Token) (e : ℕ × LineKind) → IsGroups pairs before → before ++ rest ≡ [] → IsRefusedAfter count rest e → ⊥
  none_refused count pairs before rest e none is h = absurd (let it = sym h ∙ ap (first_step count) is in cc)
  none_refused count pairs before rest e (group name value pair ps tokens found later) is h = absurd (cc)

  -- both are after as many tokens, for the same
  pub same_refusal : (count : ℕ) (pairs others : List Pair) (before before' rest rest' : List Token) (e e' : ℕ × LineKind) → IsGroups pairs before → IsGroups others before' → before ++ rest ≡ before' ++ rest' → count + length pairs ≤ max_pairs → count + length others ≤ max_pairs → IsRefusedAfter (count + length pairs) rest e → IsRefusedAfter (count + length others) rest' e' → (length before ≡ length before') × (e ≡ e')
  same_refusal count pairs others before before' rest rest' e e' none none same few few' h h' =
      (refl, err_is (first_step count rest) e e' (none_count count rest e h) (ap (first_step count) same ∙ none_count count rest' e' h'))
  same_refusal count pairs others before before' rest rest' e e' none (group name value pair ps tokens found later) same few few' h h' =
      absurd (let it = sym (none_count count rest e h) ∙ ap (first_step count) same ∙ comma_step count name value (tokens ++ rest') pair found (omega (arith, few')) in cc)
  same_refusal count pairs others before before' rest rest' e e' (group name value pair ps tokens found later) none same few few' h h' =
      absurd (let it = sym (none_count count rest' e' h') ∙ ap (first_step count) (sym same) ∙ comma_step count name value (tokens ++ rest) pair found (omega (arith, few)) in cc)
  same_refusal count pairs others before before' rest rest' e e' (group name value pair ps tokens found later) (group name' value' pair' ps' tokens' found' later') same few few' h h' =
      let later_same = ok_is (first_step count (Run name ∷ Sign ∷ value ∷ Comma ∷ (tokens ++ rest))) (tokens ++ rest) (tokens' ++ rest') (comma_step count name value (tokens ++ rest) pair found (omega (arith, few)))
      (ap (first_step count) same ∙ comma_step count name' value' (tokens' ++ rest') pair' found' (omega (arith, few'))) in
      let both = same_refusal (suc count) ps ps' tokens tokens' rest rest' e e' later later' later_same (omega (arith, few)) (omega (arith, few')) (more_count count pair ps rest e h) (more_count count pair' ps' rest' e' h') in
      (omega (arith, both.0), both.1)
