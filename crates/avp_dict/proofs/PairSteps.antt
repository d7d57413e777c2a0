-- What reading pair after pair keeps true.
use Rattle.std.proofs.Common.{◌≡◌, ◌≢◌, ℕ, ◌<◌, ◌≤◌, Bool, true, false, ◌&&◌, cond, List, [], ◌∷◌, ◌++◌, Option, None, Some, length, refl, sym, ap, ◌∙◌, append_assoc, length-append, arith, option_and_then, option_map, append-nil}
use Rattle.std.specs.List.{list_all}
use Rattle.std.proofs.lemmas.Grind.{common_steps}
use Rattle.avp_lists.specs.declared.pairs.Pair.{Pair}
use Rattle.avp_lists.specs.Meets.{Unless}
use Rattle.avp_lists.specs.States.{max_pairs}
use Rattle.avp_dict.specs.declared.request.faults.LineKind.{LineKind}
use Rattle.avp_dict.specs.declared.request.faults.LineKind.TheVariants as kinds
use Rattle.avp_dict.specs.declared.request.tokens.Side.TheVariants.{Name, Value}
use Rattle.avp_dict.specs.declared.request.tokens.Token.{Token as CodeToken}
use Rattle.avp_dict.specs.declared.request.tokens.Token.TheVariants as code
use Rattle.avp_dict.specs.Dictionary.{Dictionary}
use Rattle.avp_dict.specs.Names.{named}
use Rattle.avp_dict.specs.Outcomes.{is_memory_line}
use Rattle.avp_dict.specs.Lines.{texts_of}
use Rattle.avp_dict.specs.RefusedPlaces.{is_run}
use Rattle.avp_dict.specs.RequestLines.{Assignment, Token, Comma, Sign, Run, assigned, assignments_of, is_blank_line, is_idle_line, joined, packet_assignments, pairs_of, tokens_at, value_text, without_front}
use Rattle.avp_dict.specs.Requests.{each_pair, few_enough, pair_assigned, pair_named, pair_spelled, request_by, request_spelled}
use Rattle.avp_dict.specs.internal.LineReading.{IsNoRequest, after_pairs, assigned_after, packet_pairs, pair_of_token, pairs_after, pairs_at}
use Rattle.avp_dict.specs.internal.RequestTokens.{side_after, token_view}

-- ---- one list after another

pub joined_none : {X : Type 0} (x : Option (List X)) → joined x None ≡ None
joined_none None = refl
joined_none (Some xs) = refl

pub joined_nil : {X : Type 0} (x : Option (List X)) → joined (Some []) x ≡ x
joined_nil None = refl
joined_nil (Some xs) = refl

pub joined_assoc : {X : Type 0} (x y z : Option (List X)) → joined (joined x y) z ≡ joined x (joined y z)
joined_assoc (Some xs) (Some ys) (Some zs) = ap Some (append_assoc xs ys zs)
joined_assoc _ _ _ = refl

spelled_append : (one : Assignment → Option Pair) (as_ bs : List Assignment) → each_pair one (as_ ++ bs) ≡ joined (each_pair one as_) (each_pair one bs)
unfolding each_pair
spelled_append one [] bs = sym (joined_nil (each_pair one bs))
spelled_append one (a ∷ as_) bs =
    ap (joined (option_map (λ pair. pair ∷ []) (one a))) (spelled_append one as_ bs) ∙ sym (joined_assoc (option_map (λ pair. pair ∷ []) (one a)) (each_pair one as_) (each_pair one bs))

pub spelled_joined : (one : Assignment → Option Pair) (x y : Option (List Assignment)) → option_and_then (each_pair one) (joined x y) ≡ joined (option_and_then (each_pair one) x) (option_and_then (each_pair one) y)
spelled_joined one None y = refl
spelled_joined one (Some as_) None = sym (joined_none (each_pair one as_))
spelled_joined one (Some as_) (Some bs) = spelled_append one as_ bs

-- ---- a pair

-- a pair, and what is assigned after it
pair_then : (name : List ℕ) (value : Token) (tokens : List Token) → pairs_of (Run name ∷ Sign ∷ value ∷ tokens) ≡ joined (option_map (assigned name) (value_text value)) (assigned_after tokens)
unfolding pairs_of
pair_then name value [] = go (value_text value)
  where
    go : (text : Option (List ℕ)) → option_map (assigned name) text ≡ joined (option_map (assigned name) text) (Some [])
    go None = refl
    go (Some text) = refl
pair_then name value (Comma ∷ tokens) = refl
pair_then name value _ = sym (joined_none (option_map (assigned name) (value_text value)))

-- the pair that a name with a text spells
pub one_spelled : {T : Type 0} (target_of : List ℕ → Option T) (pair_of : T → List ℕ → Option Pair) (name : List ℕ) (text : Option (List ℕ)) (name_is : Option T) → target_of name ≡ name_is → option_and_then (each_pair (pair_assigned target_of pair_of)) (option_map (assigned name) text) ≡ option_map (λ pair. pair ∷ []) (option_and_then (λ os. option_and_then (λ target. pair_of target os) name_is) text)
unfolding each_pair
one_spelled target_of pair_of name None name_is e = refl
one_spelled target_of pair_of name (Some text) name_is e = rw e (go (option_and_then (λ target. pair_of target text) name_is))
  where
    go : (pair : Option Pair) → joined (option_map (λ p. p ∷ []) pair) (Some []) ≡ option_map (λ p. p ∷ []) pair
    go None = refl
    go (Some pair) = refl

pairs_then : {T : Type 0} (target_of : List ℕ → Option T) (pair_of : T → List ℕ → Option Pair) (name : List ℕ) (value : Token) (tokens : List Token) (name_is : Option T) → target_of name ≡ name_is → pairs_at (pair_assigned target_of pair_of) (Run name ∷ Sign ∷ value ∷ tokens) ≡ joined (option_map (λ pair. pair ∷ []) (option_and_then (λ os. option_and_then (λ target. pair_of target os) name_is) (value_text value))) (pairs_after (pair_assigned target_of pair_of) tokens)
unfolding pairs_at pairs_after
pairs_then target_of pair_of name value tokens name_is e =
    let one = pair_assigned target_of pair_of in
    ap (option_and_then (each_pair one)) (pair_then name value tokens)
    ∙ spelled_joined one (option_map (assigned name) (value_text value)) (assigned_after tokens)
    ∙ ap (λ x. joined x (option_and_then (each_pair one) (assigned_after tokens))) (one_spelled target_of pair_of name (value_text value) name_is e)

-- ---- reading a pair

-- after the token of a value the side is that of values
side_of_value : (value : CodeToken) {X : Type 0} (f : List ℕ → Option X) (pair : X) → option_and_then f (value_text (token_view value)) ≡ Some pair → side_after Value value ≡ Value
side_of_value code.Comma f pair h = cc
side_of_value _ f pair h = refl

module _ {T : Type 0} (target_of : List ℕ → Option T) (pair_of : T → List ℕ → Option Pair) (name : List ℕ) (n : T) (known : target_of name ≡ Some n) (value : CodeToken) (rest : List ℕ) where
  pub pair_read : (pair : Pair) → pair_of_token pair_of n (token_view value) ≡ Some pair → pairs_at (pair_assigned target_of pair_of) (Run name ∷ Sign ∷ token_view value ∷ tokens_at (side_after Value value) rest) ≡ after_pairs (pair ∷ []) (pairs_after (pair_assigned target_of pair_of) (tokens_at Value rest))
  unfolding after_pairs
  pair_read pair h =
      let one = pair_assigned target_of pair_of in
      let e = pairs_then target_of pair_of name (token_view value) (tokens_at Value rest) (Some n) known in
      rw (side_of_value value (pair_of n) pair h) (e ∙ ap (λ x. joined (option_map (λ p. p ∷ []) x) (pairs_after one (tokens_at Value rest))) h)

  pub pair_refused : pair_of_token pair_of n (token_view value) ≡ None → pairs_at (pair_assigned target_of pair_of) (Run name ∷ Sign ∷ token_view value ∷ tokens_at (side_after Value value) rest) ≡ None
  pair_refused h =
      let one = pair_assigned target_of pair_of in
      let tokens = tokens_at (side_after Value value) rest in
      pairs_then target_of pair_of name (token_view value) tokens (Some n) known ∙ ap (λ x. joined (option_map (λ p. p ∷ []) x) (pairs_after one tokens)) h

-- what refuses a part refuses the whole
pub refuses_whole : {A B : Type 0} (memory : Bool) (part : Option A) (whole : Option B) → Unless memory (part ≡ None) → (part ≡ None → whole ≡ None) → Unless memory (whole ≡ None)
refuses_whole true part whole h f = tt
refuses_whole false part whole h f = f h

pub refuses_all : {A : Type 0} (kind : LineKind) (part : Option A) → Unless (is_memory_line kind) (part ≡ None) → kind ≢ kinds.Memory → part ≡ None
refuses_all kinds.Memory part h other = absurd (other refl)
refuses_all _ part h other = h

-- an unknown name
pub unknown_refused : {T : Type 0} (target_of : List ℕ → Option T) (pair_of : T → List ℕ → Option Pair) (name : List ℕ) (tokens : List Token) → target_of name ≡ None → pairs_at (pair_assigned target_of pair_of) (Run name ∷ tokens) ≡ None
unfolding pairs_at pairs_of
unknown_refused target_of pair_of name (Sign ∷ value ∷ tokens) h = go (value_text value) (pairs_then target_of pair_of name value tokens None h)
  where
    go : (text : Option (List ℕ)) → pairs_at (pair_assigned target_of pair_of) (Run name ∷ Sign ∷ value ∷ tokens) ≡ joined (option_map (λ pair. pair ∷ []) (option_and_then (λ os. None) text)) (pairs_after (pair_assigned target_of pair_of) tokens) → pairs_at (pair_assigned target_of pair_of) (Run name ∷ Sign ∷ value ∷ tokens) ≡ None
    go None e = e
    go (Some text) e = e
unknown_refused target_of pair_of name _ h = refl

-- no name at all
pub other_refused : (one : Assignment → Option Pair) (token : Token) (tokens : List Token) → is_run token ≡ false → pairs_at one (token ∷ tokens) ≡ None
unfolding pairs_at pairs_of
other_refused one (Run name) tokens other = absurd (cc)
other_refused one _ tokens other = refl

-- ---- packets

-- nothing is left exactly where all lines pass the test
pub none_left : (test : List ℕ → Bool) (lines : List (List ℕ)) → without_front test lines ≡ [] → list_all test lines ≡ true
none_left test [] h = refl
none_left test (x ∷ xs) h =
    elim (test x) as (λ b. cond b (without_front test xs) (x ∷ xs) ≡ [] → (b && list_all test xs) ≡ true) [ true ↦ none_left test xs | false ↦ λ e. cc ] h

pub some_left : (test : List ℕ → Bool) (lines : List (List ℕ)) (y : List ℕ) (ys : List (List ℕ)) → without_front test lines ≡ y ∷ ys → list_all test lines ≡ false
some_left test [] y ys h = cc
some_left test (x ∷ xs) y ys h =
    elim (test x) as (λ b. cond b (without_front test xs) (x ∷ xs) ≡ y ∷ ys → (b && list_all test xs) ≡ false) [ true ↦ some_left test xs y ys | false ↦ λ e. refl ] h

pub packet_line : (one : Assignment → Option Pair) (line : List ℕ) (lines : List (List ℕ)) → is_blank_line line ≡ false → packet_pairs one (line ∷ lines) ≡ joined (pairs_at one (tokens_at Name line)) (packet_pairs one lines)
unfolding packet_pairs packet_assignments pairs_at
packet_line one line lines filled = rw filled (spelled_joined one (pairs_of (tokens_at Name line)) (packet_assignments lines))

pub packet_ends : (one : Assignment → Option Pair) (line : List ℕ) (lines : List (List ℕ)) → is_blank_line line ≡ true → list_all is_idle_line lines ≡ true → packet_pairs one (line ∷ lines) ≡ Some []
unfolding packet_pairs packet_assignments each_pair
packet_ends one line lines blank rest = rw (blank, rest)

pub packet_goes_on : (one : Assignment → Option Pair) (line : List ℕ) (lines : List (List ℕ)) → is_blank_line line ≡ true → list_all is_idle_line lines ≡ false → packet_pairs one (line ∷ lines) ≡ None
unfolding packet_pairs packet_assignments
packet_goes_on one line lines blank rest = rw (blank, rest)

pub packet_none : (one : Assignment → Option Pair) → packet_pairs one [] ≡ Some []
unfolding packet_pairs packet_assignments each_pair
packet_none one = refl

-- ---- limits

pub few_enough-short : (pairs : List Pair) → length pairs ≤ max_pairs → few_enough pairs ≡ Some pairs
few_enough-short pairs few = grind (arith, common_steps)

pub few_enough-long : (pairs : List Pair) → max_pairs < length pairs → few_enough pairs ≡ None
few_enough-long pairs many = grind (arith, common_steps)

pub after_none : (pairs : List Pair) (here : Option (List Pair)) → here ≡ None → after_pairs pairs here ≡ None
unfolding after_pairs
after_none pairs here h = rw h

pub after_nothing : (pairs : List Pair) (here : Option (List Pair)) → here ≡ Some [] → after_pairs pairs here ≡ Some pairs
unfolding after_pairs
after_nothing pairs here h = rw (h, append-nil)

-- one pair after others
pub after_more : (pairs : List Pair) (pair : Pair) (others : Option (List Pair)) → after_pairs pairs (after_pairs (pair ∷ []) others) ≡ after_pairs (pairs ++ pair ∷ []) others
unfolding after_pairs
after_more pairs pair others = sym (joined_assoc (Some pairs) (Some (pair ∷ [])) others)

-- there is none here, and the pairs before it are those of the whole
pub none_refused : (before pairs : List Pair) (whole here : Option (List Pair)) → after_pairs pairs here ≡ after_pairs before whole → here ≡ None → IsNoRequest before whole
unfolding IsNoRequest
none_refused before pairs whole here same none = λ more. rw (← same, after_none pairs here none)

-- one pair more than a list may have
pub many_refused : (before pairs : List Pair) (whole here after : Option (List Pair)) (pair : Pair) → after_pairs pairs here ≡ after_pairs before whole → here ≡ after_pairs (pair ∷ []) after → length pairs ≡ max_pairs → IsNoRequest before whole
unfolding IsNoRequest after_pairs
many_refused before pairs whole here None pair same one full = λ more. rw (← same, one)
many_refused before pairs whole here (Some ps) pair same one full = λ more. rw (← same, one) (go more)
  where
    go : (more : Option (List Pair)) → option_and_then few_enough (joined (Some (pairs ++ pair ∷ ps)) more) ≡ None
    go None = refl
    go (Some qs) = few_enough-long ((pairs ++ pair ∷ ps) ++ qs) (omega (arith, length-append (pairs ++ pair ∷ ps) qs, length-append pairs (pair ∷ ps)))

-- ---- lines

-- one pair more has been read, and what follows its comma is left
pub pair_more : (one : Assignment → Option Pair) (before pairs new : List Pair) (whole : Option (List Pair)) (here after next : List Token) (pair : Pair) → after_pairs pairs (pairs_at one here) ≡ after_pairs before whole → pairs_at one here ≡ after_pairs (pair ∷ []) (pairs_after one after) → assigned_after after ≡ pairs_of next → new ≡ pairs ++ pair ∷ [] → after_pairs new (pairs_at one next) ≡ after_pairs before whole
unfolding pairs_at pairs_after
pair_more one before pairs new whole here after next pair same begins follows is =
    rw (is, ← follows, ← after_more pairs pair (option_and_then (each_pair one) (assigned_after after)), ← begins) same

-- what follows a pair is none
pub rest_refused : (one : Assignment → Option Pair) (here after : List Token) (pair : Pair) → pairs_at one here ≡ after_pairs (pair ∷ []) (pairs_after one after) → assigned_after after ≡ None → pairs_at one here ≡ None
unfolding pairs_after
rest_refused one here after pair begins none = begins ∙ after_none (pair ∷ []) (option_and_then (each_pair one) (assigned_after after)) (rw none)

-- a line is at its end
pub line_ends : (one : Assignment → Option Pair) (pairs : List Pair) (here : List Token) (whole : Option (List Pair)) → after_pairs pairs (pairs_at one here) ≡ whole → here ≡ [] → whole ≡ Some pairs
unfolding pairs_at pairs_of each_pair after_pairs
line_ends one pairs here whole same end = sym same ∙ rw (end, append-nil)

-- ---- requests

module _ (text : List ℕ) (one : Assignment → Option Pair) (pairs : List Pair) (lines : List (List ℕ)) (read : after_pairs pairs (packet_pairs one lines) ≡ packet_pairs one (without_front is_idle_line (texts_of text))) where
  -- the packet has ended
  pub request_ends : packet_pairs one lines ≡ Some [] → length pairs ≤ max_pairs → request_by one text ≡ Some pairs
  unfolding request_by assignments_of packet_pairs
  request_ends end few = rw (← read, after_nothing pairs (packet_pairs one lines) end) (few_enough-short pairs few)

  -- what is left is no packet's rest
  pub request_fails : packet_pairs one lines ≡ None → request_by one text ≡ None
  unfolding request_by assignments_of packet_pairs
  request_fails end = rw (← read, after_none pairs (packet_pairs one lines) end)

-- a line is refused
pub request_refused : (text : List ℕ) (one : Assignment → Option Pair) (pairs : List Pair) (line : List ℕ) (lines : List (List ℕ)) → after_pairs pairs (packet_pairs one (line ∷ lines)) ≡ packet_pairs one (without_front is_idle_line (texts_of text)) → is_blank_line line ≡ false → IsNoRequest pairs (pairs_at one (tokens_at Name line)) → request_by one text ≡ None
unfolding request_by assignments_of packet_pairs IsNoRequest after_pairs
request_refused text one pairs line lines read filled h =
    rw (← read, packet_line one line lines filled, ← joined_assoc (Some pairs) (pairs_at one (tokens_at Name line)) (packet_pairs one lines)) (h (packet_pairs one lines))

-- a line has been read
pub line_read : (one : Assignment → Option Pair) (pairs new : List Pair) (line : List ℕ) (lines : List (List ℕ)) → is_blank_line line ≡ false → after_pairs pairs (pairs_at one (tokens_at Name line)) ≡ Some new → after_pairs pairs (packet_pairs one (line ∷ lines)) ≡ after_pairs new (packet_pairs one lines)
unfolding after_pairs
line_read one pairs new line lines filled e = rw (packet_line one line lines filled, ← joined_assoc (Some pairs) (pairs_at one (tokens_at Name line)) (packet_pairs one lines), e)

pub none_before : (packet : Option (List Pair)) → after_pairs [] packet ≡ packet
unfolding after_pairs
none_before packet = joined_nil packet

-- a text spells one request
pub only_one : {X : Type 0} (spelled : Option X) (found other : X) → spelled ≡ Some found → spelled ≡ Some other → other ≡ found
only_one spelled found other h o = cc

-- a request by a dictionary
pub spelled_by_pairs : (d : Dictionary) (text : List ℕ) → request_spelled text d ≡ request_by (pair_assigned (λ name. named name d) (λ target os. pair_named d os target)) text
unfolding request_spelled pair_spelled
spelled_by_pairs d text = refl
