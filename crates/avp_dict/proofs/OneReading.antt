-- A text is refused at one place, for one thing.
use Rattle.std.proofs.Common.{◌≡◌, ◌∙◌, ◌⊎◌, inl, inr, leb, ℕ, suc, ◌+◌, ◌-◌, ◌<◌, ◌≤◌, Bool, true, false, not, cond, List, [], ◌∷◌, ◌++◌, Option, Some, None, Err, length, take, drop, get_or, refl, sym, ap, subst, arith, append_assoc, length-append, option_and_then, drop-cons, ◌≢◌}
use Rattle.std.specs.List.{before_first, list_all, onto_first}
use Rattle.std.specs.Option.{option_map_or}
use Rattle.std.proofs.Math.Seq.{take-add}
use Rattle.std.proofs.lemmas.Bool.Decides.{leb_tells}
use Rattle.std.proofs.lemmas.List.{append_cancel_left, append_cancel_right}
use Rattle.std.proofs.lemmas.Option.{slice_get-get_or}
use Rattle.std.proofs.lemmas.Grind.{common_steps}
use Rattle.avp_lists.specs.States.{max_pairs}
use Rattle.avp_lists.specs.declared.pairs.Pair.{Pair}
use Rattle.avp_dict.specs.Lines.{is_line_end, texts_of}
use Rattle.avp_dict.specs.RefusedPlaces.{IsPlace, IsRefusedAfter, IsRefusedAt, IsRefusedFor, is_before_filled, is_run, line_from, lines_before, pairs_before, read_before}
use Rattle.avp_dict.specs.RefusedPlaces.IsRefusedAfter.{no_name, second_packet}
use Rattle.avp_dict.specs.RefusedPlaces.IsRefusedAt.{after_packet, in_packet, out_of_memory}
use Rattle.avp_dict.specs.RequestLines.{Assignment, Run, Token, is_blank_line, is_idle_line, joined, line_assignments, tokens_at, without_front}
use Rattle.avp_dict.specs.Requests.{each_pair, few_enough, pair_assigned}
use Rattle.avp_dict.specs.Words.{is_blank, is_hash}
use Rattle.avp_dict.specs.declared.request.faults.LineKind.{LineKind}
use Rattle.avp_dict.specs.declared.request.faults.LineKind.TheVariants as kinds
use Rattle.avp_dict.specs.declared.request.tokens.Side.{Side}
use Rattle.avp_dict.specs.declared.request.tokens.Side.TheVariants.{Name}
use Rattle.avp_dict.specs.declared.value.faults.ValueFault.{ValueFault}
use Rattle.avp_dict.proofs.LexedLines.{both, not_true}
use Rattle.avp_dict.proofs.Lexing.{after_blank, at_end, at_hash}
use Rattle.avp_dict.proofs.OneLexing.{IsApart, one_front}
use Rattle.avp_dict.proofs.OneRefusal.{IsGroups, IsWhole, first_step, groups_of, joined_parts, line_not_read, none_refused, same_refusal, some_is, step_refused, whole_count, whole_of}
use Rattle.avp_dict.proofs.PairSteps.{few_enough-long, few_enough-short, spelled_joined}
use Rattle.avp_dict.proofs.RefusedLines.{none_before, one_before, text_ended, text_inside}

-- ---- lists

heads : {X : Type 0} (x y : X) (xs ys : List X) → x ∷ xs ≡ y ∷ ys → x ≡ y
heads {X = X} x y xs ys h = ap (λ l. elim l as (λ _. X) [ [] ↦ x | z ∷ zs ↦ z ]) h

tails : {X : Type 0} (x y : X) (xs ys : List X) → x ∷ xs ≡ y ∷ ys → xs ≡ ys
tails {X = X} x y xs ys h = ap (λ l. elim l as (λ _. List X) [ [] ↦ xs | z ∷ zs ↦ zs ]) h

-- ---- lines without a token

hash_is : (o : ℕ) → is_hash o ≡ true → o ≡ 35
hash_is o h = grind (arith, common_steps)

pub idle_tokens : (line : List ℕ) → is_idle_line line ≡ true → tokens_at Name line ≡ []
idle_tokens [] idle = at_end Name
idle_tokens (o ∷ os) idle = go (is_hash o) refl (idle_tokens os)
  where
    go : (hash : Bool) → is_hash o ≡ hash → (is_idle_line os ≡ true → tokens_at Name os ≡ []) → tokens_at Name (o ∷ os) ≡ []
    go true e later = ap (λ x. tokens_at Name (x ∷ os)) (hash_is o e) ∙ at_hash Name os
    go false e later =
        let parts = both (is_blank o) (is_blank_line (before_first is_hash os)) (sym (ap is_blank_line (one_before is_hash o os e)) ∙ idle) in
        after_blank Name o os parts.0 ∙ later parts.1

-- a line of blanks holds no comment
blank_idle : (line : List ℕ) → is_blank_line line ≡ true → is_idle_line line ≡ true
blank_idle [] blank = refl
blank_idle (o ∷ os) blank = go (is_hash o) refl (blank_idle os)
  where
    go : (hash : Bool) → is_hash o ≡ hash → (is_blank_line os ≡ true → is_idle_line os ≡ true) → is_idle_line (o ∷ os) ≡ true
    go true e later = ap is_blank_line (none_before is_hash o os e)
    go false e later =
        let parts = both (is_blank o) (is_blank_line os) blank in
        ap is_blank_line (one_before is_hash o os e) ∙ rw (parts.0) (later parts.1)

-- a line with a token is not idle
not_idle : (line : List ℕ) → (tokens_at Name line ≡ [] → ⊥) → is_idle_line line ≡ false
not_idle line some = go (is_idle_line line) refl
  where
    go : (b : Bool) → is_idle_line line ≡ b → b ≡ false
    go true e = absurd (some (idle_tokens line e))
    go false e = refl

front_with : (lines : List (List ℕ)) (line : List ℕ) (others : List (List ℕ)) → is_idle_line line ≡ false → without_front is_idle_line (lines ++ line ∷ others) ≡ without_front is_idle_line lines ++ line ∷ others
front_with [] line others filled = rw filled refl
front_with (first ∷ lines) line others filled = go (is_idle_line first) (front_with lines line others filled)
  where
    go : (b : Bool) → without_front is_idle_line (lines ++ line ∷ others) ≡ without_front is_idle_line lines ++ line ∷ others → cond b (without_front is_idle_line (lines ++ line ∷ others)) (first ∷ lines ++ line ∷ others) ≡ cond b (without_front is_idle_line lines) (first ∷ lines) ++ line ∷ others
    go true later = later
    go false later = refl

-- idle lines before one that is not
same_idle : (idle idle' : List (List ℕ)) (line line' : List ℕ) (others others' : List (List ℕ)) → list_all is_idle_line idle ≡ true → list_all is_idle_line idle' ≡ true → is_idle_line line ≡ false → is_idle_line line' ≡ false → idle ++ line ∷ others ≡ idle' ++ line' ∷ others' → (line ≡ line') × (others ≡ others')
same_idle [] [] line line' others others' all all' filled filled' same = (heads line line' others others' same, tails line line' others others' same)
same_idle [] (i ∷ idle') line line' others others' all all' filled filled' same =
    absurd (let parts = both (is_idle_line i) (list_all is_idle_line idle') all' in let it = sym filled ∙ ap is_idle_line (heads line i others (idle' ++ line' ∷ others') same) ∙ parts.0 in cc)
same_idle (i ∷ idle) [] line line' others others' all all' filled filled' same =
    absurd (let parts = both (is_idle_line i) (list_all is_idle_line idle) all in let it = sym filled' ∙ ap is_idle_line (sym (heads i line' (idle ++ line ∷ others) others' same)) ∙ parts.0 in cc)
same_idle (i ∷ idle) (i' ∷ idle') line line' others others' all all' filled filled' same =
    let parts = both (is_idle_line i) (list_all is_idle_line idle) all in
    let parts' = both (is_idle_line i') (list_all is_idle_line idle') all' in
    same_idle idle idle' line line' others others' parts.1 parts'.1 filled filled' (tails i i' (idle ++ line ∷ others) (idle' ++ line' ∷ others') same)

-- ---- what is refused after a packet

abbrev kind_after : List Token → LineKind
kind_after (Run name ∷ tokens) = kinds.SecondPacket
kind_after _ = kinds.Unreadable

other_kind : (token : Token) (tokens : List Token) → is_run token ≡ false → kinds.Unreadable ≡ kind_after (token ∷ tokens)
other_kind (Run name) tokens h = absurd (cc)
other_kind _ tokens h = refl

after_is : (kind : LineKind) (tokens : List Token) → IsRefusedAfter kind tokens → kind ≡ kind_after tokens
after_is kind tokens (second_packet name others) = refl
after_is kind tokens (no_name token others other) = other_kind token others other

after_some : (kind : LineKind) (tokens : List Token) → IsRefusedAfter kind tokens → tokens ≡ [] → ⊥
after_some kind tokens (second_packet name others) none = absurd (cc)
after_some kind tokens (no_name token others other) none = absurd (cc)

-- ---- places

abbrev joined_lines : List ℕ → List (List ℕ) → List ℕ
joined_lines line [] = line
joined_lines line (other ∷ lines) = line ++ 10 ∷ joined_lines other lines

abbrev all_joined : List (List ℕ) → List ℕ
all_joined [] = []
all_joined (line ∷ lines) = joined_lines line lines

abbrev before_lines : List (List ℕ) → List ℕ
before_lines [] = []
before_lines (line ∷ lines) = line ++ 10 ∷ before_lines lines

one_octet : (o : ℕ) (line : List ℕ) (lines : List (List ℕ)) → joined_lines (o ∷ line) lines ≡ o ∷ joined_lines line lines
one_octet o line [] = refl
one_octet o line (other ∷ lines) = refl

line_end_is : (o : ℕ) → is_line_end o ≡ true → o ≡ 10
line_end_is o h = grind (arith, common_steps)

texts_joined : (octets : List ℕ) → (line : List ℕ) × (lines : List (List ℕ)) × (texts_of (octets ++ 44 ∷ []) ≡ line ∷ lines) × (joined_lines line lines ≡ octets ++ 44 ∷ [])
texts_joined [] = (44 ∷ [], [], refl, refl)
texts_joined (o ∷ os) = go (is_line_end o) refl (texts_joined os)
  where
    go : (b : Bool) → is_line_end o ≡ b → (line : List ℕ) × (lines : List (List ℕ)) × (texts_of (os ++ 44 ∷ []) ≡ line ∷ lines) × (joined_lines line lines ≡ os ++ 44 ∷ []) → (line : List ℕ) × (lines : List (List ℕ)) × (texts_of (o ∷ os ++ 44 ∷ []) ≡ line ∷ lines) × (joined_lines line lines ≡ o ∷ os ++ 44 ∷ [])
    go true e (line, lines, is, whole) = (
      [],
      line ∷ lines,
      text_ended o (os ++ 44 ∷ []) e ∙ ap (λ ls. [] ∷ ls) is,
      ap (λ rest. 10 ∷ rest) whole ∙ ap (λ x. x ∷ os ++ 44 ∷ []) (sym (line_end_is o e)),
    )
    go false e (line, lines, is, whole) = (
      o ∷ line,
      lines,
      text_inside o (os ++ 44 ∷ []) e ∙ ap (onto_first o) is,
      one_octet o line lines ∙ ap (λ rest. o ∷ rest) whole,
    )

joined_before : (lines : List (List ℕ)) (line : List ℕ) → all_joined (lines ++ line ∷ []) ≡ before_lines lines ++ line
joined_before [] line = refl
joined_before (first ∷ []) line = sym (append_assoc first (10 ∷ []) line)
joined_before (first ∷ other ∷ lines) line =
    ap (λ rest. first ++ 10 ∷ rest) (joined_before (other ∷ lines) line)
    ∙ sym (append_assoc first (10 ∷ before_lines (other ∷ lines)) line)

-- the octets before a place
octets_before : (text : List ℕ) (place : ℕ) (lines : List (List ℕ)) (before : List Token) (side : Side) → (at : IsPlace text place lines before side) → take place text ≡ before_lines lines ++ at.front
octets_before text place lines before side at =
    let front : List ℕ = at.front in
    let parts = texts_joined (take place text) in
    append_cancel_right (take place text) (before_lines lines ++ front) (44 ∷ [])
    (sym parts.3 ∙ ap all_joined (sym parts.2 ∙ at.cut) ∙ joined_before lines (front ++ 44 ∷ []) ∙ sym (append_assoc (before_lines lines) front (44 ∷ [])))

-- no place with the same before it comes later
no_later : (text : List ℕ) (place other : ℕ) (lines : List (List ℕ)) (before : List Token) (side side' : Side) → IsPlace text place lines before side → IsPlace text other lines before side' → place < other → other ≤ length text → is_before_filled place text ≡ true → ⊥
no_later text place other lines before side side' at also less within filled =
    let k : ℕ = other - place - 1 in
    let o : ℕ = get_or text place 0 in
    let there : place < length text = omega (arith, less, within) in
    let far : other ≡ place + suc k = omega (arith, less) in
    let middle : List ℕ = take k (drop (suc place) text) in
    let opened : take other text ≡ take place text ++ o ∷ middle =
    ap (λ n. take n text) far ∙ take-add place (suc k) text ∙ ap (λ os. take place text ++ take (suc k) os) (drop-cons text place 0 there) in
    let fronts : also.front ≡ at.front ++ o ∷ middle =
    append_cancel_left (before_lines lines) also.front (at.front ++ o ∷ middle)
    (sym (octets_before text other lines before side' also) ∙ opened ∙ ap (λ os. os ++ o ∷ middle) (octets_before text place lines before side at) ∙ append_assoc (before_lines lines) at.front (o ∷ middle)) in
    let no_blank : is_blank o ≡ false = not_true (is_blank o) (sym (ap (λ x. option_map_or (λ octet. not (is_blank octet)) x true) (slice_get-get_or text place 0 there)) ∙ filled) in
    one_front at.front middle o before no_blank at.apart (subst (λ os. IsApart os before) fronts also.apart)

one_place : (text : List ℕ) (place other : ℕ) (lines : List (List ℕ)) (before : List Token) (side side' : Side) → IsPlace text place lines before side → IsPlace text other lines before side' → place ≤ length text → other ≤ length text → is_before_filled place text ≡ true → is_before_filled other text ≡ true → place ≡ other
one_place text place other lines before side side' at also within within' filled filled' = go (leb_tells place other) (leb_tells other place)
  where
    go : (((leb place other ≡ true) × (place ≤ other)) ⊎ ((leb place other ≡ false) × (other < place))) → (((leb other place ≡ true) × (other ≤ place)) ⊎ ((leb other place ≡ false) × (place < other))) → place ≡ other
    go (inl (e, up)) (inl (e', down)) = omega (arith, up, down)
    go (inr (e, less)) h = absurd (no_later text other place lines before side' side also at less within filled')
    go (inl (e, up)) (inr (e', less)) = absurd (no_later text place other lines before side side' at also less within' filled)

same_front : {X : Type 0} (xs ys zs ws : List X) → xs ++ ys ≡ zs ++ ws → length xs ≡ length zs → xs ≡ zs
same_front [] ys [] ws same equal = refl
same_front [] ys (z ∷ zs) ws same equal = absurd (omega (arith, equal))
same_front (x ∷ xs) ys [] ws same equal = absurd (omega (arith, equal))
same_front (x ∷ xs) ys (z ∷ zs) ws same equal =
    let rest = same_front xs ys zs ws (tails x z (xs ++ ys) (zs ++ ws) same) (omega (arith, equal)) in
    ap (λ y. y ∷ xs) (heads x z (xs ++ ys) (zs ++ ws) same) ∙ ap (λ ls. z ∷ ls) rest

module _ {T : Type 0} (target_of : List ℕ → Option T) (pair_of : T → List ℕ → Option Pair) (refusal_of : T → List ℕ → Option ValueFault) where
  abbrev one : Assignment → Option Pair
  one = pair_assigned target_of pair_of

  abbrev Groups : List Pair → List Token → Type 0
  Groups = IsGroups target_of pair_of refusal_of

  abbrev Whole : List Pair → List Token → Type 0
  Whole = IsWhole target_of pair_of refusal_of

  -- the lines of a packet that are read
  data IsLinesOf : List Pair → List (List ℕ) → Type 0 where
    nothing : IsLinesOf [] []
    line_of : (pairs others : List Pair) (line : List ℕ) (lines : List (List ℕ)) → is_blank_line line ≡ false → Whole pairs (tokens_at Name line) → IsLinesOf others lines → IsLinesOf (pairs ++ others) (line ∷ lines)

  lines_of : (lines : List (List ℕ)) (pairs : List Pair) → option_and_then (each_pair one) (lines_before lines) ≡ Some pairs → IsLinesOf pairs lines
  unfolding lines_before each_pair
  lines_of [] pairs h = subst (λ ps. IsLinesOf ps []) (some_is [] pairs h) nothing
  lines_of (line ∷ lines) pairs h = go (is_blank_line line) refl h (lines_of lines)
    where
      go : (blank : Bool) → is_blank_line line ≡ blank → option_and_then (each_pair one) (cond blank None (joined (line_assignments line) (lines_before lines))) ≡ Some pairs → ((others : List Pair) → option_and_then (each_pair one) (lines_before lines) ≡ Some others → IsLinesOf others lines) → IsLinesOf pairs (line ∷ lines)
      go true e found later = absurd (cc)
      go false e found later =
          let parts = joined_parts (option_and_then (each_pair one) (line_assignments line)) (option_and_then (each_pair one) (lines_before lines)) pairs
          (sym (spelled_joined one (line_assignments line) (lines_before lines)) ∙ found) in
          subst (λ ps. IsLinesOf ps (line ∷ lines)) (sym parts.4)
          (line_of parts.0 parts.1 line lines e (whole_of target_of pair_of refusal_of (tokens_at Name line) parts.0 parts.2) (later parts.1 parts.3))

  -- a line that is refused, after so many pairs
  record Refused (count : ℕ) (line : List ℕ) : Type 0 where
    pub pairs : List Pair
    pub before : List Token
    pub rest : List Token
    pub what : ℕ × LineKind
    pub groups : Groups pairs before
    pub tokens : tokens_at Name line ≡ before ++ rest
    pub few : count + length pairs ≤ max_pairs
    pub step : first_step target_of pair_of refusal_of (count + length pairs) rest ≡ Err what

  -- such a line is not one that is read
  not_read : (count n : ℕ) (line other : List ℕ) (pairs : List Pair) → n ≡ count → line ≡ other → Refused n line → Whole pairs (tokens_at Name other) → count + length pairs ≤ max_pairs → ⊥
  not_read count n line other pairs is same r whole few =
      line_not_read target_of pair_of refusal_of count r.pairs pairs r.before r.rest r.what r.groups
      (subst (λ ts. Whole pairs ts) (ap (tokens_at Name) (sym same) ∙ r.tokens) whole) few
      (ap (λ m. first_step target_of pair_of refusal_of (m + length r.pairs) r.rest) (sym is) ∙ r.step)

  -- two lines that are refused after lines that are read are the same
  same_line : (count n n' : ℕ) (es es' : List Pair) (packet packet' : List (List ℕ)) (line line' : List ℕ) (others others' : List (List ℕ)) → n ≡ count + length es → n' ≡ count + length es' → IsLinesOf es packet → IsLinesOf es' packet' → packet ++ line ∷ others ≡ packet' ++ line' ∷ others' → (r : Refused n line) → (r' : Refused n' line') → (line ≡ line') × (others ≡ others') × (length r.before ≡ length r'.before) × (r.what ≡ r'.what)
  same_line count n n' es es' packet packet' line line' others others' is is' nothing nothing same r r' =
      let lines = heads line line' others others' same in
      let equal : n ≡ n' = omega (arith, is, is') in
      let both = same_refusal target_of pair_of refusal_of n r.pairs r'.pairs r.before r'.before r.rest r'.rest r.what r'.what r.groups r'.groups
      (sym r.tokens ∙ ap (tokens_at Name) lines ∙ r'.tokens) r.few (omega (arith, r'.few, equal)) r.step
      (ap (λ m. first_step target_of pair_of refusal_of (m + length r'.pairs) r'.rest) equal ∙ r'.step) in
      (lines, tails line line' others others' same, both.0, both.1)
  same_line count n n' es es' packet packet' line line' others others' is is' nothing (line_of qs later octets lines filled whole rest) same r r' =
      absurd (not_read count n line octets qs (omega (arith, is)) (heads line octets others (lines ++ line' ∷ others') same) r whole (omega (arith, r'.few, is', length-append qs later)))
  same_line count n n' es es' packet packet' line line' others others' is is' (line_of qs later octets lines filled whole rest) nothing same r r' =
      absurd (not_read count n' line' octets qs (omega (arith, is')) (heads line' octets others' (lines ++ line ∷ others) (sym same)) r' whole (omega (arith, r.few, is, length-append qs later)))
  same_line count n n' es es' packet packet' line line' others others' is is' (line_of qs later octets lines filled whole rest) (line_of qs' later' octets' lines' filled' whole' rest') same r r' =
      let first = heads octets octets' (lines ++ line ∷ others) (lines' ++ line' ∷ others') same in
      let counts = whole_count target_of pair_of refusal_of qs qs' (tokens_at Name octets) whole (subst (λ os. Whole qs' (tokens_at Name os)) (sym first) whole') in
      same_line (count + length qs) n n' later later' lines lines' line line' others others'
      (omega (arith, is, length-append qs later)) (omega (arith, is', length-append qs' later', counts)) rest rest'
      (tails octets octets' (lines ++ line ∷ others) (lines' ++ line' ∷ others') same) r r'

  -- none of them is the line of blanks that ends a packet
  no_end : (count n : ℕ) (es es' : List Pair) (packet packet' : List (List ℕ)) (line blank : List ℕ) (others others' : List (List ℕ)) → n ≡ count + length es → IsLinesOf es packet → IsLinesOf es' packet' → packet ++ line ∷ others ≡ packet' ++ blank ∷ others' → Refused n line → is_blank_line blank ≡ true → count + length es' ≤ max_pairs → ⊥
  no_end count n es es' packet packet' line blank others others' is nothing nothing same r ends few =
      none_refused target_of pair_of refusal_of (n + length r.pairs) r.pairs r.before r.rest r.what r.groups
      (sym r.tokens ∙ ap (tokens_at Name) (heads line blank others others' same) ∙ idle_tokens blank (blank_idle blank ends)) r.step
  no_end count n es es' packet packet' line blank others others' is nothing (line_of qs later octets lines filled whole rest) same r ends few =
      not_read count n line octets qs (omega (arith, is)) (heads line octets others (lines ++ blank ∷ others') same) r whole (omega (arith, few, length-append qs later))
  no_end count n es es' packet packet' line blank others others' is (line_of qs later octets lines filled whole rest) nothing same r ends few =
      absurd (let it = sym filled ∙ ap is_blank_line (heads octets blank (lines ++ line ∷ others) others' same) ∙ ends in cc)
  no_end count n es es' packet packet' line blank others others' is (line_of qs later octets lines filled whole rest) (line_of qs' later' octets' lines' filled' whole' rest') same r ends few =
      let first = heads octets octets' (lines ++ line ∷ others) (lines' ++ blank ∷ others') same in
      let counts = whole_count target_of pair_of refusal_of qs qs' (tokens_at Name octets) whole (subst (λ os. Whole qs' (tokens_at Name os)) (sym first) whole') in
      no_end (count + length qs) n later later' lines lines' line blank others others' (omega (arith, is, length-append qs later)) rest rest'
      (tails octets octets' (lines ++ line ∷ others) (lines' ++ blank ∷ others') same) r ends (omega (arith, few, length-append qs' later', counts))

  -- two ends of a packet are the same
  same_end : (es es' : List Pair) (packet packet' : List (List ℕ)) (blank blank' : List ℕ) (others others' : List (List ℕ)) → IsLinesOf es packet → IsLinesOf es' packet' → packet ++ blank ∷ others ≡ packet' ++ blank' ∷ others' → is_blank_line blank ≡ true → is_blank_line blank' ≡ true → others ≡ others'
  same_end es es' packet packet' blank blank' others others' nothing nothing same ends ends' = tails blank blank' others others' same
  same_end es es' packet packet' blank blank' others others' nothing (line_of qs later octets lines filled whole rest) same ends ends' =
      absurd (let it = sym filled ∙ ap is_blank_line (sym (heads blank octets others (lines ++ blank' ∷ others') same)) ∙ ends in cc)
  same_end es es' packet packet' blank blank' others others' (line_of qs later octets lines filled whole rest) nothing same ends ends' =
      absurd (let it = sym filled ∙ ap is_blank_line (heads octets blank' (lines ++ blank ∷ others) others' same) ∙ ends' in cc)
  same_end es es' packet packet' blank blank' others others' (line_of qs later octets lines filled whole rest) (line_of qs' later' octets' lines' filled' whole' rest') same ends ends' =
      same_end later later' lines lines' blank blank' others others' rest rest' (tails octets octets' (lines ++ blank ∷ others) (lines' ++ blank' ∷ others') same) ends ends'

  -- ---- texts

  few_parts : (x : Option (List Pair)) (pairs : List Pair) → option_and_then few_enough x ≡ Some pairs → (x ≡ Some pairs) × (length pairs ≤ max_pairs)
  few_parts None pairs h = absurd (cc)
  few_parts (Some ps) pairs h = go (leb_tells (length ps) max_pairs)
    where
      go : (((leb (length ps) max_pairs ≡ true) × (length ps ≤ max_pairs)) ⊎ ((leb (length ps) max_pairs ≡ false) × (max_pairs < length ps))) → (Some ps ≡ Some pairs) × (length pairs ≤ max_pairs)
      go (inl (e, few)) =
          let same = some_is ps pairs (sym (few_enough-short ps few) ∙ h) in
          (ap Some same, omega (arith, few, ap length same))
      go (inr (e, many)) = absurd (let it = sym (few_enough-long ps many) ∙ h in cc)

  -- what is read of the lines and the tokens before a place
  record Earlier (packet : List (List ℕ)) (before : List Token) (pairs : List Pair) : Type 0 where
    pub lines : List Pair
    pub here : List Pair
    pub of_lines : IsLinesOf lines packet
    pub groups : Groups here before
    pub both_are : pairs ≡ lines ++ here
    pub few : length pairs ≤ max_pairs

  earlier_of : (packet : List (List ℕ)) (before : List Token) (pairs : List Pair) → read_before one packet before ≡ Some pairs → Earlier packet before pairs
  earlier_of packet before pairs h =
      let few = few_parts (option_and_then (each_pair one) (joined (lines_before packet) (pairs_before before))) pairs h in
      let parts = joined_parts (option_and_then (each_pair one) (lines_before packet)) (option_and_then (each_pair one) (pairs_before before)) pairs
      (sym (spelled_joined one (lines_before packet) (pairs_before before)) ∙ few.0) in
      record {
        lines = parts.0;
        here = parts.1;
        of_lines = lines_of packet parts.0 parts.2;
        groups = groups_of target_of pair_of refusal_of before parts.1 parts.3;
        both_are = parts.4;
        few = few.1;
      }

  module _ (text : List ℕ) where
    abbrev IsFor : ℕ → LineKind → List Token → Side → List Token → Type 0
    IsFor = IsRefusedFor target_of pair_of refusal_of

    -- a refusal on a line of the packet
    record On (kind : LineKind) (place : ℕ) : Type 0 where
      pub side : Side
      pub lines : List (List ℕ)
      pub before : List Token
      pub inner : List Token
      pub at : IsPlace text place lines (before ++ inner) side
      pub packet : List Pair
      pub of_lines : IsLinesOf packet (without_front is_idle_line lines)
      pub refused : Refused (length packet) at.line
      pub same_before : refused.before ≡ before
      pub what : refused.what ≡ (length inner, kind)
      pub whole : without_front is_idle_line (texts_of text) ≡ without_front is_idle_line lines ++ at.line ∷ at.others

    -- a refusal after the packet
    record Past (kind : LineKind) (place : ℕ) : Type 0 where
      pub lines : List (List ℕ)
      pub at : IsPlace text place lines [] Name
      pub packet : List (List ℕ)
      pub idle : List (List ℕ)
      pub blank : List ℕ
      pub pairs : List Pair
      pub of_lines : IsLinesOf pairs packet
      pub few : length pairs ≤ max_pairs
      pub ends : is_blank_line blank ≡ true
      pub all : list_all is_idle_line idle ≡ true
      pub filled : is_idle_line at.line ≡ false
      pub kind_is : kind ≡ kind_after (tokens_at Name at.line)
      pub whole : without_front is_idle_line (texts_of text) ≡ packet ++ blank ∷ (idle ++ at.line ∷ at.others)

    on_line : (kind : LineKind) (place : ℕ) (side : Side) (lines : List (List ℕ)) (before inner : List Token) (pairs : List Pair) (at : IsPlace text place lines (before ++ inner) side) → read_before one (without_front is_idle_line lines) before ≡ Some pairs → IsFor (length pairs) kind inner side (tokens_at side (line_from text place)) → On kind place
    on_line kind place side lines before inner pairs at read refused =
        let tokens : List Token = tokens_at side (line_from text place) in
        let earlier = earlier_of (without_front is_idle_line lines) before pairs read in
        let count : length earlier.lines + length earlier.here ≡ length pairs = omega (arith, ap length earlier.both_are, length-append earlier.lines earlier.here) in
        let step = ap (λ n. first_step target_of pair_of refusal_of n (inner ++ tokens)) count ∙ step_refused target_of pair_of refusal_of (length pairs) kind inner side tokens refused in
        let there = at.tokens ∙ append_assoc before inner tokens in
        let filled = not_idle at.line (λ none. none_refused target_of pair_of refusal_of (length earlier.lines + length earlier.here) earlier.here before (inner ++ tokens) (length inner, kind) earlier.groups (sym there ∙ none) step) in
        record {
          side = side;
          lines = lines;
          before = before;
          inner = inner;
          at = at;
          packet = earlier.lines;
          of_lines = earlier.of_lines;
          refused = record {
            pairs = earlier.here;
            before = before;
            rest = inner ++ tokens;
            what = (length inner, kind);
            groups = earlier.groups;
            tokens = there;
            few = omega (arith, earlier.few, count);
            step = step;
          };
          same_before = refl;
          what = refl;
          whole = ap (without_front is_idle_line) at.whole ∙ front_with lines at.line at.others filled;
        }

    past_end : (kind : LineKind) (place : ℕ) (lines packet idle : List (List ℕ)) (blank : List ℕ) (pairs : List Pair) (at : IsPlace text place lines [] Name) → without_front is_idle_line lines ≡ packet ++ blank ∷ idle → read_before one packet [] ≡ Some pairs → is_blank_line blank ≡ true → list_all is_idle_line idle ≡ true → IsRefusedAfter kind (tokens_at Name (line_from text place)) → Past kind place
    unfolding pairs_before each_pair
    past_end kind place lines packet idle blank pairs at parted read ends all refused =
        let filled = not_idle at.line (λ none. after_some kind (tokens_at Name (line_from text place)) refused (sym at.tokens ∙ none)) in
        let earlier = earlier_of packet [] pairs read in
        record {
          lines = lines;
          at = at;
          packet = packet;
          idle = idle;
          blank = blank;
          pairs = earlier.lines;
          of_lines = earlier.of_lines;
          few = omega (arith, earlier.few, ap length earlier.both_are, length-append earlier.lines earlier.here);
          ends = ends;
          all = all;
          filled = filled;
          kind_is = after_is kind (tokens_at Name (line_from text place)) refused ∙ ap kind_after (sym at.tokens);
          whole = ap (without_front is_idle_line) at.whole ∙ front_with lines at.line at.others filled
              ∙ ap (λ ls. ls ++ at.line ∷ at.others) parted ∙ append_assoc packet (blank ∷ idle) (at.line ∷ at.others);
        }

    -- the lines before, where the line and what follows it are the same
    lines_same : (lines lines' : List (List ℕ)) (line line' : List ℕ) (others others' : List (List ℕ)) → texts_of text ≡ lines ++ line ∷ others → texts_of text ≡ lines' ++ line' ∷ others' → line ≡ line' → others ≡ others' → lines ≡ lines'
    lines_same lines lines' line line' others others' whole whole' same follow =
        append_cancel_right lines lines' (line' ∷ others')
        (ap (λ l. lines ++ l ∷ others') (sym same) ∙ ap (λ ls. lines ++ line ∷ ls) (sym follow) ∙ sym whole ∙ whole')

    module _ (place other : ℕ) (within : place ≤ length text) (within' : other ≤ length text) (filled : is_before_filled place text ≡ true) (filled' : is_before_filled other text ≡ true) where
      both_on : (kind kind' : LineKind) → On kind place → On kind' other → (place ≡ other) × (kind ≡ kind')
      both_on kind kind' on on' =
          let same = same_line 0 (length on.packet) (length on'.packet) on.packet on'.packet (without_front is_idle_line on.lines) (without_front is_idle_line on'.lines) on.at.line on'.at.line on.at.others on'.at.others
          (omega arith) (omega arith) on.of_lines on'.of_lines (sym on.whole ∙ on'.whole) on.refused on'.refused in
          let lines = lines_same on.lines on'.lines on.at.line on'.at.line on.at.others on'.at.others on.at.whole on'.at.whole same.0 same.1 in
          let what = sym on.what ∙ same.3 ∙ on'.what in
          let inner : length on.inner ≡ length on'.inner = ap (λ w. w.0) what in
          let earlier : length on.before ≡ length on'.before = sym (ap length on.same_before) ∙ same.2 ∙ ap length on'.same_before in
          let tokens = sym on.at.tokens ∙ ap (tokens_at Name) same.0 ∙ on'.at.tokens in
          let before = same_front (on.before ++ on.inner) (tokens_at on.side (line_from text place)) (on'.before ++ on'.inner) (tokens_at on'.side (line_from text other)) tokens
          (omega (arith, inner, earlier, length-append on.before on.inner, length-append on'.before on'.inner)) in
          let at : IsPlace text place on'.lines (on'.before ++ on'.inner) on.side = subst (λ ls. IsPlace text place ls (on'.before ++ on'.inner) on.side) lines (subst (λ ts. IsPlace text place on.lines ts on.side) before on.at) in
          (one_place text place other on'.lines (on'.before ++ on'.inner) on.side on'.side at on'.at within within' filled filled', ap (λ w. w.1) what)

      not_past : (kind kind' : LineKind) (one_place two_place : ℕ) → On kind one_place → Past kind' two_place → ⊥
      not_past kind kind' one_place two_place on past =
          no_end 0 (length on.packet) on.packet past.pairs (without_front is_idle_line on.lines) past.packet on.at.line past.blank on.at.others (past.idle ++ past.at.line ∷ past.at.others)
          (omega arith) on.of_lines past.of_lines (sym on.whole ∙ past.whole) on.refused past.ends (omega (arith, past.few))

      both_past : (kind kind' : LineKind) → Past kind place → Past kind' other → (place ≡ other) × (kind ≡ kind')
      both_past kind kind' past past' =
          let follow = same_end past.pairs past'.pairs past.packet past'.packet past.blank past'.blank (past.idle ++ past.at.line ∷ past.at.others) (past'.idle ++ past'.at.line ∷ past'.at.others)
          past.of_lines past'.of_lines (sym past.whole ∙ past'.whole) past.ends past'.ends in
          let same = same_idle past.idle past'.idle past.at.line past'.at.line past.at.others past'.at.others past.all past'.all past.filled past'.filled follow in
          let lines = lines_same past.lines past'.lines past.at.line past'.at.line past.at.others past'.at.others past.at.whole past'.at.whole same.0 same.1 in
          let at : IsPlace text place past'.lines [] Name = subst (λ ls. IsPlace text place ls [] Name) lines past.at in
          (one_place text place other past'.lines [] Name Name at past'.at within within' filled filled', past.kind_is ∙ ap (λ l. kind_after (tokens_at Name l)) same.0 ∙ sym past'.kind_is)

      -- a text is refused at one place, for one thing
      pub refused_once : (kind kind' : LineKind) → kind ≢ kinds.Memory → kind' ≢ kinds.Memory → IsRefusedAt target_of pair_of refusal_of text kind place → IsRefusedAt target_of pair_of refusal_of text kind' other → (place ≡ other) × (kind ≡ kind')
      refused_once kind kind' some some' (in_packet k p side lines before inner pairs at read refused) (in_packet k' p' side' lines' before' inner' pairs' at' read' refused') =
          both_on kind kind' (on_line kind place side lines before inner pairs at read refused) (on_line kind' other side' lines' before' inner' pairs' at' read' refused')
      refused_once kind kind' some some' (in_packet k p side lines before inner pairs at read refused) (after_packet k' p' lines' packet idle blank pairs' at' parted read' ends all refused') =
          absurd (not_past kind kind' place other (on_line kind place side lines before inner pairs at read refused) (past_end kind' other lines' packet idle blank pairs' at' parted read' ends all refused'))
      refused_once kind kind' some some' (after_packet k' p' lines' packet idle blank pairs' at' parted read' ends all refused') (in_packet k p side lines before inner pairs at read refused) =
          absurd (not_past kind' kind other place (on_line kind' other side lines before inner pairs at read refused) (past_end kind place lines' packet idle blank pairs' at' parted read' ends all refused'))
      refused_once kind kind' some some' (after_packet k p lines packet idle blank pairs at parted read ends all refused) (after_packet k' p' lines' packet' idle' blank' pairs' at' parted' read' ends' all' refused') =
          both_past kind kind' (past_end kind place lines packet idle blank pairs at parted read ends all refused) (past_end kind' other lines' packet' idle' blank' pairs' at' parted' read' ends' all' refused')
      refused_once kind kind' some some' (out_of_memory p) h' = absurd (some refl)
      refused_once kind kind' some some' h (out_of_memory p) = absurd (some' refl)
