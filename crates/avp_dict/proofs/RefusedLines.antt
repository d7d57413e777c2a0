-- Places of a text, from those of its lines.
use Rattle.std.proofs.Common.{◌≡◌, ◌∙◌, inl, inr, ℕ, zero, suc, ◌+◌, ◌-◌, ◌<◌, ◌≤◌, Bool, true, false, not, List, [], ◌∷◌, ◌++◌, length, take, drop, refl, sym, ap, subst, arith, add-one, one-add, drop-cons, get_or, append_assoc}
use Rattle.std.specs.List.{after_first, before_first, list_all, onto_first, position_or_len}
use Rattle.std.specs.Option.{option_map_or}
use Rattle.std.proofs.lemmas.List.{length-append, take-append-drop}
use Rattle.std.proofs.lemmas.Option.{slice_get-get_or, slice_get_past}
use Rattle.std.proofs.lemmas.Grind.{common_steps}
use Rattle.avp_dict.specs.Ascii.{comma}
use Rattle.avp_dict.specs.Lines.{is_line_end, texts_of}
use Rattle.avp_dict.specs.RefusedPlaces.{IsPlace, is_before_filled, line_from}
use Rattle.avp_dict.specs.RequestLines.{Token, is_idle_line, tokens_at}
use Rattle.avp_dict.specs.Words.{is_blank}
use Rattle.avp_dict.specs.declared.request.tokens.Side.{Side}
use Rattle.avp_dict.specs.declared.request.tokens.Side.TheVariants.{Name}
use Rattle.avp_dict.specs.internal.LineEnds.{IsIdleRead, IsLexed, IsLike, IsLinesRead, IsPastBlanks}
use Rattle.avp_dict.proofs.Gathering.{first_text}
use Rattle.avp_dict.proofs.Lexing.{at_comma}
use Rattle.avp_dict.proofs.LexedLines.{all_blank-append, blanks_skipped, both, lexed_whole, not_true}

-- ---- parts of lists

drop_past : (front rest : List ℕ) (n : ℕ) → drop (length front + n) (front ++ rest) ≡ drop n rest
drop_past [] rest n = let e : length {A = ℕ} [] + n ≡ n = omega arith in ap (λ k. drop k rest) e
drop_past (o ∷ front) rest n =
    let e : length (o ∷ front) + n ≡ suc (length front + n) = omega arith in
    ap (λ k. drop k (o ∷ front ++ rest)) e ∙ drop_past front rest n

take_front : (front rest : List ℕ) → take (length front) (front ++ rest) ≡ front
take_front [] [] = refl
take_front [] (x ∷ rest) = refl
take_front (o ∷ front) rest =
    let e : length (o ∷ front) ≡ suc (length front) = omega arith in
    ap (λ k. take k (o ∷ front ++ rest)) e ∙ ap (λ os. o ∷ os) (take_front front rest)

drop_front : (front rest : List ℕ) → drop (length front) (front ++ rest) ≡ rest
drop_front [] [] = refl
drop_front [] (x ∷ rest) = refl
drop_front (o ∷ front) rest =
    let e : length (o ∷ front) ≡ suc (length front) = omega arith in
    ap (λ k. drop k (o ∷ front ++ rest)) e ∙ drop_front front rest

module _ {X : Type 0} (p : X → Bool) where
  pub all-append : (xs ys : List X) → list_all p xs ≡ true → list_all p ys ≡ true → list_all p (xs ++ ys) ≡ true
  all-append [] ys one two = two
  all-append (x ∷ xs) ys one two =
      let parts = both (p x) (list_all p xs) one in
      rw (parts.0, all-append xs ys parts.1 two) refl

  all_front : (xs ys : List X) → list_all p (xs ++ ys) ≡ true → list_all p xs ≡ true
  all_front [] ys all = refl
  all_front (x ∷ xs) ys all =
      let parts = both (p x) (list_all p (xs ++ ys)) all in
      rw (parts.0, all_front xs ys parts.1) refl

  pub none_before : (x : X) (xs : List X) → p x ≡ true → before_first p (x ∷ xs) ≡ []
  none_before x xs e = rw e refl

  pub one_before : (x : X) (xs : List X) → p x ≡ false → before_first p (x ∷ xs) ≡ x ∷ before_first p xs
  one_before x xs e = rw (e, one-add) refl

  none_after : (x : X) (xs : List X) → p x ≡ true → after_first p (x ∷ xs) ≡ xs
  none_after x [] e = rw e refl
  none_after x (y ∷ xs) e = rw e refl

  one_after : (x : X) (xs : List X) → p x ≡ false → after_first p (x ∷ xs) ≡ after_first p xs
  one_after x xs e = rw e (ap (λ n. drop n (x ∷ xs)) later)
    where
      later : 1 + position_or_len p xs + 1 ≡ suc (position_or_len p xs + 1)
      later = omega arith

  before_dropped : (k : ℕ) (xs : List X) → k ≤ length (before_first p xs) → before_first p (drop k xs) ≡ drop k (before_first p xs)
  before_dropped zero xs h = refl
  before_dropped (suc k) [] h = absurd (omega arith)
  before_dropped (suc k) (x ∷ xs) h = at (p x) refl (before_dropped k xs)
    where
      at : (b : Bool) → p x ≡ b → (k ≤ length (before_first p xs) → before_first p (drop k xs) ≡ drop k (before_first p xs)) → before_first p (drop (suc k) (x ∷ xs)) ≡ drop (suc k) (before_first p (x ∷ xs))
      at true e after = absurd (let none = ap length (none_before x xs e) in omega (arith, none, h))
      at false e after = let more = ap length (one_before x xs e) in after (omega (arith, more, h)) ∙ ap (drop (suc k)) (sym (one_before x xs e))

-- ---- lines

abbrev is_inside : ℕ → Bool
is_inside o = not (is_line_end o)

blank_inside : (o : ℕ) → is_blank o ≡ true → is_line_end o ≡ false
blank_inside o blank = grind (arith, common_steps)

inside_before : (text : List ℕ) → list_all is_inside (before_first is_line_end text) ≡ true
inside_before [] = refl
inside_before (o ∷ os) = at (is_line_end o) refl (inside_before os)
  where
    at : (b : Bool) → is_line_end o ≡ b → list_all is_inside (before_first is_line_end os) ≡ true → list_all is_inside (before_first is_line_end (o ∷ os)) ≡ true
    at true e later = ap (list_all is_inside) (none_before is_line_end o os e)
    at false e later = ap (list_all is_inside) (one_before is_line_end o os e) ∙ rw e later

pub before_short : (text : List ℕ) → length (before_first is_line_end text) ≤ length text
before_short text =
    let n : ℕ = position_or_len is_line_end text in
    omega (arith, ap length (take-append-drop n text), length-append (take n text) (drop n text))

blanks_before : (blanks more : List ℕ) → list_all is_blank blanks ≡ true → before_first is_line_end (blanks ++ more) ≡ blanks ++ before_first is_line_end more
blanks_before [] more all = refl
blanks_before (o ∷ blanks) more all =
    let parts = both (is_blank o) (list_all is_blank blanks) all in
    one_before is_line_end o (blanks ++ more) (blank_inside o parts.0) ∙ ap (λ os. o ∷ os) (blanks_before blanks more parts.1)

pub text_inside : (o : ℕ) (os : List ℕ) → is_line_end o ≡ false → texts_of (o ∷ os) ≡ onto_first o (texts_of os)
text_inside o os e = rw e refl

pub text_ended : (o : ℕ) (os : List ℕ) → is_line_end o ≡ true → texts_of (o ∷ os) ≡ [] ∷ texts_of os
text_ended o os e = rw e refl

-- octets and a comma, without a line end
one_text : (octets : List ℕ) → list_all is_inside octets ≡ true → texts_of (octets ++ comma ∷ []) ≡ (octets ++ comma ∷ []) ∷ []
one_text [] all = refl
one_text (o ∷ os) all =
    let parts = both (is_inside o) (list_all is_inside os) all in
    text_inside o (os ++ comma ∷ []) (not_true (is_line_end o) parts.0) ∙ ap (onto_first o) (one_text os parts.1)

-- ---- lines that were read

pub lines_none : (text : List ℕ) → IsLinesRead text [] text
lines_none text = record { front = []; split = refl; read = λ some more. refl }

pub lines_then : (text : List ℕ) (lines : List (List ℕ)) (middle : List ℕ) (others : List (List ℕ)) (rest : List ℕ) → IsLinesRead text lines middle → IsLinesRead middle others rest → IsLinesRead text (lines ++ others) rest
lines_then text lines middle others rest one two = record {
  front = one.front ++ two.front;
  split = one.split ∙ ap (λ os. one.front ++ os) two.split ∙ sym (append_assoc one.front two.front rest);
  read = λ some more.
      let left : 0 < length middle = omega (arith, some, ap length two.split, length-append two.front rest) in
      ap texts_of (append_assoc one.front two.front more)
      ∙ one.read left (two.front ++ more)
      ∙ ap (λ ls. lines ++ ls) (two.read some more)
      ∙ sym (append_assoc lines others (texts_of more));
}

pub lines_one : (text : List ℕ) → IsLinesRead text (before_first is_line_end text ∷ []) (after_first is_line_end text)
lines_one [] = record { front = []; split = refl; read = λ some more. absurd (omega (arith, some)) }
lines_one (o ∷ os) = at (is_line_end o) refl (lines_one os)
  where
    at : (b : Bool) → is_line_end o ≡ b → IsLinesRead os (before_first is_line_end os ∷ []) (after_first is_line_end os) → IsLinesRead (o ∷ os) (before_first is_line_end (o ∷ os) ∷ []) (after_first is_line_end (o ∷ os))
    at true e later = record {
      front = o ∷ [];
      split = ap (λ rest. o ∷ rest) (sym (none_after is_line_end o os e));
      read = λ some more. text_ended o more e ∙ ap (λ line. line ∷ texts_of more) (sym (none_before is_line_end o os e));
    }
    at false e later = record {
      front = o ∷ later.front;
      split = ap (λ rest. o ∷ rest) later.split ∙ ap (λ rest. o ∷ later.front ++ rest) (sym (one_after is_line_end o os e));
      read = λ some more.
          text_inside o (later.front ++ more) e
          ∙ ap (onto_first o) (later.read (subst (λ rest. 0 < length rest) (one_after is_line_end o os e) some) more)
          ∙ ap (λ line. line ∷ texts_of more) (sym (one_before is_line_end o os e));
    }

-- one line more, which holds no pair
pub idle_more : (text rest line after : List ℕ) → IsIdleRead text rest → line ≡ before_first is_line_end rest → after ≡ after_first is_line_end rest → is_idle_line line ≡ true → IsIdleRead text after
idle_more text rest line after (lines, read, all) is_line is_after idle = (
  lines ++ (line ∷ []),
  lines_then text lines rest (line ∷ []) after read (rw (is_line, is_after) (lines_one rest)),
  all-append is_idle_line lines (line ∷ []) all (rw idle refl),
)

-- ---- places

pub filled_past : (text : List ℕ) (place : ℕ) → length text ≤ place → is_before_filled place text ≡ true
filled_past text place past = ap (λ x. option_map_or (λ octet. not (is_blank octet)) x true) (slice_get_past text place past)

pub filled_at : (text : List ℕ) (place o : ℕ) → place < length text → o ≡ get_or text place 0 → is_blank o ≡ false → is_before_filled place text ≡ true
filled_at text place o within it filled =
    ap (λ x. option_map_or (λ octet. not (is_blank octet)) x true) (slice_get-get_or text place 0 within)
    ∙ ap (λ x. not (is_blank x)) (sym it) ∙ ap not filled

pub past_none : (text : List ℕ) (place : ℕ) → IsPastBlanks text place place
past_none text place = ([], refl, refl, omega arith)

-- one blank more
pub past_more : (text : List ℕ) (from place o : ℕ) → place < length text → o ≡ get_or text place 0 → is_blank o ≡ true → IsPastBlanks text from place → IsPastBlanks text from (place + 1)
past_more text from place o within it blank (blanks, split, all, is) =
    let opened : drop place text ≡ o ∷ drop (place + 1) text = drop-cons text place 0 within ∙ rw (add-one, it) refl in (
      blanks ++ (o ∷ []),
      split ∙ ap (λ os. blanks ++ os) opened ∙ sym (append_assoc blanks (o ∷ []) (drop (place + 1) text)),
      all_blank-append blanks (o ∷ []) all (rw blank refl),
      omega (arith, is, length-append blanks (o ∷ [])),
    )

like_blanks : (blanks later more : List ℕ) → IsLike (blanks ++ later) (blanks ++ comma ∷ more)
like_blanks [] later more = inr refl
like_blanks (o ∷ blanks) later more = inl refl

-- what is left of a line of a text, and the place there, past blanks
module _ (text front rest line : List ℕ) (lines : List (List ℕ)) (tokens : List Token) (side : Side) (left place : ℕ)
    (split : text ≡ front ++ rest) (whole : (more : List ℕ) → texts_of (front ++ more) ≡ lines ++ texts_of more) (some : 0 < length rest)
    (is_line : line ≡ before_first is_line_end rest) (end : List ℕ) (read : IsLexed Name line tokens side end)
    (is_left : left ≡ length end + (length rest - length line)) (past : IsPastBlanks text (length text - left) place) where
  abbrev blanks : List ℕ
  blanks = past.0

  abbrev later : List ℕ
  later = line_from text place

  -- the octets of the line before the place
  abbrev before : List ℕ
  before = read.front ++ blanks

  abbrev tail : List ℕ
  tail = drop (position_or_len is_line_end rest) rest

  rest_is : rest ≡ line ++ tail
  rest_is = sym (take-append-drop (position_or_len is_line_end rest) rest) ∙ ap (λ os. os ++ tail) (sym is_line)

  line_short : length line ≤ length rest
  line_short = omega (arith, ap length rest_is, length-append line tail)

  begins : length text - left ≡ length front + length read.front
  begins = omega (arith, is_left, line_short, ap length split, length-append front rest, ap length read.split, length-append read.front end)

  rest_from : drop (length read.front) rest ≡ blanks ++ drop place text
  rest_from =
      sym (ap (λ n. drop n text) begins ∙ ap (drop (length front + length read.front)) split ∙ drop_past front rest (length read.front))
      ∙ past.1

  -- what is left of the line begins with the blanks
  end_is : end ≡ blanks ++ later
  end_is =
      let few : length read.front ≤ length (before_first is_line_end rest) = omega (arith, ap length is_line, ap length read.split, length-append read.front end) in
      sym (drop_front read.front end)
      ∙ ap (drop (length read.front)) (sym read.split ∙ is_line)
      ∙ sym (before_dropped is_line_end (length read.front) rest few)
      ∙ ap (before_first is_line_end) rest_from
      ∙ blanks_before blanks (drop place text) past.2

  line_is : line ≡ before ++ later
  line_is = read.split ∙ ap (λ os. read.front ++ os) end_is ∙ sym (append_assoc read.front blanks later)

  pub tokens_there : tokens_at side end ≡ tokens_at side later
  tokens_there = ap (tokens_at side) end_is ∙ blanks_skipped side blanks later past.2

  text_is : text ≡ (front ++ before) ++ (later ++ tail)
  text_is =
      split ∙ ap (λ os. front ++ os) (rest_is ∙ ap (λ os. os ++ tail) line_is ∙ append_assoc before later tail)
      ∙ sym (append_assoc front before (later ++ tail))

  place_is : place ≡ length (front ++ before)
  place_is = omega (arith, past.3, begins, length-append front before, length-append read.front blanks)

  front_is : take place text ≡ front ++ before
  front_is =
      ap (λ n. take n text) place_is ∙ ap (take (length (front ++ before))) text_is
      ∙ take_front (front ++ before) (later ++ tail)

  before_inside : list_all is_inside before ≡ true
  before_inside = all_front is_inside before later (subst (λ os. list_all is_inside os ≡ true) (sym is_line ∙ line_is) (inside_before rest))

  pub placed : IsPlace text place lines tokens side
  placed = record {
    line = line;
    others = texts_of (after_first is_line_end rest);
    front = before;
    whole = ap texts_of split ∙ whole rest ∙ ap (λ ls. lines ++ ls) (first_text rest some ∙ ap (λ os. os ∷ texts_of (after_first is_line_end rest)) (sym is_line));
    cut = ap (λ os. texts_of (os ++ comma ∷ [])) front_is ∙ ap texts_of (append_assoc front before (comma ∷ []))
        ∙ whole (before ++ comma ∷ []) ∙ ap (λ ls. lines ++ ls) (one_text before before_inside);
    tokens = lexed_whole Name line tokens side end read ∙ ap (λ ts. tokens ++ ts) tokens_there;
    apart = λ more.
        ap (tokens_at Name) (append_assoc read.front blanks (comma ∷ more))
        ∙ read.lexed (blanks ++ comma ∷ more) (subst (λ os. IsLike os (blanks ++ comma ∷ more)) (sym end_is) (like_blanks blanks later more))
        ∙ ap (λ ts. tokens ++ ts) (blanks_skipped side blanks (comma ∷ more) past.2 ∙ at_comma side more);
  }
