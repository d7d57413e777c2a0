-- Records of a text, from its front on, and where the front is cut.
use Rattle.std.proofs.Common.{◌-◌, ◌≤◌, min, subst, ◌≡◌, ◌∙◌, ℕ, zero, suc, ◌+◌, true, false, List, [], ◌∷◌, ◌++◌, refl, sym, ap, cond, length, map, take, filter, arith}
use Rattle.std.specs.List.{join_with_byte, onto_first, slice_split}
use Rattle.std.proofs.Math.Seq.{take-append-add}
use Rattle.std.proofs.lemmas.List.{length-take, take_min}
use Rattle.std.proofs.lemmas.List.Elements.{All-head, All-tail, All-cons, All-nil}
use Rattle.std.proofs.lemmas.List.Splits.{join_with_byte-slice_split, slice_split-cons_no, slice_split_at, slice_split_none}
use Rattle.avp_dict.specs.Lines.{is_line_end}
use Rattle.radpolicy_replay_records.specs.Lines.{all_but_last, cut, ended_records_of, is_record, records_of}
use Rattle.radpolicy_record_answers.specs.declared.records.TheConstants.{MAX_LINE_OCTETS}
use Rattle.radpolicy_replay_records.specs.internal.Positions.{HasNoEnd}

abbrev pub NoEnd : ℕ → Type 0
NoEnd o = is_line_end o ≡ false

-- ---- the front of a text

abbrev onto_front : List ℕ → List (List ℕ) → List (List ℕ)
onto_front [] parts = parts
onto_front (x ∷ xs) parts = onto_first x (onto_front xs parts)

split_behind : (xs ys : List ℕ) → HasNoEnd xs → slice_split is_line_end (xs ++ ys) ≡ onto_front xs (slice_split is_line_end ys)
split_behind [] ys none = refl
split_behind (x ∷ xs) ys none =
    slice_split-cons_no is_line_end x (xs ++ ys) (All-head NoEnd x xs none) ∙ ap (onto_first x) (split_behind xs ys (All-tail NoEnd x xs none))

front_of : (xs part : List ℕ) (parts : List (List ℕ)) → onto_front xs (part ∷ parts) ≡ (xs ++ part) ∷ parts
front_of [] part parts = refl
front_of (x ∷ xs) part parts = ap (onto_first x) (front_of xs part parts)

HasPart : List (List ℕ) → Type 0
HasPart all = (part : List ℕ) × (parts : List (List ℕ)) × (all ≡ part ∷ parts)

one_more : (y : ℕ) (all : List (List ℕ)) → HasPart all → HasPart (onto_first y all)
unfolding HasPart
one_more y all (part, parts, same) = (y ∷ part, parts, ap (onto_first y) same)

-- a text has a line at least
has_part : (ys : List ℕ) → HasPart (slice_split is_line_end ys)
unfolding HasPart
has_part [] = ([], [], refl)
has_part (y ∷ ys) =
    elim (is_line_end y) as (λ b. HasPart (cond b ([] ∷ slice_split is_line_end ys) (onto_first y (slice_split is_line_end ys)))) [
      | true ↦ ([], slice_split is_line_end ys, refl)
      | false ↦ one_more y (slice_split is_line_end ys) (has_part ys)
    ]

split_front : (xs ys part : List ℕ) (parts : List (List ℕ)) → HasNoEnd xs → slice_split is_line_end ys ≡ part ∷ parts → slice_split is_line_end (xs ++ ys) ≡ (xs ++ part) ∷ parts
split_front xs ys part parts none same =
    split_behind xs ys none ∙ ap (onto_front xs) same ∙ front_of xs part parts

-- ---- cut lines

taken_again : (m : ℕ) (xs ys : List ℕ) → take m (take m xs ++ ys) ≡ take m (xs ++ ys)
taken_again zero xs ys = refl
taken_again (suc m) [] ys = refl
taken_again (suc m) (x ∷ xs) ys = ap (λ l. x ∷ l) (taken_again m xs ys)

none_taken : (m : ℕ) (xs : List ℕ) → HasNoEnd xs → HasNoEnd (take m xs)
none_taken zero xs none = All-nil NoEnd
none_taken (suc m) [] none = All-nil NoEnd
none_taken (suc m) (x ∷ xs) none =
    All-cons NoEnd x (take m xs) (All-head NoEnd x xs none) (none_taken m xs (All-tail NoEnd x xs none))

pub cut_has_no_end : (xs : List ℕ) → HasNoEnd xs → HasNoEnd (cut xs)
cut_has_no_end xs none = none_taken (MAX_LINE_OCTETS + 1) xs none

pub cut_is_short : (xs held : List ℕ) → held ≡ cut xs → length held ≤ MAX_LINE_OCTETS + 1
cut_is_short xs held same = let e = ap length same ∙ length-take (MAX_LINE_OCTETS + 1) xs in omega (arith, e)

cut_by : (xs ys : List ℕ) → HasNoEnd xs → HasPart (slice_split is_line_end ys) → map cut (slice_split is_line_end (cut xs ++ ys)) ≡ map cut (slice_split is_line_end (xs ++ ys))
unfolding HasPart
cut_by xs ys none (part, parts, same) =
    ap (map cut) (split_front (cut xs) ys part parts (cut_has_no_end xs none) same)
    ∙ ap (λ l. l ∷ map cut parts) (taken_again (MAX_LINE_OCTETS + 1) xs part)
    ∙ sym (ap (map cut) (split_front xs ys part parts none same))

-- a front without line ends may be cut
pub records_cut : (xs ys : List ℕ) → HasNoEnd xs → records_of (cut xs ++ ys) ≡ records_of (xs ++ ys)
unfolding records_of
records_cut xs ys none = ap (filter is_record) (cut_by xs ys none (has_part ys))

-- ---- the first record

pub records_line : (xs ys : List ℕ) → HasNoEnd xs → records_of (xs ++ 10 ∷ ys) ≡ cond (is_record (cut xs)) (cut xs ∷ records_of ys) (records_of ys)
unfolding records_of
records_line xs ys none =
    ap (λ parts. filter is_record (map cut parts)) (slice_split_at is_line_end xs 10 ys none refl)

pub records_last : (xs : List ℕ) → HasNoEnd xs → records_of xs ≡ cond (is_record (cut xs)) (cut xs ∷ []) []
unfolding records_of
records_last xs none = ap (λ parts. filter is_record (map cut parts)) (slice_split_none is_line_end xs none)

-- ---- the records whose lines have ended

pub ended_records_cut : (xs ys : List ℕ) → HasNoEnd xs → ended_records_of (cut xs ++ ys) ≡ ended_records_of (xs ++ ys)
unfolding ended_records_of
ended_records_cut xs ys none =
    ap (λ lines. filter is_record (all_but_last lines)) (cut_by xs ys none (has_part ys))

-- a line before a text ends
one_before : (line ys : List ℕ) → HasPart (slice_split is_line_end ys) → all_but_last (line ∷ map cut (slice_split is_line_end ys)) ≡ line ∷ all_but_last (map cut (slice_split is_line_end ys))
unfolding HasPart
one_before line ys (part, parts, same) =
    ap (λ lines. all_but_last (line ∷ map cut lines)) same ∙ sym (ap (λ lines. line ∷ all_but_last (map cut lines)) same)

pub ended_records_line : (xs ys : List ℕ) → HasNoEnd xs → ended_records_of (xs ++ 10 ∷ ys) ≡ cond (is_record (cut xs)) (cut xs ∷ ended_records_of ys) (ended_records_of ys)
unfolding ended_records_of
ended_records_line xs ys none =
    ap (λ parts. filter is_record (all_but_last (map cut parts))) (slice_split_at is_line_end xs 10 ys none refl)
    ∙ ap (filter is_record) (one_before (cut xs) ys (has_part ys))

pub ended_records_none : (xs : List ℕ) → HasNoEnd xs → ended_records_of xs ≡ []
unfolding ended_records_of
ended_records_none xs none = ap (λ parts. filter is_record (all_but_last (map cut parts))) (slice_split_none is_line_end xs none)

-- ---- where a text is split

first_part : List (List ℕ) → List ℕ
first_part [] = []
first_part (part ∷ parts) = part

first_longer : (x : ℕ) (parts : List (List ℕ)) → first_part (onto_first x parts) ≡ x ∷ first_part parts
unfolding first_part
first_longer x [] = refl
first_longer x (part ∷ parts) = refl

first_is_clean : (text : List ℕ) → HasNoEnd (first_part (slice_split is_line_end text))
unfolding first_part
first_is_clean [] = All-nil NoEnd
first_is_clean (x ∷ xs) =
    elim (is_line_end x) as (λ b. is_line_end x ≡ b → HasNoEnd (first_part (cond b ([] ∷ slice_split is_line_end xs) (onto_first x (slice_split is_line_end xs))))) [
      | true ↦ λ e. All-nil NoEnd
      | false ↦ λ e. subst HasNoEnd (sym (first_longer x (slice_split is_line_end xs))) (All-cons NoEnd x (first_part (slice_split is_line_end xs)) e (first_is_clean xs))
    ] refl

-- the first part of a text has no line end
pub first_clean : (text part : List ℕ) (parts : List (List ℕ)) → slice_split is_line_end text ≡ part ∷ parts → HasNoEnd part
unfolding first_part
first_clean text part parts same = subst HasNoEnd (ap first_part same) (first_is_clean text)

join_more : (part : List ℕ) (after : List ℕ) → HasPart (slice_split is_line_end after) → join_with_byte 10 (part ∷ slice_split is_line_end after) ≡ part ++ 10 ∷ join_with_byte 10 (slice_split is_line_end after)
unfolding HasPart
join_more part after (next, parts, same) =
    ap (λ all. join_with_byte 10 (part ∷ all)) same ∙ sym (ap (λ all. part ++ 10 ∷ join_with_byte 10 all) same)

-- a text that is split has a line end
pub parts_joined : (text part after : List ℕ) → slice_split is_line_end text ≡ part ∷ slice_split is_line_end after → text ≡ part ++ 10 ∷ after
parts_joined text part after same =
    sym (join_with_byte-slice_split 10 text) ∙ ap (join_with_byte 10) same ∙ join_more part after (has_part after)
    ∙ ap (λ l. part ++ 10 ∷ l) (join_with_byte-slice_split 10 after)

-- ---- what is kept

pub kept_part : (m : ℕ) (xs ys : List ℕ) → length xs ≤ m → xs ++ take (min (m - length xs) (length ys)) ys ≡ take m (xs ++ ys)
kept_part m xs ys short =
    let whole : length xs + (m - length xs) ≡ m = omega (arith, short) in
    ap (λ l. xs ++ l) (take_min (m - length xs) ys) ∙ sym (take-append-add xs ys (m - length xs)) ∙ ap (λ n. take n (xs ++ ys)) whole
