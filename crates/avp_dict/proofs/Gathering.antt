-- What gathering the lines of a file keeps true.
use Rattle.std.proofs.Common.{◌≡◌, ℕ, zero, suc, ◌+◌, ◌-◌, ◌<◌, Bool, true, false, not, cond, List, [], ◌∷◌, Some, None, ◌++◌, length, take, drop, refl, ap, sym, ◌∙◌, arith, append_assoc, one-add, add-one, if◌then◌else◌}
use Rattle.std.specs.List.{before_first, after_first, onto_first, position_or_len}
use Rattle.avp_dict.specs.declared.file.files.NamedFile.{NamedFile}
use Rattle.avp_dict.specs.Lines.{is_line_end, Line, expanded, file_included, lines_below, lines_in, octets_at, texts_of}

-- one octet more at the front of a first text
front : (b : Bool) (o : ℕ) (os : List ℕ) (n : ℕ) → onto_first o (texts_of os) ≡ (o ∷ take n os) ∷ texts_of (drop (n + 1) os) → (if b then [] ∷ texts_of os else onto_first o (texts_of os)) ≡ take (cond (not b) (1 + n) 0) (o ∷ os) ∷ texts_of (drop (cond (not b) (1 + n) 0 + 1) (o ∷ os))
front true o os n h = refl
front false o os n h = rw (one-add, add-one) (rw add-one at h)

-- the first text is what is before the first line end
pub texts_of_first : (o : ℕ) (os : List ℕ) → texts_of (o ∷ os) ≡ before_first is_line_end (o ∷ os) ∷ texts_of (after_first is_line_end (o ∷ os))
texts_of_first o [] = front (is_line_end o) o [] 0 refl
texts_of_first o (x ∷ xs) = front (is_line_end o) o (x ∷ xs) (position_or_len is_line_end (x ∷ xs)) (ap (onto_first o) (texts_of_first x xs))

pub lines_in_open : (files : List NamedFile) (levels place : ℕ) → 0 < levels → lines_in files levels place ≡ expanded (lines_below files (lines_in files (levels - 1))) place (9 - levels) 1 (texts_of (octets_at files place))
unfolding lines_in
lines_in_open files zero place h = absurd (omega arith)
lines_in_open files (suc levels) place h =
    let e : suc levels - 1 ≡ levels = omega arith in
    let d : 9 - suc levels ≡ 8 - levels = omega arith in
    rw (e, d)

pub lines_in_none : (files : List NamedFile) (levels place : ℕ) → levels ≡ 0 → lines_in files levels place ≡ []
unfolding lines_in
lines_in_none files zero place h = refl
lines_in_none files (suc levels) place h = absurd (omega arith)

pub first_text : (rest : List ℕ) → 0 < length rest → texts_of rest ≡ before_first is_line_end rest ∷ texts_of (after_first is_line_end rest)
first_text [] h = absurd (omega arith)
first_text (o ∷ os) h = texts_of_first o os

pub below_some : (files : List NamedFile) (levels : ℕ) (text : List ℕ) (place : ℕ) → file_included files text ≡ Some place → lines_below files (lines_in files levels) text ≡ lines_in files levels place
below_some files levels text place e = rw e

pub below_none : (files : List NamedFile) (levels : ℕ) (text : List ℕ) → file_included files text ≡ None → lines_below files (lines_in files levels) text ≡ []
below_none files levels text e = rw e

-- a step of reading: what is read of a line and the lines below it, and then of those that follow
module _ {Y : Type 0} (first : List Line → Y) (all : List Line → Y) (below : List ℕ → List Line) (place depth number : ℕ) (rest text after : List ℕ) (more_left : 0 < length rest)
    (is_text : text ≡ before_first is_line_end rest) (is_after : after ≡ after_first is_line_end rest)
    (so_far : (ls : List Line) → first (expanded below place depth number (texts_of rest) ++ ls) ≡ all ls) where
  abbrev line : Line
  line = record { file = place; number = number; depth = depth; text = text }

  abbrev following : List Line
  following = expanded below place depth (number + 1) (texts_of after)

  first_line : (ls : List Line) → expanded below place depth number (texts_of rest) ++ ls ≡ line ∷ (below text ++ (following ++ ls))
  first_line ls = rw (first_text rest more_left, ← is_text, ← is_after) (ap (λ xs. line ∷ xs) (append_assoc (below text) following ls))

  -- the line is the first of all that is read
  pub begins : (ls : List Line) → first (line ∷ (below text ++ (following ++ ls))) ≡ all ls
  begins ls = ap first (sym (first_line ls)) ∙ so_far ls

  pub goes_on : (middle next : List Line → Y) → ((ls : List Line) → first (line ∷ ls) ≡ middle ls) → ((ls : List Line) → middle (below text ++ ls) ≡ next ls) → (ls : List Line) → next (following ++ ls) ≡ all ls
  goes_on middle next one under ls = sym (under (following ++ ls)) ∙ (sym (one (below text ++ (following ++ ls))) ∙ begins ls)
