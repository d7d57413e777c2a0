-- A program's line is found again in the file that it was put into.
use Rattle.std.proofs.Common.{◌≡◌, ◌∙◌, ℕ, ◌+◌, ◌*◌, ◌≤◌, Bool, true, false, ◌==◌, List, [], ◌∷◌, ◌++◌, take, drop, length, codes, if◌then◌else◌, refl, sym, ap, subst, arith}
use Rattle.std.specs.Str.{bytes_eq}
use Rattle.std.proofs.Math.Seq.{drop-append_seam, take-append_seam}
use Rattle.std.proofs.lemmas.List.{append_assoc, length-append, take-append-drop}
use Rattle.std.proofs.lemmas.Slice.Eq.{bytes_eq-Decides}
use Rattle.hex.specs.Hex.{encode_lower, lower_digits}
use Rattle.hex.proofs.HexLemmas.{length-encode_with}
use Rattle.sha2.specs.Sha256.{sha256}
use Rattle.sha2.proofs.Facts256.{length-sha256}
use Rattle.radpolicy_common.specs.Marks.{IsMarked, closing_of, head_length, head_of, mark, marked, opening_of, without_mark}
use Rattle.radpolicy_common.specs.declared.marks.Comments.{Comments}
use Rattle.radpolicy_common.specs.declared.marks.Comments.TheVariants.{Hash, Html}

digest_length : (text : List ℕ) → length (encode_lower (sha256 text)) ≡ 64
digest_length text = length-encode_with lower_digits (sha256 text) ∙ ap (λ n. 2 * n) (length-sha256 text)

-- the line of whatever text is as long
mark_length : (comments : Comments) (program text : List ℕ) → length (mark comments program text) ≡ length (mark comments program [])
mark_length comments program text =
    simp (length-append, digest_length)

-- by the test whether a text begins with the line that stays the first
abbrev begins : Comments → List ℕ → Bool
begins comments text = bytes_eq (take (length (head_of comments)) text) (head_of comments)

-- the program's line is no such line
mark_is_no_head : (comments : Comments) (program text rest : List ℕ) → bytes_eq (take (length (head_of comments)) (mark comments program text ++ rest)) (head_of comments) ≡ false
mark_is_no_head Hash program text rest = refl
mark_is_no_head Html program text rest = refl

take_front : (a b c : List ℕ) → take (length a) (a ++ b ++ c) ≡ a
take_front a b c = rw (append_assoc a b c) (take-append_seam a (b ++ c))

drop_front : (a b c : List ℕ) → drop (length a) (a ++ b ++ c) ≡ b ++ c
drop_front a b c = rw (append_assoc a b c) (drop-append_seam a (b ++ c))

-- of a text that begins with the line that stays the first, and of one that does not
module _ (comments : Comments) (program text : List ℕ) where
  abbrev head : List ℕ
  head = head_of comments

  abbrev line : List ℕ
  line = mark comments program text

  abbrev below : List ℕ
  below = drop (length head) text

  back_below : begins comments text ≡ true → without_mark comments (length line) (marked comments program text) ≡ text
  back_below begun =
      let first : take (length head) text ≡ head = (bytes_eq-Decides (take (length head) text) head).0 begun in
      let still : bytes_eq (take (length head) (head ++ line ++ below)) head ≡ true =
      rw (take_front head line below) ((bytes_eq-Decides head head).1 refl) in
      let whole : head ++ below ≡ text = subst (λ front. front ++ below ≡ text) first (take-append-drop (length head) text) in
      rw (begun, first, still, take_front head line below, drop_front head line below, drop-append_seam line below) whole

  back_at_the_top : begins comments text ≡ false → without_mark comments (length line) (marked comments program text) ≡ text
  back_at_the_top other =
      rw (other, mark_is_no_head comments program text text, drop-append_seam line text) refl

  back_by : (begun : Bool) → begins comments text ≡ begun → without_mark comments (length line) (marked comments program text) ≡ text
  back_by true = back_below
  back_by false = back_at_the_top

  pub back : without_mark comments (length line) (marked comments program text) ≡ text
  back = back_by (begins comments text) refl

-- what a program wrote is the text that is left of it, with the program's line
pub marked_again : (comments : Comments) (program octets : List ℕ) → IsMarked comments program octets → marked comments program (without_mark comments (length (mark comments program [])) octets) ≡ octets
marked_again comments program octets is =
    let e : without_mark comments (length (mark comments program [])) octets ≡ is.text = rw (is.whole, ← mark_length comments program is.text) (back comments program is.text) in
    rw (e) (sym is.whole)
