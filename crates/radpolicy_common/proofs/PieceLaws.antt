-- The pieces of a text, found one after another.
use Rattle.std.proofs.Common.{◌≡◌, ◌≢◌, ◌∙◌, ◌≤◌, ◌<◌, ℕ, zero, suc, ◌+◌, ◌-◌, true, false, if◌then◌else◌, List, [], ◌∷◌, ◌++◌, length, take, drop, refl, sym, ap, arith, append_assoc, length-append}
use Rattle.avp_forms.specs.declared.profiles.Profile.{Profile}
use Rattle.avp_unlang.specs.Faults.{from_token}
use Rattle.avp_unlang.specs.Tokens.{token_in}
use Rattle.avp_unlang.specs.declared.text.tokens.Token.{Token}
use Rattle.avp_unlang.specs.declared.text.tokens.Token.TheVariants.{End, Matching, Operator, Quoted, Unreadable, Word}
use Rattle.radpolicy_common.specs.Pieces.{Piece, is_end, piece, pieces_from, token_length, unreadable_length}

pub not_the_end : (token : Token) → is_end token ≡ false → token ≢ End
not_the_end token going same = absurd (cc (ap is_end same, going))

-- a token that is not the end has an octet
pub some_taken : (token : Token) (rest start : List ℕ) → is_end token ≡ false → length rest < length start → 0 < token_length token rest start
some_taken (Operator s) rest start not_end shorter = omega (arith, shorter)
some_taken (Word word) rest start not_end shorter = omega (arith, shorter)
some_taken (Quoted mark text) rest start not_end shorter = omega (arith, shorter)
some_taken (Matching matcher) rest start not_end shorter = omega (arith, shorter)
some_taken Unreadable rest [] not_end shorter = omega (arith, shorter)
some_taken Unreadable rest (c ∷ cs) not_end shorter = omega arith
some_taken End rest start not_end shorter = cc

module _ (profile : Profile) (token : Token) (rest start : List ℕ) (is : (token, rest) ≡ token_in profile start) (not_end : is_end token ≡ false) where
  first_piece : (n : ℕ) → pieces_from (suc n) profile start
      ≡ piece token (token_length token rest start) start ∷ pieces_from n profile (from_token (drop (token_length token rest start) start))
  first_piece n = rw (sym is, not_end) refl

  pub piece_pushed : (count : ℕ) (pieces : List Piece) (p : Piece) (behind : List ℕ) → p ≡ piece token (token_length token rest start) start
      → behind ≡ from_token (drop (token_length token rest start) start) → length pieces < count
      → (pieces ++ p ∷ []) ++ pieces_from (count - length (pieces ++ p ∷ [])) profile behind ≡ pieces ++ pieces_from (count - length pieces) profile start
  piece_pushed count pieces p behind p_is behind_is within =
      let fewer : count - length pieces ≡ suc (count - length (pieces ++ p ∷ [])) = rw (length-append pieces (p ∷ [])) (omega (arith, within)) in
      let n : ℕ = count - length (pieces ++ p ∷ []) in
      let taken : ℕ = token_length token rest start in
      let back : pieces_from (count - length pieces) profile start ≡ p ∷ pieces_from n profile behind = rw (fewer) (first_piece n
      ∙ ap (λ (first : Piece). first ∷ pieces_from n profile (from_token (drop taken start))) (sym p_is)
      ∙ ap (λ (others : List ℕ). p ∷ pieces_from n profile others) (sym behind_is)) in
      append_assoc pieces (p ∷ []) (pieces_from n profile behind) ∙ ap (λ (others : List Piece). pieces ++ others) (sym back)
