-- The octets before a place, by the tokens before it.
use Rattle.std.proofs.Common.{◌≡◌, ◌∙◌, ℕ, ◌+◌, ◌<◌, ◌==◌, Bool, true, false, filter, List, [], ◌∷◌, ◌++◌, length, refl, sym, ap, arith, append_assoc, append-nil}
use Rattle.avp_dict.specs.RequestLines.{Between, Blank, Comma, Escaped, Outside, Place, Quoted, Run, Sign, Token, Unended, is_filled, is_sign, onto_quoted, onto_run, place_between, quote_octet, tokens_at, tokens_from}
use Rattle.avp_dict.specs.Letters.{is_comma}
use Rattle.avp_dict.specs.Words.{is_blank, is_hash}
use Rattle.avp_dict.specs.declared.request.tokens.Side.{Side}
use Rattle.avp_dict.specs.declared.request.tokens.Side.TheVariants.{Name, Value}
use Rattle.avp_dict.specs.declared.value.quotes.QuoteMark.{QuoteMark}
use Rattle.avp_dict.specs.declared.value.quotes.QuoteMark.TheVariants.{Double, Single}
use Rattle.avp_dict.proofs.Lexing.{at_comma, at_end, begins_text, text_first}

-- ---- how much there is in tokens

abbrev weight : Token → ℕ
weight Blank = 0
weight (Run octets) = length octets
weight token = 1

abbrev size : List Token → ℕ
size [] = 0
size (token ∷ tokens) = weight token + size tokens

abbrev is_unended : Token → Bool
is_unended Unended = true
is_unended token = false

abbrev ends_unended : List Token → Bool
ends_unended [] = false
ends_unended (token ∷ []) = is_unended token
ends_unended (token ∷ other ∷ tokens) = ends_unended (other ∷ tokens)

size-append : (tokens others : List Token) → size (tokens ++ others) ≡ size tokens + size others
size-append [] others = omega arith
size-append (token ∷ tokens) others = omega (arith, size-append tokens others)

size_filled : (tokens : List Token) → size (filter is_filled tokens) ≡ size tokens
size_filled [] = refl
size_filled (Blank ∷ tokens) = omega (arith, size_filled tokens)
size_filled (Comma ∷ tokens) = omega (arith, size_filled tokens)
size_filled (Sign ∷ tokens) = omega (arith, size_filled tokens)
size_filled (Run octets ∷ tokens) = omega (arith, size_filled tokens)
size_filled (Quoted mark text ∷ tokens) = omega (arith, size_filled tokens)
size_filled (Unended ∷ tokens) = omega (arith, size_filled tokens)

-- one token more in front
ends_after : (token : Token) (tokens : List Token) → ends_unended tokens ≡ true → ends_unended (token ∷ tokens) ≡ true
ends_after token [] ends = absurd (cc)
ends_after token (other ∷ tokens) ends = ends

ends_filled : (tokens : List Token) → ends_unended tokens ≡ true → ends_unended (filter is_filled tokens) ≡ true
ends_filled [] ends = ends
ends_filled (Blank ∷ []) ends = absurd (cc)
ends_filled (Comma ∷ []) ends = absurd (cc)
ends_filled (Sign ∷ []) ends = absurd (cc)
ends_filled (Run octets ∷ []) ends = absurd (cc)
ends_filled (Quoted mark text ∷ []) ends = absurd (cc)
ends_filled (Unended ∷ []) ends = refl
ends_filled (Blank ∷ other ∷ tokens) ends = ends_filled (other ∷ tokens) ends
ends_filled (Comma ∷ other ∷ tokens) ends = ends_after Comma (filter is_filled (other ∷ tokens)) (ends_filled (other ∷ tokens) ends)
ends_filled (Sign ∷ other ∷ tokens) ends = ends_after Sign (filter is_filled (other ∷ tokens)) (ends_filled (other ∷ tokens) ends)
ends_filled (Run octets ∷ other ∷ tokens) ends = ends_after (Run octets) (filter is_filled (other ∷ tokens)) (ends_filled (other ∷ tokens) ends)
ends_filled (Quoted mark text ∷ other ∷ tokens) ends = ends_after (Quoted mark text) (filter is_filled (other ∷ tokens)) (ends_filled (other ∷ tokens) ends)
ends_filled (Unended ∷ other ∷ tokens) ends = ends_after Unended (filter is_filled (other ∷ tokens)) (ends_filled (other ∷ tokens) ends)

ends_with_comma : (tokens : List Token) → ends_unended (tokens ++ Comma ∷ []) ≡ false
ends_with_comma [] = refl
ends_with_comma (token ∷ []) = refl
ends_with_comma (token ∷ other ∷ tokens) = ends_with_comma (other ∷ tokens)

run_size : (o : ℕ) (tokens : List Token) → size (onto_run o tokens) ≡ 1 + size tokens
run_size o [] = omega arith
run_size o (Run octets ∷ tokens) = omega arith
run_size o (Blank ∷ tokens) = omega arith
run_size o (Comma ∷ tokens) = omega arith
run_size o (Sign ∷ tokens) = omega arith
run_size o (Quoted mark text ∷ tokens) = omega arith
run_size o (Unended ∷ tokens) = omega arith

run_ends : (o : ℕ) (tokens : List Token) → ends_unended tokens ≡ true → ends_unended (onto_run o tokens) ≡ true
run_ends o [] ends = absurd (cc)
run_ends o (Run octets ∷ []) ends = absurd (cc)
run_ends o (Run octets ∷ other ∷ tokens) ends = ends
run_ends o (Blank ∷ tokens) ends = ends
run_ends o (Comma ∷ tokens) ends = ends
run_ends o (Sign ∷ tokens) ends = ends
run_ends o (Quoted mark text ∷ tokens) ends = ends
run_ends o (Unended ∷ tokens) ends = ends

quoted_size : (o : ℕ) (tokens : List Token) → size (onto_quoted o tokens) ≡ 0 + size tokens
quoted_size o (Quoted mark text ∷ tokens) = omega arith
quoted_size o [] = omega arith
quoted_size o (Run octets ∷ tokens) = omega arith
quoted_size o (Blank ∷ tokens) = omega arith
quoted_size o (Comma ∷ tokens) = omega arith
quoted_size o (Sign ∷ tokens) = omega arith
quoted_size o (Unended ∷ tokens) = omega arith

quoted_ends : (o : ℕ) (tokens : List Token) → ends_unended tokens ≡ true → ends_unended (onto_quoted o tokens) ≡ true
quoted_ends o (Quoted mark text ∷ []) ends = absurd (cc)
quoted_ends o (Quoted mark text ∷ other ∷ tokens) ends = ends
quoted_ends o [] ends = ends
quoted_ends o (Run octets ∷ tokens) ends = ends
quoted_ends o (Blank ∷ tokens) ends = ends
quoted_ends o (Comma ∷ tokens) ends = ends
quoted_ends o (Sign ∷ tokens) ends = ends
quoted_ends o (Unended ∷ tokens) ends = ends

-- ---- where octets leave a line: outside, in a comment, or between quotes

data Left (place : Place) (front : List ℕ) : Type 0 where
  outside : (side : Side) (n : ℕ) → ((more : List ℕ) → size (tokens_from place (front ++ more)) ≡ n + size (tokens_from (Outside side) more)) → Left place front
  comment : (n : ℕ) → ((more : List ℕ) → size (tokens_from place (front ++ more)) ≡ n) → Left place front
  between : ends_unended (tokens_from place (front ++ 44 ∷ [])) ≡ true → Left place front

-- one octet more in front
left_more : (place next : Place) (o n : ℕ) (front : List ℕ) → ((os : List ℕ) → size (tokens_from place (o ∷ os)) ≡ n + size (tokens_from next os)) → ((os : List ℕ) → ends_unended (tokens_from next os) ≡ true → ends_unended (tokens_from place (o ∷ os)) ≡ true) → Left next front → Left place (o ∷ front)
left_more place next o n front sized ended (outside side m more) = outside side (n + m) (λ os. omega (arith, sized (front ++ os), more os))
left_more place next o n front sized ended (comment m more) = comment (n + m) (λ os. omega (arith, sized (front ++ os), more os))
left_more place next o n front sized ended (between ends) = between (ended (front ++ 44 ∷ []) ends)

-- the octet makes this of the tokens after it
made : (place next : Place) (o n : ℕ) (front : List ℕ) (make : List Token → List Token) → ((os : List ℕ) → tokens_from place (o ∷ os) ≡ make (tokens_from next os)) → ((tokens : List Token) → size (make tokens) ≡ n + size tokens) → ((tokens : List Token) → ends_unended tokens ≡ true → ends_unended (make tokens) ≡ true) → Left next front → Left place (o ∷ front)
made place next o n front make is sized ended left =
    left_more place next o n front (λ os. ap size (is os) ∙ sized (tokens_from next os)) (λ os ends. ap ends_unended (is os) ∙ ended (tokens_from next os) ends) left

outside_left : (side : Side) (o : ℕ) (front : List ℕ) (hash blank comma double single sign : Bool) → is_hash o ≡ hash → is_blank o ≡ blank → is_comma o ≡ comma → (o == quote_octet Double) ≡ double → (o == quote_octet Single) ≡ single → is_sign side o ≡ sign → ((place : Place) → Left place front) → Left (Outside side) (o ∷ front)
unfolding tokens_from
outside_left side o front true blank comma double single sign e1 e2 e3 e4 e5 e6 left = comment 0 (λ os. rw e1 refl)
outside_left side o front false true comma double single sign e1 e2 e3 e4 e5 e6 left = made (Outside side) (Outside side) o 0 front (λ ts. Blank ∷ ts) (λ os. rw (e1, e2) refl) (λ ts. refl) (ends_after Blank) (left (Outside side))
outside_left side o front false false true double single sign e1 e2 e3 e4 e5 e6 left = made (Outside side) (Outside Name) o 1 front (λ ts. Comma ∷ ts) (λ os. rw (e1, e2, e3) refl) (λ ts. refl) (ends_after Comma) (left (Outside Name))
outside_left side o front false false false true single sign e1 e2 e3 e4 e5 e6 left = made (Outside side) (Between Double) o 0 front (λ ts. ts) (λ os. rw (e1, e2, e3, e4) refl) (λ ts. omega arith) (λ ts ends. ends) (left (Between Double))
outside_left side o front false false false false true sign e1 e2 e3 e4 e5 e6 left = made (Outside side) (Between Single) o 0 front (λ ts. ts) (λ os. rw (e1, e2, e3, e4, e5) refl) (λ ts. omega arith) (λ ts ends. ends) (left (Between Single))
outside_left side o front false false false false false true e1 e2 e3 e4 e5 e6 left = made (Outside side) (Outside Value) o 1 front (λ ts. Sign ∷ ts) (λ os. rw (e1, e2, e3, e4, e5, e6) refl) (λ ts. refl) (ends_after Sign) (left (Outside Value))
outside_left side o front false false false false false false e1 e2 e3 e4 e5 e6 left = made (Outside side) (Outside side) o 1 front (onto_run o) (λ os. rw (e1, e2, e3, e4, e5, e6) refl) (run_size o) (run_ends o) (left (Outside side))

between_left : (mark : QuoteMark) (o : ℕ) (front : List ℕ) (quote : Bool) → (o == quote_octet mark) ≡ quote → ((place : Place) → Left place front) → Left (Between mark) (o ∷ front)
unfolding tokens_from
between_left mark o front true e left = made (Between mark) (Outside Value) o 1 front (λ ts. Quoted mark [] ∷ ts) (λ os. rw e refl) (λ ts. refl) (ends_after (Quoted mark [])) (left (Outside Value))
between_left mark o front false e left = made (Between mark) (place_between mark o) o 0 front (onto_quoted o) (λ os. rw e refl) (quoted_size o) (quoted_ends o) (left (place_between mark o))

left_by : (place : Place) (front : List ℕ) → Left place front
unfolding tokens_from
left_by (Outside side) [] = outside side 0 (λ more. omega arith)
left_by (Between Double) [] = between refl
left_by (Between Single) [] = between refl
left_by (Escaped Double) [] = between refl
left_by (Escaped Single) [] = between refl
left_by (Outside side) (o ∷ front) = outside_left side o front (is_hash o) (is_blank o) (is_comma o) (o == quote_octet Double) (o == quote_octet Single) (is_sign side o) refl refl refl refl refl refl (λ place. left_by place front)
left_by (Between mark) (o ∷ front) = between_left mark o front (o == quote_octet mark) refl (λ place. left_by place front)
left_by (Escaped mark) (o ∷ front) = made (Escaped mark) (Between mark) o 0 front (onto_quoted o) (λ os. refl) (quoted_size o) (quoted_ends o) (left_by (Between mark) front)

-- ---- one front

-- a comma after octets is a token after these, whatever follows it
abbrev pub IsApart : List ℕ → List Token → Type 0
IsApart front before = (more : List ℕ) → tokens_at Name (front ++ 44 ∷ more) ≡ before ++ Comma ∷ tokens_at Name more

sized : (front : List ℕ) (before : List Token) → IsApart front before → (more : List ℕ) → size (tokens_from (Outside Name) (front ++ 44 ∷ more)) ≡ size before + (1 + size (tokens_at Name more))
unfolding tokens_at
sized front before apart more =
    sym (size_filled (tokens_from (Outside Name) (front ++ 44 ∷ more))) ∙ ap size (apart more) ∙ size-append before (Comma ∷ tokens_at Name more)

one_comma : size (tokens_at Name (44 ∷ [])) ≡ 1
one_comma = ap size (at_comma Name [] ∙ ap (λ ts. Comma ∷ ts) (at_end Name))

no_octet : size (tokens_at Name []) ≡ 0
no_octet = ap size (at_end Name)

comma_from : (side : Side) → size (tokens_from (Outside side) (44 ∷ [])) ≡ 1
unfolding tokens_from
comma_from side = refl

-- octets that are apart leave a line outside of comments and quotes
left_outside : (front : List ℕ) (before : List Token) → IsApart front before → (side : Side) × (((more : List ℕ) → size (tokens_from (Outside Name) (front ++ more)) ≡ size before + size (tokens_from (Outside side) more)))
unfolding tokens_at
left_outside front before apart = go (left_by (Outside Name) front)
  where
    go : Left (Outside Name) front → (side : Side) × (((more : List ℕ) → size (tokens_from (Outside Name) (front ++ more)) ≡ size before + size (tokens_from (Outside side) more)))
    go (outside side n more) =
        let is : n ≡ size before = omega (arith, more (44 ∷ []), sized front before apart [], comma_from side, no_octet) in
        (side, λ os. more os ∙ ap (λ m. m + size (tokens_from (Outside side) os)) is)
    go (comment n more) = absurd (omega (arith, more (44 ∷ []), more (44 ∷ 44 ∷ []), sized front before apart [], sized front before apart (44 ∷ []), one_comma, no_octet))
    go (between ends) =
        absurd (let none = sym (ends_filled (tokens_from (Outside Name) (front ++ 44 ∷ [])) ends) ∙ ap ends_unended (apart [] ∙ ap (λ ts. before ++ Comma ∷ ts) (at_end Name)) ∙ ends_with_comma before in cc)

text_size : (tokens : List Token) → begins_text tokens ≡ true → 0 < size tokens
text_size (Quoted mark text ∷ tokens) h = omega arith
text_size (Unended ∷ tokens) h = omega arith
text_size _ h = absurd (cc)

-- an octet that is no blank, outside of comments and quotes
filled_size : (side : Side) (o : ℕ) (os : List ℕ) (comma double single sign : Bool) → is_hash o ≡ false → is_blank o ≡ false → is_comma o ≡ comma → (o == quote_octet Double) ≡ double → (o == quote_octet Single) ≡ single → is_sign side o ≡ sign → 0 < size (tokens_from (Outside side) (o ∷ os))
unfolding tokens_from
filled_size side o os true double single sign e1 e2 e3 e4 e5 e6 = rw (e1, e2, e3) (omega arith)
filled_size side o os false true single sign e1 e2 e3 e4 e5 e6 = rw (e1, e2, e3, e4) (text_size (tokens_from (Between Double) os) (text_first Double false os))
filled_size side o os false false true sign e1 e2 e3 e4 e5 e6 = rw (e1, e2, e3, e4, e5) (text_size (tokens_from (Between Single) os) (text_first Single false os))
filled_size side o os false false false true e1 e2 e3 e4 e5 e6 = rw (e1, e2, e3, e4, e5, e6) (omega arith)
filled_size side o os false false false false e1 e2 e3 e4 e5 e6 = rw (e1, e2, e3, e4, e5, e6) (omega (arith, run_size o (tokens_from (Outside side) os)))

hash_size : (side : Side) (o : ℕ) (os : List ℕ) → is_hash o ≡ true → size (tokens_from (Outside side) (o ∷ os)) ≡ 0
unfolding tokens_from
hash_size side o os e = rw e refl

end_size : (side : Side) → size (tokens_from (Outside side) []) ≡ 0
unfolding tokens_from
end_size side = refl

-- no octet that is no blank comes between two ends of what these tokens are
pub one_front : (front middle : List ℕ) (o : ℕ) (before : List Token) → is_blank o ≡ false → IsApart front before → IsApart (front ++ o ∷ middle) before → ⊥
one_front front middle o before filled one two =
    let first = left_outside front before one in
    let second = left_outside (front ++ o ∷ middle) before two in
    let here : size (tokens_from (Outside Name) ((front ++ o ∷ middle) ++ [])) ≡ size (tokens_from (Outside Name) (front ++ o ∷ middle)) = ap (λ os. size (tokens_from (Outside Name) os)) (append-nil (front ++ o ∷ middle)) in
    let none : size (tokens_from (Outside first.0) (o ∷ middle)) ≡ 0 = omega (arith, first.1 (o ∷ middle), second.1 [], here, end_size second.0) in
    let later : size (tokens_from (Outside Name) ((front ++ o ∷ middle) ++ 44 ∷ [])) ≡ size (tokens_from (Outside Name) (front ++ o ∷ (middle ++ 44 ∷ []))) = ap (λ os. size (tokens_from (Outside Name) os)) (append_assoc front (o ∷ middle) (44 ∷ [])) in
    go (is_hash o) refl first.0 second.0 (first.1 (o ∷ (middle ++ 44 ∷ []))) (second.1 (44 ∷ [])) none later
  where
    go : (hash : Bool) → is_hash o ≡ hash → (side other : Side)
        → size (tokens_from (Outside Name) (front ++ o ∷ (middle ++ 44 ∷ []))) ≡ size before + size (tokens_from (Outside side) (o ∷ (middle ++ 44 ∷ [])))
        → size (tokens_from (Outside Name) ((front ++ o ∷ middle) ++ 44 ∷ [])) ≡ size before + size (tokens_from (Outside other) (44 ∷ []))
        → size (tokens_from (Outside side) (o ∷ middle)) ≡ 0
        → size (tokens_from (Outside Name) ((front ++ o ∷ middle) ++ 44 ∷ [])) ≡ size (tokens_from (Outside Name) (front ++ o ∷ (middle ++ 44 ∷ [])))
        → ⊥
    go true e side other long short none later = absurd (omega (arith, long, short, later, hash_size side o (middle ++ 44 ∷ []) e, comma_from other))
    go false e side other long short none later =
        absurd (omega (arith, none, filled_size side o middle (is_comma o) (o == quote_octet Double) (o == quote_octet Single) (is_sign side o) e filled refl refl refl refl))
