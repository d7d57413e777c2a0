-- What is printed between quotes reads back.
use Rattle.std.proofs.Common.{◌≡◌, ℕ, suc, ◌+◌, ◌/◌, ◌%◌, ◌<◌, true, List, [], ◌∷◌, ◌++◌, get_or, refl, ap, ◌∙◌, arith, flat_map}
use Rattle.std.proofs.lemmas.Grind.{common_steps}
use Rattle.avp_dict.specs.declared.value.quotes.QuoteMark.TheVariants.{Double}
use Rattle.avp_dict.specs.Quotes.{begins_octal, octal_escape, octal_value, between_quotes, double_quoted_octets, octets_between, quoted, quoted_octet, unescaped}

octal_back : (o : ℕ) → o < 256 → octal_value (48 + o / 64) (48 + o / 8 % 8) (48 + o % 8) ≡ o
octal_back o small = omega arith

octal_begins : (o : ℕ) → o < 256 → (rest : List ℕ) → begins_octal ((48 + o / 64) ∷ (48 + o / 8 % 8) ∷ (48 + o % 8) ∷ rest) ≡ true
octal_begins o small rest = grind (arith, common_steps)

octal_reads : (o : ℕ) → o < 256 → (rest : List ℕ) → unescaped Double 0 (octal_escape o ++ rest) ≡ o ∷ unescaped Double 0 rest
octal_reads o small rest = rw (octal_begins o small rest, octal_back o small)

octet_reads : (o : ℕ) → o < 256 → (rest : List ℕ) → unescaped Double 0 (quoted_octet o ++ rest) ≡ o ∷ unescaped Double 0 rest
octet_reads o small rest = let octal = octal_reads o small rest in grind (arith, common_steps, octal)

unescaped_back : (octets : List ℕ) → ((i : ℕ) → get_or octets i 0 < 256) → unescaped Double 0 (flat_map quoted_octet octets) ≡ octets
unescaped_back [] small = refl
unescaped_back (o ∷ os) small = octet_reads o (small 0) (flat_map quoted_octet os) ∙ ap (λ ys. o ∷ ys) (unescaped_back os (λ i. small (suc i)))

-- what is between the quotes of a printed text
between : (xs : List ℕ) → between_quotes (34 ∷ (xs ++ 34 ∷ [])) ≡ xs
between xs = grind (arith, common_steps)

pub quoted_back : (octets : List ℕ) → ((i : ℕ) → get_or octets i 0 < 256) → double_quoted_octets (between_quotes (quoted octets)) ≡ octets
unfolding quoted octets_between
quoted_back octets small = ap (unescaped Double 0) (between (flat_map quoted_octet octets)) ∙ unescaped_back octets small
