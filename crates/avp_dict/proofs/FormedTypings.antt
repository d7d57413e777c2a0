-- The type of an ATTRIBUTE line holds what its values stand for.
use Rattle.std.proofs.Common.{◌≡◌, ℕ, Bool, true, false, cond, ◌&&◌, ◌||◌, ◌==◌, codes, List, [], ◌∷◌, Option, Some, refl, ap, ap₂, arith, unwrap_or}
use Rattle.std.specs.List.{list_any}
use Rattle.std.specs.Map.{lookup}
use Rattle.std.proofs.Math.Bool.{or-true}
use Rattle.std.proofs.lemmas.Bool.{and_parts, cond_both, or_parts}
use Rattle.std.proofs.lemmas.Grind.{common_steps}
use Rattle.avp_lists.specs.declared.pairs.AttrId.{AttrId}
use Rattle.avp_dict.specs.declared.entries.Kind.{Kind}
use Rattle.avp_dict.specs.declared.entries.Typing.{Typing}
use Rattle.avp_dict.specs.declared.forms.Form.{Form}
use Rattle.avp_dict.specs.declared.forms.Form.TheVariants as forms
use Rattle.avp_dict.specs.Letters.{word_before_bracket}
use Rattle.avp_dict.specs.Types.{form_by, has_flag, is_encrypted, is_fixed, is_formed, is_hiding, is_marked, is_opaque, kind_word, kind_words, own_form, tagged_form, typing_by, typing_of}
use Rattle.avp_dict.specs.Words.{lower, same_name}

-- ---- words that are the same

same_as : (a b c : List ℕ) → same_name a b ≡ true → same_name a c ≡ same_name b c
same_as [] [] c h = refl
same_as [] (y ∷ ys) c h = absurd (cc)
same_as (x ∷ xs) [] c h = absurd (cc)
same_as (x ∷ xs) (y ∷ ys) [] h = refl
same_as (x ∷ xs) (y ∷ ys) (z ∷ zs) h =
    let parts = and_parts (lower x == lower y) (same_name xs ys) h in
    let e : lower x ≡ lower y = grind (arith, common_steps) in
    ap₂ (λ a b. a && b) (ap (λ n. n == lower z) e) (same_as xs ys zs parts.1)

lookup_same : {K V : Type 0} (f g : K → Bool) → ((k : K) → f k ≡ g k) → (entries : List (K × V)) → lookup f entries ≡ lookup g entries
lookup_same f g h [] = refl
lookup_same f g h (e ∷ es) = ap₂ (λ b rest. cond b (Some e.1) rest) (h e.0) (lookup_same f g h es)

-- the type of a word that is the same as this one
kind_as : (w own : List ℕ) → same_name w own ≡ true → kind_word w ≡ kind_word own
kind_as w own h = lookup_same (same_name w) (same_name own) (λ k. same_as w own k h) kind_words

-- ---- flags

opaque_of_tag : (flags : List (List ℕ)) → has_flag (codes "has_tag") flags ≡ true → list_any is_opaque flags ≡ true
opaque_of_tag [] h = absurd (cc)
opaque_of_tag (w ∷ ws) h =
    elim (same_name w (codes "has_tag")) as (λ b. (b || has_flag (codes "has_tag") ws) ≡ true → (((b || same_name w (codes "encrypt=2")) || same_name w (codes "encrypt=3")) || list_any is_opaque ws) ≡ true) [
      | true ↦ λ _. refl
      | false ↦ λ rest. rw (opaque_of_tag ws rest) (or-true (same_name w (codes "encrypt=2") || same_name w (codes "encrypt=3")))
    ] h

clear_of_none : (flags : List (List ℕ)) → has_flag (codes "has_tag") flags ≡ false → has_flag (codes "encrypt=2") flags ≡ false → has_flag (codes "encrypt=3") flags ≡ false → list_any is_opaque flags ≡ false
clear_of_none [] a b c = refl
clear_of_none (w ∷ ws) a b c =
    let pa = or_parts (same_name w (codes "has_tag")) (has_flag (codes "has_tag") ws) a in
    let pb = or_parts (same_name w (codes "encrypt=2")) (has_flag (codes "encrypt=2") ws) b in
    let pc = or_parts (same_name w (codes "encrypt=3")) (has_flag (codes "encrypt=3") ws) c in
    let rest = clear_of_none ws pa.1 pb.1 pc.1 in
    rw (pa.0, pb.0, pc.0, rest)

-- ---- typings

-- of octets that are not hidden
octets_formed : (own : Option Kind) (w : List ℕ) (secret : Bool) → is_formed (typing_by own true false (unwrap_or (tagged_form w) forms.AsTyped) secret) ≡ true
octets_formed own w secret =
    let P : Option Form → Type 0 = λ o. is_formed (typing_by own true false (unwrap_or o forms.AsTyped) secret) ≡ true in
    cond_both (same_name w (codes "integer")) _ _ P (λ h. refl) (λ h. cond_both (same_name w (codes "string")) _ _ P (λ i. refl) (λ i. refl))

-- of a type word without flags that hide or tag the values
module _ (w : List ℕ) (secret : Bool) where
  abbrev IsFormedAs : Option Form → Type 0
  IsFormedAs o = is_formed (typing_by (kind_word w) false false (unwrap_or o forms.AsTyped) secret) ≡ true

  formed_as : (own : List ℕ) (form : Form) → is_formed (typing_by (kind_word own) false false form secret) ≡ true → same_name w own ≡ true → IsFormedAs (Some form)
  formed_as own form h same = rw (kind_as w own same) h

  word_formed : IsFormedAs (own_form w)
  word_formed =
      cond_both (same_name w (codes "date")) _ _ IsFormedAs (formed_as (codes "date") forms.Date refl) (λ a.
      cond_both (same_name w (codes "ipv6addr")) _ _ IsFormedAs (formed_as (codes "ipv6addr") forms.Ipv6Address refl) (λ b.
      cond_both (same_name w (codes "ipv6prefix")) _ _ IsFormedAs (formed_as (codes "ipv6prefix") forms.Ipv6Prefix refl) (λ c.
      cond_both (same_name w (codes "ipv4prefix")) _ _ IsFormedAs (formed_as (codes "ipv4prefix") forms.Ipv4Prefix refl) (λ d.
      cond_both (same_name w (codes "ifid")) _ _ IsFormedAs (formed_as (codes "ifid") forms.InterfaceId refl) (λ e. refl)))))

word_typing_formed : (w : List ℕ) (flags : List (List ℕ)) (secret : Bool) → is_formed (typing_by (kind_word w) (list_any is_opaque flags) (list_any is_hiding flags) (form_by w flags) secret) ≡ true
word_typing_formed w flags secret =
    let P : Form → Type 0 = λ form. is_formed (typing_by (kind_word w) (list_any is_opaque flags) (list_any is_hiding flags) form secret) ≡ true in
    cond_both (is_encrypted flags) _ _ P (λ h. refl) (λ plain.
    let first = or_parts (has_flag (codes "encrypt=1") flags || has_flag (codes "encrypt=2") flags) (has_flag (codes "encrypt=3") flags) plain in
    let second = or_parts (has_flag (codes "encrypt=1") flags) (has_flag (codes "encrypt=2") flags) first.0 in
    let shown : list_any is_hiding flags ≡ false = second.0 in
    cond_both (has_flag (codes "has_tag") flags) _ _ P
    (λ tagged. let opaque = opaque_of_tag flags tagged in rw (opaque, shown) (octets_formed (kind_word w) w secret))
    (λ bare. let clear = clear_of_none flags bare second.1 first.1 in rw (clear, shown) (word_formed w secret)))

pub typing_formed : (id : AttrId) (word : List ℕ) (flags : List (List ℕ)) → is_formed (typing_of id word flags) ≡ true
typing_formed id word flags =
    cond_both (is_fixed id) _ _ (λ (t : Typing). is_formed t ≡ true) (λ fixed. refl) (λ other. word_typing_formed (word_before_bracket word) flags (is_marked flags))
