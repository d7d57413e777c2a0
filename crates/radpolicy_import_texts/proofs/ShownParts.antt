-- What a text without values becomes by one part more.
use Rattle.std.proofs.Common.{◌≡◌, ◌≤◌, ◌==◌, ◌&&◌, ◌++◌, ℕ, true, false, List, [], ◌∷◌, arith, codes, drop, get_or, length, refl, subst, sym}
use Rattle.std.specs.List.{list_all}
use Rattle.radpolicy_import_texts.specs.Concealing.{HasNoValues, awaits_value, is_blank, is_reference, is_sign, names_attribute}
use Rattle.radpolicy_import_texts.specs.Concealing.HasNoValues.{nothing, sign, blank, name, reference, hidden}
use Rattle.radpolicy_import_texts.specs.SecretNames.{Secrets}
use Rattle.radpolicy_import_texts.specs.Words.{is_reference_octet}

pub nothing_shown : (s : Secrets) (text : List ℕ) → text ≡ [] → HasNoValues s text
nothing_shown s text e = subst (HasNoValues s) (sym e) nothing

pub sign_after : (s : Secrets) (c : ℕ) (text new : List ℕ) → new ≡ text ++ c ∷ [] → is_sign c ≡ true → HasNoValues s text → HasNoValues s new
sign_after s c text new e is h = subst (HasNoValues s) (sym e) (sign c text is h)

pub blank_after : (s : Secrets) (c : ℕ) (text new : List ℕ) → new ≡ text ++ c ∷ [] → is_blank c ≡ true → HasNoValues s text → HasNoValues s new
blank_after s c text new e is h = subst (HasNoValues s) (sym e) (blank c text is h)

pub name_after : (s : Secrets) (word text new : List ℕ) → new ≡ text ++ word → names_attribute s word ≡ true → awaits_value text ≡ false → HasNoValues s text → HasNoValues s new
name_after s word text new e is left h = subst (HasNoValues s) (sym e) (name word text is left h)

pub reference_after : (s : Secrets) (word text new : List ℕ) → new ≡ text ++ word → is_reference word ≡ true → HasNoValues s text → HasNoValues s new
reference_after s word text new e is h = subst (HasNoValues s) (sym e) (reference word text is h)

pub hidden_after : (s : Secrets) (text new : List ℕ) → new ≡ text ++ codes "(hidden)" → HasNoValues s text → HasNoValues s new
hidden_after s text new e h = subst (HasNoValues s) (sym e) (hidden text h)

-- of a word that begins
pub reference_at : (word : List ℕ) → 1 ≤ length word → is_reference word ≡ ((get_or word 0 0 == 38) && list_all is_reference_octet (drop 1 word))
reference_at [] h = absurd (omega arith)
reference_at (c ∷ cs) h = refl
