-- Lines of a policy, and their ends.
use Rattle.std.proofs.Common.{◌≡◌, ◌∙◌, ◌+◌, ◌++◌, ℕ, List, [], ◌∷◌, ap, arith, codes, length, refl, subst, sym}
use Rattle.std.proofs.lemmas.List.{append-nil, append_assoc, length-append}
use Rattle.server_configuration.specs.declared.configurations.Configuration.{Configuration}
use Rattle.radpolicy_import_policies.specs.OriginTexts.{EndAsTold, ended_lines, line_end}
use Rattle.radpolicy_import_policies.specs.declared.origins.LineOrigin.{LineOrigin}
use Rattle.radpolicy_import_policies.specs.declared.settings.LineEnds.{LineEnds}

pub no_lines : (ends : LineEnds) (c : Configuration) → EndAsTold ends c [] []
no_lines ends c = record { said = []; each = refl; are = refl }

-- a line that says this
abbrev one_line : LineEnds → Configuration → List ℕ → LineOrigin → List ℕ
one_line ends c said line = said ++ line_end ends c said line ++ codes "\n"

with_one : (ends : LineEnds) (c : Configuration) (said : List (List ℕ)) (lines : List LineOrigin) (last : List ℕ) (line : LineOrigin)
    → length said ≡ length lines
    → ended_lines ends c (said ++ last ∷ []) (lines ++ line ∷ []) ≡ ended_lines ends c said lines ++ one_line ends c last line
with_one ends c [] [] last line e = append-nil (one_line ends c last line)
with_one ends c [] (other ∷ lines) last line e = absurd (omega arith)
with_one ends c (first ∷ said) [] last line e = absurd (omega arith)
with_one ends c (first ∷ said) (other ∷ lines) last line e =
    let same : length said ≡ length lines = omega arith in
    ap (λ (rest : List ℕ). one_line ends c first other ++ rest) (with_one ends c said lines last line same)
    ∙ sym (append_assoc (one_line ends c first other) (ended_lines ends c said lines) (one_line ends c last line))

one_longer : {X Y : Type 0} (xs : List X) (ys : List Y) (x : X) (y : Y) → length xs ≡ length ys → length (xs ++ x ∷ []) ≡ length (ys ++ y ∷ [])
one_longer xs ys x y e = length-append xs (x ∷ []) ∙ ap (λ n. n + 1) e ∙ sym (length-append ys (y ∷ []))

-- a line more, with its end and its line feed
pub ends_after : (ends : LineEnds) (c : Configuration) (lines : List LineOrigin) (text said : List ℕ) (line : LineOrigin)
    → EndAsTold ends c lines text
    → EndAsTold ends c (lines ++ line ∷ []) (text ++ said ++ line_end ends c said line ++ codes "\n")
ends_after ends c lines text said line h = record {
  said = h.said ++ said ∷ [];
  each = one_longer h.said lines said line h.each;
  are = append_assoc (text ++ said) (line_end ends c said line) (codes "\n")
      ∙ append_assoc text said (line_end ends c said line ++ codes "\n")
      ∙ ap (λ (os : List ℕ). text ++ os) (sym (append_assoc said (line_end ends c said line) (codes "\n")))
      ∙ ap (λ (os : List ℕ). os ++ one_line ends c said line) h.are
      ∙ sym (with_one ends c h.said lines said line h.each);
}

pub line_added : (ends : LineEnds) (c : Configuration) (old new : List LineOrigin) (line : LineOrigin) (text said told front end all : List ℕ)
    → new ≡ old ++ line ∷ [] → said ≡ told → front ≡ text ++ said → end ≡ front ++ line_end ends c told line → all ≡ end ++ 10 ∷ []
    → EndAsTold ends c old text → EndAsTold ends c new all
line_added ends c old new line text said told front end all e same e1 e2 e3 h =
    let joined : all ≡ text ++ told ++ line_end ends c told line ++ codes "\n" =
    e3 ∙ ap (λ (os : List ℕ). os ++ 10 ∷ []) (e2 ∙ ap (λ (os : List ℕ). os ++ line_end ends c told line)
    (e1 ∙ ap (λ (os : List ℕ). text ++ os) same)) in
    subst (λ (lines : List LineOrigin). EndAsTold ends c lines all) (sym e)
    (subst (λ (os : List ℕ). EndAsTold ends c (old ++ line ∷ []) os) (sym joined) (ends_after ends c old text told line h))
