use Rattle.std.proofs.Common.{◌≡◌, ◌∙◌, ap, arith, length, map, rules, subst, sym, refl, Some}
use Rattle.std.specs.Option.{option_map}
use Rattle.std.proofs.lemmas.List.{length-map}
use Rattle.radpolicy.specs.Plans.{AreDistinct}
use Rattle.radpolicy.proofs.WordPlans.{same_names_by_texts, same_some}
use Rattle.radpolicy.proofs.command_line.files_of.Goals as goal

pub returns-in_default-clause-refused : goal.returns-in_default-clause-refused
returns-in_default-clause-refused c = λ _.
    let none = sym c.texts_in.ensures ∙ ap (option_map (λ texts. map (λ text. text.now) texts.now)) c.in_default.is in
    (refl, λ paths found. let bad = sym none ∙ found in cc)

pub returns-then-is_empty-clause-refused : goal.returns-then-is_empty-clause-refused
returns-then-is_empty-clause-refused c = λ _.
    let given = sym c.texts_in.ensures ∙ ap (option_map (λ texts. map (λ text. text.now) texts.now)) c.in-Some.is in
    let files = c.in-Some.files.now in
    let empty : length files ≡ 0 = search rules in (
      refl,
      λ paths found some. let same = ap length (same_some _ _ (sym given ∙ found)) in
          absurd (omega (arith, some, empty, same, length-map files (λ path. path.now), length-map paths (λ path. path.now))),
    )

pub returns-then-not-branch-clause-refused : goal.returns-then-not-branch-clause-refused
returns-then-not-branch-clause-refused c = λ _.
    let given = sym c.texts_in.ensures ∙ ap (option_map (λ texts. map (λ text. text.now) texts.now)) c.in-Some.is in (
      refl,
      λ paths found some distinct.
          let names = same_names_by_texts paths c.in-Some.files.now (same_some _ _ (sym found ∙ given)) in
          c.in_ok-has_distinct_names.ensures.same c.if-not-branch.true (subst AreDistinct names distinct),
    )

pub returns-clause-files : goal.returns-clause-files
returns-clause-files c =
    let given = sym c.texts_in.ensures ∙ ap (option_map (λ texts. map (λ text. text.now) texts.now)) c.in-Some.is in
    given ∙ ap (λ files. Some (map (λ path. path.now) files)) (sym c.in_ok-from_slice.ensures.items)
