-- How many statements a statement is, and where they are.
use Rattle.std.proofs.Common.{◌≡◌, ◌∙◌, ℕ, ◌+◌, ◌++◌, List, [], ◌∷◌, ap, sym}
use Rattle.std.proofs.lemmas.List.{append_assoc}
use Rattle.radpolicy_import_policies.specs.Statements.{count, count_of, placed, places_in, places_of, weighed, weight}
use Rattle.radpolicy_import_policies.specs.declared.statements.Statement.{Statement, out-Statement}
use Rattle.radpolicy_import_policies.specs.declared.statements.Statement.TheFolds.{fold_out-Statement}

pub count_here : (s : Statement) → count s ≡ count_of (out-Statement s).block + weight (out-Statement s).kind
unfolding count
count_here s = fold_out-Statement ℕ weighed s

places_here : (s : Statement) → places_in s ≡ (out-Statement s).place ∷ places_of (out-Statement s).block
unfolding places_in
places_here s = fold_out-Statement (List ℕ) placed s

pub placed_after : (s : Statement) (old one new : List ℕ) → one ≡ old ++ (out-Statement s).place ∷ []
    → new ≡ one ++ places_of (out-Statement s).block → new ≡ old ++ places_in s
placed_after s old one new e1 e2 =
    let there = places_of (out-Statement s).block in
    e2 ∙ ap (λ (ps : List ℕ). ps ++ there) e1 ∙ append_assoc old ((out-Statement s).place ∷ []) there
    ∙ ap (λ (ps : List ℕ). old ++ ps) (sym (places_here s))
