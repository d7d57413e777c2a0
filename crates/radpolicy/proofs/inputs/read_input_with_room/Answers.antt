use Rattle.std.proofs.Common.{◌≡◌, ◌<◌, ◌++◌, ◌∙◌, ℕ, List, [], Option, None, Some, IfSome, arith, length, option_map, rules, take}
use Rattle.std.proofs.lemmas.List.{length-take, take_all}
use Rattle.radpolicy.proofs.inputs.read_input_with_room.Goals as goal

-- what was read up to a limit, and ends before it, is all that there was
read_whole : (known : Option (List ℕ)) (front read : List ℕ) (limit : ℕ) → front ≡ [] → length read < limit → IfSome (option_map (take limit) known) (λ octets. read ≡ front ++ octets) → IfSome known (λ octets. read ≡ octets)
read_whole None front read limit empty short same = tt
read_whole (Some octets) front read limit empty short same =
    let taken : read ≡ take limit octets = rw empty at same in
    let cut : length (take limit octets) < limit = rw (← taken) short in
    let all = simp length-take at cut in
    taken ∙ take_all limit octets (omega (arith, all))

pub returns-then-count-le-MAX_INPUT_OCTETS-clause-all :
    goal.returns-then-count-le-MAX_INPUT_OCTETS-clause-all
returns-then-count-le-MAX_INPUT_OCTETS-clause-all g c =
    let short : length c.read_to_end.new.buf.items < c.take.result.limit = search rules in
    let whole = read_whole _ _ _ _ c.in_ok-octets.ensures.items short c.in_ok-count.ensures.bytes in
    rw (c.from_vec.ensures, ← c.take.ensures.inner) whole
