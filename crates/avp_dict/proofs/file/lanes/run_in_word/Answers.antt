use Rattle.std.proofs.Common.{◌≡◌, ◌∙◌, ℕ, leb, true, not, take, arith}
use Rattle.std.proofs.lemmas.Grind.{common_steps}
use Rattle.std.proofs.lemmas.List.{length-take}
use Rattle.std.proofs.lemmas.List.Sums.{prefix_len-le-length}
use Rattle.avp_dict.specs.internal.LineWords.{is_in_word}
use Rattle.avp_dict.proofs.LaneRuns.{first_compared, run_first}
use Rattle.avp_dict.proofs.file.lanes.run_in_word.Goals as goal

in_word : (o : ℕ) → not (leb o 35) ≡ true → is_in_word o ≡ true
in_word o is = grind (arith, common_steps)

pub returns-clause-within : goal.returns-clause-within
returns-clause-within c =
    let run = c.first_marked.ensures ∙ first_compared leb 35 c.args.text.now c.requires in
    omega (arith, run, prefix_len-le-length (λ o. not (leb o 35)) (take 16 c.args.text.now), length-take 16 c.args.text.now)

pub returns-clause-size : goal.returns-clause-size
returns-clause-size c =
    let text = c.args.text.now in
    let run = c.first_marked.ensures ∙ first_compared leb 35 text c.requires in
    rw run (run_first (λ o. not (leb o 35)) is_in_word in_word 16 text)
