use Rattle.std.proofs.Common.{◌≡◌, true, List, Some, All, IsTrue}
use Rattle.std.proofs.lemmas.Result.{IfOk-weaker}
use Rattle.avp_lists.specs.declared.pairs.Pair.{Pair}
use Rattle.avp_dict.specs.Limits.{fits}
use Rattle.avp_dict.specs.Requests.{request_spelled}
use Rattle.avp_dict.specs.Sent.{is_clean}
use Rattle.avp_dict.proofs.Fitting.{request_fits}
use Rattle.avp_dict.proofs.PairSteps.{only_one, spelled_by_pairs}
use Rattle.avp_dict.proofs.SpelledClean.{request_clean}
use Rattle.avp_dict.proofs.dictionaries.Dictionary.read_request.Goals as goal

pub returns-clause-read : goal.returns-clause-read
returns-clause-read c = rw (spelled_by_pairs c.args.self.now c.args.text.now) c.read_pairs.ensures.read

pub returns-clause-fits : goal.returns-clause-fits
returns-clause-fits c =
    let d = c.args.self.now in
    let text = c.args.text.now in
    IfOk-weaker c.read_pairs.result (λ pairs. request_spelled text d ≡ Some pairs.items) (λ pairs. All (λ pair. IsTrue (fits pair d)) pairs.items)
    (λ pairs e. request_fits d c.sound.ensures text pairs.items e) (returns-clause-read c)

pub returns-clause-clean : goal.returns-clause-clean
returns-clause-clean c =
    let d = c.args.self.now in
    let text = c.args.text.now in
    IfOk-weaker c.read_pairs.result (λ pairs. request_spelled text d ≡ Some pairs.items) (λ pairs. is_clean pairs.items d ≡ true)
    (λ pairs e. request_clean d c.sound.ensures text pairs.items e) (returns-clause-read c)

pub returns-clause-only : goal.returns-clause-only
returns-clause-only c =
    let d = c.args.self.now in
    let text = c.args.text.now in
    IfOk-weaker c.read_pairs.result (λ pairs. request_spelled text d ≡ Some pairs.items)
    (λ pairs. (other : List Pair) → request_spelled text d ≡ Some other → other ≡ pairs.items)
    (λ pairs e other spelled. only_one (request_spelled text d) pairs.items other e spelled) (returns-clause-read c)

pub returns-clause-refused : goal.returns-clause-refused
returns-clause-refused c = rw (spelled_by_pairs c.args.self.now c.args.text.now) c.read_pairs.ensures.refused
