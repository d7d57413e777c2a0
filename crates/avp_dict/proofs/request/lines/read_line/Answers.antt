use Rattle.std.proofs.Common.{◌∙◌, ◌≢◌, ◌<◌, List, ℕ, length, ap, refl, subst, arith}
use Rattle.std.proofs.lemmas.Result.{err_from_is_err_and}
use Rattle.avp_dict.specs.Outcomes.{is_memory_line}
use Rattle.avp_dict.specs.declared.request.faults.LineKind.TheVariants.{Memory, Unreadable}
use Rattle.avp_dict.specs.declared.request.tokens.Side.TheVariants.{Name, Value}
use Rattle.avp_dict.specs.RefusedPlaces.{IsOutOfMemoryFor}
use Rattle.avp_dict.specs.RequestLines.{tokens_at}
use Rattle.avp_dict.specs.Requests.{pair_assigned}
use Rattle.avp_dict.specs.internal.LineReading.{pairs_at}
use Rattle.avp_dict.proofs.FirstRefusals.{comma_refused, count_refused, pair_out, pair_refused_in, pair_stopped_in, unless_map}
use Rattle.avp_dict.proofs.LexedLines.{lexed_none}
use Rattle.avp_dict.proofs.PairSteps.{line_ends, many_refused, none_refused, pair_more, refuses_all, rest_refused}
use Rattle.avp_dict.proofs.ReadPairs.{pairs_more, pairs_none}
use Rattle.avp_dict.proofs.request.lines.read_line.Goals as goal

pub loop-first-init : goal.loop-first-init
loop-first-init g c = record {
  read = refl;
  few = c.requires;
  shorter = omega arith;
  pairs = λ some. pairs_none (g.R.PairReader.target_of c.args.reader.now) (g.R.PairReader.pair_of c.args.reader.now) c.args.pairs.now.items c.args.line.now (lexed_none Name c.args.line.now);
}

pub returns-in_err-pair-clause-refused : goal.returns-in_err-pair-clause-refused
returns-in_err-pair-clause-refused g c =
    let one = pair_assigned (g.R.PairReader.target_of c.args.reader.now) (g.R.PairReader.pair_of c.args.reader.now) in
    let p = err_from_is_err_and c.from_residual.result c.from_residual.ensures.1 in
    rw (p.1, p.2) (λ other. none_refused c.args.pairs.now.items c.loop-first.pairs.items _ _ c.loop-first.invariant.read (ap (pairs_at one) c.in-Some.ensures.token ∙ refuses_all c.in_err-pair.field-0.0.kind _ c.in_err-pair.ensures.refused other))

pub returns-in-Err-clause-refused : goal.returns-in-Err-clause-refused
returns-in-Err-clause-refused g c =
    let one = pair_assigned (g.R.PairReader.target_of c.args.reader.now) (g.R.PairReader.pair_of c.args.reader.now) in
    λ other. many_refused c.args.pairs.now.items c.loop-first.pairs.items _ _ _ c.in_ok-pair.pair c.loop-first.invariant.read (ap (pairs_at one) c.in-Some.ensures.token ∙ c.in_ok-pair.ensures.read) (c.in-Err.ensures.refused (subst (λ k. k ≢ Memory) c.at.ensures.kind other))

pub returns-in_err-rest-clause-refused : goal.returns-in_err-rest-clause-refused
returns-in_err-rest-clause-refused g c =
    let one = pair_assigned (g.R.PairReader.target_of c.args.reader.now) (g.R.PairReader.pair_of c.args.reader.now) in
    let p = err_from_is_err_and c.from_residual-in_err-rest.result c.from_residual-in_err-rest.ensures.1 in
    rw p.1 (λ other. none_refused c.args.pairs.now.items c.loop-first.pairs.items _ _ c.loop-first.invariant.read (rest_refused one (tokens_at Name c.loop-first.rest.now) (tokens_at Value c.in_ok-pair.after.now) c.in_ok-pair.pair (ap (pairs_at one) c.in-Some.ensures.token ∙ c.in_ok-pair.ensures.read) c.in_err-rest.ensures.refused))

pub loop-first-preserved : goal.loop-first-preserved
loop-first-preserved g c =
    let one = pair_assigned (g.R.PairReader.target_of c.args.reader.now) (g.R.PairReader.pair_of c.args.reader.now) in
    let here : 0 < length c.loop-first.rest.now = omega (arith, c.in-Some.ensures.shorter) in
    record {
      read = pair_more one c.args.pairs.now.items c.loop-first.pairs.items _ _ (tokens_at Name c.loop-first.rest.now) (tokens_at Value c.in_ok-pair.after.now) (tokens_at Name c.in_ok-rest.rest.now) c.in_ok-pair.pair c.loop-first.invariant.read (ap (pairs_at one) c.in-Some.ensures.token ∙ c.in_ok-pair.ensures.read) c.in_ok-rest.ensures.read c.in_default-push_pair.ensures.pushed;
      few = c.in_default-push_pair.ensures.few;
      shorter = omega (arith, c.in_ok-rest.ensures.shorter, c.in_ok-pair.ensures.shorter, c.in-Some.ensures.shorter, c.loop-first.invariant.shorter);
      pairs = λ some. pairs_more (g.R.PairReader.target_of c.args.reader.now) (g.R.PairReader.pair_of c.args.reader.now) c.args.pairs.now.items c.loop-first.pairs.items _ c.args.line.now c.loop-first.rest.now c.in_ok-pair.after.now c.in_ok-rest.rest.now c.in_ok-pair.pair
          (c.loop-first.invariant.pairs here) c.in_ok-pair.ensures.pair c.in_default-push_pair.ensures.pushed (c.in_ok-rest.ensures.lexed some);
    }

pub returns-clause-read : goal.returns-clause-read
returns-clause-read g c =
    let one = pair_assigned (g.R.PairReader.target_of c.args.reader.now) (g.R.PairReader.pair_of c.args.reader.now) in
    line_ends one c.loop-first.pairs.items (tokens_at Name c.loop-first.rest.now) _ c.loop-first.invariant.read c.in_default.ensures.token

-- ---- places

pub returns-in_err-pair-clause-within : goal.returns-in_err-pair-clause-within
returns-in_err-pair-clause-within g c =
    let p = err_from_is_err_and c.from_residual.result c.from_residual.ensures.1 in
    rw (p.1, p.2) (omega (arith, c.in_err-pair.ensures.within, c.loop-first.invariant.shorter))

pub returns-in_err-pair-clause-place : goal.returns-in_err-pair-clause-place
returns-in_err-pair-clause-place g c =
    let p = err_from_is_err_and c.from_residual.result c.from_residual.ensures.1 in
    let here : 0 < length c.loop-first.rest.now = omega (arith, c.in-Some.ensures.shorter) in
    let kind = c.in_err-pair.field-0.0.kind in
    let left : ℕ = c.in_err-pair.field-0.0.left in
    rw (p.1, p.2)
    (unless_map (is_memory_line kind)
    (λ refused. pair_refused_in (g.R.PairReader.target_of c.args.reader.now) (g.R.PairReader.pair_of c.args.reader.now) (g.R.PairReader.refusal_of c.args.reader.now) c.args.pairs.now.items c.loop-first.pairs.items c.args.line.now c.loop-first.rest.now kind left (c.loop-first.invariant.pairs here) c.loop-first.invariant.few (refused (length c.loop-first.pairs.items)))
    c.in_err-pair.ensures.place)

pub returns-in-Err-clause-place : goal.returns-in-Err-clause-place
returns-in-Err-clause-place g c =
    let here : 0 < length c.loop-first.rest.now = omega (arith, c.in-Some.ensures.shorter) in
    let rest : List ℕ = c.loop-first.rest.now in
    let kind = c.in-Err.kind in
    rw (c.at.ensures.kind, c.at.ensures.left)
    (unless_map (is_memory_line kind)
    (λ refused. pair_refused_in (g.R.PairReader.target_of c.args.reader.now) (g.R.PairReader.pair_of c.args.reader.now) (g.R.PairReader.refusal_of c.args.reader.now) c.args.pairs.now.items c.loop-first.pairs.items c.args.line.now rest kind (length rest) (c.loop-first.invariant.pairs here) c.loop-first.invariant.few refused)
    (count_refused (g.R.PairReader.target_of c.args.reader.now) (g.R.PairReader.pair_of c.args.reader.now) (g.R.PairReader.refusal_of c.args.reader.now) kind c.loop-first.pairs.items rest c.in_ok-pair.after.now c.in_ok-pair.pair (length rest) c.in-Err.ensures.kind c.in-Err.ensures.refused c.in_ok-pair.ensures.pair refl))

pub returns-in-Err-clause-within : goal.returns-in-Err-clause-within
returns-in-Err-clause-within g c = rw c.at.ensures.left c.loop-first.invariant.shorter

pub returns-in_err-rest-clause-within : goal.returns-in_err-rest-clause-within
returns-in_err-rest-clause-within g c =
    let p = err_from_is_err_and c.from_residual-in_err-rest.result c.from_residual-in_err-rest.ensures.1 in
    rw (p.1, p.2) (omega (arith, c.in_err-rest.ensures.left, c.in_ok-pair.ensures.shorter, c.in-Some.ensures.shorter, c.loop-first.invariant.shorter))

pub returns-in_err-rest-clause-place : goal.returns-in_err-rest-clause-place
returns-in_err-rest-clause-place g c =
    let p = err_from_is_err_and c.from_residual-in_err-rest.result c.from_residual-in_err-rest.ensures.1 in
    let here : 0 < length c.loop-first.rest.now = omega (arith, c.in-Some.ensures.shorter) in
    let rest : List ℕ = c.loop-first.rest.now in
    let left : ℕ = c.in_err-rest.field-0.0.left in
    rw (p.1, p.2, c.in_err-rest.ensures.kind)
    (pair_refused_in (g.R.PairReader.target_of c.args.reader.now) (g.R.PairReader.pair_of c.args.reader.now) (g.R.PairReader.refusal_of c.args.reader.now) c.args.pairs.now.items c.loop-first.pairs.items c.args.line.now rest Unreadable left (c.loop-first.invariant.pairs here) c.loop-first.invariant.few
    (comma_refused (g.R.PairReader.target_of c.args.reader.now) (g.R.PairReader.pair_of c.args.reader.now) (g.R.PairReader.refusal_of c.args.reader.now) c.loop-first.pairs.items _ rest c.in_ok-pair.after.now c.in_ok-pair.pair left c.in_ok-pair.ensures.pair c.in_default-push_pair.ensures.pushed c.in_default-push_pair.ensures.few c.in_err-rest.ensures.no_comma c.in_err-rest.ensures.left))

pub returns-in_err-pair-clause-memory : goal.returns-in_err-pair-clause-memory
returns-in_err-pair-clause-memory g c =
    let target_of = g.R.PairReader.target_of c.args.reader.now in
    let pair_of = g.R.PairReader.pair_of c.args.reader.now in
    let refusal_of = g.R.PairReader.refusal_of c.args.reader.now in
    let takes_memory = g.R.PairReader.takes_memory c.args.reader.now in
    let p = err_from_is_err_and c.from_residual.result c.from_residual.ensures.1 in
    let here : 0 < length c.loop-first.rest.now = omega (arith, c.in-Some.ensures.shorter) in
    rw (p.1, p.2)
    (λ out. pair_stopped_in target_of pair_of refusal_of (IsOutOfMemoryFor target_of pair_of refusal_of takes_memory) c.args.pairs.now.items c.loop-first.pairs.items c.args.line.now c.loop-first.rest.now c.in_err-pair.field-0.0.left (c.loop-first.invariant.pairs here) c.loop-first.invariant.few
    (c.in_err-pair.ensures.memory out (length c.loop-first.pairs.items)))

pub returns-in-Err-clause-memory : goal.returns-in-Err-clause-memory
returns-in-Err-clause-memory g c =
    let target_of = g.R.PairReader.target_of c.args.reader.now in
    let pair_of = g.R.PairReader.pair_of c.args.reader.now in
    let refusal_of = g.R.PairReader.refusal_of c.args.reader.now in
    let takes_memory = g.R.PairReader.takes_memory c.args.reader.now in
    let here : 0 < length c.loop-first.rest.now = omega (arith, c.in-Some.ensures.shorter) in
    let rest : List ℕ = c.loop-first.rest.now in
    rw (c.at.ensures.kind, c.at.ensures.left)
    (λ out. pair_stopped_in target_of pair_of refusal_of (IsOutOfMemoryFor target_of pair_of refusal_of takes_memory) c.args.pairs.now.items c.loop-first.pairs.items c.args.line.now rest (length rest) (c.loop-first.invariant.pairs here) c.loop-first.invariant.few
    (pair_out target_of pair_of refusal_of takes_memory c.loop-first.pairs.items rest c.in_ok-pair.after.now c.in_ok-pair.pair (length rest) (c.in-Err.ensures.room out) c.in_ok-pair.ensures.pair refl))

pub returns-in_err-rest-clause-memory : goal.returns-in_err-rest-clause-memory
returns-in_err-rest-clause-memory g c =
    let p = err_from_is_err_and c.from_residual-in_err-rest.result c.from_residual-in_err-rest.ensures.1 in
    rw (p.1, p.2, c.in_err-rest.ensures.kind) (λ h. absurd (cc))
