use Rattle.std.proofs.Common.{◌≡◌, ◌≢◌, ◌∙◌, ◌+◌, ◌-◌, ◌<◌, ℕ, List, length, ap, sym, subst, true, false, rules, arith}
use Rattle.avp_dict.specs.declared.request.faults.LineKind.TheVariants.{Memory}
use Rattle.avp_dict.specs.Lines.{texts_of}
use Rattle.avp_dict.specs.internal.LineEnds.{IsPastBlanks}
use Rattle.avp_dict.proofs.FirstRefusals.{end_refused_at, line_out_at, line_refused_at}
use Rattle.avp_dict.proofs.ReadPairs.{packet_begins, packet_more}
use Rattle.avp_dict.proofs.RefusedLines.{lines_one}
use Rattle.avp_dict.specs.Requests.{pair_assigned}
use Rattle.avp_dict.specs.RequestLines.{is_blank_line, is_idle_line, without_front}
use Rattle.avp_dict.specs.internal.LineReading.{after_pairs, packet_pairs}
use Rattle.avp_dict.proofs.PairSteps.{line_read, none_before, packet_ends, packet_goes_on, packet_none, request_ends, request_fails, request_refused}
use Rattle.avp_dict.proofs.request.lines.read_pairs.Goals as goal

pub loop-line-init : goal.loop-line-init
loop-line-init g c =
    let one = pair_assigned (g.R.PairReader.target_of c.args.reader.now) (g.R.PairReader.pair_of c.args.reader.now) in
    record {
      read = rw (c.new-pairs.ensures.items, c.without_idle_lines-rest.ensures.lines) (none_before (packet_pairs one (without_front is_idle_line (texts_of c.args.text.now))));
      few = search rules;
      packet = packet_begins (g.R.PairReader.target_of c.args.reader.now) (g.R.PairReader.pair_of c.args.reader.now) c.args.text.now c.without_idle_lines-rest.result.now c.without_idle_lines-rest.ensures.idle.0 _ c.without_idle_lines-rest.ensures.idle.1 c.without_idle_lines-rest.ensures.lines c.new-pairs.ensures.items;
    }

pub returns-in-Err-clause-refused : goal.returns-in-Err-clause-refused
returns-in-Err-clause-refused g c =
    let one = pair_assigned (g.R.PairReader.target_of c.args.reader.now) (g.R.PairReader.pair_of c.args.reader.now) in
    λ _.
    let blank : is_blank_line c.in-Some.line.now ≡ true = search rules in
    let end = packet_goes_on one c.in-Some.line.now (texts_of c.in-Some.after.now) blank c.in-Err.ensures.err in
    request_fails c.args.text.now one c.loop-line.pairs.items (texts_of c.loop-line.rest.now) c.loop-line.invariant.read (ap (packet_pairs one) c.in-Some.ensures.cut ∙ end)

pub returns-then-is_blank_line-clause-read : goal.returns-then-is_blank_line-clause-read
returns-then-is_blank_line-clause-read g c =
    let one = pair_assigned (g.R.PairReader.target_of c.args.reader.now) (g.R.PairReader.pair_of c.args.reader.now) in
    let blank : is_blank_line c.in-Some.line.now ≡ true = search rules in
    let end = packet_ends one c.in-Some.line.now (texts_of c.in-Some.after.now) blank c.in_default-end_of_packet.ensures.ok in
    request_ends c.args.text.now one c.loop-line.pairs.items (texts_of c.loop-line.rest.now) c.loop-line.invariant.read (ap (packet_pairs one) c.in-Some.ensures.cut ∙ end) c.loop-line.invariant.few

pub returns-in-Err-read_line-clause-refused : goal.returns-in-Err-read_line-clause-refused
returns-in-Err-read_line-clause-refused g c =
    let one = pair_assigned (g.R.PairReader.target_of c.args.reader.now) (g.R.PairReader.pair_of c.args.reader.now) in
    λ kept.
    let filled : is_blank_line c.in-Some.line.now ≡ false = search rules in
    let read = rw c.in-Some.ensures.cut at c.loop-line.invariant.read in
    request_refused c.args.text.now one c.loop-line.pairs.items c.in-Some.line.now (texts_of c.in-Some.after.now) read filled (c.in-Err-read_line.ensures.refused (subst (λ k. k ≢ Memory) c.in_text-in-Err-read_line.ensures.kind kept))

pub loop-line-preserved : goal.loop-line-preserved
loop-line-preserved g c =
    let one = pair_assigned (g.R.PairReader.target_of c.args.reader.now) (g.R.PairReader.pair_of c.args.reader.now) in
    let filled : is_blank_line c.in-Some.line.now ≡ false = search rules in
    record {
      read = sym (line_read one c.loop-line.pairs.items c.read_line.new.pairs.items c.in-Some.line.now (texts_of c.in-Some.after.now) filled c.in_default-read_line.ensures.read)
          ∙ ap (λ lines. after_pairs c.loop-line.pairs.items (packet_pairs one lines)) (sym c.in-Some.ensures.cut) ∙ c.loop-line.invariant.read;
      few = c.in_default-read_line.ensures.few;
      packet = packet_more (g.R.PairReader.target_of c.args.reader.now) (g.R.PairReader.pair_of c.args.reader.now) c.args.text.now c.loop-line.rest.now c.in-Some.after.now c.in-Some.line.now c.loop-line.pairs.items c.read_line.new.pairs.items c.loop-line.invariant.packet
          (rw (c.in-Some.ensures.line, c.in-Some.ensures.rest) (lines_one c.loop-line.rest.now)) c.in-Some.ensures.cut filled c.in_default-read_line.ensures.read;
    }

pub returns-clause-read : goal.returns-clause-read
returns-clause-read g c =
    let one = pair_assigned (g.R.PairReader.target_of c.args.reader.now) (g.R.PairReader.pair_of c.args.reader.now) in
    request_ends c.args.text.now one c.loop-line.pairs.items (texts_of c.loop-line.rest.now) c.loop-line.invariant.read (ap (packet_pairs one) c.in_default.ensures.cut ∙ packet_none one) c.loop-line.invariant.few

-- ---- places

pub returns-in-Err-clause-place : goal.returns-in-Err-clause-place
returns-in-Err-clause-place g c =
    let text : List ℕ = c.args.text.now in
    let left : ℕ = c.in-Err.refusal.left in
    let none : left + 0 ≡ left = omega arith in
    let here : 0 < length c.loop-line.rest.now = omega (arith, c.in-Some.ensures.shorter) in
    let blank : is_blank_line c.in-Some.line.now ≡ true = search rules in
    rw c.in_text.ensures.kind
    (end_refused_at (g.R.PairReader.target_of c.args.reader.now) (g.R.PairReader.pair_of c.args.reader.now) (g.R.PairReader.refusal_of c.args.reader.now) c.in-Err.refusal.kind text c.loop-line.rest.now c.in-Some.line.now c.in-Some.after.now c.loop-line.pairs.items left c.in_text.result.offset
    c.in-Err.ensures.place c.loop-line.invariant.packet c.loop-line.invariant.few here c.in-Some.ensures.line c.in-Some.ensures.rest blank
    (subst (λ (n : ℕ). IsPastBlanks text (length text - n) c.in_text.result.offset) none c.in_text.ensures.blanks))

pub returns-in-Err-read_line-clause-place : goal.returns-in-Err-read_line-clause-place
returns-in-Err-read_line-clause-place g c =
    let here : 0 < length c.loop-line.rest.now = omega (arith, c.in-Some.ensures.shorter) in
    rw c.in_text-in-Err-read_line.ensures.kind
    (line_refused_at (g.R.PairReader.target_of c.args.reader.now) (g.R.PairReader.pair_of c.args.reader.now) (g.R.PairReader.refusal_of c.args.reader.now) c.in-Err-read_line.refusal.kind c.args.text.now c.loop-line.rest.now c.in-Some.line.now c.loop-line.pairs.items c.in-Err-read_line.refusal.left c.in_text-in-Err-read_line.result.offset
    c.in-Err-read_line.ensures.place c.loop-line.invariant.packet here c.in-Some.ensures.line c.in_text-in-Err-read_line.ensures.blanks)

pub returns-in-Err-clause-memory : goal.returns-in-Err-clause-memory
returns-in-Err-clause-memory g c = rw c.in_text.ensures.kind (λ out. absurd (c.in-Err.ensures.kind out))

pub returns-in-Err-read_line-clause-memory : goal.returns-in-Err-read_line-clause-memory
returns-in-Err-read_line-clause-memory g c =
    let here : 0 < length c.loop-line.rest.now = omega (arith, c.in-Some.ensures.shorter) in
    rw c.in_text-in-Err-read_line.ensures.kind
    (λ out. line_out_at (g.R.PairReader.target_of c.args.reader.now) (g.R.PairReader.pair_of c.args.reader.now) (g.R.PairReader.refusal_of c.args.reader.now) (g.R.PairReader.takes_memory c.args.reader.now) c.args.text.now c.loop-line.rest.now c.in-Some.line.now c.loop-line.pairs.items c.in-Err-read_line.refusal.left c.in_text-in-Err-read_line.result.offset
    (c.in-Err-read_line.ensures.memory out) c.loop-line.invariant.packet here c.in-Some.ensures.line c.in_text-in-Err-read_line.ensures.blanks)
