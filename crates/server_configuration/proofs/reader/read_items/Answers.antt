use Rattle.std.proofs.Common.{◌+◌, ◌≤◌, ◌∙◌, ℕ, subst}
use Rattle.server_configuration.specs.Places.{line_feeds}
use Rattle.server_configuration.proofs.reader.read_items.Goals as goal

pub loop-alloc-preserved : goal.loop-alloc-preserved
loop-alloc-preserved c =
    let lines = 1 + line_feeds c.args.octets.now in
    let Bounds : ℕ → Type 0 = λ n. c.line-line.result ≤ n in
    let last : c.line-line.result ≤ lines =
    subst Bounds c.loop-alloc.invariant.lines c.line-line.ensures.last in
    record {
      lines = c.skip_lines-in-loop-alloc.ensures.lines ∙ c.in_ok-statement.ensures.lines
          ∙ c.loop-alloc.invariant.lines;
      within = c.in_ok-spot.ensures.within lines c.line-line.ensures.first last
          c.loop-alloc.invariant.within;
      count = c.add_statement.ensures.count;
      nested = c.add_statement.ensures.nested c.loop-alloc.invariant.nested
          c.loop-alloc.invariant.open_section;
      open_section = c.in_ok-spot.ensures.open c.loop-alloc.invariant.nested
          c.loop-alloc.invariant.open_section;
    }

pub returns-clause-refused : goal.returns-clause-refused
returns-clause-refused c = c.closed.ensures.refused (1 + line_feeds c.args.octets.now) c.loop-alloc.invariant.within
