use Rattle.std.proofs.Common.{◌≡◌, ℕ, ◌<◌, ◌∷◌, flat_map, get_or, arith}
use Rattle.std.proofs.lemmas.Grind.{common_steps}
use Rattle.avp_dict.specs.Quotes.{quoted, quoted_octet}
use Rattle.avp_dict.proofs.Appending.{appended}
use Rattle.avp_dict.proofs.Unescaping.{quoted_back}
use Rattle.avp_dict.proofs.value.quotes.quote.Goals as goal

pub returns-clause-reads_back : goal.returns-clause-reads_back
unfolding quoted
returns-clause-reads_back c =
    let text : c.push-2.new.self.items ≡ quoted c.args.octets.now = grind (arith, common_steps) in
    let small : (i : ℕ) → get_or c.args.octets.now i 0 < 256 = λ i. let f = c.type_inv.octets i in omega arith in
    rw text (quoted_back c.args.octets.now small)

pub loop-octet-preserved : goal.loop-octet-preserved
loop-octet-preserved c =
    let octets = c.args.octets.now in
    appended quoted_octet octets c.loop-octet.octet-index _ c.loop-octet.text.items c.push_quoted.new.text.items (34 ∷ flat_map quoted_octet octets) c.loop-octet-test.true c.in_ok-push_quoted.ensures c.loop-octet.invariant
