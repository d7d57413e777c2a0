use Rattle.std.proofs.Common.{rules, ◌≡◌, [], Err, sym, subst}
use Rattle.avp_lists.specs.Meets.{Meets}
use Rattle.avp_packet.specs.Outcomes.{is_memory}
use Rattle.avp_packet.specs.Packets.{attributes_of, zeros}
use Rattle.avp_packet.specs.Splitting.{parts}
use Rattle.avp_packet.specs.Unchecked.{unchecked_where}
use Rattle.avp_packet.proofs.OneMeaning.{meant_by}
use Rattle.avp_packet.proofs.decoding.unchecked.unchecked_where.Goals as goal

-- a fault of the octets is no want of memory
pub returns-in_err-count-clause-read : goal.returns-in_err-count-clause-read
unfolding unchecked_where
returns-in_err-count-clause-read c =
    let fault = c.in_err-count.field-0.0 in
    let refused : c.from_residual.result ≡ Err fault = search rules in
    let broken = c.in_err-count.ensures.broken _ in
    subst (λ result. Meets is_memory result (unchecked_where c.args.dictionary.now c.args.octets.now c.args.taken)) (sym refused) (rw c.in_err-count.ensures.certain broken)

pub returns-in_err-count-clause-memory : goal.returns-in_err-count-clause-memory
returns-in_err-count-clause-memory c =
    let fault = c.in_err-count.field-0.0 in
    let refused : c.from_residual.result ≡ Err fault = search rules in
    rw refused (λ memory. absurd (cc (memory, c.in_err-count.ensures.certain)))

pub returns-clause-means : goal.returns-clause-means
returns-clause-means c =
    meant_by c.args.dictionary.now [] zeros (parts (attributes_of c.args.octets.now)) _ (sym c.in_ok-read_packet.ensures.means)
