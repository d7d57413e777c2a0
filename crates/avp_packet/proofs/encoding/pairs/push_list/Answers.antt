use Rattle.std.proofs.Common.{◌≡◌, [], length, sym, append-nil, arith}
use Rattle.std.proofs.lemmas.Grind.{common_steps}
use Rattle.std.proofs.lemmas.List.{drop_all}
use Rattle.avp_packet.proofs.Written.{kept-nil}
use Rattle.avp_packet.proofs.encoding.pairs.push_list.Goals as goal

pub returns-then-is_empty-clause-ok : goal.returns-then-is_empty-clause-ok
returns-then-is_empty-clause-ok c =
    let none : length c.args.list.now ≡ 0 = grind (arith, common_steps) in
    let empty : c.args.list.now ≡ [] = drop_all 0 c.args.list.now (omega (arith, none)) in
    rw (empty, kept-nil c.args.keys.now.dictionary.now c.args.keys.now.secret.now c.args.keys.now.authenticator.now c.args.all) (sym (append-nil c.args.octets.now.items))

pub returns-then-is_empty-clause-ranged : goal.returns-then-is_empty-clause-ranged
returns-then-is_empty-clause-ranged c =
    let none : length c.args.list.now ≡ 0 = grind (arith, common_steps) in
    let empty : c.args.list.now ≡ [] = drop_all 0 c.args.list.now (omega (arith, none)) in
    rw empty (λ k d below. absurd (omega (arith, below)))
