use Rattle.std.proofs.Common.{◌≡◌, [], ◌∷◌, sym, append-nil}
use Rattle.avp_packet.specs.internal.Filling.{kept_pairs}
use Rattle.avp_packet.proofs.Written.{written-nil}
use Rattle.avp_packet.proofs.encoding.pairs.push_kept.Goals as goal

pub returns-then-not-is_kept-clause-ok : goal.returns-then-not-is_kept-clause-ok
returns-then-not-is_kept-clause-ok c =
    let none : kept_pairs c.args.all (c.args.pair.now ∷ []) ≡ [] = c.is_kept.ensures.left c.if-not-is_kept.true in
    rw (none, written-nil c.args.keys.now.dictionary.now c.args.keys.now.secret.now c.args.keys.now.authenticator.now) (sym (append-nil c.args.octets.now.items))
