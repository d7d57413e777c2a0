use Rattle.std.proofs.Common.{◌≡◌, [], ◌∷◌, refl}
use Rattle.avp_packet.specs.internal.Filling.{kept_pairs}
use Rattle.avp_packet.proofs.Written.{written-nil}
use Rattle.avp_packet.proofs.encoding.lengths.kept_length.Goals as goal

pub returns-then-not-is_kept : goal.returns-then-not-is_kept
returns-then-not-is_kept c =
    let none : kept_pairs c.args.all (c.args.pair.now ∷ []) ≡ [] = c.is_kept.ensures.left c.if-not-is_kept.true in
    rw (none, written-nil c.args.keys.now.dictionary.now c.args.keys.now.secret.now c.args.keys.now.authenticator.now) refl
