use Rattle.std.proofs.Common.{◌∙◌, ◌++◌, ◌∷◌, [], List, Option, drop, sym, ap}
use Rattle.std.specs.Option.{option_map}
use Rattle.avp_packet.specs.AttributeOctets.{part}
use Rattle.avp_packet.specs.Meanings.{Run, extended_type, long_pair, continued_in}
use Rattle.avp_packet.specs.Splitting.{Part, parts}
use Rattle.avp_packet.specs.internal.Views.{run_view}
use Rattle.avp_packet.proofs.PieceRuns.{first_run_in, run_rest}
use Rattle.avp_packet.proofs.decoding.pairs.push_long.Goals as goal

pub returns-in_ok-push_joined-in-Some-clause-pair : goal.returns-in_ok-push_joined-in-Some-clause-pair
returns-in_ok-push_joined-in-Some-clause-pair c =
    let f = c.args.front in
    let p : Part = part f.number f.value.now in
    let found = first_run_in c.args.octets.now f.rest.now p c.extended_type_of-number.result c.requires c.extended_type_of-number.ensures ∙ sym c.in_ok-joined.ensures.run ∙ ap (option_map run_view) c.in-Some.is in
    let long = λ (o : Option Run). long_pair c.args.keys.now.dictionary.now c.args.keys.now.secret.now c.args.keys.now.authenticator.now p o in
    c.in_ok-push_joined-in-Some.ensures
    ∙ rw c.extended_type_of-number.ensures (ap (λ (o : Option Run). c.args.pairs.now.items ++ long o ∷ []) (sym found))

pub returns-in_ok-push_joined-in-Some-clause-rest : goal.returns-in_ok-push_joined-in-Some-clause-rest
returns-in_ok-push_joined-in-Some-clause-rest c =
    let f = c.args.front in
    let p : Part = part f.number f.value.now in
    let ps : List Part = parts f.rest.now in
    let found = first_run_in c.args.octets.now f.rest.now p c.extended_type_of-number.result c.requires c.extended_type_of-number.ensures ∙ sym c.in_ok-joined.ensures.run ∙ ap (option_map run_view) c.in-Some.is in
    run_rest f.number (extended_type p) p ps (run_view c.in-Some.joined) found ∙ ap (λ (o : Option Run). drop (continued_in ps o) ps) (sym found)

pub returns-in_ok-push_raw-in-None-clause-pair : goal.returns-in_ok-push_raw-in-None-clause-pair
returns-in_ok-push_raw-in-None-clause-pair c =
    let f = c.args.front in
    let p : Part = part f.number f.value.now in
    let found = first_run_in c.args.octets.now f.rest.now p c.extended_type_of-number.result c.requires c.extended_type_of-number.ensures ∙ sym c.in_ok-joined.ensures.run ∙ ap (option_map run_view) c.in-None.is in
    c.in_ok-push_raw-in-None.ensures
    ∙ ap (λ (o : Option Run). c.args.pairs.now.items ++ long_pair c.args.keys.now.dictionary.now c.args.keys.now.secret.now c.args.keys.now.authenticator.now p o ∷ []) (sym found)

pub returns-in_ok-push_raw-in-None-clause-rest : goal.returns-in_ok-push_raw-in-None-clause-rest
returns-in_ok-push_raw-in-None-clause-rest c =
    let f = c.args.front in
    let p : Part = part f.number f.value.now in
    let ps : List Part = parts f.rest.now in
    let found = first_run_in c.args.octets.now f.rest.now p c.extended_type_of-number.result c.requires c.extended_type_of-number.ensures ∙ sym c.in_ok-joined.ensures.run ∙ ap (option_map run_view) c.in-None.is in
    ap (λ (o : Option Run). drop (continued_in ps o) ps) (sym found)
