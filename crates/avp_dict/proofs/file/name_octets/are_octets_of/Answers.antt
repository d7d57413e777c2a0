use Rattle.std.proofs.Common.{◌≡◌, ◌∙◌, ◌-◌, ◌<◌, ◌≤◌, true, drop, length, take, sym, ap, subst, arith, rules}
use Rattle.std.specs.List.{list_all}
use Rattle.std.proofs.lemmas.List.{length-drop}
use Rattle.avp_dict.proofs.NameOctets.{filled_up, from_place, last_sixteen, shorter_end, sixteen_passed}
use Rattle.avp_dict.proofs.file.name_octets.are_octets_of.Goals as goal

pub returns-then-name-lt-LANES : goal.returns-then-name-lt-LANES
returns-then-name-lt-LANES g c =
    let q = g.K.NameOctets.test in
    let name = c.args.name.now in
    let some : 0 < length name = search rules in
    let short : length name ≤ 16 = search rules in
    c.has_sixteen.ensures ∙ ap (λ octets. list_all q (take 16 octets)) c.padded.ensures ∙ filled_up q name some short

pub loop-rest-preserved : goal.loop-rest-preserved
loop-rest-preserved g c =
    let q = g.K.NameOctets.test in
    let name = c.args.name.now in
    let rest = c.loop-rest.rest.now in
    let long : 16 ≤ length rest = search rules in
    let pass : list_all q (take 16 rest) ≡ true = search rules in
    let left = from_place 16 rest in record {
      same = c.loop-rest.invariant.same ∙ sixteen_passed q rest pass ∙ ap (list_all q) (sym left);
      end = subst (λ octets. octets ≡ drop (length name - length octets) name) (sym left) (shorter_end name rest long c.loop-rest.invariant.within c.loop-rest.invariant.end);
      within = omega (arith, ap length left, length-drop 16 rest, c.loop-rest.invariant.within);
    }

pub returns : goal.returns
returns g c =
    let q = g.K.NameOctets.test in
    let name = c.args.name.now in
    let rest = c.loop-rest.rest.now in
    let long : 16 ≤ length name = search rules in
    let short : length rest ≤ 16 = search rules in
    c.has_sixteen-2.ensures ∙ ap (λ octets. list_all q (take 16 octets)) (from_place (length name - 16) name)
    ∙ last_sixteen q name rest long short c.loop-rest.invariant.end (c.loop-rest.invariant.same)
