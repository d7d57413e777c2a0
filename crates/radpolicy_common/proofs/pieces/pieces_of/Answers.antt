use Rattle.std.proofs.Common.{◌≡◌, ◌∙◌, ◌≢◌, ◌≤◌, ◌<◌, ◌+◌, ◌-◌, ℕ, false, List, [], ◌∷◌, ◌++◌, length, take, drop, refl, sym, ap, arith, length-append}
use Rattle.std.proofs.lemmas.List.{length-drop}
use Rattle.avp_unlang.specs.Faults.{from_token}
use Rattle.avp_unlang.specs.declared.text.tokens.Token.{Token}
use Rattle.avp_unlang.specs.declared.text.tokens.Token.TheVariants.{End}
use Rattle.radpolicy_common.specs.Pieces.{Piece, gap, is_end, piece, token_length}
use Rattle.radpolicy_common.proofs.PieceLaws.{not_the_end, piece_pushed, some_taken}
use Rattle.radpolicy_common.proofs.pieces.pieces_of.Goals as goal

pub loop-found-preserved : goal.loop-found-preserved
loop-found-preserved c =
    let token : Token = c.loop-found.found.token in
    let rest : List ℕ = c.loop-found.found.rest.now in
    let start : List ℕ = c.loop-found.found.start.now in
    let next : List ℕ = c.first_token-next.result.start.now in
    let old : List Piece = c.loop-found.pieces.items in
    let p : Piece = record { token = token; octets = c.split_at.result.0.now; after = c.split_at-in-loop-found.result.0.now } in
    let going : is_end token ≡ false = grind (arith, c.is_end.ensures, c.loop-found-test.true) in
    let shorter : length rest < length start = c.loop-found.invariant.shorter (not_the_end token going) in
    let taken : c.token_length.result ≡ token_length token rest start = c.token_length.ensures.same in
    let some = some_taken token rest start going shorter in
    let behind : c.split_at.result.1.now ≡ drop (token_length token rest start) start = rw (sym taken) c.split_at.ensures.back in
    let next_is : next ≡ from_token (drop (token_length token rest start) start) = rw (sym behind) c.first_token-next.ensures.start in
    let octets_are : p.octets ≡ take (token_length token rest start) start = rw (sym taken) c.split_at.ensures.front in
    let after_is : p.after ≡ gap (drop (token_length token rest start) start) = rw (sym behind, sym c.first_token-next.ensures.start) c.split_at-in-loop-found.ensures.front in
    let p_is : p ≡ piece token (token_length token rest start) start = rw (octets_are, after_is) refl in
    let new_is : c.push.new.self.items ≡ old ++ p ∷ [] = c.in_ok-push.ensures.items in
    let new_length : length c.push.new.self.items ≡ length old + 1 = rw (new_is) (length-append old (p ∷ [])) in
    let left : length c.split_at.result.1.now ≡ length start - token_length token rest start = rw (behind) (length-drop (token_length token rest start) start) in
    record {
      pieces = rw (new_is) (piece_pushed c.args.profile token rest start c.loop-found.invariant.token going (length c.args.text.now) old p next p_is next_is (omega (arith, some, shorter, c.loop-found.invariant.room)) ∙ c.loop-found.invariant.pieces);
      token = rw (c.first_token-next.ensures.start) c.first_token-next.ensures.token;
      room = omega (arith, new_length, left, some, c.first_token-next.ensures.within, c.loop-found.invariant.room, c.token_length.ensures.within, taken);
      after = c.first_token-next.ensures.after;
      shorter = c.first_token-next.ensures.shorter;
    }
