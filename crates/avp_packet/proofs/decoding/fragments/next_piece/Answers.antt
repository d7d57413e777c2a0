use Rattle.std.proofs.Common.{◌≡◌, ◌∙◌, ℕ, List, ◌∷◌, Option, Some, None, IfSome, IfNone, sym, ap}
use Rattle.std.specs.Option.{option_map}
use Rattle.avp_packet.specs.declared.decoding.fragments.Piece.{Piece}
use Rattle.avp_packet.specs.AttributeOctets.{part}
use Rattle.avp_packet.specs.Meanings.{piece_of, run, run_with}
use Rattle.avp_packet.specs.Splitting.{Part, parts}
use Rattle.avp_packet.specs.internal.Views.{piece_view}
use Rattle.avp_packet.proofs.PieceRuns.{run-nil, run-none, run-some}
use Rattle.avp_packet.proofs.Splits.{parts-none, parts-octets}
use Rattle.avp_packet.proofs.decoding.fragments.next_piece.Goals as goal

-- the run of octets whose first attribute is p, by the piece in it
module _ (t number : ℕ) (octets rest : List ℕ) (p : Part) (split : parts octets ≡ p ∷ parts rest) where
  run_by : (o : Option Piece) → option_map piece_view o ≡ piece_of t number p → IfSome o (λ piece. piece.rest.now ≡ rest) → IfSome o (λ piece. run t number (parts octets) ≡ run_with (piece_view piece) (parts piece.rest.now) (run t number (parts piece.rest.now)))
  run_by None is after = tt
  run_by (Some piece) is after =
      ap (run t number) split ∙ run-some t number p (parts rest) (piece_view piece) (sym is)
      ∙ ap (λ (ps : List Part). run_with (piece_view piece) ps (run t number ps)) (ap parts (sym after))

  none_by : (o : Option Piece) → option_map piece_view o ≡ piece_of t number p → IfNone o (run t number (parts octets) ≡ None)
  none_by None is = ap (run t number) split ∙ run-none t number p (parts rest) (sym is)
  none_by (Some piece) is = tt

no_piece : (o : Option Piece) (P : Type 0) → P → IfNone o P
no_piece None P h = h
no_piece (Some piece) P h = tt

pub returns-in_err-front-clause-none : goal.returns-in_err-front-clause-none
returns-in_err-front-clause-none c =
    no_piece c.from_residual.result _ (ap (run c.args.t c.args.number) (parts-none c.args.octets.now c.in_err-front.ensures.none) ∙ run-nil c.args.t c.args.number)

pub returns-clause-run : goal.returns-clause-run
returns-clause-run c =
    let f = c.in_ok-front.front in
    let p : Part = part f.number f.value.now in
    run_by c.args.t c.args.number c.args.octets.now f.rest.now p (ap parts c.in_ok-front.ensures.octets ∙ parts-octets p f.rest.now)
    c.piece_in_attribute.result c.piece_in_attribute.ensures.piece c.piece_in_attribute.ensures.rest

pub returns-clause-none : goal.returns-clause-none
returns-clause-none c =
    let f = c.in_ok-front.front in
    let p : Part = part f.number f.value.now in
    none_by c.args.t c.args.number c.args.octets.now f.rest.now p (ap parts c.in_ok-front.ensures.octets ∙ parts-octets p f.rest.now)
    c.piece_in_attribute.result c.piece_in_attribute.ensures.piece
