use Rattle.std.proofs.Common.{◌≡◌, sym, List, ℕ, [], ◌∷◌, false, refl, length, ◌∙◌, arith, rules}
use Rattle.avp_dict.specs.declared.request.tokens.Side.TheVariants.{Name, Value}
use Rattle.avp_dict.specs.Outcomes.{is_memory_line}
use Rattle.avp_dict.specs.RefusedPlaces.{begins_with_sign, is_run, no_name, no_sign, no_value, unknown}
use Rattle.avp_dict.specs.RequestLines.{Run, Sign, Token, tokens_at}
use Rattle.avp_dict.specs.Requests.{pair_assigned}
use Rattle.avp_dict.specs.declared.request.faults.LineKind.TheVariants.{Unknown, Unreadable}
use Rattle.avp_dict.specs.internal.RequestTokens.{side_after, token_view}
use Rattle.avp_dict.specs.internal.LineEnds.{IsLexed, refused_from}
use Rattle.avp_dict.proofs.FirstRefusals.{refused_first, refused_later, value_lexed, value_out, values_refused}
use Rattle.avp_dict.proofs.LexedLines.{lexed_then}
use Rattle.avp_dict.proofs.PairSteps.{other_refused, pair_read, pair_refused, refuses_whole, unknown_refused}
use Rattle.avp_dict.proofs.request.lines.read_pair.Goals as goal
use Rattle.avp_dict.proofs.request.lines.read_pair.Goals.{in_default-next_token-via-in-Some+in_default, in_default-next_token-via-in_default}

pub returns-in_default-target-clause-refused : goal.returns-in_default-target-clause-refused
returns-in_default-target-clause-refused g c =
    rw (c.at-in_default-target.ensures.kind, c.in-Run.is) (unknown_refused (g.R.PairReader.target_of c.args.reader.now) (g.R.PairReader.pair_of c.args.reader.now) c.in-Run.name.now (tokens_at Name c.args.rest.now) (sym c.target.ensures ∙ c.in_default-target.is))

pub returns-in-Err-clause-refused : goal.returns-in-Err-clause-refused
returns-in-Err-clause-refused g c =
    let known = sym c.target.ensures ∙ c.in-Some.is in
    rw (c.at-in-Err.ensures.kind, c.in-Run.is, c.in-Some-Sign-default.ensures.token, c.in-Some-Sign-default.field-0-0-is, c.in-Some-next_token.ensures.token)
    (refuses_whole (is_memory_line c.in-Err.kind) _ _ c.in-Err.ensures.pair (pair_refused (g.R.PairReader.target_of c.args.reader.now) (g.R.PairReader.pair_of c.args.reader.now) c.in-Run.name.now c.in-Some.target known c.in-Some-next_token.value c.in-Some-next_token.after.now))

pub returns-in-Ok-clause-read : goal.returns-in-Ok-clause-read
returns-in-Ok-clause-read g c =
    let known = sym c.target.ensures ∙ c.in-Some.is in
    rw (c.in-Run.is, c.in-Some-Sign-default.ensures.token, c.in-Some-Sign-default.field-0-0-is, c.in-Some-next_token.ensures.token)
    (pair_read (g.R.PairReader.target_of c.args.reader.now) (g.R.PairReader.pair_of c.args.reader.now) c.in-Run.name.now c.in-Some.target known c.in-Some-next_token.value c.in-Some-next_token.after.now c.in-Ok.pair c.in-Ok.ensures.pair)

-- ---- places

pub returns-in_default : goal.returns-in_default
returns-in_default g c =
    let line : List ℕ = c.args.line.now in
    let other : is_run (token_view c.args.first) ≡ false = search rules in
    let tokens : List Token = tokens_at (side_after Name c.args.first) c.args.rest.now in
    rw (c.at.ensures.kind, c.at.ensures.left)
    (record {
      read = tt;
      shorter = tt;
      refused = other_refused (pair_assigned (g.R.PairReader.target_of c.args.reader.now) (g.R.PairReader.pair_of c.args.reader.now)) (token_view c.args.first) tokens other;
      pair = tt;
      within = omega arith;
      place = λ count. refused_first (g.R.PairReader.target_of c.args.reader.now) (g.R.PairReader.pair_of c.args.reader.now) (g.R.PairReader.refusal_of c.args.reader.now) count line Unreadable (length line)
          (token_view c.args.first ∷ tokens) refl c.requires.token (no_name (token_view c.args.first) tokens other);
      memory = λ h. absurd (cc);
    })

pub returns-in_default-target-clause-place : goal.returns-in_default-target-clause-place
returns-in_default-target-clause-place g c =
    let line : List ℕ = c.args.line.now in
    rw (c.at-in_default-target.ensures.kind, c.at-in_default-target.ensures.left)
    (λ count. refused_first (g.R.PairReader.target_of c.args.reader.now) (g.R.PairReader.pair_of c.args.reader.now) (g.R.PairReader.refusal_of c.args.reader.now) count line Unknown (length line)
    (Run c.in-Run.name.now ∷ tokens_at Name c.args.rest.now) refl (rw c.in-Run.is at c.requires.token)
    (unknown c.in-Run.name.now (tokens_at Name c.args.rest.now) (sym c.target.ensures ∙ c.in_default-target.is)))

pub returns-in_default-next_token-clause-place : goal.returns-in_default-next_token-clause-place
returns-in_default-next_token-clause-place g c =
    let none : begins_with_sign (tokens_at Name c.args.rest.now) ≡ false = elim c.in_default-next_token.branch [
      | in_default-next_token-via-in-Some+in_default w ↦ search rules
      | in_default-next_token-via-in_default w ↦ search rules
    ] in
    let known = sym c.target.ensures ∙ c.in-Some.is in
    let lexed = (rw c.in-Run.is at c.requires.lexed) refl in
    rw (c.at-in_default-next_token.ensures.kind, c.at-in_default-next_token.ensures.left)
    (λ count. refused_later (g.R.PairReader.target_of c.args.reader.now) (g.R.PairReader.pair_of c.args.reader.now) (g.R.PairReader.refusal_of c.args.reader.now) count c.args.line.now c.args.rest.now Unreadable (length c.args.rest.now)
    (Run c.in-Run.name.now ∷ []) Name (tokens_at Name c.args.rest.now) refl lexed refl
    (no_sign c.in-Run.name.now c.in-Some.target (tokens_at Name c.args.rest.now) known none))

pub returns-in_default-next_token-2-clause-place : goal.returns-in_default-next_token-2-clause-place
returns-in_default-next_token-2-clause-place g c =
    let line : List ℕ = c.args.line.now in
    let rest : List ℕ = c.args.rest.now in
    let text : List ℕ = c.in-Some-Sign-default.text.now in
    let name : List ℕ = c.in-Run.name.now in
    let known = sym c.target.ensures ∙ c.in-Some.is in
    let lexed : IsLexed Name line (Run name ∷ []) Name rest = (rw c.in-Run.is at c.requires.lexed) refl in
    let sign : IsLexed Name rest (Sign ∷ []) Value text = (rw c.in-Some-Sign-default.field-0-0-is at c.in-Some-Sign-default.ensures.lexed) refl in
    rw (c.at-in_default-next_token-2.ensures.kind, c.at-in_default-next_token-2.ensures.left)
    (λ count. refused_later (g.R.PairReader.target_of c.args.reader.now) (g.R.PairReader.pair_of c.args.reader.now) (g.R.PairReader.refusal_of c.args.reader.now) count line text Unreadable (length text)
    (Run name ∷ Sign ∷ []) Value [] refl (lexed_then Name Name Value line rest text (Run name ∷ []) (Sign ∷ []) lexed sign) c.in_default-next_token-2.ensures.token
    (no_value name c.in-Some.target [] known refl))

pub returns-in-Ok-clause-pair : goal.returns-in-Ok-clause-pair
returns-in-Ok-clause-pair g c =
    let line : List ℕ = c.args.line.now in
    let rest : List ℕ = c.args.rest.now in
    let text : List ℕ = c.in-Some-Sign-default.text.now in
    let after : List ℕ = c.in-Some-next_token.after.now in
    let name : List ℕ = c.in-Run.name.now in
    let value : Token = token_view c.in-Some-next_token.value in
    let known = sym c.target.ensures ∙ c.in-Some.is in
    let lexed : IsLexed Name line (Run name ∷ []) Name rest = (rw c.in-Run.is at c.requires.lexed) refl in
    let sign : IsLexed Name rest (Sign ∷ []) Value text = (rw c.in-Some-Sign-default.field-0-0-is at c.in-Some-Sign-default.ensures.lexed) refl in
    let found : IsLexed Value text (value ∷ []) Value after = value_lexed (g.R.PairReader.pair_of c.args.reader.now c.in-Some.target) c.in-Some-next_token.value c.in-Ok.pair text after c.in-Ok.ensures.pair c.in-Some-next_token.ensures.lexed in
    record {
      name = name;
      value = value;
      lexed = lexed_then Name Name Value line rest after (Run name ∷ []) (Sign ∷ value ∷ []) lexed
          (lexed_then Name Value Value rest text after (Sign ∷ []) (value ∷ []) sign found);
      read = rw known c.in-Ok.ensures.pair;
    }

pub returns-in-Err-clause-place : goal.returns-in-Err-clause-place
returns-in-Err-clause-place g c =
    let line : List ℕ = c.args.line.now in
    let rest : List ℕ = c.args.rest.now in
    let text : List ℕ = c.in-Some-Sign-default.text.now in
    let name : List ℕ = c.in-Run.name.now in
    let value : Token = token_view c.in-Some-next_token.value in
    let tokens : List Token = tokens_at (side_after Value c.in-Some-next_token.value) c.in-Some-next_token.after.now in
    let known = sym c.target.ensures ∙ c.in-Some.is in
    let lexed : IsLexed Name line (Run name ∷ []) Name rest = (rw c.in-Run.is at c.requires.lexed) refl in
    let sign : IsLexed Name rest (Sign ∷ []) Value text = (rw c.in-Some-Sign-default.field-0-0-is at c.in-Some-Sign-default.ensures.lexed) refl in
    rw (c.at-in-Err.ensures.kind, c.at-in-Err.ensures.left, c.refused_from.ensures)
    (values_refused (g.R.PairReader.target_of c.args.reader.now) (g.R.PairReader.pair_of c.args.reader.now) (g.R.PairReader.refusal_of c.args.reader.now) line text c.in-Err.kind (refused_from c.in-Err.kind (length line) (length text))
    name c.in-Some.target value tokens c.in-Err.ensures.pair c.in-Err.ensures.refused known c.in-Some-next_token.ensures.token (lexed_then Name Name Value line rest text (Run name ∷ []) (Sign ∷ []) lexed sign) refl)

pub returns-in-Err-clause-memory : goal.returns-in-Err-clause-memory
returns-in-Err-clause-memory g c =
    let line : List ℕ = c.args.line.now in
    let rest : List ℕ = c.args.rest.now in
    let text : List ℕ = c.in-Some-Sign-default.text.now in
    let name : List ℕ = c.in-Run.name.now in
    let value : Token = token_view c.in-Some-next_token.value in
    let tokens : List Token = tokens_at (side_after Value c.in-Some-next_token.value) c.in-Some-next_token.after.now in
    let known = sym c.target.ensures ∙ c.in-Some.is in
    let lexed : IsLexed Name line (Run name ∷ []) Name rest = (rw c.in-Run.is at c.requires.lexed) refl in
    let sign : IsLexed Name rest (Sign ∷ []) Value text = (rw c.in-Some-Sign-default.field-0-0-is at c.in-Some-Sign-default.ensures.lexed) refl in
    rw (c.at-in-Err.ensures.kind, c.at-in-Err.ensures.left, c.refused_from.ensures)
    (λ out. rw out
    (value_out (g.R.PairReader.target_of c.args.reader.now) (g.R.PairReader.pair_of c.args.reader.now) (g.R.PairReader.refusal_of c.args.reader.now) (g.R.PairReader.takes_memory c.args.reader.now) line text (length text)
    name c.in-Some.target value tokens (c.in-Err.ensures.text out) (c.in-Err.ensures.writable out) (c.in-Err.ensures.memory out) known c.in-Some-next_token.ensures.token (lexed_then Name Name Value line rest text (Run name ∷ []) (Sign ∷ []) lexed sign) refl))
