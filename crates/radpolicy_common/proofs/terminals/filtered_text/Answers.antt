use Rattle.std.proofs.Common.{◌≡◌, ℕ, ◌<◌, ◌++◌, List, [], append-nil, append_assoc, arith, rules, subst, sym}
use Rattle.std.proofs.lemmas.List.{nil_from_length}
use Rattle.std.proofs.lemmas.List.Elements.{All-from_get_or}
use Rattle.std.specs.Str.{IsUtf8}
use Rattle.std.specs.Str.Chunks.{utf8_chunks_rest}
use Rattle.radpolicy_common.specs.VisibleText.{IsVisibleText, octal_text, text_shown}
use Rattle.radpolicy_common.specs.VisibleText.IsVisibleText.{nothing}
use Rattle.radpolicy_common.specs.declared.terminals.LineBreaks.{LineBreaks}
use Rattle.radpolicy_common.proofs.Chunks.{chunk_is_shown}
use Rattle.radpolicy_common.proofs.Visibility.{Small, shown_is_text, text_is_shown}
use Rattle.radpolicy_common.proofs.VisibleParts.{all_left, nothing_left, part_after}
use Rattle.radpolicy_common.proofs.terminals.filtered_text.Goals as goal

pub loop-chunk-init : goal.loop-chunk-init
loop-chunk-init c = record {
  shown = search rules;
  parts = all_left _ _ _ _ (search rules) (search rules);
}

pub loop-chunk-preserved : goal.loop-chunk-preserved
loop-chunk-preserved c =
    let steps = c.in-Some.ensures.steps in
    let text = text_shown c.args.breaks c.in-Some.chunk.valid.now in
    let octal = octal_text c.in-Some.chunk.invalid.now in
    let pushed : c.push_octals.new.text.items ≡ c.loop-chunk.text.items ++ text ++ octal = rw (c.in_ok-push_octals.ensures, c.in_ok-push_text.ensures, c.valid.ensures, c.invalid.ensures) in
    let utf8 : IsUtf8 c.in-Some.chunk.valid.now = subst IsUtf8 c.valid.ensures c.valid.utf8 in
    let left = utf8_chunks_rest c.loop-chunk.chunk-iterator in
    let after = utf8_chunks_rest c.next.new.self in
    record {
      shown = λ more later. (
          let shown = chunk_is_shown c.args.breaks left c.in-Some.chunk.valid.now c.in-Some.chunk.invalid.now after more steps.0 utf8 steps.3.0 steps.3.1 later in
          let joined : c.push_octals.new.text.items ++ more ≡ c.loop-chunk.text.items ++ (text ++ (octal ++ more)) = rw (pushed, append_assoc, append_assoc) in
          subst (λ (xs : List ℕ). IsVisibleText c.args.breaks c.args.octets.now xs) (sym joined) (c.loop-chunk.invariant.shown (text ++ (octal ++ more)) shown));
      parts = part_after c.args.breaks c.args.octets.now left c.in-Some.chunk.valid.now c.in-Some.chunk.invalid.now after
          c.loop-chunk.text.items c.push_octals.new.text.items steps.0 steps.3.0 steps.3.1 steps.1 pushed c.loop-chunk.invariant.parts;
    }

whole : (breaks : LineBreaks) (octets text rest : List ℕ) → rest ≡ [] → ((more : List ℕ) → IsVisibleText breaks rest more → IsVisibleText breaks octets (text ++ more)) → IsVisibleText breaks octets text
whole breaks octets text rest none shown =
    subst (λ (xs : List ℕ). IsVisibleText breaks octets xs) (append-nil text) (shown [] (subst (λ (os : List ℕ). IsVisibleText breaks os []) (sym none) nothing))

pub returns-clause-shown : goal.returns-clause-shown
returns-clause-shown c =
    whole c.args.breaks c.args.octets.now c.loop-chunk.text.items (utf8_chunks_rest c.loop-chunk.chunk-iterator) (nil_from_length _ c.in-None.ensures.steps.0) c.loop-chunk.invariant.shown

pub returns-clause-utf8 : goal.returns-clause-utf8
returns-clause-utf8 c =
    let shown = whole c.args.breaks c.args.octets.now c.loop-chunk.text.items (utf8_chunks_rest c.loop-chunk.chunk-iterator) (nil_from_length _ c.in-None.ensures.steps.0) c.loop-chunk.invariant.shown in
    let small : Small c.args.octets.now = All-from_get_or (λ (o : ℕ). o < 256) c.args.octets.now 0 (λ k within. let f = c.type_inv.octets k in omega arith) in
    (shown_is_text c.args.breaks c.args.octets.now c.loop-chunk.text.items shown small).utf8

pub returns-clause-visible : goal.returns-clause-visible
returns-clause-visible c =
    let shown = whole c.args.breaks c.args.octets.now c.loop-chunk.text.items (utf8_chunks_rest c.loop-chunk.chunk-iterator) (nil_from_length _ c.in-None.ensures.steps.0) c.loop-chunk.invariant.shown in
    let small : Small c.args.octets.now = All-from_get_or (λ (o : ℕ). o < 256) c.args.octets.now 0 (λ k within. let f = c.type_inv.octets k in omega arith) in
    (shown_is_text c.args.breaks c.args.octets.now c.loop-chunk.text.items shown small).passes

pub returns-clause-text : goal.returns-clause-text
returns-clause-text c = λ utf8.
    let shown = whole c.args.breaks c.args.octets.now c.loop-chunk.text.items (utf8_chunks_rest c.loop-chunk.chunk-iterator) (nil_from_length _ c.in-None.ensures.steps.0) c.loop-chunk.invariant.shown in
    text_is_shown c.args.breaks c.args.octets.now c.loop-chunk.text.items shown utf8

pub returns-clause-parts : goal.returns-clause-parts
returns-clause-parts c =
    nothing_left c.args.breaks c.args.octets.now (utf8_chunks_rest c.loop-chunk.chunk-iterator) c.loop-chunk.text.items (nil_from_length _ c.in-None.ensures.steps.0) c.loop-chunk.invariant.parts
