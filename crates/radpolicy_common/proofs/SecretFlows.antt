-- How the secret attributes of a policy are found, one after another.
use Rattle.std.proofs.Common.{◌≡◌, ◌≤◌, ◌<◌, Bool, true, false, if◌then◌else◌, List, [], ◌∷◌, ◌++◌, None, Some, refl, sym, subst, arith}
use Rattle.std.specs.List.{list_any}
use Rattle.std.proofs.lemmas.List.Folds.{list_any-append}
use Rattle.avp_lists.specs.declared.pairs.AttrId.{AttrId}
use Rattle.avp_lists.specs.Pairs.{id_eq}
use Rattle.avp_lists.proofs.Equality.{id_eq-same, same_id}
use Rattle.avp_dict.specs.Dictionary.{Dictionary}
use Rattle.avp_unlang.specs.declared.tree.Line.{Line}
use Rattle.avp_unlang.specs.declared.tree.Part.{Part}
use Rattle.avp_unlang.specs.declared.tree.Part.TheVariants as part
use Rattle.avp_unlang.specs.declared.tree.Source.{Source}
use Rattle.avp_unlang.specs.declared.tree.Source.TheVariants as source
use Rattle.radpolicy_common.specs.SecretAttributes.{is_secret_attribute}
use Rattle.radpolicy_common.specs.Secrets.{AreAmong, IsClosed, is_among, part_takes, source_takes, takes_secret}
use Rattle.radpolicy_common.specs.internal.PolicyLines.{count_unknown, is_newly_secret, next_secret}

-- ---- two tests

-- what passes the one passes the other
abbrev Passes : (AttrId → Bool) → (AttrId → Bool) → Type 0
Passes P Q = (id : AttrId) → P id ≡ true → Q id ≡ true

ids_pass : (P Q : AttrId → Bool) → Passes P Q → (ids : List AttrId) → list_any P ids ≡ true → list_any Q ids ≡ true
ids_pass P Q more [] h = h
ids_pass P Q more (id ∷ ids) h = grind (arith, more id, ids_pass P Q more ids)

module _ (P Q : AttrId → Bool) (more : Passes P Q) (b c : Bool) (captured : b ≡ true → c ≡ true) where
  part_passes : (p : Part) → part_takes P b p ≡ true → part_takes Q c p ≡ true
  part_passes (part.Text octets) h = h
  part_passes (part.Instance list id) h = more id h
  part_passes (part.Meant list id selection) h = more id h
  part_passes (part.Capture group) h = captured h

  parts_pass : (ps : List Part) → list_any (part_takes P b) ps ≡ true → list_any (part_takes Q c) ps ≡ true
  parts_pass [] h = h
  parts_pass (p ∷ ps) h = grind (arith, part_passes p, parts_pass ps)

  source_passes : (s : Source) → source_takes P b s ≡ true → source_takes Q c s ≡ true
  source_passes (source.Literal value) h = h
  source_passes (source.Text raw parts) h = parts_pass parts h
  source_passes (source.WiderText raw tag parts) h = parts_pass parts h
  source_passes (source.Instance list id) h = more id h
  source_passes (source.Tagged list id selection form tag) h = more id h
  source_passes source.Any h = h

-- ---- among

one_of_them : (d : Dictionary) (others ids : List AttrId) (id : AttrId) → AreAmong d others ids → list_any (id_eq id) ids ≡ true → is_among d others id ≡ true
one_of_them d others [] id all h = cc
one_of_them d others (own ∷ ids) id all h =
    elim (id_eq id own) as (λ b. id_eq id own ≡ b → is_among d others id ≡ true) [
      | true ↦ λ e. subst (λ (x : AttrId). is_among d others x ≡ true) (sym (same_id id own e)) all.0
      | false ↦ λ e. one_of_them d others ids id all.1 (grind (arith, e, h))
    ] refl

among_others : (d : Dictionary) (others ids : List AttrId) → AreAmong d others ids → Passes (is_among d ids) (is_among d others)
among_others d others ids all id h =
    elim (is_secret_attribute id d) as (λ b. is_secret_attribute id d ≡ b → is_among d others id ≡ true) [
      | true ↦ λ e. grind (arith, e)
      | false ↦ λ e. one_of_them d others ids id all (grind (arith, e, h))
    ] refl

-- one more
among_more : (d : Dictionary) (ids : List AttrId) (own id : AttrId) → is_among d ids id ≡ true → is_among d (ids ++ own ∷ []) id ≡ true
among_more d ids own id h = grind (arith, h, list_any-append (id_eq id) ids (own ∷ []))

among_last : (d : Dictionary) (ids : List AttrId) (id : AttrId) → is_among d (ids ++ id ∷ []) id ≡ true
among_last d ids id = grind (arith, id_eq-same id, list_any-append (id_eq id) ids (id ∷ []))

pub all_more : (d : Dictionary) (ids given : List AttrId) (own : AttrId) → AreAmong d ids given → AreAmong d (ids ++ own ∷ []) given
all_more d ids [] own all = tt
all_more d ids (id ∷ given) own all = (among_more d ids own id all.0, all_more d ids given own all.1)

-- all are among themselves
all_known : (d : Dictionary) (others ids : List AttrId) → ((id : AttrId) → list_any (id_eq id) ids ≡ true → is_among d others id ≡ true) → AreAmong d others ids
all_known d others [] known = tt
all_known d others (id ∷ ids) known =
    (known id (grind (arith, id_eq-same id)), all_known d others ids (λ own e. known own (grind (arith, e))))

pub all_themselves : (d : Dictionary) (ids : List AttrId) → AreAmong d ids ids
all_themselves d ids = all_known d ids ids (λ id e. grind (arith, e))

-- ---- the next one

abbrev is_newly : Dictionary → List AttrId → List AttrId → Line → Bool
is_newly d matched ids line = is_newly_secret d ids (list_any (is_among d ids) matched) line

-- a line that takes from these takes from the others
others_take : (d : Dictionary) (matched ids others : List AttrId) (line : Line) → AreAmong d others ids → takes_secret d matched ids line ≡ true → takes_secret d matched others line ≡ true
others_take d matched ids others line all h =
    let P = is_among d ids in
    let Q = is_among d others in
    let more : Passes P Q = among_others d others ids all in
    source_passes P Q more (list_any P matched) (list_any Q matched) (ids_pass P Q more matched) line.source h

-- where there is none, these are all
pub none_is_closed : (d : Dictionary) (matched ids : List AttrId) (lines : List Line) → next_secret d matched ids lines ≡ None → IsClosed d matched lines ids
none_is_closed d matched ids [] h = tt
none_is_closed d matched ids (line ∷ lines) h =
    let first : is_newly d matched ids line ≡ false = grind (arith, h) in
    ((λ takes. grind (arith, first, takes)), none_is_closed d matched ids lines (grind (arith, h, first)))

-- it is one of any others that are closed
next_is_among : (d : Dictionary) (matched ids others : List AttrId) (lines : List Line) (id : AttrId) → AreAmong d others ids → IsClosed d matched lines others → next_secret d matched ids lines ≡ Some id → is_among d others id ≡ true
next_is_among d matched ids others [] id all closed h = cc
next_is_among d matched ids others (line ∷ lines) id all closed h =
    elim (is_newly d matched ids line) as (λ b. is_newly d matched ids line ≡ b → (if b then Some line.id else next_secret d matched ids lines) ≡ Some id → is_among d others id ≡ true) [
      | true ↦ λ e g. (
          let takes : takes_secret d matched ids line ≡ true = grind (arith, e) in
          let same : line.id ≡ id = grind (arith, g) in
          subst (λ (x : AttrId). is_among d others x ≡ true) same (closed.0 (others_take d matched ids others line all takes)))
      | false ↦ λ e g. next_is_among d matched ids others lines id all closed.1 g
    ] refl h

all_and_one : (d : Dictionary) (others ids : List AttrId) (id : AttrId) → AreAmong d others ids → is_among d others id ≡ true → AreAmong d others (ids ++ id ∷ [])
all_and_one d others [] id all one = (one, tt)
all_and_one d others (own ∷ ids) id all one = (all.0, all_and_one d others ids id all.1 one)

pub still_least : (d : Dictionary) (matched ids others : List AttrId) (lines : List Line) (id : AttrId) → next_secret d matched ids lines ≡ Some id → IsClosed d matched lines others → AreAmong d others ids → AreAmong d others (ids ++ id ∷ [])
still_least d matched ids others lines id h closed all = all_and_one d others ids id all (next_is_among d matched ids others lines id all closed h)

-- ---- fewer and fewer

fewer_by : (b c : Bool) → (b ≡ true → c ≡ true) → (if c then 0 else 1) ≤ (if b then 0 else 1)
fewer_by true c more = let e = more refl in rw e (omega arith)
fewer_by false true more = omega arith
fewer_by false false more = omega arith

no_more : (d : Dictionary) (ids : List AttrId) (own : AttrId) (lines : List Line) → count_unknown d (ids ++ own ∷ []) lines ≤ count_unknown d ids lines
no_more d ids own [] = omega arith
no_more d ids own (line ∷ lines) =
    let first = fewer_by (is_among d ids line.id) (is_among d (ids ++ own ∷ []) line.id) (among_more d ids own line.id) in
    omega (arith, first, no_more d ids own lines)

pub one_fewer : (d : Dictionary) (matched ids : List AttrId) (lines : List Line) (id : AttrId) → next_secret d matched ids lines ≡ Some id → count_unknown d (ids ++ id ∷ []) lines < count_unknown d ids lines
one_fewer d matched ids [] id h = cc
one_fewer d matched ids (line ∷ lines) id h =
    elim (is_newly d matched ids line) as (λ b. is_newly d matched ids line ≡ b → (if b then Some line.id else next_secret d matched ids lines) ≡ Some id → count_unknown d (ids ++ id ∷ []) (line ∷ lines) < count_unknown d ids (line ∷ lines)) [
      | true ↦ λ e g. (
          let unknown : is_among d ids line.id ≡ false = grind (arith, e) in
          let same : line.id ≡ id = grind (arith, g) in
          let known : is_among d (ids ++ id ∷ []) line.id ≡ true = subst (λ (x : AttrId). is_among d (ids ++ id ∷ []) x ≡ true) (sym same) (among_last d ids id) in
          rw (unknown, known) (omega (arith, no_more d ids id lines)))
      | false ↦ λ e g. (
          let first = fewer_by (is_among d ids line.id) (is_among d (ids ++ id ∷ []) line.id) (among_more d ids id line.id) in
          omega (arith, first, one_fewer d matched ids lines id g))
    ] refl h
