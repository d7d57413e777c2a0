-- How a refusal of a part is one of the whole.
use Rattle.std.proofs.Common.{◌≡◌, ℕ, suc, inl, inr, Result, Ok, Err, sym, subst}
use Rattle.std.specs.Prelude.{IfErr, IsErrAnd}
use Rattle.avp_lists.specs.declared.edits.Op.{Op}
use Rattle.avp_lists.specs.declared.lists.List.{List as Name}
use Rattle.avp_dict.specs.Dictionary.{Dictionary}
use Rattle.avp_forms.specs.declared.profiles.Profile.{Profile}
use Rattle.avp_unlang.specs.Between.{Counts}
use Rattle.avp_unlang.specs.Forms.{Refuses}
use Rattle.avp_unlang.specs.Lines.{OpIs, TargetIs, after_reference}
use Rattle.avp_unlang.specs.Places.{Place}
use Rattle.avp_unlang.specs.RefusedForms.{DeepFails, Failing, Tells, left_at}
use Rattle.avp_unlang.specs.RefusedLines.{LineFails, NamedFails, OpFails, SourceFails}
use Rattle.avp_unlang.specs.internal.Targets.{NamedIs}
use Rattle.avp_unlang.specs.declared.faults.PolicyKind.{PolicyKind}
use Rattle.avp_unlang.specs.declared.faults.PolicyKind.TheVariants as kinds
use Rattle.avp_unlang.specs.declared.faults.Refusal.{Refusal}
use Rattle.avp_unlang.specs.declared.text.references.Reference.{Reference}

-- an exit by `?`
pub tells : {X : Type 0} (P : Refusal → Type 0) (e : Refusal) (r : Result X Refusal) → IsErrAnd r (λ d. d ≡ e) → P e → IfErr r P
tells P e (Ok x) is h = search
tells P e (Err d) is h = subst P (sym is) h

-- the answer of a part is that of the whole
pub tells_on : {X : Type 0} (part whole : ℕ → PolicyKind → Type 0) (r : Result X Refusal) → ((left : ℕ) (kind : PolicyKind) → part left kind → whole left kind)
    → IfErr r (Tells part) → IfErr r (Tells whole)
tells_on part whole (Ok x) on h = h
tells_on part whole (Err e) on h = λ some. on e.left e.kind (h some)

-- what is refused from one place on is refused from another on
abbrev pub IsCarried : {S : Type 0} → Failing S → S → Failing S → S → Type 0
IsCarried fails from whole p = (left : ℕ) (kind : PolicyKind) → fails from left kind → whole p left kind

-- ---- signs inside others

-- inside a sign of which one more may be nested
pub deep_inside : (fails : ℕ → Failing Place) (m n begin : ℕ) → suc m ≡ n → (p : Place) (left : ℕ) (kind : PolicyKind) → fails (suc m) p left kind → DeepFails n begin (fails n) p left kind
deep_inside fails m n begin same p left kind h = subst (λ k. DeepFails k begin (fails k) p left kind) same h

pub too_deep : (fails : ℕ → Failing Place) (n begin : ℕ) → n ≡ 0 → (p : Place) (left : ℕ) (kind : PolicyKind) → left ≡ begin → kind ≡ kinds.TooDeep → DeepFails n begin (fails n) p left kind
too_deep fails n begin none p left kind place why = subst (λ k. DeepFails k begin (fails k) p left kind) (sym none) (place, why)

-- ---- update lines

module _ (profile : Profile) (dictionary : Dictionary) (own : Name) (p start begin : Place) (counts : Counts 1 p start) (is : begin ≡ after_reference start) where
  pub target_read : (found : Reference) (mid : Place) → NamedIs profile dictionary own begin found mid → TargetIs profile dictionary own start found mid
  target_read found mid h = subst (λ q. NamedIs profile dictionary own q found mid) is h

  pub target_refused : (e : Refusal) → Refuses (NamedIs profile dictionary own begin) e → Refuses (TargetIs profile dictionary own start) e
  target_refused e refused = subst (λ q. Refuses (NamedIs profile dictionary own q) e) is refused

  pub name_fails : (left : ℕ) (kind : PolicyKind) → NamedFails profile dictionary own begin left kind → LineFails profile dictionary own p left kind
  name_fails left kind h = inr (start, counts, inl (subst (λ q. NamedFails profile dictionary own q left kind) is h))

  module _ (found : Reference) (mid : Place) (named : NamedIs profile dictionary own begin found mid) where
    pub op_fails : (left : ℕ) (kind : PolicyKind) → OpFails mid left kind → LineFails profile dictionary own p left kind
    op_fails left kind h = inr (start, counts, inr (found, mid, target_read found mid named, inl h))

    pub source_fails : (operation : Op) (end : Place) (name : ℕ) → OpIs mid operation end → name ≡ left_at begin
        → (left : ℕ) (kind : PolicyKind) → SourceFails profile dictionary operation found.target name end left kind → LineFails profile dictionary own p left kind
    source_fails operation end name read place left kind h =
        inr (
          start,
          counts,
          inr (
            found,
            mid,
            target_read found mid named,
            inr (
              operation,
              end,
              read,
              subst (λ k. SourceFails profile dictionary operation found.target (left_at k) end left kind) is (subst (λ k. SourceFails profile dictionary operation found.target k end left kind) place h),
            ),
          ),
        )
