-- The places that reading comes to are before tokens of the text, and so refusals are at tokens.
use Rattle.std.proofs.Common.{◌≡◌, inl, inr, ℕ, suc, ◌+◌, Bool, true, false, List, [], ◌∷◌, length, Option, Some, None, refl, sym, ap, subst, ◌∙◌}
use Rattle.std.specs.Prelude.{cond, nat_le, ◌-◌, ◌||◌, ◌==◌}
use Rattle.avp_dict.specs.Ascii.{carriage_return, line_feed, number_sign, space, tab}
use Rattle.avp_forms.specs.declared.profiles.Profile.{Profile}
use Rattle.avp_unlang.specs.Between.{Counts, Follows}
use Rattle.avp_unlang.specs.Faults.{from_token, from_token_after}
use Rattle.avp_unlang.specs.Forms.{Form, Step, Gives, Becomes, After, Then, While, Others, Chain}
use Rattle.avp_unlang.specs.Places.{Place, counted}
use Rattle.avp_unlang.specs.RefusedForms.{Failing, AfterFails, ThenFails, WhileFails, OthersFails, Misses, left_at, unfit}
use Rattle.avp_unlang.specs.Tokens.{next_token, passed, skipped, token_in}
use Rattle.avp_unlang.specs.declared.faults.PolicyKind.{PolicyKind}
use Rattle.avp_unlang.specs.declared.text.tokens.Token.{Token}
use Rattle.avp_unlang.specs.internal.LeftTokens.{LeavesToken}
use Rattle.avp_unlang.proofs.Determined.{some_is}
use Rattle.avp_unlang.proofs.SmallKinds.{AreSmall, IsSmall, is_small, unfit_small}

-- ---- the line does not matter to where a token begins

abbrev skipped_by : Option (ℕ × Bool) → ℕ → ℕ → List ℕ → List ℕ
skipped_by o line c cs = (elim o as (λ _. ℕ × List ℕ) [ None ↦ (line, c ∷ cs) | Some p ↦ skipped p.0 p.1 cs ]).1

pub skipped_same : (text : List ℕ) (line other : ℕ) (comment : Bool) → (skipped line comment text).1 ≡ (skipped other comment text).1
unfolding passed
skipped_same [] line other comment = refl
skipped_same (c ∷ cs) line other comment = by_tests (λ n m goes_on. skipped_same cs n m goes_on) (c == line_feed) (comment || c == number_sign) (c == space || c == tab || c == carriage_return) where
  by_tests : ((n m : ℕ) (goes_on : Bool) → (skipped n goes_on cs).1 ≡ (skipped m goes_on cs).1) → (feed mark blank : Bool) → skipped_by (cond feed (Some (line + 1, false)) (cond mark (Some (line, true)) (cond blank (Some (line, false)) None))) line c cs
      ≡ skipped_by (cond feed (Some (other + 1, false)) (cond mark (Some (other, true)) (cond blank (Some (other, false)) None))) other c cs
  by_tests more true mark blank = more (line + 1) (other + 1) false
  by_tests more false true blank = more line other true
  by_tests more false false true = more line other false
  by_tests more false false false = refl

-- ---- places

-- the next token of a place is one of the text's
pub record IsReached (profile : Profile) (text : List ℕ) (p : Place) : Type 0 where
  pub profile_is : p.profile ≡ profile
  pub count : ℕ
  pub token : from_token_after profile count text ≡ from_token p.text

module _ (profile : Profile) (text : List ℕ) where
  pub at_token : (p : Place) → IsReached profile text p → LeavesToken profile (left_at p) text
  unfolding left_at
  at_token p h = (h.count, ap length (skipped_same p.text p.line 1 false ∙ sym h.token))

  pub follows_reached : (token : Token) (p rest : Place) → Follows token p rest → IsReached profile text p → IsReached profile text rest
  unfolding next_token
  follows_reached token p rest follows h =
      let found : (token_in p.profile (skipped p.line false p.text).1).1 ≡ rest.text = ap (λ (t : Token × Place). t.1.text) follows in
      let start : (skipped p.line false p.text).1 ≡ from_token_after profile h.count text = skipped_same p.text p.line 1 false ∙ sym h.token in
      record {
        profile_is = sym (ap (λ (t : Token × Place). t.1.profile) follows) ∙ h.profile_is;
        count = suc h.count;
        token =
            ap from_token (ap (λ s. (token_in profile s).1) (sym start) ∙ ap (λ q. (token_in q (skipped p.line false p.text).1).1) (sym h.profile_is) ∙ found);
      }

  pub counts_reached : (n : ℕ) (p rest : Place) → Counts n p rest → IsReached profile text p → IsReached profile text rest
  unfolding counted
  counts_reached n p rest counts h = of_test (nat_le n p.room) counts where
    of_test : (b : Bool) → cond b (Some (record p { room = p.room - n })) None ≡ Some rest → IsReached profile text rest
    of_test true e = subst (IsReached profile text) (some_is (record p { room = p.room - n }) rest e) (record { profile_is = h.profile_is; count = h.count; token = h.token })
    of_test false e = absurd cc

  -- ---- forms

  abbrev pub IsKept : {A : Type 0} → Form Place A → Type 0
  IsKept form = (p : Place) (x : _) (rest : Place) → form p x rest → IsReached profile text p → IsReached profile text rest

  abbrev pub IsStepKept : Step Place → Type 0
  IsStepKept step = (p rest : Place) → step p rest → IsReached profile text p → IsReached profile text rest

  pub gives_kept : {A : Type 0} (x : A) → IsKept (Gives x)
  gives_kept x p y rest h reached = subst (IsReached profile text) (sym h.1) reached

  pub becomes_kept : {A : Type 0} (o : Option A) → IsKept (Becomes o)
  becomes_kept o p y rest h reached = subst (IsReached profile text) (sym h.1) reached

  pub after_kept : {A : Type 0} (step : Step Place) (next : Form Place A) → IsStepKept step → IsKept next → IsKept (After step next)
  after_kept step next first more p y rest h reached = more h.0 y rest h.2 (first p h.0 h.1 reached)

  pub then_kept : {A B : Type 0} (first : Form Place A) (next : A → Form Place B) → IsKept first → ((x : A) → IsKept (next x)) → IsKept (Then first next)
  then_kept first next begin more p y rest h reached = more h.0 h.1 y rest h.3 (begin p h.0 h.1 h.2 reached)

  pub while_kept : {A : Type 0} (begins : Place → Bool) (form : Form Place A) → IsKept form → IsKept (While begins form)
  while_kept begins form each p [] rest h reached = subst (IsReached profile text) (sym h.1) reached
  while_kept begins form each p (x ∷ xs) rest h reached = while_kept begins form each h.1 xs rest h.3 (each p x h.1 h.2 reached)

  pub others_kept : {A : Type 0} (step : Step Place) (form : Form Place A) → IsStepKept step → IsKept form → IsKept (Others step form)
  others_kept step form first each p [] rest h reached = subst (IsReached profile text) (sym h.1) reached
  others_kept step form first each p (x ∷ xs) rest h reached = others_kept step form first each h.2 xs rest h.4 (each h.0 x h.2 h.3 (first p h.0 h.1 reached))

  pub chain_kept : {A : Type 0} (step : Step Place) (form : Form Place A) → IsStepKept step → IsKept form → IsKept (Chain step form)
  chain_kept step form first each p [] rest h reached = absurd h
  chain_kept step form first each p (x ∷ xs) rest h reached = others_kept step form first each h.0 xs rest h.2 (each p x h.0 h.1 reached)

  -- ---- refusals

  -- at a token, and not for a pattern that is too large
  abbrev pub IsTold : ℕ → PolicyKind → Type 0
  IsTold left kind = LeavesToken profile left text × IsSmall kind

  -- what is refused from a place on is refused so
  abbrev pub IsPlaced : Failing Place → Place → Type 0
  IsPlaced fails p = (left : ℕ) (kind : PolicyKind) → fails p left kind → IsTold left kind

  pub told_if : (at : ℕ) (why : Option PolicyKind) (left : ℕ) (kind : PolicyKind) → AreSmall why → LeavesToken profile at text → (left ≡ at) × (why ≡ Some kind) → IsTold left kind
  told_if at why left kind small of_at h = ((of_at.0, h.0 ∙ of_at.1), small kind h.1)

  pub told_at : (at : ℕ) (why : PolicyKind) (left : ℕ) (kind : PolicyKind) → IsSmall why → LeavesToken profile at text → (left ≡ at) × (kind ≡ why) → IsTold left kind
  told_at at why left kind small of_at h = ((of_at.0, h.0 ∙ of_at.1), is_small kind why small h.1)

  pub misses_placed : (token : Token) (p : Place) → IsReached profile text p → IsPlaced (Misses token) p
  misses_placed token p reached left kind h = told_at (left_at p) (unfit (next_token p).0) left kind (unfit_small (next_token p).0) (at_token p reached) h.1

  pub after_placed : (step : Step Place) (step_fails next_fails : Failing Place) (p : Place) → IsStepKept step → IsReached profile text p → IsPlaced step_fails p → ((mid : Place) → IsReached profile text mid → IsPlaced next_fails mid)
      → IsPlaced (AfterFails step step_fails next_fails) p
  after_placed step step_fails next_fails p kept reached first more left kind (inl h) = first left kind h
  after_placed step step_fails next_fails p kept reached first more left kind (inr h) = more h.0 (kept p h.0 h.1 reached) left kind h.2

  pub then_placed : {A : Type 0} (first : Form Place A) (first_fails : Failing Place) (next_fails : A → Failing Place) (p : Place) → IsKept first → IsReached profile text p → IsPlaced first_fails p
      → ((x : A) (mid : Place) → IsReached profile text mid → IsPlaced (next_fails x) mid) → IsPlaced (ThenFails first first_fails next_fails) p
  then_placed first first_fails next_fails p kept reached begin more left kind (inl h) = begin left kind h
  then_placed first first_fails next_fails p kept reached begin more left kind (inr h) = more h.0 h.1 (kept p h.0 h.1 h.2 reached) left kind h.3

  pub while_placed : {A : Type 0} (begins : Place → Bool) (form : Form Place A) (fails : Failing Place) → IsKept form → ((p : Place) → IsReached profile text p → IsPlaced fails p)
      → (p : Place) → IsReached profile text p → IsPlaced (WhileFails begins form fails) p
  while_placed begins form fails kept each p reached left kind (WhileFails.here starts h) = each p reached left kind h
  while_placed begins form fails kept each p reached left kind (WhileFails.later x mid starts read h) = while_placed begins form fails kept each mid (kept p x mid read reached) left kind h

  pub others_placed : {A : Type 0} (step : Step Place) (form : Form Place A) (fails : Place → Failing Place) → IsStepKept step → IsKept form
      → ((before next : Place) → IsReached profile text before → IsReached profile text next → IsPlaced (fails before) next)
      → (p : Place) → IsReached profile text p → IsPlaced (OthersFails step form fails) p
  others_placed step form fails first kept each p reached left kind (OthersFails.here next goes h) = each p next reached (first p next goes reached) left kind h
  others_placed step form fails first kept each p reached left kind (OthersFails.later next x mid goes read h) =
      others_placed step form fails first kept each mid (kept next x mid read (first p next goes reached)) left kind h
