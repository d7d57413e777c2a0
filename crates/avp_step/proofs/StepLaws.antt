-- Laws of steps one after another.
use Rattle.std.proofs.Common.{◌≡◌, [], ◌++◌, false, ap, ◌∙◌, cond, append_assoc}
use Rattle.avp_unlang.specs.Meaning.{Point}
use Rattle.avp_step.specs.Trace.{Steps, end_of, then_steps, unless_stopped}
use Rattle.avp_step.proofs.LastSteps.{end_of-append}

pub then_cong : (t t' u : Steps) (p : Point) → t p ≡ t' p → then_steps t u p ≡ then_steps t' u p
then_cong t t' u p h = ap (λ es. es ++ u (end_of p es)) h

pub then_cong_right : (t u u' : Steps) (p : Point) → ((r : Point) → u r ≡ u' r) → then_steps t u p ≡ then_steps t u' p
then_cong_right t u u' p h = ap (λ es. t p ++ es) (h (end_of p (t p)))

pub then_assoc : (t u v : Steps) (p : Point) → then_steps (then_steps t u) v p ≡ then_steps t (then_steps u v) p
then_assoc t u v p =
    let q = end_of p (t p) in
    ap (λ r. (t p ++ u q) ++ v r) (end_of-append p (t p) (u q))
    ∙ append_assoc (t p) (u q) (v (end_of q (u q)))

pub not_stopped : (t : Steps) (p : Point) → p.outcome.stopped ≡ false → unless_stopped t p ≡ t p
not_stopped t p h = ap (λ b. cond b [] (t p)) h
