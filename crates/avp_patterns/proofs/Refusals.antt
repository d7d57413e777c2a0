-- What is refused is no pattern, and it is refused for one thing.
use Rattle.std.proofs.Common.{◌≡◌, ◌≢◌, [], true≢false, sym, ap, subst, ◌∙◌, is_some, refl}
use Rattle.std.specs.Prelude.{IsUtf8}
use Rattle.avp_patterns.specs.Patterns.{IsPattern, IsRefused, Written, expansion_at, without_place}
use Rattle.avp_patterns.specs.declared.faults.PatternFault.{PatternFault}
use Rattle.avp_patterns.specs.declared.faults.PatternFault.TheVariants as fault

pub refused_is_no_pattern : (w : Written) (f : PatternFault) → IsRefused w f → f ≢ fault.Memory → f ≢ fault.TooLarge → IsPattern w → ⊥
refused_is_no_pattern w fault.Empty h memory large p = p.filled h
refused_is_no_pattern w (fault.NotUtf8 at) h memory large p = h.0 p.utf8
refused_is_no_pattern w (fault.Expansion at) h memory large p = cc
refused_is_no_pattern w (fault.NotRead at) h memory large p = true≢false (sym p.read ∙ ap is_some h.3)
refused_is_no_pattern w fault.TooLarge h memory large p = large refl
refused_is_no_pattern w fault.Memory h memory large p = memory refl

is_empty_utf8 : IsUtf8 []
is_empty_utf8 = ([], (refl, refl))

-- a text that is empty is refused for nothing else
empty_once : (w : Written) (f : PatternFault) → w.text ≡ [] → IsRefused w f → f ≢ fault.Memory → f ≢ fault.TooLarge → without_place f ≡ fault.Empty
empty_once w fault.Empty is h memory large = refl
empty_once w (fault.NotUtf8 at) is h memory large = absurd (h.0 (subst IsUtf8 (sym is) is_empty_utf8))
empty_once w (fault.Expansion at) is h memory large = absurd (let none = sym (ap expansion_at is) ∙ h.1 in cc)
empty_once w (fault.NotRead at) is h memory large = absurd (h.0 is)
empty_once w fault.TooLarge is h memory large = absurd (large refl)
empty_once w fault.Memory is h memory large = absurd (memory refl)

pub pattern_refused_once : (w : Written) (f g : PatternFault) → IsRefused w f → f ≢ fault.Memory → f ≢ fault.TooLarge → IsRefused w g → g ≢ fault.Memory → g ≢ fault.TooLarge → without_place f ≡ without_place g
pattern_refused_once w fault.Empty g h memory large h' memory' large' = sym (empty_once w g h h' memory' large')
pattern_refused_once w f fault.Empty h memory large h' memory' large' = empty_once w f h' h memory large
pattern_refused_once w (fault.NotUtf8 at) (fault.NotUtf8 also) h memory large h' memory' large' = ap fault.NotUtf8 (h.1 ∙ sym h'.1)
pattern_refused_once w (fault.NotUtf8 at) (fault.Expansion also) h memory large h' memory' large' = absurd (h.0 h'.0)
pattern_refused_once w (fault.NotUtf8 at) (fault.NotRead also) h memory large h' memory' large' = absurd (h.0 h'.1)
pattern_refused_once w (fault.Expansion at) (fault.NotUtf8 also) h memory large h' memory' large' = absurd (h'.0 h.0)
pattern_refused_once w (fault.Expansion at) (fault.Expansion also) h memory large h' memory' large' =
    ap fault.Expansion (let same = sym h.1 ∙ h'.1 in cc)
pattern_refused_once w (fault.Expansion at) (fault.NotRead also) h memory large h' memory' large' = absurd (let none = sym h.1 ∙ h'.2 in cc)
pattern_refused_once w (fault.NotRead at) (fault.NotUtf8 also) h memory large h' memory' large' = absurd (h'.0 h.1)
pattern_refused_once w (fault.NotRead at) (fault.Expansion also) h memory large h' memory' large' = absurd (let none = sym h.2 ∙ h'.1 in cc)
pattern_refused_once w (fault.NotRead at) (fault.NotRead also) h memory large h' memory' large' = refl
pattern_refused_once w fault.TooLarge g h memory large h' memory' large' = absurd (large refl)
pattern_refused_once w fault.Memory g h memory large h' memory' large' = absurd (memory refl)
pattern_refused_once w f fault.TooLarge h memory large h' memory' large' = absurd (large' refl)
pattern_refused_once w f fault.Memory h memory large h' memory' large' = absurd (memory' refl)
