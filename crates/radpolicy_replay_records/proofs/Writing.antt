-- What was written of a text, a front after a front.
use Rattle.std.proofs.Common.{◌≡◌, ◌∙◌, ℕ, List, [], ◌++◌, Option, None, Some, IfSome, append_assoc, append-nil, sym, ap, length, take, drop, take-append-drop, ◌-◌, arith}
use Rattle.std.specs.Io.KnownBytes.{Appends, Keeps}
use Rattle.std.proofs.lemmas.List.{length-drop, take_all}
use Rattle.std.proofs.KnownBytes.{Appends-kept, Appends-trans}
use Rattle.radpolicy_replay_records.specs.Replays.{AppendsFront}

pub nothing_by_kept : (a b : Option (List ℕ)) → Keeps a b → Appends a b []
nothing_by_kept None b kept = tt
nothing_by_kept (Some x) None kept = absurd kept
nothing_by_kept (Some x) (Some y) kept = kept ∙ sym (append-nil x)

pub kept_by_nothing : (a b : Option (List ℕ)) → Appends a b [] → Keeps a b
kept_by_nothing None b appends = tt
kept_by_nothing (Some x) None appends = absurd appends
kept_by_nothing (Some x) (Some y) appends = appends ∙ append-nil x

pub front_more : (a b c : Option (List ℕ)) (text written rest : List ℕ) (count : ℕ) → text ≡ written ++ rest → Appends a b written → Appends b c (take count rest) → (x : List ℕ) × (text ≡ x ++ take (length rest - count) (drop count rest)) × Appends a c x
front_more a b c text written rest count parts appends puts =
    let short = length-drop count rest in
    let left : take (length rest - count) (drop count rest) ≡ drop count rest = take_all (length rest - count) (drop count rest) (omega (arith, short)) in (
      written ++ take count rest,
      parts ∙ ap (λ l. written ++ l) (sym (take-append-drop count rest)) ∙ sym (append_assoc written (take count rest) (drop count rest)) ∙ ap (λ l. (written ++ take count rest) ++ l) (sym left),
      Appends-trans a b c written (take count rest) appends puts,
    )

pub front_kept : (a b c : Option (List ℕ)) (text written rest : List ℕ) → text ≡ written ++ rest → Appends a b written → Keeps b c → AppendsFront a c text
front_kept a b c text written rest parts appends kept = (written, rest, parts, Appends-kept a b c written appends kept)

-- a whole text is a front
pub whole_is_front : (known a b : Option (List ℕ)) (f : List ℕ → List ℕ) → IfSome known (λ octets. Appends a b (f octets)) → IfSome known (λ octets. AppendsFront a b (f octets))
whole_is_front None a b f appends = tt
whole_is_front (Some octets) a b f appends = (f octets, [], sym (append-nil (f octets)), appends)
