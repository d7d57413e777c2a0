-- What the reader of patterns says of a text.
use Rattle.std.proofs.Common.{◌≡◌, ◌≢◌, ◌≤◌, ℕ, ◌<◌, false, cond, List, [], IsUtf8, length, Option, None, Some, IsSome, IsSomeAnd, IfSome, refl, sym, ap, ◌∙◌, subst, arith, ◌⊎◌, ⊎_elim, nat_le, Result, Ok, Err, OnOk, IfErr}
use Rattle.std.proofs.lemmas.Bool.Decides.{nat_tests}
use Rattle.std.specs.Option.{option_and_then}
use Rattle.std.specs.Str.{chars}
use Rattle.regex_hir.specs.declared.hir.Hir.{Hir}
use Rattle.regex_syntax.specs.Brackets.{Nested}
use Rattle.regex_syntax.specs.Grammar.{Names, read}
use Rattle.regex_syntax.specs.declared.error.Error as parser
use Rattle.regex_syntax.specs.declared.error.ErrorKind.{ErrorKind}
use Rattle.regex_syntax.specs.declared.error.ErrorKind.TheVariants as kind
use Rattle.regex.specs.Patterns.{Re, Reads, Refuses}
use Rattle.regex.specs.Bytes.{IsReadFromSource, regex_config, regex_source}
use Rattle.regex.specs.declared.bytes.regex.Regex.{Regex}
use Rattle.avp_patterns.specs.declared.faults.PatternFault.{PatternFault}
use Rattle.avp_patterns.specs.declared.faults.PatternFault.TheVariants as faults
use Rattle.avp_patterns.specs.internal.Searching.{IsNotCompiled, IsSource}
use Rattle.avp_patterns.specs.declared.flags.PatternFlags.{PatternFlags}
use Rattle.avp_patterns.proofs.Searches.{alike_within, as_read, searches_in}
use Rattle.avp_patterns.specs.Patterns.{IsPattern, IsRefused, Written, expansion_at, expression_in, options, unicode_at, within}

some_of_and : {A : Type 0} (o : Option A) (P : A → Type 0) → IsSomeAnd o P → IsSome o
some_of_and None P p = absurd p
some_of_and (Some x) P p = refl

too_deep : (o : Option (Nested Re × Names)) → IfSome o (λ (re, _). 250 < re.depth) → option_and_then (within 250) o ≡ None
too_deep None p = refl
too_deep (Some x) p =
    let deep : nat_le x.0.depth 250 ≡ false = grind (arith, nat_tests) in
    ap (λ b. cond b (Some x.0.value) None) deep

module _ (w : Written) where
  -- a text that is read is a pattern
  pub read_is_some : (hir : Hir) (names : Names) → Reads (options w.flags) w.text hir names → IsSome (expression_in w)
  unfolding expression_in Reads
  read_is_some hir names p = some_of_and _ _ (alike_within _ _ names p)

  -- and one that is refused is none
  pub refused_is_none : (k : ErrorKind) → k ≢ kind.OutOfMemory → Refuses (options w.flags) w.text k → expression_in w ≡ None
  unfolding expression_in Refuses
  refused_is_none k other p =
      ⊎_elim (λ short. absurd (other short))
      (⊎_elim (λ none. ap (option_and_then (within 250)) none) (λ deep. too_deep (read (options w.flags) (chars w.text)) deep.1)) p

  -- the fault of a text that the parser refused
  pub parse_refused : (e : parser.Error) (fault : PatternFault) →
      (fault ≡ faults.Memory) ⊎ ((e.kind ≢ kind.OutOfMemory) × (fault ≡ faults.NotRead e.span.start)) →
      Refuses (options w.flags) w.text e.kind → e.span.start ≤ length w.text → IsNotCompiled w fault
  parse_refused e fault h refuses inside =
      ⊎_elim (λ m. subst (IsNotCompiled w) (sym m) tt)
      (λ (other : (e.kind ≢ kind.OutOfMemory) × (fault ≡ faults.NotRead e.span.start)).
      subst (IsNotCompiled w) (sym other.1) (refused_is_none e.kind other.0 refuses, inside)) h

-- a text that no more than the grammar may refuse, and that it reads, is a pattern
pub is_pattern : (flags : PatternFlags) (text source : List ℕ) → source ≡ text → IsSource text →
    IsSome (expression_in (record { text = source; flags = flags })) → IsPattern (record { text = source; flags = flags })
is_pattern flags text source same s is_read = record {
  filled = subst (λ t. t ≢ []) (sym same) s.filled;
  utf8 = subst IsUtf8 (sym same) s.utf8;
  plain = subst (λ t. expansion_at t ≡ None) (sym same) s.plain;
  read = subst IsSome (sym (as_read (record { text = source; flags = flags }) (ap (unicode_at false) same ∙ s.of_octets))) is_read;
}

-- and what is compiled of such a text is of a pattern
pub is_pattern_compiled : (r : Regex) (flags : PatternFlags) (text : List ℕ) → regex_source r ≡ text → IsSource text →
    regex_config r ≡ options flags → IsReadFromSource r → IsPattern (record { text = regex_source r; flags = flags })
is_pattern_compiled r flags text same s config is_read =
    is_pattern flags text (regex_source r) same s (some_of_and (expression_in (record { text = regex_source r; flags = flags })) _ (searches_in r flags config is_read))

-- why the grammar or the compiler refuses it
pub is_refused : (flags : PatternFlags) (text source : List ℕ) → source ≡ text → IsSource text → (fault : PatternFault) →
    IsNotCompiled (record { text = source; flags = flags }) fault → IsRefused (record { text = text; flags = flags }) fault
is_refused flags text source same s (faults.NotRead at) h = subst (λ t. IsRefused (record { text = t; flags = flags }) (faults.NotRead at)) same (
  subst (λ t. t ≢ []) (sym same) s.filled,
  subst IsUtf8 (sym same) s.utf8,
  subst (λ t. expansion_at t ≡ None) (sym same) s.plain,
  as_read (record { text = source; flags = flags }) (ap (unicode_at false) same ∙ s.of_octets) ∙ h.0,
  h.1,
)
is_refused flags text source same s faults.TooLarge h = subst (λ t. IsPattern (record { text = t; flags = flags })) same (is_pattern flags text source same s h)
is_refused flags text source same s faults.Memory h = tt
is_refused flags text source same s _ h = absurd h

-- whatever became of it
pub is_pattern_if : (flags : PatternFlags) (text source : List ℕ) → source ≡ text → IsSource text → (r : Result (Unit {0}) PatternFault) →
    OnOk r (IsSome (expression_in (record { text = source; flags = flags }))) → OnOk r (IsPattern (record { text = text; flags = flags }))
is_pattern_if flags text source same s (Ok u) h = subst (λ t. IsPattern (record { text = t; flags = flags })) same (is_pattern flags text source same s h)
is_pattern_if flags text source same s (Err e) h = tt

pub is_refused_if : {A : Type 0} (flags : PatternFlags) (text source : List ℕ) → source ≡ text → IsSource text → (r : Result A PatternFault) →
    IfErr r (IsNotCompiled (record { text = source; flags = flags })) → IfErr r (IsRefused (record { text = text; flags = flags }))
is_refused_if flags text source same s (Ok x) h = tt
is_refused_if flags text source same s (Err e) h = is_refused flags text source same s e h
