-- Attributes mean one list of pairs, which is the one that is read.
use Rattle.std.proofs.Common.{◌≡◌, ◌∙◌, ℕ, zero, suc, ◌-◌, ◌<◌, Bool, true, false, ◌==◌, List, [], ◌∷◌, ◌++◌, length, drop, map, Option, Some, None, refl, sym, ap, subst, arith, inl, inr}
use Rattle.std.proofs.lemmas.Grind.{common_steps}
use Rattle.avp_lists.specs.declared.pairs.AttrId.TheVariants.{Plain, Extended}
use Rattle.avp_lists.specs.declared.pairs.Pair.{Pair}
use Rattle.avp_dict.specs.Dictionary.{Dictionary}
use Rattle.avp_dict.specs.Sent.{is_container}
use Rattle.avp_dict.specs.AttributeNumbers.{vendor_specific}
use Rattle.avp_packet.specs.Meanings.{Run, Subattribute, extended_pair, extended_type, first_run, attribute_pairs, pair_meant, raw_pair, subattribute_pair, vendor_of, vendor_subattributes}
use Rattle.avp_packet.specs.Means.{IsUnread, Means}
use Rattle.avp_packet.specs.Means as cases
use Rattle.avp_packet.specs.Splitting.{Part}
use Rattle.avp_packet.specs.ExtendedTypes.{holds_long, holds_one}
use Rattle.avp_packet.proofs.Means.{attribute_pairs-cons, attribute_pairs-nil}
use Rattle.avp_packet.proofs.PieceRuns.{run_rest}
use Rattle.avp_packet.proofs.Tests.{by_test}

-- what the tests of a type say
record IsTested (t : ℕ) (vendor extended long : Bool) : Type 0 where
  is_vendor : (t == vendor_specific) ≡ vendor
  is_extended : holds_one t ≡ extended
  is_long : holds_long t ≡ long

vendor_tested : (t : ℕ) → t ≡ vendor_specific → IsTested t true false false
vendor_tested t e = record { is_vendor = grind (arith, common_steps); is_extended = grind (arith, common_steps); is_long = grind (arith, common_steps) }

extended_tested : (t : ℕ) → holds_one t ≡ true → IsTested t false true false
extended_tested t e = record { is_vendor = grind (arith, common_steps); is_extended = e; is_long = grind (arith, common_steps) }

long_tested : (t : ℕ) → holds_long t ≡ true → IsTested t false false true
long_tested t e = record { is_vendor = grind (arith, common_steps); is_extended = grind (arith, common_steps); is_long = e }

plain_tested : (t : ℕ) → is_container (Plain t) ≡ false → IsTested t false false false
plain_tested t e = record { is_vendor = grind (arith, common_steps); is_extended = grind (arith, common_steps); is_long = grind (arith, common_steps) }

module _ (dictionary : Dictionary) (secret authenticator : List ℕ) where
  abbrev Meant : List Part → List Pair → Type 0
  Meant ps pairs = Means dictionary secret authenticator ps pairs

  abbrev means : List Part → List Pair
  means ps = attribute_pairs dictionary secret authenticator ps

  -- ---- no other list

  raw_only : (p : Part) (ps : List Part) (pairs : List Pair) → IsUnread dictionary p ps → pairs ≡ means ps → raw_pair p ∷ pairs ≡ means (p ∷ ps)
  raw_only p ps pairs (inl e) h =
      let x = vendor_tested p.number e.0 in
      sym (attribute_pairs-cons dictionary secret authenticator p ps ∙ rw (x.is_vendor, x.is_long, e.1, h))
  raw_only p ps pairs (inr (inl e)) h =
      let x = extended_tested p.number e.0 in
      sym (attribute_pairs-cons dictionary secret authenticator p ps ∙ rw (x.is_vendor, x.is_extended, x.is_long, h) (ap (λ (pair : Pair). pair ∷ means ps) (short p.value refl e.1)))
    where
      short : (value : List ℕ) → p.value ≡ value → length p.value < 2 → extended_pair dictionary secret authenticator p ≡ raw_pair p
      short [] e lt = rw e
      short (n ∷ []) e lt = rw e
      short (n ∷ o ∷ os) e lt = let long = ap length e in absurd (omega arith)
  raw_only p ps pairs (inr (inr e)) h =
      let x = long_tested p.number e.0 in
      sym (attribute_pairs-cons dictionary secret authenticator p ps ∙ rw (x.is_vendor, x.is_extended, x.is_long, e.1, h))

  pub only_meaning : (ps : List Part) (pairs : List Pair) → Meant ps pairs → pairs ≡ means ps
  only_meaning ps pairs cases.nothing = sym (attribute_pairs-nil dictionary secret authenticator)
  only_meaning ps pairs (cases.of_vendor p qs subattributes others_ e f rest) =
      let h = only_meaning qs others_ rest in
      let x = vendor_tested p.number e in
      sym (attribute_pairs-cons dictionary secret authenticator p qs ∙ rw (x.is_vendor, x.is_long, f, h))
  only_meaning ps pairs (cases.of_extended t n o os qs others_ e rest) =
      let h = only_meaning qs others_ rest in
      let x = extended_tested t e in
      sym (attribute_pairs-cons dictionary secret authenticator (record { number = t; value = n ∷ o ∷ os }) qs ∙ rw (x.is_vendor, x.is_extended, x.is_long, h))
  only_meaning ps pairs (cases.of_run p qs run others_ e f rest) =
      let h = only_meaning run.rest others_ rest in
      let x = long_tested p.number e in
      let dropped = run_rest p.number (extended_type p) p qs run f in
      sym (attribute_pairs-cons dictionary secret authenticator p qs ∙ rw (x.is_vendor, x.is_extended, x.is_long, f, ← dropped, h))
  only_meaning ps pairs (cases.as_raw p qs others_ e rest) = raw_only p qs others_ e (only_meaning qs others_ rest)
  only_meaning ps pairs (cases.as_plain p qs others_ e rest) =
      let h = only_meaning qs others_ rest in
      let x = plain_tested p.number e in
      sym (attribute_pairs-cons dictionary secret authenticator p qs ∙ rw (x.is_vendor, x.is_extended, x.is_long, h))

  -- ---- and that list

  abbrev IsMeant : List Part → Type 0
  IsMeant ps = Meant ps (means ps)

  read_to : (ps : List Part) (pairs : List Pair) → pairs ≡ means ps → Meant ps pairs → IsMeant ps
  read_to ps pairs e h = subst (λ (all : List Pair). Meant ps all) e h

  first_raw : (p : Part) (ps : List Part) → IsUnread dictionary p ps → IsMeant ps → IsMeant (p ∷ ps)
  first_raw p ps e rest = read_to (p ∷ ps) (raw_pair p ∷ means ps) (raw_only p ps (means ps) e refl) (cases.as_raw p ps (means ps) e rest)

  first_vendor : (p : Part) (ps : List Part) → p.number ≡ vendor_specific → IsMeant ps → (o : Option (List Subattribute)) → vendor_subattributes dictionary p.value ≡ o → IsMeant (p ∷ ps)
  first_vendor p ps e rest None f = first_raw p ps (inl (e, f)) rest
  first_vendor p ps e rest (Some subattributes) f =
      let all : List Pair = map (subattribute_pair dictionary secret authenticator (vendor_of p.value)) subattributes ++ means ps in
      let h : Meant (p ∷ ps) all = cases.of_vendor p ps subattributes (means ps) e f rest in
      read_to (p ∷ ps) all (only_meaning (p ∷ ps) all h) h

  first_extended : (t : ℕ) (value : List ℕ) (ps : List Part) → holds_one t ≡ true → IsMeant ps → IsMeant (record { number = t; value = value } ∷ ps)
  first_extended t [] ps e rest = first_raw (record { number = t; value = [] }) ps (inr (inl (e, omega arith))) rest
  first_extended t (n ∷ []) ps e rest = first_raw (record { number = t; value = n ∷ [] }) ps (inr (inl (e, omega arith))) rest
  first_extended t (n ∷ o ∷ os) ps e rest =
      let p : Part = record { number = t; value = n ∷ o ∷ os } in
      let all : List Pair = pair_meant dictionary secret authenticator (Extended t n) (o ∷ os) ∷ means ps in
      let h : Meant (p ∷ ps) all = cases.of_extended t n o os ps (means ps) e rest in
      read_to (p ∷ ps) all (only_meaning (p ∷ ps) all h) h

  first_long : (p : Part) (ps : List Part) → holds_long p.number ≡ true → ((k : ℕ) → IsMeant (drop k ps)) → (o : Option Run) → first_run p ps ≡ o → IsMeant (p ∷ ps)
  first_long p ps e rest None f = first_raw p ps (inr (inr (e, f))) (rest 0)
  first_long p ps e rest (Some run) f =
      let dropped = run_rest p.number (extended_type p) p ps run f in
      let after : IsMeant run.rest = subst (λ (qs : List Part). IsMeant qs) (sym dropped) (rest (length ps - length run.rest)) in
      let all : List Pair = pair_meant dictionary secret authenticator (Extended p.number (extended_type p)) run.os ∷ means run.rest in
      let h : Meant (p ∷ ps) all = cases.of_run p ps run (means run.rest) e f after in
      read_to (p ∷ ps) all (only_meaning (p ∷ ps) all h) h

  first_plain : (p : Part) (ps : List Part) → is_container (Plain p.number) ≡ false → IsMeant ps → IsMeant (p ∷ ps)
  first_plain p ps e rest =
      let all : List Pair = pair_meant dictionary secret authenticator (Plain p.number) p.value ∷ means ps in
      let h : Meant (p ∷ ps) all = cases.as_plain p ps (means ps) e rest in
      read_to (p ∷ ps) all (only_meaning (p ∷ ps) all h) h

  first_meant : (p : Part) (ps : List Part) → ((k : ℕ) → IsMeant (drop k ps)) → IsMeant (p ∷ ps)
  first_meant p ps rest =
      by_test (IsMeant (p ∷ ps)) (p.number == vendor_specific)
      (λ e. first_vendor p ps (grind (arith, common_steps)) (rest 0) (vendor_subattributes dictionary p.value) refl)
      (λ e. by_test (IsMeant (p ∷ ps)) (holds_one p.number)
      (λ f. first_extended p.number p.value ps f (rest 0))
      (λ f. by_test (IsMeant (p ∷ ps)) (holds_long p.number)
      (λ g. first_long p ps g rest (first_run p ps) refl)
      (λ g. let plain : is_container (Plain p.number) ≡ false = grind (arith, common_steps) in first_plain p ps plain (rest 0))))

  all_meant : (ps : List Part) (k : ℕ) → IsMeant (drop k ps)
  all_meant [] zero = read_to [] [] (sym (attribute_pairs-nil dictionary secret authenticator)) cases.nothing
  all_meant [] (suc k) = read_to [] [] (sym (attribute_pairs-nil dictionary secret authenticator)) cases.nothing
  all_meant (p ∷ ps) zero = first_meant p ps (all_meant ps)
  all_meant (p ∷ ps) (suc k) = all_meant ps k

  -- the list that is read is meant
  pub meaning_meant : (ps : List Part) → Meant ps (means ps)
  meaning_meant ps = all_meant ps 0

  pub meant_by : (ps : List Part) (pairs : List Pair) → means ps ≡ pairs → Meant ps pairs
  meant_by ps pairs e = subst (λ (all : List Pair). Meant ps all) e (meaning_meant ps)

  pub only_by : (ps : List Part) (pairs : List Pair) → pairs ≡ means ps → (others_ : List Pair) → Meant ps others_ → others_ ≡ pairs
  only_by ps pairs e others_ h = only_meaning ps others_ h ∙ sym e
