-- The octets of a value of its type stand for it.
use Rattle.std.proofs.Common.{◌≡◌, ◌∙◌, ℕ, zero, suc, ◌^◌, ◌<◌, ◌≤◌, Bool, true, false, not, ◌&&◌, ltb, List, length, Option, Some, None, refl, sym, ap, subst, arith, rules, ℤ, FitsSigned, ◌==◌, option_and_then}
use Rattle.std.specs.Int.{bytes_high_first, cast_signed, cast_unsigned, to_be_bytes, w32, w64}
use Rattle.std.specs.Int.Digits.{number_from_digits}
use Rattle.std.proofs.lemmas.Bool.{and_parts, cond_both, false≢true, leb-true}
use Rattle.std.proofs.lemmas.Grind.{common_steps}
use Rattle.std.proofs.lemmas.Int.{to_z-of_z}
use Rattle.std.proofs.lemmas.Nat.{from_be_bytes-to_be_bytes_8}
use Rattle.avp_lists.specs.declared.pairs.AttrId.{AttrId}
use Rattle.avp_lists.specs.declared.pairs.Value.{Value}
use Rattle.avp_lists.specs.declared.pairs.Value.TheVariants.{Int, Signed, Addr, Ether, Raw}
use Rattle.avp_lists.specs.declared.pairs.Value.TheVariants as values
use Rattle.avp_lists.specs.Pairs.{value_eq}
use Rattle.avp_lists.proofs.Equality.{value_eq-same}
use Rattle.avp_dict.specs.declared.entries.Kind.{Kind}
use Rattle.avp_dict.specs.declared.entries.Kind.TheVariants as kinds
use Rattle.avp_dict.specs.AttributeNumbers.{greatest_number, greatest_value}
use Rattle.avp_dict.specs.Dictionary.{Dictionary}
use Rattle.avp_dict.specs.Limits.{fits, is_known, is_of_kind, is_typed, is_within}
use Rattle.avp_dict.specs.Names.{Described, described}
use Rattle.avp_dict.specs.Octets.{is_hidden, is_hideable, kind_of, octets, octets_of, of_length, read_by, read_value, value_of_octets, value_read}
use Rattle.avp_dict.specs.Sent.{is_canonical, is_raw, survives_hiding}
use Rattle.avp_dict.proofs.NumberOctets.{eight_octets, of_length-same}

-- an address has the octets of its type, and a signed number 32 bits
abbrev pub IsSized : Value → Type 0
IsSized (Addr os) = length os ≡ 4
IsSized (Ether os) = length os ≡ 6
IsSized (Signed z) = FitsSigned w32 z
IsSized _ = Unit {0}

-- ---- numbers

pub number_back : (k n : ℕ) → k ≤ 4 → n < 256 ^ k → number_from_digits 256 (bytes_high_first k n) ≡ n
number_back zero n h lt = omega arith
number_back (suc zero) n h lt = omega arith
number_back (suc (suc zero)) n h lt = omega arith
number_back (suc (suc (suc zero))) n h lt = omega arith
number_back (suc (suc (suc (suc zero)))) n h lt = omega arith
number_back (suc (suc (suc (suc (suc k))))) n h lt = absurd (omega arith)

eight_back : (n : ℕ) → n < 2 ^ 64 → number_from_digits 256 (to_be_bytes w64 n) ≡ n
eight_back n lt = sym (eight_octets _ _ _ _ _ _ _ _) ∙ from_be_bytes-to_be_bytes_8 n lt

signed_small : (z : ℤ) → FitsSigned w32 z → cast_unsigned w32 z < 2 ^ 32
signed_small z h = search rules

signed_back : (z : ℤ) → FitsSigned w32 z → cast_signed w32 (number_from_digits 256 (to_be_bytes w32 (cast_unsigned w32 z))) ≡ z
signed_back z h = ap (cast_signed w32) (number_back 4 (cast_unsigned w32 z) (omega arith) (let small = signed_small z h in omega arith)) ∙ to_z-of_z w32 z h

-- any number read as a signed one has 32 bits
signed_ranged : (n : ℕ) → FitsSigned w32 (cast_signed w32 n)
signed_ranged n = go (ltb n (2 ^ 31)) refl
  where
    go : (b : Bool) → ltb n (2 ^ 31) ≡ b → FitsSigned w32 (cast_signed w32 n)
    go true e = let small : n < 2 ^ 31 = grind (arith, common_steps) in rw e (record { sfits = small })
    go false e = let large : 2 ^ 31 ≤ n = grind (arith, common_steps) in rw e (record { sfits = omega arith })

-- ---- values of a type

own_value : (kind : Kind) (v : Value) → is_raw v ≡ false → IsSized v → is_of_kind v kind ≡ true → value_read kind (octets_of (Some kind) v) ≡ Some v
own_value kinds.Text (values.Text os) raw sized is = refl
own_value kinds.Bytes (values.Bytes os) raw sized is = refl
own_value kinds.Addr (Addr os) raw sized is = of_length-same 4 (λ (xs : List ℕ). Addr xs) os sized
own_value kinds.Ether (Ether os) raw sized is = of_length-same 6 (λ (xs : List ℕ). Ether xs) os sized
own_value kinds.Signed (Signed z) raw sized is = ap (λ (x : ℤ). Some (Signed x)) (signed_back z sized)
own_value kinds.Byte (Int n) raw sized is = ap (λ (m : ℕ). Some (Int m)) (number_back 1 n (omega arith) (let low = leb-true n 255 is in omega arith))
own_value kinds.Short (Int n) raw sized is = ap (λ (m : ℕ). Some (Int m)) (number_back 2 n (omega arith) (let low = leb-true n 65535 is in omega arith))
own_value kinds.Integer (Int n) raw sized is = ap (λ (m : ℕ). Some (Int m)) (number_back 4 n (omega arith) (let low = leb-true n greatest_number is in omega arith))
own_value kinds.Date (Int n) raw sized is = ap (λ (m : ℕ). Some (Int m)) (number_back 4 n (omega arith) (let low = leb-true n greatest_number is in omega arith))
own_value kinds.Integer64 (Int n) raw sized is = ap (λ (m : ℕ). Some (Int m)) (eight_back n (let low = leb-true n greatest_value is in omega arith))
own_value _ _ raw sized is = absurd (cc)

-- what a type reads is of the type's size, and is no raw octets
kept_sized : (n : ℕ) (value : List ℕ → Value) (os : List ℕ) (v : Value) → is_raw (value os) ≡ false → (length os ≡ n → IsSized (value os)) → of_length n value os ≡ Some v → (is_raw v ≡ false) × IsSized v
kept_sized n value os v raw sized e =
    let P : Value → Type 0 = λ x. (is_raw x ≡ false) × IsSized x in
    cond_both (length os == n) _ _ (λ (o : Option Value). o ≡ Some v → P v)
    (λ long is. let same : value os ≡ v = cc in subst P same (raw, sized (grind (arith, common_steps)))) (λ other is. absurd (cc)) e

given_sized : (value v : Value) → is_raw value ≡ false → IsSized value → Some value ≡ Some v → (is_raw v ≡ false) × IsSized v
given_sized value v raw sized e = let same : value ≡ v = cc in subst (λ (x : Value). (is_raw x ≡ false) × IsSized x) same (raw, sized)

pub read_sized : (kind : Kind) (os : List ℕ) (v : Value) → value_read kind os ≡ Some v → (is_raw v ≡ false) × IsSized v
read_sized kinds.Text os v e = given_sized (values.Text os) v refl tt e
read_sized kinds.Bytes os v e = given_sized (values.Bytes os) v refl tt e
read_sized kinds.Addr os v e = kept_sized 4 (λ (xs : List ℕ). Addr xs) os v refl (λ h. h) e
read_sized kinds.Ether os v e = kept_sized 6 (λ (xs : List ℕ). Ether xs) os v refl (λ h. h) e
read_sized kinds.Byte os v e = kept_sized 1 (λ (xs : List ℕ). Int (number_from_digits 256 xs)) os v refl (λ h. tt) e
read_sized kinds.Short os v e = kept_sized 2 (λ (xs : List ℕ). Int (number_from_digits 256 xs)) os v refl (λ h. tt) e
read_sized kinds.Integer os v e = kept_sized 4 (λ (xs : List ℕ). Int (number_from_digits 256 xs)) os v refl (λ h. tt) e
read_sized kinds.Date os v e = kept_sized 4 (λ (xs : List ℕ). Int (number_from_digits 256 xs)) os v refl (λ h. tt) e
read_sized kinds.Integer64 os v e = kept_sized 8 (λ (xs : List ℕ). Int (number_from_digits 256 xs)) os v refl (λ h. tt) e
read_sized kinds.Signed os v e = kept_sized 4 (λ (xs : List ℕ). Signed (cast_signed w32 (number_from_digits 256 xs))) os v refl (λ h. signed_ranged (number_from_digits 256 os)) e

module _ (dictionary : Dictionary) (id : AttrId) where
  pub read_value_sized : (os : List ℕ) (v : Value) → read_value id os dictionary ≡ Some v → (is_raw v ≡ false) × IsSized v
  unfolding read_value
  read_value_sized os v e = go (described id dictionary) e
    where
      go : (o : Option Described) → option_and_then (read_by os) o ≡ Some v → (is_raw v ≡ false) × IsSized v
      go None h = absurd (cc)
      go (Some d) h =
          cond_both (d.hidden && not (is_hideable os)) _ _ (λ (o : Option Value). o ≡ Some v → (is_raw v ≡ false) × IsSized v)
          (λ hides is. absurd (cc)) (λ shows. read_sized d.kind os v) h

  -- ---- canonical pairs

  not_raw_shown : (v : Value) → is_raw v ≡ false → survives_hiding v ≡ true
  not_raw_shown (Raw os) r = absurd (cc)
  not_raw_shown _ r = refl

  typed_by : (v : Value) (d : Described) → is_raw v ≡ false → described id dictionary ≡ Some d → is_typed id v dictionary ≡ true → is_of_kind v d.kind ≡ true
  typed_by (Raw os) d r e h = absurd (false≢true (sym r))
  typed_by _ d r e h = rw e at h

  -- a value of the type of an id that is not hidden is what its octets stand for
  own_octets : (v : Value) (o : Option Described) → described id dictionary ≡ o → is_hidden id dictionary ≡ false → is_raw v ≡ false → IsSized v → is_typed id v dictionary ≡ true → value_of_octets id (octets id v dictionary) dictionary ≡ v
  unfolding value_of_octets read_value octets
  own_octets v None e plain raw sized t = absurd (no_kind v raw e t)
    where
      no_kind : (x : Value) → is_raw x ≡ false → described id dictionary ≡ None → is_typed id x dictionary ≡ true → ⊥
      no_kind (Raw os) r f h = false≢true (sym r)
      no_kind _ r f h = false≢true (rw f at h)
  own_octets v (Some d) e plain raw sized t =
      let shows : d.hidden ≡ false = rw e at plain in
      let own = own_value d.kind v raw sized (typed_by v d raw e t) in
      rw (e, shows, own)

  canonical_by : (v : Value) → fits (record { id = id; value = v }) dictionary ≡ true → survives_hiding v ≡ true → (is_hidden id dictionary ≡ false → value_of_octets id (octets id v dictionary) dictionary ≡ v) → is_canonical (record { id = id; value = v }) dictionary ≡ true
  unfolding is_canonical
  canonical_by v fit s own =
      rw fit (cond_both (is_hidden id dictionary) _ _ (λ b. b ≡ true) (λ hidden. s) (λ plain. ap (value_eq v) (own plain) ∙ value_eq-same v))

  typed_of : (v : Value) → fits (record { id = id; value = v }) dictionary ≡ true → is_typed id v dictionary ≡ true
  unfolding fits
  typed_of v h =
      let a = and_parts (is_known id dictionary && is_typed id v dictionary) (is_within id v dictionary) h in
      (and_parts (is_known id dictionary) (is_typed id v dictionary) a.0).1

  -- a value of the id's type
  pub typed_canonical : (v : Value) → is_raw v ≡ false → IsSized v → fits (record { id = id; value = v }) dictionary ≡ true → is_canonical (record { id = id; value = v }) dictionary ≡ true
  typed_canonical v raw sized fit =
      canonical_by v fit (not_raw_shown v raw) (λ plain. own_octets v (described id dictionary) refl plain raw sized (typed_of v fit))

  -- raw octets of an id without a type
  pub raw_canonical : (os : List ℕ) → kind_of id dictionary ≡ None → fits (record { id = id; value = Raw os }) dictionary ≡ true → is_canonical (record { id = id; value = Raw os }) dictionary ≡ true
  unfolding octets value_of_octets read_value is_canonical
  raw_canonical os none fit = go (described id dictionary) refl none
    where
      go : (o : Option Described) → described id dictionary ≡ o → kind_of id dictionary ≡ None → is_canonical (record { id = id; value = Raw os }) dictionary ≡ true
      go None e k = rw (fit, e) (value_eq-same (Raw os))
      go (Some d) e k = absurd (let some : Some d.kind ≡ None = rw e at k in cc)

  -- raw octets that a type does not read
  pub unread_canonical : (os : List ℕ) → is_hidden id dictionary ≡ false → value_of_octets id os dictionary ≡ Raw os → fits (record { id = id; value = Raw os }) dictionary ≡ true → is_canonical (record { id = id; value = Raw os }) dictionary ≡ true
  unfolding octets is_canonical
  unread_canonical os plain unread fit = rw (fit, plain, unread) (value_eq-same (Raw os))
