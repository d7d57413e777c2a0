-- Records and the line that was given.
use Rattle.std.proofs.Common.{◌≡◌, ◌∙◌, ◌++◌, ◌<◌, IfOk, Result, refl, sym, subst, inl, inr, ℕ, IsTrue, IfSome, List, [], ◌∷◌, Option, Some, length, slice_index_or, slice_set, suc}
use Rattle.std.specs.List.{All, Any, Contains, remove}
use Rattle.std.proofs.lemmas.Option.{IfSome_then}
use Rattle.std.proofs.lemmas.Result.{IfOk-weaker}
use Rattle.std.proofs.lemmas.List.Elements.{All-append, All-contains, All-contains_itself, All-drop, All-get_or, All-push, All-set, All-take, All-weaker}
use Rattle.radpolicy_traffic.specs.Growth.{AreFrom, AreGrown, IsFrom, IsGrown, KeepsTexts, Texts, no_texts, texts_of}
use Rattle.std.specs.declared.alloc.AllocError.{AllocError}
use Rattle.radpolicy_traffic.specs.declared.open_records.OpenRecord.{OpenRecord}
use Rattle.radpolicy_traffic.specs.declared.records.Record.{Record}

pub grown_same : (line : List ℕ) (same : Record) → IsGrown line (texts_of same) same
unfolding IsGrown
grown_same line same = inr (record { request = inl refl; reply = inl refl; initial_reply = inl refl; initial_control = inl refl })

pub grown_kept : (line : List ℕ) (texts : Texts) (old new : Record) → KeepsTexts old new → IsGrown line texts old → IsGrown line texts new
unfolding IsGrown
grown_kept line texts old new kept (inl (long, none)) = inl (subst IsTrue (sym kept.is_too_long) long, kept.texts ∙ none)
grown_kept line texts old new kept (inr grown) = inr (let Grown : Texts → Type 0 = λ given. AreGrown line texts given in subst Grown (sym kept.texts) grown)

-- Texts that were the same before.
pub grown_after : (line : List ℕ) (old new : Texts) (given : Record) → old ≡ new → IsGrown line new given → IsGrown line old given
grown_after line old new given same grown = let Grown : Texts → Type 0 = λ texts. IsGrown line texts given in subst Grown (sym same) grown

pub from_kept : (line : List ℕ) (olds : List OpenRecord) (old new : Record) → KeepsTexts old new → IsFrom line olds old → IsFrom line olds new
unfolding IsFrom
from_kept line olds old new kept (inl grown) = inl (grown_kept line no_texts old new kept grown)
from_kept line olds old new kept (inr (k, given, within, at, grown)) =
    inr (k, given, within, at, grown_kept line (texts_of given.record) old new kept grown)

pub are_from_self : (line : List ℕ) (olds : List OpenRecord) → AreFrom line olds olds
unfolding AreFrom IsFrom
are_from_self line olds = All-weaker
    (λ given. (k : ℕ) × (k < length olds) × (slice_index_or olds k given ≡ given))
    (λ given. IsFrom line olds given.record)
    (λ given at. inr (at.0, given, at.1, at.2, grown_same line given.record)) olds (All-contains_itself olds)

-- One of the records in place of another with the same lines.
pub from_changed : (line : List ℕ) (olds records : List OpenRecord) (i : ℕ) (old new : OpenRecord)
    → i < length records → slice_index_or records i old ≡ old → KeepsTexts old.record new.record
    → AreFrom line olds records → AreFrom line olds (slice_set records i new)
unfolding AreFrom
from_changed line olds records i old new within at kept from =
    let P : OpenRecord → Type 0 = λ given. IsFrom line olds given.record in
    All-set P records i new
    (from_kept line olds old.record new.record kept (subst P at (All-get_or P records i old within from))) from

-- One of the records with the line.
pub from_grown : (line : List ℕ) (records : List OpenRecord) (i : ℕ) (old new : OpenRecord)
    → i < length records → slice_index_or records i old ≡ old → IsGrown line (texts_of old.record) new.record
    → AreFrom line records (slice_set records i new)
unfolding AreFrom IsFrom
from_grown line records i old new within at grown =
    All-set (λ given. IsFrom line records given.record) records i new
    (inr (i, old, within, at, grown)) (are_from_self line records)

pub from_pushed : (line : List ℕ) (olds records : List OpenRecord) (new : OpenRecord)
    → AreFrom line olds records → IsFrom line olds new.record → AreFrom line olds (records ++ new ∷ [])
unfolding AreFrom
from_pushed line olds records new from given =
    All-push (λ given. IsFrom line olds given.record) records new from given

pub from_new : (line : List ℕ) (olds : List OpenRecord) (new : Record) → IsGrown line no_texts new → IsFrom line olds new
unfolding IsFrom
from_new line olds new grown = inl grown

pub place_within : (records slice : List OpenRecord) (found : Option ℕ) (place : ℕ) → slice ≡ records
    → IfSome found (λ p. p < length slice) → found ≡ Some place → place < length records
place_within records slice found place same bound is =
    let P : Option ℕ → Type 0 = λ o. IfSome o (λ p. p < length slice) in
    let Within : List OpenRecord → Type 0 = λ given. place < length given in
    subst Within same (subst P is bound)

pub grown_counted : (line : List ℕ) (old counted new : Record) → KeepsTexts old counted
    → AreGrown line (texts_of counted) (texts_of new) → IsGrown line (texts_of old) new
unfolding IsGrown
grown_counted line old counted new kept grown =
    inr (let Grown : Texts → Type 0 = λ texts. AreGrown line texts (texts_of new) in subst Grown kept.texts grown)

pub are_from_among : (line : List ℕ) (olds records news : List OpenRecord) → AreFrom line olds records
    → All (Contains records) news → AreFrom line olds news
unfolding AreFrom
are_from_among line olds records news from among =
    let P : OpenRecord → Type 0 = λ given. IsFrom line olds given.record in
    All-weaker (Contains records) P (λ given at. All-contains P records given from at) news among

pub from_among : (line : List ℕ) (olds records : List OpenRecord) (taken : Option Record) → AreFrom line olds records
    → IfSome taken (λ given. Any (λ begun. begun.record ≡ given) records) → IfSome taken (IsFrom line olds)
unfolding AreFrom
from_among line olds records taken from among =
    IfSome_then taken among (λ given at.
    let P : OpenRecord → Type 0 = λ begun. IsFrom line olds begun.record in
    let Given : Record → Type 0 = IsFrom line olds in
    subst Given at.4 (All-contains P records at.1 from (at.0, at.2, at.3)))

pub remove_among : (records : List OpenRecord) (i : ℕ) → All (Contains records) (remove records i)
remove_among records i =
    let among = All-contains_itself records in
    All-append (Contains records) _ _ (All-take (Contains records) i records among)
    (All-drop (Contains records) (suc i) records among)

pub new_is_grown : (line : List ℕ) (new : Result OpenRecord AllocError)
    → IfOk new (λ begun. texts_of begun.record ≡ no_texts) → IfOk new (λ begun. IsGrown line no_texts begun.record)
new_is_grown line new none = IfOk-weaker new (λ begun. texts_of begun.record ≡ no_texts)
    (λ begun. IsGrown line no_texts begun.record)
    (λ begun same. grown_after line no_texts (texts_of begun.record) begun.record (sym same) (grown_same line begun.record)) none

pub grown_begun : (line : List ℕ) (begun : OpenRecord) → texts_of begun.record ≡ no_texts
    → IsGrown line no_texts begun.record
grown_begun line begun same =
    grown_after line no_texts (texts_of begun.record) begun.record (sym same) (grown_same line begun.record)
