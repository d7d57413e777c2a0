-- The counts of lines, with a record more: none is above that of the records.
use Rattle.std.proofs.Common.{◌≡◌, ◌∙◌, ℕ, ◌+◌, ◌≤◌, ◌<◌, ◌^◌, Bool, true, false, if◌then◌else◌, List, [], ◌∷◌, ◌++◌, All, append-nil, filter, map, length, nat_lt, refl, sym, ap, subst, arith}
use Rattle.std.specs.List.{list_any}
use Rattle.std.proofs.lemmas.List.Elements.{All-append, All-cons, All-map, All-nil, All-weaker}
use Rattle.radpolicy_changing_lines.specs.Differences.{same_line}
use Rattle.radpolicy_changing_lines.specs.declared.differences.PolicyLine.{PolicyLine}
use Rattle.radpolicy_replay_records.specs.DifferenceCounts.{counted_again, differences_with, first_record, has_difference, new_count, one_more}
use Rattle.radpolicy_replay_records.specs.LineCounts.{counted_once, first_count, is_new, with_lines}
use Rattle.radpolicy_replay_records.specs.Replays.{counted, counted_with}
use Rattle.radpolicy_replay_records.specs.declared.difference_counts.DifferenceCount.{DifferenceCount}
use Rattle.radpolicy_replay_records.specs.declared.difference_counts.TheConstants.{MAX_DIFFERENCES}
use Rattle.radpolicy_replay_records.specs.declared.line_counts.LineCount.{LineCount}
use Rattle.radpolicy_replay_records.specs.declared.summaries.Summary.{Summary}
use Rattle.radpolicy_record_answers.specs.declared.verdicts.Verdict.{Verdict}
use Rattle.radpolicy_record_answers.specs.declared.verdicts.Verdict.TheVariants.{Answered, Challenged, Different, LeftOut, Refused, Same, Unanswered}

-- ---- the bound

abbrev UpTo : ℕ → LineCount → Type 0
UpTo n count = count.records ≤ n

one_within : (lines : List PolicyLine) (n : ℕ) (count : LineCount) → UpTo n count → UpTo (n + 1) (counted_once lines count)
one_within lines n count h =
    elim (list_any (same_line count.line) lines) as (λ b. UpTo (n + 1) (if b then record count { records = count.records + 1 } else count)) [
      | true ↦ omega (arith, h)
      | false ↦ omega (arith, h)
    ]

firsts_within : (n : ℕ) (lines : List PolicyLine) → All (UpTo (n + 1)) (map first_count lines)
firsts_within n [] = All-nil (UpTo (n + 1))
firsts_within n (line ∷ lines) =
    All-cons (UpTo (n + 1)) (first_count line) (map first_count lines) (omega arith) (firsts_within n lines)

pub lines_within : (counts : List LineCount) (lines : List PolicyLine) (n : ℕ) → All (λ (count : LineCount). count.records ≤ n) counts → All (λ (count : LineCount). count.records ≤ n + 1) (with_lines counts lines)
lines_within counts lines n h =
    All-append (UpTo (n + 1)) (map (counted_once lines) counts) (map first_count (filter (is_new counts) lines))
    (All-map (UpTo (n + 1)) (counted_once lines) counts (All-weaker (UpTo n) (λ count. UpTo (n + 1) (counted_once lines count)) (one_within lines n) counts h))
    (firsts_within n (filter (is_new counts) lines))

pub room_for_one : (counts : List LineCount) (n : ℕ) → n + 1 < 2 ^ 64 → All (λ (count : LineCount). count.records ≤ n) counts → All (λ (count : LineCount). count.records + 1 < 2 ^ 64) counts
room_for_one counts n room h = All-weaker (UpTo n) (λ (count : LineCount). count.records + 1 < 2 ^ 64) (λ count up. omega (arith, up, room)) counts h

-- ---- no lines

none_more : (counts : List LineCount) → map (counted_once []) counts ≡ counts
none_more [] = refl
none_more (count ∷ counts) = ap (λ cs. count ∷ cs) (none_more counts)

same_counts : (counts : List LineCount) → with_lines counts [] ≡ counts
same_counts counts = append-nil (map (counted_once []) counts) ∙ none_more counts

abbrev lines_put : Summary → Verdict → List LineCount → Summary
lines_put summary verdict counts = record (counted summary verdict) { lines = counts }

with_no_lines : (summary : Summary) (verdict : Verdict) → counted_with summary verdict [] ≡ counted summary verdict
with_no_lines summary Answered = ap (lines_put summary Answered) (same_counts summary.lines)
with_no_lines summary Same = ap (lines_put summary Same) (same_counts summary.lines)
with_no_lines summary Different = ap (lines_put summary Different) (same_counts summary.lines)
with_no_lines summary Unanswered = ap (lines_put summary Unanswered) (same_counts summary.lines)
with_no_lines summary Challenged = ap (lines_put summary Challenged) (same_counts summary.lines)
with_no_lines summary Refused = ap (lines_put summary Refused) (same_counts summary.lines)
with_no_lines summary LeftOut = ap (lines_put summary LeftOut) (same_counts summary.lines)

no_items : (lines : List PolicyLine) → length lines < 1 → lines ≡ []
no_items [] none = refl
no_items (line ∷ lines) none = absurd (omega (arith, none))

-- a record of no lines is counted by its verdict alone
pub counted_alone : (summary : Summary) (verdict : Verdict) (lines : List PolicyLine) → length lines < 1 → counted summary verdict ≡ counted_with summary verdict lines
counted_alone summary verdict lines none =
    sym (with_no_lines summary verdict) ∙ ap (counted_with summary verdict) (sym (no_items lines none))

-- ---- differences

abbrev Within : ℕ → DifferenceCount → Type 0
Within n count = count.records ≤ n

again_within : (name difference : List ℕ) (n : ℕ) (count : DifferenceCount) → Within n count → Within (n + 1) (counted_again name difference count)
again_within name difference n count h =
    elim (has_difference difference count) as (λ b. Within (n + 1) (if b then one_more name count else count)) [
      | true ↦ omega (arith, h)
      | false ↦ omega (arith, h)
    ]

new_within : (name difference : List ℕ) (n : ℕ) (room : Bool) → All (Within (n + 1)) (new_count room name difference)
new_within name difference n true =
    All-cons (Within (n + 1)) (first_record name difference) [] (omega arith) (All-nil (Within (n + 1)))
new_within name difference n false = All-nil (Within (n + 1))

still_within : (n : ℕ) (counts : List DifferenceCount) → All (Within n) counts → All (Within (n + 1)) counts
still_within n counts h = All-weaker (Within n) (Within (n + 1)) (λ count up. omega (arith, up)) counts h

pub differences_within : (counts : List DifferenceCount) (name difference : List ℕ) (n : ℕ) → All (λ (count : DifferenceCount). count.records ≤ n) counts → All (λ (count : DifferenceCount). count.records ≤ n + 1) (differences_with counts name difference)
differences_within counts name [] n h = still_within n counts h
differences_within counts name (o ∷ os) n h =
    elim (list_any (has_difference (o ∷ os)) counts) as (λ b. All (Within (n + 1)) (if b then map (counted_again name (o ∷ os)) counts else counts ++ new_count (nat_lt (length counts) MAX_DIFFERENCES) name (o ∷ os))) [
      | true ↦ All-map (Within (n + 1)) (counted_again name (o ∷ os)) counts (All-weaker (Within n) (λ count. Within (n + 1) (counted_again name (o ∷ os) count)) (again_within name (o ∷ os) n) counts h)
      | false ↦ All-append (Within (n + 1)) counts (new_count (nat_lt (length counts) MAX_DIFFERENCES) name (o ∷ os)) (still_within n counts h) (new_within name (o ∷ os) n (nat_lt (length counts) MAX_DIFFERENCES))
    ]

pub room_for_difference : (counts : List DifferenceCount) (n : ℕ) → n + 1 < 2 ^ 64 → All (λ (count : DifferenceCount). count.records ≤ n) counts → All (λ (count : DifferenceCount). count.records + 1 < 2 ^ 64) counts
room_for_difference counts n room h = All-weaker (Within n) (λ (count : DifferenceCount). count.records + 1 < 2 ^ 64) (λ count up. omega (arith, up, room)) counts h
