-- The positions of a run as JSON (RFC 8259).
use Rattle.std.specs.Prelude.{◌≡◌, ◌<◌, ℕ, length, zero, suc, List, [], ◌++◌, codes, decimal}
use Rattle.std.specs.List.{flat_map}
use Rattle.avp_lists.specs.declared.pairs.Pair.{Pair}
use Rattle.avp_step.specs.Trace.{Entry}
use Rattle.radpolicy.specs.Reports.{code_text}
use Rattle.radpolicy.specs.Scripts.{label_text}
use Rattle.radpolicy_page_data.specs.Differences.{Makes, entry_at}
use Rattle.radpolicy_page_data.specs.Embedding.{string_text}
use Rattle.radpolicy_common.specs.Secrets.{Redaction, pair_text}
use Rattle.radpolicy_page_data.specs.declared.differences.Difference.{Difference}
use Rattle.radpolicy_page_data.specs.declared.differences.Difference.TheVariants.{Again, Spliced}
use Rattle.radpolicy_page_data.specs.declared.positions.TheConstants.{MAX_POSITIONS_TEXT}
use Rattle.radpolicy_page_data.specs.declared.splices.Splice.{Splice}

-- a pair that came
abbrev pub pair_item : Redaction → Pair → List ℕ
pair_item redaction pair = codes "," ++ string_text (pair_text redaction pair)

-- a splice as an array: its place, how many pairs are gone, and those that came
abbrev pub splice_text : Redaction → Splice → List ℕ
splice_text redaction splice = codes "[" ++ decimal splice.at ++ codes "," ++ decimal splice.gone
    ++ flat_map (pair_item redaction) splice.came.now ++ codes "]"

-- the number of the position whose lists are there again, or the three splices
abbrev pub difference_text : Redaction → Difference → List ℕ
difference_text redaction (Again earlier) = decimal earlier
difference_text redaction (Spliced request reply control) =
    splice_text redaction request ++ codes "," ++ splice_text redaction reply
    ++ codes "," ++ splice_text redaction control

-- what comes before the item of a position
abbrev pub separator : ℕ → List ℕ
separator zero = []
separator (suc k) = codes ","

-- a position as an array: what its step did, the last code, and how its lists come of those before
abbrev pub position_text : Redaction → ℕ → Entry → Difference → List ℕ
position_text redaction k entry difference =
    separator k ++ codes "[" ++ string_text (label_text entry.label) ++ codes ","
    ++ string_text (code_text entry.outcome.code) ++ codes ","
    ++ difference_text redaction difference ++ codes "]"

-- the text has the first n positions of the trace
abbrev pub ArePositions : Redaction → List Entry → ℕ → List ℕ → Type 0
ArePositions redaction trace zero text = text ≡ []
ArePositions redaction trace (suc k) text =
    (front : List ℕ) × (difference : Difference)
    × ArePositions redaction trace k front × Makes trace k difference
    × (text ≡ front ++ position_text redaction k (entry_at trace k) difference)

-- the text of some first positions has more octets than a page has room for
abbrev pub IsTooLarge : Redaction → List Entry → Type 0
IsTooLarge redaction trace = (k : ℕ) × (text : List ℕ)
    × ArePositions redaction trace k text × (MAX_POSITIONS_TEXT < length text)
