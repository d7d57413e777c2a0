-- The positions of a run as they are written.
use Rattle.std.specs.Prelude.{◌≡◌, ℕ, List}
use Rattle.avp_dict.specs.Dictionary.{Dictionary}
use Rattle.avp_step.specs.Trace.{Entry}
use Rattle.radpolicy_common.specs.ChangeTexts.{AllFit}
use Rattle.radpolicy_page_data.specs.Differences.{lists_before}
use Rattle.radpolicy_page_data.specs.Positions.{ArePositions}
use Rattle.radpolicy_common.specs.Secrets.{Redaction}
use Rattle.radpolicy_page_data.specs.declared.differences.Difference.{Difference}
use Rattle.radpolicy_page_data.specs.declared.differences.Difference.TheVariants.{Again, Spliced}
use Rattle.radpolicy_page_data.specs.declared.positions.Written.{Written}
use Rattle.radpolicy_page_data.specs.internal.Marks.{AreMarks}

-- each pair that came fits the dictionary
abbrev pub DifferenceFits : Dictionary → Difference → Type 0
DifferenceFits dictionary (Again earlier) = Unit {0}
DifferenceFits dictionary (Spliced request reply control) =
    AllFit dictionary request.came.now × AllFit dictionary reply.came.now × AllFit dictionary control.came.now

-- the first k positions are written
pub record IsWritten (redaction : Redaction) (trace : List Entry) (k : ℕ) (written : Written) : Type 0 where
  pub text : ArePositions redaction trace k written.text.items
  pub lists : written.lists ≡ lists_before trace k
  pub marks : AreMarks trace k written.marks.items
