-- What is hidden by the flows of one policy, or of two.
use Rattle.std.proofs.Common.{◌≡◌, ◌∙◌, List, [], ◌++◌, ap, subst}
use Rattle.std.proofs.lemmas.List.{append-nil}
use Rattle.avp_dict.specs.Dictionary.{Dictionary}
use Rattle.avp_unlang.specs.declared.tree.Statement.{Statement}
use Rattle.radpolicy_common.specs.declared.redactions.Hiding.{Hiding}
use Rattle.radpolicy_common.specs.Secrets.{AreSecret, IsRedactionOf, Redaction, captures_secret}

-- of the same statements, told otherwise
moved : (dictionary : Dictionary) (told statements : List Statement) (hiding : Hiding) (redaction : Redaction)
    → redaction.dictionary ≡ dictionary → redaction.secrets ≡ hiding.secrets → AreSecret dictionary hiding.given.now told redaction.ids → redaction.captured ≡ captures_secret dictionary redaction.ids told
    → told ≡ statements → IsRedactionOf dictionary statements hiding redaction
moved dictionary told statements hiding redaction d s ids captured is = record {
  dictionary = d;
  secrets = s;
  ids = subst (λ (ss : List Statement). AreSecret dictionary hiding.given.now ss redaction.ids) is ids;
  captured = captured ∙ ap (λ (ss : List Statement). captures_secret dictionary redaction.ids ss) is;
}

pub of_one : (dictionary : Dictionary) (first own : List Statement) (hiding : Hiding) (redaction : Redaction)
    → redaction.dictionary ≡ dictionary → redaction.secrets ≡ hiding.secrets → AreSecret dictionary hiding.given.now (first ++ []) redaction.ids → redaction.captured ≡ captures_secret dictionary redaction.ids (first ++ [])
    → first ≡ own → IsRedactionOf dictionary own hiding redaction
of_one dictionary first own hiding redaction d s ids captured is =
    moved dictionary (first ++ []) own hiding redaction d s ids captured (append-nil first ∙ is)

pub of_two : (dictionary : Dictionary) (first second own old : List Statement) (hiding : Hiding) (redaction : Redaction)
    → redaction.dictionary ≡ dictionary → redaction.secrets ≡ hiding.secrets → AreSecret dictionary hiding.given.now (first ++ (second ++ [])) redaction.ids → redaction.captured ≡ captures_secret dictionary redaction.ids (first ++ (second ++ []))
    → first ≡ own → second ≡ old → IsRedactionOf dictionary (own ++ old) hiding redaction
of_two dictionary first second own old hiding redaction d s ids captured is_own is_old =
    moved dictionary (first ++ (second ++ [])) (own ++ old) hiding redaction d s ids captured
    (ap (λ (ss : List Statement). first ++ ss) (append-nil second ∙ is_old) ∙ ap (λ (ss : List Statement). ss ++ old) is_own)
