-- What is hidden of a session is what is hidden of the runs of its policy.
use Rattle.std.proofs.Common.{◌≡◌, ◌∙◌, List, [], ◌++◌, ap, subst}
use Rattle.std.proofs.lemmas.List.{append-nil}
use Rattle.avp_dict.specs.Dictionary.{Dictionary}
use Rattle.avp_unlang.specs.declared.tree.Statement.{Statement}
use Rattle.radpolicy_common.specs.declared.redactions.Hiding.{Hiding}
use Rattle.radpolicy_common.specs.Secrets.{AreSecret, IsRedactionOf, Redaction, captures_secret}

pub redacts : (own : Dictionary) (statements : List Statement) (hiding : Hiding) (redaction : Redaction) (dictionary : Dictionary) (policy : List Statement)
    → redaction.dictionary ≡ dictionary → redaction.secrets ≡ hiding.secrets → AreSecret dictionary hiding.given.now (policy ++ []) redaction.ids → redaction.captured ≡ captures_secret dictionary redaction.ids (policy ++ [])
    → dictionary ≡ own → policy ≡ statements → IsRedactionOf own statements hiding redaction
redacts own statements hiding redaction dictionary policy d s ids captured is_dictionary is_policy =
    let is_statements = append-nil policy ∙ is_policy in
    record {
      dictionary = d ∙ is_dictionary;
      secrets = s;
      ids = subst (λ (x : Dictionary). AreSecret x hiding.given.now statements redaction.ids) is_dictionary
          (subst (λ (ss : List Statement). AreSecret dictionary hiding.given.now ss redaction.ids) is_statements ids);
      captured = captured ∙ ap (λ (ss : List Statement). captures_secret dictionary redaction.ids ss) is_statements
          ∙ ap (λ (x : Dictionary). captures_secret x redaction.ids statements) is_dictionary;
    }
