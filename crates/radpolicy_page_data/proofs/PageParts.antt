-- The parts of a page, by the names of the code.
use Rattle.std.proofs.Common.{◌≡◌, ◌∙◌, ℕ, ◌-◌, List, [], ◌++◌, length, sym, ap, subst, append-nil}
use Rattle.avp_lists.specs.declared.lists.State.{State}
use Rattle.avp_dict.specs.Dictionary.{Dictionary}
use Rattle.avp_step.specs.Walk.{Walk, walk_from}
use Rattle.avp_unlang.specs.declared.tree.Statement.{Statement}
use Rattle.radpolicy.specs.Starts.{Start, entry_of}
use Rattle.radpolicy.specs.declared.run_outcomes.Reply.{Reply}
use Rattle.radpolicy_common.specs.declared.redactions.Hiding.{Hiding}
use Rattle.radpolicy_page_data.specs.Differences.{lists_at}
use Rattle.radpolicy_page_data.specs.Embedding.{embedded, markup_text}
use Rattle.radpolicy_page_data.specs.Packets.{reply_text}
use Rattle.radpolicy_page_data.specs.Pages.{ArePositionsTooLarge, IsPage, IsRedactionOf, data_text, last_lists, lists_text, trace_from}
use Rattle.radpolicy_page_data.specs.Positions.{ArePositions, IsTooLarge}
use Rattle.radpolicy_common.specs.Secrets.{AreSecret, Redaction, captures_secret}
use Rattle.radpolicy_page_data.specs.declared.pages.Page.{Page}

module _ (start : Start) (hiding : Hiding) (redaction : Redaction) (dictionary : Dictionary) (statements : List Statement) (w : Walk) where
  redacts : redaction.dictionary ≡ dictionary → redaction.secrets ≡ hiding.secrets → AreSecret dictionary hiding.given.now (statements ++ []) redaction.ids → redaction.captured ≡ captures_secret dictionary redaction.ids (statements ++ []) → dictionary ≡ start.prepared.dictionary → statements ≡ start.prepared.statements → IsRedactionOf start hiding redaction
  redacts d s ids captured is_dictionary is_statements = record {
    dictionary = d ∙ is_dictionary;
    secrets = s;
    ids = subst (λ (x : Dictionary). AreSecret x hiding.given.now start.prepared.statements redaction.ids) is_dictionary
        (subst (λ (ss : List Statement). AreSecret dictionary hiding.given.now ss redaction.ids) (append-nil statements ∙ is_statements) ids);
    captured = captured ∙ ap (λ (ss : List Statement). captures_secret dictionary redaction.ids ss) (append-nil statements ∙ is_statements)
        ∙ ap (λ (x : Dictionary). captures_secret x redaction.ids start.prepared.statements) is_dictionary;
  }

  pub too_large : redaction.dictionary ≡ dictionary → redaction.secrets ≡ hiding.secrets → AreSecret dictionary hiding.given.now (statements ++ []) redaction.ids → redaction.captured ≡ captures_secret dictionary redaction.ids (statements ++ []) → dictionary ≡ start.prepared.dictionary → statements ≡ start.prepared.statements
      → w ≡ walk_from start.prepared.dictionary start.prepared.statements (entry_of start) → IsTooLarge redaction w.trace → ArePositionsTooLarge start hiding
  too_large d s ids captured is_dictionary is_statements walk large =
      (redaction, redacts d s ids captured is_dictionary is_statements, subst (λ (v : Walk). IsTooLarge redaction v.trace) walk large)

  pub page_is : (policy told positions : List ℕ) (reply : Reply) (lists : State) (page : Page)
      → redaction.dictionary ≡ dictionary → redaction.secrets ≡ hiding.secrets → AreSecret dictionary hiding.given.now (statements ++ []) redaction.ids → redaction.captured ≡ captures_secret dictionary redaction.ids (statements ++ []) → dictionary ≡ start.prepared.dictionary → statements ≡ start.prepared.statements
      → w ≡ walk_from start.prepared.dictionary start.prepared.statements (entry_of start) → ArePositions redaction w.trace (length w.trace) told → lists ≡ lists_at w.trace (length w.trace - 1) → positions ≡ told
      → page.run.items ≡ embedded (data_text redaction policy positions (reply_text redaction lists.reply reply)) → page.lists.items ≡ markup_text (lists_text redaction lists) → IsPage start hiding policy reply page
  page_is policy told positions reply lists page d s ids captured is_dictionary is_statements walk are is_lists is_positions run shown =
      let last : lists ≡ last_lists (trace_from start) = is_lists ∙ ap (λ (v : Walk). lists_at v.trace (length v.trace - 1)) walk in
      record {
        redaction = redaction;
        positions = positions;
        redacts = redacts d s ids captured is_dictionary is_statements;
        are = subst (λ (text : List ℕ). ArePositions redaction (trace_from start) (length (trace_from start)) text) (sym is_positions)
            (subst (λ (v : Walk). ArePositions redaction v.trace (length v.trace) told) walk are);
        run = run ∙ ap (λ (own : State). embedded (data_text redaction policy positions (reply_text redaction own.reply reply))) last;
        lists = shown ∙ ap (λ (own : State). markup_text (lists_text redaction own)) last;
      }
