use Rattle.std.proofs.Common.{inl, inr}
use Rattle.std.proofs.lemmas.Result.{err_from_is_err_and}
use Rattle.radpolicy_page_data.proofs.PageParts.{page_is, too_large}
use Rattle.radpolicy_page_data.proofs.pages.page_of.Goals as goal

pub returns-in_err-told-clause-refused : goal.returns-in_err-told-clause-refused
returns-in_err-told-clause-refused c =
    let p = err_from_is_err_and c.from_residual-in_err-told.result c.from_residual-in_err-told.ensures.1 in
    rw (p.1, p.2) (λ e. inl (too_large c.args.start c.args.hiding c.in_ok-redaction.redaction c.dictionary.result.now c.policy.result.now c.in_ok-stepper.stepper c.in_ok-redaction.ensures.dictionary c.in_ok-redaction.ensures.secrets c.in_ok-redaction.ensures.ids c.in_ok-redaction.ensures.captured c.dictionary.ensures c.policy.ensures c.in_ok-stepper.ensures.start (c.in_err-told.ensures.large e)))

pub returns-clause-page : goal.returns-clause-page
returns-clause-page c =
    page_is c.args.start c.args.hiding c.in_ok-redaction.redaction c.dictionary.result.now c.policy.result.now c.in_ok-stepper.stepper c.args.policy.now c.in_ok-told.told.0.items c.deref.result.now c.args.reply.now c.in_ok-told.told.1 c.in_ok-page.page
    c.in_ok-redaction.ensures.dictionary c.in_ok-redaction.ensures.secrets c.in_ok-redaction.ensures.ids c.in_ok-redaction.ensures.captured c.dictionary.ensures c.policy.ensures c.in_ok-stepper.ensures.start c.in_ok-told.ensures.text c.in_ok-told.ensures.lists c.deref.ensures.value c.in_ok-page.ensures.run c.in_ok-page.ensures.lists

pub returns-then-is_too_large-clause-refused : goal.returns-then-is_too_large-clause-refused
returns-then-is_too_large-clause-refused c = λ _. inr (
  c.in_ok-page.page,
  page_is c.args.start c.args.hiding c.in_ok-redaction.redaction c.dictionary.result.now c.policy.result.now c.in_ok-stepper.stepper c.args.policy.now c.in_ok-told.told.0.items c.deref.result.now c.args.reply.now c.in_ok-told.told.1 c.in_ok-page.page
      c.in_ok-redaction.ensures.dictionary c.in_ok-redaction.ensures.secrets c.in_ok-redaction.ensures.ids c.in_ok-redaction.ensures.captured c.dictionary.ensures c.policy.ensures c.in_ok-stepper.ensures.start c.in_ok-told.ensures.text c.in_ok-told.ensures.lists c.deref.ensures.value c.in_ok-page.ensures.run c.in_ok-page.ensures.lists,
  c.is_too_large.ensures.large c.if-is_too_large.true,
)

pub returns-in_err-page-clause-refused : goal.returns-in_err-page-clause-refused
returns-in_err-page-clause-refused c =
    let p = err_from_is_err_and c.from_residual-in_err-page.result c.from_residual-in_err-page.ensures.1 in
    rw (p.1, p.2) (λ e. absurd (let bad = e in cc))
