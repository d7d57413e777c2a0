use Rattle.std.proofs.Common.{refl, subst, sym}
use Rattle.radpolicy.specs.declared.plans.Plan.{Plan}
use Rattle.radpolicy.specs.Plans.{Asked, Rules}
use Rattle.radpolicy.proofs.WordPlans.{same_asked}
use Rattle.radpolicy.proofs.command_line.plan_of.Goals as goal

pub returns-then-keeps_rules-clause-plan : goal.returns-then-keeps_rules-clause-plan
returns-then-keeps_rules-clause-plan c = record {
  command = refl;
  form = c.in_ok-form.ensures.form;
  identifier = c.in_ok-identifier.ensures.identifier;
  authenticator = c.in_ok-authenticator.ensures.octets;
  dictionaries = c.in_ok-dictionaries.ensures.files;
  request = sym c.text_in.ensures;
  policy = sym c.text_in-2.ensures;
  secret = sym c.text_in-3.ensures;
  script = sym c.text_in-4.ensures;
}

pub returns-clause-refused : goal.returns-clause-refused
returns-clause-refused c = λ _. (
  refl,
  λ other says sound.
      let plan : Plan = record {
        command = c.args.command;
        form = c.in_ok-form.form;
        identifier = c.in_ok-identifier.identifier;
        authenticator = c.in_ok-authenticator.authenticator;
        dictionaries = c.in_ok-dictionaries.dictionaries;
        request = c.text_in.result;
        policy = c.text_in-2.result;
        secret = c.text_in-3.result;
        script = c.text_in-4.result;
      } in
      let same = same_asked c.args.command _ other plan says (record {
        command = refl;
        form = c.in_ok-form.ensures.form;
        identifier = c.in_ok-identifier.ensures.identifier;
        authenticator = c.in_ok-authenticator.ensures.octets;
        dictionaries = c.in_ok-dictionaries.ensures.files;
        request = sym c.text_in.ensures;
        policy = sym c.text_in-2.ensures;
        secret = sym c.text_in-3.ensures;
        script = sym c.text_in-4.ensures;
      }) in
      c.keeps_rules.ensures.broken c.if-keeps_rules.false (subst (λ (asked : Asked). Rules asked.command asked) same sound.rules),
)
