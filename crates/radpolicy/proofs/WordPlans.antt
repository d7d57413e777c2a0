-- What was found for a command's options and files says one plan at most.
use Rattle.std.proofs.Common.{◌≡◌, ◌∙◌, ap, sym, refl, List, [], ◌∷◌, Option, Some, None, map, ℕ}
use Rattle.std.specs.Borrow.{Bor}
use Rattle.std.specs.Option.{option_map}
use Rattle.std.specs.Prelude.{is_some}
use Rattle.clap.specs.Words.{Row, Text}
use Rattle.avp_dict.specs.Lines.{last_component}
use Rattle.radpolicy.specs.declared.jobs.Command.{Command}
use Rattle.radpolicy.specs.declared.jobs.Form.{Form}
use Rattle.radpolicy.specs.declared.plans.Plan.{Plan}
use Rattle.radpolicy.specs.Plans.{asked_by_plan, names_of_paths}
use Rattle.radpolicy.specs.WordPlans.{IsAuthenticatorOf, IsIdentifierOf, IsPlanOfRows}

-- the names of paths are those of their texts
names_by_texts : (paths : List (Bor (List ℕ))) → names_of_paths paths ≡ map last_component (map (λ path. path.now) paths)
names_by_texts [] = refl
names_by_texts (path ∷ paths) = ap (λ names. last_component path.now ∷ names) (names_by_texts paths)

pub same_some : {X : Type 0} (a b : X) → Some a ≡ Some b → a ≡ b
same_some a b same = cc

pub same_names_by_texts : (paths others : List (Bor (List ℕ))) → map (λ path. path.now) paths ≡ map (λ path. path.now) others → names_of_paths paths ≡ names_of_paths others
same_names_by_texts paths others same = names_by_texts paths ∙ ap (map last_component) same ∙ sym (names_by_texts others)

is_some_of_text : (path : Option (Bor (List ℕ))) → is_some (option_map (λ path. path.now) path) ≡ is_some path
is_some_of_text None = refl
is_some_of_text (Some path) = refl

same_presence : (word : Option Text) (a b : Option (Bor (List ℕ))) → word ≡ option_map (λ path. path.now) a → word ≡ option_map (λ path. path.now) b → is_some a ≡ is_some b
same_presence word a b of_a of_b = sym (is_some_of_text a) ∙ ap is_some (sym of_a ∙ of_b) ∙ is_some_of_text b

same_identifier : (word : Option Text) (form other : Form) (a b : ℕ) → IsIdentifierOf form word a → IsIdentifierOf other word b → a ≡ b
same_identifier None form other a b of_a of_b = of_a ∙ sym of_b
same_identifier (Some word) form other a b (_, (_, _, _, is)) (_, (_, _, _, is_too)) = is ∙ sym is_too

same_authenticator : (word : Option Text) (a b : Option (List ℕ)) → IsAuthenticatorOf word a → IsAuthenticatorOf word b → is_some a ≡ is_some b
same_authenticator None a b of_a of_b = ap is_some (of_a ∙ sym of_b)
same_authenticator (Some word) a b (octets, _, is) (others, _, is_too) = ap is_some is ∙ sym (ap is_some is_too)

module _ (asked : Command) (rows : List Row) (p q : Plan) (by : IsPlanOfRows asked rows p) (by_too : IsPlanOfRows asked rows q) where
  same_names : names_of_paths p.dictionaries.items ≡ names_of_paths q.dictionaries.items
  same_names = same_names_by_texts p.dictionaries.items q.dictionaries.items (same_some _ _ (sym by.dictionaries ∙ by_too.dictionaries))

  -- both ask for the same
  pub same_asked : asked_by_plan p ≡ asked_by_plan q
  same_asked =
      let command : p.command ≡ q.command = by.command ∙ sym by_too.command in
      let form : p.form ≡ q.form = same_some _ _ (sym by.form ∙ by_too.form) in
      let identifier : p.identifier ≡ q.identifier = same_identifier _ p.form q.form _ _ by.identifier by_too.identifier in
      let authenticator : is_some p.authenticator ≡ is_some q.authenticator = same_authenticator _ _ _ by.authenticator by_too.authenticator in
      let secret : is_some p.secret ≡ is_some q.secret = same_presence _ p.secret q.secret by.secret by_too.secret in
      let policy : is_some p.policy ≡ is_some q.policy = same_presence _ p.policy q.policy by.policy by_too.policy in
      let script : is_some p.script ≡ is_some q.script = same_presence _ p.script q.script by.script by_too.script in
      let names = same_names in
      rw (command, form, identifier, authenticator, secret, policy, script, names) refl
