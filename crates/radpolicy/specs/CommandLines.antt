-- The commands of radpolicy, and the options and the files of each.
use Rattle.std.specs.Prelude.{◌^◌, ◌-◌, ℕ, true, false, List, [], ◌∷◌, Some, codes}
use Rattle.clap.specs.Words.{App, Rule, Shape, Text, new_app, new_rule}
use Rattle.clap.specs.declared.builder.ArgAction.TheVariants.{Set, SetTrue, Append}

-- an option with one value
abbrev pub valued : Text → Rule
valued id = record (new_rule id) { action = Some Set; value_names = 1 }

abbrev pub with_letter : ℕ → Rule → Rule
with_letter letter rule = record rule { short = Some letter }

abbrev pub with_word : Rule → Rule
with_word rule = record rule { long = Some rule.id }

abbrev pub required : Rule → Rule
required rule = record rule { required = true }

-- an option without a value
abbrev pub flag : Text → Rule
flag id = with_word (record (new_rule id) { action = Some SetTrue })

-- `-f REQUEST`
abbrev pub request_option : Rule
request_option = with_letter 102 (valued (codes "request"))

-- `--policy POLICY`
abbrev pub policy_option : Rule
policy_option = with_word (valued (codes "policy"))

-- `--script SCRIPT`
abbrev pub script_option : Rule
script_option = with_word (valued (codes "script"))

-- `-S SECRET-FILE`
abbrev pub secret_option : Rule
secret_option = with_letter 83 (valued (codes "secret"))

-- `-i NUMBER`
abbrev pub identifier_option : Rule
identifier_option = with_letter 105 (valued (codes "identifier"))

-- `--authenticator HEX`
abbrev pub authenticator_option : Rule
authenticator_option = with_word (valued (codes "authenticator"))

-- `--hex`
abbrev pub hex_option : Rule
hex_option = flag (codes "hex")

-- `--acct`
abbrev pub accounting_option : Rule
accounting_option = flag (codes "acct")

-- one dictionary file or more, at the end
abbrev pub dictionary_files : Rule
dictionary_files = required (record (new_rule (codes "dictionary")) {
  action = Some Append;
  range = Some (record { start_inclusive = 1; end_inclusive = 2 ^ 64 - 1 });
  value_names = 1;
})

abbrev pub command : Text → List Rule → Shape
command name rules = record (new_app name).top { rules = rules }

abbrev pub run_command : Shape
run_command = command (codes "run") (request_option ∷ hex_option ∷ accounting_option ∷ identifier_option
    ∷ secret_option ∷ authenticator_option ∷ required policy_option ∷ dictionary_files ∷ [])

abbrev pub step_command : Shape
step_command = command (codes "step") (request_option ∷ hex_option ∷ secret_option
    ∷ required policy_option ∷ required script_option ∷ dictionary_files ∷ [])

abbrev pub encode_command : Shape
encode_command = command (codes "encode") (request_option ∷ accounting_option ∷ identifier_option
    ∷ required secret_option ∷ authenticator_option ∷ dictionary_files ∷ [])

abbrev pub decode_command : Shape
decode_command = command (codes "decode") (request_option ∷ required secret_option ∷ dictionary_files ∷ [])

abbrev pub check_command : Shape
check_command = command (codes "check") (policy_option ∷ dictionary_files ∷ [])

-- the whole command line: a command is required
abbrev pub program : App
program = record {
  top = record (new_app (codes "radpolicy")).top {
    is_leaf = false;
    subcommand_required = true;
    disable_help_subcommand = true;
  };
  subs = run_command ∷ step_command ∷ encode_command ∷ decode_command ∷ check_command ∷ [];
}
