-- What the words of a command line ask for.
use Rattle.std.specs.Prelude.{◌≡◌, ◌≢◌, ◌<◌, ◌^◌, ℕ, Bool, true, false, List, [], Option, Some, None, Ok, codes, map, option_map, slice_index}
use Rattle.std.specs.Str.{bytes_eq}
use Rattle.std.specs.Option.{option_map_or}
use Rattle.std.specs.Str.Parse.{IsNumeral, digits_value}
use Rattle.hex.specs.Hex.{decode_sized}
use Rattle.clap.specs.Words.{Row, Text, all_of, fault_of, first_of, subcommand_of}
use Rattle.radpolicy.specs.CommandLines.{program}
use Rattle.radpolicy.specs.Plans.{IsSound, asked_by_plan}
use Rattle.radpolicy.specs.declared.jobs.Command.{Command}
use Rattle.radpolicy.specs.declared.jobs.Command.TheVariants.{Run, Step, Encode, Decode, Check}
use Rattle.radpolicy.specs.declared.jobs.Form.{Form}
use Rattle.radpolicy.specs.declared.jobs.Form.TheVariants.{Hex, Access, Accounting}
use Rattle.radpolicy.specs.declared.plans.Plan.{Plan}

abbrev pub command_name : Command → Text
command_name Run = codes "run"
command_name Step = codes "step"
command_name Encode = codes "encode"
command_name Decode = codes "decode"
command_name Check = codes "check"

-- an option without a value was given: clap has the text `true` for it then, and `false` where it was not
abbrev pub is_given : Text → List Row → Bool
is_given id rows = option_map_or (λ text. bytes_eq text (codes "true")) (first_of id rows) false

-- how the request is given, by `--hex` and `--acct`, of which one at most is given; `decode` has a packet
abbrev pub form_of : Command → Bool → Bool → Option Form
form_of Decode _ _ = Some Hex
form_of _ true true = None
form_of _ true false = Some Hex
form_of _ false true = Some Accounting
form_of _ false false = Some Access

-- decimal digits alone, of a number of 0 to 255
abbrev pub IsNumberWord : Text → ℕ → Type 0
IsNumberWord word number = (slice_index word 0 ≢ 43) × IsNumeral 10 word
    × (digits_value 10 word < 2 ^ 8) × (number ≡ digits_value 10 word)

-- the Identifier that `-i` gives, and 0 without it; a packet in hexadecimal digits has its own
abbrev pub IsIdentifierOf : Form → Option Text → ℕ → Type 0
IsIdentifierOf form None identifier = identifier ≡ 0
IsIdentifierOf form (Some word) identifier = (form ≢ Hex) × IsNumberWord word identifier

-- the Request Authenticator that `--authenticator` gives: 16 octets in hexadecimal digits
abbrev pub IsAuthenticatorOf : Option Text → Option (List ℕ) → Type 0
IsAuthenticatorOf None authenticator = authenticator ≡ None
IsAuthenticatorOf (Some word) authenticator =
    (octets : List ℕ) × (decode_sized word 16 ≡ Ok octets) × (authenticator ≡ Some octets)

-- this plan has what was found for the command's options and files
pub record IsPlanOfRows (asked : Command) (rows : List Row) (plan : Plan) : Type 0 where
  pub command : plan.command ≡ asked
  pub form : form_of asked (is_given (codes "hex") rows) (is_given (codes "acct") rows)
      ≡ Some plan.form
  pub identifier : IsIdentifierOf plan.form (first_of (codes "identifier") rows) plan.identifier
  pub authenticator :
      IsAuthenticatorOf (first_of (codes "authenticator") rows) plan.authenticator
  pub dictionaries :
      all_of (codes "dictionary") rows ≡ Some (map (λ path. path.now) plan.dictionaries.items)
  pub request : first_of (codes "request") rows ≡ option_map (λ path. path.now) plan.request
  pub policy : first_of (codes "policy") rows ≡ option_map (λ path. path.now) plan.policy
  pub secret : first_of (codes "secret") rows ≡ option_map (λ path. path.now) plan.secret
  pub script : first_of (codes "script") rows ≡ option_map (λ path. path.now) plan.script

-- no sound plan is what was found
abbrev pub RowsHaveNoPlan : Command → List Row → Type 0
RowsHaveNoPlan command rows = (plan : Plan) → IsPlanOfRows command rows plan → IsSound (asked_by_plan plan) → ⊥

-- nothing is wrong with the words, which name this command, and this is found for its options and files
pub record NameCommand (words : List Text) (command : Command) (rows : List Row) : Type 0 where
  pub right : fault_of program words ≡ []
  pub found : subcommand_of program words ≡ Some (command_name command, rows)

-- what the words ask for
abbrev pub IsPlanOfWords : List Text → Plan → Type 0
IsPlanOfWords words plan =
    (rows : List Row) × NameCommand words plan.command rows × IsPlanOfRows plan.command rows plan

-- something is wrong with the words, or they name no command
abbrev pub NameNoCommand : List Text → Type 0
NameNoCommand words = (command : Command) (rows : List Row) → NameCommand words command rows → ⊥

-- the words name a command, and its options or files do not go together, or one cannot be read
abbrev pub WordsHaveNoPlan : List Text → Type 0
WordsHaveNoPlan words = (command : Command) × (rows : List Row)
    × NameCommand words command rows × RowsHaveNoPlan command rows
