-- Which names of a server's text are of secret attributes, and which statements speak of them.
use Rattle.std.specs.Prelude.{ℕ, Bool, true, false, ◌||◌, ◌&&◌, ◌==◌, nat_eq, List, Vec, Option, Some, None}
use Rattle.std.specs.List.{list_any}
use Rattle.std.specs.declared.alloc.Global.{Global}
use Rattle.avp_dict.specs.Names.{named}
use Rattle.avp_dict.specs.Words.{same_name}
use Rattle.avp_dict.specs.declared.entries.Named.{Named}
use Rattle.radpolicy_common.specs.SecretAttributes.{is_secret_name}
use Rattle.radpolicy_common.specs.Secrets.{Redaction, is_among}
use Rattle.server_configuration.specs.declared.items.Quote.TheVariants.{Back, Bare, Double, Single}
use Rattle.server_configuration.specs.declared.items.Quote.{Quote}
use Rattle.server_configuration.specs.declared.items.Text.{Text}
use Rattle.radpolicy_import_texts.specs.Words.{words_of}

-- the secret attributes of a configuration: those of the redaction, and the names of those to which their values are
-- given; whether what was captured may be secret; and whether there are too many of them to tell
pub record Secrets : Type 0 where
  pub redaction : Redaction
  pub copies : List (Vec ℕ Global)
  pub holds : Bool
  pub all : Bool

-- by the dictionary, or, where it doesn't have the name, by the name
abbrev pub is_secret_entry : Redaction → List ℕ → Option Named → Bool
is_secret_entry redaction name (Some entry) = is_among redaction.dictionary redaction.ids entry.id
is_secret_entry redaction name None = is_secret_name name

abbrev pub is_copy : List (Vec ℕ Global) → List ℕ → Bool
is_copy copies name = list_any (λ copy. same_name copy.items name) copies

abbrev pub is_secret : Secrets → List ℕ → Bool
is_secret s name =
    is_copy s.copies name || is_secret_entry s.redaction name (named name s.redaction.dictionary)

-- one of its words is the name of a secret attribute
abbrev pub names_secret : Secrets → List ℕ → Bool
names_secret s text = list_any (is_secret s) (words_of text)

-- and it has a `=`
abbrev pub assigns_secret : Secrets → List ℕ → Bool
assigns_secret s text = list_any (nat_eq 61) text && names_secret s text
