-- Clients as lines: an address or a prefix, and a secret.
use Rattle.std.specs.Prelude.{ℕ, ◌+◌, Bool, false, ◌==◌, if◌then◌else◌, List, [], ◌∷◌, filter, Option, None, Some, Result, Ok, Err}
use Rattle.std.specs.List.{slice_split}
use Rattle.avp_dict.specs.Lines.{texts_of}
use Rattle.avp_dict.specs.Words.{is_blank, is_word}
use Rattle.radpolicy_clients.specs.Addresses.{Prefix, prefix_of}
use Rattle.radpolicy_clients.specs.Clients.{Client}
use Rattle.radpolicy_clients.specs.declared.faults.ClientFault.{ClientFault}
use Rattle.radpolicy_clients.specs.declared.faults.LineFault.{LineFault}
use Rattle.radpolicy_clients.specs.declared.faults.ClientFault.TheVariants.{NoSecret, NotAddress, NotTwoWords}

abbrev pub client_of : Prefix → List ℕ → Client
client_of (address, count) secret =
    record { address = address; prefix_length = count; secret = secret }

abbrev pub client_with : Option Prefix → List ℕ → Result (Option Client) ClientFault
client_with None secret = Err NotAddress
client_with (Some prefix) [] = Err NoSecret
client_with (Some prefix) (o ∷ os) = Ok (Some (client_of prefix (o ∷ os)))

-- the word begins a comment
abbrev pub is_comment : List ℕ → Bool
is_comment [] = false
is_comment (o ∷ os) = o == 35

-- the client of a line's words; none where they are none, or a comment
abbrev pub client_of_words : List (List ℕ) → Result (Option Client) ClientFault
client_of_words [] = Ok None
client_of_words (word ∷ words) = if is_comment word then Ok None else two_words word words
  where
    two_words : List ℕ → List (List ℕ) → Result (Option Client) ClientFault
    two_words word (secret ∷ []) = client_with (prefix_of word) secret
    two_words word _ = Err NotTwoWords

abbrev pub client_of_line : List ℕ → Result (Option Client) ClientFault
client_of_line line = client_of_words (filter is_word (slice_split is_blank line))

-- a client before those of the lines after it
abbrev pub with_client : Option Client → Result (List Client) LineFault
    → Result (List Client) LineFault
with_client (Some client) (Ok clients) = Ok (client ∷ clients)
with_client None (Ok clients) = Ok clients
with_client _ (Err f) = Err f

-- the clients of lines, of which the first has this number, or the first fault
abbrev pub clients_from : ℕ → List (List ℕ) → Result (List Client) LineFault
clients_from number [] = Ok []
clients_from number (line ∷ lines) =
    elim (client_of_line line) [
      | Ok client ↦ with_client client (clients_from (number + 1) lines)
      | Err f ↦ Err (record { line = number; fault = f })
    ]

abbrev pub clients_of_lines : List ℕ → Result (List Client) LineFault
clients_of_lines text = clients_from 1 (texts_of text)
