-- The client that is meant so far, and what is read so far.
use Rattle.std.specs.Prelude.{◌≡◌, List, [], ◌∷◌, ◌++◌, Option, None, Some, Result, Ok, Err}
use Rattle.radpolicy_clients.specs.Clients.{Client, before}
use Rattle.radpolicy_clients.specs.declared.faults.ClientFault.{ClientFault}
use Rattle.radpolicy_clients.specs.declared.faults.LineFault.{LineFault}

-- the one that was found and the next one that holds the address: the one of them that is meant
abbrev pub chosen : Option Client → Client → Client
chosen None client = client
chosen (Some found) client = before found (Some client)

-- the one that was found, and the one that is meant by those after it
abbrev pub over : Option Client → Option Client → Option Client
over None other = other
over (Some found) other = Some (before found other)

-- clients before those that are read of later lines
abbrev pub after : List Client → Result (List Client) LineFault → Result (List Client) LineFault
after clients (Ok others) = Ok (clients ++ others)
after clients (Err f) = Err f

-- the client of a line was added, if it has one
abbrev pub IsReadTo : Result (Option Client) ClientFault → List Client → List Client → Type 0
IsReadTo (Ok None) old new = new ≡ old
IsReadTo (Ok (Some client)) old new = new ≡ old ++ client ∷ []
IsReadTo (Err f) old new = ⊥
