-- The secret that a job's file holds.
use Rattle.std.specs.Prelude.{ℕ, Bool, nat_lt, if◌then◌else◌, List, [], ◌∷◌, Option, Some, None}
use Rattle.std.specs.List.{before_first, list_all}
use Rattle.avp_dict.specs.Lines.{is_line_end}
use Rattle.radpolicy.specs.declared.jobs.Job.{Job}

-- an octet below a space
abbrev pub is_control : ℕ → Bool
is_control o = nat_lt o 32

-- octets without the controls at their end
unfoldable pub without_last_controls : List ℕ → List ℕ
without_last_controls [] = []
without_last_controls (o ∷ os) =
    if list_all is_control (o ∷ os) then [] else (o ∷ without_last_controls os)

-- a file's first line, without the controls at its end
abbrev pub secret_in : List ℕ → List ℕ
secret_in file = without_last_controls (before_first is_line_end file)

-- a secret of one octet at least
abbrev pub usable_secret : List ℕ → Option (List ℕ)
usable_secret [] = None
usable_secret secret = Some secret

-- Without a file there is no secret; with one it is the file's, which is refused (`None`) if it has no octets.
abbrev pub secret_from : Option (List ℕ) → Option (Option (List ℕ))
secret_from None = Some None
secret_from (Some file) =
    elim (usable_secret (secret_in file)) [ None ↦ None | Some secret ↦ Some (Some secret) ]

abbrev pub secret_for : Job → Option (Option (List ℕ))
secret_for job = secret_from job.secret
