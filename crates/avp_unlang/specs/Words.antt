-- The words of the result codes, each with its letters in lower case.
use Rattle.std.specs.Prelude.{ℕ, List, bytes_eq, codes, Option, Some, None, if◌then◌else◌}
use Rattle.avp_unlang.specs.declared.codes.Code.{Code}
use Rattle.avp_unlang.specs.declared.codes.Code.TheVariants as code

-- the code that a word names
unfoldable pub code_named : List ℕ → Option Code
code_named word =
    if bytes_eq word (codes "ok") then Some code.Ok
    else if bytes_eq word (codes "noop") then Some code.Noop
    else if bytes_eq word (codes "updated") then Some code.Updated
    else if bytes_eq word (codes "fail") then Some code.Fail
    else if bytes_eq word (codes "reject") then Some code.Reject
    else None
