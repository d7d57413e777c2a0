-- Codes, and what they do in the block of the statement that results in them.
use Rattle.std.specs.Prelude.{Bool, true, false}
use Rattle.server_unlang.specs.declared.codes.Action.{Action}
use Rattle.server_unlang.specs.declared.codes.Action.TheVariants.{Return, Priority}
use Rattle.server_unlang.specs.declared.codes.Section.{Section}
use Rattle.server_unlang.specs.declared.codes.Section.TheVariants.{Authorize, PostAuth, Preacct, Accounting}
use Rattle.server_unlang.specs.declared.codes.ServerCode.{ServerCode}
use Rattle.server_unlang.specs.declared.codes.ServerCode.TheVariants as code

-- the code that a section begins with (`default_component_results`, modcall.c)
abbrev pub first_code : Section → ServerCode
first_code Authorize = code.Notfound
first_code PostAuth = code.Noop
first_code Preacct = code.Noop
first_code Accounting = code.Noop

-- what a code does where `notfound` goes on (`defaultactions`, modcall.c)
abbrev pub action_of_access : ServerCode → Action
action_of_access code.Notfound = Priority 1
action_of_access code.Noop = Priority 2
action_of_access code.Ok = Priority 3
action_of_access code.Updated = Priority 4
action_of_access _ = Return

-- and where it ends the block (`defaultactions`, modcall.c)
abbrev pub action_of_accounting : ServerCode → Action
action_of_accounting code.Noop = Priority 1
action_of_accounting code.Ok = Priority 2
action_of_accounting code.Updated = Priority 3
action_of_accounting _ = Return

abbrev pub default_action : Section → ServerCode → Action
default_action Authorize c = action_of_access c
default_action PostAuth c = action_of_access c
default_action Preacct c = action_of_accounting c
default_action Accounting c = action_of_accounting c

-- the codes are the same
abbrev pub is_code : ServerCode → ServerCode → Bool
is_code code.Reject code.Reject = true
is_code code.Fail code.Fail = true
is_code code.Ok code.Ok = true
is_code code.Handled code.Handled = true
is_code code.Invalid code.Invalid = true
is_code code.Userlock code.Userlock = true
is_code code.Notfound code.Notfound = true
is_code code.Noop code.Noop = true
is_code code.Updated code.Updated = true
is_code _ _ = false
