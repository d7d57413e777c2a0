-- The update lines of a policy as the code gathers them, and those that give a secret value to another attribute.
use Rattle.std.specs.Prelude.{ℕ, ◌+◌, Bool, not, ◌&&◌, if◌then◌else◌, List, [], ◌∷◌, map, Option, None, Some}
use Rattle.std.specs.Borrow.{Bor}
use Rattle.std.specs.List.{list_any}
use Rattle.avp_lists.specs.declared.pairs.AttrId.{AttrId}
use Rattle.avp_dict.specs.Dictionary.{Dictionary}
use Rattle.avp_unlang.specs.declared.tree.Line.{Line}
use Rattle.avp_unlang.specs.declared.tree.Statement.{Statement}
use Rattle.radpolicy_common.specs.Secrets.{is_among, lines_of, matched_of, source_takes}

-- lines without where they lie in memory
abbrev pub lines_behind : List (Bor Line) → List Line
lines_behind refs = map (λ line. line.now) refs

abbrev pub lines_if_given : Option (List Statement) → List Line
lines_if_given None = []
lines_if_given (Some block) = lines_of block

abbrev pub matched_if_given : Option (List Statement) → List AttrId
matched_if_given None = []
matched_if_given (Some block) = matched_of block

-- a line gives a secret value to an attribute that is not among the secret ones; what was captured may be secret, or not
abbrev pub is_newly_secret : Dictionary → List AttrId → Bool → Line → Bool
is_newly_secret dictionary ids captured line =
    source_takes (is_among dictionary ids) captured line.source
    && not (is_among dictionary ids line.id)

-- the first attribute to which one of these lines does
abbrev pub first_secret : Dictionary → List AttrId → Bool → List Line → Option AttrId
first_secret dictionary ids captured [] = None
first_secret dictionary ids captured (line ∷ lines) =
    if is_newly_secret dictionary ids captured line then Some line.id
    else first_secret dictionary ids captured lines

-- the same, by the attributes that are compared with patterns
abbrev pub next_secret : Dictionary → List AttrId → List AttrId → List Line → Option AttrId
next_secret dictionary matched ids lines =
    first_secret dictionary ids (list_any (is_among dictionary ids) matched) lines

-- how many of these lines edit attributes that are not among the secret ones
abbrev pub count_unknown : Dictionary → List AttrId → List Line → ℕ
count_unknown dictionary ids [] = 0
count_unknown dictionary ids (line ∷ lines) =
    (if is_among dictionary ids line.id then 0 else 1) + count_unknown dictionary ids lines
