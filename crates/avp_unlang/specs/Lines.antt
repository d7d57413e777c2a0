-- The lines of an `update`: a target, an operator and a source.
use Rattle.std.specs.Prelude.{◌≡◌, ℕ, Bool, true, false, List, Option, Some, None}
use Rattle.avp_lists.specs.declared.edits.Op.{Op}
use Rattle.avp_lists.specs.declared.edits.Op.TheVariants as op
use Rattle.avp_lists.specs.declared.lists.List.{List as Name}
use Rattle.avp_dict.specs.Dictionary.{Dictionary}
use Rattle.avp_lists.specs.declared.tags.Selection.{Selection}
use Rattle.avp_forms.specs.declared.profiles.Profile.{Profile}
use Rattle.avp_unlang.specs.declared.text.references.Reference.{Reference}
use Rattle.avp_unlang.specs.declared.text.tokens.Sign.TheVariants as sign
use Rattle.avp_unlang.specs.declared.text.tokens.Token.{Token}
use Rattle.avp_unlang.specs.declared.text.tokens.Token.TheVariants.{Operator, Word}
use Rattle.avp_unlang.specs.declared.tree.Line.{Line}
use Rattle.avp_unlang.specs.declared.tree.Source.{Source}
use Rattle.avp_unlang.specs.Forms.{Form, Gives, ◌>>◌, ◌>>=◌}
use Rattle.avp_unlang.specs.Places.{Place}
use Rattle.avp_unlang.specs.References.{reference_in}
use Rattle.avp_unlang.specs.Selecting.{line_selection}
use Rattle.avp_unlang.specs.Sources.{SourceIs}
use Rattle.avp_unlang.specs.Between.{Counts, Follows}
use Rattle.avp_unlang.specs.Tokens.{next_token}

-- the place after an `&`, if there is one
abbrev pub after_reference_from : Place → Token × Place → Place
after_reference_from p (Operator sign.Reference, rest) = rest
after_reference_from p _ = p

unfoldable pub after_reference : Place → Place
after_reference p = after_reference_from p (next_token p)

-- a target, with `&` or without: its list and what its name stands for
abbrev pub TargetIs : Profile → Dictionary → Name → Form Place Reference
TargetIs profile dictionary own p target rest =
    (word : List ℕ) × Follows (Word word) (after_reference p) rest
    × (reference_in profile dictionary own word ≡ Some target)

-- the edit that an operator stands for
unfoldable pub op_of : Token → Option Op
op_of (Operator sign.AddNew) = Some op.AddNew
op_of (Operator sign.Replace) = Some op.Replace
op_of (Operator sign.Append) = Some op.Append
op_of (Operator sign.Prepend) = Some op.Prepend
op_of (Operator sign.RemoveEqual) = Some op.RemoveEqual
op_of (Operator sign.Equal) = Some op.KeepEqual
op_of (Operator sign.RemoveAll) = Some op.RemoveAll
op_of _ = None

abbrev pub OpIs : Form Place Op
OpIs p operation rest = (token : Token) × Follows token p rest × (op_of token ≡ Some operation)

abbrev pub line_of : ℕ → Reference → Op → Selection → Source → Line
line_of line found operation selection source =
    record {
      line = line;
      list = found.list;
      id = found.target.named.id;
      op = operation;
      selection = selection;
      source = source;
    }

-- an update line whose first token is on line n of the text; it adds one to the size
abbrev pub LineOn : Profile → Dictionary → Name → ℕ → Form Place Line
LineOn profile dictionary own n = do
  Counts 1
  found ← TargetIs profile dictionary own
  operation ← OpIs
  source ← SourceIs profile dictionary operation found.target
  Gives
      (line_of n found operation (line_selection profile dictionary operation found.target) source)

abbrev pub LineIs : Profile → Dictionary → Name → Form Place Line
LineIs profile dictionary own p line rest =
    LineOn profile dictionary own (next_token p).1.line p line rest

-- an update line begins with `&` or a word
abbrev pub is_line_start : Token → Bool
is_line_start (Operator sign.Reference) = true
is_line_start (Word word) = true
is_line_start _ = false

abbrev pub begins_line : Place → Bool
begins_line p = is_line_start (next_token p).0
