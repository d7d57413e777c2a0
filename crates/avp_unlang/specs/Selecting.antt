-- Which instances a name of a policy means.
use Rattle.std.specs.Prelude.{ℕ, Option, Some, None}
use Rattle.std.specs.Option.{option_and_then}
use Rattle.avp_lists.specs.declared.edits.Op.{Op}
use Rattle.avp_lists.specs.declared.edits.Op.TheVariants.{RemoveEqual, KeepEqual}
use Rattle.avp_lists.specs.declared.pairs.AttrId.{AttrId}
use Rattle.avp_lists.specs.declared.tags.Selection.{Selection}
use Rattle.avp_lists.specs.declared.tags.Selection.TheVariants.{All, EachTag, Tag}
use Rattle.avp_lists.specs.declared.tags.Tagging.{Tagging}
use Rattle.avp_lists.specs.declared.tags.Tagging.TheVariants.{Number, Text}
use Rattle.avp_dict.specs.Dictionary.{Dictionary}
use Rattle.avp_dict.specs.Names.{form_of}
use Rattle.avp_dict.specs.declared.forms.Form.{Form}
use Rattle.avp_dict.specs.declared.forms.Form.TheVariants as forms
use Rattle.avp_forms.specs.declared.profiles.Profile.{Profile}
use Rattle.avp_forms.specs.declared.profiles.Profile.TheVariants.{Plain, Wider}
use Rattle.avp_forms.specs.declared.targets.Target.{Target}

-- how octets of a form carry a tag (RFC 2868, section 3)
unfoldable pub tagging_in : Form → Option Tagging
tagging_in forms.TaggedInteger = Some Number
tagging_in forms.TaggedString = Some Text
tagging_in _ = None

unfoldable pub tagging_of : Dictionary → AttrId → Option Tagging
tagging_of dictionary id = option_and_then tagging_in (form_of id dictionary)

abbrev pub selected_by : Option Tagging → Option ℕ → Selection
selected_by (Some tagging) (Some tag) = Tag tagging tag
selected_by _ _ = All

-- what a name refers to: the instances with its tag, or all
unfoldable pub selection_of : Dictionary → Target → Selection
selection_of dictionary target = selected_by (tagging_of dictionary target.named.id) target.tag

-- a name without a tag means all instances; what compares values then looks past their tags
abbrev pub selected_for : Op → Tagging → Option ℕ → Selection
selected_for operation tagging (Some tag) = Tag tagging tag
selected_for RemoveEqual tagging None = EachTag tagging
selected_for KeepEqual tagging None = EachTag tagging
selected_for _ tagging None = All

abbrev pub selected_by_line : Op → Option Tagging → Option ℕ → Selection
selected_by_line operation None tag = All
selected_by_line operation (Some tagging) tag = selected_for operation tagging tag

-- what an update line edits: in a plain policy all instances
unfoldable pub line_selection : Profile → Dictionary → Op → Target → Selection
line_selection Plain dictionary operation target = All
line_selection Wider dictionary operation target =
    selected_by_line operation (tagging_of dictionary target.named.id) target.tag
