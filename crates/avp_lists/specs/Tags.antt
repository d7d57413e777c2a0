-- Tags: the first octet of a tunnel attribute's value groups it with others (RFC 2868, section 3), and an edit or a
-- look-up may mean the instances with one tag alone.
use Rattle.std.specs.Prelude.{ℕ, Bool, false, ◌&&◌, ◌==◌, nat_le, if◌then◌else◌, List, [], ◌∷◌, Option, None, Some, bytes_eq}
use Rattle.std.specs.Option.{is_some}
use Rattle.avp_lists.specs.declared.pairs.AttrId.{AttrId}
use Rattle.avp_lists.specs.declared.pairs.Value.{Value}
use Rattle.avp_lists.specs.declared.pairs.Value.TheVariants.{Bytes}
use Rattle.avp_lists.specs.declared.pairs.Pair.{Pair}
use Rattle.avp_lists.specs.declared.tags.Selection.{Selection}
use Rattle.avp_lists.specs.declared.tags.Selection.TheVariants.{All, EachTag, Tag}
use Rattle.avp_lists.specs.declared.tags.Tagging.{Tagging}
use Rattle.avp_lists.specs.declared.tags.Tagging.TheVariants.{Number, Text}
use Rattle.avp_lists.specs.Instances.{has_id}
use Rattle.avp_lists.specs.Pairs.{pair_eq, value_eq}

-- the greatest tag
abbrev pub max_tag : ℕ
max_tag = 31

-- a tag and a number of three octets (section 3.1); other octets have no tag
abbrev pub number_tag : List ℕ → Option ℕ
number_tag (tag ∷ a ∷ b ∷ c ∷ []) = if nat_le tag max_tag then Some tag else None
number_tag _ = None

-- the octets beside that tag; without a tag all
abbrev pub beside_number_tag : List ℕ → List ℕ
beside_number_tag (tag ∷ a ∷ b ∷ c ∷ []) =
    if nat_le tag max_tag then a ∷ b ∷ c ∷ [] else tag ∷ a ∷ b ∷ c ∷ []
beside_number_tag octets = octets

-- a tag and a text, or a text alone, whose tag is 0 (section 3.3)
abbrev pub text_tag : List ℕ → ℕ
text_tag [] = 0
text_tag (tag ∷ text) = if nat_le tag max_tag then tag else 0

abbrev pub beside_text_tag : List ℕ → List ℕ
beside_text_tag [] = []
beside_text_tag (tag ∷ text) = if nat_le tag max_tag then text else tag ∷ text

-- the tag of a value; one that is not octets has none
abbrev pub tag_of : Tagging → Value → Option ℕ
tag_of Number (Bytes octets) = number_tag octets
tag_of Text (Bytes octets) = Some (text_tag octets)
tag_of _ _ = None

-- the octets beside its tag
abbrev pub beside_tag : Tagging → Value → List ℕ
beside_tag Number (Bytes octets) = beside_number_tag octets
beside_tag Text (Bytes octets) = beside_text_tag octets
beside_tag _ _ = []

-- the tag is n
abbrev pub is_tag : ℕ → Option ℕ → Bool
is_tag n (Some tag) = tag == n
is_tag n None = false

-- the pair is one of those that are meant by the id
abbrev pub is_selected : Selection → AttrId → Pair → Bool
is_selected All id q = has_id id q
is_selected (EachTag tagging) id q = has_id id q
is_selected (Tag tagging n) id q = has_id id q && is_tag n (tag_of tagging q.value)

-- a value with a tag is the same as another with a tag and the same octets beside it; one without a tag is the same as
-- an equal one
abbrev pub same_beside : Tagging → Value → Value → Bool
same_beside tagging x y =
    if is_some (tag_of tagging x)
    then is_some (tag_of tagging y) && bytes_eq (beside_tag tagging x) (beside_tag tagging y)
    else value_eq x y

-- q is one of those that are meant by p's id, and has p's value: its octets, or what is beside its tag
abbrev pub is_same : Selection → Pair → Pair → Bool
is_same All q p = pair_eq q p
is_same (EachTag tagging) q p =
    is_selected (EachTag tagging) p.id q && same_beside tagging q.value p.value
is_same (Tag tagging n) q p =
    is_selected (Tag tagging n) p.id q && same_beside tagging q.value p.value
