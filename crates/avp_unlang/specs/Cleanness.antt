-- Which policies keep reply lists clean.
use Rattle.std.specs.Prelude.{◌≡◌, IsTrue, true, List}
use Rattle.std.specs.List.{All}
use Rattle.avp_lists.specs.declared.lists.State.{State}
use Rattle.avp_dict.specs.Limits.{fits}
use Rattle.avp_dict.specs.Sent.{is_clean}
use Rattle.avp_dict.specs.Dictionary.{Dictionary}
use Rattle.avp_unlang.specs.Meaning.{meaning_of}
use Rattle.avp_unlang.specs.declared.codes.Code.{Code}
use Rattle.avp_unlang.specs.declared.tree.Statement.{Statement}

-- of a clean reply list the statements make a clean one, where its pairs fit
abbrev pub KeepsReplyClean : Dictionary → List Statement → Type 0
KeepsReplyClean dictionary statements =
    (s : State) (code : Code)
    → is_clean s.reply dictionary ≡ true
    → All (λ pair. IsTrue (fits pair dictionary))
    (meaning_of dictionary statements s code).state.reply
    → is_clean (meaning_of dictionary statements s code).state.reply dictionary ≡ true
