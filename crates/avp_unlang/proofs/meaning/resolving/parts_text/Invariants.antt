use Rattle.std.proofs.Common.{◌≡◌, ◌++◌, List, drop, map}
use Rattle.avp_lists.specs.History.{present}
use Rattle.avp_unlang.specs.Captures.{filled_part}
use Rattle.avp_unlang.specs.Resolutions.{parts_text}
use Rattle.avp_unlang.specs.declared.tree.Part.{Part}
use Rattle.avp_unlang.proofs.meaning.resolving.parts_text.Given as goal

abbrev pub invariant-loop-part : goal.invariant-loop-part
invariant-loop-part g l =
    let state = present (g.S.Store.history l.store) in
    let fill : List Part → List Part = map (filled_part l.captured.captures) in
    l.text.items ++ parts_text l.dictionary state (fill (drop l.part-index l.parts)) ≡ parts_text l.dictionary state (fill l.parts)
