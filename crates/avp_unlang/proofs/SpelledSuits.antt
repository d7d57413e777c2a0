-- A policy that was read suits the dictionary, if names stand for known ids.
use Rattle.std.proofs.Common.{◌≡◌, inl, inr, ℕ, zero, suc, Bool, true, false, not, if◌then◌else◌, ◌&&◌, List, [], ◌∷◌, map, Option, Some, None, refl, sym, ap, ap₂, subst, ◌∙◌}
use Rattle.std.proofs.lemmas.Bool.{and_parts}
use Rattle.std.specs.Option.{option_and_then, option_map}
use Rattle.std.specs.Prelude.{IfSome, codes}
use Rattle.avp_lists.specs.declared.pairs.AttrId.{AttrId}
use Rattle.avp_lists.specs.declared.lists.List.{List as Name}
use Rattle.avp_lists.specs.declared.lists.List.TheVariants as lists
use Rattle.avp_dict.specs.Dictionary.{Dictionary}
use Rattle.avp_dict.specs.Soundness.{IsSound}
use Rattle.avp_lists.specs.declared.tags.Selection.{Selection}
use Rattle.avp_forms.specs.Targets.{target_of}
use Rattle.avp_forms.specs.Profiles.{profile_of}
use Rattle.avp_forms.specs.declared.profiles.Profile.TheVariants.{Plain, Wider}
use Rattle.avp_forms.specs.declared.targets.Target.{Target}
use Rattle.avp_forms.specs.declared.profiles.Profile.{Profile}
use Rattle.avp_unlang.specs.declared.codes.Code.{Code}
use Rattle.avp_unlang.specs.declared.text.statements.Keyword.{Keyword}
use Rattle.avp_unlang.specs.declared.text.statements.Keyword.TheVariants as keyword
use Rattle.avp_unlang.specs.declared.text.references.Reference.{Reference}
use Rattle.avp_unlang.specs.declared.text.tokens.Matcher.{Matcher}
use Rattle.avp_unlang.specs.declared.text.tokens.Sign.TheVariants as sign
use Rattle.avp_unlang.specs.declared.text.tokens.Token.{Token}
use Rattle.avp_unlang.specs.declared.text.tokens.Token.TheVariants as token
use Rattle.avp_dict.specs.Quotes.{single_quoted_octets}
use Rattle.avp_dict.specs.declared.value.quotes.QuoteMark.{QuoteMark}
use Rattle.avp_dict.specs.declared.value.quotes.QuoteMark.TheVariants as quote
use Rattle.avp_unlang.specs.declared.text.values.Written.{Written}
use Rattle.avp_unlang.specs.declared.text.values.Written.TheVariants as written
use Rattle.avp_unlang.specs.declared.tree.Branch.{Branch, out-Branch}
use Rattle.avp_unlang.specs.declared.tree.Comparand.{Comparand}
use Rattle.avp_unlang.specs.declared.tree.Comparand.TheVariants as comparand
use Rattle.avp_unlang.specs.declared.tree.Comparison.{Comparison}
use Rattle.avp_unlang.specs.declared.tree.Cond.{Cond}
use Rattle.avp_unlang.specs.declared.tree.Cond.TheFolds.{fold-roll-Cond}
use Rattle.avp_unlang.specs.declared.tree.Cond.TheOpen as open_cond
use Rattle.avp_unlang.specs.declared.tree.Cond.TheVariants.{Any, All, Not, Last, Present, PresentSelected, Compare, CompareMeant, CompareTexts, Match, MatchText, MatchGroup, Captured, rolls-Any, rolls-All, rolls-Not, rolls-Last, rolls-Present, rolls-PresentSelected, rolls-Compare, rolls-CompareMeant, rolls-CompareTexts, rolls-Match, rolls-MatchText, rolls-MatchGroup, rolls-Captured}
use Rattle.avp_unlang.specs.declared.tree.Line.{Line}
use Rattle.avp_unlang.specs.declared.tree.GroupMatching.{GroupMatching}
use Rattle.avp_unlang.specs.declared.tree.Matching.{Matching}
use Rattle.avp_unlang.specs.declared.tree.MeantComparison.{MeantComparison}
use Rattle.avp_unlang.specs.declared.tree.Part.{Part}
use Rattle.avp_unlang.specs.declared.tree.Part.TheVariants as part
use Rattle.avp_unlang.specs.declared.tree.Relation.{Relation}
use Rattle.avp_unlang.specs.declared.tree.TextComparison.{TextComparison}
use Rattle.avp_unlang.specs.declared.tree.TextSide.{TextSide}
use Rattle.avp_unlang.specs.declared.tree.TextSide.TheVariants as side
use Rattle.avp_unlang.specs.declared.tree.Statement.{Statement}
use Rattle.avp_unlang.specs.declared.tree.Statement.TheFolds.{fold-roll-Statement, fold-roll-Branch, fold_out-Branch}
use Rattle.avp_unlang.specs.declared.tree.Statement.TheOpen as layer
use Rattle.avp_unlang.specs.declared.tree.Statement.TheVariants.{Update, If, Transaction, Word, rolls-Update, rolls-If, rolls-Transaction, rolls-Word}
use Rattle.avp_unlang.specs.Conditions.{TextBesideOctets, is_beside_texts, relation_of, plain_octets, ComparandIs, ComparandOf, comparison_of, ComparedFrom, ComparedIs, MatchedOr, QuotedParts, RelatedAs, RelatedBy, RightFrom, RightIs, TextBeside, TextComparedFrom, TextOperand, TextRelated, TextRelatedFrom, TextsBy, WordFrom, group_matching, instance_compared, instance_related, is_by_meaning, is_text_beside, plain_parts, puts_in, reference_alone, side_of, text_comparison, text_match, text_matching, matcher_in, matching_of, meant_comparison, present_of, any_of, all_of, Both, Either, Closed, OperandFrom, Within}
use Rattle.avp_unlang.specs.References.{readable, reference_in, reference_to, target_in, type_of, unless_container}
use Rattle.avp_unlang.specs.Resolutions.{line_suits, literal_fits}
use Rattle.avp_unlang.specs.Suiting.{branch_layer_suits, branches_suit, else_suits, branch_suits, comparand_suits, comparison_suits, cond_layer_suits, cond_suits, itself, part_suits, policy_suits, same_kind, side_suits, statement_layer_suits, statement_suits}
use Rattle.avp_dict.specs.Limits.{is_known}
use Rattle.avp_dict.specs.Sent.{is_container}
use Rattle.avp_dict.specs.declared.entries.Kind.{Kind}
use Rattle.avp_dict.specs.declared.entries.Kind.TheVariants as kinds
use Rattle.std.specs.List.{list_all}
use Rattle.avp_unlang.specs.Forms.{Form, Step, While, Chain}
use Rattle.avp_unlang.specs.Lines.{LineIs, begins_line, line_of}
use Rattle.avp_unlang.specs.Places.{Place, start_of}
use Rattle.avp_unlang.specs.Policies.{SpellsPolicy}
use Rattle.avp_unlang.specs.Selecting.{line_selection, selection_of}
use Rattle.avp_unlang.specs.Sources.{SourceBy, instance_source, is_removal, text_source}
use Rattle.avp_unlang.specs.Statements.{BlockIs, branch_of, BranchIs, Otherwise, StatementFrom, Nested, keyword_in, list_at, begins_word}
use Rattle.avp_unlang.specs.Between.{Follows}
use Rattle.avp_unlang.specs.Parts.{PartIs, group_in, group_named, is_left, part_of}
use Rattle.avp_unlang.specs.Tokens.{next_token}
use Rattle.avp_unlang.specs.Values.{literal}
use Rattle.avp_unlang.specs.Words.{code_named}
use Rattle.avp_unlang.proofs.Determined.{some_is}
use Rattle.avp_forms.proofs.WrittenValues.{known_target}
use Rattle.avp_unlang.proofs.SpelledParts.{Holds, IsWritten, block_holds, chain_holds, literal_is, mapped, value_holds, while_holds, written_holds}

-- ---- lists

abbrev pub Suits : {A : Type 0} → (A → Bool) → Form Place A → Type 0
Suits f = Holds (λ x. f x ≡ true)

pub both_true : (a b : Bool) → a ≡ true → b ≡ true → (a && b) ≡ true
both_true a b e f = ap₂ (λ x y. x && y) e f

pub while_fits : {A : Type 0} (f : A → Bool) (begins : Place → Bool) (form : Form Place A) → Suits f form → Suits (λ xs. list_all f xs) (While begins form)
while_fits f begins form each = while_holds (λ x. f x ≡ true) (λ xs. list_all f xs ≡ true) refl (λ x xs. both_true (f x) (list_all f xs)) form each begins

pub chain_fits : {A : Type 0} (f : A → Bool) (step : Step Place) (form : Form Place A) → Suits f form → Suits (λ xs. list_all f xs) (Chain step form)
chain_fits f step form each = chain_holds (λ x. f x ≡ true) (λ xs. list_all f xs ≡ true) refl (λ x xs. both_true (f x) (list_all f xs)) form each step

pub block_fits : {A : Type 0} (f : A → Bool) (n : ℕ) (begins : Place → Bool) (inner : Form Place A) → Suits f inner → Suits (λ xs. list_all f xs) (BlockIs n begins inner)
block_fits f n begins inner each = block_holds (λ x. f x ≡ true) (λ xs. list_all f xs ≡ true) refl (λ x xs. both_true (f x) (list_all f xs)) inner each n begins

all_itself : {A : Type 0} (f : A → Bool) (xs : List A) → list_all itself (map f xs) ≡ list_all f xs
all_itself f [] = refl
all_itself f (x ∷ xs) = ap (λ b. f x && b) (all_itself f xs)

-- ---- each kind of statement

pub suits_Update : (dictionary : Dictionary) (n : ℕ) (ls : List Line) → statement_suits dictionary (Update n ls) ≡ list_all (line_suits dictionary) ls
suits_Update dictionary n ls = ap (statement_suits dictionary) (sym (rolls-Update n ls)) ∙ fold-roll-Statement Bool Bool (statement_layer_suits dictionary) (branch_layer_suits dictionary) (layer.Update n ls)

pub suits_If : (dictionary : Dictionary) (bs : List Branch) (otherwise : Option (List Statement)) → statement_suits dictionary (If bs otherwise) ≡ (branches_suit dictionary bs && else_suits dictionary otherwise)
suits_If dictionary bs None =
    ap (statement_suits dictionary) (sym (rolls-If bs None)) ∙ fold-roll-Statement Bool Bool (statement_layer_suits dictionary) (branch_layer_suits dictionary) (layer.If bs None)
    ∙ ap (λ b. b && true) (all_itself (branch_suits dictionary) bs)
suits_If dictionary bs (Some block) =
    ap (statement_suits dictionary) (sym (rolls-If bs (Some block))) ∙ fold-roll-Statement Bool Bool (statement_layer_suits dictionary) (branch_layer_suits dictionary) (layer.If bs (Some block))
    ∙ ap (λ b. b && list_all itself (map (statement_suits dictionary) block)) (all_itself (branch_suits dictionary) bs)
    ∙ ap (λ b. branches_suit dictionary bs && b) (all_itself (statement_suits dictionary) block)

pub suits_Transaction : (dictionary : Dictionary) (n : ℕ) (block : List Statement) → statement_suits dictionary (Transaction n block) ≡ policy_suits dictionary block
suits_Transaction dictionary n block =
    ap (statement_suits dictionary) (sym (rolls-Transaction n block)) ∙ fold-roll-Statement Bool Bool (statement_layer_suits dictionary) (branch_layer_suits dictionary) (layer.Transaction n block)
    ∙ all_itself (statement_suits dictionary) block

suits_Word : (dictionary : Dictionary) (n : ℕ) (code : Code) → statement_suits dictionary (Word n code) ≡ true
suits_Word dictionary n code = ap (statement_suits dictionary) (sym (rolls-Word n code)) ∙ fold-roll-Statement Bool Bool (statement_layer_suits dictionary) (branch_layer_suits dictionary) (layer.Word n code)

suits_branch : (dictionary : Dictionary) (n : ℕ) (c : Cond) (block : List Statement) → branch_suits dictionary (branch_of n c block) ≡ (cond_suits dictionary c && policy_suits dictionary block)
suits_branch dictionary n c block =
    fold-roll-Branch Bool Bool (statement_layer_suits dictionary) (branch_layer_suits dictionary) (record { line = n; cond = c; block = block })
    ∙ ap (λ b. cond_suits dictionary c && b) (all_itself (statement_suits dictionary) block)

pub suits_Branch : (dictionary : Dictionary) (b : Branch) → branch_suits dictionary b ≡ (cond_suits dictionary (out-Branch b).cond && policy_suits dictionary (out-Branch b).block)
suits_Branch dictionary b =
    fold_out-Branch Bool Bool (statement_layer_suits dictionary) (branch_layer_suits dictionary) b ∙ ap (λ x. cond_suits dictionary (out-Branch b).cond && x) (all_itself (statement_suits dictionary) (out-Branch b).block)

same_kind_self : (k : Kind) → same_kind k k ≡ true
same_kind_self kinds.Text = refl
same_kind_self kinds.Bytes = refl
same_kind_self kinds.Addr = refl
same_kind_self kinds.Integer = refl
same_kind_self kinds.Date = refl
same_kind_self kinds.Byte = refl
same_kind_self kinds.Short = refl
same_kind_self kinds.Signed = refl
same_kind_self kinds.Integer64 = refl
same_kind_self kinds.Ether = refl

module _ (profile : Profile) (dictionary : Dictionary) (sound : IsSound dictionary) where
  -- ---- update lines

  text_source_fits : (q : Profile) (name : Target) (parts : List Part) → literal_fits dictionary name.named.id (text_source q name parts) ≡ true
  text_source_fits Plain name parts = refl
  text_source_fits Wider name parts = refl

  instance_source_fits : (q : Profile) (name : Target) (found : Reference) → literal_fits dictionary name.named.id (instance_source q dictionary name found) ≡ true
  instance_source_fits Plain name found = refl
  instance_source_fits Wider name found = refl

  source_by_fits : (b : Bool) (name : Target) → Suits (literal_fits dictionary name.named.id) (SourceBy b profile dictionary name)
  source_by_fits true name p s rest h = ap (literal_fits dictionary name.named.id) h.1
  source_by_fits false name p s rest h =
      value_holds profile dictionary name (λ x. literal_fits dictionary name.named.id x ≡ true) (λ text v e. (literal_is profile dictionary name text v e).1) (text_source_fits profile name) (instance_source_fits profile name)
      p s rest h.1

  target_known : (o : Option Target) (t : Target) → IfSome o (λ t. is_known t.named.id dictionary ≡ true) → o ≡ Some t → is_known t.named.id dictionary ≡ true
  target_known o t h e = subst (λ k. IfSome k (λ t. is_known t.named.id dictionary ≡ true)) e h

  reference_by : (o : Option Target) (list : Name) (found : Reference) → option_map (reference_to list) o ≡ Some found → o ≡ Some found.target
  reference_by None list found e = absurd cc
  reference_by (Some t) list found e = ap (λ (r : Reference). Some r.target) (some_is (reference_to list t) found e)

  reference_known : (own : Name) (word : List ℕ) (found : Reference) → reference_in profile dictionary own word ≡ Some found → is_known found.target.named.id dictionary ≡ true
  unfolding reference_in
  reference_known own word found e =
      let name = (target_in own word).1 in
      target_known (target_of profile dictionary name) found.target (known_target dictionary sound profile name) (reference_by (target_of profile dictionary name) (target_in own word).0 found e)

  line_parts : (line : Line) → is_known line.id dictionary ≡ true → literal_fits dictionary line.id line.source ≡ true → line_suits dictionary line ≡ true
  unfolding line_suits
  line_parts line k f = both_true (is_known line.id dictionary) (literal_fits dictionary line.id line.source) k f

  lines_suit : (own : Name) → Suits (line_suits dictionary) (LineIs profile dictionary own)
  lines_suit own p line rest h =
      ap (line_suits dictionary) h.2.3.3.3.0
      ∙ line_parts (line_of (next_token p).1.line h.2.0 h.2.3.0 (line_selection profile dictionary h.2.3.0 h.2.0.target) h.2.3.3.0) (reference_known own h.2.2.0 h.2.0 h.2.2.2)
      (source_by_fits (is_removal h.2.3.0) h.2.0.target h.2.3.1 h.2.3.3.0 h.2.3.3.1 h.2.3.3.2)

  -- ---- conditions

  fits_Any : (cs : List Cond) → cond_suits dictionary (Any cs) ≡ list_all (cond_suits dictionary) cs
  unfolding cond_suits
  fits_Any cs = ap (cond_suits dictionary) (sym (rolls-Any cs)) ∙ fold-roll-Cond Bool (cond_layer_suits dictionary) (open_cond.Any cs) ∙ all_itself (cond_suits dictionary) cs

  fits_All : (cs : List Cond) → cond_suits dictionary (All cs) ≡ list_all (cond_suits dictionary) cs
  unfolding cond_suits
  fits_All cs = ap (cond_suits dictionary) (sym (rolls-All cs)) ∙ fold-roll-Cond Bool (cond_layer_suits dictionary) (open_cond.All cs) ∙ all_itself (cond_suits dictionary) cs

  fits_Not : (c : Cond) → cond_suits dictionary (Not c) ≡ cond_suits dictionary c
  unfolding cond_suits
  fits_Not c = ap (cond_suits dictionary) (sym (rolls-Not c)) ∙ fold-roll-Cond Bool (cond_layer_suits dictionary) (open_cond.Not c)

  fits_Last : (code : Code) → cond_suits dictionary (Last code) ≡ true
  unfolding cond_suits
  fits_Last code = ap (cond_suits dictionary) (sym (rolls-Last code)) ∙ fold-roll-Cond Bool (cond_layer_suits dictionary) (open_cond.Last code)

  fits_Present : (list : Name) (id : AttrId) → cond_suits dictionary (Present list id) ≡ true
  unfolding cond_suits
  fits_Present list id = ap (cond_suits dictionary) (sym (rolls-Present list id)) ∙ fold-roll-Cond Bool (cond_layer_suits dictionary) (open_cond.Present list id)

  fits_PresentSelected : (list : Name) (id : AttrId) (selection : Selection) → cond_suits dictionary (PresentSelected list id selection) ≡ true
  unfolding cond_suits
  fits_PresentSelected list id selection =
      ap (cond_suits dictionary) (sym (rolls-PresentSelected list id selection)) ∙ fold-roll-Cond Bool (cond_layer_suits dictionary) (open_cond.PresentSelected list id selection)

  fits_Match : (x : Matching) → cond_suits dictionary (Match x) ≡ not (is_container x.id)
  unfolding cond_suits
  fits_Match x = ap (cond_suits dictionary) (sym (rolls-Match x)) ∙ fold-roll-Cond Bool (cond_layer_suits dictionary) (open_cond.Match x)

  fits_CompareTexts : (x : TextComparison) → cond_suits dictionary (CompareTexts x) ≡ (side_suits dictionary x.left && list_all part_suits x.right)
  unfolding cond_suits
  fits_CompareTexts x = ap (cond_suits dictionary) (sym (rolls-CompareTexts x)) ∙ fold-roll-Cond Bool (cond_layer_suits dictionary) (open_cond.CompareTexts x)

  fits_MatchText : (x : Matching) → cond_suits dictionary (MatchText x) ≡ not (is_container x.id)
  unfolding cond_suits
  fits_MatchText x = ap (cond_suits dictionary) (sym (rolls-MatchText x)) ∙ fold-roll-Cond Bool (cond_layer_suits dictionary) (open_cond.MatchText x)

  fits_MatchGroup : (x : GroupMatching) → cond_suits dictionary (MatchGroup x) ≡ true
  unfolding cond_suits
  fits_MatchGroup x = ap (cond_suits dictionary) (sym (rolls-MatchGroup x)) ∙ fold-roll-Cond Bool (cond_layer_suits dictionary) (open_cond.MatchGroup x)

  fits_Captured : (group : ℕ) → cond_suits dictionary (Captured group) ≡ true
  unfolding cond_suits
  fits_Captured group = ap (cond_suits dictionary) (sym (rolls-Captured group)) ∙ fold-roll-Cond Bool (cond_layer_suits dictionary) (open_cond.Captured group)

  fits_CompareMeant : (x : MeantComparison) → cond_suits dictionary (CompareMeant x) ≡ true
  unfolding cond_suits
  fits_CompareMeant x = ap (cond_suits dictionary) (sym (rolls-CompareMeant x)) ∙ fold-roll-Cond Bool (cond_layer_suits dictionary) (open_cond.CompareMeant x)

  fits_Compare : (x : Comparison) → cond_suits dictionary (Compare x) ≡ comparison_suits dictionary x
  unfolding cond_suits
  fits_Compare x = ap (cond_suits dictionary) (sym (rolls-Compare x)) ∙ fold-roll-Cond Bool (cond_layer_suits dictionary) (open_cond.Compare x)

  any_fits : (cs : List Cond) → list_all (cond_suits dictionary) cs ≡ true → cond_suits dictionary (any_of cs) ≡ true
  any_fits [] h = fits_Any [] ∙ h
  any_fits (c ∷ []) h = (and_parts (cond_suits dictionary c) true h).0
  any_fits (c ∷ d ∷ cs) h = fits_Any (c ∷ d ∷ cs) ∙ h

  all_fits : (cs : List Cond) → list_all (cond_suits dictionary) cs ≡ true → cond_suits dictionary (all_of cs) ≡ true
  all_fits [] h = fits_All [] ∙ h
  all_fits (c ∷ []) h = (and_parts (cond_suits dictionary c) true h).0
  all_fits (c ∷ d ∷ cs) h = fits_All (c ∷ d ∷ cs) ∙ h

  module _ (q : Profile) (found : Reference) (relation : Relation) (y : Comparand) where
    abbrev against : Comparand → Bool
    against x = comparand_suits dictionary (comparison_of dictionary found relation y) x

    literal_suits : (text : List ℕ) (x : Comparand) → option_map comparand.Literal (literal q dictionary found.target text) ≡ Some x → against x ≡ true
    literal_suits text x e =
        let m = mapped comparand.Literal (literal q dictionary found.target text) x e in
        subst (λ (z : Comparand). against z ≡ true) m.2 (literal_is q dictionary found.target text m.0 m.1).1

    plain_suits : (o : Option (List ℕ)) (x : Comparand) → option_map comparand.Literal (option_and_then (literal q dictionary found.target) o) ≡ Some x → against x ≡ true
    plain_suits None x e = absurd cc
    plain_suits (Some text) x e = literal_suits text x e

    comparand_of_suits : (w : Written) → IsWritten q dictionary found.target w → (x : Comparand) → ComparandOf q dictionary found.target w x → against x ≡ true
    comparand_of_suits (written.Literal value) is x h = subst (λ (z : Comparand). against z ≡ true) (sym h) (literal_is q dictionary found.target is.0 value is.1).1
    comparand_of_suits (written.Double text) is x h = plain_suits (plain_octets text) x h
    comparand_of_suits (written.Instance other) is x h =
        ap (λ (z : Comparand). against z) h ∙ ap (same_kind (type_of dictionary found.target.named.id)) (sym is) ∙ same_kind_self (type_of dictionary found.target.named.id)

    comparand_fits : Suits (λ x. against x) (ComparandIs q dictionary found.target)
    comparand_fits p x rest h = comparand_of_suits h.0 (written_holds q dictionary found.target p h.0 rest h.1) x h.2

  related_fits : (q : Profile) (b : Bool) (found : Reference) (relation : Relation) → Suits (cond_suits dictionary) (RelatedBy b q dictionary found relation)
  related_fits q true found relation p c rest h = ap (cond_suits dictionary) h.3.0 ∙ fits_CompareMeant (meant_comparison dictionary found relation h.0)
  related_fits q false found relation p c rest h =
      ap (cond_suits dictionary) h.3.0 ∙ fits_Compare (comparison_of dictionary found relation h.0)
      ∙ both_true (same_kind (type_of dictionary found.target.named.id) (type_of dictionary found.target.named.id)) (comparand_suits dictionary (comparison_of dictionary found relation h.0) h.0) (same_kind_self (type_of dictionary found.target.named.id))
      (comparand_fits q found relation h.0 p h.0 h.1 h.2)

  present_fits : (found : Reference) (tag : Option ℕ) → cond_suits dictionary (present_of dictionary found tag) ≡ true
  present_fits found None = fits_Present found.list found.target.named.id
  present_fits found (Some tag) = fits_PresentSelected found.list found.target.named.id (selection_of dictionary found.target)

  -- a word that refers to values names no container
  unless_holds : (r : Reference) (b : Bool) → is_container r.target.named.id ≡ b → (found : Reference) → (if b then None else Some r) ≡ Some found → is_container found.target.named.id ≡ false
  unless_holds r true is found e = absurd cc
  unless_holds r false is found e = subst (λ (x : Reference). is_container x.target.named.id ≡ false) (some_is r found e) is

  no_container : (o : Option Reference) (found : Reference) → option_and_then unless_container o ≡ Some found → is_container found.target.named.id ≡ false
  no_container None found e = absurd cc
  no_container (Some r) found e = unless_holds r (is_container r.target.named.id) refl found e

  readable_values : (q : Profile) (word : List ℕ) (found : Reference) → readable q dictionary word ≡ Some found → is_container found.target.named.id ≡ false
  unfolding readable
  readable_values q word found e = no_container (reference_in q dictionary lists.Request word) found e

  -- ---- texts

  part_named_suits : (word : List ℕ) (o : Option ℕ) (x : Part) → elim o [ None ↦ option_map (part_of Wider dictionary) (readable Wider dictionary word) | Some group ↦ Some (part.Capture group) ] ≡ Some x → part_suits x ≡ true
  part_named_suits word None x h =
      let found = mapped (part_of Wider dictionary) (readable Wider dictionary word) x h in
      ap part_suits (sym found.2) ∙ ap not (readable_values Wider word found.0 found.1)
  part_named_suits word (Some group) x h = ap part_suits (sym (some_is (part.Capture group) x h))

  part_is_suits : (text : List ℕ) (x : Part) (rest : List ℕ) → PartIs Wider dictionary text x rest → part_suits x ≡ true
  part_is_suits text (part.Text os) rest h = refl
  part_is_suits text (part.Instance list id) rest h = part_named_suits h.1.2 (group_named Wider h.1.2) (part.Instance list id) h.1.4
  part_is_suits text (part.Meant list id selection) rest h = part_named_suits h.1.2 (group_named Wider h.1.2) (part.Meant list id selection) h.1.4
  part_is_suits text (part.Capture group) rest h = refl

  parts_suit : (text : List ℕ) (parts : List Part) (rest : List ℕ) → While is_left (PartIs Wider dictionary) text parts rest → list_all part_suits parts ≡ true
  parts_suit text [] rest h = refl
  parts_suit text (x ∷ parts) rest h = both_true (part_suits x) (list_all part_suits parts) (part_is_suits text x h.1 h.2) (parts_suit h.1 parts rest h.3)

  plain_parts_suit : (os : List ℕ) → list_all part_suits (plain_parts os) ≡ true
  plain_parts_suit [] = refl
  plain_parts_suit (c ∷ cs) = refl

  quoted_suits : (mark : QuoteMark) (octets : List ℕ) (parts : List Part) → QuotedParts dictionary mark octets parts → list_all part_suits parts ≡ true
  quoted_suits quote.Double octets parts h = parts_suit octets parts h.0 h.1
  quoted_suits quote.Single octets parts h = ap (list_all part_suits) h ∙ plain_parts_suit (single_quoted_octets octets)

  right_from_suits : (t : Token) → Suits (list_all part_suits) (RightFrom dictionary t)
  right_from_suits (token.Word word) p parts rest h = ap (list_all part_suits) h.0 ∙ plain_parts_suit word
  right_from_suits (token.Quoted mark octets) p parts rest h = quoted_suits mark octets parts h.0
  right_from_suits _ p parts rest h = absurd h

  right_suits : Suits (list_all part_suits) (RightIs dictionary)
  right_suits p parts rest h = right_from_suits (next_token p).0 (next_token p).1 parts rest h

  texts_fit : (left : TextSide) → side_suits dictionary left ≡ true → (relation : Relation) → Suits (cond_suits dictionary) (TextsBy dictionary left relation)
  texts_fit left suits relation p c rest h =
      ap (cond_suits dictionary) h.3.0 ∙ fits_CompareTexts (text_comparison left relation h.0)
      ∙ both_true (side_suits dictionary left) (list_all part_suits h.0) suits (right_suits p h.0 h.1 h.2)

  compared_instance_fits : (found : Reference) (relation : Relation) (other : Reference) → type_of dictionary found.target.named.id ≡ type_of dictionary other.target.named.id
      → cond_suits dictionary (Compare (comparison_of dictionary found relation (comparand.Instance other.list other.target.named.id))) ≡ true
  compared_instance_fits found relation other same =
      let kind = type_of dictionary found.target.named.id in
      let y = comparand.Instance other.list other.target.named.id in
      fits_Compare (comparison_of dictionary found relation y)
      ∙ both_true (same_kind kind kind) (comparand_suits dictionary (comparison_of dictionary found relation y) y) (same_kind_self kind) (ap (same_kind kind) (sym same) ∙ same_kind_self kind)

  instance_related_fits : (b : Bool) (found : Reference) (relation : Relation) (other : Reference) → type_of dictionary found.target.named.id ≡ type_of dictionary other.target.named.id → cond_suits dictionary (instance_related b dictionary found relation other) ≡ true
  instance_related_fits true found relation other same = fits_CompareMeant (meant_comparison dictionary found relation (instance_compared dictionary other))
  instance_related_fits false found relation other same = compared_instance_fits found relation other same

  octets_fit : (found : Reference) → is_container found.target.named.id ≡ false → (relation : Relation) → Suits (cond_suits dictionary) (TextBesideOctets dictionary found relation)
  octets_fit found values relation p c rest h =
      texts_fit (side_of dictionary found) (both_true (not (is_container found.target.named.id)) (is_beside_texts dictionary found.target.named.id) (ap not values) h.0) relation p c rest h.1

  beside_fits : (found : Reference) → is_container found.target.named.id ≡ false → (relation : Relation) (o : Option Reference) → Suits (cond_suits dictionary) (TextBeside dictionary found relation o)
  beside_fits found values relation None p c rest h = octets_fit found values relation p c rest h
  beside_fits found values relation (Some other) p c rest (inl h) =
      ap (cond_suits dictionary) h.1 ∙ instance_related_fits (is_by_meaning Wider (type_of dictionary found.target.named.id)) found relation other (ap (λ k. k.0) h.0)
  beside_fits found values relation (Some other) p c rest (inr h) = octets_fit found values relation p c rest h.1

  related_as_fits : (b : Bool) (found : Reference) → is_container found.target.named.id ≡ false → (relation : Relation) → Suits (cond_suits dictionary) (RelatedAs b profile dictionary found relation)
  related_as_fits true found values relation p c rest h = beside_fits found values relation (reference_alone dictionary (next_token p).0) p c rest h.1
  related_as_fits false found values relation p c rest h = related_fits profile (is_by_meaning profile (type_of dictionary found.target.named.id)) found relation p c rest h

  -- ---- references

  compared_from_fits : (found : Reference) → is_container found.target.named.id ≡ false → (o : Option Relation) (p : Place) → Suits (cond_suits dictionary) (ComparedFrom profile dictionary found o p)
  compared_from_fits found values None p after c rest h = ap (cond_suits dictionary) h.0 ∙ present_fits found found.target.tag
  compared_from_fits found values (Some relation) p after c rest h =
      related_as_fits (is_text_beside profile (next_token after).0) found values relation after c rest h

  matched_or_fits : (found : Reference) → is_container found.target.named.id ≡ false → (o : Option Matcher) (p : Place) (next : Token × Place) (c : Cond) (rest : Place) → MatchedOr profile dictionary found o p next c rest → cond_suits dictionary c ≡ true
  matched_or_fits found values None p next c rest h = compared_from_fits found values (relation_of next.0) p next.1 c rest h
  matched_or_fits found values (Some m) p next c rest h = ap (cond_suits dictionary) h.1.0 ∙ fits_Match (matching_of dictionary found m) ∙ ap not values

  compared_fits : (found : Reference) → is_container found.target.named.id ≡ false → Suits (cond_suits dictionary) (ComparedIs profile dictionary found)
  compared_fits found values p c rest h = matched_or_fits found values (matcher_in profile (next_token p).0) p (next_token p) c rest h

  word_fits : (o : Option Code) (word : List ℕ) → Suits (cond_suits dictionary) (WordFrom profile dictionary o word)
  word_fits (Some code) word p c rest h = ap (cond_suits dictionary) h.0 ∙ fits_Last code
  word_fits None word p c rest h = compared_fits h.0 (readable_values profile word h.0 h.1) p c rest h.2

  -- ---- texts on the left

  text_related_from_fits : (alone : Option Reference) (b : Bool) (parts : List Part) → list_all part_suits parts ≡ true → (relation : Relation) → Suits (cond_suits dictionary) (TextRelatedFrom dictionary alone b parts relation)
  text_related_from_fits None b parts suits relation p c rest h = texts_fit (side.Text parts) suits relation p c rest h
  text_related_from_fits (Some found) true parts suits relation p c rest h = texts_fit (side.Text parts) suits relation p c rest h
  text_related_from_fits (Some found) false parts suits relation p c rest h = related_fits Wider (is_by_meaning Wider (type_of dictionary found.target.named.id)) found relation p c rest h

  text_related_fits : (alone : Option Reference) (parts : List Part) → list_all part_suits parts ≡ true → (relation : Relation) → Suits (cond_suits dictionary) (TextRelated dictionary alone parts relation)
  text_related_fits alone parts suits relation p c rest h = text_related_from_fits alone (puts_in (next_token p).0) parts suits relation p c rest h.1

  text_match_fits : (m : Matcher) (parts : List Part) → list_all part_suits parts ≡ true → (c : Cond) → text_match m parts ≡ Some c → cond_suits dictionary c ≡ true
  text_match_fits m (part.Meant list id selection ∷ []) suits c h =
      ap (cond_suits dictionary) (sym (some_is (MatchText (text_matching m list id selection)) c h)) ∙ fits_MatchText (text_matching m list id selection) ∙ (and_parts (not (is_container id)) true suits).0
  text_match_fits m (part.Capture group ∷ []) suits c h =
      ap (cond_suits dictionary) (sym (some_is (MatchGroup (group_matching m group)) c h)) ∙ fits_MatchGroup (group_matching m group)
  text_match_fits m _ suits c h = absurd cc

  text_from_fits : (mark : QuoteMark) (octets : List ℕ) (o : Option Matcher) (r : Option Relation) (p : Place) → Suits (cond_suits dictionary) (TextComparedFrom dictionary mark octets o r p)
  text_from_fits mark octets (Some m) r p after c rest h = text_match_fits m h.0 (quoted_suits mark octets h.0 h.1) c h.2.1.0
  text_from_fits mark octets None (Some relation) p after c rest h =
      text_related_fits (reference_alone dictionary (token.Quoted mark octets)) h.0 (quoted_suits mark octets h.0 h.1) relation after c rest h.2
  text_from_fits quote.Double octets None None p after c rest h =
      let group = mapped Captured (group_in Wider octets) c h.0 in
      ap (cond_suits dictionary) (sym group.2) ∙ fits_Captured group.0
  text_from_fits quote.Single octets None None p after c rest h = absurd h

  text_operand_fits : (q : Profile) (mark : QuoteMark) (octets : List ℕ) → Suits (cond_suits dictionary) (TextOperand q dictionary mark octets)
  text_operand_fits Plain mark octets p c rest h = absurd h
  text_operand_fits Wider mark octets p c rest h =
      text_from_fits mark octets (matcher_in Wider (next_token p).0) (relation_of (next_token p).0) p (next_token p).1 c rest h

  -- ---- operands

  both_fit : (form : Form Place Cond) → Suits (cond_suits dictionary) form → Suits (cond_suits dictionary) (Both form)
  both_fit form each p c rest h =
      ap (cond_suits dictionary) h.3.0 ∙ all_fits h.0 (chain_fits (cond_suits dictionary) (Follows (token.Operator sign.And)) form each p h.0 h.1 h.2)

  either_fits : (form : Form Place Cond) → Suits (cond_suits dictionary) form → Suits (cond_suits dictionary) (Either form)
  either_fits form each p c rest h =
      ap (cond_suits dictionary) h.3.0 ∙ any_fits h.0 (chain_fits (cond_suits dictionary) (Follows (token.Operator sign.Or)) (Both form) (both_fit form each) p h.0 h.1 h.2)

  closed_fits : (form : Form Place Cond) → Suits (cond_suits dictionary) form → Suits (cond_suits dictionary) (Closed form)
  closed_fits form each p c rest h = ap (cond_suits dictionary) h.3.2.0 ∙ either_fits form each p h.0 h.1 h.2

  operand_fits : (inner : Form Place Cond) → Suits (cond_suits dictionary) inner → (t : Token) → Suits (cond_suits dictionary) (OperandFrom profile dictionary inner t)
  operand_fits inner each (token.Operator sign.Not) p c rest h = ap (cond_suits dictionary) h.3.0 ∙ fits_Not h.0 ∙ each p h.0 h.1 h.2
  operand_fits inner each (token.Operator sign.Open) p c rest h = closed_fits inner each p c rest h
  operand_fits inner each (token.Operator sign.Reference) p c rest h = compared_fits h.0 (readable_values profile h.2.0 h.0 h.2.2) h.1 c rest h.3
  operand_fits inner each (token.Word word) p c rest h = word_fits (code_named word) word p c rest h
  operand_fits inner each (token.Quoted mark text) p c rest h = text_operand_fits profile mark text p c rest h
  operand_fits inner each _ p c rest h = absurd h

  within_fits : (n : ℕ) → Suits (cond_suits dictionary) (Within profile dictionary n)
  within_fits zero p c rest h = absurd h
  within_fits (suc n) p c rest h = operand_fits (Within profile dictionary n) (within_fits n) (next_token p).0 (next_token p).1 c rest h

  -- ---- statements

  module _ (n : ℕ) (inner : Form Place Statement) (each : Suits (statement_suits dictionary) inner) where
    branches_fit : Suits (branch_suits dictionary) (BranchIs profile dictionary n inner)
    branches_fit p branch rest h =
        ap (branch_suits dictionary) h.2.2.3.3.0 ∙ suits_branch dictionary p.line h.2.2.0 h.2.2.3.0
        ∙ both_true (cond_suits dictionary h.2.2.0) (policy_suits dictionary h.2.2.3.0) (closed_fits (Within profile dictionary n) (within_fits n) h.2.0 h.2.2.0 h.2.2.1 h.2.2.2)
        (block_fits (statement_suits dictionary) n begins_word inner each h.2.2.1 h.2.2.3.0 h.2.2.3.1 h.2.2.3.2)

    ending_fits : (bs : List Branch) → list_all (branch_suits dictionary) bs ≡ true → (o : Option (List Statement)) (p rest : Place) → Otherwise n inner p o rest → statement_suits dictionary (If bs o) ≡ true
    ending_fits bs fit None p rest h = suits_If dictionary bs None ∙ both_true (list_all (branch_suits dictionary) bs) true fit refl
    ending_fits bs fit (Some block) p rest h =
        suits_If dictionary bs (Some block) ∙ both_true (list_all (branch_suits dictionary) bs) (policy_suits dictionary block) fit (block_fits (statement_suits dictionary) n begins_word inner each h.0 block rest h.2)

    from_fits : (k : Keyword) → Suits (statement_suits dictionary) (StatementFrom profile dictionary n inner k)
    from_fits keyword.Update p s rest h =
        ap (statement_suits dictionary) h.3.0 ∙ suits_Update dictionary p.line h.0
        ∙ block_fits (line_suits dictionary) n begins_line (LineIs profile dictionary (list_at p).0) (lines_suit (list_at p).0) (list_at p).1 h.0 h.1 h.2
    from_fits keyword.If p s rest h =
        ap (statement_suits dictionary) h.3.3.0
        ∙ ending_fits h.0 (chain_fits (branch_suits dictionary) (Follows (token.Word (codes "elsif"))) (BranchIs profile dictionary n inner) branches_fit p h.0 h.1 h.2) h.3.0 h.1 h.3.1 h.3.2
    from_fits keyword.Transaction p s rest h =
        ap (statement_suits dictionary) h.2.3.0 ∙ suits_Transaction dictionary p.line h.2.0 ∙ block_fits (statement_suits dictionary) n begins_word inner each h.0 h.2.0 h.2.1 h.2.2
    from_fits (keyword.Code code) p s rest h = ap (statement_suits dictionary) h.2.0 ∙ suits_Word dictionary p.line code
    from_fits keyword.Other p s rest h = absurd h

  nested_fits : (n : ℕ) → Suits (statement_suits dictionary) (Nested profile dictionary n)
  nested_fits zero p s rest h = absurd h
  nested_fits (suc n) p s rest h = from_fits n (Nested profile dictionary n) (nested_fits n) (keyword_in (next_token p).0) (next_token p).1 s rest h

pub spelled_policy_suits : (dictionary : Dictionary) → IsSound dictionary → (text : List ℕ) (statements : List Statement) → SpellsPolicy dictionary text statements → policy_suits dictionary statements ≡ true
spelled_policy_suits dictionary sound text statements h =
    while_fits (statement_suits dictionary) begins_word (Nested (profile_of text) dictionary 65) (nested_fits (profile_of text) dictionary sound 65) (start_of text) statements h.0 h.2
