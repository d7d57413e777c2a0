-- What is read takes its size of the room that a policy has, and nothing else takes any.
use Rattle.std.proofs.Common.{◌≡◌, inl, inr, ℕ, ◌+◌, zero, suc, Bool, true, false, List, [], ◌∷◌, length, map, Option, Some, None, refl, sym, ap, ◌∙◌, arith}
use Rattle.std.proofs.lemmas.Grind.{common_steps}
use Rattle.avp_lists.specs.declared.lists.List.{List as Name}
use Rattle.avp_dict.specs.Dictionary.{Dictionary}
use Rattle.avp_dict.specs.declared.value.quotes.QuoteMark.{QuoteMark}
use Rattle.avp_dict.specs.declared.value.quotes.QuoteMark.TheVariants.{Double, Single}
use Rattle.avp_forms.specs.declared.targets.Target.{Target}
use Rattle.avp_forms.specs.declared.profiles.Profile.{Profile}
use Rattle.avp_forms.specs.declared.profiles.Profile.TheVariants.{Plain, Wider}
use Rattle.avp_unlang.specs.declared.codes.Code.{Code}
use Rattle.avp_unlang.specs.declared.text.statements.Keyword.{Keyword}
use Rattle.avp_unlang.specs.declared.text.statements.Keyword.TheVariants as keyword
use Rattle.avp_unlang.specs.declared.text.references.Reference.{Reference}
use Rattle.avp_unlang.specs.declared.text.tokens.Sign.TheVariants as sign
use Rattle.avp_unlang.specs.declared.text.tokens.Matcher.{Matcher}
use Rattle.avp_unlang.specs.declared.text.tokens.Token.{Token}
use Rattle.avp_unlang.specs.declared.text.tokens.Token.TheVariants as token
use Rattle.avp_unlang.specs.declared.text.values.Written.{Written}
use Rattle.avp_unlang.specs.declared.tree.Branch.{Branch}
use Rattle.avp_unlang.specs.declared.tree.Cond.{Cond}
use Rattle.avp_unlang.specs.declared.tree.Line.{Line}
use Rattle.avp_unlang.specs.declared.tree.Part.{Part}
use Rattle.avp_unlang.specs.declared.tree.Relation.{Relation}
use Rattle.avp_unlang.specs.declared.tree.Statement.{Statement}
use Rattle.avp_unlang.specs.declared.tree.Statement.TheFolds.{fold-roll-Statement, fold-roll-Branch}
use Rattle.avp_unlang.specs.declared.tree.Statement.TheOpen as layer
use Rattle.avp_unlang.specs.declared.tree.Statement.TheVariants.{Update, If, Transaction, Word, rolls-Update, rolls-If, rolls-Transaction, rolls-Word}
use Rattle.avp_unlang.specs.declared.tree.TextSide.{TextSide}
use Rattle.avp_unlang.specs.declared.tree.TextSide.TheVariants as side
use Rattle.avp_unlang.specs.Conditions.{Both, Closed, ComparandOf, ComparedFrom, ComparedIs, Either, MatchedOr, MeantFrom, MeantIs, OperandFrom, RelatedAs, RelatedBy, RightFrom, RightIs, TextBeside, TextComparedFrom, TextOperand, TextRelatedFrom, TextsBy, Within, WordFrom, is_by_meaning, is_text_beside, matcher_in, puts_in, reference_alone, relation_of, side_of}
use Rattle.avp_unlang.specs.Forms.{Form, Step, Gives, After, Then, While, Others, Chain}
use Rattle.avp_unlang.specs.Lines.{TargetIs, OpIs, LineIs, after_reference, begins_line}
use Rattle.avp_unlang.specs.Places.{Place, counted}
use Rattle.avp_unlang.specs.References.{ReadableIs, type_of}
use Rattle.avp_unlang.specs.Sizes.{total, statement_size, branch_size, size, size_of_branch, size_of}
use Rattle.avp_unlang.specs.Sources.{SourceOf, IgnoredFrom, SourceBy, is_removal}
use Rattle.avp_unlang.specs.Statements.{BlockIs, branch_of, BranchIs, Otherwise, StatementFrom, Nested, keyword_in, list_at, begins_word}
use Rattle.avp_unlang.specs.Between.{Counts, Follows}
use Rattle.avp_unlang.specs.Tokens.{next_token}
use Rattle.avp_unlang.specs.Values.{WrittenAs, WrittenFrom, WrittenIs}
use Rattle.avp_unlang.specs.Words.{code_named}

-- ---- what takes no room

abbrev StepKeeps : Step Place → Type 0
StepKeeps step = (p rest : Place) → step p rest → rest.room ≡ p.room

abbrev Keeps : {A : Type 0} → Form Place A → Type 0
Keeps {A = A} form = (p : Place) (x : A) (rest : Place) → form p x rest → rest.room ≡ p.room

next_room : (p : Place) → (next_token p).1.room ≡ p.room
unfolding next_token
next_room p = refl

follows_keeps : (t : Token) → StepKeeps (Follows t)
follows_keeps t p rest h = sym (ap (λ (z : Token × Place). z.1.room) h) ∙ next_room p

counts_room : (n : ℕ) (p start : Place) → Counts n p start → start.room + n ≡ p.room
unfolding counted
counts_room n p start h = grind (arith, common_steps)

after_reference_room : (p : Place) → (after_reference p).room ≡ p.room
unfolding after_reference
after_reference_room p = let h : (next_token p).1.room ≡ p.room = next_room p in grind (arith, common_steps)

list_at_room : (p : Place) → (list_at p).1.room ≡ p.room
unfolding list_at
list_at_room p = let h : (next_token p).1.room ≡ p.room = next_room p in grind (arith, common_steps)

gives_keeps : {A : Type 0} (x : A) → Keeps (Gives x)
gives_keeps x p y rest h = ap (λ (q : Place). q.room) h.1

then_keeps : {A B : Type 0} (first : Form Place A) (next : A → Form Place B) → Keeps first → ((x : A) → Keeps (next x)) → Keeps (Then first next)
then_keeps first next keeps more p y rest h = more h.0 h.1 y rest h.3 ∙ keeps p h.0 h.1 h.2

after_keeps : {A : Type 0} (step : Step Place) (next : Form Place A) → StepKeeps step → Keeps next → Keeps (After step next)
after_keeps step next keeps more p y rest h = more h.0 y rest h.2 ∙ keeps p h.0 h.1

others_keeps : {A : Type 0} (step : Step Place) (form : Form Place A) → StepKeeps step → Keeps form → Keeps (Others step form)
others_keeps step form keeps more p [] rest h = ap (λ (q : Place). q.room) h.1
others_keeps step form keeps more p (x ∷ xs) rest h = others_keeps step form keeps more h.2 xs rest h.4 ∙ more h.0 x h.2 h.3 ∙ keeps p h.0 h.1

chain_keeps : {A : Type 0} (step : Step Place) (form : Form Place A) → StepKeeps step → Keeps form → Keeps (Chain step form)
chain_keeps step form keeps more p [] rest h = absurd h
chain_keeps step form keeps more p (x ∷ xs) rest h = others_keeps step form keeps more h.0 xs rest h.2 ∙ more p x h.0 h.1

-- ---- lists of what takes room

abbrev Takes : {A : Type 0} → (A → ℕ) → Form Place A → Type 0
Takes {A = A} f form = (p : Place) (x : A) (rest : Place) → form p x rest → rest.room + f x ≡ p.room

while_takes : {A : Type 0} (f : A → ℕ) (begins : Place → Bool) (form : Form Place A) → Takes f form → Takes (λ xs. total (map f xs)) (While begins form)
while_takes f begins form takes p [] rest h = let e = ap (λ (q : Place). q.room) h.1 in omega arith
while_takes f begins form takes p (x ∷ xs) rest h =
    let first = takes p x h.1 h.2 in
    let more = while_takes f begins form takes h.1 xs rest h.3 in
    omega arith

others_take : {A : Type 0} (f : A → ℕ) (step : Step Place) (form : Form Place A) → StepKeeps step → Takes f form → Takes (λ xs. total (map f xs)) (Others step form)
others_take f step form keeps takes p [] rest h = let e = ap (λ (q : Place). q.room) h.1 in omega arith
others_take f step form keeps takes p (x ∷ xs) rest h =
    let start = keeps p h.0 h.1 in
    let first = takes h.0 x h.2 h.3 in
    let more = others_take f step form keeps takes h.2 xs rest h.4 in
    omega arith

chain_takes : {A : Type 0} (f : A → ℕ) (step : Step Place) (form : Form Place A) → StepKeeps step → Takes f form → Takes (λ xs. total (map f xs)) (Chain step form)
chain_takes f step form keeps takes p [] rest h = absurd h
chain_takes f step form keeps takes p (x ∷ xs) rest h =
    let first = takes p x h.0 h.1 in
    let more = others_take f step form keeps takes h.0 xs rest h.2 in
    omega arith

block_takes : {A : Type 0} (f : A → ℕ) (n : ℕ) (begins : Place → Bool) (inner : Form Place A) → Takes f inner → Takes (λ xs. total (map f xs)) (BlockIs n begins inner)
block_takes f n begins inner takes p xs rest h =
    let start = follows_keeps (token.Operator sign.BlockStart) p h.1.0 h.1.1 in
    let inside = while_takes f begins inner takes h.1.0 h.1.2.0 h.1.2.1 h.1.2.2 in
    let end = follows_keeps (token.Operator sign.BlockEnd) h.1.2.1 h.1.2.3.0 h.1.2.3.1 in
    let rest_is = ap (λ (q : Place). q.room) h.1.2.3.2.1 in
    let same = ap (λ (ys : List _). total (map f ys)) h.1.2.3.2.0 in
    omega arith

total_ones : {A : Type 0} (xs : List A) → total (map (λ _. 1) xs) ≡ length xs
total_ones [] = refl
total_ones (x ∷ xs) = let more = total_ones xs in omega arith

module _ (profile : Profile) (dictionary : Dictionary) where
  -- ---- lines

  readable_keeps : Keeps (ReadableIs profile dictionary)
  readable_keeps p x rest h = follows_keeps (token.Word h.0) p rest h.1

  target_keeps : (own : Name) → Keeps (TargetIs profile dictionary own)
  target_keeps own p x rest h = follows_keeps (token.Word h.0) (after_reference p) rest h.1 ∙ after_reference_room p

  op_keeps : Keeps OpIs
  op_keeps p x rest h = follows_keeps h.0 p rest h.1

  written_from_keeps : (name : Target) (t : Token) → Keeps (WrittenFrom profile dictionary name t)
  written_from_keeps name (token.Word text) p x rest h = ap (λ (q : Place). q.room) h.1
  written_from_keeps name (token.Quoted Single text) p x rest h = ap (λ (q : Place). q.room) h.1
  written_from_keeps name (token.Quoted Double text) p x rest h = ap (λ (q : Place). q.room) h.1
  written_from_keeps name (token.Operator sign.Reference) p x rest h = readable_keeps p h.0 rest h.1.0
  written_from_keeps name _ p x rest h = absurd h

  written_keeps : (name : Target) → Keeps (WrittenIs profile dictionary name)
  written_keeps name p x rest h = written_from_keeps name (next_token p).0 (next_token p).1 x rest h ∙ next_room p

  made_keeps : {A : Type 0} (name : Target) (makes : Written → A → Type 0) → Keeps (WrittenAs profile dictionary name makes)
  made_keeps name makes p x rest h = written_keeps name p h.0 rest h.1

  ignored_from_keeps : (t : Token) → StepKeeps (IgnoredFrom t)
  ignored_from_keeps (token.Word text) p rest h = ap (λ (q : Place). q.room) h
  ignored_from_keeps (token.Quoted mark text) p rest h = ap (λ (q : Place). q.room) h
  ignored_from_keeps (token.Operator sign.Reference) p rest h = follows_keeps (token.Word h.0) p rest h.1
  ignored_from_keeps _ p rest h = absurd h

  source_by_keeps : (b : Bool) (name : Target) → Keeps (SourceBy b profile dictionary name)
  source_by_keeps true name p x rest h = ignored_from_keeps (next_token p).0 (next_token p).1 rest h.0 ∙ next_room p
  source_by_keeps false name p x rest h = made_keeps name (SourceOf profile dictionary name) p x rest h.1

  line_takes : (own : Name) → Takes (λ _. 1) (LineIs profile dictionary own)
  line_takes own p line rest h =
      let start = counts_room 1 p h.0 h.1 in
      let target = target_keeps own h.0 h.2.0 h.2.1 h.2.2 in
      let op = op_keeps h.2.1 h.2.3.0 h.2.3.1 h.2.3.2 in
      let source = source_by_keeps (is_removal h.2.3.0) h.2.0.target h.2.3.1 h.2.3.3.0 h.2.3.3.1 h.2.3.3.2 in
      let end = ap (λ (q : Place). q.room) h.2.3.3.3.1 in
      omega arith

  -- ---- conditions

  meant_from_keeps : (name : Target) (t : Token) → Keeps (MeantFrom dictionary name t)
  meant_from_keeps name (token.Word text) p x rest h = ap (λ (q : Place). q.room) h.1
  meant_from_keeps name (token.Quoted Single text) p x rest h = ap (λ (q : Place). q.room) h.1
  meant_from_keeps name (token.Quoted Double text) p x rest h = ap (λ (q : Place). q.room) h.1
  meant_from_keeps name (token.Operator sign.Reference) p x rest h = follows_keeps (token.Word h.1.0.0) p rest h.1.0.1
  meant_from_keeps name _ p x rest h = absurd h

  meant_keeps : (name : Target) → Keeps (MeantIs dictionary name)
  meant_keeps name p x rest h = meant_from_keeps name (next_token p).0 (next_token p).1 x rest h ∙ next_room p

  related_keeps : (b : Bool) (found : Reference) (relation : Relation) → Keeps (RelatedBy b profile dictionary found relation)
  related_keeps true found relation p c rest h = ap (λ (q : Place). q.room) h.3.1 ∙ meant_keeps found.target p h.0 h.1 h.2
  related_keeps false found relation p c rest h =
      ap (λ (q : Place). q.room) h.3.1 ∙ made_keeps found.target (ComparandOf profile dictionary found.target) p h.0 h.1 h.2

  -- ---- texts

  right_from_keeps : (t : Token) → Keeps (RightFrom dictionary t)
  right_from_keeps (token.Word word) p x rest h = ap (λ (q : Place). q.room) h.1
  right_from_keeps (token.Quoted mark text) p x rest h = ap (λ (q : Place). q.room) h.1
  right_from_keeps _ p x rest h = absurd h

  right_keeps : Keeps (RightIs dictionary)
  right_keeps p x rest h = right_from_keeps (next_token p).0 (next_token p).1 x rest h ∙ next_room p

  texts_keep : (left : TextSide) (relation : Relation) → Keeps (TextsBy dictionary left relation)
  texts_keep left relation p c rest h = ap (λ (q : Place). q.room) h.3.1 ∙ right_keeps p h.0 h.1 h.2

  beside_keeps : (found : Reference) (relation : Relation) (o : Option Reference) → Keeps (TextBeside dictionary found relation o)
  beside_keeps found relation None p c rest h = texts_keep (side_of dictionary found) relation p c rest h.1
  beside_keeps found relation (Some other) p c rest (inl h) = ap (λ (q : Place). q.room) h.2 ∙ next_room p
  beside_keeps found relation (Some other) p c rest (inr h) = texts_keep (side_of dictionary found) relation p c rest h.1.1

  related_as_keeps : (b : Bool) (found : Reference) (relation : Relation) → Keeps (RelatedAs b profile dictionary found relation)
  related_as_keeps true found relation p c rest h = beside_keeps found relation (reference_alone dictionary (next_token p).0) p c rest h.1
  related_as_keeps false found relation p c rest h = related_keeps (is_by_meaning profile (type_of dictionary found.target.named.id)) found relation p c rest h

module _ (profile : Profile) (dictionary : Dictionary) where
  text_related_keeps : (alone : Option Reference) (b : Bool) (parts : List Part) (relation : Relation) → Keeps (TextRelatedFrom dictionary alone b parts relation)
  text_related_keeps None b parts relation p c rest h = texts_keep profile dictionary (side.Text parts) relation p c rest h
  text_related_keeps (Some found) true parts relation p c rest h = texts_keep profile dictionary (side.Text parts) relation p c rest h
  text_related_keeps (Some found) false parts relation p c rest h = related_keeps Wider dictionary (is_by_meaning Wider (type_of dictionary found.target.named.id)) found relation p c rest h

  text_compared_keeps : (mark : QuoteMark) (text : List ℕ) (m : Option Matcher) (o : Option Relation) (p after : Place) → after.room ≡ p.room → (c : Cond) (rest : Place) → TextComparedFrom dictionary mark text m o p after c rest → rest.room ≡ p.room
  text_compared_keeps mark text (Some m) o p after same c rest h = ap (λ (q : Place). q.room) h.2.1.1 ∙ same
  text_compared_keeps mark text None (Some relation) p after same c rest h =
      text_related_keeps (reference_alone dictionary (token.Quoted mark text)) (puts_in (next_token after).0) h.0 relation after c rest h.2.1 ∙ same
  text_compared_keeps Double text None None p after same c rest h = ap (λ (q : Place). q.room) h.1
  text_compared_keeps Single text None None p after same c rest h = absurd h

  text_operand_keeps : (q : Profile) (mark : QuoteMark) (text : List ℕ) → Keeps (TextOperand q dictionary mark text)
  text_operand_keeps Plain mark text p c rest h = absurd h
  text_operand_keeps Wider mark text p c rest h =
      text_compared_keeps mark text (matcher_in Wider (next_token p).0) (relation_of (next_token p).0) p (next_token p).1 (next_room p) c rest h

  -- ---- references and operands

  compared_from_keeps : (found : Reference) (o : Option Relation) (p after : Place) → after.room ≡ p.room → (c : Cond) (rest : Place) → ComparedFrom profile dictionary found o p after c rest → rest.room ≡ p.room
  compared_from_keeps found None p after same c rest h = ap (λ (q : Place). q.room) h.1
  compared_from_keeps found (Some relation) p after same c rest h =
      related_as_keeps profile dictionary (is_text_beside profile (next_token after).0) found relation after c rest h ∙ same

  matched_or_keeps : (found : Reference) (o : Option Matcher) (p : Place) (next : Token × Place) → next.1.room ≡ p.room → (c : Cond) (rest : Place) → MatchedOr profile dictionary found o p next c rest → rest.room ≡ p.room
  matched_or_keeps found None p next same c rest h = compared_from_keeps found (relation_of next.0) p next.1 same c rest h
  matched_or_keeps found (Some m) p next same c rest h = ap (λ (q : Place). q.room) h.1.1 ∙ same

  compared_keeps : (found : Reference) → Keeps (ComparedIs profile dictionary found)
  compared_keeps found p c rest h = matched_or_keeps found (matcher_in profile (next_token p).0) p (next_token p) (next_room p) c rest h

  word_keeps : (o : Option Code) (word : List ℕ) → Keeps (WordFrom profile dictionary o word)
  word_keeps (Some code) word p c rest h = ap (λ (q : Place). q.room) h.1
  word_keeps None word p c rest h = compared_keeps h.0 p c rest h.2

  both_keeps : (form : Form Place Cond) → Keeps form → Keeps (Both form)
  both_keeps form keeps p c rest h =
      ap (λ (q : Place). q.room) h.3.1 ∙ chain_keeps (Follows (token.Operator sign.And)) form (follows_keeps (token.Operator sign.And)) keeps p h.0 h.1 h.2

  either_keeps : (form : Form Place Cond) → Keeps form → Keeps (Either form)
  either_keeps form keeps p c rest h =
      ap (λ (q : Place). q.room) h.3.1 ∙ chain_keeps (Follows (token.Operator sign.Or)) (Both form) (follows_keeps (token.Operator sign.Or)) (both_keeps form keeps) p h.0 h.1 h.2

  closed_keeps : (form : Form Place Cond) → Keeps form → Keeps (Closed form)
  closed_keeps form keeps p c rest h =
      ap (λ (q : Place). q.room) h.3.2.1 ∙ follows_keeps (token.Operator sign.Close) h.1 h.3.0 h.3.1 ∙ either_keeps form keeps p h.0 h.1 h.2

  operand_keeps : (inner : Form Place Cond) → Keeps inner → (t : Token) → Keeps (OperandFrom profile dictionary inner t)
  operand_keeps inner keeps (token.Operator sign.Not) p c rest h = ap (λ (q : Place). q.room) h.3.1 ∙ keeps p h.0 h.1 h.2
  operand_keeps inner keeps (token.Operator sign.Open) p c rest h = closed_keeps inner keeps p c rest h
  operand_keeps inner keeps (token.Operator sign.Reference) p c rest h = compared_keeps h.0 h.1 c rest h.3 ∙ readable_keeps profile dictionary p h.0 h.1 h.2
  operand_keeps inner keeps (token.Word word) p c rest h = word_keeps (code_named word) word p c rest h
  operand_keeps inner keeps (token.Quoted mark text) p c rest h = text_operand_keeps profile mark text p c rest h
  operand_keeps inner keeps _ p c rest h = absurd h

  within_keeps : (n : ℕ) → Keeps (Within profile dictionary n)
  within_keeps zero p c rest h = absurd h
  within_keeps (suc n) p c rest h = operand_keeps (Within profile dictionary n) (within_keeps n) (next_token p).0 (next_token p).1 c rest h ∙ next_room p

-- ---- the size of each kind of statement

size_Update : (line : ℕ) (ls : List Line) → size (Update line ls) ≡ length ls
unfolding size
size_Update line ls = ap size (sym (rolls-Update line ls)) ∙ fold-roll-Statement ℕ ℕ statement_size branch_size (layer.Update line ls)

size_If_none : (bs : List Branch) → size (If bs None) ≡ total (map size_of_branch bs)
unfolding size size_of_branch
size_If_none bs = ap size (sym (rolls-If bs None)) ∙ fold-roll-Statement ℕ ℕ statement_size branch_size (layer.If bs None) ∙ omega arith

size_If_some : (bs : List Branch) (block : List Statement) → size (If bs (Some block)) ≡ total (map size_of_branch bs) + size_of block
unfolding size size_of_branch
size_If_some bs block = ap size (sym (rolls-If bs (Some block))) ∙ fold-roll-Statement ℕ ℕ statement_size branch_size (layer.If bs (Some block))

size_Transaction : (line : ℕ) (block : List Statement) → size (Transaction line block) ≡ 2 + size_of block
unfolding size
size_Transaction line block = ap size (sym (rolls-Transaction line block)) ∙ fold-roll-Statement ℕ ℕ statement_size branch_size (layer.Transaction line block)

size_Word : (line : ℕ) (code : Code) → size (Word line code) ≡ 1
unfolding size
size_Word line code = ap size (sym (rolls-Word line code)) ∙ fold-roll-Statement ℕ ℕ statement_size branch_size (layer.Word line code)

size_branch : (line : ℕ) (cond : Cond) (block : List Statement) → size_of_branch (branch_of line cond block) ≡ 1 + size_of block
unfolding size size_of_branch
size_branch line cond block = fold-roll-Branch ℕ ℕ statement_size branch_size (record { line = line; cond = cond; block = block })

module _ (profile : Profile) (dictionary : Dictionary) (n : ℕ) (inner : Form Place Statement) (takes : Takes size inner) where
  branch_takes : Takes size_of_branch (BranchIs profile dictionary n inner)
  branch_takes p branch rest h =
      let start = counts_room 1 p h.0 h.1 in
      let open_sign = follows_keeps (token.Operator sign.Open) h.0 h.2.0 h.2.1 in
      let cond = closed_keeps profile dictionary (Within profile dictionary n) (within_keeps profile dictionary n) h.2.0 h.2.2.0 h.2.2.1 h.2.2.2 in
      let block = block_takes size n begins_word inner takes h.2.2.1 h.2.2.3.0 h.2.2.3.1 h.2.2.3.2 in
      let end = ap (λ (q : Place). q.room) h.2.2.3.3.1 in
      let is = ap size_of_branch h.2.2.3.3.0 ∙ size_branch p.line h.2.2.0 h.2.2.3.0 in
      omega arith

  ending_takes : (bs : List Branch) (o : Option (List Statement)) (p rest : Place) → Otherwise n inner p o rest → rest.room + size (If bs o) ≡ p.room + total (map size_of_branch bs)
  ending_takes bs None p rest h = let same = ap (λ (q : Place). q.room) h.1 in let is = size_If_none bs in omega arith
  ending_takes bs (Some block) p rest h =
      let start = follows_keeps (token.Word (101 ∷ 108 ∷ 115 ∷ 101 ∷ [])) p h.0 h.1 in
      let inside = block_takes size n begins_word inner takes h.0 block rest h.2 in
      let is = size_If_some bs block in
      omega arith

  from_takes : (k : Keyword) → Takes size (StatementFrom profile dictionary n inner k)
  from_takes keyword.Update p s rest h =
      let list = list_at_room p in
      let block = block_takes (λ _. 1) n begins_line (LineIs profile dictionary (list_at p).0) (line_takes profile dictionary (list_at p).0) (list_at p).1 h.0 h.1 h.2 in
      let ones = total_ones h.0 in
      let end = ap (λ (q : Place). q.room) h.3.1 in
      let is = ap size h.3.0 ∙ size_Update p.line h.0 in
      omega arith
  from_takes keyword.If p s rest h =
      let branches = chain_takes size_of_branch (Follows (token.Word (101 ∷ 108 ∷ 115 ∷ 105 ∷ 102 ∷ []))) (BranchIs profile dictionary n inner) (follows_keeps (token.Word (101 ∷ 108 ∷ 115 ∷ 105 ∷ 102 ∷ []))) branch_takes p h.0 h.1 h.2 in
      let otherwise = ending_takes h.0 h.3.0 h.1 h.3.1 h.3.2 in
      let end = ap (λ (q : Place). q.room) h.3.3.1 in
      let is = ap size h.3.3.0 in
      omega arith
  from_takes keyword.Transaction p s rest h =
      let start = counts_room 2 p h.0 h.1 in
      let block = block_takes size n begins_word inner takes h.0 h.2.0 h.2.1 h.2.2 in
      let end = ap (λ (q : Place). q.room) h.2.3.1 in
      let is = ap size h.2.3.0 ∙ size_Transaction p.line h.2.0 in
      omega arith
  from_takes (keyword.Code code) p s rest h =
      let start = counts_room 1 p h.0 h.1 in
      let end = ap (λ (q : Place). q.room) h.2.1 in
      let is = ap size h.2.0 ∙ size_Word p.line code in
      omega arith
  from_takes keyword.Other p s rest h = absurd h

module _ (profile : Profile) (dictionary : Dictionary) where
  nested_takes : (n : ℕ) → Takes size (Nested profile dictionary n)
  nested_takes zero p s rest h = absurd h
  nested_takes (suc n) p s rest h =
      let after = next_room p in
      let statement = from_takes profile dictionary n (Nested profile dictionary n) (nested_takes n) (keyword_in (next_token p).0) (next_token p).1 s rest h in
      omega arith

  -- the room of a policy that was read
  pub policy_takes : (n : ℕ) (p : Place) (statements : List Statement) (end : Place) → While begins_word (Nested profile dictionary n) p statements end → end.room + size_of statements ≡ p.room
  policy_takes n = while_takes size begins_word (Nested profile dictionary n) (nested_takes n)
