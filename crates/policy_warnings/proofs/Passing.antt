-- What each kind of statement makes of what is known of mentioned instances, and asks for.
use Rattle.std.proofs.Common.{◌≡◌, ◌<◌, ◌+◌, ℕ, Bool, true, false, ◌&&◌, List, [], ◌∷◌, ◌++◌, Option, Some, None, Result, Ok, Err, refl, sym, ap, ◌∙◌, drop, length, map, slice_index_or, append_assoc, append-nil}
use Rattle.std.specs.Prelude.{IfOk}
use Rattle.std.specs.List.{flat_map}
use Rattle.std.proofs.lemmas.List.{drop_more}
use Rattle.avp_unlang.specs.declared.codes.Code.{Code}
use Rattle.avp_unlang.specs.declared.tree.Branch.{Branch}
use Rattle.avp_unlang.specs.declared.tree.Line.{Line}
use Rattle.avp_unlang.specs.declared.tree.Statement.{Statement}
use Rattle.avp_unlang.specs.declared.tree.Statement.TheFolds.{fold-roll-Statement, fold_out-Branch}
use Rattle.avp_unlang.specs.declared.tree.Statement.TheOpen as layer
use Rattle.avp_unlang.specs.declared.tree.Statement.TheVariants.{Update, If, Transaction, Word, rolls-Update, rolls-If, rolls-Transaction, rolls-Word}
use Rattle.avp_unlang.specs.declared.tree.Statement.TheViews.{out-Branch}
use Rattle.policy_warnings.specs.Counts.{Known, either_way, greater, where_false, where_true}
use Rattle.policy_warnings.specs.Passages.{Choice, Passage, all_asked, asked_by, asked_in, asked_in_branch, block_passage, branch_asked, branch_choice, chain, choice, given_passage, kept_or_not, passage, passing, statement_asked, statement_passage, update_passage, word_passage}
use Rattle.policy_warnings.specs.declared.counts.Counts.{Counts}
use Rattle.policy_warnings.specs.declared.counts.Most.{Most}
use Rattle.policy_warnings.specs.declared.counts.Most.TheVariants.{Zero, One, Several}
use Rattle.policy_warnings.specs.declared.mentions.Mention.{Mention}
use Rattle.policy_warnings.specs.declared.warnings.Warning.{Warning}

-- ---- two ways

and_assoc : (a b c : Bool) → ((a && b) && c) ≡ (a && (b && c))
and_assoc true b c = refl
and_assoc false b c = refl

greater_assoc : (a b c : Most) → greater (greater a b) c ≡ greater a (greater b c)
greater_assoc Zero b c = refl
greater_assoc One Zero c = refl
greater_assoc One One Zero = refl
greater_assoc One One One = refl
greater_assoc One One Several = refl
greater_assoc One Several c = refl
greater_assoc Several b c = refl

abbrev counts_of : Bool → Most → Counts
counts_of b n = record { is_certain = b; most = n }

pub either_assoc : (a b c : Known) → either_way (either_way a b) c ≡ either_way a (either_way b c)
either_assoc None b c = refl
either_assoc (Some a) None c = refl
either_assoc (Some a) (Some b) None = refl
either_assoc (Some a) (Some b) (Some c) =
    ap (λ x. Some (counts_of x (greater (greater a.most b.most) c.most))) (and_assoc a.is_certain b.is_certain c.is_certain)
    ∙ ap (λ n. Some (counts_of (a.is_certain && (b.is_certain && c.is_certain)) n)) (greater_assoc a.most b.most c.most)

-- ---- passages

module _ (m : Mention) where
  pub passage_update : (n : ℕ) (lines : List Line) → passage m (Update n lines) ≡ update_passage m lines
  unfolding passage
  passage_update n lines =
      ap (passage m) (sym (rolls-Update n lines)) ∙ fold-roll-Statement Passage Choice (statement_passage m) branch_choice (layer.Update n lines)

  pub passage_if : (branches : List Branch) (otherwise : Option (List Statement))
      → passage m (If branches otherwise) ≡ chain m (map (choice m) branches) (given_passage m otherwise)
  unfolding passage choice
  passage_if branches None =
      ap (passage m) (sym (rolls-If branches None)) ∙ fold-roll-Statement Passage Choice (statement_passage m) branch_choice (layer.If branches None)
  passage_if branches (Some block) =
      ap (passage m) (sym (rolls-If branches (Some block)))
      ∙ fold-roll-Statement Passage Choice (statement_passage m) branch_choice (layer.If branches (Some block))

  pub passage_transaction : (n : ℕ) (block : List Statement) → passage m (Transaction n block) ≡ kept_or_not (block_passage m block)
  unfolding passage
  passage_transaction n block =
      ap (passage m) (sym (rolls-Transaction n block))
      ∙ fold-roll-Statement Passage Choice (statement_passage m) branch_choice (layer.Transaction n block)

  pub passage_word : (n : ℕ) (word : Code) → passage m (Word n word) ≡ word_passage word
  unfolding passage
  passage_word n word =
      ap (passage m) (sym (rolls-Word n word)) ∙ fold-roll-Statement Passage Choice (statement_passage m) branch_choice (layer.Word n word)

  pub choice_out : (b : Branch) → choice m b ≡ record { cond = (out-Branch b).cond; block = block_passage m (out-Branch b).block }
  unfolding passage choice
  choice_out b = fold_out-Branch Passage Choice (statement_passage m) branch_choice b

module _ (m : Mention) where
  abbrev chain_of : List Branch → Passage → Passage
  chain_of bs otherwise = chain m (map (choice m) bs) otherwise

  -- ---- as the code goes through it

  pub branch_after : (b : Branch) (xs : List Statement) (k asked after : Known) → asked ≡ where_true m (out-Branch b).cond k → xs ≡ (out-Branch b).block
      → after ≡ (block_passage m xs).after asked → after ≡ (choice m b).block.after (where_true m (choice m b).cond k)
  branch_after b xs k asked after e f g =
      g ∙ ap (λ x. (block_passage m x).after asked) f ∙ ap (λ x. (block_passage m (out-Branch b).block).after x) e
      ∙ ap (λ (d : Choice). d.block.after (where_true m d.cond k)) (sym (choice_out m b))

  pub branch_warned : (b : Branch) (xs : List Statement) (k asked : Known) (old new : List Warning) → asked ≡ where_true m (out-Branch b).cond k
      → xs ≡ (out-Branch b).block → new ≡ old ++ (block_passage m xs).warned asked
      → new ≡ old ++ (choice m b).block.warned (where_true m (choice m b).cond k)
  branch_warned b xs k asked old new e f g =
      g ∙ ap (λ x. old ++ (block_passage m x).warned asked) f ∙ ap (λ x. old ++ (block_passage m (out-Branch b).block).warned x) e
      ∙ ap (λ (d : Choice). old ++ d.block.warned (where_true m d.cond k)) (sym (choice_out m b))

  module _ (xs : List Branch) (i : ℕ) (b : Branch) (k k' : Known) where
    left : i < length xs → b ≡ slice_index_or xs i b → drop i xs ≡ b ∷ drop (i + 1) xs
    left h e = drop_more xs i b h ∙ ap (λ x. x ∷ drop (i + 1) xs) (sym e)

    asked_next : k' ≡ where_false m (out-Branch b).cond k → k' ≡ where_false m (choice m b).cond k
    asked_next e = e ∙ ap (λ (d : Choice). where_false m d.cond k) (sym (choice_out m b))

    pub chain_after : i < length xs → b ≡ slice_index_or xs i b → (after taken after' : Known)
        → taken ≡ (choice m b).block.after (where_true m (choice m b).cond k) → after' ≡ either_way after taken → k' ≡ where_false m (out-Branch b).cond k
        → (target : Passage → Known)
        → ((otherwise : Passage) → either_way after ((chain_of (drop i xs) otherwise).after k) ≡ target otherwise)
        → (otherwise : Passage) → either_way after' ((chain_of (drop (i + 1) xs) otherwise).after k') ≡ target otherwise
    chain_after h e after taken after' f g n target p otherwise =
        let rest = chain_of (drop (i + 1) xs) otherwise in
        ap (λ x. either_way x (rest.after k')) g
        ∙ ap (λ x. either_way (either_way after taken) (rest.after x)) (asked_next n)
        ∙ either_assoc after taken (rest.after (where_false m (choice m b).cond k))
        ∙ ap (λ x. either_way after (either_way x (rest.after (where_false m (choice m b).cond k)))) f
        ∙ ap (λ x. either_way after ((chain_of x otherwise).after k)) (sym (left h e))
        ∙ p otherwise

    pub chain_warned : i < length xs → b ≡ slice_index_or xs i b → (old new : List Warning)
        → new ≡ old ++ (choice m b).block.warned (where_true m (choice m b).cond k) → k' ≡ where_false m (out-Branch b).cond k
        → (target : Passage → List Warning)
        → ((otherwise : Passage) → old ++ (chain_of (drop i xs) otherwise).warned k ≡ target otherwise)
        → (otherwise : Passage) → new ++ (chain_of (drop (i + 1) xs) otherwise).warned k' ≡ target otherwise
    chain_warned h e old new f n target p otherwise =
        let rest = chain_of (drop (i + 1) xs) otherwise in
        let own = (choice m b).block.warned (where_true m (choice m b).cond k) in
        ap (λ x. x ++ rest.warned k') f
        ∙ ap (λ x. (old ++ own) ++ rest.warned x) (asked_next n)
        ∙ append_assoc old own (rest.warned (where_false m (choice m b).cond k))
        ∙ ap (λ x. old ++ (chain_of x otherwise).warned k) (sym (left h e))
        ∙ p otherwise

  module _ (s : Statement) (k : Known) where
    pub update_after : (n : ℕ) (lines xs : List Line) (after : Known) → s ≡ Update n lines → xs ≡ lines
        → after ≡ (update_passage m xs).after k → after ≡ (passage m s).after k
    update_after n lines xs after e f g =
        g ∙ ap (λ x. (update_passage m x).after k) f ∙ ap (λ (p : Passage). p.after k) (sym (ap (passage m) e ∙ passage_update m n lines))

    pub update_warned : (n : ℕ) (lines xs : List Line) (old new : List Warning) → s ≡ Update n lines → xs ≡ lines
        → new ≡ old ++ (update_passage m xs).warned k → new ≡ old ++ (passage m s).warned k
    update_warned n lines xs old new e f g =
        g ∙ ap (λ x. old ++ (update_passage m x).warned k) f ∙ ap (λ (p : Passage). old ++ p.warned k) (sym (ap (passage m) e ∙ passage_update m n lines))

    module _ (branches bs : List Branch) (otherwise : Option (List Statement)) where
      whole_if : s ≡ If branches otherwise → bs ≡ branches → (given : Option (List Statement)) → otherwise ≡ given
          → passage m s ≡ chain_of bs (given_passage m given)
      whole_if e f given g =
          ap (passage m) (e ∙ ap (If branches) g) ∙ passage_if m branches given ∙ ap (λ x. chain_of x (given_passage m given)) (sym f)

      pub if_after : (after rest result : Known) → s ≡ If branches otherwise → bs ≡ branches → otherwise ≡ None → result ≡ either_way after rest
          → ((q : Passage) → either_way after (q.after rest) ≡ (chain_of bs q).after k) → result ≡ (passage m s).after k
      if_after after rest result e f g h p = h ∙ p passing ∙ ap (λ (q : Passage). q.after k) (sym (whole_if e f None g))

      pub if_warned : (rest : Known) (old new : List Warning) → s ≡ If branches otherwise → bs ≡ branches → otherwise ≡ None
          → ((q : Passage) → new ++ q.warned rest ≡ old ++ (chain_of bs q).warned k) → new ≡ old ++ (passage m s).warned k
      if_warned rest old new e f g p =
          sym (append-nil new) ∙ p passing ∙ ap (λ (q : Passage). old ++ q.warned k) (sym (whole_if e f None g))

      pub else_after : (block xs : List Statement) (after rest last result : Known) → s ≡ If branches otherwise → bs ≡ branches → otherwise ≡ Some block
          → xs ≡ block → last ≡ (block_passage m xs).after rest → result ≡ either_way after last
          → ((q : Passage) → either_way after (q.after rest) ≡ (chain_of bs q).after k) → result ≡ (passage m s).after k
      else_after block xs after rest last result e f g j l h p =
          h ∙ ap (either_way after) (l ∙ ap (λ x. (block_passage m x).after rest) j) ∙ p (block_passage m block)
          ∙ ap (λ (q : Passage). q.after k) (sym (whole_if e f (Some block) g))

      pub else_warned : (block xs : List Statement) (rest : Known) (old one new : List Warning) → s ≡ If branches otherwise → bs ≡ branches
          → otherwise ≡ Some block → xs ≡ block → new ≡ one ++ (block_passage m xs).warned rest
          → ((q : Passage) → one ++ q.warned rest ≡ old ++ (chain_of bs q).warned k) → new ≡ old ++ (passage m s).warned k
      else_warned block xs rest old one new e f g j l p =
          l ∙ ap (λ x. one ++ (block_passage m x).warned rest) j ∙ p (block_passage m block)
          ∙ ap (λ (q : Passage). old ++ q.warned k) (sym (whole_if e f (Some block) g))

    pub transaction_after : (n : ℕ) (block xs : List Statement) (kept result : Known) → s ≡ Transaction n block → xs ≡ block
        → kept ≡ (block_passage m xs).after k → result ≡ either_way k kept → result ≡ (passage m s).after k
    transaction_after n block xs kept result e f g h =
        h ∙ ap (either_way k) (g ∙ ap (λ x. (block_passage m x).after k) f)
        ∙ ap (λ (p : Passage). p.after k) (sym (ap (passage m) e ∙ passage_transaction m n block))

    pub transaction_warned : (n : ℕ) (block : List Statement) (old : List Warning) → s ≡ Transaction n block → old ≡ old ++ (passage m s).warned k
    transaction_warned n block old e =
        sym (append-nil old) ∙ ap (λ (p : Passage). old ++ p.warned k) (sym (ap (passage m) e ∙ passage_transaction m n block))

    pub word_after : (n : ℕ) (word : Code) (result : Known) → s ≡ Word n word → result ≡ (word_passage word).after k → result ≡ (passage m s).after k
    word_after n word result e f = f ∙ ap (λ (p : Passage). p.after k) (sym (ap (passage m) e ∙ passage_word m n word))

    pub word_warned : (n : ℕ) (word : Code) (old : List Warning) → s ≡ Word n word → old ≡ old ++ (passage m s).warned k
    word_warned n word old e = sym (append-nil old) ∙ ap (λ (p : Passage). old ++ p.warned k) (sym (ap (passage m) e ∙ passage_word m n word))

pub if_ok : {A E : Type 0} (r : Result A E) (P Q : A → Type 0) → ((a : A) → P a → Q a) → IfOk r P → IfOk r Q
if_ok (Ok v) P Q f h = f v h
if_ok (Err e) P Q f h = h

-- ---- what is asked for

flat_mapped : {X : Type 0} (f : X → List Mention) (xs : List X) → all_asked (map f xs) ≡ flat_map f xs
flat_mapped f [] = refl
flat_mapped f (x ∷ xs) = ap (λ rest. f x ++ rest) (flat_mapped f xs)

abbrev pub asked_given : Option (List Statement) → List Mention
asked_given None = []
asked_given (Some block) = flat_map asked_in block

pub asked_update : (n : ℕ) (lines : List Line) → asked_in (Update n lines) ≡ flat_map asked_by lines
unfolding asked_in
asked_update n lines =
    ap asked_in (sym (rolls-Update n lines)) ∙ fold-roll-Statement (List Mention) (List Mention) statement_asked branch_asked (layer.Update n lines)

pub asked_if : (branches : List Branch) (otherwise : Option (List Statement))
    → asked_in (If branches otherwise) ≡ flat_map asked_in_branch branches ++ asked_given otherwise
unfolding asked_in asked_in_branch
asked_if branches None =
    ap asked_in (sym (rolls-If branches None)) ∙ fold-roll-Statement (List Mention) (List Mention) statement_asked branch_asked (layer.If branches None)
    ∙ ap (λ ms. ms ++ []) (flat_mapped asked_in_branch branches)
asked_if branches (Some block) =
    ap asked_in (sym (rolls-If branches (Some block)))
    ∙ fold-roll-Statement (List Mention) (List Mention) statement_asked branch_asked (layer.If branches (Some block))
    ∙ ap (λ ms. ms ++ all_asked (map asked_in block)) (flat_mapped asked_in_branch branches)
    ∙ ap (λ ms. flat_map asked_in_branch branches ++ ms) (flat_mapped asked_in block)

pub asked_transaction : (n : ℕ) (block : List Statement) → asked_in (Transaction n block) ≡ flat_map asked_in block
unfolding asked_in
asked_transaction n block =
    ap asked_in (sym (rolls-Transaction n block))
    ∙ fold-roll-Statement (List Mention) (List Mention) statement_asked branch_asked (layer.Transaction n block)
    ∙ flat_mapped asked_in block

pub asked_word : (n : ℕ) (word : Code) → asked_in (Word n word) ≡ []
unfolding asked_in
asked_word n word =
    ap asked_in (sym (rolls-Word n word)) ∙ fold-roll-Statement (List Mention) (List Mention) statement_asked branch_asked (layer.Word n word)

pub asked_out : (b : Branch) → asked_in_branch b ≡ flat_map asked_in (out-Branch b).block
unfolding asked_in asked_in_branch
asked_out b =
    fold_out-Branch (List Mention) (List Mention) statement_asked branch_asked b ∙ flat_mapped asked_in (out-Branch b).block

-- ---- as the code gathers it

pub asked_update_pushed : (s : Statement) (n : ℕ) (lines xs : List Line) (old new : List Mention) → s ≡ Update n lines → xs ≡ lines
    → new ≡ old ++ flat_map asked_by xs → new ≡ old ++ asked_in s
asked_update_pushed s n lines xs old new e f g =
    g ∙ ap (λ x. old ++ flat_map asked_by x) f ∙ ap (λ x. old ++ x) (sym (ap asked_in e ∙ asked_update n lines))

pub asked_branch_pushed : (b : Branch) (xs : List Statement) (old new : List Mention) → xs ≡ (out-Branch b).block
    → new ≡ old ++ flat_map asked_in xs → new ≡ old ++ asked_in_branch b
asked_branch_pushed b xs old new f g = g ∙ ap (λ x. old ++ flat_map asked_in x) f ∙ ap (λ x. old ++ x) (sym (asked_out b))

module _ (s : Statement) (branches bs : List Branch) (otherwise : Option (List Statement)) (old one : List Mention) where
  pub asked_if_pushed : s ≡ If branches otherwise → otherwise ≡ None → bs ≡ branches → one ≡ old ++ flat_map asked_in_branch bs → one ≡ old ++ asked_in s
  asked_if_pushed e n f g =
      g ∙ ap (λ x. old ++ flat_map asked_in_branch x) f ∙ ap (λ x. old ++ x) (sym (append-nil (flat_map asked_in_branch branches)))
      ∙ ap (λ x. old ++ x) (sym (ap asked_in (e ∙ ap (If branches) n) ∙ asked_if branches None))

  pub asked_if_else_pushed : (block xs : List Statement) (new : List Mention) → s ≡ If branches otherwise → otherwise ≡ Some block → bs ≡ branches
      → one ≡ old ++ flat_map asked_in_branch bs → xs ≡ block → new ≡ one ++ flat_map asked_in xs → new ≡ old ++ asked_in s
  asked_if_else_pushed block xs new e n f g k l =
      l ∙ ap (λ x. one ++ flat_map asked_in x) k ∙ ap (λ x. x ++ flat_map asked_in block) (g ∙ ap (λ x. old ++ flat_map asked_in_branch x) f)
      ∙ append_assoc old (flat_map asked_in_branch branches) (flat_map asked_in block)
      ∙ ap (λ x. old ++ x) (sym (ap asked_in (e ∙ ap (If branches) n) ∙ asked_if branches (Some block)))

pub asked_transaction_pushed : (s : Statement) (n : ℕ) (block xs : List Statement) (old new : List Mention) → s ≡ Transaction n block
    → xs ≡ block → new ≡ old ++ flat_map asked_in xs → new ≡ old ++ asked_in s
asked_transaction_pushed s n block xs old new e f g =
    g ∙ ap (λ x. old ++ flat_map asked_in x) f ∙ ap (λ x. old ++ x) (sym (ap asked_in e ∙ asked_transaction n block))

pub asked_word_pushed : (s : Statement) (n : ℕ) (word : Code) (old : List Mention) → s ≡ Word n word → old ≡ old ++ asked_in s
asked_word_pushed s n word old e = sym (append-nil old) ∙ ap (λ x. old ++ x) (sym (ap asked_in e ∙ asked_word n word))
