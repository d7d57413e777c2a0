-- NULs at the end of octets.
use Rattle.std.proofs.Common.{◌≡◌, ◌∙◌, ℕ, zero, suc, ◌+◌, ◌-◌, ◌*◌, ◌/◌, ◌<◌, ◌≤◌, Bool, true, false, not, ◌&&◌, nat_le, List, [], ◌∷◌, ◌++◌, length, replicate, Option, Some, None, refl, sym, ap, arith}
use Rattle.std.specs.List.{list_all, slice_get}
use Rattle.std.specs.Option.{option_map_or, option_to_list}
use Rattle.std.proofs.lemmas.Bool.{false≢true}
use Rattle.std.proofs.lemmas.Grind.{common_steps}
use Rattle.std.proofs.lemmas.List.{append-nil, length-append, length-replicate}
use Rattle.avp_dict.specs.Octets.{ends_in_nul, is_hideable, is_nul, max_hidden_octets}
use Rattle.avp_dict.specs.Sent.{is_block_length}
use Rattle.avp_packet.specs.Hiding.{block_count, hidden, hidden_blocks, padded, shown, shown_by, without_last_nuls}
use Rattle.avp_packet.proofs.Masks.{length-hidden_blocks, shown_blocks-hidden_blocks}

pub last_of_more : (x y : ℕ) (ys : List ℕ) → ends_in_nul (x ∷ y ∷ ys) ≡ ends_in_nul (y ∷ ys)
last_of_more x y ys =
    let e : length (x ∷ y ∷ ys) - 1 ≡ suc (length (y ∷ ys) - 1) = omega arith in
    ap (λ k. option_map_or is_nul (slice_get (x ∷ y ∷ ys) k) false) e

-- octets that do not end in NUL are not all NULs, whatever follows
not_all_nuls : (x : ℕ) (xs ys : List ℕ) → ends_in_nul (x ∷ xs) ≡ false → list_all is_nul (x ∷ xs ++ ys) ≡ false
not_all_nuls x [] ys h = rw h
not_all_nuls x (y ∷ xs) ys h = let rest = not_all_nuls y xs ys (sym (last_of_more x y xs) ∙ h) in and_false (is_nul x) (list_all is_nul (y ∷ xs ++ ys)) rest
  where
    and_false : (a b : Bool) → b ≡ false → (a && b) ≡ false
    and_false true b h = h
    and_false false b h = refl

all_nuls : (n : ℕ) → list_all is_nul (replicate n 0) ≡ true
all_nuls zero = refl
all_nuls (suc n) = all_nuls n

no_more_nuls : (n : ℕ) → without_last_nuls (replicate n 0) ≡ []
unfolding without_last_nuls
no_more_nuls zero = refl
no_more_nuls (suc n) = rw (all_nuls n)

pub without_more_nuls : (xs : List ℕ) (n : ℕ) → ends_in_nul xs ≡ false → without_last_nuls (xs ++ replicate n 0) ≡ xs
unfolding without_last_nuls
without_more_nuls [] n h = no_more_nuls n
without_more_nuls (x ∷ []) n h = rw (not_all_nuls x [] (replicate n 0) h, no_more_nuls n)
without_more_nuls (x ∷ y ∷ xs) n h = rw (not_all_nuls x (y ∷ xs) (replicate n 0) h) (ap (λ (os : List ℕ). x ∷ os) (without_more_nuls (y ∷ xs) n (sym (last_of_more x y xs) ∙ h)))

-- octets that do not end in NUL stay
pub without_no_nuls : (xs : List ℕ) → ends_in_nul xs ≡ false → xs ≡ without_last_nuls xs
without_no_nuls xs h = sym (ap without_last_nuls (sym (append-nil xs)) ∙ without_more_nuls xs 0 h)

all_with_nul : (xs : List ℕ) → list_all is_nul (xs ++ 0 ∷ []) ≡ list_all is_nul xs
all_with_nul [] = refl
all_with_nul (x ∷ xs) = ap (λ b. is_nul x && b) (all_with_nul xs)

-- one NUL more at the end
pub without_one_nul : (xs : List ℕ) → without_last_nuls (xs ++ 0 ∷ []) ≡ without_last_nuls xs
unfolding without_last_nuls
without_one_nul [] = refl
without_one_nul (x ∷ xs) = rw (all_with_nul xs, without_one_nul xs)

-- ---- hidden and shown

pub length-padded : (password : List ℕ) → length (padded password) ≡ 16 * block_count (length password)
length-padded password =
    let room : ℕ = 16 * block_count (length password) - length password in
    let most : length password + room ≡ 16 * block_count (length password) = omega arith in
    length-append password (replicate room 0) ∙ ap (λ n. length password + n) (length-replicate room 0) ∙ most

block_length : (n : ℕ) → n ≤ max_hidden_octets → is_block_length (16 * block_count n) ≡ true
block_length n h = grind (arith, common_steps)

pub short_of : (p : List ℕ) → is_hideable p ≡ true → length p ≤ max_hidden_octets
short_of p h = grind (arith, common_steps)

ending_of : (p : List ℕ) → is_hideable p ≡ true → ends_in_nul p ≡ false
ending_of p h = go (nat_le (length p) max_hidden_octets) (ends_in_nul p) h
  where
    go : (a b : Bool) → (a && not b) ≡ true → b ≡ false
    go true true h = absurd (cc)
    go false true h = absurd (cc)
    go a false h = refl

-- a password that can be hidden is shown again
pub shown-hidden : (secret authenticator password : List ℕ) → is_hideable password ≡ true → shown secret authenticator (hidden secret authenticator password) ≡ Some password
unfolding hidden shown
shown-hidden secret authenticator password h =
    let n : ℕ = block_count (length password) in
    let long = length-padded password in
    let all = length-hidden_blocks n secret authenticator (padded password) long in
    let whole : 16 * n / 16 ≡ n = omega arith in
    rw (all, block_length (length password) (short_of password h), whole, shown_blocks-hidden_blocks n secret authenticator (padded password) long)
    (ap Some (without_more_nuls password (16 * n - length password) (ending_of password h)))

-- what there is a secret for is shown
pub shown-with_secret : (secret authenticator os : List ℕ) → 0 < length secret → shown_by secret authenticator os ≡ shown secret authenticator os
shown-with_secret [] authenticator os h = absurd (omega arith)
shown-with_secret (s ∷ secret) authenticator os h = refl

last_at_end : (xs : List ℕ) (x : ℕ) → ends_in_nul (xs ++ x ∷ []) ≡ is_nul x
last_at_end [] x = refl
last_at_end (y ∷ []) x = last_of_more y x []
last_at_end (y ∷ z ∷ xs) x = last_of_more y z (xs ++ x ∷ []) ∙ last_at_end (z ∷ xs) x

-- octets that end in NUL, without their last one
pub popped_nul : (xs ys : List ℕ) (o : Option ℕ) → xs ≡ ys ++ option_to_list o → ends_in_nul xs ≡ true → without_last_nuls ys ≡ without_last_nuls xs
popped_nul xs ys None e h = rw (e, append-nil ys)
popped_nul xs ys (Some zero) e h = rw e (sym (without_one_nul ys))
popped_nul xs ys (Some (suc x)) e h = let other : is_nul (suc x) ≡ false = grind arith in absurd (false≢true (sym other ∙ sym (last_at_end ys (suc x)) ∙ ap ends_in_nul (sym e) ∙ h))

-- what the blocks of a padded password make
pub hidden_by : (secret authenticator password os made : List ℕ) → os ≡ padded password → made ≡ hidden_blocks (length os / 16) secret authenticator os → made ≡ hidden secret authenticator password
unfolding hidden
hidden_by secret authenticator password os made e h =
    let long = length-padded password in
    let count : length (padded password) / 16 ≡ block_count (length password) = omega arith in
    rw (h, e, count)

pub length-hidden : (secret authenticator password : List ℕ) → is_hideable password ≡ true → length (hidden secret authenticator password) ≤ max_hidden_octets
unfolding hidden
length-hidden secret authenticator password h =
    let short = short_of password h in
    let long = length-hidden_blocks (block_count (length password)) secret authenticator (padded password) (length-padded password) in
    omega arith

pub some_hidden : (secret authenticator password : List ℕ) → 0 < length (hidden secret authenticator password)
unfolding hidden
some_hidden secret authenticator password =
    let long = length-hidden_blocks (block_count (length password)) secret authenticator (padded password) (length-padded password) in
    omega arith
