-- The client that is found from the first on is the one that is meant.
use Rattle.std.proofs.Common.{◌≡◌, ◌∙◌, ℕ, ◌<◌, ◌≤◌, Bool, true, false, nat_lt, le-ltb, lt-ltb, ltb-false, ltb-true, if◌then◌else◌, List, [], ◌∷◌, ◌++◌, Option, None, Some, MatchOption, refl, sym, ap, subst, arith}
use Rattle.std.specs.Borrow.{Bor}
use Rattle.std.specs.List.{All}
use Rattle.std.specs.Option.{option_copied}
use Rattle.std.proofs.lemmas.Bool.{true≢false}
use Rattle.std.proofs.lemmas.List.Elements.{All-append, All-cons, All-nil, All-weaker}
use Rattle.std.specs.declared.net.ip_addr.IpAddr.{IpAddr}
use Rattle.radpolicy_clients.specs.Clients.{Client, IsMeant, IsNoLonger, IsOther, IsShorter, before, client_for, holds}
use Rattle.radpolicy_clients.specs.internal.Choosing.{chosen, over}

-- ---- from the first on

before_both : (found client : Client) (other : Option Client) → before found (Some (before client other)) ≡ before (before found (Some client)) other
before_both found client None = refl
before_both found client (Some other) =
    elim (nat_lt client.prefix_length other.prefix_length) as (λ b. nat_lt client.prefix_length other.prefix_length ≡ b → before found (Some (if b then other else client)) ≡ before (before found (Some client)) (Some other)) [
      | true ↦ λ longer. elim (nat_lt found.prefix_length client.prefix_length) as (λ b. nat_lt found.prefix_length client.prefix_length ≡ b → before found (Some other) ≡ before (if b then client else found) (Some other)) [
        | true ↦ λ first.
            let less = ltb-true client.prefix_length other.prefix_length longer in
            let more = ltb-true found.prefix_length client.prefix_length first in
            let both : nat_lt found.prefix_length other.prefix_length ≡ true = lt-ltb found.prefix_length other.prefix_length (omega (arith, less, more)) in
            rw (both, longer) refl
        | false ↦ λ first. refl
      ] refl
      | false ↦ λ longer. elim (nat_lt found.prefix_length client.prefix_length) as (λ b. nat_lt found.prefix_length client.prefix_length ≡ b → (if b then client else found) ≡ before (if b then client else found) (Some other)) [
        | true ↦ λ first. rw longer refl
        | false ↦ λ first.
            let most = ltb-false client.prefix_length other.prefix_length longer in
            let least = ltb-false found.prefix_length client.prefix_length first in
            let none : nat_lt found.prefix_length other.prefix_length ≡ false = le-ltb found.prefix_length other.prefix_length (omega (arith, most, least)) in
            rw none refl
      ] refl
    ] refl

pub found_so_far : (found : Option Client) (client : Client) (other : Option Client) → over (Some (chosen found client)) other ≡ over found (Some (before client other))
found_so_far None client other = refl
found_so_far (Some found) client other = ap (λ (c : Client). Some c) (sym (before_both found client other))

-- ---- the one that is meant

abbrev IsMeantOr : List Client → IpAddr → Option Client → Type 0
IsMeantOr clients address found = MatchOption found (All (IsOther address) clients) (IsMeant clients address)

nobody : (address : IpAddr) (count : ℕ) (clients : List Client) → All (IsOther address) clients → All (IsNoLonger address count) clients
nobody address count clients others =
    All-weaker (IsOther address) (IsNoLonger address count) (λ client other holds_it. absurd (true≢false (sym holds_it ∙ other))) clients others

passed_over : (address : IpAddr) (client : Client) (clients : List Client) (found : Option Client) → holds address client ≡ false → IsMeantOr clients address found → IsMeantOr (client ∷ clients) address found
passed_over address client clients None other all = All-cons (IsOther address) client clients other all
passed_over address client clients (Some found) other meant = record {
  earlier = client ∷ meant.earlier;
  later = meant.later;
  place = ap (λ (l : List Client). client ∷ l) meant.place;
  holds_it = meant.holds_it;
  shorter = All-cons (IsShorter address found.prefix_length) client meant.earlier (λ holds_it. absurd (true≢false (sym holds_it ∙ other))) meant.shorter;
  no_longer = meant.no_longer;
}

-- those that are no longer than one are no longer than another that is no shorter
all_no_longer : (address : IpAddr) (client found : Client) (clients : List Client) → found.prefix_length ≤ client.prefix_length → IsMeant clients address found → All (IsNoLonger address client.prefix_length) clients
all_no_longer address client found clients within meant =
    subst (All (IsNoLonger address client.prefix_length)) (sym meant.place)
    (All-append (IsNoLonger address client.prefix_length) meant.earlier (found ∷ meant.later)
    (All-weaker (IsShorter address found.prefix_length) (IsNoLonger address client.prefix_length) (λ other shorter holds_it. let less = shorter holds_it in omega (arith, less, within)) meant.earlier meant.shorter)
    (All-cons (IsNoLonger address client.prefix_length) found meant.later (λ holds_it. within)
    (All-weaker (IsNoLonger address found.prefix_length) (IsNoLonger address client.prefix_length) (λ other no_longer holds_it. let most = no_longer holds_it in omega (arith, most, within)) meant.later meant.no_longer)))

held : (address : IpAddr) (client : Client) (clients : List Client) (found : Option Client) → holds address client ≡ true → IsMeantOr clients address found → IsMeant (client ∷ clients) address (before client found)
held address client clients None holds_it all = record {
  earlier = [];
  later = clients;
  place = refl;
  holds_it = holds_it;
  shorter = All-nil (IsShorter address client.prefix_length);
  no_longer = nobody address client.prefix_length clients all;
}
held address client clients (Some found) holds_it meant =
    elim (nat_lt client.prefix_length found.prefix_length) as (λ b. nat_lt client.prefix_length found.prefix_length ≡ b → IsMeant (client ∷ clients) address (if b then found else client)) [
      | true ↦ λ less. record {
        earlier = client ∷ meant.earlier;
        later = meant.later;
        place = ap (λ (l : List Client). client ∷ l) meant.place;
        holds_it = meant.holds_it;
        shorter = All-cons (IsShorter address found.prefix_length) client meant.earlier (λ also. ltb-true client.prefix_length found.prefix_length less) meant.shorter;
        no_longer = meant.no_longer;
      }
      | false ↦ λ no_less. record {
        earlier = [];
        later = clients;
        place = refl;
        holds_it = holds_it;
        shorter = All-nil (IsShorter address client.prefix_length);
        no_longer = all_no_longer address client found clients (ltb-false client.prefix_length found.prefix_length no_less) meant;
      }
    ] refl

meant_or : (address : IpAddr) (clients : List Client) → IsMeantOr clients address (client_for clients address)
meant_or address [] = All-nil (IsOther address)
meant_or address (client ∷ clients) =
    elim (holds address client) as (λ b. holds address client ≡ b → IsMeantOr (client ∷ clients) address (if b then Some (before client (client_for clients address)) else client_for clients address)) [
      | true ↦ λ holds_it. held address client clients (client_for clients address) holds_it (meant_or address clients)
      | false ↦ λ other. passed_over address client clients (client_for clients address) other (meant_or address clients)
    ] refl

pub meant : (clients : List Client) (address : IpAddr) (found : Option Client) → found ≡ client_for clients address → MatchOption found (All (IsOther address) clients) (IsMeant clients address)
meant clients address found same = subst (IsMeantOr clients address) (sym same) (meant_or address clients)

pub meant_ref : (clients : List Client) (address : IpAddr) (found : Option (Bor Client)) → option_copied found ≡ client_for clients address → MatchOption found (All (IsOther address) clients) (λ client. IsMeant clients address client.now)
meant_ref clients address None same = meant clients address None same
meant_ref clients address (Some client) same = meant clients address (Some client.now) same
