-- Lists of tickets.
use Rattle.std.proofs.Common.{◌≡◌, ℕ, zero, suc, add-one, ◌+◌, ◌-◌, ◌<◌, ◌==◌, Bool, true, false, List, [], ◌∷◌, Some, None, nat_eq, length, take, drop, position, slice_get, refl, sym, ◌∙◌, ap, arith, eq-eqb}
use Rattle.std.proofs.lemmas.Bool.Decides.{nat_tests}
use Rattle.std.proofs.lemmas.Grind.{common_steps}
use Rattle.std.specs.List.{list_any, position_or_len, remove}
use Rattle.mk_memworld.specs.Children.{without_first}
use Rattle.mk_memworld.specs.Schedule.{first_number, going, named}

-- the next number of a schedule, by its place
pub first_number-at : (numbers : List ℕ) (taken number : ℕ) → slice_get numbers taken ≡ Some number
    → number ≡ first_number (drop taken numbers)
first_number-at [] taken number at = cc
first_number-at (first ∷ numbers) zero number at = cc
first_number-at (first ∷ numbers) (suc taken) number at = first_number-at numbers taken number at

drop-suc : (numbers : List ℕ) (taken : ℕ)
    → drop (suc taken) numbers ≡ drop 1 (drop taken numbers)
drop-suc [] zero = refl
drop-suc [] (suc taken) = refl
drop-suc (number ∷ numbers) zero = refl
drop-suc (number ∷ numbers) (suc taken) = drop-suc numbers taken

pub drop-one_more : (numbers : List ℕ) (taken : ℕ)
    → drop (taken + 1) numbers ≡ drop 1 (drop taken numbers)
drop-one_more numbers taken = rw add-one (drop-suc numbers taken)

-- one that is left out changes nothing, and one that is counted makes one less
pub going-ended : (ended : List ℕ) (ticket : ℕ) (tickets : List ℕ)
    → list_any (λ one. nat_eq one ticket) ended ≡ true
    → going ended (ticket ∷ tickets) ≡ going ended tickets
going-ended ended ticket tickets is = rw is refl

pub going-going : (ended : List ℕ) (ticket : ℕ) (tickets : List ℕ)
    → list_any (λ one. nat_eq one ticket) ended ≡ false
    → going ended (ticket ∷ tickets) ≡ ticket ∷ going ended tickets
going-going ended ticket tickets is = rw is refl

pub named-here : (ticket : ℕ) (tickets : List ℕ) → named 1 (ticket ∷ tickets) ≡ Some ticket
named-here ticket tickets = refl

pub named-later : (number ticket : ℕ) (tickets : List ℕ) → (number ≡ 1 → ⊥)
    → named number (ticket ∷ tickets) ≡ named (number - 1) tickets
named-later zero ticket tickets other = refl
named-later (suc zero) ticket tickets other = absurd (other refl)
named-later (suc (suc number)) ticket tickets other =
    let less : suc (suc number) - 1 ≡ suc number = omega arith in rw less refl

-- a ticket that stands first at a place
pub found-first : (ticket place : ℕ) (tickets : List ℕ) → slice_get tickets place ≡ Some ticket
    → list_any (nat_eq ticket) (take place tickets) ≡ false
    → (list_any (nat_eq ticket) tickets ≡ true)
    × (without_first ticket tickets ≡ remove tickets place)
found-first ticket place [] at none = cc
found-first ticket zero (one ∷ others) at none =
    let same : one ≡ ticket = cc in
    (rw (eq-eqb ticket one (sym same)) refl, rw (eq-eqb one ticket same) refl)
found-first ticket (suc place) (one ∷ others) at none =
    let differ : nat_eq ticket one ≡ false = grind (arith, nat_tests, common_steps) in
    let turned : nat_eq one ticket ≡ false = grind (arith, nat_tests, common_steps) in
    let before : list_any (nat_eq ticket) (take place others) ≡ false =
    grind (arith, nat_tests, common_steps) in
    let rest = found-first ticket place others at before in
    (rw differ rest.0, rw turned (ap (λ l. one ∷ l) rest.1))

-- one ticket more that is another one
none-suc : (ticket place one : ℕ) (tickets : List ℕ) → slice_get tickets place ≡ Some one
    → nat_eq ticket one ≡ false → list_any (nat_eq ticket) (take place tickets) ≡ false
    → list_any (nat_eq ticket) (take (suc place) tickets) ≡ false
none-suc ticket place one [] at other none = refl
none-suc ticket zero one (first ∷ others) at other none =
    grind (arith, nat_tests, common_steps)
none-suc ticket (suc place) one (first ∷ others) at other none =
    grind (arith, nat_tests, common_steps, none-suc ticket place one others)

pub none-more : (ticket place one : ℕ) (tickets : List ℕ) → slice_get tickets place ≡ Some one
    → nat_eq ticket one ≡ false → list_any (nat_eq ticket) (take place tickets) ≡ false
    → list_any (nat_eq ticket) (take (place + 1) tickets) ≡ false
none-more ticket place one tickets at other none =
    rw add-one (none-suc ticket place one tickets at other none)

-- a ticket is taken out where it stands first, if anywhere
removed_if : (test : Bool) (ticket one : ℕ) (others : List ℕ) → (one == ticket) ≡ test
    → (position_or_len (λ n. n == ticket) others < length others
    → remove others (position_or_len (λ n. n == ticket) others) ≡ without_first ticket others)
    → position_or_len (λ n. n == ticket) (one ∷ others) < length (one ∷ others)
    → remove (one ∷ others) (position_or_len (λ n. n == ticket) (one ∷ others))
    ≡ without_first ticket (one ∷ others)
removed_if true ticket one others is go_on within = rw is refl
removed_if false ticket one others is go_on within =
    let there : position_or_len (λ n. n == ticket) (one ∷ others)
    ≡ suc (position_or_len (λ n. n == ticket) others) = rw is (omega arith) in
    let later : position_or_len (λ n. n == ticket) others < length others = omega arith in
    ap (remove (one ∷ others)) there ∙ rw is (ap (λ l. one ∷ l) (go_on later))

removed_first : (ticket : ℕ) (tickets : List ℕ)
    → position_or_len (λ n. n == ticket) tickets < length tickets
    → remove tickets (position_or_len (λ n. n == ticket) tickets) ≡ without_first ticket tickets
removed_first ticket [] within = absurd (omega arith)
removed_first ticket (one ∷ others) within =
    removed_if (one == ticket) ticket one others refl (removed_first ticket others) within

pub taken-at : (ticket place : ℕ) (tickets : List ℕ)
    → position (λ n. n == ticket) tickets ≡ Some place
    → remove tickets place ≡ without_first ticket tickets
taken-at ticket place tickets is =
    let here : position_or_len (λ n. n == ticket) tickets ≡ place =
    grind (arith, nat_tests, common_steps) in
    let within : position_or_len (λ n. n == ticket) tickets < length tickets =
    grind (arith, nat_tests, common_steps) in
    ap (remove tickets) (sym here) ∙ removed_first ticket tickets within

kept_if : (test : Bool) (ticket one : ℕ) (others : List ℕ) → (one == ticket) ≡ test
    → (position (λ n. n == ticket) others ≡ None → without_first ticket others ≡ others)
    → position (λ n. n == ticket) (one ∷ others) ≡ None
    → without_first ticket (one ∷ others) ≡ one ∷ others
kept_if true ticket one others is go_on none =
    grind (arith, nat_tests, common_steps)
kept_if false ticket one others is go_on none =
    let later : position (λ n. n == ticket) others ≡ None =
    grind (arith, nat_tests, common_steps) in
    rw is (ap (λ l. one ∷ l) (go_on later))

pub kept-all : (ticket : ℕ) (tickets : List ℕ) → position (λ n. n == ticket) tickets ≡ None
    → without_first ticket tickets ≡ tickets
kept-all ticket [] none = refl
kept-all ticket (one ∷ others) none =
    kept_if (one == ticket) ticket one others refl (kept-all ticket others) none
