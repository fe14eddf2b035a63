-- Bytes that are put behind others.
use Rattle.std.proofs.Common.{◌≡◌, ℕ, ◌+◌, ◌<◌, ◌≤◌, Bool, true, false, cond, nat_le, List, [], ◌++◌, length, length-append, append_assoc, Option, Some, None, unwrap_or, Result, Ok, Err, refl, sym, ap, ◌∙◌, inl, inr, arith}
use Rattle.std.proofs.lemmas.Bool.{true≢false}
use Rattle.std.proofs.lemmas.Bool.Decides.{nat_tests}
use Rattle.mk_bytes.specs.Agrees.{AgreesErr, ◌>>=◌}
use Rattle.mk_pieces.specs.Limits.{max_text, pushed, pushed_if, IsEarly}
use Rattle.mk_pieces.specs.declared.fault.ModFault.{ModFault}
use Rattle.mk_pieces.specs.declared.fault.ModFault.TheVariants.{NoMemory, TooLong}

ok_cond : {X : Type 0} (test : Bool) (given answer : X) (fault : ModFault)
    → cond test (Ok given) (Err fault) ≡ Ok answer → (test ≡ true) × (given ≡ answer)
ok_cond true given answer fault is = (refl, cc)
ok_cond false given answer fault is = cc

err_cond : {X : Type 0} (test : Bool) (given : X) (known fault : ModFault)
    → cond test (Ok given) (Err known) ≡ Err fault → test ≡ false
err_cond true given known fault is = cc
err_cond false given known fault is = refl

abbrev flag_of : Result (Bool × List ℕ) ModFault → Bool
flag_of (Ok pair) = pair.0
flag_of (Err fault) = false

abbrev bytes_in : Result (Bool × List ℕ) ModFault → List ℕ
bytes_in (Ok pair) = pair.1
bytes_in (Err fault) = []

put : (result : Result (List ℕ) ModFault) (all : List ℕ) (is : Bool)
    → ◌>>=◌ {B = Bool × List ℕ} result (λ new. Ok (true, new)) ≡ Ok (is, all) → result ≡ Ok all
put (Ok given) all is done = let same : given ≡ all = ap bytes_in done in cc
put (Err fault) all is done = cc

not_put : (result : Result (List ℕ) ModFault) (all : List ℕ) (is : Bool) → is ≡ false
    → ◌>>=◌ {B = Bool × List ℕ} result (λ new. Ok (true, new)) ≡ Ok (is, all) → ⊥
not_put (Ok given) all is isnt done =
    let same : true ≡ is = ap flag_of done in absurd (true≢false (same ∙ isnt))
not_put (Err fault) all is isnt done = cc

-- whether there is room for what is put behind bytes
pub pushed-fits : (bytes more : List ℕ) → length bytes + length more ≤ max_text
    → pushed bytes more ≡ Ok (bytes ++ more)
pushed-fits bytes more fits =
    let is : nat_le (length bytes + length more) max_text ≡ true = grind (arith, nat_tests, fits) in
    rw is refl

pub pushed-long : (bytes more : List ℕ) → max_text < length bytes + length more
    → pushed bytes more ≡ Err TooLong
pushed-long bytes more long =
    let is : nat_le (length bytes + length more) max_text ≡ false = grind (arith, nat_tests, long) in
    rw is refl

-- what is put behind bytes that were just put there comes behind both
pub pushed-behind : (bytes first second both : List ℕ) → pushed bytes first ≡ Ok both
    → pushed both second ≡ pushed bytes (first ++ second)
pushed-behind bytes first second both is =
    let there = (ok_cond _ (bytes ++ first) both TooLong is).1 in
    let longer : length bytes + length (first ++ second) ≡ length (bytes ++ first) + length second =
    rw (length-append, length-append) (omega arith)
    in
    rw (← there, longer, append_assoc) refl

-- where the first text is refused, both are
pub pushed-fault : (bytes first second : List ℕ) (fault : ModFault)
    → AgreesErr NoMemory fault (pushed bytes first)
    → AgreesErr NoMemory fault (pushed bytes (first ++ second))
pushed-fault bytes first second fault (inl free) = inl free
pushed-fault bytes first second fault (inr is) =
    let long = err_cond _ (bytes ++ first) TooLong fault is in
    let too_long : nat_le (length bytes + length (first ++ second)) max_text ≡ false =
    rw length-append (grind (arith, nat_tests, long))
    in
    let same : Err TooLong ≡ Err fault = rw long at is in
    inr (rw too_long same)

pub pushed_if-fault : (bytes text : List ℕ) (found : Option (List ℕ)) (fault : ModFault)
    → found ≡ Some text → AgreesErr NoMemory fault (pushed bytes text)
    → AgreesErr NoMemory fault (pushed_if bytes found)
pushed_if-fault bytes text found fault some (inl free) = inl free
pushed_if-fault bytes text found fault some (inr is) = inr (rw (some, is) refl)

pub pushed_if-done : (bytes text all : List ℕ) (found : Option (List ℕ))
    → found ≡ Some text → pushed bytes text ≡ Ok all → pushed_if bytes found ≡ Ok (true, all)
pushed_if-done bytes text all found some is = rw (some, is) refl

-- nothing is put behind bytes only where there is nothing
pub pushed_if-none : (bytes all : List ℕ) (found : Option (List ℕ)) (is : Bool) → is ≡ false
    → pushed_if bytes found ≡ Ok (is, all) → found ≡ None
pushed_if-none bytes all None is isnt done = refl
pushed_if-none bytes all (Some text) is isnt done =
    absurd (not_put (pushed bytes text) all is isnt done)

pub pushed_if-some : (bytes all : List ℕ) (found : Option (List ℕ)) (is : Bool) → is ≡ true
    → pushed_if bytes found ≡ Ok (is, all)
    → (text : List ℕ) × (found ≡ Some text) × (bytes ++ text ≡ all)
pushed_if-some bytes all None is was done =
    let same : false ≡ is = ap flag_of done in absurd (true≢false (sym was ∙ sym same))
pushed_if-some bytes all (Some text) is was done =
    (text, refl, (ok_cond _ (bytes ++ text) all TooLong (put (pushed bytes text) all is done)).1)

-- bytes behind which nothing is put stay
pub pushed_if-same : (bytes all : List ℕ) (found : Option (List ℕ)) (is : Bool) → is ≡ false
    → pushed_if bytes found ≡ Ok (is, all) → bytes ≡ all
pushed_if-same bytes all None is isnt done = ap bytes_in done
pushed_if-same bytes all (Some text) is isnt done =
    absurd (not_put (pushed bytes text) all is isnt done)

refused_test : (test : Bool) (given : List ℕ) (fault : ModFault)
    → ◌>>=◌ {B = Bool × List ℕ} (cond test (Ok given) (Err TooLong)) (λ new. Ok (true, new)) ≡ Err fault
    → (test ≡ false) × (fault ≡ TooLong)
refused_test true given fault is = cc
refused_test false given fault is = (refl, cc)

-- what is refused has too many bytes, or memory ran out
pub pushed_if-long : (bytes word : List ℕ) (found : Option (List ℕ)) (fault : ModFault)
    → fault ≡ TooLong → AgreesErr NoMemory fault (pushed_if bytes found)
    → max_text < length bytes + length (unwrap_or found word)
pushed_if-long bytes word found fault long (inl free) = cc
pushed_if-long bytes word None fault long (inr is) = cc
pushed_if-long bytes word (Some text) fault long (inr is) =
    let test = (refused_test _ (bytes ++ text) fault is).0 in grind (arith, nat_tests, test)

pub pushed_if-early : (bytes : List ℕ) (found : Option (List ℕ)) (fault : ModFault)
    → AgreesErr NoMemory fault (pushed_if bytes found) → IsEarly fault
pushed_if-early bytes found fault (inl free) = inl free
pushed_if-early bytes None fault (inr is) = cc
pushed_if-early bytes (Some text) fault (inr is) = inr (refused_test _ (bytes ++ text) fault is).1

-- a fault that is passed on
pub fault_is : {X : Type 0} (result : Result X ModFault) (first second third : ModFault)
    → result ≡ Err first → first ≡ second → result ≡ Err third → second ≡ third
fault_is result first second third is same known = cc
