-- Texts that keep to a limit, and how long they are.
use Rattle.std.proofs.Common.{◌≡◌, inl, inr, ℕ, ◌+◌, ◌<◌, ◌≤◌, ◌++◌, nat_lt, Bool, true, false}
use Rattle.std.proofs.Common.{List, [], ◌∷◌, length, flat_map, length-append, Ok, Err, refl, arith, suc}
use Rattle.std.proofs.Common.{cond, if◌then◌else◌}
use Rattle.std.specs.List.{count_by}
use Rattle.std.proofs.lemmas.Bool.Decides.{nat_tests}
use Rattle.std.proofs.lemmas.List.Sums.{sum_by-cons}
use Rattle.mk_bytes.specs.Agrees.{AgreesErr}
use Rattle.mk_bytes.specs.Bytes.{backslash}
use Rattle.mk_for.specs.Substitution.{Refuses, closing, is_special, opening, quoted_byte, within}
use Rattle.mk_for.specs.Substitution.{written}
use Rattle.mk_for.specs.declared.form.Form.{Form}
use Rattle.mk_for.specs.declared.substitution.TurnFault.{TurnFault}
use Rattle.mk_for.specs.declared.substitution.TurnFault.TheVariants.{TooLong, NoMemory}

-- a text within the limit
pub within-short : (limit : ℕ) (text : List ℕ) → length text ≤ limit → within limit text ≡ Ok text
within-short limit text short =
    let fits : nat_lt limit (length text) ≡ false = grind (arith, nat_tests) in rw fits refl

pub within-long : (limit : ℕ) (text : List ℕ) → limit < length text
    → within limit text ≡ Err TooLong
within-long limit text long =
    let over : nat_lt limit (length text) ≡ true = grind (arith, nat_tests) in rw over refl

-- a text that begins with one that is too long is too long
pub Refuses-more : (fault : TurnFault) (limit : ℕ) (text more : List ℕ) → Refuses fault limit text
    → Refuses fault limit (text ++ more)
Refuses-more fault limit text more (inl want) = inl want
Refuses-more fault limit text more (inr long) =
    let len = length-append text more in inr (long.0, omega (arith, len, long.1))

-- why a text is not written is why it is none
pub Refuses-agrees : (fault : TurnFault) (limit : ℕ) (text : List ℕ) → Refuses fault limit text
    → AgreesErr NoMemory fault (within limit text)
Refuses-agrees fault limit text (inl want) = inl want
Refuses-agrees fault limit text (inr long) =
    inr (rw long.0 (within-long limit text long.1))

-- a text that would go on with more than was written already
pub Refuses-whole : (fault : TurnFault) (limit : ℕ) (text more whole : List ℕ) → text ++ more ≡ whole
    → Refuses fault limit text → AgreesErr NoMemory fault (within limit whole)
Refuses-whole fault limit text more whole same refuses =
    rw (← same) (Refuses-agrees fault limit (text ++ more)
    (Refuses-more fault limit text more refuses))

-- a quoted word is longer by one byte for each that is special
pub length-quoted : (form : Form) (word : List ℕ)
    → length (flat_map (quoted_byte form) word) ≡ length word + count_by (is_special form) word
length-quoted form [] = refl
length-quoted form (byte ∷ word) =
    let more = sum_by-cons (λ b. cond (is_special form b) 1 0) byte word in
    rw more (by (is_special form byte) (length-quoted form word))
  where
    by : (t : Bool)
        → length (flat_map (quoted_byte form) word)
        ≡ length word + count_by (is_special form) word
        → length ((if t then backslash ∷ byte ∷ [] else byte ∷ []) ++ flat_map (quoted_byte form) word)
        ≡ suc (length word) + (cond t 1 0 + count_by (is_special form) word)
    by true same = omega (arith, same)
    by false same = omega (arith, same)

-- how long a reference is that is written
pub length-written : (form : Form) (word : List ℕ)
    → length (opening form) + length word + count_by (is_special form) word + length (closing form)
    ≡ length (written form word)
length-written form word =
    let quoted = flat_map (quoted_byte form) word in
    let inner = length-append (opening form) quoted in
    let outer : length (written form word) ≡ length (opening form ++ quoted) + length (closing form)
    = length-append (opening form ++ quoted) (closing form) in
    omega (arith, length-quoted form word, inner, outer)
