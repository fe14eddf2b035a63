-- The first `;` of a line that stands in no reference.
use Rattle.std.proofs.Common.{◌≡◌, ℕ, zero, suc, ◌+◌, ◌<◌, ◌≤◌, ◌==◌, true, false, nat_le, List, length, get_or}
use Rattle.std.proofs.Common.{Some, None, Ok, Err, inl, inr, refl, ◌∙◌, arith}
use Rattle.std.specs.Prelude.{if◌then◌else◌}
use Rattle.std.proofs.lemmas.Bool.Decides.{nat_tests}
use Rattle.mk_ast.specs.References.{end_of_form}
use Rattle.mk_ast.specs.declared.fault.AstFault.{AstFault}
use Rattle.mk_ast.specs.declared.fault.AstFault.TheVariants.{NoMemory as no_memory}
use Rattle.mk_bytes.specs.Agrees.{AgreesErr, ◌>>=◌}
use Rattle.mk_bytes.specs.Bytes.{dollar}
use Rattle.mk_makefile.specs.Dependencies.{first_semicolon, semicolon}
use Rattle.mk_makefile.specs.Dependencies.{semicolon_from}

-- from this place on, with room enough for the bytes that are left
pub record IsLeft (line : List ℕ) (at : ℕ) : Type 0 where
  pub room : ℕ
  pub enough : length line < at + room
  pub left : first_semicolon line ≡ semicolon_from room line at

pub left-first : (line : List ℕ) → IsLeft line 0
left-first line = record { room = suc (length line); enough = omega arith; left = refl }

-- behind the last byte
none-at : (room : ℕ) (line : List ℕ) (at : ℕ) → length line ≤ at
    → semicolon_from room line at ≡ Ok None
unfolding semicolon_from
none-at zero line at over = refl
none-at (suc room) line at over =
    let is : nat_le (length line) at ≡ true = grind (arith, nat_tests) in rw is refl

-- at a byte
turn : (room : ℕ) (line : List ℕ) (at : ℕ) → at < length line
    → semicolon_from (suc room) line at
    ≡ (if get_or line at 0 == semicolon then Ok (Some at)
    else (if get_or line at 0 == dollar
    then (end_of_form line at >>= λ next. semicolon_from room line next)
    else semicolon_from room line (at + 1)))
unfolding semicolon_from
turn room line at inside =
    let is : nat_le (length line) at ≡ false = grind (arith, nat_tests) in rw is refl

found-at : (room : ℕ) (line : List ℕ) (at : ℕ) → length line < at + room → at < length line
    → get_or line at 0 ≡ semicolon → semicolon_from room line at ≡ Ok (Some at)
found-at zero line at enough inside is = absurd (let never : ⊥ = omega arith in never)
found-at (suc room) line at enough inside is = turn room line at inside ∙ rw is refl

-- a place further on, by what stands at a byte
moved : (line : List ℕ) (at next room : ℕ) → length line < at + room → at < length line
    → at < next → first_semicolon line ≡ semicolon_from room line at
    → ((less : ℕ) → semicolon_from (suc less) line at ≡ semicolon_from less line next)
    → IsLeft line next
moved line at next zero enough inside on left goes =
    absurd (let never : ⊥ = omega arith in never)
moved line at next (suc room) enough inside on left goes =
    record { room = room; enough = omega arith; left = left ∙ goes room }

fault-at : (room : ℕ) (line : List ℕ) (at : ℕ) (fault : AstFault) → length line < at + room
    → at < length line → get_or line at 0 ≡ dollar → end_of_form line at ≡ Err fault
    → semicolon_from room line at ≡ Err fault
fault-at zero line at fault enough inside is wrong = absurd (let never : ⊥ = omega arith in never)
fault-at (suc room) line at fault enough inside is wrong =
    turn room line at inside ∙ rw (is, wrong) refl

module _ {line : List ℕ} {at : ℕ} (is : IsLeft line at) where
  pub no_semicolon : length line ≤ at → first_semicolon line ≡ Ok None
  no_semicolon over = is.left ∙ none-at is.room line at over

  pub at_semicolon : at < length line → get_or line at 0 ≡ semicolon
      → first_semicolon line ≡ Ok (Some at)
  at_semicolon inside here = is.left ∙ found-at is.room line at is.enough inside here

  pub at_fault : (fault : AstFault) → at < length line → get_or line at 0 ≡ dollar
      → AgreesErr no_memory fault (end_of_form line at)
      → AgreesErr no_memory fault (first_semicolon line)
  at_fault fault inside here (inl want) = inl want
  at_fault fault inside here (inr wrong) =
      inr (is.left ∙ fault-at is.room line at fault is.enough inside here wrong)

  pub behind_form : (next : ℕ) → at < length line → get_or line at 0 ≡ dollar
      → end_of_form line at ≡ Ok next → at < next → IsLeft line next
  behind_form next inside here ends on =
      moved line at next is.room is.enough inside on is.left
      (λ less. turn less line at inside ∙ rw (here, ends) refl)

  pub behind_byte : at < length line → (get_or line at 0 == semicolon) ≡ false
      → (get_or line at 0 == dollar) ≡ false → IsLeft line (at + 1)
  behind_byte inside other plain =
      moved line at (at + 1) is.room is.enough inside (omega arith) is.left
      (λ less. turn less line at inside ∙ rw (other, plain) refl)
