-- What single lines do, by cases.
use Rattle.std.proofs.Common.{◌≡◌, ◌⊎◌, ℕ, ◌==◌, ◌%◌, length, true, false, List, [], ◌∷◌}
use Rattle.std.proofs.Common.{Result, Ok, Err, inl, inr, refl, arith}
use Rattle.std.proofs.lemmas.Bool.Decides.{nat_tests}
use Rattle.mk_blocks.specs.Outcomes.{done, refused}
use Rattle.mk_turns.specs.Turns.{loop_turns}
use Rattle.mk_turns.specs.declared.loops.Loop.{Loop}
use Rattle.mk_cond.specs.Cond.{Cond}
use Rattle.mk_cond.specs.declared.fault.CondFault.{CondFault}
use Rattle.mk_cond.specs.declared.fault.CondFault.TheVariants as cond
use Rattle.mk_directive.specs.Directives.{directive_on}
use Rattle.mk_makefile.specs.Blocks.{IsDivided, cond_what, divided, judged}
use Rattle.mk_makefile.specs.Moments.{Moment, stands}
use Rattle.mk_makefile.specs.Questions.{Answers}
use Rattle.mk_makefile.specs.Refusals.{of_cond}
use Rattle.mk_makefile.specs.Steps.{by_directive, plain_read}
use Rattle.mk_makefile.specs.declared.fault.Refusal.TheVariants.{Wrong, NoMemory}
use Rattle.mk_makefile.specs.declared.fault.What.{What}

-- a line that is nothing
pub plain_read-none : (answers : Answers) (file : List ℕ) (number : ℕ) (line : List ℕ) (s : Moment)
    → ((length line) == 0) ≡ true
    → plain_read answers file number line s ≡ stands s
plain_read-none answers file number [] s none = refl
plain_read-none answers file number (byte ∷ line) s none =
    absurd (let never : ⊥ = grind (arith, nat_tests) in never)

pub plain_read-some : (answers : Answers) (file : List ℕ) (number : ℕ) (line : List ℕ) (s : Moment)
    → ((length line) == 0) ≡ false
    → plain_read answers file number line s
    ≡ by_directive answers file number line (directive_on line) s
plain_read-some answers file number [] s some = absurd cc
plain_read-some answers file number (byte ∷ line) s some = refl

-- a fault of a condition is want of memory, or the line's own
pub cond_sort : (fault : CondFault)
    → (of_cond fault ≡ NoMemory) ⊎ (of_cond fault ≡ Wrong (cond_what fault))
cond_sort (cond.Bad at) = inr refl
cond_sort (cond.TooDeep at) = inr refl
cond_sort (cond.Tree fault) = inr refl
cond_sort cond.NoMemory = inl refl

pub judged-fault : (answers : Answers) (fault : CondFault) (found : Result Cond CondFault)
    (s : Moment) → found ≡ Err fault → judged answers found s ≡ refused (cond_what fault)
judged-fault answers fault found s is = rw is refl

-- Loops

pub divided-ok : (names words : List (List ℕ)) (turns : Loop) (s : Moment)
    → IsDivided names words (Ok turns)
    → divided names words s ≡ done (loop_turns turns.names turns.words, s)
divided-ok names words turns s is =
    let even : ((length words % length names) == 0) ≡ true = rw is.0 refl in
    rw (even, is.1, is.2) refl

pub divided-err : (names words : List (List ℕ)) (what : What) (s : Moment)
    → IsDivided names words (Err what) → divided names words s ≡ refused what
divided-err names words what s is = rw (is.0, is.1) refl
