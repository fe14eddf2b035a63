-- Rows of command lines, computed from the definitions.
use Rattle.std.proofs.Common.{◌≡◌, List, ℕ, [], ◌∷◌, true, false, Some, Result, Ok, Err, refl}
use Rattle.std.specs.Prelude.{codes}
use Rattle.mk_cli.specs.Orders.{no_order, no_flags}
use Rattle.mk_cli.specs.Words.{order}
use Rattle.mk_cli.specs.declared.order.AssignOp.{AssignOp}
use Rattle.mk_cli.specs.declared.order.AssignOp.TheVariants.{Plain, Append, Default, Now}
use Rattle.mk_cli.specs.declared.order.Order.{Order}
use Rattle.mk_cli.specs.declared.order.Usage.{Usage}
use Rattle.mk_cli.specs.declared.order.Usage.TheVariants.{Word}
use Rattle.mk_scopes.specs.declared.scopes.Class.TheVariants.{Global, Command}

abbrev read : List (List ℕ) → Result Order Usage
read words = order (codes "/w") words

abbrev only_targets : List (List ℕ) → Order
only_targets targets = record no_order { flags = record no_flags { requested = targets } }

abbrev only_set : AssignOp → List ℕ → List ℕ → Order
only_set op name value = record no_order {
  sets = record { class = Command; op = op; name = name; value = value } ∷ [];
}

abbrev only_jobs : ℕ → Order
only_jobs jobs = record no_order { flags = record no_flags { jobs = jobs } }

pub no_words_row : read [] ≡ Ok no_order
no_words_row = refl

-- flags share a word with `-j`, and an assignment and a target follow
pub shared_word_row : read (codes "-kj4" ∷ codes "X=1" ∷ codes "t" ∷ [])
    ≡ Ok (record no_order {
      sets = record { class = Command; op = Plain; name = codes "X"; value = codes "1" } ∷ [];
      flags = record no_flags { jobs = 4; keep_going = true; requested = codes "t" ∷ [] };
    })
shared_word_row = refl

-- a bad number refuses the word that holds it
pub no_jobs_row : read (codes "-j" ∷ codes "0" ∷ []) ≡ Err (Word 1)
no_jobs_row = refl

pub too_many_jobs_row : read (codes "-k" ∷ codes "-j257" ∷ []) ≡ Err (Word 1)
too_many_jobs_row = refl

pub no_digit_row : read (codes "-j" ∷ codes "+4" ∷ []) ≡ Err (Word 1)
no_digit_row = refl

pub leading_zero_row : read (codes "-j" ∷ codes "04" ∷ []) ≡ Ok (only_jobs 4)
leading_zero_row = refl

-- the last `-j` counts
pub last_jobs_row : read (codes "-j2" ∷ codes "-j" ∷ codes "256" ∷ []) ≡ Ok (only_jobs 256)
last_jobs_row = refl

-- a missing argument refuses its option's word
pub missing_argument_row : read (codes "t" ∷ codes "-kf" ∷ []) ≡ Err (Word 1)
missing_argument_row = refl

pub unknown_letter_row : read (codes "-kz" ∷ codes "-j" ∷ []) ≡ Err (Word 0)
unknown_letter_row = refl

-- `-B` means one job, in any order beside `-j`
pub one_job_row : read (codes "-B" ∷ codes "-j" ∷ codes "4" ∷ []) ≡ Ok no_order
one_job_row = refl

pub one_job_after_row : read (codes "-j4" ∷ codes "-B" ∷ []) ≡ Ok no_order
one_job_after_row = refl

-- the argument of `-j` is all of the rest of its word
pub number_ends_the_word_row : read (codes "-j4B" ∷ []) ≡ Err (Word 0)
number_ends_the_word_row = refl

-- `-S` takes back `-k`
pub stop_row : read (codes "-kS" ∷ []) ≡ Ok no_order
stop_row = refl

-- no argument that is a path is empty or `-`
pub empty_file_row : read (codes "-f" ∷ [] ∷ []) ≡ Err (Word 1)
empty_file_row = refl

pub lone_minus_file_row : read (codes "-f-" ∷ []) ≡ Err (Word 0)
lone_minus_file_row = refl

-- any word may be an argument, `--` and the empty one too
pub any_argument_row : read (codes "-f" ∷ codes "--" ∷ codes "-V" ∷ [] ∷ [])
    ≡ Ok (record no_order {
      files = codes "--" ∷ [];
      prints = record { full = false; text = [] } ∷ [];
    })
any_argument_row = refl

-- options may follow targets, and a word that begins with `-` is no assignment
pub define_row : read (codes "t" ∷ codes "-DX=1" ∷ [])
    ≡ Ok (record (only_targets (codes "t" ∷ [])) {
      sets = record { class = Global; op = Plain; name = codes "X=1"; value = codes "1" } ∷ [];
    })
define_row = refl

-- `--generate` is two words, and the first ones
pub generate_row : read (codes "--generate" ∷ codes "10" ∷ [])
    ≡ Ok (record no_order { generate = Some 10 })
generate_row = refl

pub generate_alone_row : read (codes "--generate" ∷ []) ≡ Err (Word 0)
generate_alone_row = refl

pub generate_too_many_row : read (codes "--generate" ∷ codes "10001" ∷ []) ≡ Err (Word 1)
generate_too_many_row = refl

pub generate_more_row : read (codes "--generate" ∷ codes "10" ∷ codes "t" ∷ []) ≡ Err (Word 2)
generate_more_row = refl

pub generate_later_row : read (codes "t" ∷ codes "--generate" ∷ codes "10" ∷ []) ≡ Err (Word 1)
generate_later_row = refl

-- behind `--` a `-` begins a target
pub operands_row : read (codes "--" ∷ codes "-x" ∷ codes "--" ∷ codes "/w/./a" ∷ [])
    ≡ Ok (only_targets (codes "-x" ∷ codes "--" ∷ codes "a" ∷ []))
operands_row = refl

pub empty_word_row : read (codes "--" ∷ [] ∷ []) ≡ Err (Word 1)
empty_word_row = refl

pub lone_minus_row : read (codes "--" ∷ codes "-" ∷ []) ≡ Err (Word 1)
lone_minus_row = refl

-- a sign before the `=`, and blanks round the name and before the value
pub append_row : read (codes " A +=  x " ∷ []) ≡ Ok (only_set Append (codes "A") (codes "x "))
append_row = refl

pub default_row : read (codes "A?=x" ∷ []) ≡ Ok (only_set Default (codes "A") (codes "x"))
default_row = refl

pub now_row : read (codes "A:=x" ∷ []) ≡ Ok (only_set Now (codes "A") (codes "x"))
now_row = refl

-- whatever stands before the sign is the name
pub wide_name_row : read (codes "x{a=b}" ∷ []) ≡ Ok (only_set Plain (codes "x{a") (codes "b}"))
wide_name_row = refl

pub shell_row : read (codes "A!=x" ∷ []) ≡ Err (Word 0)
shell_row = refl

-- a word whose only `=` is its first byte is a target
pub equals_row : read (codes "=x" ∷ []) ≡ Ok (only_targets (codes "=x" ∷ []))
equals_row = refl

-- no name before the sign
pub nameless_row : read (codes "=x=y" ∷ []) ≡ Err (Word 0)
nameless_row = refl

pub double_equals_row : read (codes "==x" ∷ []) ≡ Err (Word 0)
double_equals_row = refl

pub nameless_append_row : read (codes "+=x" ∷ []) ≡ Err (Word 0)
nameless_append_row = refl

pub nameless_now_row : read (codes ":=x" ∷ []) ≡ Err (Word 0)
nameless_now_row = refl

pub unknown_option_row : read (codes "--unknown" ∷ []) ≡ Err (Word 0)
unknown_option_row = refl

-- `--audit` stands beside targets and options, and behind `--` it is a target
pub audit_row : read (codes "t" ∷ codes "--audit" ∷ codes "-k" ∷ [])
    ≡ Ok (record no_order {
      audit = true;
      flags = record no_flags { keep_going = true; requested = codes "t" ∷ [] };
    })
audit_row = refl

pub audit_operand_row : read (codes "--" ∷ codes "--audit" ∷ [])
    ≡ Ok (only_targets (codes "--audit" ∷ []))
audit_operand_row = refl

-- `--explain` stands beside targets and options, and behind `--` it is a target
pub explain_row : read (codes "t" ∷ codes "--explain" ∷ codes "-k" ∷ [])
    ≡ Ok (record no_order {
      explain = true;
      flags = record no_flags { keep_going = true; requested = codes "t" ∷ [] };
    })
explain_row = refl

pub explain_operand_row : read (codes "--" ∷ codes "--explain" ∷ [])
    ≡ Ok (only_targets (codes "--explain" ∷ []))
explain_operand_row = refl
