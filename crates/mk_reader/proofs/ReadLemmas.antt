-- Reasons to stop.
use Rattle.std.proofs.Common.{◌≡◌, ◌↔◌, ℕ, Bool, true, false, List, [], ◌∷◌, IsTrue, refl}
use Rattle.mk_blocks.specs.Runs.{Run}
use Rattle.mk_blocks.specs.Ties as blocks
use Rattle.mk_blocks.specs.declared.fault.FileFault.{FileFault}
use Rattle.mk_blocks.specs.declared.fault.FileFault.TheVariants as file
use Rattle.mk_makefile.specs.ReadFaults.{file_fault, of_end, of_end_refusal, of_file, of_refusal, of_what, sorted}
use Rattle.mk_makefile.specs.Moments.{Moment}
use Rattle.mk_makefile.specs.Questions.{Answers}
use Rattle.mk_makefile.specs.Reading.{default_read, files_read, makefiles_read}
use Rattle.mk_makefile.specs.Refusals as refusals
use Rattle.mk_makefile.specs.declared.fault.Outside.{Outside}
use Rattle.mk_makefile.specs.declared.fault.Refusal.{Refusal}
use Rattle.mk_makefile.specs.declared.fault.Refusal.TheVariants as refusal
use Rattle.mk_makefile.specs.declared.fault.What.{What}
use Rattle.mk_reader.proofs.TieLemmas.{verdict_as}

pub sorted-refusal : (fault : Refusal)
    → sorted (of_refusal fault) ≡ verdict_as of_what (refusals.sorted fault)
sorted-refusal (refusal.Wrong what) = refl
sorted-refusal (refusal.Failed failure) = refl
sorted-refusal refusal.NoMemory = refl

pub sorted-end : (file : List ℕ) (fault : Refusal)
    → sorted (of_end_refusal file fault) ≡ verdict_as (of_end file) (refusals.sorted fault)
sorted-end file (refusal.Wrong what) = refl
sorted-end file (refusal.Failed failure) = refl
sorted-end file refusal.NoMemory = refl

pub sorted-file : (fault : FileFault What Outside)
    → sorted (of_file fault) ≡ verdict_as file_fault (blocks.sorted fault)
sorted-file (file.Bad name number found) = refl
sorted-file file.TooManyLines = refl
sorted-file file.TooManyFiles = refl
sorted-file (file.Failed failure) = refl
sorted-file file.NoMemory = refl

pub makefiles-none : (answers : Answers) (files : List (List ℕ)) (r : Run Moment) → files ≡ []
    → makefiles_read answers files r ≡ default_read answers r
makefiles-none answers files r none = rw none refl

pub makefiles-some : (answers : Answers) (files : List (List ℕ)) (r : Run Moment) (none : Bool)
    → (IsTrue none ↔ (files ≡ [])) → none ≡ false
    → makefiles_read answers files r ≡ files_read answers files r
makefiles-some answers [] r none tells is =
    absurd (let never : none ≡ true = tells.1 refl in cc)
makefiles-some answers (file ∷ more) r none tells is = refl
