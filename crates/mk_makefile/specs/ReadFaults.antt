-- Why makefiles are not read to their end.
use Rattle.std.specs.Prelude.{ℕ, List, [], Result, Ok, Err}
use Rattle.mk_blocks.specs.Runs.{max_files, max_lines}
use Rattle.mk_blocks.specs.Outcomes.{Outcome}
use Rattle.mk_blocks.specs.declared.fault.FileFault.{FileFault}
use Rattle.mk_blocks.specs.declared.fault.FileFault.TheVariants as file
use Rattle.mk_blocks.specs.declared.fault.LanguageFault.{LanguageFault}
use Rattle.mk_blocks.specs.declared.fault.LanguageFault.TheVariants as language
use Rattle.mk_blocks.specs.declared.fault.Wrong.{Wrong}
use Rattle.mk_blocks.specs.declared.fault.Wrong.TheVariants as wrong
use Rattle.mk_blocks.specs.declared.kind.BlockFault.{BlockFault}
use Rattle.mk_blocks.specs.declared.kind.BlockFault.TheVariants as block
use Rattle.mk_bytes.specs.declared.kind.Kind.TheVariants.{Names, Lines, Includes}
use Rattle.mk_pool.specs.declared.pool.TheConstants.{MAX_NAMES}
use Rattle.mk_makefile.specs.declared.fault.Fault.{Fault}
use Rattle.mk_makefile.specs.declared.fault.Fault.TheVariants as fault
use Rattle.mk_makefile.specs.declared.fault.Outside.{Outside}
use Rattle.mk_makefile.specs.declared.fault.Outside.TheVariants as outside
use Rattle.mk_makefile.specs.declared.fault.ReadFault.{ReadFault}
use Rattle.mk_makefile.specs.declared.fault.ReadFault.TheVariants.{NoFile, Bad, Limit, World, Sink}
use Rattle.mk_makefile.specs.declared.fault.ReadFault.TheVariants.{NoMemory}
use Rattle.mk_makefile.specs.declared.fault.Refusal.{Refusal}
use Rattle.mk_makefile.specs.declared.fault.Refusal.TheVariants as refusal
use Rattle.mk_makefile.specs.declared.fault.Stop.{Stop}
use Rattle.mk_makefile.specs.declared.fault.Stop.TheVariants as stop
use Rattle.mk_makefile.specs.declared.fault.What.{What}
use Rattle.mk_makefile.specs.declared.fault.What.TheVariants as what

-- a line out of its place
abbrev pub of_block : BlockFault → What
of_block block.Else = what.Else
of_block block.EndIf = what.Endif
of_block block.EndFor = what.Endfor
of_block block.Break = what.Break
of_block block.OpenBlock = what.OpenBlock

abbrev pub of_wrong : Wrong What → What
of_wrong wrong.TooLong = what.TooLong
of_wrong wrong.Zero = what.Zero
of_wrong (wrong.Block fault) = of_block fault
of_wrong (wrong.Line found) = found

-- how the outside failed
abbrev pub of_outside : Outside → ReadFault
of_outside outside.World = World
of_outside outside.Sink = Sink
of_outside outside.NoMemory = NoMemory

-- a fault of the makefiles or of the command line
abbrev pub of_fault : Fault → ReadFault
of_fault (fault.NoFile name) = NoFile name
of_fault (fault.Bad name number found) = Bad name number found
of_fault (fault.Limit kind most) = Limit kind most

-- what is wrong with a line; one name too many is a limit and no fault of a line
abbrev pub bad_line : List ℕ → ℕ → What → Fault
bad_line name number what.TooManyNames = fault.Limit Names MAX_NAMES
bad_line name number found = fault.Bad name number found

-- a fault of a file
abbrev pub of_file : FileFault What Outside → Stop
of_file (file.Bad name number found) = stop.Fault (bad_line name number (of_wrong found))
of_file file.TooManyLines = stop.Fault (fault.Limit Lines max_lines)
of_file file.TooManyFiles = stop.Fault (fault.Limit Includes max_files)
of_file (file.Failed failure) = stop.Failed failure
of_file file.NoMemory = stop.NoMemory

-- a fault of the command line has no file and no line
abbrev pub of_what : What → ReadFault
of_what found = Bad [] 0 found

abbrev pub of_refusal : Refusal → Stop
of_refusal (refusal.Wrong what) = stop.Fault (fault.Bad [] 0 what)
of_refusal (refusal.Failed failure) = stop.Failed failure
of_refusal refusal.NoMemory = stop.NoMemory

-- what is wrong behind the last line of a makefile stands at its line 0
abbrev pub of_end : List ℕ → What → ReadFault
of_end file found = Bad file 0 found

abbrev pub of_end_refusal : List ℕ → Refusal → Stop
of_end_refusal file (refusal.Wrong what) = stop.Fault (fault.Bad file 0 what)
of_end_refusal file (refusal.Failed failure) = stop.Failed failure
of_end_refusal file refusal.NoMemory = stop.NoMemory

abbrev pub of_stop : Stop → ReadFault
of_stop (stop.Fault found) = of_fault found
of_stop (stop.Failed failure) = of_outside failure
of_stop stop.NoMemory = NoMemory

-- what is defined of files, as faults of the reading
abbrev pub file_fault : FileFault What Outside → ReadFault
file_fault found = of_stop (of_file found)

-- reasons to stop, sorted
abbrev pub sorted : Stop → LanguageFault ReadFault Outside
sorted (stop.Fault found) = language.Wrong (of_fault found)
sorted (stop.Failed failure) = language.Failed failure
sorted stop.NoMemory = language.NoMemory

abbrev pub Reads : Type 0 → Type 0
Reads A = Outcome A ReadFault

-- outcomes, with their faults as those of the reading
abbrev pub fault_as : {A E F : Type 0} → (E → F) → Result A E → Result A F
fault_as view (Ok given) = Ok given
fault_as view (Err found) = Err (view found)

abbrev pub outcome_as : {A E F : Type 0} → (E → F) → Outcome A E → Outcome A F
outcome_as view outcome = record {
  acts = outcome.acts;
  answer = fault_as view outcome.answer;
}
