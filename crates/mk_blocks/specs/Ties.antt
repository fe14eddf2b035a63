-- How the calls of a language are tied to its meaning.
use Rattle.std.specs.Prelude.{◌≡◌, ◌⊎◌, ℕ, List, [], ◌++◌, Option, Some, None, Result, Ok, Err}
use Rattle.mk_blocks.specs.Acts.{Act}
use Rattle.mk_blocks.specs.Outcomes.{Outcome, behind, silent}
use Rattle.mk_blocks.specs.Languages.{LineMeaning, Question}
use Rattle.mk_blocks.specs.declared.fault.FileFault.{FileFault}
use Rattle.mk_blocks.specs.declared.fault.FileFault.TheVariants as file
use Rattle.mk_blocks.specs.declared.fault.Wrong.TheVariants.{Line}
use Rattle.mk_blocks.specs.declared.kind.LineKind.{LineKind}
use Rattle.mk_blocks.specs.declared.fault.LanguageFault.{LanguageFault}
use Rattle.mk_blocks.specs.declared.fault.LanguageFault.TheVariants.{Wrong, Failed, NoMemory}

-- Values X of a language with faults W and failures F of the outside.
pub record Ties (X W F : Type 0) : Type 1 where
  -- what the outside may answer, and the answers that it can have given so far
  pub Answers : Type 0
  pub agrees : Answers → X → Type 0
  -- there always are such answers, so that what holds under all of them says something
  pub some : (x : X) → (answers : Answers) × agrees answers x
  -- the states of the definition, and the state that is kept
  pub State : Type 0
  pub state : X → State
  -- what a line is for the blocks of its file
  pub kind : List ℕ → LineKind
  -- what lines mean under these answers
  pub meaning : Answers → LineMeaning State W
  -- what holds of a value before and after calls, of which the last may have failed so
  pub leads : Option F → X → X → Type 0
  -- exactly these acts were done between them, and a part of these from their beginning
  pub did : X → X → List Act → Type 0
  pub did_part : X → X → List Act → Type 0
  pub leads_nowhere : (x : X) → leads None x x
  pub leads_on : {x y z : X} {failure : Option F} → leads None x y → leads failure y z
      → leads failure x z
  -- answers are only added
  pub agreed : {x y : X} {failure : Option F} (answers : Answers) → leads failure x y
      → agrees answers y → agrees answers x
  pub did_nothing : (x : X) → did x x []
  pub did_both : {x y z : X} {first second : List Act}
      → did x y first → did y z second → did x z (first ++ second)
  pub part_of_whole : {x y : X} {whole : List Act} → did x y whole → did_part x y whole
  pub part_of_more : {x y : X} {part : List Act} (more : List Act)
      → did_part x y part → did_part x y (part ++ more)
  pub part_behind : {x y z : X} {first second : List Act}
      → did x y first → did_part y z second → did_part x z (first ++ second)

-- The outcome of the whole is what was done between two values, and then that of the rest.
pub record Goes {X W F A E : Type 0} (ties : Ties X W F) (x y : X) (whole rest : Outcome A E)
    : Type 0
  where
    pub acts : List Act
    pub did : ties.did x y acts
    pub is : whole ≡ behind acts rest

-- A fault, sorted into the definition's own ones, those of the outside, and want of memory: all
-- acts were done before a fault of the definition, and before another one a part of them.
abbrev pub Refuses : {X W F A E : Type 0} → Ties X W F → X → X → LanguageFault E F → Outcome A E
    → Type 0
Refuses ties x y (Wrong fault) defined = Goes ties x y defined (silent (Err fault))
Refuses ties x y (Failed failure) defined = ties.did_part x y defined.acts
Refuses ties x y NoMemory defined = ties.did_part x y defined.acts

-- Behind an answer there is this rest of what is defined, and a fault may end it.
abbrev pub Gives : {X W F A B D E : Type 0} → Ties X W F → (D → LanguageFault E F) → X → X
    → (A → Outcome B E) → Result A D → Outcome B E → Type 0
Gives ties sorted x y rest (Ok given) defined = Goes ties x y defined (rest given)
Gives ties sorted x y rest (Err fault) defined = Refuses ties x y (sorted fault) defined

abbrev pub failure_in : {E F : Type 0} → LanguageFault E F → Option F
failure_in (Wrong fault) = None
failure_in (Failed failure) = Some failure
failure_in NoMemory = None

-- how the outside failed in a call
abbrev pub failure_of : {A D E F : Type 0} → (D → LanguageFault E F) → Result A D → Option F
failure_of sorted (Ok given) = None
failure_of sorted (Err fault) = failure_in (sorted fault)

-- What a call does between two values. Under all answers that agree with what the outside answered
-- up to its end, it does what is defined up to the rest that stands behind its answer.
pub record Does {X W F A B D E : Type 0} (ties : Ties X W F) (sorted : D → LanguageFault E F)
    (x y : X) (rest : ties.Answers → A → Outcome B E) (answer : Result A D)
    (defined : ties.Answers → Outcome B E) : Type 0
  where
    pub leads : ties.leads (failure_of sorted answer) x y
    pub gives : (answers : ties.Answers) → ties.agrees answers y
        → Gives ties sorted x y (rest answers) answer (defined answers)

-- a language sorts its faults itself
abbrev pub itself : {W F : Type 0} → LanguageFault W F → LanguageFault W F
itself fault = fault

-- What a call of a language answers to a question about a line.
abbrev pub Answers : {X W F A B : Type 0} → (ties : Ties X W F) → X → X
    → (LineMeaning ties.State W → Question B ties.State W) → (A → B) → List ℕ → ℕ → List ℕ
    → Result A (LanguageFault W F) → Type 0
Answers ties x y question view name number text answer =
    Does ties itself x y (λ answers given. silent (Ok (view given, ties.state y))) answer
    (λ answers. question (ties.meaning answers) name number text (ties.state x))

-- What a call of a language does at the end of a file.
pub record Closes {X W F : Type 0} (ties : Ties X W F) (x y : X) : Type 0 where
  pub leads : ties.leads None x y
  pub did : ties.did x y []
  pub state : (answers : ties.Answers) → ties.agrees answers y
      → ties.state y ≡ (ties.meaning answers).closed (ties.state x)

-- faults of files, sorted
abbrev pub sorted : {W F : Type 0} → FileFault W F → LanguageFault (FileFault W F) F
sorted (file.Bad name number what) = Wrong (file.Bad name number what)
sorted file.TooManyLines = Wrong file.TooManyLines
sorted file.TooManyFiles = Wrong file.TooManyFiles
sorted (file.Failed failure) = Failed failure
sorted file.NoMemory = NoMemory

-- What becomes of a language's fault at a line. Its name may find no room.
abbrev pub Placed : {W F : Type 0} → List ℕ → ℕ → LanguageFault W F → FileFault W F → Type 0
Placed name number (Wrong what) fault =
    (fault ≡ file.NoMemory) ⊎ (fault ≡ file.Bad name number (Line what))
Placed name number (Failed failure) fault = fault ≡ file.Failed failure
Placed name number NoMemory fault = fault ≡ file.NoMemory
