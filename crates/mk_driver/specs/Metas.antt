-- What opening and closing a job leaves in the world.
use Rattle.std.specs.Prelude.{◌≡◌, ◌⊎◌, ℕ, ◌<◌, ◌≤◌, ◌^◌, List, [], length, Option, None, true}
use Rattle.std.specs.Prelude.{false}
use Rattle.mk_export.specs.Lists.{AreExports}
use Rattle.mk_meta.specs.Texts.{head as head_of, meta_text}
use Rattle.mk_meta.specs.declared.meta.Meta.{Meta}
use Rattle.mk_meta.specs.TrueHistory.{meta_path}
use Rattle.mk_plan.specs.Plans.{node_at}
use Rattle.mk_world.specs.Looks.{dated}
use Rattle.mk_world.specs.Talks.{Meaning}
use Rattle.mk_world.specs.declared.history.History.{History}
use Rattle.mk_world.specs.declared.time.When.{When}
use Rattle.mk_decision.specs.Decisions.{Work}
use Rattle.mk_decision.specs.Newest.{raised}
use Rattle.mk_trace.specs.Calls.{Called, ChangeItem, LookItem, NoItem, PartItem}
use Rattle.mk_trace.specs.Collected.{IsCountable, begun, has_meta, meta_of, nothing_collected}
use Rattle.mk_trace.specs.Items.{head, whole, cut_head, cut_whole}
use Rattle.mk_trace.specs.declared.collected.Collected.{Collected}
use Rattle.mk_driver.specs.declared.job.Job.{Job}

abbrev pub path_of : Work → ℕ → List ℕ
path_of work node = meta_path (node_at work.plan node).name

abbrev pub first_of : Work → ℕ → List ℕ
first_of work node = head_of (node_at work.plan node).name

-- what the meta file of a job tells, without what its lines printed and recorded
abbrev pub frame_of : Work → Job → Meta
frame_of work job =
    record (meta_of work job.node job.task.lines job.collected) { output = []; records = None }

abbrev pub text_of : Work → Job → List ℕ
text_of work job = meta_text (meta_of work job.node job.task.lines job.collected)

-- a head was written, later than the newest time
pub record WritesHead (meaning : Meaning) (work : Work) (before after : Option History) (node : ℕ)
    (newest : ℕ) (collected : Collected) : Type 0
  where
    pub time : ℕ
    pub is : collected ≡ begun time
    pub later : newest < time
    pub call : Called meaning before after
        (ChangeItem node (head (path_of work node) (first_of work node) time))

-- with it the job of a node in meta mode begins
pub record HeadWritten (meaning : Meaning) (work : Work) (before after : Option History) (node : ℕ)
    (newest : ℕ) (collected : Collected) : Type 0
  where
    pub in_meta : has_meta work node ≡ true
    pub writes : WritesHead meaning work before after node newest collected

-- a node that is not in meta mode has a job without a meta file
pub record NoHead (meaning : Meaning) (work : Work) (before after : Option History) (node : ℕ)
    (collected : Collected) : Type 0
  where
    pub no_meta : has_meta work node ≡ false
    pub is : collected ≡ nothing_collected
    pub call : Called meaning before after NoItem

abbrev pub HasOpened : Meaning → Work → Option History → Option History → ℕ → ℕ → Collected → Type 0
HasOpened meaning work before after node newest collected =
    HeadWritten meaning work before after node newest collected
    ⊎ NoHead meaning work before after node collected

-- a head was not written, or a part of it stands
abbrev pub WritesPartOfHead : Meaning → Work → Option History → Option History → ℕ → Type 0
WritesPartOfHead meaning work before after node =
    Called meaning before after
    (PartItem node (λ part time. cut_head (path_of work node) part time) (first_of work node))

-- a job was not opened
pub record IsUnopened (meaning : Meaning) (work : Work) (before after : Option History) (node : ℕ)
    : Type 0
  where
    pub in_meta : has_meta work node ≡ true
    pub call : WritesPartOfHead meaning work before after node

-- the time of the target of a job was asked
pub record DateAsked (meaning : Meaning) (work : Work) (before after : Option History) (node : ℕ)
    : Type 0
  where
    pub in_meta : has_meta work node ≡ true
    pub when : When
    pub call : Called meaning before after
        (LookItem node (dated (record { path = (node_at work.plan node).name; when = when })))

-- the whole meta file of a job was written, later than the newest time
pub record WritesWhole (meaning : Meaning) (work : Work) (before after : Option History) (job : Job)
    (newest : ℕ) : Type 0
  where
    pub time : ℕ
    pub later : newest < time
    pub call : Called meaning before after
        (ChangeItem job.node (whole (path_of work job.node) (text_of work job) time))

-- behind a look at the target's time, to which the newest time is raised
pub record WholeWritten (meaning : Meaning) (work : Work) (before after : Option History) (job : Job)
    : Type 0
  where
    pub between : Option History
    pub asked : DateAsked meaning work before between job.node
    pub countable : IsCountable job.collected
    pub few : length job.task.lines < 2 ^ 32
    pub exports : AreExports work.mode.exports
    pub newest : ℕ
    pub told : raised 0 asked.when ≤ newest
    pub writes : WritesWhole meaning work between after job newest

-- a job without a meta file is closed by nothing
pub record NoWhole (meaning : Meaning) (work : Work) (before after : Option History) (job : Job)
    : Type 0
  where
    pub no_meta : has_meta work job.node ≡ false
    pub call : Called meaning before after NoItem

abbrev pub HasClosed : Meaning → Work → Option History → Option History → Job → Type 0
HasClosed meaning work before after job =
    WholeWritten meaning work before after job ⊎ NoWhole meaning work before after job

-- the whole meta file was not written, or a part of it stands
abbrev pub WritesPartOfWhole : Meaning → Work → Option History → Option History → Job → Type 0
WritesPartOfWhole meaning work before after job =
    Called meaning before after
    (PartItem job.node (λ part time. cut_whole (path_of work job.node) part time) (text_of work job))

-- behind a look at the target's time
pub record PartOfWhole (meaning : Meaning) (work : Work) (before after : Option History) (job : Job)
    : Type 0
  where
    pub between : Option History
    pub asked : DateAsked meaning work before between job.node
    pub countable : IsCountable job.collected
    pub few : length job.task.lines < 2 ^ 32
    pub exports : AreExports work.mode.exports
    pub call : WritesPartOfWhole meaning work between after job

-- a job was not closed: the target's time was not asked, or the file was not written behind it
abbrev pub IsUnclosed : Meaning → Work → Option History → Option History → Job → Type 0
IsUnclosed meaning work before after job =
    Called meaning before after NoItem ⊎ PartOfWhole meaning work before after job
