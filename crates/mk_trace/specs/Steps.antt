-- How a build goes on by the items of one call.
use Rattle.std.specs.Prelude.{◌≡◌, ℕ, List, ◌++◌, length, Option, Bool}
use Rattle.mk_decision.specs.Decisions.{Work}
use Rattle.mk_trace.specs.Builds.{Build, Moment, Makes, Prints, build_after_all, job_of}
use Rattle.mk_trace.specs.Items.{Item, reported_all, outputs_of}
use Rattle.mk_trace.specs.Output.{Printed, printed_all}
use Rattle.mk_trace.specs.Growth.{Standing}
use Rattle.mk_trace.specs.Runs as run

-- items that may be made next, and how they leave a build
pub record GoesOn (work : Work) (tasks : run.Tasks) (build : Build) (own : List Item)
    (Stands : Standing) : Type 0 where
  pub makes : Makes work tasks build own
  pub stands : Stands tasks (build_after_all work tasks build own)

-- what these items print behind all that was printed, by the node whose piece was the last
pub record PrintsOwn (work : Work) (tasks : run.Tasks) (cut : Bool) (now next : Moment)
    (last later : Option ℕ) (own : List Item) : Type 0 where
  pub text : List ℕ
  pub grows : Prints cut now next text
  pub bytes : (outputs : List (List ℕ)) (p : Printed) → p.ended ≡ length outputs → p.last ≡ last
      → (printed_all (job_of work tasks) (outputs ++ outputs_of own) p (reported_all own)).bytes
      ≡ p.bytes ++ text
  pub ended : (outputs : List (List ℕ)) (p : Printed) → p.ended ≡ length outputs
      → (printed_all (job_of work tasks) (outputs ++ outputs_of own) p (reported_all own)).ended
      ≡ length (outputs ++ outputs_of own)
  pub last_is : (outputs : List (List ℕ)) (p : Printed) → p.ended ≡ length outputs → p.last ≡ last
      → (printed_all (job_of work tasks) (outputs ++ outputs_of own) p (reported_all own)).last
      ≡ later
