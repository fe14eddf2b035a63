-- Builds whose contract says that they leave what the clean build leaves.
use Rattle.std.proofs.Common.{◌≡◌, ℕ, ◌<◌, ◌≤◌, false, arith}
use Rattle.std.proofs.lemmas.Bool.{cond_both}
use Rattle.mk_decision.specs.Decisions.{Work}
use Rattle.mk_decision.specs.Makers.{jobs_of}
use Rattle.mk_headline.proofs.EndLemmas.{done_clean}
use Rattle.mk_headline.specs.CleanBuilds.{IsCleanBuild}
use Rattle.mk_headline.specs.Laws.{IsClean, IsReadyBuild}
use Rattle.mk_trace.proofs.TrueBuildLemmas.{build-true}
use Rattle.mk_trace.specs.Builds.{IsBuild, Moment}
use Rattle.mk_trace.specs.Ends.{StandsBy, is_cut}
use Rattle.mk_trace.specs.declared.result.BuildResult.{BuildResult}
use Rattle.mk_trace.specs.declared.result.BuildResult.TheVariants as ended
use Rattle.mk_world.specs.Talks.{Meaning}
use Rattle.mk_world.specs.Told.{Told}

some-jobs : (work : Work) → 1 ≤ work.flags.jobs → 0 < jobs_of work
some-jobs work some =
    cond_both work.mode.one_job 1 work.flags.jobs (λ (n : ℕ). 0 < n) (λ one. omega arith)
    (λ many. omega (arith, some))

clean-by : (meaning : Meaning) (work : Work) (result : BuildResult) (first last : Moment)
    → 0 < jobs_of work
    → (build : IsBuild meaning work (is_cut result) first last (StandsBy work result))
    → result ≡ ended.Done
    → Told first.history last.history
    (λ old new. IsReadyBuild meaning work build.tasks old
    → IsClean meaning work build.tasks build.items old new)
clean-by meaning work ended.Done first last jobs build is = done_clean meaning work false first last build jobs
clean-by meaning work (ended.JobFailed n number status) first last jobs build is = absurd cc
clean-by meaning work (ended.Expand n number what) first last jobs build is = absurd cc
clean-by meaning work ended.World first last jobs build is = absurd cc
clean-by meaning work ended.Sink first last jobs build is = absurd cc
clean-by meaning work ended.NoMemory first last jobs build is = absurd cc

-- every build is one
pub clean-build : {meaning : Meaning} {work : Work} {result : BuildResult} {first last : Moment}
    → 1 ≤ work.flags.jobs → IsBuild meaning work (is_cut result) first last (StandsBy work result)
    → IsCleanBuild meaning work result first last
clean-build {meaning} {work} {result} {first} {last} some build = record {
  true_build = record { build = build; meta_files = build-true build };
  clean = clean-by meaning work result first last (some-jobs work some) build;
}
