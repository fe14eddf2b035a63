-- Builds of which it is said that they leave what the clean build leaves.
use Rattle.std.specs.Prelude.{◌≡◌}
use Rattle.mk_decision.specs.Decisions.{Work}
use Rattle.mk_headline.specs.Laws.{IsClean, IsReadyBuild}
use Rattle.mk_trace.specs.Builds.{Moment}
use Rattle.mk_trace.specs.Ends.{StandsBy, is_cut}
use Rattle.mk_trace.specs.TrueBuilds.{IsTrueBuild}
use Rattle.mk_trace.specs.declared.result.BuildResult.{BuildResult}
use Rattle.mk_trace.specs.declared.result.BuildResult.TheVariants.{Done}
use Rattle.mk_world.specs.Talks.{Meaning}
use Rattle.mk_world.specs.Told.{Told}

-- A build with this result, whose meta files stay true. Where it began in meta mode, with what its
-- jobs read and change declared, and all is made, it leaves what the clean build of its plan and
-- tasks leaves.
pub record IsCleanBuild (meaning : Meaning) (work : Work) (result : BuildResult) (first last : Moment)
    : Type 0
  where
    pub true_build : IsTrueBuild meaning work (is_cut result) first last (StandsBy work result)
    pub clean : result ≡ Done → Told first.history last.history
        (λ old new. IsReadyBuild meaning work true_build.build.tasks old
        → IsClean meaning work true_build.build.tasks true_build.build.items old new)
