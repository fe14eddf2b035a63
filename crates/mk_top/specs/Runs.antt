-- What the top call does.
use Rattle.std.specs.Prelude.{◌≡◌, ℕ, List, [], Option, Some, None, Result, Ok, Err}
use Rattle.mk_bytes.specs.Agrees.{Agrees}
use Rattle.mk_cli.specs.declared.order.Order.{Order}
use Rattle.mk_modes.specs.Building.{Point}
use Rattle.mk_modes.specs.Meaning.{asked}
use Rattle.mk_modes.specs.Modes.{Held}
use Rattle.mk_run.specs.Runs.{Closed}
use Rattle.mk_run.specs.TrueRuns.{IsTrueOrderRun}
use Rattle.mk_modes.specs.declared.report.End.{End}
use Rattle.mk_modes.specs.declared.report.End.TheVariants.{NoMemory}
use Rattle.mk_modes.specs.declared.report.Report.{Report}
use Rattle.mk_scopes.specs.declared.scopes.Env.{Env}
use Rattle.mk_world.specs.Talks.{Meaning}
use Rattle.mk_generate.specs.Generated.{IsGenerated}

-- Refused words, or want of memory for them: nothing is done, and standard error gains the line of
-- the end.
pub record IsRefused (end : End) (words : List (List ℕ)) (first last : Point) (err : Held)
    (report : Report) : Type 0
  where
    pub closed : Closed words end err report.end
    pub plan : report.plan ≡ []
    pub events : report.events ≡ []
    pub same : last ≡ first

-- a run of what words ask for, in a world that is generated, or in that which it was given
abbrev pub Does : Meaning → List (List ℕ) → Env → Order → Option ℕ → Point → Point → Held → Report
    → Type 0
Does meaning words env order (Some n) first last err report = IsGenerated n words first last err report
Does meaning words env order None first last err report =
    IsTrueOrderRun meaning words env order first last err report

-- a run whose words ask for this, or are refused
abbrev pub Follows : Meaning → List (List ℕ) → Env → Result Order End → Point → Point → Held
    → Report → Type 0
Follows meaning words env (Err end) first last err report = IsRefused end words first last err report
Follows meaning words env (Ok order) first last err report =
    Does meaning words env order order.generate first last err report

-- A run. First come the words: what they ask for is defined, but for want of memory.
pub record IsRun (meaning : Meaning) (words : List (List ℕ)) (env : Env) (first last : Point)
    (err : Held) (report : Report) : Type 0
  where
    pub order : Result Order End
    pub is : Agrees NoMemory (λ asked. asked) order (asked env.cwd words)
    pub follows : Follows meaning words env order first last err report
