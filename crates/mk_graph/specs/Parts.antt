-- How far a target has come with its sources, and what it takes of macros, by their places.
use Rattle.std.specs.Prelude.{◌≡◌, ℕ, ◌+◌, ◌≤◌, List, [], ◌∷◌, ◌++◌, length}
use Rattle.std.specs.Prelude.{get_or, set, nat_eq, Option, Some, None, IsSome, if◌then◌else◌}
use Rattle.mk_graph.specs.Macros.{macros_of, macro_at, with_macros}
use Rattle.mk_graph.specs.Numbers.{AreBelow}
use Rattle.mk_graph.specs.View.{no_links}
use Rattle.mk_graph.specs.declared.links.Links.{Links}

-- the sources that were met, and for each node the last target that took it
pub record State : Type 0 where
  pub queue : List ℕ
  pub kept : List ℕ
  pub taken : List ℕ
  pub stamps : List ℕ

abbrev pub gone_by : ℕ → State → ℕ → Option Links → State
gone_by stamp state n None = record state { kept = state.kept ++ n ∷ [] }
gone_by stamp state n (Some links) =
    if nat_eq (get_or state.stamps n 0) stamp then state else record {
      queue = state.queue ++ links.sources;
      kept = state.kept;
      taken = state.taken ++ n ∷ [];
      stamps = set state.stamps n stamp;
    }

-- what a source leaves
abbrev pub gone : List (Option Links) → ℕ → State → ℕ → State
gone macros stamp state n = gone_by stamp state n (macro_at macros n)

-- each of these nodes is a macro
abbrev pub AreMacros : List (Option Links) → List ℕ → Type 0
AreMacros macros [] = Unit {0}
AreMacros macros (n ∷ more) = IsSome (macro_at macros n) × AreMacros macros more

-- sources and orders of each are below a bound
abbrev pub HaveBelow : ℕ → List Links → Type 0
HaveBelow bound [] = Unit {0}
HaveBelow bound (links ∷ more) =
    AreBelow bound links.sources × AreBelow bound links.ordered × HaveBelow bound more

-- the commands that go behind the target's own
abbrev pub behind_part : Links → List (List ℕ)
behind_part links = if links.marks.macro_behind then links.commands else []

abbrev pub behind_of : Option Links → List (List ℕ)
behind_of None = []
behind_of (Some links) = behind_part links

abbrev pub behind : List (Option Links) → List ℕ → List (List ℕ)
behind macros [] = []
behind macros (n ∷ more) = behind_of (macro_at macros n) ++ behind macros more

-- and those that go before them, of the last macro first
abbrev pub before_part : Links → List (List ℕ)
before_part links = if links.marks.macro_behind then [] else links.commands

abbrev pub before_of : Option Links → List (List ℕ)
before_of None = []
before_of (Some links) = before_part links

abbrev pub before : List (Option Links) → List ℕ → List (List ℕ)
before macros [] = []
before macros (n ∷ more) = before macros more ++ before_of (macro_at macros n)

-- how many sources the macros have that this target did not take
abbrev pub count_of : Option Links → ℕ
count_of None = 0
count_of (Some links) = length links.sources

abbrev pub waiting : ℕ → List ℕ → List (Option Links) → ℕ
waiting stamp [] macros = 0
waiting stamp (one ∷ stamps) [] = 0
waiting stamp (one ∷ stamps) (macro ∷ macros) =
    (if nat_eq one stamp then 0 else count_of macro) + waiting stamp stamps macros

-- a stamp for each node, none later than this target's; nodes alone are kept, and macros taken
pub record IsFit (macros : List (Option Links)) (stamp : ℕ) (state : State) : Type 0 where
  pub as_many : length state.stamps ≡ length macros
  pub stamps : (n : ℕ) → get_or state.stamps n 0 ≤ stamp
  pub queue : AreBelow (length macros) state.queue
  pub kept : AreBelow (length macros) state.kept
  pub taken : AreMacros macros state.taken

-- a target with what it takes, in its place
abbrev pub with_macros_at : List Links → ℕ → List Links
with_macros_at all n = set all n (with_macros (macros_of all) (get_or all n no_links))
