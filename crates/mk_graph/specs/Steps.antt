-- How far a depth-first walk has come, and what is left of it.
use Rattle.std.specs.Prelude.{◌≡◌, ℕ, suc, ◌+◌, ◌<◌, false, List, [], ◌∷◌, ◌++◌, length}
use Rattle.std.specs.Prelude.{get_or, set, replicate, Ok, Err, if◌then◌else◌}
use Rattle.mk_bytes.specs.Agrees.{◌>>=◌}
use Rattle.mk_graph.specs.Numbers.{AreBelow}
use Rattle.mk_graph.specs.Walks.{is_among, preds_of, closed, Walked, all_visited, visited}
use Rattle.mk_graph.specs.declared.walk.Mark.{Mark}
use Rattle.mk_graph.specs.declared.walk.Mark.TheVariants.{New, OnPath, Done}
use Rattle.mk_graph.specs.declared.walk.Turn.{Turn}
use Rattle.mk_graph.specs.declared.walk.Turn.TheVariants.{On, Left, Closed, Over}

-- a node on the path, and what is left of the list in which it was met
pub record Frame : Type 0 where
  pub node : ℕ
  pub rest : List ℕ

-- the last node of the path stands first
pub record State : Type 0 where
  pub marks : List Mark
  pub path : List Frame
  pub rest : List ℕ

abbrev pub first_state : ℕ → List ℕ → State
first_state count from = record { marks = replicate count New; path = []; rest = from }

abbrev pub entered : List (List ℕ) → State → ℕ → State
entered preds state n = record {
  marks = set state.marks n OnPath;
  path = record { node = n; rest = state.rest } ∷ state.path;
  rest = preds_of preds n;
}

abbrev pub back_to : State → List Frame → State
back_to state [] = state
back_to state (frame ∷ path) =
    record { marks = set state.marks frame.node Done; path = path; rest = frame.rest }

abbrev pub gone_back : State → State
gone_back state = back_to state state.path

abbrev pub turn_back : List Frame → Turn
turn_back [] = Over
turn_back (frame ∷ path) = Left frame.node

abbrev pub AreWithin : ℕ → List Frame → Type 0
AreWithin bound [] = Unit {0}
AreWithin bound (frame ∷ path) =
    (frame.node < bound) × AreBelow bound frame.rest × AreWithin bound path

-- the path from its first node to its last
abbrev pub path_of : List Frame → List ℕ
path_of [] = []
path_of (frame ∷ path) = path_of path ++ frame.node ∷ []

-- what a node is marked with
abbrev pub mark_of : List ℕ → List ℕ → ℕ → Mark
mark_of path done n =
    if is_among path n then OnPath else (if is_among done n then Done else New)

-- no node of the path stands on it before
abbrev pub AreApart : List Frame → Type 0
AreApart [] = Unit {0}
AreApart (frame ∷ path) = (is_among (path_of path) frame.node ≡ false) × AreApart path

-- what is left of a walk behind the innermost list, with room for so many nodes more
unfoldable pub outer_left : List (List ℕ) → ℕ → List Frame → List ℕ → Walked
outer_left preds room [] done = Ok done
outer_left preds room (frame ∷ path) done =
    all_visited (visited (suc room) preds (path_of path)) (frame.node ∷ done) frame.rest
    >>= λ later. outer_left preds (suc room) path later

-- what is left of a walk
abbrev pub left : List (List ℕ) → ℕ → State → List ℕ → Walked
left preds room state done =
    all_visited (visited room preds (path_of state.path)) done state.rest
    >>= λ later. outer_left preds room state.path later

-- a mark for each node, and nodes alone
pub record IsFit (count : ℕ) (state : State) : Type 0 where
  pub as_many : length state.marks ≡ count
  pub within : AreWithin count state.path
  pub below : AreBelow count state.rest

-- what is left of a walk, where these nodes are done, comes to the same as the whole walk
pub record Leads (preds : List (List ℕ)) (done : List ℕ) (state : State) (whole : Walked)
    : Type 0 where
  pub room : ℕ
  pub rooms : room + length state.path ≡ suc (length preds)
  pub apart : AreApart state.path
  pub marks_are : (n : ℕ) → n < length preds
      → get_or state.marks n New ≡ mark_of (path_of state.path) done n
  pub same : left preds room state done ≡ whole

-- what a step says of the whole walk, where these nodes were done before it
abbrev pub Turned : List (List ℕ) → List ℕ → State → Walked → Turn → Type 0
Turned preds done state whole On = Leads preds done state whole
Turned preds done state whole (Left n) = Leads preds (n ∷ done) state whole
Turned preds done state whole (Closed n) = whole ≡ Err (closed (path_of state.path) n)
Turned preds done state whole Over = whole ≡ Ok done
