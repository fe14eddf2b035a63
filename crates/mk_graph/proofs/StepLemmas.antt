-- One step of a depth-first walk, and what is left of the walk.
use Rattle.std.proofs.Common.{◌≡◌, ℕ, zero, suc, ◌+◌, ◌<◌, ◌≤◌, true, false, List, [], ◌∷◌}
use Rattle.std.proofs.Common.{length, get_or, set, Ok, Err, refl, sym, ◌∙◌, arith, length-set}
use Rattle.std.proofs.lemmas.List.{get_or-replicate, length-replicate}
use Rattle.mk_bytes.specs.Agrees.{◌>>=◌}
use Rattle.mk_graph.specs.Numbers.{AreBelow, EachBelow}
use Rattle.mk_graph.specs.Steps.{Frame, State, first_state, entered, back_to, gone_back}
use Rattle.mk_graph.specs.Steps.{turn_back, AreWithin, path_of, mark_of, AreApart, outer_left}
use Rattle.mk_graph.specs.Steps.{left, IsFit, Leads, Turned}
use Rattle.mk_graph.specs.Walks.{is_among, closed, Walked, all_visited, walked}
use Rattle.mk_graph.specs.declared.walk.Mark.{Mark}
use Rattle.mk_graph.specs.declared.walk.Turn.{Turn}
use Rattle.mk_graph.specs.declared.walk.Mark.TheVariants.{New, OnPath, Done}
use Rattle.mk_graph.proofs.AmongLemmas.{preds-below}
use Rattle.mk_graph.proofs.MarkLemmas.{on_path, is_over, is_new, left-over, left-on, left-new}
use Rattle.mk_graph.proofs.MarkLemmas.{has_room, marks-entered, marks-back}

-- a node that is done is passed over
pub Leads-over : (preds : List (List ℕ)) (done : List ℕ) (marks : List Mark) (path : List Frame)
    (n : ℕ) (more : List ℕ) (whole : Walked) → n < length preds → get_or marks n New ≡ Done
    → Leads preds done (record { marks = marks; path = path; rest = n ∷ more }) whole
    → Leads preds done (record { marks = marks; path = path; rest = more }) whole
Leads-over preds done marks path n more whole within mark leads =
    let over = is_over (is_among (path_of path) n) (is_among done n)
    (sym (leads.marks_are n within) ∙ mark) in
    record {
      room = leads.room;
      rooms = leads.rooms;
      apart = leads.apart;
      marks_are = leads.marks_are;
      same = sym (left-over preds marks path n more done leads.room over.0 over.1)
          ∙ leads.same;
    }

-- with room for its list
closes : (preds : List (List ℕ)) (marks : List Mark) (path : List Frame) (n : ℕ)
    (more done : List ℕ) (whole : Walked) (room : ℕ) → room + length path ≡ suc (length preds)
    → length path ≤ length preds → is_among (path_of path) n ≡ true
    → left preds room (record { marks = marks; path = path; rest = n ∷ more }) done ≡ whole
    → whole ≡ Err (closed (path_of path) n)
closes preds marks path n more done whole zero rooms room on same = absurd (omega arith)
closes preds marks path n more done whole (suc room) rooms enough on same =
    sym same ∙ left-on preds marks path n more done room on

-- a node on the path closes it
pub Leads-closed : (preds : List (List ℕ)) (done : List ℕ) (marks : List Mark)
    (path : List Frame) (n : ℕ) (more : List ℕ) (whole : Walked) → n < length preds → AreWithin (length preds) path
    → get_or marks n New ≡ OnPath
    → Leads preds done (record { marks = marks; path = path; rest = n ∷ more }) whole
    → whole ≡ Err (closed (path_of path) n)
Leads-closed preds done marks path n more whole less within mark leads =
    closes preds marks path n more done whole leads.room leads.rooms
    (has_room (length preds) path within leads.apart)
    (on_path (is_among (path_of path) n) (is_among done n)
    (sym (leads.marks_are n less) ∙ mark))
    leads.same

-- with room for its list
enters : (preds : List (List ℕ)) (marks : List Mark) (path : List Frame) (n : ℕ)
    (more done : List ℕ) (whole : Walked) (room : ℕ) → room + length path ≡ suc (length preds)
    → length path ≤ length preds → length marks ≡ length preds → n < length preds
    → AreApart path
    → ((q : ℕ) → q < length preds → get_or marks q New ≡ mark_of (path_of path) done q)
    → (is_among (path_of path) n ≡ false) × (is_among done n ≡ false)
    → left preds room (record { marks = marks; path = path; rest = n ∷ more }) done ≡ whole
    → Leads preds done (entered preds (record { marks = marks; path = path; rest = more }) n) whole
enters preds marks path n more done whole zero rooms enough as_many less apart are new same =
    absurd (omega arith)
enters preds marks path n more done whole (suc room) rooms enough as_many less apart are new same =
    record {
      room = room;
      rooms = omega arith;
      apart = (new.0, apart);
      marks_are = marks-entered preds marks (path_of path) done n as_many less are;
      same = sym (left-new preds marks path n more done room new.0 new.1) ∙ same;
    }

-- a new node is gone into
pub Leads-entered : (preds : List (List ℕ)) (done : List ℕ) (marks : List Mark)
    (path : List Frame) (n : ℕ) (more : List ℕ) (whole : Walked) → n < length preds → length marks ≡ length preds
    → AreWithin (length preds) path → get_or marks n New ≡ New
    → Leads preds done (record { marks = marks; path = path; rest = n ∷ more }) whole
    → Leads preds done (entered preds (record { marks = marks; path = path; rest = more }) n) whole
Leads-entered preds done marks path n more whole less as_many within mark leads =
    enters preds marks path n more done whole leads.room leads.rooms
    (has_room (length preds) path within leads.apart) as_many less leads.apart leads.marks_are
    (is_new (is_among (path_of path) n) (is_among done n)
    (sym (leads.marks_are n less) ∙ mark))
    leads.same

-- what is left where a list is over
left-back : (preds : List (List ℕ)) (marks : List Mark) (frame : Frame) (path : List Frame)
    (done : List ℕ) (room : ℕ)
    → left preds room (record { marks = marks; path = frame ∷ path; rest = [] }) done
    ≡ left preds (suc room)
    (record { marks = set marks frame.node Done; path = path; rest = frame.rest })
    (frame.node ∷ done)
unfolding all_visited outer_left
left-back preds marks frame path done room = refl

-- nothing is left
left-nothing : (preds : List (List ℕ)) (marks : List Mark) (done : List ℕ) (room : ℕ)
    → left preds room (record { marks = marks; path = []; rest = [] }) done ≡ Ok done
unfolding all_visited outer_left
left-nothing preds marks done room = refl

-- where the list is over, the walk goes back, or it is over
Leads-back : (preds : List (List ℕ)) (done : List ℕ) (marks : List Mark) (path : List Frame)
    (whole : Walked) → length marks ≡ length preds → AreWithin (length preds) path
    → Leads preds done (record { marks = marks; path = path; rest = [] }) whole
    → Turned preds done (back_to (record { marks = marks; path = path; rest = [] }) path) whole
    (turn_back path)
Leads-back preds done marks [] whole as_many within leads =
    sym leads.same ∙ left-nothing preds marks done leads.room
Leads-back preds done marks (frame ∷ path) whole as_many within leads = record {
  room = suc leads.room;
  rooms = let before = leads.rooms in omega (arith, before);
  apart = leads.apart.1;
  marks_are = marks-back preds marks (path_of path) done frame.node as_many within.0
      leads.apart.0 leads.marks_are;
  same = sym (left-back preds marks frame path done leads.room) ∙ leads.same;
}

-- the same for states that are equal to these
pub Leads-gone : (preds : List (List ℕ)) (done : List ℕ) (marks : List Mark) (path : List Frame)
    (state new : State) (turn : Turn) (whole : Walked)
    → state ≡ record { marks = marks; path = path; rest = [] } → new ≡ gone_back state
    → turn ≡ turn_back state.path → IsFit (length preds) state → Leads preds done state whole
    → Turned preds done new whole turn
Leads-gone preds done marks path state new turn whole is gone turns fit leads =
    let fits = rw is at fit in
    let leading = rw is at leads in
    rw (turns, gone, is) (Leads-back preds done marks path whole fits.as_many fits.within leading)

-- a step that adds nothing
last_step : (r : Walked) → (r >>= λ later. Ok later) ≡ r
last_step (Ok done) = refl
last_step (Err walk) = refl

-- before the first step all is left
pub Leads-first : (preds : List (List ℕ)) (from : List ℕ)
    → Leads preds [] (first_state (length preds) from) (walked preds from)
unfolding outer_left
Leads-first preds from = record {
  room = suc (length preds);
  rooms = omega arith;
  apart = tt;
  marks_are = λ n less. get_or-replicate (length preds) n New New less;
  same = last_step (walked preds from);
}

-- what stays: at first, at a new node, and on the way back
pub IsFit-first : (count : ℕ) (from : List ℕ) → AreBelow count from
    → IsFit count (first_state count from)
IsFit-first count from below =
    record { as_many = length-replicate count New; within = tt; below = below }

pub IsFit-entered : (preds : List (List ℕ)) (marks : List Mark) (path : List Frame) (n : ℕ)
    (more : List ℕ) → EachBelow (length preds) preds
    → IsFit (length preds) (record { marks = marks; path = path; rest = n ∷ more })
    → IsFit (length preds) (entered preds (record { marks = marks; path = path; rest = more }) n)
IsFit-entered preds marks path n more below fit = record {
  as_many = length-set marks n OnPath ∙ fit.as_many;
  within = (fit.below.0, fit.below.1, fit.within);
  below = preds-below (length preds) preds n below;
}

IsFit-back : (count : ℕ) (marks : List Mark) (path : List Frame) (rest : List ℕ)
    → IsFit count (record { marks = marks; path = path; rest = rest })
    → IsFit count (back_to (record { marks = marks; path = path; rest = rest }) path)
IsFit-back count marks [] rest fit = fit
IsFit-back count marks (frame ∷ path) rest fit = record {
  as_many = length-set marks frame.node Done ∙ fit.as_many;
  within = fit.within.2;
  below = fit.within.1;
}
