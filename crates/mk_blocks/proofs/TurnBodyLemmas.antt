-- Blocks whose lines are those of a turn's body.
use Rattle.std.proofs.Common.{◌≡◌, ℕ, Bool, true, false, List, [], ◌∷◌, ◌++◌, map, refl, sym, ap}
use Rattle.std.proofs.Common.{◌∙◌, if◌then◌else◌, ◌≤◌, length, Option}
use Rattle.std.specs.List.{AllByRecursion}
use Rattle.mk_lines.specs.Faults.{max_len}
use Rattle.mk_lines.specs.declared.line.LogLine.{LogLine}
use Rattle.mk_for.specs.Substitution.{replaced}
use Rattle.mk_for.proofs.LimitLemmas.{within-short}
use Rattle.mk_turns.specs.Turns.{Turn, turn_at}
use Rattle.mk_blocks.specs.Blocks.{Block, Branches, Ending, Parsed, branches, closed, ending, is_closer}
use Rattle.mk_blocks.specs.Blocks.{is_else, parse, parsed, put}
use Rattle.mk_blocks.specs.Blocks as tree
use Rattle.mk_blocks.specs.Languages.{LineMeaning, Question}
use Rattle.mk_blocks.specs.Meaning.{asked, branch_step, chosen, condition_step, either, line_step}
use Rattle.mk_blocks.specs.Meaning.{meaning, opened_if, turns_step, wanted_step}
use Rattle.mk_blocks.specs.Outcomes.{done, ◌>>=◌}
use Rattle.mk_blocks.specs.Runs.{After, Files, Reads, Run, all_turns, counted, counted_if, next}
use Rattle.mk_blocks.specs.Runs.{next_if}
use Rattle.mk_blocks.specs.Runs.{next_turn, next_turn_if}
use Rattle.mk_blocks.specs.TurnBodies.{TurnsReadBodies}
use Rattle.mk_blocks.specs.declared.language.IncludedFile.{IncludedFile}
use Rattle.mk_blocks.specs.declared.kind.LineKind.{LineKind}
use Rattle.mk_blocks.specs.declared.kind.LineKind.TheVariants as kind
use Rattle.mk_blocks.proofs.OutcomeLemmas.{bind-same}

module _ (f : List ℕ → List ℕ) where
  abbrev with_text : LogLine → LogLine
  with_text l = record { first = l.first; text = f l.text }

  -- a block in which f of each text stands for it
  unfoldable mutual
    block_with : Block → Block
    block_with tree.none = tree.none
    block_with (tree.line counts l rest) = tree.line counts (with_text l) (block_with rest)
    block_with (tree.stop l rest) = tree.stop (with_text l) (block_with rest)
    block_with (tree.file l rest) = tree.file (with_text l) (block_with rest)
    block_with (tree.choice l body others rest) =
        tree.choice (with_text l) (block_with body) (branches_with others) (block_with rest)
    block_with (tree.loop l body rest) =
        tree.loop (with_text l) (block_with body) (block_with rest)

    branches_with : Branches → Branches
    branches_with tree.no_more = tree.no_more
    branches_with (tree.branch last l body others) =
        tree.branch last (with_text l) (block_with body) (branches_with others)

  abbrev ending_with : Ending → Ending
  ending_with e = ending e.kind (with_text e.at) (block_with e.block)

  abbrev parsed_with : Parsed → Parsed
  parsed_with p = parsed (block_with p.block) (map ending_with p.endings)

  closed-with : (endings : List Ending) → closed (map ending_with endings) ≡ parsed_with (closed endings)
  unfolding closed block_with
  closed-with [] = refl
  closed-with (e ∷ endings) = by (is_closer e.kind) (closed-with endings)
    where
      by : (t : Bool) → closed (map ending_with endings) ≡ parsed_with (closed endings)
          → (if t then parsed (block_with e.block) (map ending_with endings)
          else closed (map ending_with endings))
          ≡ parsed_with (if t then parsed e.block endings else closed endings)
      by true same = refl
      by false same = same

  branches-with : (endings : List Ending)
      → branches (map ending_with endings) ≡ branches_with (branches endings)
  unfolding branches block_with
  branches-with [] = refl
  branches-with (e ∷ endings) = by (is_closer e.kind) (branches-with endings)
    where
      by : (t : Bool) → branches (map ending_with endings) ≡ branches_with (branches endings)
          → (if t then tree.no_more
          else tree.branch (is_else e.kind) (with_text e.at) (block_with e.block)
          (branches (map ending_with endings)))
          ≡ branches_with (if t then tree.no_more
          else tree.branch (is_else e.kind) e.at e.block (branches endings))
      by true same = refl
      by false same =
          ap (tree.branch (is_else e.kind) (with_text e.at) (block_with e.block)) same

  put-with : (k : LineKind) (l : LogLine) (p : Parsed)
      → put k (with_text l) (parsed_with p) ≡ parsed_with (put k l p)
  unfolding block_with
  put-with kind.Plain l p = refl
  put-with kind.Uncounted l p = refl
  put-with kind.Break l p = refl
  put-with kind.Include l p = refl
  put-with kind.If l p = rw (branches-with p.endings, closed-with p.endings) refl
  put-with kind.For l p = rw (closed-with p.endings) refl
  put-with kind.ElseIf l p = refl
  put-with kind.Else l p = refl
  put-with kind.EndIf l p = refl
  put-with kind.EndFor l p = refl

  parse-with : (kind_of : List ℕ → LineKind) → ((text : List ℕ) → kind_of (f text) ≡ kind_of text)
      → (lines : List LogLine)
      → parse kind_of (map with_text lines) ≡ parsed_with (parse kind_of lines)
  unfolding parse block_with
  parse-with kind_of same [] = refl
  parse-with kind_of same (l ∷ lines) =
      rw (same l.text, parse-with kind_of same lines) (put-with (kind_of l.text) l (parse kind_of lines))

-- blocks whose lines are all alike
module _ (P : LogLine → Type 0) where
  unfoldable mutual
    Holds : Block → Type 0
    Holds tree.none = Unit {0}
    Holds (tree.line counts l rest) = P l × Holds rest
    Holds (tree.stop l rest) = P l × Holds rest
    Holds (tree.file l rest) = P l × Holds rest
    Holds (tree.choice l body others rest) = P l × Holds body × BranchesHold others × Holds rest
    Holds (tree.loop l body rest) = P l × Holds body × Holds rest

    BranchesHold : Branches → Type 0
    BranchesHold tree.no_more = Unit {0}
    BranchesHold (tree.branch last l body others) = P l × Holds body × BranchesHold others

  abbrev EndingHolds : Ending → Type 0
  EndingHolds e = P e.at × Holds e.block

  abbrev ParsedHolds : Parsed → Type 0
  ParsedHolds p = Holds p.block × AllByRecursion EndingHolds p.endings

  closed-holds : (endings : List Ending) → AllByRecursion EndingHolds endings
      → ParsedHolds (closed endings)
  unfolding closed Holds
  closed-holds [] all = (tt, tt)
  closed-holds (e ∷ endings) all = by (is_closer e.kind) (closed-holds endings all.1)
    where
      by : (t : Bool) → ParsedHolds (closed endings)
          → ParsedHolds (if t then parsed e.block endings else closed endings)
      by true rest = (all.0.1, all.1)
      by false rest = rest

  branches-hold : (endings : List Ending) → AllByRecursion EndingHolds endings
      → BranchesHold (branches endings)
  unfolding branches Holds
  branches-hold [] all = tt
  branches-hold (e ∷ endings) all = by (is_closer e.kind) (branches-hold endings all.1)
    where
      by : (t : Bool) → BranchesHold (branches endings)
          → BranchesHold (if t then tree.no_more
          else tree.branch (is_else e.kind) e.at e.block (branches endings))
      by true rest = tt
      by false rest = (all.0.0, all.0.1, rest)

  put-holds : (k : LineKind) (l : LogLine) (p : Parsed) → P l → ParsedHolds p
      → ParsedHolds (put k l p)
  unfolding Holds
  put-holds kind.Plain l p own holds = ((own, holds.0), holds.1)
  put-holds kind.Uncounted l p own holds = ((own, holds.0), holds.1)
  put-holds kind.Break l p own holds = ((own, holds.0), holds.1)
  put-holds kind.Include l p own holds = ((own, holds.0), holds.1)
  put-holds kind.If l p own holds =
      let behind = closed-holds p.endings holds.1 in
      ((own, holds.0, branches-hold p.endings holds.1, behind.0), behind.1)
  put-holds kind.For l p own holds =
      let behind = closed-holds p.endings holds.1 in
      ((own, holds.0, behind.0), behind.1)
  put-holds kind.ElseIf l p own holds = (tt, ((own, holds.0), holds.1))
  put-holds kind.Else l p own holds = (tt, ((own, holds.0), holds.1))
  put-holds kind.EndIf l p own holds = (tt, ((own, holds.0), holds.1))
  put-holds kind.EndFor l p own holds = (tt, ((own, holds.0), holds.1))

  parse-holds : (kind_of : List ℕ → LineKind) (lines : List LogLine) → AllByRecursion P lines
      → ParsedHolds (parse kind_of lines)
  unfolding parse Holds
  parse-holds kind_of [] all = (tt, tt)
  parse-holds kind_of (l ∷ lines) all =
      put-holds (kind_of l.text) l (parse kind_of lines) all.0 (parse-holds kind_of lines all.1)

all-mapped : {X Y : Type 0} (P : Y → Type 0) (make : X → Y) (xs : List X)
    → AllByRecursion P (map make xs) → AllByRecursion (λ x. P (make x)) xs
all-mapped P make [] all = tt
all-mapped P make (x ∷ xs) all = (all.0, all-mapped P make xs all.1)

module _ {S W F : Type 0} where
  either-same : (given : Bool × Run S) (first one second other : Run S → Reads W F (After S))
      → ((r : Run S) → first r ≡ one r) → ((r : Run S) → second r ≡ other r)
      → either given first second ≡ either given one other
  either-same (true, r) first one second other same alike = same r
  either-same (false, r) first one second other same alike = alike r

  next-same : (a : After S) (rest other : Run S → Reads W F (After S))
      → ((r : Run S) → rest r ≡ other r) → next rest a ≡ next other a
  next-same a rest other same = by a.goes_on
    where
      by : (t : Bool) → next_if t a.run rest ≡ next_if t a.run other
      by true = same a.run
      by false = refl

  turn-same : (a : After S) (turns other : Run S → Reads W F (Run S))
      → ((r : Run S) → turns r ≡ other r) → next_turn turns a ≡ next_turn other a
  turn-same a turns other same = by a.goes_on
    where
      by : (t : Bool) → next_turn_if t a.run turns ≡ next_turn_if t a.run other
      by true = same a.run
      by false = refl

  turns-same : (body other : Turn → Run S → Reads W F (After S))
      → ((turn : Turn) (r : Run S) → body turn r ≡ other turn r) → (turns : List Turn) (r : Run S)
      → all_turns body turns r ≡ all_turns other turns r
  unfolding all_turns
  turns-same body other same [] r = refl
  turns-same body other same (turn ∷ turns) r =
      bind-same (counted r) _ _
      (λ q. ap (λ (o : Reads W F (After S)). o >>= next_turn (all_turns body turns)) (same turn q)
      ∙ bind-same (other turn q) (next_turn (all_turns body turns)) (next_turn (all_turns other turns))
      (λ a. turn-same a (all_turns body turns) (all_turns other turns)
      (λ p. turns-same body other same turns p)))

module _ {S W F : Type 0} (M : LineMeaning S W) (turn : Turn) (files : Files S W F)
    (name : List ℕ) where
  abbrev f : List ℕ → List ℕ
  f text = replaced turn.names turn.words text

  -- in this turn the line is no longer than one may be
  abbrev Short : LogLine → Type 0
  Short l = length (f l.text) ≤ max_len

  -- what is asked of a line inside this turn is asked of the turned line
  asked-turned : {A : Type 0} (question : Question A S W) (turns : List Turn) (l : LogLine)
      (r : Run S) → Short l
      → asked {F = F} question name (turn ∷ turns) l r
      ≡ asked question name turns (with_text f l) r
  asked-turned question turns l r short = rw (within-short max_len (f l.text) short) refl

  line-turned : (counts : Bool) (turns : List Turn) (l : LogLine) (r : Run S) → Short l
      → line_step {F = F} M counts name (turn ∷ turns) l r
      ≡ line_step M counts name turns (with_text f l) r
  line-turned counts turns l r short =
      ap (λ (o : Reads W F (Unit {0} × Run S)). o >>= λ given. done given.1)
      (bind-same (counted_if counts r) _ _ (λ q. asked-turned M.step turns l q short))

  condition-turned : (turns : List Turn) (l : LogLine) (r : Run S) → Short l
      → condition_step {F = F} M name (turn ∷ turns) l r
      ≡ condition_step M name turns (with_text f l) r
  condition-turned turns l r short =
      bind-same (counted r) _ _ (λ q. asked-turned M.condition turns l q short)

  turns-turned : (turns : List Turn) (l : LogLine) (r : Run S) → Short l
      → turns_step {F = F} M name (turn ∷ turns) l r
      ≡ turns_step M name turns (with_text f l) r
  turns-turned turns l r short =
      bind-same (counted r) _ _ (λ q. asked-turned M.turns turns l q short)

  wanted-turned : (turns : List Turn) (l : LogLine) (r : Run S) → Short l
      → wanted_step {F = F} M name (turn ∷ turns) l r
      ≡ wanted_step M name turns (with_text f l) r
  wanted-turned turns l r short =
      bind-same (counted r) _ _ (λ q. asked-turned M.included turns l q short)

  branch-same : (last : Bool) (l : LogLine) (turns : List Turn)
      (first one second other : Run S → Reads W F (After S)) → Short l
      → ((r : Run S) → first r ≡ one r) → ((r : Run S) → second r ≡ other r) → (r : Run S)
      → branch_step M last name (turn ∷ turns) l first second r
      ≡ branch_step M last name turns (with_text f l) one other r
  branch-same true l turns first one second other short same alike r = same r
  branch-same false l turns first one second other short same alike r =
      ap (λ (o : Reads W F (Bool × Run S)). o >>= λ holds. either holds first second)
      (condition-turned turns l r short)
      ∙ bind-same (condition_step M name turns (with_text f l) r) _ _
      (λ given. either-same given first one second other same alike)

  mutual
    unfolding meaning block_with Holds

    meaning-with : (block : Block) (turns : List Turn) → Holds Short block → (r : Run S)
        → meaning M files name block (turn ∷ turns) r
        ≡ meaning M files name (block_with f block) turns r
    meaning-with tree.none turns short r = refl
    meaning-with (tree.line counts l rest) turns short r =
        ap (λ (o : Reads W F (Run S)). o >>= meaning M files name rest (turn ∷ turns))
        (line-turned counts turns l r short.0)
        ∙ bind-same (line_step M counts name turns (with_text f l) r) _ _
        (λ q. meaning-with rest turns short.1 q)
    meaning-with (tree.stop l rest) turns short r = refl
    meaning-with (tree.file l rest) turns short r =
        ap (λ (o : Reads W F (Option IncludedFile × Run S)).
        o >>= opened_if files >>= meaning M files name rest (turn ∷ turns))
        (wanted-turned turns l r short.0)
        ∙ bind-same (wanted_step M name turns (with_text f l) r >>= opened_if files) _ _
        (λ q. meaning-with rest turns short.1 q)
    meaning-with (tree.choice l body others rest) turns short r =
        ap (λ (o : Reads W F (After S)). o >>= next (meaning M files name rest (turn ∷ turns)))
        (branch-same false l turns _ _ _ _ short.0
        (λ q. meaning-with body turns short.1 q)
        (λ q. chosen-with others turns short.2 q) r)
        ∙ bind-same (branch_step M false name turns (with_text f l)
        (meaning M files name (block_with f body) turns)
        (chosen M files name (branches_with f others) turns) r) _ _
        (λ a. next-same a _ _ (λ q. meaning-with rest turns short.3 q))
    meaning-with (tree.loop l body rest) turns short r =
        ap (λ (o : Reads W F (List Turn × Run S)). o
        >>= (λ t. all_turns (λ inner. meaning M files name body (turn ∷ turns ++ inner ∷ [])) t.0 t.1)
        >>= meaning M files name rest (turn ∷ turns))
        (turns-turned turns l r short.0)
        ∙ ap (λ (o : Reads W F (Run S)). o >>= meaning M files name rest (turn ∷ turns))
        (bind-same (turns_step M name turns (with_text f l) r) _ _
        (λ t. turns-same _ _
        (λ inner q. meaning-with body (turns ++ inner ∷ []) short.1 q) t.0 t.1))
        ∙ bind-same (turns_step M name turns (with_text f l) r
        >>= λ t. all_turns (λ inner. meaning M files name (block_with f body) (turns ++ inner ∷ []))
        t.0 t.1) _ _ (λ q. meaning-with rest turns short.2 q)

    chosen-with : (others : Branches) (turns : List Turn) → BranchesHold Short others → (r : Run S)
        → chosen M files name others (turn ∷ turns) r
        ≡ chosen M files name (branches_with f others) turns r
    chosen-with tree.no_more turns short r = refl
    chosen-with (tree.branch last l body others) turns short r =
        branch-same last l turns _ _ _ _ short.0 (λ q. meaning-with body turns short.1 q)
        (λ q. chosen-with others turns short.2 q) r

-- Lines inside a turn mean what its body means.
pub turns-read-bodies : {S W : Type 0} (F : Type 0) (kind_of : List ℕ → LineKind)
    (M : LineMeaning S W) → TurnsReadBodies F kind_of M
turns-read-bodies F kind_of M names words k body same short files name turns r =
    let turn = turn_at names words k in
    let text : List ℕ → List ℕ = λ t. replaced turn.names turn.words t in
    let parsed = parse-with text kind_of same body in
    let each = all-mapped (λ l. length l.text ≤ max_len) (with_text text) body short in
    let all = parse-holds (λ l. length (text l.text) ≤ max_len) kind_of body each in
    meaning-with M turn files name (parse kind_of body).block turns all.0 r
    ∙ ap (λ (p : Parsed). meaning M files name p.block turns r) (sym parsed)
