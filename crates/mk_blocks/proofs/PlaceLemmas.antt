-- What is left, line by line.
use Rattle.std.proofs.Common.{◌≡◌, ℕ, zero, suc, ◌+◌, ◌≤◌, Bool, true, false, if◌then◌else◌, List}
use Rattle.std.proofs.Common.{[], ◌∷◌, ◌++◌, Some, None, refl, sym, ap, ◌∙◌, add-one}
use Rattle.mk_lines.specs.declared.line.LogLine.{LogLine}
use Rattle.mk_turns.specs.OpenLoops.{turn_of, turns_behind, turns_in}
use Rattle.mk_turns.specs.Turns.{Turn}
use Rattle.mk_turns.specs.declared.loops.OpenLoop.{OpenLoop}
use Rattle.mk_blocks.specs.Blocks.{Block, Ending, Parsed, parsed, none, branches, closed, is_closer}
use Rattle.mk_blocks.specs.Blocks.{is_else, parse, put}
use Rattle.mk_blocks.specs.Blocks as tree
use Rattle.mk_blocks.specs.Languages.{LineMeaning}
use Rattle.mk_blocks.specs.Meaning as m
use Rattle.mk_blocks.specs.Runs as runs
use Rattle.mk_blocks.specs.Runs.{After, Files, IsCounted, Reads, Run, after, run_at}
use Rattle.mk_blocks.specs.Outcomes.{done, refused, ◌>>=◌}
use Rattle.mk_blocks.specs.Places as p
use Rattle.mk_blocks.specs.Skips.{next_branch}
use Rattle.mk_blocks.specs.declared.fault.FileFault.TheVariants.{TooManyLines}
use Rattle.mk_blocks.specs.declared.kind.LineKind.{LineKind}
use Rattle.mk_blocks.specs.declared.kind.LineKind.TheVariants as kind
use Rattle.mk_blocks.proofs.RunLemmas.{counted-not, next-goes_on, next-next, next-same}
use Rattle.mk_blocks.proofs.SkipLemmas.{none_inv, nowhere, some_inv}
use Rattle.mk_blocks.proofs.OutcomeLemmas.{bind-bind, bind-same}

module _ {S W F : Type 0} (M : LineMeaning S W) (files : Files S W F) (name : List ℕ) where
  abbrev pub left : List Turn → ℕ → Parsed → Run S → Reads W F (After S)
  left = p.left M files name

  abbrev meaning : Block → List Turn → Run S → Reads W F (After S)
  meaning b turns = m.meaning M files name b turns

  pub left-start : (turns : List Turn) (q : Parsed) (r : Run S)
      → left turns zero q r ≡ meaning q.block turns r
  unfolding p.behind_endings
  left-start turns q r = next-goes_on (meaning q.block turns r)

  pub left-none : (turns : List Turn) (depth : ℕ) (r : Run S)
      → left turns depth (parsed none []) r ≡ runs.goes_on r
  unfolding p.behind_endings m.meaning
  left-none turns zero r = refl
  left-none turns (suc depth) r = refl

  -- behind a branch that was read comes what is behind its block
  pub behind-closed : (turns : List Turn) (depth : ℕ) (endings : List Ending) (r : Run S)
      → p.behind_endings M files name turns (suc depth) endings r
      ≡ left turns depth (closed endings) r
  unfolding p.behind_endings m.meaning closed
  behind-closed turns depth [] r = sym (left-none turns depth r)
  behind-closed turns depth (e ∷ endings) r =
      let inner : p.behind_endings M files name turns (suc depth) endings r
      ≡ left turns depth (closed endings) r = behind-closed turns depth endings r in
      elim (is_closer e.kind) as (λ b.
      (if b then meaning e.block turns r >>= runs.next (p.behind_endings M files name turns depth
      endings)
      else p.behind_endings M files name turns (suc depth) endings r)
      ≡ left turns depth (if b then parsed e.block endings else closed endings) r)
      [ true ↦ refl | false ↦ inner ]

  -- the branch that was chosen, and what is behind its block
  pub chosen-left : (turns : List Turn) (depth : ℕ) (b : Block) (endings : List Ending) (r : Run S)
      → (meaning b turns r >>= runs.next (left turns depth (closed endings)))
      ≡ left turns (suc depth) (parsed b endings) r
  chosen-left turns depth b endings r =
      sym (next-same (meaning b turns r) _ (left turns depth (closed endings))
      (behind-closed turns depth endings))

  abbrev branches_of : List Turn → List Ending → Run S → Reads W F (After S)
  branches_of turns endings = m.chosen M files name (branches endings) turns

  -- what is left where the first condition of an if-block is known
  pub decided : List Turn → ℕ → Parsed → Bool × Run S → Reads W F (After S)
  decided turns depth q holds =
      m.either holds (meaning q.block turns) (branches_of turns q.endings)
      >>= runs.next (left turns depth (closed q.endings))

  pub decided-true : (turns : List Turn) (depth : ℕ) (q : Parsed) (r : Run S)
      → decided turns depth q (true, r) ≡ left turns (depth + 1) q r
  unfolding decided
  decided-true turns depth q r = rw add-one (chosen-left turns depth q.block q.endings r)

  pub decided-false : (turns : List Turn) (depth : ℕ) (q : Parsed) (r : Run S)
      → decided turns depth q (false, r) ≡ p.unchosen M files name turns depth q.endings r
  unfolding decided
  decided-false turns depth q r = refl

  pub left-if : (turns : List Turn) (depth : ℕ) (l : LogLine) (q : Parsed) (r : Run S)
      → left turns depth (put kind.If l q) r
      ≡ (m.condition_step M name turns l r >>= decided turns depth q)
  unfolding m.meaning decided
  left-if turns depth l q r =
      next-next (m.branch_step M false name turns l (meaning q.block turns)
      (branches_of turns q.endings) r) _ _
      ∙ bind-bind (m.condition_step M name turns l r) _ _

  -- the branches that may still be chosen
  abbrev unchosen : List Turn → ℕ → List Ending → Run S → Reads W F (After S)
  unchosen = p.unchosen M files name

  pub unchosen-none : (turns : List Turn) (depth : ℕ) (endings : List Ending) (q : Parsed)
      (r : Run S)
      → next_branch endings ≡ (None, q) → unchosen turns depth endings r ≡ left turns depth q r
  unfolding m.meaning closed branches
  unchosen-none turns depth [] q r is = ap (λ z. left turns depth z.1 r) is
  unchosen-none turns depth (e ∷ endings) q r is =
      let i = none_inv (is_closer e.kind) (is_else e.kind, e.at) (parsed e.block endings)
      (parsed e.block endings) q is in
      rw i.0 (ap (λ z. left turns depth z r) i.1)

  pub unchosen-else : (turns : List Turn) (depth : ℕ) (endings : List Ending) (l : LogLine)
      (q : Parsed) (r : Run S)
      → next_branch endings ≡ (Some (true, l), q)
      → unchosen turns depth endings r ≡ left turns (depth + 1) q r
  unfolding m.meaning closed branches
  unchosen-else turns depth [] l q r is = absurd (nowhere is)
  unchosen-else turns depth (e ∷ endings) l q r is =
      let i = some_inv (is_closer e.kind) (is_else e.kind, e.at) (true, l) (parsed e.block endings)
      (parsed e.block endings) q is in
      let last : is_else e.kind ≡ true = ap (λ z. z.0) i.1 in
      rw (i.0, last, add-one)
      (chosen-left turns depth e.block endings r ∙ ap (λ z. left turns (suc depth) z r) i.2)

  pub unchosen-next : (turns : List Turn) (depth : ℕ) (endings : List Ending) (l : LogLine)
      (q : Parsed) (r : Run S)
      → next_branch endings ≡ (Some (false, l), q)
      → unchosen turns depth endings r
      ≡ (m.condition_step M name turns l r >>= decided turns depth q)
  unfolding m.meaning closed branches decided
  unchosen-next turns depth [] l q r is = absurd (nowhere is)
  unchosen-next turns depth (e ∷ endings) l q r is =
      let i = some_inv (is_closer e.kind) (is_else e.kind, e.at) (false, l) (parsed e.block endings)
      (parsed e.block endings) q is in
      let other : is_else e.kind ≡ false = ap (λ z. z.0) i.1 in
      let at : e.at ≡ l = ap (λ z. z.1) i.1 in
      rw (i.0, other, at, ← i.2)
      (bind-bind (m.condition_step M name turns l r) _ _)

  module _ (kinds : List ℕ → LineKind) where
    abbrev outside : List OpenLoop → After S → Reads W F (Run S)
    outside = p.outside M files name kinds

    abbrev left_in : List OpenLoop → ℕ → Parsed → Run S → Reads W F (Run S)
    left_in = p.left_in M files name kinds

    -- one line at the place that is read

    pub in-line : (loops : List OpenLoop) (depth : ℕ) (counts : Bool) (l : LogLine) (b : Block)
        (endings : List Ending) (r : Run S)
        → left_in loops depth (parsed (tree.line counts l b) endings) r
        ≡ (runs.counted_if counts r >>= λ s. m.asked M.step name (turns_in loops) l s
        >>= λ given. left_in loops depth (parsed b endings) given.1)
    unfolding m.meaning
    in-line loops depth counts l b endings r =
        ap (λ o. o >>= outside loops)
        (bind-bind (m.line_step M counts name (turns_in loops) l r) (meaning b
        (turns_in loops)) _)
        ∙ bind-bind (m.line_step M counts name (turns_in loops) l r) _ _
        ∙ bind-bind (runs.counted_if counts r >>= m.asked M.step name (turns_in loops) l) _ _
        ∙ bind-bind (runs.counted_if counts r) _ _

    pub in-stop : (loops : List OpenLoop) (depth : ℕ) (l : LogLine) (q : Parsed) (r : Run S)
        → left_in loops depth (put kind.Break l q) r
        ≡ (runs.counted r >>= λ s. outside loops (after false s))
    unfolding m.meaning
    in-stop loops depth l q r =
        bind-bind (runs.counted r >>= runs.stops) _ _
        ∙ bind-bind (runs.counted r) _ _

    pub in-file : (loops : List OpenLoop) (depth : ℕ) (l : LogLine) (q : Parsed) (r : Run S)
        → left_in loops depth (put kind.Include l q) r
        ≡ (runs.counted r >>= λ s. m.asked M.included name (turns_in loops) l s
        >>= λ wanted. m.opened_if files wanted >>= left_in loops depth q)
    unfolding m.meaning
    in-file loops depth l q r =
        let wanted = m.wanted_step M name (turns_in loops) l r in
        ap (λ o. o >>= outside loops)
        (bind-bind (wanted >>= m.opened_if files) (meaning q.block (turns_in loops)) _)
        ∙ bind-bind (wanted >>= m.opened_if files) _ _
        ∙ bind-bind wanted _ _
        ∙ bind-bind (runs.counted r) _ _

    pub in-for : (loops : List OpenLoop) (depth : ℕ) (l : LogLine) (q : Parsed) (r : Run S)
        → left_in loops depth (put kind.For l q) r
        ≡ (runs.counted r >>= λ s. m.asked M.turns name (turns_in loops) l s
        >>= λ given. p.turns_left M files name kinds loops depth q given.0 given.1)
    unfolding m.meaning
    in-for loops depth l q r =
        let turns = turns_in loops in
        let body = λ (t : List Turn × Run S). runs.all_turns (λ turn. meaning q.block (turns ++ turn
        ∷ [])) t.0 t.1 in
        ap (λ o. o >>= outside loops)
        (bind-bind (m.turns_step M name turns l r >>= body) (meaning
        (closed q.endings).block turns) _)
        ∙ bind-bind (m.turns_step M name turns l r >>= body) _ _
        ∙ bind-bind (m.turns_step M name turns l r) _ _
        ∙ bind-bind (runs.counted r) _ _

    -- behind the body of a loop

    pub outside-break : (o : OpenLoop) (outer : List OpenLoop) (r : Run S)
        → outside (o ∷ outer) (after false r) ≡ left_in outer o.depth (p.behind_body kinds o) r
    unfolding p.outside
    outside-break o outer r = refl

    abbrev turns_left : List OpenLoop → ℕ → Parsed → List Turn → Run S → Reads W F (Run S)
    turns_left = p.turns_left M files name kinds

    pub outside-end : (o : OpenLoop) (outer : List OpenLoop) (r : Run S)
        → outside (o ∷ outer) (after true r)
        ≡ turns_left outer o.depth (parse kinds o.body) (turns_behind o) r
    unfolding p.outside
    outside-end o outer r = refl

    pub turns_left-none : (loops : List OpenLoop) (depth : ℕ) (q : Parsed) (r : Run S)
        → turns_left loops depth q [] r ≡ left_in loops depth (closed q.endings) r
    unfolding runs.all_turns
    turns_left-none loops depth q r = refl

    pub turns_left-full : (loops : List OpenLoop) (depth : ℕ) (q : Parsed) (turn : Turn)
        (turns : List Turn) (s : S) (count : ℕ) → runs.max_lines ≤ count
        → turns_left loops depth q (turn ∷ turns) (run_at s count) ≡ refused TooManyLines
    unfolding runs.all_turns
    turns_left-full loops depth q turn turns s count full =
        ap (λ o. o >>= left_in loops depth (closed q.endings)) (counted-not s count _ full)

    -- a turn is counted, and then its body is read
    pub turns_left-turn : (o : OpenLoop) (loops : List OpenLoop) (r : Run S)
        → turns_left loops o.depth (parse kinds o.body) (turn_of o ∷ turns_behind o) r
        ≡ (runs.counted r >>= left_in (o ∷ loops) zero (parse kinds o.body))
    unfolding runs.all_turns p.outside
    turns_left-turn o loops r =
        let rest = left_in loops o.depth (p.behind_body kinds o) in
        let body = λ (turn : Turn). meaning (parse kinds o.body).block (turns_in loops ++ turn
        ∷ []) in
        let others = runs.next_turn (runs.all_turns body (turns_behind o)) in
        bind-bind (runs.counted r) (λ s. body (turn_of o) s >>= others) rest
        ∙ bind-same (runs.counted r) _ _ (λ s. bind-bind (body (turn_of o) s) others rest
        ∙ ap (λ x. x >>= outside (o ∷ loops))
        (sym (left-start (turns_in (o ∷ loops)) (parse kinds o.body) s)))

    -- where a file begins
    pub left_in-start : (q : Parsed) (r : Run S)
        → left_in [] zero q r ≡ (meaning q.block [] r >>= λ a. done a.run)
    unfolding p.outside
    left_in-start q r = ap (λ o. o >>= (λ a. done a.run)) (left-start [] q r)

    pub outside-none : (a : After S) → outside [] a ≡ done a.run
    unfolding p.outside
    outside-none a = refl
