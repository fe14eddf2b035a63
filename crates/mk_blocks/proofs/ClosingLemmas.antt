-- What is left behind a line that ends a block.
use Rattle.std.proofs.Common.{◌≡◌, ℕ, zero, suc, ◌-◌, ◌≤◌, true, List, length, refl, ap, ◌∙◌, arith}
use Rattle.mk_lines.specs.declared.line.LogLine.{LogLine}
use Rattle.mk_turns.specs.OpenLoops.{turns_in}
use Rattle.mk_turns.specs.Turns.{Turn}
use Rattle.mk_turns.specs.declared.loops.OpenLoop.{OpenLoop}
use Rattle.mk_blocks.specs.Blocks.{Parsed, closed, is_closer, parse, put}
use Rattle.mk_blocks.specs.Calls as calls
use Rattle.mk_blocks.specs.Calls.{Begins, begins_branch, files_in, step_behind}
use Rattle.mk_blocks.specs.Meaning as m
use Rattle.mk_blocks.specs.Runs.{run_at}
use Rattle.mk_blocks.specs.Outcomes.{◌>>=◌}
use Rattle.mk_blocks.specs.Places as p
use Rattle.mk_blocks.specs.Places.{Fits, IsInside, IsPlace, IsReached}
use Rattle.mk_blocks.specs.Skips.{is_ending, outside_of}
use Rattle.mk_blocks.specs.Ties.{Ties}
use Rattle.mk_blocks.specs.declared.kind.LineKind.{LineKind}
use Rattle.mk_blocks.specs.declared.kind.LineKind.TheVariants as kind
use Rattle.mk_blocks.specs.declared.line.OpenFile.{OpenFile}
use Rattle.mk_blocks.specs.declared.place.Place.{Place}
use Rattle.mk_blocks.specs.declared.place.Step.{Step}
use Rattle.mk_blocks.proofs.FitLemmas.{Fits-behind, Fits-less, IsBehind-same, IsInside-same}
use Rattle.mk_blocks.proofs.PlaceLemmas as place

module _ {X W F : Type 0} (ties : Ties X W F) (file : OpenFile) where
  pub ends-here : (loops : List OpenLoop) (l : LogLine) (q : Parsed) (k : LineKind) (x : X)
      (count : ℕ)
      → is_ending k ≡ true → (answers : ties.Answers)
      → calls.left_in ties file loops zero (put k l q) x count answers
      ≡ calls.behind_left ties file loops true x count answers
  unfolding m.meaning p.behind_endings
  ends-here loops l q kind.ElseIf x count ending answers = refl
  ends-here loops l q kind.Else x count ending answers = refl
  ends-here loops l q kind.EndIf x count ending answers = refl
  ends-here loops l q kind.EndFor x count ending answers = refl
  ends-here loops l q kind.Plain x count ending answers = absurd cc
  ends-here loops l q kind.Uncounted x count ending answers = absurd cc
  ends-here loops l q kind.If x count ending answers = absurd cc
  ends-here loops l q kind.For x count ending answers = absurd cc
  ends-here loops l q kind.Break x count ending answers = absurd cc
  ends-here loops l q kind.Include x count ending answers = absurd cc

  -- a line that ends a block has no block before it
  ending-first : (turns : List Turn) (l : LogLine) (q : Parsed) (k : LineKind) (depth : ℕ) (x : X)
      (count : ℕ) (answers : ties.Answers)
      → is_ending k ≡ true
      → p.left (ties.meaning answers) (files_in ties file answers) file.name.now turns depth
      (put k l q)
      (run_at (ties.state x) count)
      ≡ p.behind_endings (ties.meaning answers) (files_in ties file answers) file.name.now turns
      depth
      (put k l q).endings (run_at (ties.state x) count)
  unfolding m.meaning
  ending-first turns l q kind.ElseIf depth x count answers ending = refl
  ending-first turns l q kind.Else depth x count answers ending = refl
  ending-first turns l q kind.EndIf depth x count answers ending = refl
  ending-first turns l q kind.EndFor depth x count answers ending = refl
  ending-first turns l q kind.Plain depth x count answers ending = absurd cc
  ending-first turns l q kind.Uncounted depth x count answers ending = absurd cc
  ending-first turns l q kind.If depth x count answers ending = absurd cc
  ending-first turns l q kind.For depth x count answers ending = absurd cc
  ending-first turns l q kind.Break depth x count answers ending = absurd cc
  ending-first turns l q kind.Include depth x count answers ending = absurd cc

  pub ends-inside : (loops : List OpenLoop) (depth : ℕ) (l : LogLine) (q : Parsed) (k : LineKind)
      (x : X)
      (count : ℕ)
      → is_ending k ≡ true → (answers : ties.Answers)
      → calls.left_in ties file loops (suc depth) (put k l q) x count answers
      ≡ calls.left_in ties file loops depth (closed (put k l q).endings) x count answers
  ends-inside loops depth l q k x count ending answers =
      ap (λ o. o >>= p.outside (ties.meaning answers) (files_in ties file answers) file.name.now
      ties.kind loops)
      (ending-first (turns_in loops) l q k (suc depth) x count answers ending
      ∙ place.behind-closed (ties.meaning answers) (files_in ties file answers) file.name.now
      (turns_in loops)
      depth (put k l q).endings (run_at (ties.state x) count))

  -- the place behind a line that ends a block
  module _ (now : Place) (given : Step) (loops : List OpenLoop) (k : LineKind) (l : LogLine)
      (q : Parsed)
      (same : now.loops ≡ loops) (behind : parse ties.kind now.cursor ≡ closed (put k l q).endings)
    where
      pub left-leaves : (depth : ℕ) (x : X) (count : ℕ)
          → is_ending k ≡ true → given ≡ step_behind depth → now.depth ≡ depth - 1
          → (answers : ties.Answers)
          → calls.left_in ties file loops depth (put k l q) x count answers
          ≡ calls.step_left ties file given now x count answers
      left-leaves zero x count ending is fewer answers =
          rw (is, same) (ends-here loops l q k x count ending answers)
      left-leaves (suc depth) x count ending is fewer answers =
          let less : now.depth ≡ depth = fewer ∙ omega arith in
          rw (is, same, less, behind) (ends-inside loops depth l q k x count ending answers)

      pub leaves-reached : (depth lines : ℕ) → given ≡ step_behind depth → now.depth ≡ depth - 1
          → IsInside ties.kind loops depth (put k l q) → Fits loops depth lines
          → length now.cursor ≤ lines → IsReached ties.kind given now
      unfolding outside_of
      leaves-reached zero lines is fewer inside fits few =
          rw is (record {
            behind = rw same (IsBehind-same ties.kind loops zero (put k l q)
                (parse ties.kind now.cursor)
                behind inside);
            fits = rw same (Fits-behind loops zero lines (length now.cursor) fits few);
          })
      leaves-reached (suc depth) lines is fewer inside fits few =
          let less : now.depth ≡ depth = fewer ∙ omega arith in
          rw is (record {
            inside = rw (same, less) (IsInside-same ties.kind loops (suc depth) depth (put k l q)
                (parse ties.kind now.cursor)
                (ap (λ z. closed (outside_of depth z.endings)) behind) inside);
            fits = rw (same, less) (Fits-less loops (suc depth) lines (length now.cursor) depth fits
                (omega arith) few);
          })

  -- a line that begins another branch is passed over with its block
  pub passed-branch : (k : LineKind) (l : LogLine) (q : Parsed) → begins_branch k ≡ true
      → closed (outside_of zero q.endings) ≡ closed (put k l q).endings
  unfolding closed outside_of
  passed-branch kind.ElseIf l q branch = refl
  passed-branch kind.Else l q branch = refl
  passed-branch kind.Plain l q branch = absurd cc
  passed-branch kind.Uncounted l q branch = absurd cc
  passed-branch kind.If l q branch = absurd cc
  passed-branch kind.EndIf l q branch = absurd cc
  passed-branch kind.For l q branch = absurd cc
  passed-branch kind.EndFor l q branch = absurd cc
  passed-branch kind.Break l q branch = absurd cc
  passed-branch kind.Include l q branch = absurd cc

  pub branch-ends : (k : LineKind) → begins_branch k ≡ true → is_ending k ≡ true
  branch-ends kind.ElseIf branch = refl
  branch-ends kind.Else branch = refl
  branch-ends kind.EndIf branch = refl
  branch-ends kind.EndFor branch = refl
  branch-ends kind.Plain branch = branch
  branch-ends kind.Uncounted branch = branch
  branch-ends kind.If branch = branch
  branch-ends kind.For branch = branch
  branch-ends kind.Break branch = branch
  branch-ends kind.Include branch = branch

  -- a line that closes a block
  pub closed-behind : (k : LineKind) (l : LogLine) (q : Parsed) → is_closer k ≡ true
      → q ≡ closed (put k l q).endings
  unfolding closed
  closed-behind kind.EndIf l q closer = refl
  closed-behind kind.EndFor l q closer = refl
  closed-behind kind.Plain l q closer = absurd cc
  closed-behind kind.Uncounted l q closer = absurd cc
  closed-behind kind.If l q closer = absurd cc
  closed-behind kind.ElseIf l q closer = absurd cc
  closed-behind kind.Else l q closer = absurd cc
  closed-behind kind.For l q closer = absurd cc
  closed-behind kind.Break l q closer = absurd cc
  closed-behind kind.Include l q closer = absurd cc

  pub closer-ends : (k : LineKind) → is_closer k ≡ true → is_ending k ≡ true
  closer-ends kind.EndIf closer = refl
  closer-ends kind.EndFor closer = refl
  closer-ends kind.ElseIf closer = refl
  closer-ends kind.Else closer = refl
  closer-ends kind.Plain closer = closer
  closer-ends kind.Uncounted closer = closer
  closer-ends kind.If closer = closer
  closer-ends kind.For closer = closer
  closer-ends kind.Break closer = closer
  closer-ends kind.Include closer = closer
