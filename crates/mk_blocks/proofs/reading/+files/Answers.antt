use Rattle.std.proofs.Common.{◌≡◌, ◌⊎◌, inl, inr, true, ◌+◌, length, Some, None, slice_get, refl, sym, ap, ◌∙◌, arith}
use Rattle.std.proofs.Common.{rules}
use Rattle.std.proofs.lemmas.Result.{err_from_is_err_and}
use Rattle.mk_turns.specs.OpenLoops.{turns_in}
use Rattle.mk_blocks.specs.Blocks.{closed, is_closer, parse, put}
use Rattle.mk_blocks.specs.Calls.{begins_branch, files_in, left_in, Stands}
use Rattle.mk_blocks.specs.Runs.{run_at}
use Rattle.mk_blocks.specs.Outcomes.{◌>>=◌}
use Rattle.mk_blocks.specs.Places as places
use Rattle.mk_blocks.specs.Ties.{sorted}
use Rattle.mk_blocks.specs.declared.fault.FileFault.TheVariants.{TooManyLines, TooManyFiles}
use Rattle.mk_blocks.specs.declared.kind.LineKind.{LineKind}
use Rattle.mk_blocks.specs.declared.kind.LineKind.TheVariants as kind
use Rattle.mk_blocks.specs.declared.kind.LineKind.TheVariants.{Break}
use Rattle.mk_blocks.specs.declared.place.Place.{Place}
use Rattle.mk_blocks.proofs.ClosingLemmas.{branch-ends, closed-behind, closer-ends, leaves-reached}
use Rattle.mk_blocks.proofs.ClosingLemmas.{left-leaves, passed-branch}
use Rattle.mk_blocks.proofs.LineLemmas.{file-counted, file-full, file-none, file_next}
use Rattle.mk_blocks.proofs.IncludeLemmas.{file-read, file-refused, read_next}
use Rattle.mk_blocks.proofs.FileLemmas.{Closes-does, checked_next, closed_next, file-checked}
use Rattle.mk_blocks.proofs.FitLemmas.{Fits-behind, Fits-few, Fits-less, IsBehind-same, IsInside-same}
use Rattle.mk_blocks.proofs.PlaceLemmas.{left-none}
use Rattle.mk_blocks.proofs.SkipLemmas.{drop-shorter, one-taken, outside-none, parse-end}
use Rattle.mk_blocks.proofs.SkipLemmas.{parse-first, parse-none}
use Rattle.mk_blocks.proofs.TieLemmas.{Does-err, Does-here, Does-is, Does-ok, Does-refuse}
use Rattle.mk_blocks.proofs.TieLemmas.{Does-then, Does-want, first-err, first-ok, first-then}
use Rattle.mk_blocks.proofs.reading.+files.Goals as goal

-- a line of another branch, and one that closes a block
begins-branch : (k : LineKind) → (k ≡ kind.ElseIf) ⊎ (k ≡ kind.Else) → begins_branch k ≡ true
begins-branch k (inl is) = ap begins_branch is
begins-branch k (inr is) = ap begins_branch is

closes-block : (k : LineKind) → (k ≡ kind.EndIf) ⊎ (k ≡ kind.EndFor) → is_closer k ≡ true
closes-block k (inl is) = ap is_closer is
closes-block k (inr is) = ap is_closer is

pub include_line-returns-in_err-count_line : goal.include_line-returns-in_err-count_line
include_line-returns-in_err-count_line g t c =
    let ties = g.L.Language.ties in
    let place = c.args.place.now in
    let q = parse ties.kind place.cursor in
    let p = err_from_is_err_and c.from_residual.result c.from_residual.ensures.1 in
    rw (p.1, p.2) (record {
      does = Does-refuse ties sorted c.args.language.now TooManyLines TooManyLines _ refl
          (file-full ties c.args.file.now place.loops place.depth c.args.line.now q c.args.language.now
          c.args.count.now c.in_err-count_line.ensures.err);
      place = tt;
      falls = tt;
      later = tt;
    })

pub include_line-returns-in_err-wanted : goal.include_line-returns-in_err-wanted
include_line-returns-in_err-wanted g t c =
    let ties = g.L.Language.ties in
    let place = c.args.place.now in
    let q = parse ties.kind place.cursor in
    let p = err_from_is_err_and c.from_residual-in_err-wanted.result
    c.from_residual-in_err-wanted.ensures.1 in
    rw (p.1, p.2) (record {
      does = first-err ties sorted (file_next ties c.args.file.now place.loops place.depth c.args.line.now q
          c.args.language.now c.args.count.now)
          (file-counted ties c.args.file.now place.loops place.depth c.args.line.now q c.args.language.now
          c.args.count.now c.count_line.new.count c.in_ok-count_line.ensures.ok)
          (c.in_err-wanted.ensures c.count_line.new.count);
      place = tt;
      falls = tt;
      later = tt;
    })

pub include_line-returns-in_default-clause-does : goal.include_line-returns-in_default-clause-does
include_line-returns-in_default-clause-does g t c =
    let ties = g.L.Language.ties in
    let place = c.args.place.now in
    let q = parse ties.kind place.cursor in
    first-ok ties sorted (file_next ties c.args.file.now place.loops place.depth c.args.line.now q
    c.args.language.now c.args.count.now)
    (file-counted ties c.args.file.now place.loops place.depth c.args.line.now q c.args.language.now
    c.args.count.now c.count_line.new.count c.in_ok-count_line.ensures.ok)
    _ (file-none ties c.args.file.now place.loops place.depth c.args.line.now q c.args.language.now
    c.args.count.now c.included.new.language c.count_line.new.count _ c.in_default.is)
    (c.in_ok-wanted.ensures c.count_line.new.count)

pub include_line-returns-in_default-clause-place : goal.include_line-returns-in_default-clause-place
include_line-returns-in_default-clause-place g t c =
    let place = c.args.place.now in
    record {
      inside = IsInside-same g.L.Language.ties.kind place.loops place.depth place.depth _ _ refl
          c.requires.inside;
      fits = Fits-less place.loops place.depth _ _ place.depth c.requires.fits (omega arith)
          (omega arith);
    }

pub include_line-returns-then-file-eq0-clause-does :
    goal.include_line-returns-then-file-eq0-clause-does
include_line-returns-then-file-eq0-clause-does g t c =
    let ties = g.L.Language.ties in
    let place = c.args.place.now in
    let q = parse ties.kind place.cursor in
    let w = c.in-Some.wanted in
    let y = c.included.new.language in
    let more = c.count_line.new.count in
    first-then ties sorted (file_next ties c.args.file.now place.loops place.depth c.args.line.now q
    c.args.language.now c.args.count.now)
    (file-counted ties c.args.file.now place.loops place.depth c.args.line.now q c.args.language.now
    c.args.count.now more c.in_ok-count_line.ensures.ok)
    (c.in_ok-wanted.ensures c.count_line.new.count)
    (Does-refuse ties sorted y TooManyFiles TooManyFiles _ refl
    (file-refused ties c.args.file.now place.loops place.depth c.args.line.now q c.args.language.now
    c.args.count.now y more _ w c.in-Some.is c.if-file-eq0.true))

pub include_line-returns-in_err-read : goal.include_line-returns-in_err-read
include_line-returns-in_err-read g t c =
    let ties = g.L.Language.ties in
    let place = c.args.place.now in
    let q = parse ties.kind place.cursor in
    let w = c.in-Some.wanted in
    let y = c.included.new.language in
    let more = c.count_line.new.count in
    let p = err_from_is_err_and c.from_residual-in_err-read.result
    c.from_residual-in_err-read.ensures.1 in
    let read = rw (c.bytes.ensures.value, c.bytes-2.ensures.value) at
    c.in_err-read.ensures.does in
    rw (p.1, p.2) (record {
      does = first-then ties sorted (file_next ties c.args.file.now place.loops place.depth c.args.line.now
          q c.args.language.now c.args.count.now)
          (file-counted ties c.args.file.now place.loops place.depth c.args.line.now q c.args.language.now
          c.args.count.now more c.in_ok-count_line.ensures.ok)
          (c.in_ok-wanted.ensures c.count_line.new.count)
          (first-err ties sorted (read_next ties c.args.file.now place.loops place.depth c.args.line.now q
          c.args.language.now c.args.count.now y more _ w c.in-Some.is)
          (file-read ties c.args.file.now place.loops place.depth c.args.line.now q
          c.args.language.now c.args.count.now y more _ w c.in-Some.is c.if-file-eq0.false) read);
      place = tt;
      falls = tt;
      later = tt;
    })

pub include_line-returns-clause-does : goal.include_line-returns-clause-does
include_line-returns-clause-does g t c =
    let ties = g.L.Language.ties in
    let place = c.args.place.now in
    let q = parse ties.kind place.cursor in
    let w = c.in-Some.wanted in
    let y = c.included.new.language in
    let more = c.count_line.new.count in
    let read = rw (c.bytes.ensures.value, c.bytes-2.ensures.value) at
    c.in_ok-read.ensures.does in
    first-then ties sorted (file_next ties c.args.file.now place.loops place.depth c.args.line.now q
    c.args.language.now c.args.count.now)
    (file-counted ties c.args.file.now place.loops place.depth c.args.line.now q c.args.language.now
    c.args.count.now more c.in_ok-count_line.ensures.ok)
    (c.in_ok-wanted.ensures c.count_line.new.count)
    (first-ok ties sorted (read_next ties c.args.file.now place.loops place.depth c.args.line.now q
    c.args.language.now c.args.count.now y more _ w c.in-Some.is)
    (file-read ties c.args.file.now place.loops place.depth c.args.line.now q
    c.args.language.now c.args.count.now y more _ w c.in-Some.is c.if-file-eq0.false) _
    (λ answers. refl) read)

pub include_line-returns-clause-place : goal.include_line-returns-clause-place
include_line-returns-clause-place g t c =
    let place = c.args.place.now in
    record {
      inside = IsInside-same g.L.Language.ties.kind place.loops place.depth place.depth _ _ refl
          c.requires.inside;
      fits = Fits-less place.loops place.depth _ _ place.depth c.requires.fits (omega arith)
          (omega arith);
    }

pub process-returns-in-Plain-clause-does : goal.process-returns-in-Plain-clause-does
process-returns-in-Plain-clause-does g t c = rw c.in-Plain.is c.plain_line.ensures.does

pub process-returns-in-If-clause-does : goal.process-returns-in-If-clause-does
process-returns-in-If-clause-does g t c = rw c.in-If.is c.begin_if.ensures.does

pub process-returns-in-For-clause-does : goal.process-returns-in-For-clause-does
process-returns-in-For-clause-does g t c = rw c.in-For.is c.begin_loop.ensures.does

pub process-returns-in-Include-clause-does : goal.process-returns-in-Include-clause-does
process-returns-in-Include-clause-does g t c = rw c.in-Include.is c.include_line.ensures.does

pub process-returns-in-Uncounted-clause-does : goal.process-returns-in-Uncounted-clause-does
process-returns-in-Uncounted-clause-does g t c =
    rw c.in-Uncounted.is (c.uncounted_line.ensures.does c.args.count.now)

pub process-stop-requires-clause-inside : goal.process-stop-requires-clause-inside
process-stop-requires-clause-inside g t c =
    let kind = g.L.Language.ties.kind in
    let place = c.args.place.now in
    let q = parse kind place.cursor in
    IsInside-same kind place.loops place.depth place.depth (put Break c.args.line.now q) q refl
    (rw c.in-Break.is at c.requires.stands.inside)

pub process-returns-in-Break-clause-does : goal.process-returns-in-Break-clause-does
process-returns-in-Break-clause-does g t c =
    rw c.in-Break.is (c.stop.ensures.does c.args.line.now)

pub process-pass_branches-requires : goal.process-pass_branches-requires
process-pass_branches-requires g t c =
    let place = c.args.place.now in
    let few = Fits-few place.loops place.depth _ c.requires.stands.fits in
    omega (arith, few)

pub process-returns-in_err-pass_branches-in-ElseIf : goal.process-returns-in_err-pass_branches-in-ElseIf
process-returns-in_err-pass_branches-in-ElseIf g t c =
    let p = err_from_is_err_and c.from_residual.result c.from_residual.ensures.1 in
    rw (p.1, p.2) (record {
      does = Does-want g.L.Language.ties sorted _ _ _ refl;
      place = tt;
      falls = tt;
      later = tt;
    })

pub process-returns-in_ok-pass_branches-in-ElseIf-clause-does :
    goal.process-returns-in_ok-pass_branches-in-ElseIf-clause-does
process-returns-in_ok-pass_branches-in-ElseIf-clause-does g t c =
    let ties = g.L.Language.ties in
    let place = c.args.place.now in
    let q = parse ties.kind place.cursor in
    let branch = begins-branch c.args.kind c.in-ElseIf.is in
    let passes = c.in_ok-pass_branches-in-ElseIf.ensures in
    let behind = passes.behind
    ∙ passed-branch ties c.args.file.now c.args.kind c.args.line.now q branch in
    Does-here ties sorted c.args.language.now _ _
    (left-leaves ties c.args.file.now _ _ place.loops c.args.kind c.args.line.now q passes.loops
    behind place.depth c.args.language.now c.args.count.now
    (branch-ends ties c.args.file.now c.args.kind branch) passes.step passes.depth)

pub process-returns-in_ok-pass_branches-in-ElseIf-clause-place :
    goal.process-returns-in_ok-pass_branches-in-ElseIf-clause-place
process-returns-in_ok-pass_branches-in-ElseIf-clause-place g t c =
    let ties = g.L.Language.ties in
    let place = c.args.place.now in
    let q = parse ties.kind place.cursor in
    let branch = begins-branch c.args.kind c.in-ElseIf.is in
    let passes = c.in_ok-pass_branches-in-ElseIf.ensures in
    let behind = passes.behind
    ∙ passed-branch ties c.args.file.now c.args.kind c.args.line.now q branch in
    leaves-reached ties c.args.file.now _ _ place.loops c.args.kind c.args.line.now q passes.loops
    behind place.depth (length place.cursor + 1) passes.step passes.depth
    c.requires.stands.inside c.requires.stands.fits (omega (arith, passes.shorter))

pub process-returns-in-EndIf-clause-does : goal.process-returns-in-EndIf-clause-does
process-returns-in-EndIf-clause-does g t c =
    let ties = g.L.Language.ties in
    let place = c.args.place.now in
    let q = parse ties.kind place.cursor in
    let closer = closes-block c.args.kind c.in-EndIf.is in
    let behind = ap (parse ties.kind) c.leave_block.ensures.cursor
    ∙ closed-behind ties c.args.file.now c.args.kind c.args.line.now q closer in
    Does-here ties sorted c.args.language.now _ _
    (left-leaves ties c.args.file.now c.leave_block.new.place c.leave_block.result place.loops
    c.args.kind
    c.args.line.now q c.leave_block.ensures.loops behind place.depth c.args.language.now
    c.args.count.now
    (closer-ends ties c.args.file.now c.args.kind closer) c.leave_block.ensures.step
    c.leave_block.ensures.depth)

pub process-returns-in-EndIf-clause-place : goal.process-returns-in-EndIf-clause-place
process-returns-in-EndIf-clause-place g t c =
    let ties = g.L.Language.ties in
    let place = c.args.place.now in
    let q = parse ties.kind place.cursor in
    let closer = closes-block c.args.kind c.in-EndIf.is in
    let behind = ap (parse ties.kind) c.leave_block.ensures.cursor
    ∙ closed-behind ties c.args.file.now c.args.kind c.args.line.now q closer in
    let shorter = ap length c.leave_block.ensures.cursor in
    leaves-reached ties c.args.file.now c.leave_block.new.place c.leave_block.result place.loops
    c.args.kind
    c.args.line.now q c.leave_block.ensures.loops behind place.depth (length place.cursor + 1)
    c.leave_block.ensures.step c.leave_block.ensures.depth c.requires.stands.inside
    c.requires.stands.fits (omega (arith, shorter))

pub read_file_in-returns-in_err-check_file : goal.read_file_in-returns-in_err-check_file
read_file_in-returns-in_err-check_file g t c =
    let ties = g.L.Language.ties in
    let p = err_from_is_err_and c.from_residual.result c.from_residual.ensures.1 in
    rw (p.1, p.2) (record {
      does = first-err ties sorted (checked_next ties c.args.room c.args.name.now c.args.text.now
          c.args.language.now c.args.count.now) (file-checked ties c.args.room c.args.name.now
          c.args.text.now c.args.language.now c.args.count.now) c.in_err-check_file.ensures;
      later = tt;
    })

pub read_file_in-returns-in_err-read_lines : goal.read_file_in-returns-in_err-read_lines
read_file_in-returns-in_err-read_lines g t c =
    let ties = g.L.Language.ties in
    let p = err_from_is_err_and c.from_residual-in_err-read_lines.result
    c.from_residual-in_err-read_lines.ensures.1 in
    let read = rw c.new.ensures.value at c.in_err-read_lines.ensures.does in
    rw (p.1, p.2) (record {
      does = first-then ties sorted (checked_next ties c.args.room c.args.name.now c.args.text.now
          c.args.language.now c.args.count.now) (file-checked ties c.args.room c.args.name.now
          c.args.text.now c.args.language.now c.args.count.now) c.in_ok-check_file.ensures
          (first-err ties sorted (closed_next ties) (λ answers. refl) read);
      later = tt;
    })

pub read_file_in-returns-clause-does : goal.read_file_in-returns-clause-does
read_file_in-returns-clause-does g t c =
    let ties = g.L.Language.ties in
    let read = rw c.new.ensures.value at c.in_ok-read_lines.ensures.does in
    first-then ties sorted (checked_next ties c.args.room c.args.name.now c.args.text.now
    c.args.language.now c.args.count.now) (file-checked ties c.args.room c.args.name.now
    c.args.text.now c.args.language.now c.args.count.now) c.in_ok-check_file.ensures
    (first-then ties sorted (closed_next ties) (λ answers. refl) read
    (Closes-does ties c.read_lines.new.count c.close_file.ensures))

pub read_line-returns-in_err-line : goal.read_line-returns-in_err-line
read_line-returns-in_err-line g t c =
    let p = err_from_is_err_and c.from_residual.result c.from_residual.ensures.1 in
    rw (p.1, p.2) (record {
      does = Does-want g.L.Language.ties sorted _ _ _ refl;
      place = tt;
      falls = tt;
      later = tt;
    })

pub read_line-returns-in_default-clause-does : goal.read_line-returns-in_default-clause-does
read_line-returns-in_default-clause-does g t c =
    let ties = g.L.Language.ties in
    let place = c.args.place.now in
    let q = parse ties.kind place.cursor in
    let over : None ≡ slice_get place.cursor 0 = sym c.in_default.is ∙ c.in_ok-line.ensures.first in
    Does-here ties sorted c.args.language.now _ _
    (λ answers. rw (parse-none ties.kind place.cursor over)
    (ap (λ o. o >>= places.outside (ties.meaning answers) (files_in ties c.args.file.now answers)
    c.args.file.now.name.now ties.kind place.loops)
    (left-none (ties.meaning answers) (files_in ties c.args.file.now answers)
    c.args.file.now.name.now
    (turns_in place.loops) place.depth (run_at (ties.state c.args.language.now)
    c.args.count.now))))

pub read_line-returns-in_default-clause-place : goal.read_line-returns-in_default-clause-place
unfolding closed
read_line-returns-in_default-clause-place g t c =
    let ties = g.L.Language.ties in
    let place = c.args.place.now in
    let q = parse ties.kind place.cursor in
    let over : None ≡ slice_get place.cursor 0 = sym c.in_default.is ∙ c.in_ok-line.ensures.first in
    record {
      behind = IsBehind-same ties.kind place.loops place.depth q _
          (rw (
            c.in_ok-line.ensures.rest,
            parse-end ties.kind place.cursor over,
            outside-none ties.kind place.cursor place.depth over,
          ) refl) c.requires.place.inside;
      fits = Fits-behind place.loops place.depth _ _ c.requires.place.fits
          (rw c.in_ok-line.ensures.rest (drop-shorter place.cursor (omega arith)));
    }

pub read_line-process-requires : goal.read_line-process-requires
read_line-process-requires g t c =
    let ties = g.L.Language.ties in
    let place = c.args.place.now in
    let q = parse ties.kind place.cursor in
    let l = c.in-Some.line in
    let k = c.kind-kind.result in
    let some : Some l ≡ slice_get place.cursor 0 = sym c.in-Some.is ∙ c.in_ok-line.ensures.first in
    let first = parse-first ties.kind place.cursor l k some
    (c.kind-kind.ensures ∙ ap ties.kind c.bytes.ensures) in
    let less : length c.next_line.new.self + 1 ≡ length place.cursor =
    rw c.in_ok-line.ensures.rest (one-taken place.cursor l some) in
    let taken : Place =
    record { cursor = c.next_line.new.self; depth = place.depth; loops = place.loops } in
    let stands : Stands ties.kind k l taken =
    record {
      inside = rw (c.in_ok-line.ensures.rest, ← first) c.requires.place.inside;
      fits = rw less c.requires.place.fits;
    } in
    search rules

pub read_line-returns-clause-does : goal.read_line-returns-clause-does
read_line-returns-clause-does g t c =
    let ties = g.L.Language.ties in
    let place = c.args.place.now in
    let q = parse ties.kind place.cursor in
    let l = c.in-Some.line in
    let k = c.kind-kind.result in
    let some : Some l ≡ slice_get place.cursor 0 = sym c.in-Some.is ∙ c.in_ok-line.ensures.first in
    let first = parse-first ties.kind place.cursor l k some
    (c.kind-kind.ensures ∙ ap ties.kind c.bytes.ensures) in
    Does-is ties sorted _
    (λ answers. ap (λ z. left_in ties c.args.file.now place.loops place.depth z c.args.language.now
    c.args.count.now answers) (rw c.in_ok-line.ensures.rest first))
    c.process.ensures.does

pub read_lines-lines-init : goal.read_lines-lines-init
read_lines-lines-init g t c =
    let ties = g.L.Language.ties in
    record {
      so_far = Does-here ties sorted c.args.language.now tt _ (λ answers. rw c.new.ensures refl);
      place = rw c.new.ensures (record { inside = tt; fits = omega (arith, c.requires) });
      later = omega arith;
    }

pub read_lines-returns-in_err-read_on : goal.read_lines-returns-in_err-read_on
read_lines-returns-in_err-read_on g t c =
    let ties = g.L.Language.ties in
    let p = err_from_is_err_and c.from_residual.result c.from_residual.ensures.1 in
    rw (p.1, p.2) (record {
      does = Does-then ties sorted c.lines.invariant.so_far (Does-err ties sorted
          c.in_err-read_on.ensures.does);
      later = tt;
    })

pub read_lines-lines-preserved : goal.read_lines-lines-preserved
read_lines-lines-preserved g t c =
    let ties = g.L.Language.ties in
    record {
      so_far = Does-then ties sorted c.lines.invariant.so_far
          (Does-ok ties sorted tt (λ answers. rw c.if-branch.true refl)
          c.in_ok-read_on.ensures.does);
      place = rw c.if-branch.true at c.in_ok-read_on.ensures.place;
      later = omega (arith, c.in_ok-read_on.ensures.later);
    }

pub read_lines-returns-in-lines-clause-does : goal.read_lines-returns-in-lines-clause-does
read_lines-returns-in-lines-clause-does g t c =
    let ties = g.L.Language.ties in
    Does-then ties sorted c.lines.invariant.so_far
    (Does-ok ties sorted tt (λ answers. rw c.if-branch.false refl) c.in_ok-read_on.ensures.does)

pub read_lines-returns-in-lines-clause-later : goal.read_lines-returns-in-lines-clause-later
read_lines-returns-in-lines-clause-later g t c =
    omega (arith, c.in_ok-read_on.ensures.later, c.lines.invariant.later)

pub read_on-returns-in_err-read_line : goal.read_on-returns-in_err-read_line
read_on-returns-in_err-read_line g t c =
    let p = err_from_is_err_and c.from_residual.result c.from_residual.ensures.1 in
    rw (p.1, p.2) (record {
      does = Does-err g.L.Language.ties sorted c.in_err-read_line.ensures.does;
      place = tt;
      falls = tt;
      later = tt;
    })

pub read_on-returns-in-On-clause-does : goal.read_on-returns-in-On-clause-does
read_on-returns-in-On-clause-does g t c =
    Does-ok g.L.Language.ties sorted _ (λ answers. refl)
    (rw c.in-On.is at c.in_ok-read_line.ensures.does)

pub read_on-returns-in-Ends-clause-does : goal.read_on-returns-in-Ends-clause-does
read_on-returns-in-Ends-clause-does g t c =
    let ties = g.L.Language.ties in
    let read = rw c.in-Ends.is at c.in_ok-read_line.ensures.does in
    Does-then ties sorted read
    (c.leave_body.ensures.does c.args.file.now c.read_line.new.language)

pub read_on-returns-in-Breaks-clause-does : goal.read_on-returns-in-Breaks-clause-does
read_on-returns-in-Breaks-clause-does g t c =
    let ties = g.L.Language.ties in
    let read = rw c.in-Breaks.is at c.in_ok-read_line.ensures.does in
    Does-then ties sorted read
    (c.leave_body-in-Breaks.ensures.does c.args.file.now c.read_line.new.language)
