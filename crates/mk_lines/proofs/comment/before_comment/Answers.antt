use Rattle.std.proofs.Common.{◌≡◌, ◌+◌, ◌-◌, ◌<◌, ◌≤◌, length, take, drop, Some, None, sym, ◌∙◌, arith, length-drop}
use Rattle.std.proofs.lemmas.List.{take_all}
use Rattle.memchr.specs.Find.{IsFirstByte, is_byte3}
use Rattle.mk_bytes.specs.Bytes.{hash, square_open, backslash}
use Rattle.mk_lines.specs.Comment.{unit_len}
use Rattle.mk_lines.proofs.CommentLemmas.{before_comment-step, before_comment-end, before_comment-skip, before_comment-rest}
use Rattle.mk_lines.proofs.comment.before_comment.Goals as goal

pub returns-then-line-end-eq35 : goal.returns-then-line-end-eq35
returns-then-line-end-eq35 c =
    let line = c.args.line.now in
    let end = c.units.end in
    let run = c.in-Some.skipped in
    let found : IsFirstByte (is_byte3 hash backslash square_open) (drop end line) (Some run)
    = rw c.in-Some.is at c.units.invariant.found in
    sym (before_comment-end line (end + run) (λ under. c.if-line-end-eq35.true))
    ∙ before_comment-skip line end run found ∙ c.units.invariant.kept

pub units-preserved : goal.units-preserved
units-preserved c =
    let line = c.args.line.now in
    let end = c.units.end in
    let run = c.in-Some.skipped in
    let found : IsFirstByte (is_byte3 hash backslash square_open) (drop end line) (Some run)
    = rw c.in-Some.is at c.units.invariant.found in
    let inside : run < length (drop end line) = found.0.high in
    let here : end + run < length line = omega (arith, inside, length-drop end line) in
    let left : take (length line - (end + run)) (drop (end + run) line) ≡ drop (end + run) line
    = take_all _ _ (omega (arith, length-drop (end + run) line)) in
    let len : c.unit_len-end.result ≡ unit_len (drop (end + run) line)
    = rw left at c.unit_len-end.ensures.len in
    let within : c.unit_len-end.result ≤ length (drop (end + run) line)
    = rw left at c.unit_len-end.ensures.within in
    let later = end + run + c.unit_len-end.result in
    let rest : take (length line - later) (drop later line) ≡ drop later line
    = take_all _ _ (omega (arith, length-drop later line)) in
    record {
      within = omega (arith, here, within, length-drop (end + run) line);
      found = rw rest at c.memchr3-found.ensures;
      kept = before_comment-step line (end + run) _ here c.if-line-end-eq35.false len
          ∙ before_comment-skip line end run found ∙ c.units.invariant.kept;
    }

pub returns : goal.returns
returns c =
    let line = c.args.line.now in
    let end = c.units.end in
    let none : IsFirstByte (is_byte3 hash backslash square_open) (drop end line) None
    = rw c.in_default.is at c.units.invariant.found in
    sym (before_comment-rest line end none) ∙ c.units.invariant.kept
