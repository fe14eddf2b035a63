use Rattle.std.proofs.Common.{◌≡◌, refl, sym, ap, ◌∙◌}
use Rattle.mk_lines.specs.Comment.{before_comment, unescaped}
use Rattle.mk_bytes.specs.Texts.{without_blanks_after as trimmed}
use Rattle.mk_lines.proofs.CommentLemmas.{before_comment-rest, unescaped-take, unescaped-without}
use Rattle.mk_lines.proofs.comment.cut_comment.Goals as goal

pub returns-in_default : goal.returns-in_default
returns-in_default c =
    let line = c.args.line.now in
    let kept : before_comment line ≡ line = before_comment-rest line 0 c.in_default.ensures in
    let plain : unescaped (trimmed line) ≡ trimmed line = unescaped-take line _ c.in_default.ensures in
    c.without_blanks_after.ensures ∙ sym plain ∙ ap (λ bytes. unescaped (trimmed bytes)) (sym kept)

pub returns-in-None : goal.returns-in-None
returns-in-None c =
    sym (unescaped-without c.without_blanks_after-kept.result.now c.in-None.ensures)
    ∙ rw (c.without_blanks_after-kept.ensures, c.before_comment.ensures) refl
