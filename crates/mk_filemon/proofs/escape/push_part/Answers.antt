use Rattle.std.proofs.Common.{◌∙◌, ◌++◌, sym, ap, append_assoc}
use Rattle.mk_filemon.specs.Escapes.{escaped, escaped_byte}
use Rattle.mk_filemon.proofs.EscapeLemmas.{special-written, written-end}
use Rattle.mk_filemon.proofs.escape.push_part.Goals as goal

pub returns-in_default : goal.returns-in_default
returns-in_default c =
    let quoted = c.args.quoted in
    let all = c.args.text.now ++ escaped quoted c.args.bytes.now in
    written-end quoted all c.push_plain.new.out c.in_ok-special.special.now
    c.in_default.ensures.cases
    (special-written quoted all c.runs.text c.runs.rest.now c.push_plain.new.out
    c.in_ok-special.special.now c.runs.invariant c.in_ok-special.ensures.pushed
    c.in_ok-special.ensures.rest)

pub runs-preserved : goal.runs-preserved
runs-preserved c =
    let quoted = c.args.quoted in
    let all = c.args.text.now ++ escaped quoted c.args.bytes.now in
    let out = c.push_plain.new.out in
    let more = c.in-Some.more.now in
    ap (λ text. text ++ escaped quoted more) c.in_ok-push_byte.ensures
    ∙ append_assoc out (escaped_byte quoted c.in-Some.byte.now) (escaped quoted more)
    ∙ ap (λ special. out ++ escaped quoted special) (sym c.in-Some.ensures.cases.0)
    ∙ special-written quoted all c.runs.text c.runs.rest.now out c.in_ok-special.special.now
    c.runs.invariant c.in_ok-special.ensures.pushed c.in_ok-special.ensures.rest
