use Rattle.std.proofs.Common.{◌≡◌, ◌+◌, ◌-◌, length, take, drop, sym, ◌∙◌, arith}
use Rattle.std.proofs.lemmas.Grind.{common_steps}
use Rattle.mk_commands.specs.Words.{is_newline}
use Rattle.mk_commands.proofs.PartLemmas.{slice_split-cut, slice_split-whole}
use Rattle.mk_commands.proofs.word.first_line.Goals as goal

pub returns-in-Some : goal.returns-in-Some
returns-in-Some c =
    let text = c.args.text.now in
    let at = c.in-Some.at in
    let rest : take (length text - (at + 1)) (drop (at + 1) text) ≡ drop (at + 1) text =
    grind (arith, common_steps) in
    rw rest (slice_split-cut is_newline 0 text at (sym c.first_newline.ensures ∙ c.in-Some.is))

pub returns-in-None : goal.returns-in-None
returns-in-None c =
    slice_split-whole is_newline c.args.text.now (sym c.first_newline.ensures ∙ c.in-None.is)
