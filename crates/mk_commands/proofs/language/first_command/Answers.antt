use Rattle.std.proofs.Common.{◌≡◌, ◌+◌, ◌-◌, [], Some, length, take, drop, position, sym, ◌∙◌, arith}
use Rattle.std.proofs.lemmas.Grind.{common_steps}
use Rattle.std.proofs.lemmas.List.{take-map, drop-map}
use Rattle.mk_commands.specs.Language.{is_semicolon}
use Rattle.mk_commands.specs.Words.{held}
use Rattle.mk_commands.proofs.PartLemmas.{position-map, slice_split-cut, slice_split-whole}
use Rattle.mk_commands.proofs.language.first_command.Goals as goal

pub returns-in-Some-clause-commands : goal.returns-in-Some-clause-commands
returns-in-Some-clause-commands c =
    let words = c.args.words.now in
    let at = c.in-Some.at in
    let rest : take (length words - (at + 1)) (drop (at + 1) words) ≡ drop (at + 1) words =
    grind (arith, common_steps) in
    let is : position is_semicolon (held words) ≡ Some at =
    position-map is_semicolon (λ word. word.now) words
    ∙ sym c.first_semicolon.ensures ∙ c.in-Some.is in
    let cut = slice_split-cut is_semicolon [] (held words) at is in
    let first = take-map (λ word. word.now) at words in
    let others = drop-map (λ word. word.now) (at + 1) words in
    cc

pub returns-in-None-clause-commands : goal.returns-in-None-clause-commands
returns-in-None-clause-commands c =
    let words = c.args.words.now in
    slice_split-whole is_semicolon (held words)
    (position-map is_semicolon (λ word. word.now) words
    ∙ sym c.first_semicolon.ensures ∙ c.in-None.is)
