use Rattle.std.proofs.Common.{◌≡◌, ◌∙◌, true, sym}
use Rattle.std.specs.List.{list_all}
use Rattle.mk_bytes.specs.Paths.{is_name, names_on}
use Rattle.mk_bytes.proofs.PathLemmas.{clean-names}
use Rattle.mk_depline.proofs.NameLemmas.{cleaned-path}
use Rattle.mk_depline.proofs.line.clean.Goals as goal

pub returns-then-are_names : goal.returns-then-are_names
returns-then-are_names c =
    let cwd = c.args.cwd.now in
    let name = c.args.name.now in
    let names : list_all is_name (names_on name) ≡ true =
    rw (← c.bytes.ensures.value) (sym c.are_names.ensures ∙ c.if-are_names.true)
    in
    sym (cleaned-path cwd name ∙ clean-names cwd name names)

pub returns : goal.returns
returns c =
    let is = rw c.bytes-2.ensures.value at c.in_ok-name.ensures in
    is ∙ sym (cleaned-path c.args.cwd.now c.args.name.now)
