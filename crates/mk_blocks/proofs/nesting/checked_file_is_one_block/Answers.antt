use Rattle.mk_lines.specs.Lines.{lines_from}
use Rattle.mk_blocks.proofs.SpelledLemmas.{is_one_block}
use Rattle.mk_blocks.proofs.nesting.checked_file_is_one_block.Goals as goal

pub returns : goal.returns
returns g c = is_one_block g.L.Language.ties.kind (lines_from 1 c.args.text.now) c.requires
