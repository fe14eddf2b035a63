use Rattle.mk_reader.proofs.MapLemmas.{reads_the_map}
use Rattle.mk_reader.proofs.law.readings_of_maps.Goals as goal

pub returns : goal.returns
returns c = reads_the_map
