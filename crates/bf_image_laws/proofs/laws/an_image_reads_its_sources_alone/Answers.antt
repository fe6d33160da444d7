use Rattle.bf_image.proofs.keeping.Sources.{image_same}
use Rattle.bf_image_laws.proofs.laws.an_image_reads_its_sources_alone.Goals as goal

pub returns : goal.returns
returns c = image_same
