use Rattle.bf_text.proofs.decoding.Reports.{parts_of_report}
use Rattle.bf_text.proofs.laws.the_bytes_of_a_report_determine_its_parts.Goals as goal

pub returns : goal.returns
returns c = parts_of_report
