use Rattle.io_ports.proofs.LineLemmas.{each_text_is_cut}
use Rattle.io_ports.proofs.line_reader.each_text_is_cut.Goals as goal

pub returns : goal.returns
returns c = each_text_is_cut
