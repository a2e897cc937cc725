use Rattle.std.proofs.Common.{ap, ◌∙◌, sym, length}
use Rattle.io_ports.proofs.LineLemmas.{search-found, search-none}
use Rattle.io_ports.proofs.ahead.Ahead.line_len.Goals as goal

pub returns-in-Some : goal.returns-in-Some
returns-in-Some c = search-found _ c.args.self.now c.args.searched c.in-Some.at c.bytes-held.ensures.bytes c.requires.within c.requires.unfed c.in-Some.ensures

pub returns-in-None : goal.returns-in-None
returns-in-None c =
    ap length c.bytes-held.ensures.bytes
    ∙ sym (search-none _ c.args.self.now c.args.searched c.bytes-held.ensures.bytes c.requires.within c.requires.unfed c.in-None.ensures)
