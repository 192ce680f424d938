use Rattle.std.proofs.Common.{false}
use Rattle.anstyle_parse.proofs.Lawful.Calls.{lawful}
use Rattle.ansi_strip.proofs.Showable.{AreShowable-lawful}
use Rattle.ansi_html.proofs.BlockLemmas.{seen-blocked_html, read-blocked_html, text-blocked_html, IsUtf8-blocked_html}
use Rattle.ansi_html.proofs.PartLemmas.{AreBlocksOf-lines}
use Rattle.ansi_html.proofs.WholeBlockLemmas.{AreBlocks-html}
use Rattle.ansi_html.proofs.BlockBoundLemmas.{length-blocked_html, length-numbered_html}
use Rattle.ansi_html.proofs.laws.blocks.Goals as goal

pub returns-clause-same : goal.returns-clause-same
returns-clause-same c = seen-blocked_html

pub returns-clause-read_back : goal.returns-clause-read_back
returns-clause-read_back c = read-blocked_html

pub returns-clause-text : goal.returns-clause-text
returns-clause-text c = text-blocked_html

pub returns-clause-lines : goal.returns-clause-lines
returns-clause-lines c = AreBlocksOf-lines

pub returns-clause-grammar : goal.returns-clause-grammar
returns-clause-grammar c = λ numbered styling bytes calls are. AreBlocks-html numbered styling calls (AreShowable-lawful false calls (lawful bytes calls are))

pub returns-clause-utf8 : goal.returns-clause-utf8
returns-clause-utf8 c = λ numbered styling bytes calls are. IsUtf8-blocked_html numbered styling calls (AreShowable-lawful false calls (lawful bytes calls are))

pub returns-clause-bound : goal.returns-clause-bound
returns-clause-bound c = length-blocked_html

pub returns-clause-lines_bound : goal.returns-clause-lines_bound
returns-clause-lines_bound c = length-numbered_html
