use Rattle.screen_html.proofs.BlockLemmas.{AreBlocksOf-shown}
use Rattle.screen_html.proofs.BlockPartLemmas.{AreBlocksOfFragments-shown}
use Rattle.screen_html.proofs.BlockReadLemmas.{seen-blocks, read-blocks, text-blocks, IsUtf8-blocks}
use Rattle.screen_html.proofs.laws.blocks.Goals as goal

pub returns-clause-parts : goal.returns-clause-parts
returns-clause-parts c = AreBlocksOf-shown

pub returns-clause-grammar : goal.returns-clause-grammar
returns-clause-grammar c = AreBlocksOfFragments-shown

pub returns-clause-same : goal.returns-clause-same
returns-clause-same c = seen-blocks

pub returns-clause-read_back : goal.returns-clause-read_back
returns-clause-read_back c = read-blocks

pub returns-clause-text : goal.returns-clause-text
returns-clause-text c = text-blocks

pub returns-clause-utf8 : goal.returns-clause-utf8
returns-clause-utf8 c = IsUtf8-blocks
