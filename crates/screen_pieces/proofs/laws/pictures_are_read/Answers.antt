-- As of any picture whose links are kept.
use Rattle.screen_pieces.proofs.PictureLemmas.{read-picture, IsPicture-drawn, IsXmlText-drawn, length-drawn}
use Rattle.screen_pieces.proofs.laws.pictures_are_read.Goals as goal

pub returns-clause-read_back : goal.returns-clause-read_back
returns-clause-read_back c = read-picture

pub returns-clause-grammar : goal.returns-clause-grammar
returns-clause-grammar c = IsPicture-drawn

pub returns-clause-characters : goal.returns-clause-characters
returns-clause-characters c = IsXmlText-drawn

pub returns-clause-bound : goal.returns-clause-bound
returns-clause-bound c = length-drawn
