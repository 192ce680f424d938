use Rattle.screen_calls.proofs.HtmlLemmas.{links-shown, lines_links-shown, blocks_links-shown, text-html_shown, lines_text-shown, blocks_text-shown}
use Rattle.screen_calls.proofs.laws.read_of_shown.Goals as goal

pub returns-clause-links : goal.returns-clause-links
returns-clause-links c = links-shown

pub returns-clause-lines_links : goal.returns-clause-lines_links
returns-clause-lines_links c = lines_links-shown

pub returns-clause-blocks_links : goal.returns-clause-blocks_links
returns-clause-blocks_links c = blocks_links-shown

pub returns-clause-text : goal.returns-clause-text
returns-clause-text c = text-html_shown

pub returns-clause-lines_text : goal.returns-clause-lines_text
returns-clause-lines_text c = lines_text-shown

pub returns-clause-blocks_text : goal.returns-clause-blocks_text
returns-clause-blocks_text c = blocks_text-shown
