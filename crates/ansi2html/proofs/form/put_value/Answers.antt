-- What is escaped stays within a value.
use Rattle.ansi_html.proofs.ReadLemmas.{seen-escaped_value}
use Rattle.ansi2html.proofs.form.put_value.Goals as goal

pub returns-clause-stays_within : goal.returns-clause-stays_within
returns-clause-stays_within g c = λ opened tag name value rest. seen-escaped_value opened tag name value c.args.text.now rest
