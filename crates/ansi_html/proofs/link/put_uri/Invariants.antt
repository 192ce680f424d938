-- The URI so far, and the parts that are left, are all of it.
use Rattle.std.proofs.Common.{◌≡◌, ◌++◌, map, drop}
use Rattle.anstyle_parse.specs.Stream.Bytes.{semicolon}
use Rattle.anstyle_parse.proofs.Lists.Joins.{behind}
use Rattle.ansi_html.specs.Links.{uri_of}
use Rattle.ansi_html.specs.ShownLinks.{uri_in}
use Rattle.ansi_html.proofs.link.put_uri.Given as goal

abbrev pub invariant-loop-part : goal.invariant-loop-part
invariant-loop-part l = uri_in l.uri ++ behind semicolon (map (λ part. part.now) (drop l.part-index l.others)) ≡ uri_of (map (λ part. part.now) l.parts)
