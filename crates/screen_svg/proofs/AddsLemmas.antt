-- Attributes, tags and elements are written, one after another.
use Rattle.std.proofs.Common.{◌≡◌, ℕ, List, [], ◌∷◌, ◌++◌, codes, map, refl, sym, ap, ◌∙◌, subst, append_assoc, append-nil}
use Rattle.std.specs.List.{flat_map}
use Rattle.std.proofs.lemmas.Grind.{flat_map-append}
use Rattle.anstyle_parse.specs.declared.io.devices.Sink.{Ghosts as SinkOf}
use Rattle.anstyle_parse.specs.declared.io.output.Output.{Output}
use Rattle.anstyle_parse.specs.Io.Output.{Adds}
use Rattle.anstyle_parse.proofs.Written.Output.{Adds-append, Adds-nil}
use Rattle.ansi_html.specs.Html.{escaped, escaped_text}
use Rattle.screen_svg.specs.Xml.{Attribute, attribute, Event, start, byte, end, attribute_xml, event_xml, xml}
use Rattle.screen_svg.specs.Picture.{element}

-- the bytes of a text are written as it is escaped
pub xml-bytes : (text : List ℕ) → xml (map byte text) ≡ escaped_text text
xml-bytes [] = refl
xml-bytes (b ∷ text) = ap (λ l. escaped b ++ l) (xml-bytes text)

module _ {W : Type 0} (sink : SinkOf W) where
  pub Adds-xml : (one more : List Event) (a b c : Output W) → Adds sink (xml one) a b → Adds sink (xml more) b c → Adds sink (xml (one ++ more)) a c
  Adds-xml one more a b c first second =
      subst (λ t. Adds sink t a c) (sym (flat_map-append event_xml one more)) (Adds-append sink (xml one) (xml more) a b c first second)

  pub Adds-escaped : (one more : List ℕ) (a b c : Output W) → Adds sink (escaped_text one) a b → Adds sink (escaped_text more) b c
      → Adds sink (escaped_text (one ++ more)) a c
  Adds-escaped one more a b c first second =
      subst (λ t. Adds sink t a c) (sym (flat_map-append escaped one more)) (Adds-append sink (escaped_text one) (escaped_text more) a b c first second)

  -- an attribute, from its name on
  pub Adds-attribute : (name value raw : List ℕ) (a b c d : Output W) → raw ≡ escaped_text value
      → Adds sink (codes " " ++ (name ++ codes "=\"")) a b → Adds sink raw b c → Adds sink (codes "\"") c d
      → Adds sink (attribute_xml (attribute name value)) a d
  Adds-attribute name value raw a b c d is first second third =
      let quoted = raw ++ codes "\"" in
      subst (λ t. Adds sink t a d)
      (ap (λ l. codes " " ++ l) (append_assoc name (codes "=\"") quoted) ∙ ap (λ l. codes " " ++ (name ++ (codes "=\"" ++ (l ++ codes "\"")))) is)
      (Adds-append sink (codes " " ++ (name ++ codes "=\"")) quoted a b d first (Adds-append sink raw (codes "\"") b c d second third))

  -- the name of one, in three parts
  pub Adds-name : (name : List ℕ) (a b c d : Output W) → Adds sink (codes " ") a b → Adds sink name b c → Adds sink (codes "=\"") c d
      → Adds sink (codes " " ++ (name ++ codes "=\"")) a d
  Adds-name name a b c d first second third =
      Adds-append sink (codes " ") (name ++ codes "=\"") a b d first (Adds-append sink name (codes "=\"") b c d second third)

  -- one more, before others; and the last
  pub Adds-more : (it : Attribute) (others : List Attribute) (a b c : Output W) → Adds sink (attribute_xml it) a b
      → Adds sink (flat_map attribute_xml others) b c → Adds sink (flat_map attribute_xml (it ∷ others)) a c
  Adds-more it others a b c first second = Adds-append sink (attribute_xml it) (flat_map attribute_xml others) a b c first second

  pub Adds-last : (it : Attribute) (a b : Output W) → Adds sink (attribute_xml it) a b → Adds sink (flat_map attribute_xml (it ∷ [])) a b
  Adds-last it a b first = subst (λ t. Adds sink t a b) (sym (append-nil (attribute_xml it))) first

  pub Adds-attributes : (one more : List Attribute) (a b c : Output W) → Adds sink (flat_map attribute_xml one) a b
      → Adds sink (flat_map attribute_xml more) b c → Adds sink (flat_map attribute_xml (one ++ more)) a c
  Adds-attributes one more a b c first second =
      subst (λ t. Adds sink t a c) (sym (flat_map-append attribute_xml one more))
      (Adds-append sink (flat_map attribute_xml one) (flat_map attribute_xml more) a b c first second)

  -- a start tag, and an end tag
  pub Adds-start : (name : List ℕ) (attributes : List Attribute) (a b c d : Output W) → Adds sink (codes "<" ++ name) a b
      → Adds sink (flat_map attribute_xml attributes) b c → Adds sink (codes ">") c d → Adds sink (xml (start name attributes ∷ [])) a d
  Adds-start name attributes a b c d first second third =
      let values = flat_map attribute_xml attributes in
      subst (λ t. Adds sink t a d)
      (sym (append-nil (codes "<" ++ (name ++ (values ++ codes ">")))))
      (subst (λ t. Adds sink t a d) (append_assoc (codes "<") name (values ++ codes ">"))
      (Adds-append sink (codes "<" ++ name) (values ++ codes ">") a b d first (Adds-append sink values (codes ">") b c d second third)))

  pub Adds-end : (name : List ℕ) (a b c d : Output W) → Adds sink (codes "</") a b → Adds sink name b c → Adds sink (codes ">") c d
      → Adds sink (xml (end name ∷ [])) a d
  Adds-end name a b c d first second third =
      subst (λ t. Adds sink t a d) (sym (append-nil (codes "</" ++ (name ++ codes ">"))))
      (Adds-append sink (codes "</") (name ++ codes ">") a b d first (Adds-append sink name (codes ">") b c d second third))

  -- an element of text, and an empty one
  pub Adds-element : (name : List ℕ) (attributes : List Attribute) (text : List ℕ) (a b c d : Output W)
      → Adds sink (xml (start name attributes ∷ [])) a b → Adds sink (escaped_text text) b c → Adds sink (xml (end name ∷ [])) c d
      → Adds sink (xml (element name attributes text)) a d
  Adds-element name attributes text a b c d first second third =
      Adds-xml (start name attributes ∷ []) (map byte text ++ (end name ∷ [])) a b d first
      (Adds-xml (map byte text) (end name ∷ []) b c d (subst (λ t. Adds sink t b c) (sym (xml-bytes text)) second) third)

  pub Adds-empty : (name : List ℕ) (attributes : List Attribute) (a b c : Output W)
      → Adds sink (xml (start name attributes ∷ [])) a b → Adds sink (xml (end name ∷ [])) b c → Adds sink (xml (element name attributes [])) a c
  Adds-empty name attributes a b c first second = Adds-element name attributes [] a b b c first (Adds-nil sink b) second
