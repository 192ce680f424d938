-- What a writer of HTML in lines does by a call, from what the writer within it does.
use Rattle.std.proofs.Common.{◌≡◌, ◌<◌, ℕ, Bool, true, false, eqb, List, [], ◌∷◌, ◌++◌, ◌&&◌, eqb-true, codes, length, map, refl, sym, ap, ap₂, ◌∙◌, subst, append_assoc, append-nil, arith, length-append}
use Rattle.std.specs.Prelude.{encode_utf8, if◌then◌else◌}
use Rattle.std.specs.Str.{IsUtf8, chars, encode_utf8_all}
use Rattle.std.proofs.lemmas.Bool.{and_parts}
use Rattle.std.proofs.lemmas.List.{nil_from_length}
use Rattle.std.proofs.lemmas.Str.{encodes-chars}
use Rattle.anstyle_parse.specs.declared.io.devices.Sink.{Ghosts as SinkOf}
use Rattle.anstyle_parse.specs.Stream.Call.{Call, print, execute}
use Rattle.anstyle_parse.specs.Stream.Texts.{text_calls}
use Rattle.anstyle_parse.specs.Io.Output.{Adds}
use Rattle.anstyle_parse.proofs.Written.Output.{Adds-nil, Adds-append}
use Rattle.anstyle_parse.proofs.Characters.Scalars.{length-encode-some}
use Rattle.ansi_strip.specs.Strip.{is_layout, stripped_call}
use Rattle.ansi_style.specs.Style.{plain}
use Rattle.ansi_style.proofs.EqualityLemmas.{are_equal-refl, are_equal-same}
use Rattle.ansi_html.specs.declared.scheme.Styling.{Styling}
use Rattle.ansi_html.specs.declared.performer.HtmlWriter.{HtmlWriter}
use Rattle.ansi_html.specs.declared.lines.LinesWriter.{LinesWriter}
use Rattle.ansi_html.specs.Affordable.{feed_counts, earned, earned_by_text, is_paid, left_of}
use Rattle.ansi_html.specs.Links.{is_none}
use Rattle.ansi_html.specs.Html.{is_plain, Element, element, no_element, element_end, Standing, after_text, is_executed, call_html, standing_after, html_from, standing_at_end}
use Rattle.ansi_html.specs.Lines.{line_end, Lined, lined, text_number, before_text, line_closing, ended, going_on, line_ended, after_feed, after_others, lined_call, lined_after, lined_from, lined_at_end}
use Rattle.ansi_html.specs.Writer as writer
use Rattle.ansi_html.specs.Liner.{output_of, styling_of, lined_of, TakesCall, TakesCalls}
use Rattle.ansi_html.proofs.AffordableLemmas.{earned-more}
use Rattle.ansi_html.proofs.HtmlLemmas.{after_text-some, call_html-other, standing_after-other}

-- what ends no element
pub element_end-none : element_end no_element ≡ []
element_end-none = ap (λ (plain_is : Bool). (if plain_is then [] else codes "</span>") ++ []) (are_equal-refl plain)

-- an element of the plain style and of no link
pub none-shown : (it : Element) → (is_plain it.style && is_none it.link) ≡ true → it ≡ no_element
none-shown it none =
    let both = and_parts (is_plain it.style) (is_none it.link) none in
    ap₂ element (are_equal-same it.style plain both.0) (nil_from_length it.link (eqb-true (length it.link) 0 both.1))

-- a call that has text and is no line feed
module _ (styling : Styling) (it : Lined) (call : Call) (other : is_executed 0x0A call ≡ false) (some : 0 < length (stripped_call call)) where
  pub lined_call-text : lined_call styling it call ≡ before_text it ++ call_html styling it.at call
  lined_call-text =
      let text = call_html styling it.at call in
      ap₂ (λ (begin : List ℕ) (feed : Bool). begin ++ (text ++ (if feed then element_end it.at.selected ++ line_end else [])))
      (after_text-some [] (before_text it) (stripped_call call) some) other
      ∙ ap (λ l. before_text it ++ l) (append-nil text)

  pub lined_after-text : lined_after call it ≡ lined (standing_after call it.at) (text_number it) true (earned (length (stripped_call call)) it.spare)
  lined_after-text =
      let bytes = stripped_call call in
      let at = standing_after call it.at in
      let earns = earned (length bytes) it.spare in
      ap (λ (feed : Bool). if feed then after_feed call it else after_others call it) other
      ∙ ap₂ (λ (number : ℕ) (is_open : Bool). lined at number is_open (earned_by_text bytes it.spare)) (after_text-some it.number (text_number it) bytes some) (after_text-some it.is_open true bytes some)
      ∙ ap (lined at (text_number it) true) (after_text-some it.spare earns bytes some)

-- printed characters, in a line that is open, and in any
module _ (styling : Styling) where
  lined_from-open : (number spare : ℕ) (at : Standing) (cs : List ℕ) → lined_from styling (lined at number true spare) (map print cs) ≡ html_from styling at (map print cs)
  lined_from-open number spare at [] = refl
  lined_from-open number spare at (c ∷ cs) =
      let it = lined at number true spare in
      ap₂ (λ text after. text ++ lined_from styling after (map print cs))
      (lined_call-text styling it (print c) refl (length-encode-some c)) (lined_after-text styling it (print c) refl (length-encode-some c))
      ∙ ap (λ l. call_html styling at (print c) ++ l) (lined_from-open number (earned (length (encode_utf8 c)) spare) (standing_after (print c) at) cs)

  -- what is spare after a character and others is what is spare after both
  earned-characters : (c spare : ℕ) (cs : List ℕ)
      → earned_by_text (encode_utf8_all cs) (earned (length (encode_utf8 c)) spare) ≡ earned (length (encode_utf8_all (c ∷ cs))) spare
  earned-characters c spare cs =
      earned-more (length (encode_utf8 c)) spare (encode_utf8_all cs)
      ∙ ap (λ n. earned n spare) (sym (length-append (encode_utf8 c) (encode_utf8_all cs)))

  some-characters : (c : ℕ) (cs : List ℕ) → 0 < length (encode_utf8_all (c ∷ cs))
  some-characters c cs = omega (arith, length-append (encode_utf8 c) (encode_utf8_all cs), length-encode-some c)

  lined_at_end-open : (number spare : ℕ) (at : Standing) (cs : List ℕ)
      → lined_at_end (lined at number true spare) (map print cs) ≡ lined (standing_at_end at (map print cs)) number true (earned_by_text (encode_utf8_all cs) spare)
  lined_at_end-open number spare at [] = refl
  lined_at_end-open number spare at (c ∷ cs) =
      let after = standing_after (print c) at in
      ap (λ it. lined_at_end it (map print cs)) (lined_after-text styling (lined at number true spare) (print c) refl (length-encode-some c))
      ∙ lined_at_end-open number (earned (length (encode_utf8 c)) spare) after cs
      ∙ ap (lined (standing_at_end after (map print cs)) number true)
      (earned-characters c spare cs ∙ sym (after_text-some spare (earned (length (encode_utf8_all (c ∷ cs))) spare) (encode_utf8_all (c ∷ cs)) (some-characters c cs)))

  lined_from-prints : (it : Lined) (cs : List ℕ) → 0 < length (encode_utf8_all cs) → lined_from styling it (map print cs) ≡ before_text it ++ html_from styling it.at (map print cs)
  lined_from-prints it [] some = absurd (omega arith)
  lined_from-prints it (c ∷ cs) some =
      let text = call_html styling it.at (print c) in
      let after = standing_after (print c) it.at in
      ap₂ (λ here next. here ++ lined_from styling next (map print cs))
      (lined_call-text styling it (print c) refl (length-encode-some c)) (lined_after-text styling it (print c) refl (length-encode-some c))
      ∙ ap (λ l. (before_text it ++ text) ++ l) (lined_from-open (text_number it) (earned (length (encode_utf8 c)) it.spare) after cs)
      ∙ append_assoc (before_text it) text (html_from styling after (map print cs))

  lined_at_end-prints : (it : Lined) (cs : List ℕ) → 0 < length (encode_utf8_all cs)
      → lined_at_end it (map print cs) ≡ lined (standing_at_end it.at (map print cs)) (text_number it) true (earned (length (encode_utf8_all cs)) it.spare)
  lined_at_end-prints it [] some = absurd (omega arith)
  lined_at_end-prints it (c ∷ cs) some =
      let after = standing_after (print c) it.at in
      ap (λ next. lined_at_end next (map print cs)) (lined_after-text styling it (print c) refl (length-encode-some c))
      ∙ lined_at_end-open (text_number it) (earned (length (encode_utf8 c)) it.spare) after cs
      ∙ ap (lined (standing_at_end after (map print cs)) (text_number it) true) (earned-characters c it.spare cs)

  -- a text
  module _ (it : Lined) (text : List ℕ) (utf8 : IsUtf8 text) (some : 0 < length text) where
    some_characters : 0 < length (encode_utf8_all (chars text))
    some_characters = omega (arith, ap length (encodes-chars text utf8))

    pub lined_from-text : lined_from styling it (text_calls text) ≡ before_text it ++ html_from styling it.at (text_calls text)
    lined_from-text = lined_from-prints it (chars text) some_characters

    pub lined_at_end-text : lined_at_end it (text_calls text) ≡ lined (standing_at_end it.at (text_calls text)) (text_number it) true (earned (length text) it.spare)
    lined_at_end-text =
        lined_at_end-prints it (chars text) some_characters
        ∙ ap (λ l. lined (standing_at_end it.at (text_calls text)) (text_number it) true (earned (length l) it.spare)) (encodes-chars text utf8)

-- a control that is no text
module _ (styling : Styling) (it : Lined) (b : ℕ) (other : eqb b 0x0A ≡ false) (no : is_layout b ≡ false) where
  no_text : stripped_call (execute b) ≡ []
  no_text = ap (λ (layout : Bool). if layout then b ∷ [] else []) no

  pub lined_call-control : lined_call styling it (execute b) ≡ []
  lined_call-control =
      ap₂ (λ (bytes html : List ℕ). after_text [] (before_text it) bytes ++ (html ++ line_closing it (eqb b 0x0A))) no_text (call_html-other styling it.at b no)
      ∙ ap (λ (feed : Bool). if feed then element_end it.at.selected ++ line_end else []) other

  pub lined_after-control : lined_after (execute b) it ≡ it
  lined_after-control =
      ap (λ (feed : Bool). if feed then after_feed (execute b) it else after_others (execute b) it) other
      ∙ ap₂ (λ (after : Standing) (text : List ℕ). lined after (after_text it.number (text_number it) text) (after_text it.is_open true text) (earned_by_text text it.spare))
      (standing_after-other styling it.at b no) no_text

-- A writer that has begun a line where none was open, for text of so many bytes.
pub record Begins {W : Type 0} (sink : SinkOf W) (count : ℕ) (old begun : LinesWriter W) : Type 0 where
  pub styling : styling_of begun ≡ styling_of old
  pub standing : lined_of begun ≡ lined (lined_of old).at (text_number (lined_of old)) true (earned count (lined_of old).spare)
  pub added : Adds sink (before_text (lined_of old)) (output_of old) (output_of begun)

-- where a link that is selected goes on if that is paid
abbrev pub paying : Lined → Lined
paying it =
    lined (going_on (is_paid it.spare it.at.selected.link) it.at) it.number it.is_open (left_of it.spare it.at.selected.link)

-- A writer whose link has paid to go on, or has ended.
pub record Pays {W : Type 0} (old new : LinesWriter W) : Type 0 where
  pub output : output_of new ≡ output_of old
  pub styling : styling_of new ≡ styling_of old
  pub standing : lined_of new ≡ paying (lined_of old)

module _ {W : Type 0} (sink : SinkOf W) (count : ℕ) (old begun : LinesWriter W) (begins : Begins sink count old begun) where
  abbrev it : Lined
  it = lined_of old

  -- the writer within it stands as before
  at-begun : writer.standing_of begun.html ≡ it.at
  at-begun = ap (λ (l : Lined). l.at) begins.standing

  -- It takes a call,
  pub TakesCall-text : (call : Call) → is_executed 0x0A call ≡ false → 0 < length (stripped_call call) → count ≡ length (stripped_call call) → (html : HtmlWriter W)
      → writer.Takes sink begun.html call html → TakesCall sink old call (record begun { html = html })
  TakesCall-text call other some counted html takes = record {
    styling = takes.styling ∙ begins.styling;
    standing = ap (λ at. lined at begun.number begun.is_open (lined_of begun).spare) takes.standing
        ∙ ap (λ (l : Lined). lined (standing_after call l.at) l.number l.is_open l.spare) begins.standing
        ∙ ap (λ n. lined (standing_after call it.at) (text_number it) true (earned n it.spare)) counted
        ∙ sym (lined_after-text (styling_of old) it call other some);
    added = subst (λ t. Adds sink t (output_of old) (writer.output_of html))
        (ap₂ (λ styling at. before_text it ++ call_html styling at call) begins.styling at-begun ∙ sym (lined_call-text (styling_of old) it call other some))
        (Adds-append sink (before_text it) (call_html (styling_of begun) (writer.standing_of begun.html) call) (output_of old) (output_of begun) (writer.output_of html) begins.added takes.added);
  }

  -- a line feed, after which the line ends, and its link goes on or ends,
  pub TakesCall-feed : count ≡ feed_counts → (html closed : HtmlWriter W) → writer.Takes sink begun.html (execute 0x0A) html
      → writer.styling_of closed ≡ writer.styling_of html → writer.standing_of closed ≡ ended (writer.standing_of html)
      → Adds sink (element_end (writer.standing_of html).shown ++ line_end) (writer.output_of html) (writer.output_of closed)
      → (new : LinesWriter W) → Pays (record begun { html = closed; is_open = false }) new
      → TakesCall sink old (execute 0x0A) new
  TakesCall-feed counted html closed takes same ends closes new pays =
      let feed = execute 0x0A in
      let after = takes.standing ∙ ap (standing_after feed) at-begun in
      let text = call_html (styling_of begun) (writer.standing_of begun.html) feed in
      let close = element_end (writer.standing_of html).shown ++ line_end in
      record {
        styling = pays.styling ∙ same ∙ takes.styling ∙ begins.styling;
        standing = pays.standing
            ∙ ap₂ (λ at (l : Lined). paying (lined at l.number false l.spare)) (ends ∙ ap ended after) begins.standing
            ∙ ap (λ n. line_ended (standing_after feed it.at) (text_number it) (earned n it.spare)) counted;
        added = subst (λ output. Adds sink (lined_call (styling_of old) it feed) (output_of old) output) (sym pays.output)
            (subst (λ t. Adds sink t (output_of old) (writer.output_of closed))
            (ap₂ (λ styling at. before_text it ++ (call_html styling at feed ++ close)) begins.styling at-begun
            ∙ ap (λ (at : Standing). before_text it ++ (call_html (styling_of old) it.at feed ++ (element_end at.shown ++ line_end))) after)
            (Adds-append sink (before_text it) (text ++ close) (output_of old) (output_of begun) (writer.output_of closed) begins.added
            (Adds-append sink text close (output_of begun) (writer.output_of html) (writer.output_of closed) takes.added closes)));
      }

  -- and a text.
  pub TakesCalls-text : (text : List ℕ) → IsUtf8 text → 0 < length text → count ≡ length text → (html : HtmlWriter W)
      → writer.TakesAll sink begun.html (text_calls text) html → TakesCalls sink old (text_calls text) (record begun { html = html })
  TakesCalls-text text utf8 some counted html takes = record {
    styling = takes.styling ∙ begins.styling;
    standing = ap (λ at. lined at begun.number begun.is_open (lined_of begun).spare) takes.standing
        ∙ ap (λ (l : Lined). lined (standing_at_end l.at (text_calls text)) l.number l.is_open l.spare) begins.standing
        ∙ ap (λ n. lined (standing_at_end it.at (text_calls text)) (text_number it) true (earned n it.spare)) counted
        ∙ sym (lined_at_end-text (styling_of old) it text utf8 some);
    added = subst (λ t. Adds sink t (output_of old) (writer.output_of html))
        (ap₂ (λ styling at. before_text it ++ html_from styling at (text_calls text)) begins.styling at-begun ∙ sym (lined_from-text (styling_of old) it text utf8 some))
        (Adds-append sink (before_text it) (writer.text_from begun.html (text_calls text)) (output_of old) (output_of begun) (writer.output_of html) begins.added takes.added);
  }

-- A control that is no text writes nothing.
pub TakesCall-control : {W : Type 0} (sink : SinkOf W) (old : LinesWriter W) (b : ℕ) → eqb b 0x0A ≡ false → is_layout b ≡ false → TakesCall sink old (execute b) old
TakesCall-control sink old b other clear = record {
  styling = refl;
  standing = sym (lined_after-control (styling_of old) (lined_of old) b other clear);
  added = subst (λ t. Adds sink t (output_of old) (output_of old)) (sym (lined_call-control (styling_of old) (lined_of old) b other clear)) (Adds-nil sink (output_of old));
}
