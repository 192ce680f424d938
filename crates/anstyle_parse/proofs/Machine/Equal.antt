-- `==` of parsers is an equivalence, and equal parsers stand for the same machine.
use Rattle.std.proofs.Common.{◌≡◌, Bool, true, false, ◌&&◌, eqb, refl, ap, ap₂, rules}
use Rattle.std.specs.Prelude.{⊤}
use Rattle.std.specs.Str.{bytes_eq}
use Rattle.std.specs.Bool.{beq}
use Rattle.std.proofs.lemmas.Bool.{and_parts, eqb-true}
use Rattle.std.proofs.lemmas.Slice.Eq.{bytes_eq-Decides}
use Rattle.std.specs.Cmp.{IsEquivalence}
use Rattle.std.proofs.lemmas.Cmp.{and_equiv, on_equiv}
use denote.Enum.Bare.{sameb, same_true}
use Rattle.anstyle_parse.specs.declared.params.Params.{Params}
use Rattle.anstyle_parse.specs.declared.utf8.Front.{Front}
use Rattle.anstyle_parse.specs.declared.utf8.Front.TheVariants.{Empty, One, Two, Three}
use Rattle.anstyle_parse.specs.declared.accumulator.Utf8Parser.{Utf8Parser}
use Rattle.anstyle_parse.specs.declared.parser.Parser.{Parser}
use Rattle.anstyle_parse.specs.declared.parser.header.Header.{Header}
use Rattle.anstyle_parse.specs.declared.parser.command.Command.{Command}
use Rattle.anstyle_parse.specs.declared.state.definitions.State.{State}
use Rattle.anstyle_parse.specs.contracts.state.definitions.State.{the_type}
use Rattle.anstyle_parse.specs.contracts.state.definitions.StateEq.TheImpl.Laws.{laws-law as state_laws}
use Rattle.anstyle_parse.specs.contracts.parser.header.HeaderEq.TheImpl.Laws.{laws-law as header_laws}
use Rattle.anstyle_parse.specs.contracts.parser.command.CommandEq.TheImpl.Laws.{laws-law as command_laws}
use Rattle.anstyle_parse.specs.contracts.utf8.FrontPartialEq.TheImpl.{ghosts}
use Rattle.anstyle_parse.specs.contracts.utf8.FrontEq.TheImpl.Laws.{laws-law as front_laws}
use Rattle.anstyle_parse.specs.Machine.Step.{Machine, new_machine}
use Rattle.anstyle_parse.specs.Views.Header.{heading_of}
use Rattle.anstyle_parse.specs.Views.Command.{texting_of}
use Rattle.anstyle_parse.specs.Views.Parser.{machine_of}
use Rattle.anstyle_parse.proofs.Machine.Actions.{with_header_of, with_text_of}

-- what `==` compares: every field
abbrev same_params : Params → Params → Bool
same_params p q =
    bytes_eq p.numbers q.numbers && (eqb p.starts q.starts && (eqb p.open_fields q.open_fields && eqb p.len q.len))

abbrev same_header : Header → Header → Bool
same_header h k =
    bytes_eq h.intermediates k.intermediates && (eqb h.intermediate_count k.intermediate_count && (beq h.ignoring k.ignoring
    && (same_params h.params k.params && eqb h.number k.number)))

abbrev same_command : Command → Command → Bool
same_command c d =
    bytes_eq c.text.items d.text.items && (bytes_eq c.lengths d.lengths && (eqb c.parts d.parts && eqb c.closed d.closed))

abbrev pub same_fields : Parser Utf8Parser → Parser Utf8Parser → Bool
same_fields a b =
    sameb the_type a.state b.state && (same_header a.header b.header && (same_command a.command b.command && ghosts.eq a.accumulator.decoder b.accumulator.decoder))

-- an equivalence at each field is one of the whole
pub same_fields-equivalence : IsEquivalence same_fields
same_fields-equivalence =
    and_equiv (on_equiv (λ p. p.state) state_laws)
    (and_equiv (on_equiv (λ p. p.header) header_laws)
    (and_equiv (on_equiv (λ p. p.command) command_laws)
    (on_equiv (λ p. p.accumulator.decoder) front_laws)))

-- equal fronts of characters
front_same : (x y : Front) → ghosts.eq x y ≡ true → x ≡ y
front_same Empty Empty h = refl
front_same (One a) (One b) h = ap One (eqb-true a b h)
front_same (Two a b) (Two c d) h =
    let h0 = and_parts (eqb a c) (eqb b d) h in
    ap₂ Two (eqb-true a c h0.0) (eqb-true b d h0.1)
front_same (Three a b c) (Three d e f) h =
    let h0 = and_parts (eqb a d) (eqb b e && eqb c f) h in
    let h1 = and_parts (eqb b e) (eqb c f) h0.1 in
    let e0 : a ≡ d = eqb-true a d h0.0 in
    let e1 : b ≡ e = eqb-true b e h1.0 in
    let e2 : c ≡ f = eqb-true c f h1.1 in
    cc
front_same x y h = cc

flag_same : (x y : Bool) → beq x y ≡ true → x ≡ y
flag_same true true h = refl
flag_same false false h = refl
flag_same x y h = cc

-- headers whose fields are equal have said the same
heading_of-same : (h k : Header) → same_header h k ≡ true → heading_of h ≡ heading_of k
heading_of-same h k same =
    let h0 = and_parts _ _ same in
    let h1 = and_parts _ _ h0.1 in
    let h2 = and_parts _ _ h1.1 in
    let h3 = and_parts _ _ h2.1 in
    let p0 = and_parts _ _ h3.0 in
    let p1 = and_parts _ _ p0.1 in
    let p2 = and_parts _ _ p1.1 in
    let intermediates : h.intermediates ≡ k.intermediates = (bytes_eq-Decides h.intermediates k.intermediates).0 h0.0 in
    let intermediate_count : h.intermediate_count ≡ k.intermediate_count = eqb-true _ _ h1.0 in
    let ignoring : h.ignoring ≡ k.ignoring = flag_same h.ignoring k.ignoring h2.0 in
    let numbers : h.params.numbers ≡ k.params.numbers = (bytes_eq-Decides h.params.numbers k.params.numbers).0 p0.0 in
    let starts : h.params.starts ≡ k.params.starts = eqb-true _ _ p1.0 in
    let open_fields : h.params.open_fields ≡ k.params.open_fields = eqb-true _ _ p2.0 in
    let len : h.params.len ≡ k.params.len = eqb-true _ _ p2.1 in
    let number : h.number ≡ k.number = eqb-true _ _ h3.1 in
    cc

-- and commands whose fields are equal have the same text in the same parts
texting_of-same : (c d : Command) → same_command c d ≡ true → texting_of c ≡ texting_of d
texting_of-same c d same =
    let c0 = and_parts _ _ same in
    let c1 = and_parts _ _ c0.1 in
    let c2 = and_parts _ _ c1.1 in
    let text : c.text.items ≡ d.text.items = (bytes_eq-Decides c.text.items d.text.items).0 c0.0 in
    let lengths : c.lengths ≡ d.lengths = (bytes_eq-Decides c.lengths d.lengths).0 c1.0 in
    let parts : c.parts ≡ d.parts = eqb-true _ _ c2.0 in
    let closed : c.closed ≡ d.closed = eqb-true _ _ c2.1 in
    cc

-- a parser's machine, of the machines of its parts
whole_of : State → Utf8Parser → Machine ⊤ → Machine ⊤ → Machine Utf8Parser
whole_of state accumulator heading texting =
    with_text_of texting (with_header_of heading (record (new_machine accumulator) { state = state }))

-- parsers whose fields are equal stand for the same machine
pub machine_of-same : (a b : Parser Utf8Parser) → same_fields a b ≡ true → machine_of a ≡ machine_of b
unfolding whole_of
machine_of-same a b same =
    let h0 = and_parts _ _ same in
    let h1 = and_parts _ _ h0.1 in
    let h2 = and_parts _ _ h1.1 in
    let state : a.state ≡ b.state = same_true the_type (search rules) a.state b.state h0.0 in
    let heading = heading_of-same a.header b.header h1.0 in
    let texting = texting_of-same a.command b.command h2.0 in
    let decoder : a.accumulator.decoder ≡ b.accumulator.decoder = front_same a.accumulator.decoder b.accumulator.decoder h2.1 in
    let accumulator : a.accumulator ≡ b.accumulator = ap (λ d. record { decoder = d }) decoder in
    let same_whole : whole_of a.state a.accumulator (heading_of a.header) (texting_of a.command) ≡ whole_of b.state b.accumulator (heading_of b.header) (texting_of b.command) = cc in
    same_whole
