-- The table gives a byte to the accumulator only where it may begin a character.
use Rattle.std.proofs.Common.{◌≡◌, ℕ, refl, sym, ap, ◌∙◌}
use Rattle.anstyle_parse.specs.declared.state.definitions.State.{State}
use Rattle.anstyle_parse.specs.declared.state.definitions.State.TheVariants.{Anywhere, CsiEntry, CsiIgnore, CsiIntermediate, CsiParam, DcsEntry, DcsIgnore, DcsIntermediate, DcsParam, DcsPassthrough, Escape, EscapeIntermediate, Ground, OscString, SosPmApcString, Utf8}
use Rattle.anstyle_parse.specs.declared.state.definitions.Action.TheVariants.{BeginUtf8}
use Rattle.anstyle_parse.specs.Machine.Table.{change_at}
use Rattle.anstyle_parse.specs.Views.Parser.{ReachesAccumulator}
use Rattle.anstyle_parse.proofs.Bytes.Classes.{Class, class_of, lead_byte, is_lead_at, is_lead-class}
use Rattle.anstyle_parse.proofs.Machine.Table.{change_of, change_at-class}

-- only in Ground, and only a lead byte. A line for each state, so that its answers compute.
begins_at : (state : State) (class : Class) (b : ℕ) → class_of b ≡ class → (change_of state class).action ≡ BeginUtf8 → ReachesAccumulator state b
begins_at Ground lead_byte b e h = is_lead-class b ∙ ap is_lead_at e
begins_at Utf8 lead_byte b e h = tt
begins_at Utf8 class b e h = tt
begins_at Anywhere lead_byte b e h = absurd (cc)
begins_at CsiEntry lead_byte b e h = absurd (cc)
begins_at CsiIgnore lead_byte b e h = absurd (cc)
begins_at CsiIntermediate lead_byte b e h = absurd (cc)
begins_at CsiParam lead_byte b e h = absurd (cc)
begins_at DcsEntry lead_byte b e h = absurd (cc)
begins_at DcsIgnore lead_byte b e h = absurd (cc)
begins_at DcsIntermediate lead_byte b e h = absurd (cc)
begins_at DcsParam lead_byte b e h = absurd (cc)
begins_at DcsPassthrough lead_byte b e h = absurd (cc)
begins_at Escape lead_byte b e h = absurd (cc)
begins_at EscapeIntermediate lead_byte b e h = absurd (cc)
begins_at OscString lead_byte b e h = absurd (cc)
begins_at SosPmApcString lead_byte b e h = absurd (cc)
begins_at state class b e h = absurd (cc)

pub ReachesAccumulator-begin : (state : State) (b : ℕ) → (change_at state b).action ≡ BeginUtf8 → ReachesAccumulator state b
ReachesAccumulator-begin state b h = begins_at state (class_of b) b refl (ap (λ c. c.action) (sym (change_at-class state b)) ∙ h)
