-- No definition, but proofs: the language wants those of a trait's laws among the specs.
-- The inert calls of lists, one after another.
use Rattle.std.proofs.Common.{Bool, true, false, cond, List, [], ◌∷◌, ◌++◌, filter, sym, subst}
use Rattle.std.proofs.lemmas.List.Elements.{filter-append}
use Rattle.anstyle_parse.specs.Stream.Call.{Call}
use Rattle.anstyle_parse.specs.Stream.Texts.{FollowsCalls}
use Rattle.ansi_strip.specs.declared.inert.Inert.{Inert}
use Rattle.ansi_strip.specs.Inert.{is_inert}
use Rattle.ansi_strip.specs.Passing.{performer_in, HandsOnWhere, HandsOn, ReceivesInert}

module _ {P : Type 0} (means : P → Call → P → Type 0) (receives : P → List Call → P → Type 0) where
  one_where : (t : Bool) → ((performer : P) → receives performer [] performer)
      → ((old : P) (call : Call) (new : P) → means old call new → receives old (call ∷ []) new)
      → (old : P) (call : Call) (new : P) → HandsOnWhere t means old call new → receives old (cond t (call ∷ []) []) new
  one_where true none one old call new is = one old call new is
  one_where false none one old call new is = subst (λ (p : P). receives old [] p) (sym is) (none old)

  pub receives-one : ((performer : P) → receives performer [] performer)
      → ((old : P) (call : Call) (new : P) → means old call new → receives old (call ∷ []) new)
      → (old : Inert P) (call : Call) (new : Inert P) → HandsOn means old call new → ReceivesInert receives old (call ∷ []) new
  receives-one none one old call new is = one_where (is_inert call) none one (performer_in old) call (performer_in new) is

module _ {P : Type 0} (receives : P → List Call → P → Type 0) where
  pub receives-none : ((performer : P) → receives performer [] performer) → (performer : Inert P) → ReceivesInert receives performer [] performer
  receives-none none performer = none (performer_in performer)

  pub receives-more : ((old middle new : P) (calls more : List Call) → receives old calls middle → receives middle more new → receives old (calls ++ more) new)
      → (old middle new : Inert P) (calls more : List Call) → ReceivesInert receives old calls middle → ReceivesInert receives middle more new
      → ReceivesInert receives old (calls ++ more) new
  receives-more join old middle new calls more first second =
      subst (λ (l : List Call). receives (performer_in old) l (performer_in new)) (sym (filter-append is_inert calls more))
      (join (performer_in old) (performer_in middle) (performer_in new) (filter is_inert calls) (filter is_inert more) first second)

-- what lists of calls do to it agrees with what each call means
pub receives-follows : {P : Type 0} (means : P → Call → P → Type 0) (receives : P → List Call → P → Type 0)
    → FollowsCalls means receives → FollowsCalls (HandsOn means) (ReceivesInert receives)
receives-follows means receives follows = record {
  none = receives-none receives follows.none;
  one = receives-one means receives follows.none follows.one;
  more = receives-more receives follows.more;
}
