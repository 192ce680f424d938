-- Two performers that get the same calls.
use Rattle.std.specs.Prelude.{List}
use Rattle.anstyle_parse.specs.Stream.Call.{Call}
use Rattle.anstyle_parse.specs.Stream.Texts.{FollowsCalls}
use Rattle.ansi_modes.specs.declared.both.Both.{Both}

-- each goes from what it was to what it is by what came
pub record Each {A B W : Type 0} (goes_a : A → W → A → Type 0) (goes_b : B → W → B → Type 0) (old : Both A B) (came : W) (new : Both A B)
    : Type 0 where
  pub first : goes_a old.first came new.first
  pub second : goes_b old.second came new.second

-- what lists of calls do to both agrees with what each call means
pub each-follows : {A B : Type 0} (means_a : A → Call → A → Type 0) (means_b : B → Call → B → Type 0)
    (receives_a : A → List Call → A → Type 0) (receives_b : B → List Call → B → Type 0)
    → FollowsCalls means_a receives_a → FollowsCalls means_b receives_b
    → FollowsCalls (Each means_a means_b) (Each receives_a receives_b)
each-follows means_a means_b receives_a receives_b a b = record {
  none = λ p. record { first = a.none p.first; second = b.none p.second };
  one = λ old call new is. record { first = a.one old.first call new.first is.first; second = b.one old.second call new.second is.second };
  more = λ old middle new calls more one two. record {
    first = a.more old.first middle.first new.first calls more one.first two.first;
    second = b.more old.second middle.second new.second calls more one.second two.second;
  };
}
