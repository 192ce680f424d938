-- The division of bytes in two parts: what is whole after the first, and how the second goes on.
use Rattle.std.proofs.Common.{◌≡◌, ℕ, List, [], ◌∷◌, ◌++◌, refl, sym, ap, ◌∙◌, append_assoc}
use Rattle.anstyle_parse.proofs.Division.Grow.{Open, grow, divide, open_after, done_items, last_items}

-- the items that are whole, then the one that is open at the end
pub divide-split : (o : Open) (bytes : List ℕ) → divide o bytes ≡ done_items o bytes ++ last_items (open_after o bytes)
divide-split o [] = refl
divide-split o (b ∷ bytes) =
    ap (λ items. (grow o b).items ++ items) (divide-split (grow o b).next bytes)
    ∙ sym (append_assoc (grow o b).items (done_items (grow o b).next bytes) (last_items (open_after (grow o b).next bytes)))

-- what is open after two parts
pub open_after-append : (o : Open) (a b : List ℕ) → open_after o (a ++ b) ≡ open_after (open_after o a) b
open_after-append o [] b = refl
open_after-append o (x ∷ a) b = open_after-append (grow o x).next a b

-- the whole items of two parts
pub done_items-append : (o : Open) (a b : List ℕ) → done_items o (a ++ b) ≡ done_items o a ++ done_items (open_after o a) b
done_items-append o [] b = refl
done_items-append o (x ∷ a) b =
    ap (λ items. (grow o x).items ++ items) (done_items-append (grow o x).next a b)
    ∙ sym (append_assoc (grow o x).items (done_items (grow o x).next a) (done_items (open_after (grow o x).next a) b))

-- the items of the first part, and the division of the second after what is open there
pub divide-append : (o : Open) (a b : List ℕ) → divide o (a ++ b) ≡ done_items o a ++ divide (open_after o a) b
divide-append o [] b = refl
divide-append o (x ∷ a) b =
    ap (λ items. (grow o x).items ++ items) (divide-append (grow o x).next a b)
    ∙ sym (append_assoc (grow o x).items (done_items (grow o x).next a) (divide (open_after (grow o x).next a) b))
