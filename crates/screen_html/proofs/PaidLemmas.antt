-- Texts in the links that are paid: one after another, those of a run at once; what is paid changes no style and no text.
use Rattle.std.proofs.Common.{◌≡◌, ◌≤◌, ◌<◌, ℕ, ◌+◌, ◌-◌, Bool, true, false, List, [], ◌∷◌, ◌++◌, length, refl, sym, ap, ◌∙◌, subst, arith}
use Rattle.std.specs.Prelude.{nat_lt, if◌then◌else◌}
use Rattle.std.specs.List.{AllByRecursion}
use Rattle.std.specs.Str.{bytes_eq}
use Rattle.std.proofs.lemmas.Bool.{le-leb}
use Rattle.ansi_style.specs.declared.style.Style.{Style}
use Rattle.ansi_html.specs.Affordable.{max_spare, link_cost, is_paid}
use Rattle.ansi_html.specs.Html.{after_text}
use Rattle.ansi_html.specs.Styled.{Styled, styled, each_styled, bytes_of, all_bytes}
use Rattle.ansi_html.proofs.HtmlLemmas.{bytes_eq-refl}
use Rattle.ansi_html.proofs.SoundLemmas.{IsSound, IsSound-none}
use Rattle.ansi_html.proofs.StyledLemmas.{HaveLinks}
use Rattle.ansi_html.specs.Links.{link_of}
use Rattle.ansi_screen.specs.declared.cell.Cell.{Cell}
use Rattle.ansi_screen.specs.Text.{goes_on}
use Rattle.screen_html.specs.Links.{begins, credited, spare_after}
use Rattle.screen_html.specs.Shown.{Linking, cells_styled, line_ended, row_linking}
use Rattle.screen_html.specs.Paid.{Purse, purse, purse_with, purse_behind, paid_one, paid, purse_after, links_cost}

-- where text in a link leads, by what is asked
abbrev pub with_by : Purse → List ℕ → (same has : Bool) → Purse
with_by it link same has =
    if same then purse link it.spare
    else purse (if has then link else []) (if has then it.spare - link_cost link else it.spare)

-- A link that could not be paid can't be paid again.
unpaid : (spare : ℕ) (link : List ℕ) → is_paid spare link ≡ false → purse_with (purse [] spare) link ≡ purse [] spare
unpaid spare [] lacks = refl
unpaid spare (b ∷ link) lacks = ap (λ (has : Bool). with_by (purse [] spare) (b ∷ link) false has) lacks

in_it : (spare : ℕ) (link : List ℕ) → purse_with (purse link spare) link ≡ purse link spare
in_it spare link = ap (λ (same : Bool). with_by (purse link spare) link same (is_paid spare link)) (bytes_eq-refl link)

-- More text of the same link costs nothing.
pub again : (it : Purse) (link : List ℕ) → purse_with (purse_with it link) link ≡ purse_with it link
again it link = by_case (bytes_eq it.last link) (is_paid it.spare link) refl
  where
    by_case : (same has : Bool) → is_paid it.spare link ≡ has → purse_with (with_by it link same has) link ≡ with_by it link same has
    by_case true has e = in_it it.spare link
    by_case false true e = in_it (it.spare - link_cost link) link
    by_case false false e = unpaid it.spare link e

-- texts, one after another
pub paid-append : (it : Purse) (texts more : List Styled) → paid it (texts ++ more) ≡ paid it texts ++ paid (purse_after it texts) more
paid-append it [] more = refl
paid-append it (text ∷ texts) more = ap (λ l. paid_one it text ∷ l) (paid-append (purse_behind it text) texts more)

pub purse_after-append : (it : Purse) (texts more : List Styled) → purse_after it (texts ++ more) ≡ purse_after (purse_after it texts) more
purse_after-append it [] more = refl
purse_after-append it (text ∷ texts) more = purse_after-append (purse_behind it text) texts more

-- Bytes of one style and one link are all in the link that is begun for the first, or in none.
module _ (style : Style) (link : List ℕ) where
  paid-rest : (it : Purse) (bytes : List ℕ) → purse_with it link ≡ it → paid it (each_styled style link bytes) ≡ each_styled style it.last bytes
  paid-rest it [] same = refl
  paid-rest it (b ∷ bytes) same =
      ap (λ (p : Purse). styled style p.last (b ∷ []) ∷ paid p (each_styled style link bytes)) same
      ∙ ap (λ (l : List Styled). styled style it.last (b ∷ []) ∷ l) (paid-rest it bytes same)

  after-rest : (it : Purse) (bytes : List ℕ) → purse_with it link ≡ it → purse_after it (each_styled style link bytes) ≡ it
  after-rest it [] same = refl
  after-rest it (b ∷ bytes) same = ap (λ (p : Purse). purse_after p (each_styled style link bytes)) same ∙ after-rest it bytes same

  pub paid-each : (it : Purse) (bytes : List ℕ) → 0 < length bytes
      → paid it (each_styled style link bytes) ≡ each_styled style (purse_with it link).last bytes
  paid-each it [] some = absurd (omega (arith, some))
  paid-each it (b ∷ bytes) some =
      ap (λ (l : List Styled). styled style (purse_with it link).last (b ∷ []) ∷ l) (paid-rest (purse_with it link) bytes (again it link))

  pub after-each : (it : Purse) (bytes : List ℕ) → 0 < length bytes → purse_after it (each_styled style link bytes) ≡ purse_with it link
  after-each it [] some = absurd (omega (arith, some))
  after-each it (b ∷ bytes) some = after-rest (purse_with it link) bytes (again it link)

-- Their bytes stay.
pub bytes-paid : (it : Purse) (texts : List Styled) → all_bytes (paid it texts) ≡ all_bytes texts
bytes-paid it [] = refl
bytes-paid it (text ∷ texts) = ap (λ l. text.text ++ l) (bytes-paid (purse_behind it text) texts)

pub all-paid : (Holds : List ℕ → Type 0) (it : Purse) (texts : List Styled) → AllByRecursion (λ (text : Styled). Holds (bytes_of text)) texts
    → AllByRecursion (λ (text : Styled). Holds (bytes_of text)) (paid it texts)
all-paid Holds it [] are = tt
all-paid Holds it (text ∷ texts) are = (are.0, all-paid Holds (purse_behind it text) texts are.1)

-- Each has its link, or none.
pub link-either : (Holds : List ℕ → Type 0) (it : Purse) (link : List ℕ) → Holds link → Holds [] → Holds (purse_with it link).last
link-either Holds it link its none = by_case (bytes_eq it.last link) (is_paid it.spare link)
  where
    by_case : (same has : Bool) → Holds (with_by it link same has).last
    by_case true has = its
    by_case false true = its
    by_case false false = none

pub links-paid : (it : Purse) (texts : List Styled) → HaveLinks texts → HaveLinks (paid it texts)
links-paid it [] are = tt
links-paid it (text ∷ texts) are = (of-text text.text, links-paid (purse_behind it text) texts are.1)
  where
    of-text : (bytes : List ℕ) → IsSound (after_text text.link (purse_with it text.link).last bytes)
    of-text [] = are.0
    of-text (b ∷ bytes) = link-either IsSound it text.link are.0 IsSound-none

-- Texts keep all their links where these cost no more than is spare.
abbrev cost_of : (last link : List ℕ) → ℕ
cost_of last link = if bytes_eq last link then 0 else link_cost link

whole-one : (it : Purse) (link : List ℕ) → cost_of it.last link ≤ it.spare → purse_with it link ≡ purse link (it.spare - cost_of it.last link)
whole-one it link few = by_case (bytes_eq it.last link) few
  where
    by_case : (same : Bool) → (if same then 0 else link_cost link) ≤ it.spare
        → with_by it link same (is_paid it.spare link) ≡ purse link (it.spare - (if same then 0 else link_cost link))
    by_case true less = let all : it.spare ≡ it.spare - 0 = omega arith in ap (purse link) all
    by_case false less = ap (λ (has : Bool). with_by it link false has) (le-leb (link_cost link) it.spare less)

pub paid-whole : (it : Purse) (texts : List Styled) → links_cost it.last texts ≤ it.spare → paid it texts ≡ texts
paid-whole it [] few = refl
paid-whole it (text ∷ texts) few = by_text text.text few (λ p less. paid-whole p texts less)
  where
    by_text : (bytes : List ℕ) → after_text 0 (cost_of it.last text.link) bytes + links_cost (after_text it.last text.link bytes) texts ≤ it.spare
        → ((p : Purse) → links_cost p.last texts ≤ p.spare → paid p texts ≡ texts)
        → (styled text.style (after_text text.link (purse_with it text.link).last bytes) bytes ∷ paid (after_text it (purse_with it text.link) bytes) texts)
        ≡ (styled text.style text.link bytes ∷ texts)
    by_text [] less others = ap (λ (l : List Styled). styled text.style text.link [] ∷ l) (others it (omega (arith, less)))
    by_text (b ∷ bytes) less others =
        ap (λ (p : Purse). styled text.style p.last (b ∷ bytes) ∷ paid p texts) (whole-one it text.link (omega (arith, less)))
        ∙ ap (λ (l : List Styled). styled text.style text.link (b ∷ bytes) ∷ l)
        (others (purse text.link (it.spare - cost_of it.last text.link)) (omega (arith, less)))

-- A line feed earns 100, and no command takes them.
enough-credited : (earned spare : ℕ) → 100 ≤ spare + earned → 100 ≤ credited earned spare
enough-credited earned spare few = by_case (nat_lt (spare + earned) max_spare)
  where
    by_case : (is : Bool) → 100 ≤ (if is then spare + earned else max_spare)
    by_case true = few
    by_case false = omega arith

pub enough-fed : (at : Linking) (row : List Cell) → goes_on row ≡ false → 100 ≤ (row_linking at row).spare
enough-fed at row ends =
    let it : Purse = purse_after (purse at.last at.spare) (cells_styled at.places row) in
    subst (λ (on : Bool). 100 ≤ (line_ended on it).spare) (sym ends) (enough-credited 100 it.spare (omega arith))

pub enough-told : (number : ℕ) (parts : List (List ℕ)) (spare : ℕ) → 100 ≤ spare → 100 ≤ spare_after number parts spare
unfolding spare_after
enough-told number parts spare few = by_case (begins number parts)
  where
    by_case : (is : Bool) → 100 ≤ (if is then credited (link_cost (link_of parts)) spare else spare)
    by_case true = enough-credited (link_cost (link_of parts)) spare (omega (arith, few))
    by_case false = few
