-- The calls without hidden text are a list of calls that a parser can make, and nothing of them is hidden.
use Rattle.std.proofs.Common.{◌≡◌, ℕ, Bool, true, false, List, [], ◌∷◌, ◌++◌, refl, ap, ◌∙◌}
use Rattle.std.specs.Prelude.{not, if◌then◌else◌}
use Rattle.anstyle_parse.specs.Stream.Call.{Call, print, execute, hook, put, unhook, osc_dispatch, csi_dispatch, esc_dispatch}
use Rattle.anstyle_parse.specs.Laws.Lawful.{is_character, AreLawfulFrom, AreMade}
use Rattle.anstyle_parse.proofs.Canonical.Bytes.{lawful_exactly}
use Rattle.anstyle_parse.proofs.Lawful.Calls.{lawful}
use Rattle.ansi_style.specs.declared.style.Style.{Style}
use Rattle.ansi_style.specs.Rendition.{style_after}
use Rattle.without_hidden.specs.Hidden.{without_hidden}

-- a print stays or not
print-lawful : (stays : Bool) (c : ℕ) (rest : List Call) → is_character c ≡ true → AreLawfulFrom false rest
    → AreLawfulFrom false ((if stays then print c ∷ [] else []) ++ rest)
print-lawful true c rest is more = (is, more)
print-lawful false c rest is more = more

without-lawful : (hooked : Bool) (style : Style) (calls : List Call) → AreLawfulFrom hooked calls → AreLawfulFrom hooked (without_hidden style calls)
without-lawful hooked style [] are = tt
without-lawful false style (print c ∷ calls) are =
    print-lawful (not style.hidden) c (without_hidden style calls) are.0 (without-lawful false style calls are.1)
without-lawful false style (execute b ∷ calls) are = (are.0, without-lawful false style calls are.1)
without-lawful false style (hook groups intermediates ignore final ∷ calls) are =
    (are.0, without-lawful true (style_after (hook groups intermediates ignore final) style) calls are.1)
without-lawful false style (osc_dispatch parts bell ∷ calls) are = (are.0, without-lawful false style calls are.1)
without-lawful false style (csi_dispatch groups intermediates ignore final ∷ calls) are =
    (are.0, without-lawful false (style_after (csi_dispatch groups intermediates ignore final) style) calls are.1)
without-lawful false style (esc_dispatch intermediates ignore final ∷ calls) are =
    (are.0, without-lawful false (style_after (esc_dispatch intermediates ignore final) style) calls are.1)
without-lawful true style (put b ∷ calls) are = (are.0, without-lawful true style calls are.1)
without-lawful true style (unhook ∷ calls) are = without-lawful false style calls are
without-lawful false style (put b ∷ calls) are = absurd are
without-lawful false style (unhook ∷ calls) are = absurd are
without-lawful true style (print c ∷ calls) are = absurd are
without-lawful true style (execute b ∷ calls) are = absurd are
without-lawful true style (hook groups intermediates ignore final ∷ calls) are = absurd are
without-lawful true style (osc_dispatch parts bell ∷ calls) are = absurd are
without-lawful true style (csi_dispatch groups intermediates ignore final ∷ calls) are = absurd are
without-lawful true style (esc_dispatch intermediates ignore final ∷ calls) are = absurd are

pub without-made : (style : Style) (calls : List Call) → AreMade calls → AreMade (without_hidden style calls)
without-made style calls made =
    (lawful_exactly (without_hidden style calls)).0 (without-lawful false style calls (lawful made.0 calls made.2))

-- what stays stays again
pub without-twice : (style : Style) (calls : List Call) → without_hidden style (without_hidden style calls) ≡ without_hidden style calls
without-twice style [] = refl
without-twice style (print c ∷ calls) = by style.hidden refl (without-twice style calls)
  where
    by : (hidden : Bool) → style.hidden ≡ hidden → without_hidden style (without_hidden style calls) ≡ without_hidden style calls
        → without_hidden style ((if not hidden then print c ∷ [] else []) ++ without_hidden style calls)
        ≡ (if not hidden then print c ∷ [] else []) ++ without_hidden style calls
    by true is rest = rest
    by false is rest =
        ap (λ (t : Bool). (if not t then print c ∷ [] else []) ++ without_hidden style (without_hidden style calls)) is
        ∙ ap (λ (l : List Call). print c ∷ l) rest
without-twice style (execute b ∷ calls) = ap (λ (l : List Call). execute b ∷ l) (without-twice style calls)
without-twice style (hook groups intermediates ignore final ∷ calls) =
    let call = hook groups intermediates ignore final in
    ap (λ (l : List Call). call ∷ l) (without-twice (style_after call style) calls)
without-twice style (put b ∷ calls) = ap (λ (l : List Call). put b ∷ l) (without-twice style calls)
without-twice style (unhook ∷ calls) = ap (λ (l : List Call). unhook ∷ l) (without-twice style calls)
without-twice style (osc_dispatch parts bell ∷ calls) = ap (λ (l : List Call). osc_dispatch parts bell ∷ l) (without-twice style calls)
without-twice style (csi_dispatch groups intermediates ignore final ∷ calls) =
    let call = csi_dispatch groups intermediates ignore final in
    ap (λ (l : List Call). call ∷ l) (without-twice (style_after call style) calls)
without-twice style (esc_dispatch intermediates ignore final ∷ calls) =
    let call = esc_dispatch intermediates ignore final in
    ap (λ (l : List Call). call ∷ l) (without-twice (style_after call style) calls)
